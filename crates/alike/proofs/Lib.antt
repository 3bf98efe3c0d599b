-- The crate's laws, in reading order.
pub mod Likeness
pub mod Claims
pub mod Opening
pub mod Apart
