-- The crate's laws, in reading order.
pub mod Opening
pub mod Counting
pub mod Rounding
pub mod Stating
pub mod Claims
