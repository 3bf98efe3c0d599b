-- The crate's definitions, in reading order.
pub mod Likeness
pub mod Claims
