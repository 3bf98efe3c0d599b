-- The crate's definitions, in reading order.
pub mod Blocks
pub mod Claims
