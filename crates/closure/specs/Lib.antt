-- The crate's definitions, in reading order.
pub mod Closure
pub mod Claims
