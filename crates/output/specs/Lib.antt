-- The crate's definitions, in reading order.
pub mod Text
pub mod Claims
