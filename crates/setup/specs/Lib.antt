-- The crate's definitions, in reading order.
pub mod SetUp
pub mod Claims
