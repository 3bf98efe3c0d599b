-- The crate's laws, in reading order.
pub mod Fresh
pub mod SetUp
pub mod Claims
