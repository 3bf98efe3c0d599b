-- The crate's definitions, in reading order.
pub mod Image
pub mod SetUp
pub mod Test
pub mod Claims
