-- The crate's definitions, in reading order.
pub mod Reading
pub mod Comparing
pub mod Stating
