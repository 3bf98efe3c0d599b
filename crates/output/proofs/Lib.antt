-- The crate's laws, in reading order.
pub mod Writing
pub mod Counting
pub mod Reading
pub mod Claims
