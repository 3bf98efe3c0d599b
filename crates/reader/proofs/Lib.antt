-- The crate's laws, in reading order.
pub mod Stepping
pub mod Values
pub mod Words
pub mod Resume
pub mod Shown
pub mod Short
pub mod Fresh
pub mod Claims
