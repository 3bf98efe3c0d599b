-- The crate's definitions, in reading order.
pub mod Answers
pub mod Gathered
