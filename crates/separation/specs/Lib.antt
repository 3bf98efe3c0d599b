-- The crate's definitions.
pub mod Answers
