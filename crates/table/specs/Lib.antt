-- The crate's definitions, in reading order.
pub mod State
pub mod Authority
pub mod Seniority
pub mod Separation
pub mod Changes
pub mod Masks
pub mod Sound
pub mod Claims
pub mod Table
pub mod Reading
pub mod Answers
