-- The crate's laws, in reading order.
pub mod State
pub mod Seniority
pub mod Separation
pub mod Masks
pub mod Sound
pub mod Claims
pub mod Agree
pub mod Keeps
pub mod Table
pub mod Encode
pub mod Answers
pub mod Written
pub mod Gathering
pub mod Overlaying
