-- The crate's laws, in reading order.
pub mod Outcome
pub mod Arguments
pub mod Refusals
