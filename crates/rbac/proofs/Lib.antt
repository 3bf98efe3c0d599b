-- The crate's laws, in reading order.
pub mod Serving
pub mod Masks
pub mod Codes
pub mod Guarding
pub mod Same
pub mod Keeping
pub mod Steps
pub mod Requests
pub mod Playing
pub mod Claims
pub mod Seniority
