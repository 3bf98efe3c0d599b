-- The crate's laws, in reading order.
pub mod Closure
pub mod Claims
pub mod Links
pub mod Fixed
