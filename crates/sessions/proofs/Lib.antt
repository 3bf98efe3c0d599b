-- The crate's laws.
pub mod Sessions
