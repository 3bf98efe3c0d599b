-- The crate's laws.
pub mod Places
