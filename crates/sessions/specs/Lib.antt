-- The crate's definitions.
pub mod Sessions
