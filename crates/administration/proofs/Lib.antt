-- The crate's laws.
pub mod Administration
