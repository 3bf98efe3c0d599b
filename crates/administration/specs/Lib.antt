-- The crate's definitions.
pub mod Administration
