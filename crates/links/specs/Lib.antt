-- The crate's definitions, in reading order.
pub mod Links
