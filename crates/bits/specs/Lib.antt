-- The crate's definitions, in reading order.
pub mod Words
pub mod Sets
