-- The crate's laws, in reading order.
pub mod Sets
pub mod Parts
