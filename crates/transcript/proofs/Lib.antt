-- The crate's laws, in reading order.
pub mod Serving
pub mod Far
pub mod Pieces
pub mod Whole
pub mod Guarding
pub mod Claims
