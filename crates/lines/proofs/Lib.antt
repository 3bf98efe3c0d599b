-- The crate's laws, in reading order.
pub mod Going
pub mod Claims
