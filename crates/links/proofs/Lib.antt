-- The crate's laws, in reading order.
pub mod Links
