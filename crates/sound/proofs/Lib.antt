-- The crate's laws, in reading order.
pub mod Items
pub mod Grants
pub mod Masks
pub mod Answers
pub mod Parts
