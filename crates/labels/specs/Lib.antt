-- The crate's definitions, in reading order.
pub mod Guard
pub mod Reply
pub mod Claims
