-- The crate's definitions, in reading order.
pub mod Request
pub mod Answer
