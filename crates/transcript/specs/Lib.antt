-- The crate's definitions, in reading order.
pub mod Stream
pub mod Document
pub mod Claims
