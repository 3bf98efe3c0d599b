-- The crate's definitions, in reading order.
pub mod Bytes
pub mod Line
pub mod Reader
pub mod Claims
