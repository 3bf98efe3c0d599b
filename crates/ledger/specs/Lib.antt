-- The crate's definitions, in reading order.
pub mod Store
pub mod Ledger
pub mod Step
pub mod Claims
