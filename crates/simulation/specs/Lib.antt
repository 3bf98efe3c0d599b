-- The crate's definitions, in reading order.
pub mod Demand
pub mod Run
pub mod Claims
