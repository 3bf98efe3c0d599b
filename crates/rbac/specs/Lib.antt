-- The crate's definitions, in reading order.
pub mod Roles
pub mod Guard
pub mod Source
pub mod Claims
pub mod Seniority
pub mod Served
