-- The crate's definitions, in reading order.
pub mod Tally
pub mod Charge
pub mod Statement
pub mod Claims
