-- The crate's definitions, in reading order.
pub mod Label
pub mod Number
pub mod Machine
pub mod Wall
pub mod Claims
