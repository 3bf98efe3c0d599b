-- The crate's laws, in reading order.
pub mod Order
pub mod Seats
pub mod Steps
pub mod Tracing
pub mod Wall
pub mod Claims
