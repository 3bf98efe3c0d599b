-- The crate's laws, in reading order.
pub mod Above
pub mod Roles
pub mod Rows
pub mod Behind
pub mod Reading
pub mod Writing
pub mod Accepting
pub mod Shown
pub mod Claims
pub mod Beginning
