-- The crate's laws, in reading order.
pub mod Gathering
pub mod Joined
pub mod Masks
pub mod Refreshing
