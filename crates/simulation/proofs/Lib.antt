-- The crate's laws, in reading order.
pub mod Deciding
pub mod Changing
pub mod Single
pub mod Reclearing
pub mod Simulation
pub mod Unchanged
pub mod Demand
pub mod Toward
pub mod Reaching
pub mod Reachable
pub mod Listing
pub mod Running
