-- The crate's laws, in reading order.
pub mod Listing
pub mod Lifting
pub mod Spending
pub mod Lattice
pub mod Claims
pub mod Showing
pub mod Contents
