-- The crate's laws, in reading order.
pub mod Carrying
pub mod Making
pub mod Replying
pub mod Refusing
pub mod Same
pub mod Claims
