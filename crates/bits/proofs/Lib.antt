-- The crate's laws, in reading order.
pub mod Truth
pub mod Below
pub mod Word
pub mod Membership
pub mod Walk
pub mod Counting
pub mod Tabulate
pub mod Chains
pub mod Upd
