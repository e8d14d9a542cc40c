pub mod Found
pub mod Fresh
pub mod Keyed
pub mod Kept
pub mod Lent
pub mod Seen
pub mod Writes
