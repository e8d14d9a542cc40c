pub mod Loaning
pub mod Kept
pub mod Sending
pub mod Acting
pub mod Usable
pub mod Keeping
pub mod Quiet
