pub mod Worlds
pub mod Typed
pub mod Safe
