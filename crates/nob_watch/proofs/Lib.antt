pub mod Typed
pub mod Peers
pub mod Spaces
pub mod Reruns
pub mod Watches
