mod Placed
mod Turned
pub mod Both
