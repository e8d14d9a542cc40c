pub mod Frames
pub mod Arriving
pub mod Standing
pub mod Quiet
pub mod Held
pub mod Changing
pub mod Stepping
mod Newest
pub mod Passed
