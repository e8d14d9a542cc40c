pub mod Fed
pub mod Crossing
pub mod Ended
mod Pacing
mod Probed
