pub mod Crossing
pub mod JobsCrossing
mod Placing
