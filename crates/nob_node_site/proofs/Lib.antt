pub mod Crossing
mod Unused
