pub mod Crossing
mod Laid
