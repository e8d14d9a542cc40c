pub mod Codec
pub mod Fronts
pub mod Splitting
pub mod Runs
pub mod Pushing
