pub mod Results
pub mod Masks
pub mod Copied
pub mod Steps
pub mod Values
