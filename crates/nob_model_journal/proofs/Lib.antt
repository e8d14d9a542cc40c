pub mod Sameness
pub mod Looking
pub mod Keeping
