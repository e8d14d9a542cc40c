pub mod Ends
pub mod Makings
pub mod Scripts
