pub mod Verdicts
pub mod Worlds
pub mod Scripts
