mod Steps
pub mod Together
mod Whole
