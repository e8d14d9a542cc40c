pub mod Passed
pub mod Counted
