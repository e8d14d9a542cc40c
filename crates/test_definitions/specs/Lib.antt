pub mod Verdicts
pub mod Journals
pub mod Outputs
