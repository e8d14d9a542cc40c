pub mod Raising
pub mod Across
pub mod Lives
pub mod Runs
pub mod Fresh
pub mod Cases
