pub mod Rounds
pub mod Endings
pub mod Notes
pub mod Sessions
pub mod Choices
pub mod Shown
pub mod Row
