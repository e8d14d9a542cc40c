pub mod Options
pub mod Scenes
pub mod Words
pub mod Counters
pub mod Shares
pub mod Scores
pub mod Lines
pub mod Endings
