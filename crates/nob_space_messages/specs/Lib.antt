pub mod Messages
pub mod Waiting
pub mod Jobs
pub mod Lines
pub mod Copies
pub mod Lanes
pub mod InLine
pub mod Rows
