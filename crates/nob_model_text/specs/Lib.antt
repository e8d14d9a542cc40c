pub mod Values
pub mod Fronts
pub mod Reading
pub mod Events
pub mod Answers
pub mod Bytes
pub mod Lines
