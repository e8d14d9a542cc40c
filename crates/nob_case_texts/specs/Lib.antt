pub mod Reading
pub mod Words
pub mod Values
pub mod Answers
