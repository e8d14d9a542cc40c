pub mod Choices
pub mod Numbers
pub mod Fronts
pub mod Notes
pub mod Whole
