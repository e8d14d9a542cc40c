pub mod Naming
pub mod Lives
pub mod Turns
pub mod Choices
pub mod Plans
pub mod Laws
