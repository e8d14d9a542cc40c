pub mod Steps
pub mod Sealed
pub mod Laws
