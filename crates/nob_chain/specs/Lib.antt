pub mod Seals
pub mod Chains
pub mod Reading
pub mod Openings
pub mod Writing
pub mod Laws
pub mod Inputs
pub mod Faults
