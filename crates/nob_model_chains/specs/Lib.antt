pub mod Sealing
pub mod Parts
pub mod Faults
pub mod Lowest
