pub mod Choosing
pub mod Passing
pub mod AsTraces
pub mod Faulting
