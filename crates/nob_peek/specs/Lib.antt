pub mod Walking
pub mod Seeing
