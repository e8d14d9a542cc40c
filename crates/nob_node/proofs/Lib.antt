pub mod Crossing
mod Asked
mod Hands
mod Holdings
mod Shelved
