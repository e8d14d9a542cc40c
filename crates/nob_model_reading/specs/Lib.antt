pub mod Spoken
pub mod Told
pub mod Scripts
