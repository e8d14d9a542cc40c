pub mod Numbered
pub mod Stamped
