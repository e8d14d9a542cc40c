pub mod Glosses
pub mod Titles
pub mod Words
pub mod Layout
pub mod Writing
