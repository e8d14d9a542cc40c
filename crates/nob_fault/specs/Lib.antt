pub mod Table
pub mod Shims
pub mod Words
pub mod Laws
