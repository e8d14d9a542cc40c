pub mod Counting
pub mod Rows
pub mod Items
pub mod Callers
