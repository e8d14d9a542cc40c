pub mod Known
pub mod Endings
pub mod WrittenChecks
pub mod WrittenDrawings
pub mod Judged
