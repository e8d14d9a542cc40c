pub mod Keys
pub mod Exporting
pub mod Counting
pub mod Settling
pub mod Turned
pub mod Copies
pub mod Sessions
pub mod Answering
