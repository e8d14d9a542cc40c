pub mod Points
pub mod Listed
