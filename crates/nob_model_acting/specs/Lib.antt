pub mod Sending
pub mod Acting
pub mod Candidates
