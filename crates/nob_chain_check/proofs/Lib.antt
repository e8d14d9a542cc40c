pub mod Peers
pub mod Answering
pub mod Passing
pub mod Accepting
