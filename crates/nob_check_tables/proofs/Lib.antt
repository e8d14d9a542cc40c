pub mod Looking
pub mod Sessions
pub mod Turning
