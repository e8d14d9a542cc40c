pub mod Listed
pub mod Membership
