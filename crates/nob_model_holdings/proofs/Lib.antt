pub mod Lists
pub mod Typing
pub mod Hands
pub mod Holding
pub mod Granted
pub mod Holdings
pub mod Alive
pub mod Receivers
