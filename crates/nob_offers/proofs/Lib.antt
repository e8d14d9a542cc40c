pub mod Bells
pub mod Lists
pub mod Offers
mod Retries
pub mod Turns
