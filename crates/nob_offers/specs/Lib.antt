pub mod Bells
pub mod Offers
pub mod Retries
