pub mod Leads
pub mod Words
pub mod Trips
pub mod Reached
