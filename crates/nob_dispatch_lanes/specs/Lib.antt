pub mod Balance
pub mod Ends
pub mod Lanes
