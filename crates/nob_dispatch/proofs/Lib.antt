pub mod Follows
pub mod Givings
pub mod Crossing
pub mod Placing
pub mod Returns
pub mod Ties
