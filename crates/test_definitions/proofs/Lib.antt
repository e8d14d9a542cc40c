pub mod Lists
pub mod Judging
pub mod Playing
pub mod Entering
pub mod Choosing
