pub mod TextLists
pub mod Arriving
pub mod Sessions
pub mod Fronts
