pub mod Marks
pub mod Bars
pub mod Flights
pub mod Steps
pub mod Passing
pub mod Laws
