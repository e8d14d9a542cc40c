pub mod Crossing
pub mod Blanks
pub mod Desks
pub mod Marked
