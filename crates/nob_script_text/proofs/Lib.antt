pub mod Numbers
pub mod Playing
