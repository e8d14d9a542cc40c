pub use Rattle.nob_ids.specs.Names
pub mod Counts
pub mod Objects
pub mod Order
pub mod Standings
