pub use Rattle.nob_space_state.specs.Dues
pub use Rattle.nob_space_state.specs.contracts.parts.Parts
pub mod Spaces
pub mod Steps
pub mod Events
pub mod Twice
pub mod Births
pub mod Counts
