pub use Rattle.nob_model_chains.specs.Faults
pub mod Running
pub mod Accepting
