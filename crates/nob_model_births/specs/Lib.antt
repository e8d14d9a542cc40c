pub use Rattle.nob_model_lives.specs.Births
pub mod Reached
