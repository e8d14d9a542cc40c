pub use Rattle.nob_model.specs.Right
pub use Rattle.nob_model.specs.Lists
pub mod Raised
pub mod Alike
