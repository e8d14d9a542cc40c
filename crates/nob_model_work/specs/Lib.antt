pub use Rattle.nob_ids.specs.Names
pub use Rattle.nob_model_types.specs.Deeds
pub use Rattle.nob_model_types.specs.Sessions
pub use Rattle.nob_model_types.specs.Objects
pub use Rattle.nob_model_types.specs.Turns
pub use Rattle.nob_model_types.specs.Messages
pub mod Work
pub mod Gifts
