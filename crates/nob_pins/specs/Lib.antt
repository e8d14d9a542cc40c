pub use Rattle.nob_ids.specs.Names
pub mod Evidence
pub mod Bundles
pub mod Peers
