pub use Rattle.nob_keeper.specs.KeeperError
pub mod Faults
pub mod Shelves
pub mod Ends
pub mod Telling
pub mod Steps
mod Closings
pub mod Working
pub mod Dispatching
pub mod Stakes
pub mod Serving
pub mod Assigning
pub mod Sides
