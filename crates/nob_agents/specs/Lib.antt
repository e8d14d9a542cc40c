pub use Rattle.nob_keeper.specs.Receipt
pub use Rattle.nob_keeper.specs.Seats
pub mod Taking
pub mod Caring
pub mod Ways
pub mod Sending
pub mod Pauses
pub mod Probing
