pub use Rattle.nob_recall.specs.Next
pub use Rattle.nob_recall.specs.Orders
pub mod Sealing
pub mod Members
pub mod Reruns
pub mod Watches
