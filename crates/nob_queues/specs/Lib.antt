pub mod Queues
pub mod Keys
pub mod Lends
