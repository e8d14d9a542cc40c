pub mod Hearings
pub mod Recalling
pub mod Forgetting
pub mod Dues
