pub mod Taken
pub mod Small
pub mod Firsts
pub mod Staged
