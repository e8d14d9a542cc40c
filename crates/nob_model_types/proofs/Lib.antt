pub mod Lists
pub mod Mapped
