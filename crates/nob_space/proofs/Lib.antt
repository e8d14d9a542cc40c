pub mod Places
pub mod Acted
pub mod Owners
pub mod Coming
pub mod Beginning
pub mod Counted
