pub mod Written
pub mod Parting
pub mod Read
pub mod HexTexts
pub mod LineTexts
pub mod Ahead
