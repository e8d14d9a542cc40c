pub mod Flat
pub mod Keys
pub mod Made
pub mod Marked
pub mod Parted
pub mod Rising
pub mod Same
pub mod LiveRows
