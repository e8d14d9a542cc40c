pub mod Flat
pub mod Held
pub mod Live
pub mod Marking
pub mod Numbering
pub mod Parted
pub mod Placed
pub mod Rising
pub mod Swept
pub mod Thinned
pub mod Trimmed
mod Bits
pub mod KeptNumbers
pub mod Once
