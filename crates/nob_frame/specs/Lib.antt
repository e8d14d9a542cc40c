pub mod Kinds
pub mod Versions
pub mod Spelling
pub mod Reading
pub mod Streams
pub mod Laws
pub use Rattle.nob_ids.specs.Names
pub use Rattle.byteorder.specs.Endian
