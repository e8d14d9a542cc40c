pub use Rattle.nob_demo_scripts.specs.PairScripts
pub use Rattle.nob_demo_spaces.specs.Words
pub mod Program
pub mod Checks
pub mod Judging
pub mod Draws
