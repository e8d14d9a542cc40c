-- Frames on their way, as bytes.
use Rattle.std.specs.Prelude.{ℕ, List}
use Rattle.nob_frame.specs.declared.frame.Frame.{Frame}
use Rattle.nob_frame.specs.declared.version.Version.TheVariants.{Two}
use Rattle.nob_frame.specs.Spelling.{Spelt}

-- the bytes spell a frame, in version 2
abbrev pub IsSpelling : List ℕ → Type 0
IsSpelling bytes = (frame : Frame) × Spelt Two bytes frame
