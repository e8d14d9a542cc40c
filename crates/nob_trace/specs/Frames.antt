-- The one spelling of frames in traces of a version.
use Rattle.std.specs.Prelude.{ℕ, List, [], ◌∷◌, ◌++◌, codes}
use Rattle.hex.specs.Hex.{encode_lower, IsBytes}
use Rattle.nob_frame.specs.declared.frame.Frame.{Frame}
use Rattle.nob_frame.specs.declared.version.Version.{Version}
use Rattle.nob_frame.specs.Spelling.{Fits, spelling}

-- a frame: the bytes that spell it
abbrev pub frame_text : Version → Frame → List ℕ
frame_text version frame = encode_lower (spelling version frame)

-- frames one after the other, each behind a space
abbrev pub spaced_text : Version → List Frame → List ℕ
spaced_text version [] = []
spaced_text version (frame ∷ frames) = 32 ∷ (frame_text version frame ++ spaced_text version frames)

-- the frames of a transmit
abbrev pub frames_text : Version → List Frame → List ℕ
frames_text version [] = codes "frames none"
frames_text version (frame ∷ frames) = codes "frames" ++ spaced_text version (frame ∷ frames)

-- a frame that bytes can spell, and whose payload is bytes
abbrev pub IsFramed : Version → Frame → Type 0
IsFramed version frame = Fits version frame × IsBytes frame.payload
