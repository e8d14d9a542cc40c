-- What stands in frames, and which are among others.
use Rattle.std.specs.Prelude.{ℕ, ◌≡◌, Bool, ◌&&◌, ◌==◌, List, [], ◌∷◌, ◌++◌, map, if◌then◌else◌}
use Rattle.std.specs.List.{list_any}
use Rattle.std.specs.Str.{bytes_eq}
use Rattle.nob_frame.specs.Kinds.{kind_number}
use Rattle.nob_frame.specs.declared.frame.Frame.{Frame}
use Rattle.nob_check.specs.declared.mark.Mark.{Mark}

-- all that stands in a frame, the byte that stands for its kind in the kind's place
pub record Sign : Type 0 where
  pub kind : ℕ
  pub from : ℕ
  pub to : ℕ
  pub session : ℕ
  pub seq : ℕ
  pub ack : ℕ
  pub payload : List ℕ

-- what stands in a frame
abbrev pub sign_of : Frame → Sign
sign_of frame = record { kind = kind_number frame.kind; from = frame.from; to = frame.to; session = frame.session; seq = frame.seq; ack = frame.ack; payload = frame.payload }

-- what stands in a mark
abbrev pub sign_in : Mark → Sign
sign_in mark = record { kind = mark.kind; from = mark.from; to = mark.to; session = mark.session; seq = mark.seq; ack = mark.ack; payload = mark.payload.items }

-- whether the same stands in two frames
abbrev pub is_same_sign : Sign → Sign → Bool
is_same_sign a b = a.kind == b.kind && (a.from == b.from && (a.to == b.to && (a.session == b.session && (a.seq == b.seq && (a.ack == b.ack && bytes_eq a.payload b.payload)))))

-- whether it is among others
abbrev pub is_among : Sign → List Sign → Bool
is_among sign signs = list_any (is_same_sign sign) signs

-- these with one more, unless it is among them
abbrev pub with_sign : Sign → List Sign → List Sign
with_sign sign signs = if is_among sign signs then signs else signs ++ sign ∷ []

-- these stand in exactly these frames
abbrev pub AreOf : List Frame → List Sign → Type 0
AreOf frames signs = (frame : Frame) → is_among (sign_of frame) signs ≡ is_among (sign_of frame) (map sign_of frames)
