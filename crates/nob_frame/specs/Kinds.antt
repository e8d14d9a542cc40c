-- The kinds of frames: tests, and the bytes that stand for them.
use Rattle.std.specs.Prelude.{ℕ, ◌==◌, Bool, true, false, Option, Some, None, if◌then◌else◌}
use Rattle.nob_frame.specs.declared.frame.FrameKind.{FrameKind}
use Rattle.nob_frame.specs.declared.frame.FrameKind.TheVariants.{Data, Ack, Close}

-- whether a frame of this kind carries an item
abbrev pub is_data : FrameKind → Bool
is_data Data = true
is_data Ack = false
is_data Close = false

-- whether a frame of this kind carries an acknowledgement alone
abbrev pub is_ack : FrameKind → Bool
is_ack Data = false
is_ack Ack = true
is_ack Close = false

-- whether a frame of this kind says that its sender has closed
abbrev pub is_close : FrameKind → Bool
is_close Data = false
is_close Ack = false
is_close Close = true

-- the byte that stands for a kind
abbrev pub kind_number : FrameKind → ℕ
kind_number Data = 1
kind_number Ack = 2
kind_number Close = 3

-- the kind that a byte stands for
abbrev pub kind_of : ℕ → Option FrameKind
kind_of number = if number == 1 then Some Data else if number == 2 then Some Ack else if number == 3 then Some Close else None
