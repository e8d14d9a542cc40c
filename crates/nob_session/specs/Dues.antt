-- What a transmit would give, in a word.
use Rattle.std.specs.Prelude.{ℕ, nat_lt, List, [], ◌∷◌, if◌then◌else◌}
use Rattle.nob_frame.specs.declared.frame.Frame.{Frame}
use Rattle.nob_frame.specs.Kinds.{is_ack, is_close}
use Rattle.nob_model_session.specs.End.{greatest_seq}
use Rattle.nob_session.specs.declared.due.Due.{Due}
use Rattle.nob_session.specs.declared.due.Due.TheVariants.{Nothing, Ack, Again, New, Close}

-- what items up to a last one are, where the highest number given before is known
abbrev pub due_up_to : (transmitted last : ℕ) → Due
due_up_to transmitted last = if nat_lt transmitted last then New else Again

-- what these frames are, where the highest number given before is known: new items have a greater one
abbrev pub due_of : ℕ → List Frame → Due
due_of transmitted [] = Nothing
due_of transmitted (frame ∷ frames) =
    if is_close frame.kind then Close
    else (if is_ack frame.kind then Ack
    else due_up_to transmitted (greatest_seq (frame ∷ frames)))
