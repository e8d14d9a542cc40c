-- What a Transmit would give, in a word.
use Rattle.std.specs.Prelude.{ℕ, if◌then◌else◌}
use Rattle.nob_model_session.specs.End.{transmitted}
use Rattle.nob_model_session.specs.Right.{right_transmit}
use Rattle.nob_session.specs.declared.due.Due.{Due}
use Rattle.nob_session.specs.declared.due.Due.TheVariants.{Nothing}
use Rattle.nob_session.specs.Dues.{due_of}
use Rattle.nob_model_types.specs.Sessions.{is_peer}
use Rattle.nob_model_history.specs.declared.history.History.{History}
use Rattle.nob_model_history.specs.Ends.{calls_at}

-- what a Transmit to p would give: nothing where p is no peer
abbrev pub due : (s n p window : ℕ) → History → Due
due s n p window h = if is_peer s n p then due_of (transmitted (calls_at p h)) (right_transmit s p window (calls_at p h)) else Nothing
