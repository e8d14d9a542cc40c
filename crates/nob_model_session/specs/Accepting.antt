-- What an arrival that accepted items had found: a premise of the laws of lists of calls. The newest call stands first.
use Rattle.std.specs.Prelude.{◌≡◌, ℕ, ◌+◌, ◌<◌, true, List, [], ◌∷◌, IsSome, Ok}
use Rattle.nob_model_session.specs.declared.entry.Arrived.TheVariants as arrived
use Rattle.nob_model_session.specs.declared.entry.EndEntry.{EndEntry}
use Rattle.nob_model_session.specs.declared.entry.EndEntry.TheVariants.{Arrive}
use Rattle.nob_model_session.specs.End.{is_present, payload, accepted_count}

-- a payload had come, at the latest with this call, for each of the numbers that a frame of the present session made accepted
abbrev pub AcceptsWhatCame : EndEntry → List EndEntry → Type 0
AcceptsWhatCame (Arrive frame (Ok (arrived.Took k))) L = is_present frame L ≡ true → (i : ℕ) → i < k → IsSome (payload (accepted_count L + 1 + i) (Arrive frame (Ok (arrived.Took k)) ∷ L))
AcceptsWhatCame (_) L = Unit {0}

-- so did each call of the list
abbrev pub AllCame : List EndEntry → Type 0
AllCame [] = Unit {0}
AllCame (entry ∷ L) = AcceptsWhatCame entry L × AllCame L
