-- Two ends of the sessions of a pair: the runs of the pair, and what becomes of the items of each session. The newest call stands first.
use Rattle.std.specs.Prelude.{◌≡◌, ℕ, ◌+◌, ◌-◌, ◌≤◌, IsTrue, List, [], ◌∷◌, ◌++◌, length, Option, Some, None, Ok, option_to_list, Contains}
use Rattle.std.specs.List.{slice_get}
use Rattle.std.specs.Option.{option_or}
use Rattle.nob_ids.specs.declared.limits.Limits.{Limits}
use Rattle.nob_frame.specs.declared.frame.Frame.{Frame}
use Rattle.nob_model_session.specs.declared.entry.EndEntry.{EndEntry}
use Rattle.nob_model_session.specs.declared.entry.EndEntry.TheVariants.{Send, Transmit, Arrive, Front, Take, Reopen}
use Rattle.nob_model_session.specs.declared.entry.PairEntry.{PairEntry}
use Rattle.nob_model_session.specs.declared.entry.PairEntry.TheVariants.{First, Second}
use Rattle.nob_model_session.specs.End.{up_to, is_open, handed, lowest, payload, accepted, transmitted}
use Rattle.nob_model_session.specs.Right.{right_front, IsRight}

-- the calls on the first end
abbrev pub first_calls : List PairEntry → List EndEntry
first_calls [] = []
first_calls (First entry ∷ J) = entry ∷ first_calls J
first_calls (Second entry ∷ J) = first_calls J

-- the calls on the second end
abbrev pub second_calls : List PairEntry → List EndEntry
second_calls [] = []
second_calls (First entry ∷ J) = second_calls J
second_calls (Second entry ∷ J) = entry ∷ second_calls J

-- all frames that the transmits of an end gave, of all its sessions, the first first
abbrev pub transmitted_frames : List EndEntry → List Frame
transmitted_frames [] = []
transmitted_frames (Transmit frames ∷ L) = transmitted_frames L ++ frames
transmitted_frames (_ ∷ L) = transmitted_frames L

-- a frame that arrives is one of these
abbrev pub ArrivesFrom : List Frame → EndEntry → Type 0
ArrivesFrom frames (Arrive frame answer) = Contains frames frame
ArrivesFrom frames (_) = Unit {0}

-- a run of two ends: each answer is right after the calls of that end before, and each arriving frame was transmitted by the other end before
abbrev pub PairRun : (a b : ℕ) → (at_a at_b : Limits) → List PairEntry → Type 0
PairRun a b at_a at_b [] = Unit {0}
PairRun a b at_a at_b (First entry ∷ J) = PairRun a b at_a at_b J × IsRight a b at_a entry (first_calls J) × ArrivesFrom (transmitted_frames (second_calls J)) entry
PairRun a b at_a at_b (Second entry ∷ J) = PairRun a b at_a at_b J × IsRight b a at_b entry (second_calls J) × ArrivesFrom (transmitted_frames (first_calls J)) entry

-- the items that `send` took in this session, each with the number that it told, the first first
abbrev pub handed_items : List EndEntry → List (ℕ × List ℕ)
handed_items [] = []
handed_items (Reopen k (Ok done) ∷ L) = []
handed_items (Send payload kind (Ok n) ∷ L) = handed_items L ++ (n, payload) ∷ []
handed_items (_ ∷ L) = handed_items L

-- the item that `front` told last, with its number, if nothing was taken since
abbrev pub told_item : List EndEntry → Option (ℕ × List ℕ)
told_item [] = None
told_item (Reopen k (Ok done) ∷ L) = None
told_item (Front answer ∷ L) = answer
told_item (Take ∷ L) = None
told_item (_ ∷ L) = told_item L

-- the items taken at an end in this session, the first first, each with the number that `front` told before; where it told none, the first that waits
abbrev pub taken_items : List EndEntry → List (ℕ × List ℕ)
taken_items [] = []
taken_items (Reopen k (Ok done) ∷ L) = []
taken_items (Take ∷ L) = taken_items L ++ option_to_list (option_or (told_item L) (right_front L))
taken_items (_ ∷ L) = taken_items L

-- payloads with their numbers, from n on
abbrev pub with_numbers : ℕ → List (List ℕ) → List (ℕ × List ℕ)
with_numbers n [] = []
with_numbers n (payload ∷ payloads) = (n, payload) ∷ with_numbers (n + 1) payloads

-- xs is a beginning of ys
abbrev pub IsBeginning : {A : Type 0} → List A → List A → Type 0
IsBeginning {A} xs ys = (rest : List A) × (xs ++ rest ≡ ys)

-- nothing is taken at an end between its close and a new session
abbrev pub TakesWhileOpen : List EndEntry → Type 0
TakesWhileOpen [] = Unit {0}
TakesWhileOpen (Take ∷ L) = IsTrue (is_open L) × TakesWhileOpen L
TakesWhileOpen (_ ∷ L) = TakesWhileOpen L

-- what one end took in session k, with its numbers, is a beginning of what the other sent in it, numbered 1, 2, .., each once
pub record SessionFronts (k : ℕ) (sender receiver : List EndEntry) : Type 0 where
  pub taken : IsBeginning (taken_items (up_to k receiver)) (handed_items (up_to k sender))
  pub numbers : handed_items (up_to k sender) ≡ with_numbers 1 (handed (up_to k sender))

-- in each session what each end took is a beginning of what the other sent; and an end takes nothing between its close and a new session
pub record PairFronts (J : List PairEntry) : Type 0 where
  pub at_second : (k : ℕ) → SessionFronts k (first_calls J) (second_calls J)
  pub at_first : (k : ℕ) → SessionFronts k (second_calls J) (first_calls J)
  pub second_while_open : TakesWhileOpen (second_calls J)
  pub first_while_open : TakesWhileOpen (first_calls J)

-- the pair law: every run of a pair has its fronts
abbrev pub PairLaw : Type 0
PairLaw = (a b : ℕ) (at_a at_b : Limits) (J : List PairEntry) → PairRun a b at_a at_b J → PairFronts J

-- how far an end's items came in the session that it is in: accepted ones are a beginning of the handed, the highest transmitted lies between, the acknowledged were accepted, and what came of an item was handed and transmitted
pub record Reaches (sender receiver : List EndEntry) : Type 0 where
  pub kept : (n : ℕ) (p : List ℕ) → payload n receiver ≡ Some p → (n ≤ transmitted sender) × (slice_get (handed sender) (n - 1) ≡ Some p)
  pub front : IsBeginning (accepted receiver) (handed sender)
  pub acknowledged_accepted : lowest sender ≤ length (accepted receiver) + 1
  pub accepted_transmitted : length (accepted receiver) ≤ transmitted sender
  pub transmitted_handed : transmitted sender ≤ length (handed sender)

-- in every run of a pair the items of each end came so far, in each session
abbrev pub AcceptedLaw : Type 0
AcceptedLaw = (a b : ℕ) (at_a at_b : Limits) (J : List PairEntry) → PairRun a b at_a at_b J
    → (k : ℕ) → Reaches (up_to k (first_calls J)) (up_to k (second_calls J)) × Reaches (up_to k (second_calls J)) (up_to k (first_calls J))
