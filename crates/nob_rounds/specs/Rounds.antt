-- What is added to the entries of a world, the oldest of which stands first: its spaces are asked things, frames arrive, it is brought to rest.
use Prim.Native.Nat.{zero}
use Rattle.std.specs.Prelude.{◌≡◌, ◌+◌, ◌-◌, ◌&&◌, not, nat_le, nat_lt, ℕ, suc, Bool, true, false, is_ok, List, [], ◌∷◌, ◌++◌, length, reverse, Option, Some, None, Result, Ok, Err, if◌then◌else◌}
use Rattle.nob_ids.specs.Names.{most_spaces}
use Rattle.nob_frame.specs.declared.frame.Frame.{Frame}
use Rattle.nob_model_types.specs.declared.answer.Answer.{Answer}
use Rattle.nob_model_types.specs.declared.refusal.Refusal.{Refusal}
use Rattle.nob_model_types.specs.declared.event.Event.{Event}
use Rattle.nob_model_types.specs.declared.event.Event.TheVariants as events
use Rattle.nob_model_types.specs.declared.entry.Entry.{Entry}
use Rattle.nob_model_journal.specs.Journals.{transmitted_frames}
use Rattle.nob_model_journal.specs.Runs.{frame_of}
use Rattle.nob_world.specs.Worlds.{is_arrival}
use Rattle.nob_rounds.specs.declared.asking.Asking.{Asking}

-- how often a space is asked one thing in a row at most
abbrev pub most_repeats : ℕ
most_repeats = 4096

-- an entry is of a space that was asked this
abbrev pub IsOf : ℕ → Event → Entry → Type 0
IsOf space event entry = (entry.space ≡ space) × (entry.event ≡ event)

-- a space was asked something, which made one entry more: whether it did it
pub record Asked (space : ℕ) (event : Event) (done : Bool) (old new : List Entry) : Type 0 where
  pub entry : Entry
  pub added : new ≡ old ++ entry ∷ []
  pub is_of : IsOf space event entry
  pub is_done : done ≡ is_ok entry.result

-- one thing after an entry that was done, another after a refusal
abbrev pub AfterResult : Result Answer Refusal → Type 0 → Type 0 → Type 0
AfterResult (Ok _) goes_on ends = goes_on
AfterResult (Err _) goes_on ends = ends

-- a space is asked the same until it refuses, or so often
abbrev pub UntilRefused : ℕ → ℕ → Event → List Entry → Type 0
UntilRefused zero space event entries = entries ≡ []
UntilRefused (suc most) space event [] = ⊥
UntilRefused (suc most) space event (entry ∷ rest) = IsOf space event entry × AfterResult entry.result (UntilRefused most space event rest) (rest ≡ [])

-- entries with more behind them, which are those of asking a space the same until it refuses, or so often
pub record AskedUntilRefused (most space : ℕ) (event : Event) (old new : List Entry) : Type 0 where
  pub more : List Entry
  pub added : new ≡ old ++ more
  pub are : UntilRefused most space event more

-- a space was asked something once, whether it did it or not
abbrev pub AskedOnce : ℕ → Event → List Entry → List Entry → Type 0
AskedOnce space event old new = (done : Bool) × Asked space event done old new

-- whether a world of so many spaces can be asked this: there is such a space, and it isn't the arrival of a frame
abbrev pub can_be_asked : ℕ → Asking → Bool
can_be_asked n asking = nat_le asking.space n && not (is_arrival asking.event)

-- one thing where a test says yes, and the same entries as before where it says no
abbrev pub OrNothing : Bool → Type 0 → List Entry → List Entry → Type 0
OrNothing true happened old new = happened
OrNothing false happened old new = new ≡ old

-- a world of n spaces was asked one thing after the other, each once; what it can't be asked was left out
abbrev pub AskedEach : ℕ → List Asking → List Entry → List Entry → Type 0
AskedEach n [] old new = new ≡ old
AskedEach n (asking ∷ rest) old new = (middle : List Entry) × OrNothing (can_be_asked n asking) (AskedOnce asking.space asking.event old middle) old middle × AskedEach n rest middle new

-- the same, each again and again until it was refused
abbrev pub AskedEachUntilRefused : ℕ → List Asking → List Entry → List Entry → Type 0
AskedEachUntilRefused n [] old new = new ≡ old
AskedEachUntilRefused n (asking ∷ rest) old new = (middle : List Entry) × OrNothing (can_be_asked n asking) (AskedUntilRefused most_repeats asking.space asking.event old middle) old middle × AskedEachUntilRefused n rest middle new

-- how many frames were transmitted
abbrev pub frames_in : List Entry → ℕ
frames_in entries = length (transmitted_frames (reverse entries))

-- a frame arrived at the space that it goes to; or there was none
abbrev pub Arrived : Option Frame → List Entry → List Entry → Type 0
Arrived (Some frame) old new = AskedOnce frame.to (events.Arrive frame) old new
Arrived None old new = new ≡ old

-- the frame of this number arrived, if there was one
abbrev pub Delivered : ℕ → List Entry → List Entry → Type 0
Delivered number old new = Arrived (frame_of number (transmitted_frames (reverse old))) old new

-- the first so many of the frames behind a number of them arrived, in order
abbrev pub DeliveredEach : (behind count : ℕ) → List Entry → List Entry → Type 0
DeliveredEach behind zero old new = new ≡ old
DeliveredEach behind (suc count) old new = (middle : List Entry) × DeliveredEach behind count old middle × Delivered (behind + suc count) middle new

-- what a space had to send to another was brought: it transmitted, the frames arrived in order, and the other acted until it had nothing to act on
pub record Brought (from to : ℕ) (old new : List Entry) : Type 0 where
  pub sent : List Entry
  pub transmitted : AskedOnce from (events.Transmit to) old sent
  pub arrived : List Entry
  pub delivered : DeliveredEach (frames_in old) (frames_in sent - frames_in old) sent arrived
  pub acted : AskedUntilRefused most_repeats to (events.Act from) arrived new

-- how many spaces a world of n has: there are 32 at most
abbrev pub spaces_in : ℕ → ℕ
spaces_in n = if nat_lt most_spaces n then most_spaces else n

-- the same to each of the spaces up to a number
abbrev pub BroughtUpTo : (from last : ℕ) → List Entry → List Entry → Type 0
BroughtUpTo from zero old new = new ≡ old
BroughtUpTo from (suc before) old new = (middle : List Entry) × BroughtUpTo from before old middle × Brought from (suc before) middle new

-- the turn of a space among n: it brings all others what it has to send, and then settles and gives up all that it can
pub record TookTurn (n space : ℕ) (old new : List Entry) : Type 0 where
  pub sent : List Entry
  pub brought : BroughtUpTo space (spaces_in n) old sent
  pub settled : List Entry
  pub settles : AskedUntilRefused most_repeats space events.Settle sent settled
  pub cleans : AskedUntilRefused most_repeats space events.Clean settled new

-- the turns of the spaces up to a number
abbrev pub TookTurnsUpTo : (n last : ℕ) → List Entry → List Entry → Type 0
TookTurnsUpTo n zero old new = new ≡ old
TookTurnsUpTo n (suc before) old new = (middle : List Entry) × TookTurnsUpTo n before old middle × TookTurn n (suc before) middle new

-- a round: a turn of each space in a world of n
abbrev pub WentRound : ℕ → List Entry → List Entry → Type 0
WentRound n old new = TookTurnsUpTo n (spaces_in n) old new
