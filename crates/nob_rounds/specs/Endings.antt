-- What is added to the entries of a world, which stand oldest first, where what began there is ended.
use Prim.Native.Nat.{zero}
use Rattle.std.specs.Prelude.{◌≡◌, ◌==◌, ℕ, suc, Bool, true, false, List, [], ◌∷◌, ◌++◌, map}
use Rattle.nob_ids.specs.declared.wire_rep.WireRep.{WireRep}
use Rattle.nob_model_types.specs.declared.event.Outcome.TheVariants as outcomes
use Rattle.nob_model_types.specs.declared.event.Event.{Event}
use Rattle.nob_model_types.specs.declared.event.Event.TheVariants as events
use Rattle.nob_model_types.specs.declared.entry.Entry.{Entry}
use Rattle.nob_rounds.specs.Shown.{objects_of, greatest_call, greatest_job}
use Rattle.nob_rounds.specs.declared.sessions.SessionEnd.{SessionEnd}
use Rattle.nob_rounds.specs.Sessions.{numbers_up_to, spaces_of, unopen_ends}
use Rattle.nob_rounds.specs.Notes.{news_in}
use Rattle.nob_rounds.specs.declared.asking.Asking.{Asking}
use Rattle.nob_rounds.specs.Rounds.{AskedEach, AskedEachUntilRefused, WentRound}

-- a space is to be asked this
abbrev pub to_ask : ℕ → Event → Asking
to_ask space event = record { space = space; event = event }

-- the space of each end is to close it
abbrev pub closes : List SessionEnd → List Asking
closes ends = map (λ (end : SessionEnd). to_ask end.space (events.Close end.peer)) ends

-- each space is to claim a job
abbrev pub claims : List ℕ → List Asking
claims spaces = map (λ (space : ℕ). to_ask space events.Claim) spaces

-- a space is to finish its jobs of these numbers: there is no such method
abbrev pub finishes : ℕ → List ℕ → List Asking
finishes space jobs = map (λ (job : ℕ). to_ask space (events.Finish job outcomes.NoMethod)) jobs

-- a space is to take the replies to its calls of these numbers
abbrev pub takings : ℕ → List ℕ → List Asking
takings space calls = map (λ (call : ℕ). to_ask space (events.TakeReply call)) calls

-- each space is to finish its jobs of these numbers, and then to take the replies to its calls of those
abbrev pub ends_of_each : List ℕ → (jobs calls : List ℕ) → List Asking
ends_of_each [] jobs calls = []
ends_of_each (space ∷ rest) jobs calls = (finishes space jobs ++ takings space calls) ++ ends_of_each rest jobs calls

-- the same for all jobs and calls up to these numbers
abbrev pub ends_of_calls : List ℕ → (last_job last_call : ℕ) → List Asking
ends_of_calls spaces last_job last_call = ends_of_each spaces (numbers_up_to last_job) (numbers_up_to last_call)

-- a space is to give back these objects
abbrev pub releases_at : ℕ → List WireRep → List Asking
releases_at space objects = map (λ (rep : WireRep). to_ask space (events.Release rep)) objects

-- each space is to give them back
abbrev pub releases : List ℕ → List WireRep → List Asking
releases [] objects = []
releases (space ∷ rest) objects = releases_at space objects ++ releases rest objects

-- the owner of each object is to withdraw it
abbrev pub withdrawals : List WireRep → List Asking
withdrawals objects = map (λ (rep : WireRep). to_ask rep.owner (events.Withdraw rep.index)) objects

-- in a world of n spaces, both ends of each session that isn't open were asked to close
abbrev pub ClosedUnopen : ℕ → List Entry → List Entry → Type 0
ClosedUnopen n old new = AskedEach n (closes (unopen_ends n old)) old new

-- each space claimed jobs until it was refused, 4,096 times at most
abbrev pub ClaimedAll : ℕ → List Entry → List Entry → Type 0
ClaimedAll n old new = AskedEachUntilRefused n (claims (spaces_of n)) old new

-- each space was asked to finish its jobs and to take its replies, up to the greatest number of a job and of a call of any space
abbrev pub EndedCalls : ℕ → List Entry → List Entry → Type 0
EndedCalls n old new = AskedEach n (ends_of_calls (spaces_of n) (greatest_job old) (greatest_call old)) old new

-- each space gave back each object until it held it no more
abbrev pub ReleasedAll : ℕ → List Entry → List Entry → Type 0
ReleasedAll n old new = AskedEachUntilRefused n (releases (spaces_of n) (objects_of old)) old new

-- each object's owner was asked to withdraw it
abbrev pub WithdrewAll : ℕ → List Entry → List Entry → Type 0
WithdrewAll n old new = AskedEach n (withdrawals (objects_of old)) old new

-- a round of the end: what isn't open closed at both ends, jobs claimed, calls ended, objects given back, and all that is under way brought
pub record WentEndRound (n : ℕ) (old new : List Entry) : Type 0 where
  pub closed : List Entry
  pub closes : ClosedUnopen n old closed
  pub claimed : List Entry
  pub claims : ClaimedAll n closed claimed
  pub ended : List Entry
  pub ends : EndedCalls n claimed ended
  pub released : List Entry
  pub releases : ReleasedAll n ended released
  pub brings : WentRound n released new

-- no more rounds where one brought nothing new, others where it did
abbrev pub UnlessQuiet : Bool → (quiet goes_on : Type 0) → Type 0
UnlessQuiet true quiet goes_on = quiet
UnlessQuiet false quiet goes_on = goes_on

-- rounds until one brings nothing new, or so many
abbrev pub WentEndRounds : (most n : ℕ) → List Entry → List Entry → Type 0
WentEndRounds zero n old new = new ≡ old
WentEndRounds (suc most) n old new = (middle : List Entry) × WentEndRound n old middle × UnlessQuiet (news_in middle == news_in old) (new ≡ middle) (WentEndRounds most n middle new)

-- how many rounds there are at most
abbrev pub most_rounds : ℕ
most_rounds = 200

-- what began was ended: rounds until nothing was new, and then each object withdrawn
abbrev pub Ended : ℕ → List Entry → List Entry → Type 0
Ended n old new = (quiet : List Entry) × WentEndRounds most_rounds n old quiet × WithdrewAll n quiet new
