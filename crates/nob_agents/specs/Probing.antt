-- What an agent that probes has asked of its space, and when it probes whom. In lists of receipts the newest stands FIRST.
use Rattle.std.specs.Prelude.{◌≡◌, ◌⊎◌, ℕ, ◌*◌, ◌-◌, ◌^◌, min, Bool, true, ◌&&◌, ◌||◌, nat_le, List, [], ◌∷◌, Option, Some, None, is_none, Result, Ok}
use Rattle.std.specs.List.{AllByRecursion}
use Rattle.nob_pickle.specs.declared.value.Value.TheVariants as values
use Rattle.nob_model_types.specs.declared.event.Event.{Event}
use Rattle.nob_model_types.specs.declared.event.Event.TheVariants as events
use Rattle.nob_model_types.specs.declared.answer.Answer.{Answer}
use Rattle.nob_model_types.specs.declared.answer.Answer.TheVariants as answers
use Rattle.nob_model_types.specs.declared.refusal.Refusal.{Refusal}
use Rattle.nob_model_types.specs.declared.tally.Tally.{Tally}
use Rattle.nob_keeper.specs.Receipt.{Receipt}
use Rattle.nob_agents.specs.declared.turn.Turn.{Turn}
use Rattle.nob_agents.specs.declared.turn.Turn.TheVariants as turns

-- an agent that probes, as contracts see it: its receipts, and of each space, that of number 1 first, the number of the probe to which the reply wasn't taken
pub record Probing : Type 0 where
  pub receipts : List Receipt
  pub untaken : List (Option ℕ)

-- the method of a space's agent that says nothing
abbrev pub greet : ℕ
greet = 19

-- a probe of a peer: a call of its agent by the method that says nothing, without an argument
abbrev pub IsProbeOf : (peer : ℕ) → Event → Type 0
IsProbeOf peer (events.Call target method value) = (target.owner ≡ peer) × (target.index ≡ 0) × (method ≡ greet) × (value ≡ values.Unit)
IsProbeOf peer _ = ⊥

-- a probe of some peer
abbrev pub IsProbe : Event → Type 0
IsProbe event = (peer : ℕ) × IsProbeOf peer event

-- a receipt tells of a probe that was made under this number
abbrev pub IsProbeUnder : (call : ℕ) → Receipt → Type 0
IsProbeUnder call receipt = IsProbe receipt.event × (receipt.result ≡ Ok (answers.Called call))

-- some receipt tells of a probe that was made under this number
abbrev pub IsProbed : List Receipt → (call : ℕ) → Type 0
IsProbed [] call = ⊥
IsProbed (receipt ∷ earlier) call = IsProbeUnder call receipt ⊎ IsProbed earlier call

-- what an agent that probes asks behind earlier receipts: a probe, or the reply to one
abbrev pub IsProbing : List Receipt → Event → Type 0
IsProbing earlier (events.TakeReply call) = IsProbed earlier call
IsProbing earlier (events.Call target method value) = IsProbe (events.Call target method value)
IsProbing earlier _ = ⊥

-- all that it asked is of this kind
abbrev pub AreProbing : List Receipt → Type 0
AreProbing [] = Unit {0}
AreProbing (receipt ∷ earlier) = IsProbing earlier receipt.event × AreProbing earlier

-- where the reply to a probe wasn't taken, some receipt tells of that probe
abbrev pub IsUntaken : List Receipt → Option ℕ → Type 0
IsUntaken receipts None = Unit {0}
IsUntaken receipts (Some call) = IsProbed receipts call

-- an agent asks nothing but probes and the replies to them, and what it has yet to take are replies to its probes
abbrev pub AreTied : Probing → Type 0
AreTied p = AreProbing p.receipts × AllByRecursion (IsUntaken p.receipts) p.untaken

-- the number under which a call was made by a result, if one was
abbrev pub called_by : Result Answer Refusal → Option ℕ
called_by (Ok (answers.Called call)) = Some call
called_by _ = None

-- the number under which the newest receipt says that a call was made, if it says so
abbrev pub called_in : Option Receipt → Option ℕ
called_in None = None
called_in (Some receipt) = called_by receipt.result

-- a turn that is idle asked nothing, and another asked for one thing
abbrev pub HasTurned : Turn → Probing → Probing → Type 0
HasTurned turns.Idle old new = new ≡ old
HasTurned (turns.Did count) old new = (count ≡ 1) × ((receipt : Receipt) × (new.receipts ≡ receipt ∷ old.receipts))
HasTurned turns.End old new = ⊥

-- whether something went over a session that is open: then there may be one who waits
abbrev pub is_used : Tally → Bool
is_used tally = is_none tally.closed && (nat_le 1 tally.sent || nat_le 1 tally.acted)

-- so many pauses pass before a probe: twice as many after each probe that found that nothing had happened, up to 512
abbrev pub pauses_after : (probes : ℕ) → ℕ
pauses_after probes = 2 ^ min probes 9

-- whether it is time for a probe, where so many looks and so many probes found that nothing had happened
abbrev pub is_time : (patience looks probes : ℕ) → Tally → Bool
is_time patience looks probes tally = is_used tally && nat_le (min (patience * pauses_after probes) (2 ^ 32 - 1)) looks

-- what is asked of a peer just where it is time: a probe of that peer
abbrev pub IsNext : (patience looks probes : ℕ) → Tally → (peer : ℕ) → Event → Type 0
IsNext patience looks probes tally peer event = (is_time patience looks probes tally ≡ true) × IsProbeOf peer event
