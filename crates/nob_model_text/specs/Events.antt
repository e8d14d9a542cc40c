-- The one spelling of each event in scripts and traces.
use Rattle.std.specs.Prelude.{ℕ, ◌<◌, ◌^◌, List, ◌∷◌, ◌++◌, codes}
use Rattle.std.specs.Fmt.{decimal}
use Rattle.nob_model_types.specs.declared.event.Outcome.{Outcome}
use Rattle.nob_model_types.specs.declared.event.Outcome.TheVariants as outcomes
use Rattle.nob_model_types.specs.declared.event.Event.{Event}
use Rattle.nob_model_types.specs.declared.event.Event.TheVariants as events
use Rattle.nob_ids.specs.Names.{IsSpace}
use Rattle.nob_ids.specs.declared.wire_rep.WireRep.{WireRep}
use Rattle.nob_model_text.specs.Values.{rep_text, value_text, HasText}

-- what a job's method made of its call
abbrev pub outcome_text : Outcome → List ℕ
outcome_text (outcomes.Answer value) = codes "answer " ++ value_text value
outcome_text (outcomes.Fault value) = codes "fault " ++ value_text value
outcome_text outcomes.NoMethod = codes "nomethod"

-- an event: a word, and what it is about. The bytes of a frame that arrives are written so
abbrev pub event_text : List ℕ → Event → List ℕ
event_text bytes events.Export = codes "export"
event_text bytes (events.Dup rep) = codes "dup " ++ rep_text rep
event_text bytes (events.Release rep) = codes "release " ++ rep_text rep
event_text bytes (events.Call target method value) = codes "call " ++ (rep_text target ++ 32 ∷ (decimal method ++ 32 ∷ value_text value))
event_text bytes (events.TakeReply call) = codes "take " ++ decimal call
event_text bytes events.Claim = codes "claim"
event_text bytes (events.Finish job outcome) = codes "finish " ++ (decimal job ++ 32 ∷ outcome_text outcome)
event_text bytes (events.Act peer) = codes "act " ++ decimal peer
event_text bytes events.Settle = codes "settle"
event_text bytes events.Clean = codes "clean"
event_text bytes (events.Withdraw index) = codes "withdraw " ++ decimal index
event_text bytes (events.Transmit peer) = codes "send " ++ decimal peer
event_text bytes (events.Arrive frame) = codes "arrive " ++ bytes
event_text bytes (events.Tick peer) = codes "tick " ++ decimal peer
event_text bytes (events.Close peer) = codes "close " ++ decimal peer
event_text bytes (events.Open peer) = codes "open " ++ decimal peer

-- an outcome that a text can spell
abbrev pub IsOutcome : Outcome → Type 0
IsOutcome (outcomes.Answer value) = HasText value
IsOutcome (outcomes.Fault value) = HasText value
IsOutcome outcomes.NoMethod = Unit {0}

-- a reference with numbers of their types
abbrev pub IsRep : WireRep → Type 0
IsRep rep = IsSpace rep.owner × (rep.index < 2 ^ 64)

-- an event that a script can have: its numbers are of their types, its value has a text, and it is no frame's arrival
abbrev pub IsSpoken : Event → Type 0
IsSpoken events.Export = Unit {0}
IsSpoken (events.Dup rep) = IsRep rep
IsSpoken (events.Release rep) = IsRep rep
IsSpoken (events.Call target method value) = IsRep target × (method < 2 ^ 16) × HasText value
IsSpoken (events.TakeReply call) = call < 2 ^ 64
IsSpoken events.Claim = Unit {0}
IsSpoken (events.Finish job outcome) = (job < 2 ^ 64) × IsOutcome outcome
IsSpoken (events.Act peer) = IsSpace peer
IsSpoken events.Settle = Unit {0}
IsSpoken events.Clean = Unit {0}
IsSpoken (events.Withdraw index) = index < 2 ^ 64
IsSpoken (events.Transmit peer) = IsSpace peer
IsSpoken (events.Arrive frame) = ⊥
IsSpoken (events.Tick peer) = IsSpace peer
IsSpoken (events.Close peer) = IsSpace peer
IsSpoken (events.Open peer) = IsSpace peer
