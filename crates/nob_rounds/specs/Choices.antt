-- What a random choice is: a word of a row for each thing that is chosen. `x` is the row's number before the choice, `next x` that of its first word.
use Prim.Native.Nat.{zero}
use Rattle.std.specs.Prelude.{ℕ, suc, ◌+◌, ◌-◌, ◌%◌, ◌==◌, ◌&&◌, nat_le, List, [], ◌∷◌, length, slice_get, Option, Some, None, if◌then◌else◌}
use Rattle.nob_rounds.specs.Row.{next, below}
use Rattle.nob_rounds.specs.declared.sessions.SessionEnd.{SessionEnd}
use Rattle.nob_ids.specs.declared.wire_rep.WireRep.{WireRep}
use Rattle.nob_pickle.specs.declared.value.Value.{Value}
use Rattle.nob_pickle.specs.declared.value.Value.TheVariants as values
use Rattle.nob_pickle.specs.Shape.{forest}
use Rattle.nob_model_types.specs.declared.event.Outcome.{Outcome}
use Rattle.nob_model_types.specs.declared.event.Outcome.TheVariants as outcomes
use Rattle.nob_model_types.specs.declared.event.Event.{Event}
use Rattle.nob_model_types.specs.declared.event.Event.TheVariants as events
use Rattle.nob_model_types.specs.declared.entry.WorldStep.{WorldStep}
use Rattle.nob_model_types.specs.declared.entry.WorldStep.TheVariants as steps

-- the row's number so many words later
abbrev pub later : ℕ → ℕ → ℕ
later zero x = x
later (suc k) x = next (later k x)

-- word k of the row behind x, the first is word 1, as a number below count
abbrev pub word : (k count x : ℕ) → ℕ
word k count x = below count (later k x)

-- one of so many spaces
abbrev pub space_at : (n x : ℕ) → ℕ
space_at n x = word 1 n x % 32 + 1

-- the agent of a space
abbrev pub agent_of : ℕ → WireRep
agent_of owner = record { owner = owner; index = 0 }

-- the object that was found, or the first space's agent where there is none
abbrev pub or_agent : Option WireRep → WireRep
or_agent (Some rep) = rep
or_agent None = agent_of 1

-- among how many of the last objects one is chosen: all, seldom, or six
abbrev pub reach_of : (count word : ℕ) → ℕ
reach_of count word = if word == 0 then count else (if nat_le count 6 then count else 6)

-- one of the objects
unfoldable pub object_at : List WireRep → ℕ → WireRep
object_at objects x = or_agent (slice_get objects (length objects - (word 2 (reach_of (length objects) (word 1 4 x)) x + 1)))

-- how many words a value takes
abbrev pub words_of_value : ℕ → ℕ
words_of_value x = if word 1 5 x == 0 then 1 else (if word 1 5 x == 1 then 5 else 3)

-- a value: nothing, two references, or one
unfoldable pub value_at : List WireRep → ℕ → Value
value_at objects x = if word 1 5 x == 0 then values.Unit else (if word 1 5 x == 1 then values.List (forest (values.Ref (object_at objects (later 1 x)) ∷ values.Ref (object_at objects (later 3 x)) ∷ [])) else values.Ref (object_at objects (later 1 x)))

-- what a job ends with
unfoldable pub outcome_at : List WireRep → ℕ → Outcome
outcome_at objects x = if word 1 4 x == 0 then outcomes.NoMethod else (if word 1 4 x == 1 then outcomes.Fault (value_at objects (later 1 x)) else outcomes.Answer (value_at objects (later 1 x)))

-- what is called: an object, or the agent of a space
abbrev pub target_at : (n : ℕ) → WireRep → ℕ → WireRep
target_at n rep x = if word 1 2 x == 0 then rep else agent_of (space_at n (later 1 x))

-- how many words that takes
abbrev pub words_of_target : ℕ → ℕ
words_of_target x = if word 1 2 x == 0 then 1 else 2

-- a call of method 1 with a value
unfoldable pub call_at : (n : ℕ) → List WireRep → WireRep → ℕ → Event
call_at n objects rep x = events.Call (target_at n rep x) 1 (value_at objects (later (words_of_target x) x))

-- a tick of the session with a peer, now and then its close, or that it is opened anew
unfoldable pub end_at : (peer x : ℕ) → Event
end_at peer x = if nat_le (word 1 16 x) 3 then events.Close peer else (if nat_le (word 1 16 x) 5 then events.Open peer else events.Tick peer)

-- the same behind the first fifteen words: what comes in, and what goes out
unfoldable pub later_event : (peer : ℕ) → WireRep → ℕ → Event
later_event peer rep x = if nat_le (word 1 32 x) 20 then events.Act peer else (if nat_le (word 1 32 x) 22 then events.Settle else (if nat_le (word 1 32 x) 23 then events.Clean else (if nat_le (word 1 32 x) 24 then events.Withdraw rep.index else (if nat_le (word 1 32 x) 30 then events.Transmit peer else end_at peer (later 1 x)))))

-- what a space is asked about a peer and an object, where calls and jobs have these numbers at most: x's first word, below 32, says what
unfoldable pub event_about : (n : ℕ) → List WireRep → (calls jobs peer : ℕ) → WireRep → ℕ → Event
event_about n objects calls jobs peer rep x = if nat_le (word 1 32 x) 1 then events.Export else (if nat_le (word 1 32 x) 2 then events.Dup rep else (if nat_le (word 1 32 x) 5 then events.Release rep else (if nat_le (word 1 32 x) 9 then call_at n objects rep (later 1 x) else (if nat_le (word 1 32 x) 10 then events.TakeReply (word 2 calls x + 1) else (if nat_le (word 1 32 x) 12 then events.Claim else (if nat_le (word 1 32 x) 14 then events.Finish (word 2 jobs x + 1) (outcome_at objects (later 2 x)) else later_event peer rep x))))))

-- what a space is asked: first a peer is chosen, then an object
unfoldable pub event_at : (n : ℕ) → List WireRep → (calls jobs x : ℕ) → Event
event_at n objects calls jobs x = event_about n objects calls jobs (space_at n x) (object_at objects (later 1 x)) (later 3 x)

-- among how many of the last frames one is chosen: all, seldom, or twelve
abbrev pub frames_reached : (count word : ℕ) → ℕ
frames_reached count word = if word == 0 then count else (if nat_le count 12 then count else 12)

-- one of the ends that have closed, seldom, if there is one
abbrev pub closed_at : List SessionEnd → ℕ → Option SessionEnd
closed_at closed x = if word 1 8 x == 0 then slice_get closed (word 2 (length closed) x) else None

-- a step that delivers nothing: this end is opened anew, if there is one, or a space is asked something
abbrev pub asking_at : (n : ℕ) → List WireRep → (calls jobs : ℕ) → Option SessionEnd → ℕ → WorldStep
asking_at n objects calls jobs (Some end) x = steps.Do end.space (events.Open end.peer)
asking_at n objects calls jobs None x = steps.Do (space_at n x) (event_at n objects calls jobs (later 1 x))

-- a step, where so many frames were transmitted and these ends have closed: one of three delivers a frame, if there is one
unfoldable pub step_at : (n : ℕ) → List WireRep → (calls jobs frames : ℕ) → List SessionEnd → ℕ → WorldStep
step_at n objects calls jobs frames closed x = if (word 1 3 x == 0) && nat_le 1 frames then steps.Deliver (frames - word 3 (frames_reached frames (word 2 8 x)) x) else asking_at n objects calls jobs (closed_at closed (later 1 x)) (later 3 x)
