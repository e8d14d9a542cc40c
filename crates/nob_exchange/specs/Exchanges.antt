-- What spaces do for one another where a program carries their frames. The newest entry of a space stands FIRST.
use Prim.Native.Nat.{zero}
use Rattle.std.specs.Prelude.{◌≡◌, ℕ, suc, Bool, true, false, ◌||◌, is_ok, List, [], ◌∷◌, Option, Some, None, Result, Ok, if◌then◌else◌}
use Rattle.nob_ids.specs.declared.limits.Limits.{Limits}
use Rattle.nob_ids.specs.declared.wire_rep.WireRep.{WireRep}
use Rattle.nob_frame.specs.declared.frame.Frame.{Frame}
use Rattle.nob_model_types.specs.declared.answer.Answer.{Answer}
use Rattle.nob_model_types.specs.declared.answer.Answer.TheVariants as answers
use Rattle.nob_model_types.specs.declared.entry.Entry.{Entry}
use Rattle.nob_model_types.specs.declared.event.Event.{Event}
use Rattle.nob_model_types.specs.declared.event.Event.TheVariants as events
use Rattle.nob_model_types.specs.declared.refusal.Refusal.{Refusal}
use Rattle.nob_model.specs.Right.{right}
use Rattle.nob_space.specs.Spaces.{Owner, StandsFor, entry_of}

-- a space's past: its number, how many spaces there are, the limits of its sessions, and what it was asked and answered
pub record Past : Type 0 where
  pub space : ℕ
  pub n : ℕ
  pub limits : Limits
  pub entries : List Entry

-- a space has this past
pub record Has (owner : Owner) (past : Past) : Type 0 where
  pub id : owner.id ≡ past.space
  pub n : owner.n ≡ past.n
  pub limits : owner.limits ≡ past.limits
  pub stands : StandsFor owner past.entries

-- what a space with this past answers to an event
abbrev pub answer_to : Event → Past → Result Answer Refusal
answer_to event past = right past.space past.n past.limits past.entries event

-- whether it does what it is asked
abbrev pub does : Event → Past → Bool
does event past = is_ok (answer_to event past)

-- its past with one entry more
abbrev pub with_entry : Entry → Past → Past
with_entry entry past = record { space = past.space; n = past.n; limits = past.limits; entries = entry ∷ past.entries }

-- its past once it was asked this
abbrev pub asked : Event → Past → Past
asked event past = with_entry (entry_of past.space event (answer_to event past)) past

-- its past once these frames arrived, the first first
abbrev pub arrived : List Frame → Past → Past
arrived [] past = past
arrived (frame ∷ frames) past = arrived frames (asked (events.Arrive frame) past)

-- the frames that an answer gives
abbrev pub frames_in : Result Answer Refusal → List Frame
frames_in (Ok (answers.Frames frames)) = frames
frames_in _ = []

-- the frames that it gives for a peer
abbrev pub frames_for : ℕ → Past → List Frame
frames_for peer past = frames_in (answer_to (events.Transmit peer) past)

-- its past once it was asked to act on an item of a peer, to settle a message, and to give a surrogate up
abbrev pub acted : ℕ → Past → Past
acted peer past = asked (events.Act peer) past

abbrev pub settled : ℕ → Past → Past
settled peer past = asked events.Settle (acted peer past)

abbrev pub cleaned : ℕ → Past → Past
cleaned peer past = asked events.Clean (settled peer past)

-- whether it does one of the three
abbrev pub is_busy : ℕ → Past → Bool
is_busy peer past = does (events.Act peer) past || (does events.Settle (acted peer past) || does events.Clean (settled peer past))

-- its past once it did so until there was nothing left to do, or so often
abbrev pub worked : ℕ → ℕ → Past → Past
worked zero peer past = past
worked (suc most) peer past = if is_busy peer past then worked most peer (cleaned peer past) else cleaned peer past

-- so often a space works in a row at most, and frames are carried to and fro
abbrev pub most_turns : ℕ
most_turns = 4096

-- the past of a space that gave another what it has for it
abbrev pub sent : (to from : Past) → Past
sent to from = asked (events.Transmit to.space) from

-- the past of a space to which the frames of another were carried, and which then worked
abbrev pub received : (most : ℕ) → (to from : Past) → Past
received most to from = worked most from.space (arrived (frames_for to.space from) to)

-- whether there is a frame
abbrev pub is_some_frame : List Frame → Bool
is_some_frame [] = false
is_some_frame (frame ∷ frames) = true

-- the pasts of two spaces
pub record Pair : Type 0 where
  pub one : Past
  pub other : Past

-- their pasts once the first gave the other what it has for it, and that worked
abbrev pub carried : (most : ℕ) → Pair → Pair
carried most pair = record { one = sent pair.other pair.one; other = received most pair.other pair.one }

-- two spaces, the other one first
abbrev pub turned : Pair → Pair
turned pair = record { one = pair.other; other = pair.one }

-- their pasts once frames were carried to and fro
abbrev pub carried_both_ways : (most : ℕ) → Pair → Pair
carried_both_ways most pair = turned (carried most (turned (carried most pair)))

-- whether the first gives the other a frame, or is given one back then
abbrev pub talk : (most : ℕ) → Pair → Bool
talk most pair = is_some_frame (frames_for pair.other.space pair.one) || is_some_frame (frames_for pair.one.space (carried most pair).other)

-- their pasts once that was done until neither had a frame for the other, or so often
abbrev pub exchanged : (most times : ℕ) → Pair → Pair
exchanged most zero pair = pair
exchanged most (suc times) pair = if talk most pair then exchanged most times (carried_both_ways most pair) else carried_both_ways most pair

-- two spaces have these pasts
pub record HaveBoth (one other : Owner) (pair : Pair) : Type 0 where
  pub has_one : Has one pair.one
  pub has_other : Has other pair.other

-- what a space gave: nothing where it refused
abbrev pub frames_given : Option (List Frame) → List Frame
frames_given (Some frames) = frames
frames_given None = []

-- the reference to a space's agent
abbrev pub agent_of : ℕ → WireRep
agent_of space = record { owner = space; index = 0 }
