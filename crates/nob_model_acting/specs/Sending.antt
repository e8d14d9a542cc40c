-- What may be sent to a peer.
use Rattle.std.specs.Prelude.{ℕ, ◌+◌, Bool, true, false, ◌&&◌, ◌||◌, ◌==◌, not, nat_le, List, [], ◌∷◌, length, filter, Option, Some, None, Result, Ok, Err, if◌then◌else◌}
use Rattle.nob_ids.specs.Names.{is_counted}
use Rattle.nob_ids.specs.declared.wire_rep.WireRep.{WireRep}
use Rattle.nob_pickle.specs.Spelling.{refs_in}
use Rattle.nob_pickle.specs.Writing.{pickle_of}
use Rattle.nob_pickle.specs.declared.value.Value.{Value}
use Rattle.nob_pickle.specs.declared.fault.PickleFault.{PickleFault}
use Rattle.nob_model_session.specs.declared.refusal.EndRefusal.{EndRefusal}
use Rattle.nob_model_session.specs.declared.refusal.EndRefusal.TheVariants as end_refusals
use Rattle.nob_model_session.specs.declared.entry.Kind.{Kind}
use Rattle.nob_model_session.specs.End.{last_item, handed}
use Rattle.nob_model_session.specs.Right.{right_send}
use Rattle.nob_model_types.specs.declared.refusal.Refusal.{Refusal}
use Rattle.nob_model_types.specs.declared.refusal.Refusal.TheVariants as refusals
use Rattle.nob_model_types.specs.Sessions.{closed}
use Rattle.nob_model_types.specs.Objects.{is_live}
use Rattle.nob_model_types.specs.Turns.{is_own}
use Rattle.nob_model_history.specs.declared.history.History.{History}
use Rattle.nob_model_history.specs.Ends.{calls_at}
use Rattle.nob_model_history.specs.Holds.{is_held}

-- the first of two refusals
infixr 20 ◌or_else◌
abbrev pub ◌or_else◌ : Option Refusal → Option Refusal → Option Refusal
(Some refusal) or_else later = Some refusal
None or_else later = later

-- a refusal where a test holds
abbrev pub refuse_if : Bool → Refusal → Option Refusal
refuse_if test refusal = if test then Some refusal else None

-- whether a reference names an own object that isn't live
abbrev pub is_gone : ℕ → WireRep → History → Bool
is_gone s rep h = is_own s rep && not (is_live s rep.index h.deeds)

-- why a counted reference may not be sent: own and not live, then without holds, then not own and the session with the owner closed here
abbrev pub ref_refused : ℕ → History → WireRep → Option Refusal
ref_refused s h rep = refuse_if (is_gone s rep h) refusals.NoObject or_else refuse_if (not (is_held s rep h)) refusals.NotHeld or_else refuse_if (not (is_own s rep) && closed rep.owner h.deeds) refusals.Closed

-- the first refusal of some references
abbrev pub refs_refused : ℕ → History → List WireRep → Option Refusal
refs_refused s h [] = None
refs_refused s h (rep ∷ reps) = ref_refused s h rep or_else refs_refused s h reps

-- whether a value has no pickle
abbrev pub is_faulty : Result (List ℕ) PickleFault → Bool
is_faulty (Ok bytes) = false
is_faulty (Err fault) = true

-- why a value may not be sent: it has no pickle, or the first refusal of its counted references, in reading order
abbrev pub value_refused : ℕ → History → Value → Option Refusal
value_refused s h value = refuse_if (is_faulty (pickle_of value)) refusals.TooBig or_else refs_refused s h (filter is_counted (refs_in value))

-- a refusal of the session with a peer as one of the space
abbrev pub of_end : EndRefusal → Refusal
of_end end_refusals.Closed = refusals.Closed
of_end end_refusals.QueueFull = refusals.QueueFull
of_end end_refusals.SeqEnd = refusals.SeqEnd
of_end end_refusals.Strange = refusals.NoPeer
of_end end_refusals.StillOpen = refusals.StillOpen
of_end end_refusals.Number = refusals.Limit

-- the refusal in a result
abbrev pub refusal_in : {A : Type 0} → Result A EndRefusal → Option Refusal
refusal_in (Ok x) = None
refusal_in (Err refusal) = Some (of_end refusal)

-- why an item of a kind can't be sent to a peer on an open session: no room, or no free number
abbrev pub send_refused : ℕ → Kind → History → Option Refusal
send_refused p kind h = refusal_in (right_send kind (calls_at p h))

-- whether so many numbers are free for items to p
abbrev pub has_numbers : (p count : ℕ) → History → Bool
has_numbers p count h = nat_le (length (handed (calls_at p h)) + count) last_item

-- the answer, unless it is refused
abbrev pub unless : {A : Type 0} → Option Refusal → A → Result A Refusal
unless (Some refusal) answer = Err refusal
unless None answer = Ok answer
