-- What is answered to the events that hand an item to a peer, by the state, and what its pins make of the bundles.
use Rattle.std.specs.Prelude.{ℕ, Bool, ◌&&◌, ◌||◌, not, nat_le, List, [], ◌∷◌, length, filter, Option, Some, None}
use Rattle.nob_ids.specs.Names.{is_counted}
use Rattle.nob_ids.specs.declared.wire_rep.WireRep.{WireRep}
use Rattle.nob_pickle.specs.Spelling.{refs_in}
use Rattle.nob_pickle.specs.Writing.{pickle_of}
use Rattle.nob_pickle.specs.declared.value.Value.{Value}
use Rattle.nob_model_session.specs.declared.entry.Kind.{Kind}
use Rattle.nob_model_session.specs.declared.entry.Kind.TheVariants.{Limited}
use Rattle.nob_session.specs.Calls.{next_of}
use Rattle.nob_session.specs.Stands.{Roomy}
use Rattle.nob_model_types.specs.declared.event.Outcome.{Outcome}
use Rattle.nob_model_types.specs.declared.answer.Answer.{Answer}
use Rattle.nob_model_types.specs.declared.answer.Answer.TheVariants as answers
use Rattle.nob_model_types.specs.declared.refusal.Refusal.{Refusal}
use Rattle.nob_model_types.specs.declared.refusal.Refusal.TheVariants as refusals
use Rattle.nob_model_types.specs.declared.deed.Deed.{Deed}
use Rattle.nob_model_types.specs.declared.deed.Deed.TheVariants as did
use Rattle.nob_model_types.specs.Sessions.{is_peer}
use Rattle.nob_model.specs.Right.{most_calls, last_number}
use Rattle.nob_model_acting.specs.Sending.{◌or_else◌, refuse_if, is_faulty, refusal_in}
use Rattle.nob_space_state.specs.declared.finish.ReplyFate.{ReplyFate}
use Rattle.nob_space_state.specs.declared.finish.ReplyFate.TheVariants as fates
use Rattle.nob_space_state.specs.Parts.{State}
use Rattle.nob_space_state.specs.Looks.{end_with, has_closed, has_holds, is_gone, is_cut}

-- why a counted reference may not be sent: own and not live, then without holds, then not own and the end with the owner closed
unfoldable pub ref_refusal : ℕ → State → WireRep → Option Refusal
ref_refusal s st rep = refuse_if (is_gone s st.table rep) refusals.NoObject or_else refuse_if (not (has_holds st.table rep)) refusals.NotHeld or_else refuse_if (is_cut s st.sessions rep) refusals.Closed

-- the first refusal of some references
abbrev pub refs_refusal : ℕ → State → List WireRep → Option Refusal
refs_refusal s st [] = None
refs_refusal s st (rep ∷ reps) = ref_refusal s st rep or_else refs_refusal s st reps

-- why a value may not be sent: it has no pickle, or the first refusal of its counted references, in reading order
unfoldable pub value_refusal : ℕ → State → Value → Option Refusal
value_refusal s st value = refuse_if (is_faulty (pickle_of value)) refusals.TooBig or_else refs_refusal s st (filter is_counted (refs_in value))

-- why an end, where there is one, takes no item of a kind
abbrev pub next_refusal : Kind → Option Roomy → Option Refusal
next_refusal kind None = None
next_refusal kind (Some end) = refusal_in (next_of kind end.end)

-- why an item of a kind can't be sent to a peer
abbrev pub send_refusal : ℕ → Kind → State → Option Refusal
send_refusal p kind st = next_refusal kind (end_with st.sessions p)

-- whether one call more would pass a limit
abbrev pub has_last_call : State → Bool
has_last_call st = nat_le most_calls (length st.work.calls) || nat_le last_number st.calls

-- why a Call is refused
unfoldable pub call_refusal : (s n : ℕ) → State → WireRep → Value → Option Refusal
call_refusal s n st target value = refuse_if (not (is_peer s n target.owner)) refusals.NoPeer or_else refuse_if (has_closed st.sessions target.owner) refusals.Closed or_else refuse_if (is_counted target && not (has_holds st.table target)) refusals.NotHeld or_else value_refusal s st value or_else refuse_if (has_last_call st) refusals.Limit or_else send_refusal target.owner Limited st

-- why the Reply to a client may not be sent
abbrev pub reply_refusal : (s client : ℕ) → State → Value → Option Refusal
reply_refusal s client st value = value_refusal s st value or_else send_refusal client Limited st

-- the answer to a Finish, by what became of the reply
abbrev pub finish_answer : ReplyFate → Answer
finish_answer fates.HandedOn = answers.Finished
finish_answer fates.Dropped = answers.Dropped

-- what a Finish did, by what became of the reply
abbrev pub finish_deed : ℕ → Outcome → ReplyFate → Deed
finish_deed job outcome fates.HandedOn = did.Finish job outcome
finish_deed job outcome fates.Dropped = did.DropReply job
