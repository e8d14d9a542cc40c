-- What is answered to a TakeReply, by the state, and what it makes of the table.
use Rattle.std.specs.Prelude.{ℕ, ◌+◌, Bool, List, find, nat_lt, Option, Some, None, Result, Err}
use Rattle.std.specs.List.{list_any}
use Rattle.nob_ids.specs.declared.wire_rep.WireRep.{WireRep}
use Rattle.nob_item.specs.declared.item.Item.{Item}
use Rattle.nob_item.specs.declared.item.Item.TheVariants as items
use Rattle.nob_table.specs.Table.{Table, standing}
use Rattle.nob_model_types.specs.declared.answer.Answer.{Answer}
use Rattle.nob_model_types.specs.declared.answer.Answer.TheVariants as answers
use Rattle.nob_model_types.specs.declared.refusal.Refusal.{Refusal}
use Rattle.nob_model_types.specs.declared.refusal.Refusal.TheVariants as refusals
use Rattle.nob_model_types.specs.declared.deed.Deed.{Deed}
use Rattle.nob_model_types.specs.declared.deed.Deed.TheVariants as did
use Rattle.nob_model_types.specs.declared.message.Message.{Message}
use Rattle.nob_model_work.specs.declared.work.OwnCall.{OwnCall}
use Rattle.nob_model_work.specs.Work.{is_call}
use Rattle.nob_model_history.specs.Holds.{times}
use Rattle.nob_model_acting.specs.Sending.{refuse_if, unless}
use Rattle.nob_model.specs.Right.{greatest_hand, answer_of_stage}
use Rattle.nob_space_calls.specs.Calls.{is_reply}
use Rattle.nob_space_state.specs.TakingOver.{reps_of}
use Rattle.nob_space_state.specs.declared.take.CallResult.{CallResult}
use Rattle.nob_space_state.specs.declared.take.CallResult.TheVariants as results
use Rattle.nob_space_state.specs.Parts.{State}

-- whether the hand of a reference would pass its limit by references that come into it
abbrev pub is_full : Table → List WireRep → WireRep → Bool
is_full t reps rep = nat_lt greatest_hand ((standing t rep).counts.hand + times rep reps)

-- whether one of their hands would
abbrev pub is_overfull : Table → List WireRep → Bool
is_overfull t reps = list_any (is_full t reps) reps

-- what is answered where this item, that carries these references, is the ready reply
abbrev pub answer_of_item : Table → List WireRep → Item → Result Answer Refusal
answer_of_item t reps (items.Reply call status value) = unless (refuse_if (is_overfull t reps) refusals.Limit) (answers.Replied status value)
answer_of_item t reps (items.Call call target method value) = Err refusals.NotReady
answer_of_item t reps (items.Settle item) = Err refusals.NotReady
answer_of_item t reps (items.Dirty index) = Err refusals.NotReady
answer_of_item t reps (items.DirtyOk index) = Err refusals.NotReady
answer_of_item t reps (items.DirtyNo index) = Err refusals.NotReady
answer_of_item t reps (items.Clean index) = Err refusals.NotReady

-- what is answered for a call that is there, by its ready reply if there is one
abbrev pub answer_of_reply : Table → OwnCall → Option Message → Result Answer Refusal
answer_of_reply t own (Some message) = answer_of_item t (reps_of message.copies) message.item
answer_of_reply t own None = answer_of_stage own.stage

-- what is answered for a call, if there is one
abbrev pub answer_of_call : ℕ → State → Option OwnCall → Result Answer Refusal
answer_of_call k st None = Err refusals.NoCall
answer_of_call k st (Some own) = answer_of_reply st.table own (find (is_reply k) st.work.replies)

-- what is answered to a TakeReply
unfoldable pub take_answer : ℕ → State → Result Answer Refusal
take_answer k st = answer_of_call k st (find (is_call k) st.work.calls)

-- what a call brought, as an answer
abbrev pub answer_of : CallResult → Answer
answer_of (results.Replied status value) = answers.Replied status value
answer_of results.Ended = answers.Ended

-- what it did to take that
abbrev pub deed_of : ℕ → CallResult → Deed
deed_of k (results.Replied status value) = did.TakeReply k status value
deed_of k results.Ended = did.TakeEnd k
