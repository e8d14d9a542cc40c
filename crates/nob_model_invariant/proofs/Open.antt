-- Nothing is acted on and nothing is sent on a session that has closed here.
use Rattle.std.proofs.Common.{◌≡◌, ℕ, Bool, true, false, cond, List, [], ◌∷◌, map, filter, find, Option, Some, None, refl, sym, subst}
use Rattle.std.specs.List.{AllByRecursion}
use Rattle.std.proofs.lemmas.Bool.{and_parts, not-true}
use Rattle.nob_ids.specs.declared.limits.Limits.{Limits}
use Rattle.nob_ids.specs.declared.wire_rep.WireRep.{WireRep}
use Rattle.nob_item.specs.Kinds.{counted_in}
use Rattle.nob_item.specs.declared.item.Item.{Item}
use Rattle.nob_item.specs.declared.item.Item.TheVariants as items
use Rattle.nob_model_types.specs.declared.event.Outcome.{Outcome}
use Rattle.nob_model_types.specs.declared.deed.Deed.{Deed}
use Rattle.nob_model_types.specs.declared.deed.Deed.TheVariants as did
use Rattle.nob_model_types.specs.declared.message.Message.{Message}
use Rattle.nob_model_types.specs.Sessions.{is_peer, closed, item_at}
use Rattle.nob_model_types.specs.Objects.{is_live, is_exported}
use Rattle.nob_model_types.specs.Turns.{turns, wants_dirty, is_usable}
use Rattle.nob_model_types.specs.Messages.{is_of, is_lost_message}
use Rattle.nob_model_work.specs.declared.gifts.Gift.{Gift}
use Rattle.nob_model_work.specs.declared.work.Run.{Run}
use Rattle.nob_model_work.specs.Work.{work}
use Rattle.nob_model_work.specs.Gifts.{once, dirty_for, dirties_for, answer_to, gifts_of_act, lost_call_reply, gifts_of_settle, reply_to, gifts_of_finish, gifts_of, gifts}
use Rattle.nob_model_history.specs.declared.history.History.{History}
use Rattle.nob_model_history.specs.Histories.{history_of}
use Rattle.nob_model_history.specs.Transit.{is_idle, by_last_dirty}
use Rattle.nob_model.specs.Right.{right_after}
use Rattle.nob_model.specs.Lists.{AreRightDeeds}
use Rattle.nob_model.proofs.Doing.{was_answered}
use Rattle.nob_model.proofs.Accepted.{found_passes, call_tells, finish_tells, clean_tells}
use Rattle.nob_model.proofs.Carrying.{all_filter}
use Rattle.nob_model.proofs.Waiting.{act_open, settled_message}
use Rattle.nob_model_journal.specs.Fronts.{ActsWhileOpen, SendsWhileOpen}

-- a gift goes to a peer on a session that is open here
abbrev pub GoesOpen : List Deed → Gift → Type 0
GoesOpen D gift = closed gift.to D ≡ false

dirties_if : (D : List Deed) (wanted : Bool) (rep : WireRep) (reps : List WireRep) → (wanted ≡ true → closed rep.owner D ≡ false) → AllByRecursion (GoesOpen D) (map dirty_for reps) → AllByRecursion (GoesOpen D) (map dirty_for (cond wanted (rep ∷ reps) reps))
unfolding dirty_for
dirties_if D true rep reps up rest = (up refl, rest)
dirties_if D false rep reps up rest = rest

dirties_by : (D : List Deed) (test : WireRep → Bool) → ((rep : WireRep) → test rep ≡ true → closed rep.owner D ≡ false) → (reps : List WireRep) → AllByRecursion (GoesOpen D) (map dirty_for (filter test reps))
dirties_by D test up [] = tt
dirties_by D test up (rep ∷ reps) = dirties_if D (test rep) rep (filter test reps) (up rep) (dirties_by D test up reps)

dirties_open : (s n : ℕ) (D : List Deed) (reps : List WireRep) → AllByRecursion (GoesOpen D) (dirties_for s n D reps)
unfolding dirties_for
dirties_open s n D reps = dirties_by D (λ rep. wants_dirty s n rep D (turns s n rep D)) (λ rep wanted. not-true _ (and_parts _ _ (and_parts _ _ wanted).0).1) (once reps)

answer_open : (p index : ℕ) (D : List Deed) (alive known : Bool) → closed p D ≡ false → AllByRecursion (GoesOpen D) (cond alive (record { to = p; item = items.DirtyOk index } ∷ []) (cond known (record { to = p; item = items.DirtyNo index } ∷ []) []))
answer_open p index D true known up = (up, tt)
answer_open p index D false true up = (up, tt)
answer_open p index D false false up = tt

act_sends : (s n p : ℕ) (D : List Deed) (found : Option Item) → closed p D ≡ false → AllByRecursion (GoesOpen D) (gifts_of_act s n p D found)
unfolding gifts_of_act answer_to
act_sends s n p D None up = tt
act_sends s n p D (Some (items.Call call target method value)) up = dirties_open s n D (counted_in (items.Call call target method value))
act_sends s n p D (Some (items.Reply call status value)) up = dirties_open s n D (counted_in (items.Reply call status value))
act_sends s n p D (Some (items.Settle item)) up = tt
act_sends s n p D (Some (items.Dirty index)) up = answer_open p index D (is_live s index D) (is_exported s index D) up
act_sends s n p D (Some (items.DirtyOk index)) up = tt
act_sends s n p D (Some (items.DirtyNo index)) up = tt
act_sends s n p D (Some (items.Clean index)) up = tt

lost_sends : (p : ℕ) (D : List Deed) (item : Item) (lost : Bool) → closed p D ≡ false → AllByRecursion (GoesOpen D) (lost_call_reply p item lost)
unfolding lost_call_reply
lost_sends p D (items.Call call target method value) true up = (up, tt)
lost_sends p D (items.Call call target method value) false up = tt
lost_sends p D (items.Reply call status value) lost up = tt
lost_sends p D (items.Settle item) lost up = tt
lost_sends p D (items.Dirty index) lost up = tt
lost_sends p D (items.DirtyOk index) lost up = tt
lost_sends p D (items.DirtyNo index) lost up = tt
lost_sends p D (items.Clean index) lost up = tt

settle_sends : (s n p k : ℕ) (D : List Deed) (found : Option Message) → closed p D ≡ false → AllByRecursion (GoesOpen D) (gifts_of_settle s n p k D found)
unfolding gifts_of_settle
settle_sends s n p k D None up = tt
settle_sends s n p k D (Some message) up = (up, lost_sends p D message.item (is_lost_message s n D message) up)

reply_sends : (p : ℕ) (D : List Deed) (item : Item) (outcome : Outcome) → closed p D ≡ false → AllByRecursion (GoesOpen D) (reply_to p item outcome)
unfolding reply_to
reply_sends p D (items.Call call target method value) outcome up = (up, tt)
reply_sends p D (items.Reply call status value) outcome up = tt
reply_sends p D (items.Settle item) outcome up = tt
reply_sends p D (items.Dirty index) outcome up = tt
reply_sends p D (items.DirtyOk index) outcome up = tt
reply_sends p D (items.DirtyNo index) outcome up = tt
reply_sends p D (items.Clean index) outcome up = tt

clean_sends : (rep : WireRep) (D : List Deed) (asks : Bool) → closed rep.owner D ≡ false → AllByRecursion (GoesOpen D) (cond asks (record { to = rep.owner; item = items.Clean rep.index } ∷ []) [])
clean_sends rep D true up = (up, tt)
clean_sends rep D false up = tt

-- what a right deed gives goes to peers on sessions that are open here
gifts_open : (s n : ℕ) (limits : Limits) (deed : Deed) (D : List Deed) → AreRightDeeds s n limits (deed ∷ D) → AllByRecursion (GoesOpen D) (gifts_of s n deed D (work s n D))
unfolding right_after gifts_of gifts_of_finish
gifts_open s n limits (did.Call target method value call) D right =
    ((call_tells s n target value call (history_of s n D) (was_answered s n limits (did.Call target method value call) D right.0)).2, tt)
gifts_open s n limits (did.Finish job outcome) D right =
    let told = finish_tells s job outcome (history_of s n D) (was_answered s n limits (did.Finish job outcome) D right.0) in
    subst (λ (found : Option Run). AllByRecursion (GoesOpen D) (gifts_of_finish outcome found)) (sym told.1) (reply_sends told.0.message.from D told.0.message.item outcome told.2)
gifts_open s n limits (did.Act p k) D right = act_sends s n p D (item_at p k D) (act_open s n limits p k D right.0)
gifts_open s n limits (did.Settle p k) D right = settle_sends s n p k D (find (is_of p k) (work s n D).waiting) (settled_message s n limits p k D right).5
gifts_open s n limits (did.Clean rep) D right =
    let h : History = history_of s n D in
    let told = clean_tells s n rep h (was_answered s n limits (did.Clean rep) D right.0) in
    let idle = found_passes (is_idle s n h) (by_last_dirty h) rep told.0 in
    clean_sends rep D (turns s n rep D).asks (not-true _ (and_parts _ _ (and_parts (is_usable s n rep D) _ (and_parts _ _ idle).0).0).1)
gifts_open s n limits deed D right = tt

-- right deeds send nothing on a session that has closed here
pub sends_open : (s n : ℕ) (limits : Limits) (D : List Deed) → AreRightDeeds s n limits D → SendsWhileOpen s n D
unfolding gifts
sends_open s n limits [] right = tt
sends_open s n limits (deed ∷ D) right = (all_filter (GoesOpen D) (λ (gift : Gift). is_peer s n gift.to) (gifts_of s n deed D (work s n D)) (gifts_open s n limits deed D right), sends_open s n limits D right.1)

-- nor do they act on what came on one
pub acts_open : (s n : ℕ) (limits : Limits) (D : List Deed) → AreRightDeeds s n limits D → ActsWhileOpen D
acts_open s n limits [] right = tt
acts_open s n limits (did.Act p k ∷ D) right = (act_open s n limits p k D right.0, acts_open s n limits D right.1)
acts_open s n limits (deed ∷ D) right = acts_open s n limits D right.1
