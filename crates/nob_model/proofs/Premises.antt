-- What the laws of nob_model_history ask of a list holds of every list of right deeds.
use Rattle.std.proofs.Common.{◌≡◌, ℕ, ◌+◌, ◌≤◌, Bool, true, false, List, [], ◌∷◌, length, Option, Some, None, Ok, refl, sym, ap, subst, ◌∙◌}
use Rattle.std.specs.Option.{option_and_then}
use Rattle.std.proofs.lemmas.Bool.{eqb-true, and_parts, not-false}
use Rattle.nob_ids.specs.declared.limits.Limits.{Limits}
use Rattle.nob_ids.specs.declared.reason.Reason.{Reason}
use Rattle.nob_ids.specs.declared.reason.Reason.TheVariants.{OutOfPlace}
use Rattle.nob_ids.specs.declared.wire_rep.WireRep.{WireRep}
use Rattle.nob_item.specs.declared.item.Item.{Item}
use Rattle.nob_item.specs.declared.item.Item.TheVariants as items
use Rattle.nob_model_session.specs.Right.{right_front}
use Rattle.nob_model_session.specs.declared.entry.EndEntry.TheVariants as ends
use Rattle.nob_model_session.specs.declared.entry.Arrived.TheVariants as arrived
use Rattle.nob_model_types.specs.declared.deed.Deed.{Deed}
use Rattle.nob_model_types.specs.declared.deed.Deed.TheVariants as did
use Rattle.nob_model_types.specs.Sessions.{number, item_spelt, item_at}
use Rattle.nob_model_types.specs.Objects.{exports, is_live}
use Rattle.nob_model_types.specs.Turns.{turns, is_granted, is_usable}
use Rattle.nob_model_history.specs.declared.history.History.{History}
use Rattle.nob_model_history.specs.Histories.{history_of}
use Rattle.nob_model_history.specs.Ends.{calls_at}
use Rattle.nob_model_history.specs.Transit.{count_to, sent, is_settle_of, has_bundle, is_idle, by_last_dirty}
use Rattle.nob_model_history.specs.Premises.{AcceptsNext, InTurn, SettlesSent, AnswersPending, TookTurns, ObjectsInTurn}
use Rattle.nob_model_session.proofs.Arriving.{right_came}
use Rattle.nob_model_history.proofs.Arriving.{front_payload}
use Rattle.nob_model_history.proofs.Pinning.{bundle_sent}
use Rattle.nob_model_acting.specs.Acting.{fault_of, fault_if, awaits_answer}
use Rattle.nob_model.specs.Right.{right_after}
use Rattle.nob_model.specs.Lists.{IsRightDeed, AreRightDeeds}
use Rattle.nob_model.proofs.Doing.{was_answered}
use Rattle.nob_model.proofs.Accepted.{found_passes, export_tells, withdraw_tells, act_tells, clean_tells, arrive_tells}

-- ---- frames

turn_step : (s n : ℕ) (limits : Limits) (deed : Deed) (D : List Deed) → IsRightDeed s n limits deed D → AcceptsNext s n deed D
unfolding right_after
turn_step s n limits (did.Arrive frame count) D right =
    right_came s frame.from limits (ends.Arrive frame (Ok (arrived.Took count))) (calls_at frame.from (history_of s n D)) (sym (arrive_tells s n count frame (history_of s n D) (was_answered s n limits (did.Arrive frame count) D right)).2)
turn_step s n limits deed D right = tt

-- in a list of right deeds each one accepted the next items or none
pub in_turn : (s n : ℕ) (limits : Limits) (D : List Deed) → AreRightDeeds s n limits D → InTurn s n D
in_turn s n limits [] right = tt
in_turn s n limits (deed ∷ D) right = (turn_step s n limits deed D right.0, in_turn s n limits D right.1)

-- ---- items

-- item k from p, where the end with p tells it as its front
pub front_item : (s n p : ℕ) (D : List Deed) → InTurn s n D → (k : ℕ) (payload : List ℕ) (item : Item) → right_front (calls_at p (history_of s n D)) ≡ Some (k, payload) → item_spelt payload ≡ Some item → item_at p k D ≡ Some item
front_item s n p D turn k payload item front spelt = ap (option_and_then item_spelt) (front_payload s n p D turn k payload front) ∙ spelt

-- the item that was acted on, which had no fault
pub item_acted : (s n : ℕ) (limits : Limits) (p k : ℕ) (D : List Deed) → InTurn s n D → IsRightDeed s n limits (did.Act p k) D → (item : Item) × (item_at p k D ≡ Some item) × (fault_of s n p item (history_of s n D) ≡ None)
unfolding right_after
item_acted s n limits p k D turn right =
    let told = (act_tells s n p k (history_of s n D) (was_answered s n limits (did.Act p k) D right)).2 in
    (told.1, front_item s n p D turn k told.0 told.1 told.2 told.3, told.4)

pub no_fault : (test : Bool) (reason : Reason) → fault_if test reason ≡ None → test ≡ false
no_fault true reason e = absurd (some_none reason e)
  where
    some_none : (reason : Reason) → Some reason ≡ None → ⊥
    some_none reason e = cc
no_fault false reason e = refl

-- a Settle without a fault is of an item that was sent
settle_known : (s n p k : ℕ) (item : Item) (D : List Deed) → fault_of s n p item (history_of s n D) ≡ None → is_settle_of k (Some item) ≡ true → k ≤ count_to p (number p D) (sent (history_of s n D))
unfolding fault_of
settle_known s n p k (items.Settle m) D none is = subst (λ (j : ℕ). j ≤ count_to p (number p D) (sent (history_of s n D))) (eqb-true m k is) (bundle_sent s n p m D (not-false (has_bundle p m (history_of s n D)) (no_fault _ OutOfPlace none)))
settle_known s n p k (items.Call call target method value) D none is = cc
settle_known s n p k (items.Reply call status value) D none is = cc
settle_known s n p k (items.Dirty index) D none is = cc
settle_known s n p k (items.DirtyOk index) D none is = cc
settle_known s n p k (items.DirtyNo index) D none is = cc
settle_known s n p k (items.Clean index) D none is = cc

-- in a list of right deeds each Settle that was acted on was of an item that was sent before
pub settles_sent : (s n : ℕ) (limits : Limits) (D : List Deed) → AreRightDeeds s n limits D → SettlesSent s n D
settles_sent s n limits [] right = tt
settles_sent s n limits (did.Act p j ∷ D) right =
    let known = item_acted s n limits p j D (in_turn s n limits D right.1) right.0 in
    (λ k is. settle_known s n p k known.0 D known.2 (ap (is_settle_of k) (sym known.1) ∙ is), settles_sent s n limits D right.1)
settles_sent s n limits (deed ∷ D) right = settles_sent s n limits D right.1

-- an answer without a fault is to a Dirty that waits for one
answer_known : (s n p : ℕ) (item : Item) (D : List Deed) → fault_of s n p item (history_of s n D) ≡ None → AnswersPending s n p (Some item) D
unfolding fault_of
answer_known s n p (items.DirtyOk index) D none = not-false (awaits_answer s n p index (history_of s n D)) (no_fault _ OutOfPlace none)
answer_known s n p (items.DirtyNo index) D none = not-false (awaits_answer s n p index (history_of s n D)) (no_fault _ OutOfPlace none)
answer_known s n p (items.Settle m) D none = tt
answer_known s n p (items.Call call target method value) D none = tt
answer_known s n p (items.Reply call status value) D none = tt
answer_known s n p (items.Dirty index) D none = tt
answer_known s n p (items.Clean index) D none = tt

-- a reference that was given up was granted
clean_granted : (s n : ℕ) (limits : Limits) (rep : WireRep) (D : List Deed) → IsRightDeed s n limits (did.Clean rep) D → is_granted (turns s n rep D) ≡ true
unfolding right_after
clean_granted s n limits rep D right =
    let h : History = history_of s n D in
    let idle = found_passes (is_idle s n h) (by_last_dirty h) rep (clean_tells s n rep h (was_answered s n limits (did.Clean rep) D right)).0 in
    (and_parts _ _ (and_parts (is_usable s n rep D) _ (and_parts _ _ idle).0).0).0

-- in a list of right deeds client and owner took turns
pub took_turns : (s n : ℕ) (limits : Limits) (D : List Deed) → AreRightDeeds s n limits D → TookTurns s n D
took_turns s n limits [] right = tt
took_turns s n limits (did.Act p k ∷ D) right =
    let known = item_acted s n limits p k D (in_turn s n limits D right.1) right.0 in
    (subst (λ (found : Option Item). AnswersPending s n p found D) (sym known.1) (answer_known s n p known.0 D known.2), took_turns s n limits D right.1)
took_turns s n limits (did.Clean rep ∷ D) right = (clean_granted s n limits rep D right.0, took_turns s n limits D right.1)
took_turns s n limits (deed ∷ D) right = took_turns s n limits D right.1

-- ---- objects

-- an Export answered the next index
export_next : (s n : ℕ) (limits : Limits) (rep : WireRep) (D : List Deed) → IsRightDeed s n limits (did.Export rep) D → rep ≡ record { owner = s; index = length (exports D) + 1 }
unfolding right_after
export_next s n limits rep D right = (export_tells s rep (history_of s n D) (was_answered s n limits (did.Export rep) D right)).0

-- a Withdraw took an object that was live
withdrawn_live : (s n : ℕ) (limits : Limits) (index : ℕ) (D : List Deed) → IsRightDeed s n limits (did.Withdraw index) D → is_live s index D ≡ true
unfolding right_after
withdrawn_live s n limits index D right = (withdraw_tells s index (history_of s n D) (was_answered s n limits (did.Withdraw index) D right)).1

-- in a list of right deeds objects were exported and withdrawn in turn
pub objects_in_turn : (s n : ℕ) (limits : Limits) (D : List Deed) → AreRightDeeds s n limits D → ObjectsInTurn s D
objects_in_turn s n limits [] right = tt
objects_in_turn s n limits (did.Export rep ∷ D) right = (export_next s n limits rep D right.0, objects_in_turn s n limits D right.1)
objects_in_turn s n limits (did.Withdraw index ∷ D) right = (withdrawn_live s n limits index D right.0, objects_in_turn s n limits D right.1)
objects_in_turn s n limits (deed ∷ D) right = objects_in_turn s n limits D right.1
