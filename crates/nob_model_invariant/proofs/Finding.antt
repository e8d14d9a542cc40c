-- Every reference is found: what comes next has no fault, and so no session closes for a fault in what came over it.
use Rattle.std.proofs.Common.{◌≡◌, ℕ, ◌+◌, ◌&&◌, not, Bool, true, false, cond, List, [], ◌∷◌, length, Option, Some, None, Result, Ok, Err, refl, sym, ap, subst, ◌∙◌}
use Rattle.std.specs.Prelude.{◌==◌, ◌≢◌, ◌||◌, nat_lt, nat_le}
use Rattle.std.specs.List.{AllByRecursion, list_any}
use Rattle.std.proofs.lemmas.Bool.{eqb-true, eq-eqb, and_from, or_left, or_right, or_from, not_from_true, false_from_ne_true}
use Rattle.nob_ids.specs.Names.{is_same}
use Rattle.nob_ids.specs.declared.limits.Limits.{Limits}
use Rattle.nob_ids.specs.declared.reason.Reason.{Reason}
use Rattle.nob_ids.specs.declared.reason.Reason.TheVariants.{PeerClosed, Asked, RetriesUsedUp, BadItem, BadReference, OutOfPlace}
use Rattle.nob_ids.specs.declared.wire_rep.WireRep.{WireRep}
use Rattle.nob_frame.specs.declared.frame.Frame.{Frame}
use Rattle.nob_frame.specs.Kinds.{is_close}
use Rattle.nob_item.specs.Kinds.{counted_in}
use Rattle.nob_item.specs.declared.item.Item.{Item}
use Rattle.nob_item.specs.declared.item.Item.TheVariants as items
use Rattle.nob_model_session.specs.End.{number, is_open, transmitted, is_out, ticks}
use Rattle.nob_model_session.specs.Right.{is_of_pair, taken_by}
use Rattle.nob_model_session.specs.declared.entry.Ending.{Ending}
use Rattle.nob_model_session.specs.declared.entry.Arrived.{Arrived}
use Rattle.nob_model_session.specs.declared.entry.Arrived.TheVariants as arrived
use Rattle.nob_model_session.specs.declared.entry.EndEntry.{EndEntry}
use Rattle.nob_model_session.specs.declared.refusal.EndRefusal.{EndRefusal}
use Rattle.nob_model_session.specs.declared.refusal.EndRefusal.TheVariants as end_refusals
use Rattle.nob_model_types.specs.declared.event.Event.{Event}
use Rattle.nob_model_types.specs.declared.event.Event.TheVariants as events
use Rattle.nob_model_types.specs.declared.answer.Answer.{Answer}
use Rattle.nob_model_types.specs.declared.answer.Answer.TheVariants as answers
use Rattle.nob_model_types.specs.declared.refusal.Refusal.{Refusal}
use Rattle.nob_model_types.specs.declared.entry.Entry.{Entry}
use Rattle.nob_model_types.specs.Sessions.{is_peer}
use Rattle.nob_model_types.specs.Objects.{is_live}
use Rattle.nob_model_types.specs.Turns.{is_own, carries}
use Rattle.nob_model_history.specs.declared.history.History.{History}
use Rattle.nob_model_history.specs.Ends.{calls_at}
use Rattle.nob_model_history.specs.Listing.{is_entered}
use Rattle.nob_model_history.proofs.Dirtying.{same_self}
use Rattle.nob_model_acting.specs.Sending.{is_gone}
use Rattle.nob_model_acting.specs.Acting.{fault_if, first_fault, fault_of, names_not_live}
use Rattle.nob_model.specs.Right.{right_after, own_ref}
use Rattle.nob_model.proofs.Accepted.{ClosesFor, fault_tells, arrive_end_tells, tick_end_tells, close_tells}
use Rattle.nob_model.proofs.Waiting.{all_weaker}
use Rattle.nob_model_journal.specs.Journals.{deeds_at, history_at, closed_at, sent_to, acted_from}
use Rattle.nob_model_journal.specs.Runs.{WorldRun}
use Rattle.nob_model_journal.specs.Findings.{is_fault, is_fault_found, Found}
use Rattle.nob_model_invariant.specs.Typed.{AreOfTypes}
use Rattle.nob_model_invariant.specs.SafetyInvariant.{is_bad_item}
use Rattle.nob_model_invariant.proofs.Bad.{readings}
use Rattle.nob_model_invariant.proofs.Closing.{Closes, others_keep}
use Rattle.nob_model_invariant.proofs.Order.{all_fit, front_is_next, self_peer}
use Rattle.nob_model_invariant.proofs.Places.{IsNext, note_in_place}
use Rattle.nob_model_invariant.proofs.SafetyPoints.{living}
use Rattle.nob_model_invariant.proofs.Unsettled.{settle_bundle}
use Rattle.nob_model_invariant.specs.Underway.{calls_object, needs_object, AreGuarded}
use Rattle.nob_model_invariant.specs.ArrivalLaws.{FoundLaw}
use Rattle.nob_model_invariant.proofs.Guarding.{next_behind, all_guarded}
use Rattle.nob_model_invariant.proofs.Answering.{reply_awaited}

-- ---- what comes next

module _ (n c o : ℕ) (limits : ℕ → Limits) (J : List Entry) (run : WorldRun n limits J) (typed : AreOfTypes J) (apart : c ≢ o) (up : closed_at o c J ≡ false) (item : Item) (next : IsNext n c o item J) where
  -- an object that it needs is live
  next_live : (x : ℕ) → needs_object o x item ≡ true → is_live o x (deeds_at o J) ≡ true
  next_live x needs =
      let guarded = subst (AreGuarded o x (is_entered o x c (deeds_at o J))) (next_behind (sent_to n c o J) (length (acted_from c o J)) item next) (all_guarded n c o x limits apart J run typed) in
      (living n limits J run).listed_live o x c (and_from _ _ (ap not up) (guarded.0 needs))

  ref_live : (rep : WireRep) → carries rep item ≡ true → is_gone o rep (history_at o n J) ≡ false
  ref_live rep carried = by (is_own o rep) refl
    where
      by : (own : Bool) → is_own o rep ≡ own → (own && not (is_live o rep.index (deeds_at o J))) ≡ false
      by true own = not_from_true _ (next_live rep.index (or_right (calls_object rep.index item) _ (subst (λ (q : ℕ). carries (own_ref q rep.index) item ≡ true) (eqb-true rep.owner o own) carried)))
      by false other = refl

  none_stand : (reps : List WireRep) → AllByRecursion (λ rep. carries rep item ≡ true) reps → list_any (λ rep. is_gone o rep (history_at o n J)) reps ≡ false
  none_stand [] all = refl
  none_stand (rep ∷ reps) all = or_from _ _ (ref_live rep all.0) (none_stand reps all.1)

  -- no own counted reference that it carries isn't live
  names_live : names_not_live o item (history_at o n J) ≡ false
  names_live = none_stand (counted_in item) (all_stand (counted_in item))
    where
      all_stand : (reps : List WireRep) → AllByRecursion (λ rep. list_any (is_same rep) reps ≡ true) reps
      all_stand [] = tt
      all_stand (rep ∷ reps) = (or_left (is_same rep rep) _ (same_self rep), all_weaker (λ r. list_any (is_same r) reps ≡ true) (λ r. list_any (is_same r) (rep ∷ reps) ≡ true) (λ r there. or_right (is_same r rep) _ there) reps (all_stand reps))

no_faults : (one two : Bool) (first second : Reason) → one ≡ false → two ≡ false → first_fault (fault_if one first) (fault_if two second) ≡ None
no_faults true two first second is also = cc
no_faults false true first second is also = cc
no_faults false false first second is also = refl

no_fault : (test : Bool) (reason : Reason) → test ≡ false → fault_if test reason ≡ None
no_fault true reason e = cc
no_fault false reason e = refl

-- what comes next on a session that is open has no fault
next_faultless : (n c o : ℕ) (limits : ℕ → Limits) (J : List Entry) → WorldRun n limits J → AreOfTypes J → c ≢ o → closed_at o c J ≡ false → (item : Item) → IsNext n c o item J → fault_of o n c item (history_at o n J) ≡ None
unfolding fault_of
next_faultless n c o limits J run typed apart up (items.Call call target method value) next =
    no_faults _ _ BadReference BadReference (by (target == 0) refl) (names_live n c o limits J run typed apart up (items.Call call target method value) next)
  where
    by : (agent : Bool) → (target == 0) ≡ agent → (not agent && not (is_live o target (deeds_at o J))) ≡ false
    by true agent = refl
    by false other = not_from_true _ (next_live n c o limits J run typed apart up (items.Call call target method value) next target (or_left _ _ (and_from (not (target == 0)) (target == target) (ap not other) (eq-eqb target target refl))))
next_faultless n c o limits J run typed apart up (items.Reply call status value) next =
    no_faults _ _ OutOfPlace BadReference (not_from_true _ (reply_awaited n limits J run typed c o call status value up next)) (names_live n c o limits J run typed apart up (items.Reply call status value) next)
next_faultless n c o limits J run typed apart up (items.Settle item) next = no_fault _ OutOfPlace (not_from_true _ (settle_bundle n o c item limits J run typed up next))
next_faultless n c o limits J run typed apart up (items.Dirty index) next = (note_in_place n c o limits J index run typed).0 next
next_faultless n c o limits J run typed apart up (items.Clean index) next = (note_in_place n c o limits J index run typed).1 next
next_faultless n c o limits J run typed apart up (items.DirtyOk index) next = (note_in_place n c o limits J index run typed).2 next
next_faultless n c o limits J run typed apart up (items.DirtyNo index) next = (note_in_place n c o limits J index run typed).3 next

-- ---- reasons

none_reason : (reason : Reason) → None ≡ Some reason → ⊥
none_reason reason e = cc

peer_kind : (reason : Reason) → PeerClosed ≡ reason → is_fault reason ≡ true → ⊥
peer_kind reason same fault = let clash : false ≡ true = ap is_fault same ∙ fault in absurd (cc)

retries_kind : (reason : Reason) → RetriesUsedUp ≡ reason → is_fault reason ≡ true → ⊥
retries_kind reason same fault = let clash : false ≡ true = ap is_fault same ∙ fault in absurd (cc)

asked_kind : (reason : Reason) → Asked ≡ reason → is_fault reason ≡ true → ⊥
asked_kind reason same fault = let clash : false ≡ true = ap is_fault same ∙ fault in absurd (cc)

-- ---- ends

-- a result of an arrival that is no refusal
abbrev arrives : Arrived → Result Arrived EndRefusal
arrives did = Ok did

refused : (refusal : EndRefusal) (a : Arrived) → Err refusal ≡ arrives a → ⊥
refused refusal a e = cc

took_ended : (count : ℕ) (ending : Ending) → arrives (arrived.Took count) ≡ arrives (arrived.Closed ending) → ⊥
took_ended count ending e = cc

same_ending : (one ending : Ending) → arrives (arrived.Closed one) ≡ arrives (arrived.Closed ending) → one ≡ ending
same_ending one ending e = cc

-- an arrival closes a session as its peer did, or for a bad item
arrival_reason : (p : ℕ) (strange older shut ends_it behind : Bool) (count : ℕ) (ending : Ending) → cond strange (Err end_refusals.Strange) (Ok (cond older (arrived.Took 0) (cond shut (arrived.Took 0) (cond ends_it (arrived.Closed (record { peer = p; reason = PeerClosed })) (cond behind (arrived.Closed (record { peer = p; reason = BadItem })) (arrived.Took count)))))) ≡ arrives (arrived.Closed ending) → is_fault ending.reason ≡ true → BadItem ≡ ending.reason
arrival_reason p true older shut ends_it behind count ending e fault = absurd (refused end_refusals.Strange _ e)
arrival_reason p false true shut ends_it behind count ending e fault = absurd (took_ended 0 ending e)
arrival_reason p false false true ends_it behind count ending e fault = absurd (took_ended 0 ending e)
arrival_reason p false false false true behind count ending e fault = absurd (peer_kind ending.reason (ap (λ (one : Ending). one.reason) (same_ending (record { peer = p; reason = PeerClosed }) ending e)) fault)
arrival_reason p false false false false true count ending e fault = ap (λ (one : Ending). one.reason) (same_ending (record { peer = p; reason = BadItem }) ending e)
arrival_reason p false false false false false count ending e fault = absurd (took_ended count ending e)

-- a result of a tick that is no refusal
abbrev ticked : Option Ending → Result (Option Ending) EndRefusal
ticked ending = Ok ending

tick_reason : (up full : Bool) (one ending : Ending) → cond (not up) (Err end_refusals.Closed) (cond full (Ok (Some one)) (Ok None)) ≡ ticked (Some ending) → one ≡ ending
tick_reason true true one ending e = cc
tick_reason true false one ending e = absurd (let clash : ticked None ≡ ticked (Some ending) = e in cc)
tick_reason false full one ending e = absurd (let clash : Err end_refusals.Closed ≡ ticked (Some ending) = e in cc)

-- a result of a close that is no refusal
abbrev closes : Ending → Result Ending EndRefusal
closes ending = Ok ending

close_reason : (up : Bool) (one ending : Ending) → cond (not up) (Err end_refusals.Closed) (Ok one) ≡ closes ending → one ≡ ending
close_reason true one ending e = cc
close_reason false one ending e = absurd (let clash : Err end_refusals.Closed ≡ closes ending = e in cc)

-- ---- events

-- a fault closes a session for a bad item only
abbrev OnlyBad : Reason → Type 0
OnlyBad reason = is_fault reason ≡ true → BadItem ≡ reason

act_closes : (s n p : ℕ) (limits : ℕ → Limits) (J : List Entry) (reason : Reason) → WorldRun n limits J → AreOfTypes J → Closes (right_after s n (limits s) (history_at s n J) (events.Act p)) reason → ⊥
unfolding right_after
act_closes s n p limits J reason run typed e =
    let told = fault_tells s n p reason (history_at s n J) e in
    let front = told.2 in
    let next = front_is_next p s n front.0 limits front.1 J run (all_fit n limits J run typed p) told.0 front.2 in
    let apart : p ≢ s = λ same. self_peer s n (subst (λ (q : ℕ). is_peer s n q ≡ true) same told.0) in
    let none = next_faultless n p s limits J run typed apart told.1 next.item next.was_sent in
    none_reason reason (sym none ∙ subst (λ found. ClosesFor s n p reason found (history_at s n J)) next.spelt front.3)

arrive_closes : (s n : ℕ) (frame : Frame) (limits : Limits) (h : History) (reason : Reason) → Closes (right_after s n limits h (events.Arrive frame)) reason → OnlyBad reason
unfolding right_after
arrive_closes s n frame limits h reason e fault =
    let told = (arrive_end_tells s n reason frame h e).2 in
    let calls : List EndEntry = calls_at frame.from h in
    arrival_reason frame.from (not (is_of_pair s frame.from frame)) (nat_lt frame.session (number calls)) (not (is_open calls)) (nat_lt (number calls) frame.session || is_close frame.kind) (nat_lt (transmitted calls + 1) frame.ack) (taken_by frame calls) told.0 told.1 (ap is_fault told.2 ∙ fault) ∙ told.2

tick_closes : (s n p : ℕ) (limits : Limits) (h : History) (reason : Reason) → Closes (right_after s n limits h (events.Tick p)) reason → OnlyBad reason
unfolding right_after
tick_closes s n p limits h reason e fault =
    let told = (tick_end_tells s n p limits.retry reason h e).1 in
    let calls : List EndEntry = calls_at p h in
    absurd (retries_kind reason (ap (λ (ending : Ending). ending.reason) (tick_reason (is_open calls) (is_out calls && nat_le limits.retry (ticks calls + 1)) (record { peer = p; reason = RetriesUsedUp }) told.0 told.1) ∙ told.2) fault)

close_closes : (s n p : ℕ) (limits : Limits) (h : History) (reason : Reason) → Closes (right_after s n limits h (events.Close p)) reason → OnlyBad reason
unfolding right_after
close_closes s n p limits h reason e fault =
    let told = (close_tells s n p reason h e).1 in
    absurd (asked_kind reason (ap (λ (ending : Ending). ending.reason) (close_reason (is_open (calls_at p h)) (record { peer = p; reason = Asked }) told.0 told.1) ∙ told.2) fault)

-- no event closes a session for a fault in what came over it, but for a bad item
event_closes : (s n : ℕ) (limits : ℕ → Limits) (J : List Entry) (event : Event) (reason : Reason) → WorldRun n limits J → AreOfTypes J → Closes (right_after s n (limits s) (history_at s n J) event) reason → OnlyBad reason
event_closes s n limits J (events.Act p) reason run typed e = λ fault. absurd (act_closes s n p limits J reason run typed e)
event_closes s n limits J (events.Arrive frame) reason run typed e = arrive_closes s n frame (limits s) (history_at s n J) reason e
event_closes s n limits J (events.Tick p) reason run typed e = tick_closes s n p (limits s) (history_at s n J) reason e
event_closes s n limits J (events.Close p) reason run typed e = close_closes s n p (limits s) (history_at s n J) reason e
event_closes s n limits J event reason run typed e = λ fault. absurd (others_keep s n (limits s) (history_at s n J) event reason refl e)

-- ---- a run

bad_closed : (reason : Reason) (result : Result Answer Refusal) → result ≡ Ok (answers.Closed reason) → BadItem ≡ reason → is_bad_item result ≡ true
bad_closed reason result is bad = ap is_bad_item is ∙ ap (λ (r : Reason). is_bad_item (Ok (answers.Closed r))) (sym bad)

result_found : (result : Result Answer Refusal) → is_bad_item result ≡ false → ((reason : Reason) → result ≡ Ok (answers.Closed reason) → OnlyBad reason) → is_fault_found result ≡ false
result_found (Ok (answers.Closed reason)) good only = false_from_ne_true _ (λ fault. let bad = bad_closed reason (Ok (answers.Closed reason)) refl (only reason refl fault) in let clash : true ≡ false = sym bad ∙ good in absurd (cc))
result_found _ good only = refl

-- in every run of a world every reference is found
pub found_law : FoundLaw
found_law n limits J run typed = all_found J run typed (readings n limits J run typed).none_bad
  where
    all_found : (J : List Entry) → WorldRun n limits J → AreOfTypes J → AllByRecursion (λ entry. is_bad_item entry.result ≡ false) J → Found J
    all_found [] run typed good = tt
    all_found (entry ∷ J) run typed good = (
      result_found entry.result good.0 (λ reason is. event_closes entry.space n limits J entry.event reason run.1 typed.1 (sym run.0.is_right ∙ is)),
      all_found J run.1 typed.1 good.1,
    )
