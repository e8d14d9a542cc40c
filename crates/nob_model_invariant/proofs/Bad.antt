-- No session closes for a bad item: what is acted on was read, and no frame acknowledges what was never transmitted.
use Rattle.std.proofs.Common.{◌≡◌, ℕ, ◌+◌, ◌≤◌, ◌&&◌, not, Bool, true, false, cond, List, [], ◌∷◌, length, Option, Some, None, Result, Ok, Err, refl, sym, ap, subst, ◌∙◌, arith}
use Rattle.std.specs.Prelude.{◌==◌, ◌≢◌, ◌||◌, nat_lt, nat_le}
use Rattle.std.specs.List.{AllByRecursion, list_any}
use Rattle.std.proofs.lemmas.Bool.{eqb-true, le-ltb, or_parts, false_from_ne_true}
use Rattle.std.proofs.lemmas.Bool.Decides.{nat_tests}
use Rattle.nob_ids.specs.declared.limits.Limits.{Limits}
use Rattle.nob_ids.specs.declared.reason.Reason.{Reason}
use Rattle.nob_ids.specs.declared.reason.Reason.TheVariants.{PeerClosed, Asked, RetriesUsedUp, BadItem, BadReference, OutOfPlace}
use Rattle.nob_frame.specs.declared.frame.Frame.{Frame}
use Rattle.nob_frame.specs.Kinds.{is_close}
use Rattle.nob_item.specs.declared.item.Item.{Item}
use Rattle.nob_item.specs.declared.item.Item.TheVariants as items
use Rattle.nob_model_session.specs.End.{number, is_open, accepted, transmitted, is_out, ticks}
use Rattle.nob_model_session.specs.Right.{is_of_pair, taken_by}
use Rattle.nob_model_session.proofs.Sessions.{up_to_present}
use Rattle.nob_model_session.specs.declared.entry.Ending.{Ending}
use Rattle.nob_model_session.specs.declared.entry.Arrived.{Arrived}
use Rattle.nob_model_session.specs.declared.entry.Arrived.TheVariants as arrived
use Rattle.nob_model_session.specs.declared.entry.EndEntry.{EndEntry}
use Rattle.nob_model_session.specs.declared.refusal.EndRefusal.{EndRefusal}
use Rattle.nob_model_session.specs.declared.refusal.EndRefusal.TheVariants as end_refusals
use Rattle.nob_model_types.specs.declared.event.Event.{Event}
use Rattle.nob_model_types.specs.declared.event.Event.TheVariants as events
use Rattle.nob_model_types.specs.declared.answer.Answer.{Answer}
use Rattle.nob_model_types.specs.declared.answer.Answer.TheVariants as answers
use Rattle.nob_model_types.specs.declared.refusal.Refusal.{Refusal}
use Rattle.nob_model_types.specs.declared.entry.Entry.{Entry}
use Rattle.nob_model_types.specs.Sessions.{is_peer}
use Rattle.nob_model_history.specs.declared.history.History.{History}
use Rattle.nob_model_history.specs.Ends.{calls_at}
use Rattle.nob_model_acting.specs.Acting.{fault_if, first_fault, fault_of, names_not_live, awaits_reply}
use Rattle.nob_model_types.specs.Objects.{is_live}
use Rattle.nob_model.specs.Right.{right_after}
use Rattle.nob_model.proofs.Accepted.{ClosesFor, fault_tells, arrive_end_tells, tick_end_tells, close_tells}
use Rattle.nob_model_journal.specs.Journals.{history_at}
use Rattle.nob_model_journal.specs.Runs.{ArrivesGiven, WorldRun}
use Rattle.nob_model_invariant.specs.Typed.{AreOfTypes}
use Rattle.nob_model_invariant.specs.SafetyInvariant.{is_bad_item, calls_in}
use Rattle.nob_model_invariant.specs.SafetyLaws.{ReadingsLaw}
use Rattle.nob_model_invariant.proofs.Carried.{frames_carried}
use Rattle.nob_model_invariant.proofs.Order.{reached_in, all_fit, front_is_next, self_peer}
use Rattle.nob_model_invariant.proofs.Closing.{Closes, others_keep}

-- ---- reasons

peer_bad : PeerClosed ≡ BadItem → ⊥
peer_bad e = cc

asked_bad : Asked ≡ BadItem → ⊥
asked_bad e = cc

retries_bad : RetriesUsedUp ≡ BadItem → ⊥
retries_bad e = cc

reference_bad : BadReference ≡ BadItem → ⊥
reference_bad e = cc

place_bad : OutOfPlace ≡ BadItem → ⊥
place_bad e = cc

some_reason : (a b : Reason) → Some a ≡ Some b → a ≡ b
some_reason a b e = cc

none_reason : (a : Reason) → None ≡ Some a → ⊥
none_reason a e = cc

-- ---- faults

fault_bad : (test : Bool) (reason : Reason) → (reason ≡ BadItem → ⊥) → fault_if test reason ≡ Some BadItem → ⊥
fault_bad true reason other e = other (some_reason reason BadItem e)
fault_bad false reason other e = none_reason BadItem e

first_bad : (one two : Option Reason) → (one ≡ Some BadItem → ⊥) → (two ≡ Some BadItem → ⊥) → first_fault one two ≡ Some BadItem → ⊥
first_bad (Some reason) two first second e = first e
first_bad None two first second e = second e

-- an item that was read has no such fault
item_bad : (s n p : ℕ) (item : Item) (h : History) → fault_of s n p item h ≡ Some BadItem → ⊥
unfolding fault_of
item_bad s n p (items.Call call target method value) h e = first_bad (fault_if (not (target == 0) && not (is_live s target h.deeds)) BadReference) (fault_if (names_not_live s (items.Call call target method value) h) BadReference) (fault_bad (not (target == 0) && not (is_live s target h.deeds)) BadReference reference_bad) (fault_bad (names_not_live s (items.Call call target method value) h) BadReference reference_bad) e
item_bad s n p (items.Reply call status value) h e = first_bad (fault_if (not (list_any (awaits_reply p call) h.work.calls)) OutOfPlace) (fault_if (names_not_live s (items.Reply call status value) h) BadReference) (fault_bad (not (list_any (awaits_reply p call) h.work.calls)) OutOfPlace place_bad) (fault_bad (names_not_live s (items.Reply call status value) h) BadReference reference_bad) e
item_bad s n p (items.Settle item) h e = fault_bad _ OutOfPlace place_bad e
item_bad s n p (items.Dirty index) h e = fault_bad _ BadReference reference_bad e
item_bad s n p (items.DirtyOk index) h e = fault_bad _ OutOfPlace place_bad e
item_bad s n p (items.DirtyNo index) h e = fault_bad _ OutOfPlace place_bad e
item_bad s n p (items.Clean index) h e = fault_bad _ BadReference reference_bad e

-- ---- ends

-- a result of an arrival that is no refusal
abbrev arrives : Arrived → Result Arrived EndRefusal
arrives did = Ok did

refused : (refusal : EndRefusal) (a : Arrived) → Err refusal ≡ arrives a → ⊥
refused refusal a e = cc

took_ended : (count : ℕ) (ending : Ending) → arrives (arrived.Took count) ≡ arrives (arrived.Closed ending) → ⊥
took_ended count ending e = cc

same_ending : (one ending : Ending) → arrives (arrived.Closed one) ≡ arrives (arrived.Closed ending) → one ≡ ending
same_ending one ending e = cc

-- an arrival that acknowledges only what was transmitted closes a session as its peer did
arrival_reason : (strange older shut ends_it behind : Bool) (count : ℕ) (one two ending : Ending) → (older ≡ false → ends_it ≡ false → behind ≡ false) → cond strange (Err end_refusals.Strange) (Ok (cond older (arrived.Took 0) (cond shut (arrived.Took 0) (cond ends_it (arrived.Closed one) (cond behind (arrived.Closed two) (arrived.Took count)))))) ≡ arrives (arrived.Closed ending) → one ≡ ending
arrival_reason true older shut ends_it behind count one two ending known e = absurd (refused end_refusals.Strange _ e)
arrival_reason false true shut ends_it behind count one two ending known e = absurd (took_ended 0 ending e)
arrival_reason false false true ends_it behind count one two ending known e = absurd (took_ended 0 ending e)
arrival_reason false false false true behind count one two ending known e = same_ending one ending e
arrival_reason false false false false true count one two ending known e = absurd (let clash : true ≡ false = known refl refl in cc)
arrival_reason false false false false false count one two ending known e = absurd (took_ended count ending e)

-- a result of a tick that is no refusal
abbrev ticked : Option Ending → Result (Option Ending) EndRefusal
ticked ending = Ok ending

tick_reason : (up full : Bool) (one ending : Ending) → cond (not up) (Err end_refusals.Closed) (cond full (Ok (Some one)) (Ok None)) ≡ ticked (Some ending) → one ≡ ending
tick_reason true true one ending e = cc
tick_reason true false one ending e = absurd (let clash : ticked None ≡ ticked (Some ending) = e in cc)
tick_reason false full one ending e = absurd (let clash : Err end_refusals.Closed ≡ ticked (Some ending) = e in cc)

-- a result of a close that is no refusal
abbrev closes : Ending → Result Ending EndRefusal
closes ending = Ok ending

close_reason : (up : Bool) (one ending : Ending) → cond (not up) (Err end_refusals.Closed) (Ok one) ≡ closes ending → one ≡ ending
close_reason true one ending e = cc
close_reason false one ending e = absurd (let clash : Err end_refusals.Closed ≡ closes ending = e in cc)

-- ---- events

act_bad : (s n p : ℕ) (limits : ℕ → Limits) (J : List Entry) → WorldRun n limits J → AreOfTypes J → Closes (right_after s n (limits s) (history_at s n J) (events.Act p)) BadItem → ⊥
unfolding right_after
act_bad s n p limits J run typed e =
    let told = fault_tells s n p BadItem (history_at s n J) e in
    let front = told.2 in
    let next = front_is_next p s n front.0 limits front.1 J run (all_fit n limits J run typed p) told.0 front.2 in
    item_bad s n p next.item (history_at s n J) (subst (λ found. ClosesFor s n p BadItem found (history_at s n J)) next.spelt front.3)

-- a frame that is neither older nor newer is of the present session
in_session : (m k : ℕ) → nat_lt m k ≡ false → nat_lt k m ≡ false → k ≡ m
in_session m k older newer = grind (arith, nat_tests, older, newer)

-- it acknowledges no more than was transmitted
acknowledged : (frame : Frame) (count : ℕ) (calls : List EndEntry) → frame.ack ≤ count + 1 → count ≤ transmitted calls → nat_lt (transmitted calls + 1) frame.ack ≡ false
acknowledged frame count calls carried reach = le-ltb _ _ (omega (arith, carried, reach))

arrive_bad : (s n : ℕ) (frame : Frame) (limits : ℕ → Limits) (J : List Entry) → WorldRun n limits J → ArrivesGiven (events.Arrive frame) J → Closes (right_after s n (limits s) (history_at s n J) (events.Arrive frame)) BadItem → ⊥
unfolding right_after
arrive_bad s n frame limits J run given_it e =
    let told = arrive_end_tells s n BadItem frame (history_at s n J) e in
    let calls : List EndEntry = calls_at frame.from (history_at s n J) in
    let peers : List EndEntry = calls_in n frame.from s frame.session J in
    let apart : s ≢ frame.from = λ same. self_peer s n (subst (λ (q : ℕ). is_peer s n q ≡ true) (sym same) told.1) in
    let carried : frame.ack ≤ length (accepted peers) + 1 = subst (λ (q : ℕ). frame.ack ≤ length (accepted (calls_in n frame.from q frame.session J)) + 1) (eqb-true frame.to s told.0) (frames_carried n limits J run frame given_it).acknowledges in
    let reach : length (accepted peers) ≤ transmitted (calls_in n s frame.from frame.session J) = (reached_in s frame.from n frame.session limits J apart run).accepted_transmitted in
    let known : nat_lt frame.session (number calls) ≡ false → (nat_lt (number calls) frame.session || is_close frame.kind) ≡ false → nat_lt (transmitted calls + 1) frame.ack ≡ false = λ older newer. acknowledged frame (length (accepted peers)) calls carried (subst (λ those. length (accepted peers) ≤ transmitted those) (up_to_present frame.session calls (in_session frame.session (number calls) older (or_parts (nat_lt (number calls) frame.session) (is_close frame.kind) newer).0)) reach) in
    let ended : record_of frame.from ≡ told.2.0 = arrival_reason (not (is_of_pair s frame.from frame)) (nat_lt frame.session (number calls)) (not (is_open calls)) (nat_lt (number calls) frame.session || is_close frame.kind) (nat_lt (transmitted calls + 1) frame.ack) (taken_by frame calls) (record_of frame.from) (record { peer = frame.from; reason = BadItem }) told.2.0 known told.2.1 in
    peer_bad (ap (λ (ending : Ending). ending.reason) ended ∙ told.2.2)
  where
    record_of : ℕ → Ending
    record_of p = record { peer = p; reason = PeerClosed }

tick_bad : (s n p : ℕ) (limits : Limits) (h : History) → Closes (right_after s n limits h (events.Tick p)) BadItem → ⊥
unfolding right_after
tick_bad s n p limits h e =
    let told = (tick_end_tells s n p limits.retry BadItem h e).1 in
    let calls : List EndEntry = calls_at p h in
    retries_bad (ap (λ (ending : Ending). ending.reason) (tick_reason (is_open calls) (is_out calls && nat_le limits.retry (ticks calls + 1)) (record { peer = p; reason = RetriesUsedUp }) told.0 told.1) ∙ told.2)

close_bad : (s n p : ℕ) (limits : Limits) (h : History) → Closes (right_after s n limits h (events.Close p)) BadItem → ⊥
unfolding right_after
close_bad s n p limits h e =
    let told = (close_tells s n p BadItem h e).1 in
    asked_bad (ap (λ (ending : Ending). ending.reason) (close_reason (is_open (calls_at p h)) (record { peer = p; reason = Asked }) told.0 told.1) ∙ told.2)

-- no event closes a session for a bad item
event_bad : (s n : ℕ) (limits : ℕ → Limits) (J : List Entry) (event : Event) → WorldRun n limits J → AreOfTypes J → ArrivesGiven event J → Closes (right_after s n (limits s) (history_at s n J) event) BadItem → ⊥
event_bad s n limits J (events.Act p) run typed given_it e = act_bad s n p limits J run typed e
event_bad s n limits J (events.Arrive frame) run typed given_it e = arrive_bad s n frame limits J run given_it e
event_bad s n limits J (events.Tick p) run typed given_it e = tick_bad s n p (limits s) (history_at s n J) e
event_bad s n limits J (events.Close p) run typed given_it e = close_bad s n p (limits s) (history_at s n J) e
event_bad s n limits J event run typed given_it e = others_keep s n (limits s) (history_at s n J) event BadItem refl e

bad_is : (result : Result Answer Refusal) → is_bad_item result ≡ true → Closes result BadItem
bad_is (Ok (answers.Closed BadItem)) is = refl
bad_is (Ok (answers.Closed PeerClosed)) is = cc
bad_is (Ok (answers.Closed Asked)) is = cc
bad_is (Ok (answers.Closed RetriesUsedUp)) is = cc
bad_is (Ok (answers.Closed BadReference)) is = cc
bad_is (Ok (answers.Closed OutOfPlace)) is = cc
bad_is _ is = cc

-- in every run of a world no session closes for a bad item
pub readings : ReadingsLaw
readings n limits J run typed = record { none_bad = all_good J run typed }
  where
    one_good : (entry : Entry) (J : List Entry) → WorldRun n limits (entry ∷ J) → AreOfTypes J → is_bad_item entry.result ≡ false
    one_good entry J run typed = false_from_ne_true _ (λ bad. event_bad entry.space n limits J entry.event run.1 typed run.0.arrives (sym run.0.is_right ∙ bad_is entry.result bad))

    all_good : (J : List Entry) → WorldRun n limits J → AreOfTypes J → AllByRecursion (λ entry. is_bad_item entry.result ≡ false) J
    all_good [] run typed = tt
    all_good (entry ∷ J) run typed = (one_good entry J run typed.1, all_good J run.1 typed.1)
