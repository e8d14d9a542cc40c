-- By a deed and the raised one lists in step stay so: the ends, pins and what is asked for, and all together.
use Rattle.std.proofs.Common.{◌≡◌, ℕ, ◌+◌, ◌≤◌, ◌&&◌, ◌||◌, not, max, Bool, true, false, cond, List, [], ◌∷◌, ◌++◌, length, map, filter, Option, Some, None, Ok, refl, sym, ap, subst, ◌∙◌, arith, append_assoc}
use Rattle.std.specs.Prelude.{◌==◌}
use Rattle.std.specs.List.{list_any, AllByRecursion}
use Rattle.std.proofs.lemmas.Bool.{eqb-true, and_parts, and_right, both_ways}
use Rattle.std.proofs.lemmas.List.{append-nil}
use Rattle.std.proofs.lemmas.List.Elements.{filter-append}
use Rattle.nob_ids.specs.Names.{is_same}
use Rattle.nob_ids.specs.declared.limits.Limits.{Limits}
use Rattle.nob_ids.specs.declared.wire_rep.WireRep.{WireRep}
use Rattle.nob_frame.specs.declared.frame.Frame.{Frame}
use Rattle.nob_item.specs.Kinds.{counted_in}
use Rattle.nob_item.specs.declared.item.Item.{Item}
use Rattle.nob_item.specs.declared.item.Item.TheVariants as items
use Rattle.nob_model_session.specs.End.{seen}
use Rattle.nob_model_session.specs.declared.entry.Arrived.{Arrived}
use Rattle.nob_model_session.specs.declared.entry.Arrived.TheVariants as arrived
use Rattle.nob_model_session.specs.declared.entry.EndEntry.{EndEntry}
use Rattle.nob_model_session.specs.declared.entry.EndEntry.TheVariants as ends
use Rattle.nob_model_session.specs.End as end
use Rattle.nob_ids.specs.declared.reason.Reason.{Reason}
use Rattle.nob_model_types.specs.declared.deed.Deed.{Deed}
use Rattle.nob_model_types.specs.declared.deed.Deed.TheVariants as did
use Rattle.nob_model_types.specs.declared.deed.Cause.{Cause}
use Rattle.nob_model_types.specs.declared.deed.Cause.TheVariants as causes
use Rattle.nob_model_types.specs.declared.turns.Turns.{Turns}
use Rattle.nob_model_types.specs.declared.turns.OwnerAnswer.{OwnerAnswer}
use Rattle.nob_model_types.specs.declared.turns.OwnerAnswer.TheVariants as said
use Rattle.nob_model_types.specs.Sessions.{closed, number, item_at}
use Rattle.nob_model_types.specs.Turns.{no_turns, turns, turns_after, wants_dirty, with_dirty, with_answer, with_clean, carries, names}
use Rattle.nob_model_work.specs.declared.gifts.Gift.{Gift}
use Rattle.nob_model_work.specs.Work.{work}
use Rattle.nob_model_work.specs.Gifts.{once, gifts, gifts_of_act, dirties_for}
use Rattle.nob_model_history.specs.declared.transit.SentItem.{SentItem}
use Rattle.nob_model_history.specs.Histories.{history_of}
use Rattle.nob_model_history.specs.Ends.{items_to, kind_of, payload_of, with_sends, call_of_closing, own_calls, calls_at}
use Rattle.nob_model_history.specs.Transit.{is_sent_to, count_to, next_sent, sent, is_settled, is_settle_of, is_some_of, is_of_present, is_pinned, bundles, dirties, once_last, by_last_dirty}
use Rattle.nob_model_history.proofs.Asking.{is_among}
use Rattle.nob_model_history.proofs.Dirtying.{asked_in, dirties_more, message_asks, once_last_push, same_flip}
use Rattle.nob_model_history.proofs.Numbered.{count_handed}
use Rattle.nob_model_history.proofs.Pinning.{filter_and, filter_same, bundles_more}
use Rattle.nob_model_history.proofs.Sending.{new_items, count_push}
use Rattle.nob_model_history.proofs.Turning.{same_ref}
use Rattle.nob_model.specs.Lists.{IsRightDeed, AreRightDeeds}
use Rattle.nob_model.specs.Opening.{next_number}
use Rattle.nob_model.proofs.Reopening.{open_seen, opened_each, numbers_rise}
use Rattle.nob_model_jobs.specs.Alike.{AreEndsAlike}
use Rattle.nob_model_jobs.proofs.InStep.{AreInStep, is_asked, all_asked, filter_among}
use Rattle.nob_model_jobs.proofs.Steps.{raised_deed, exported_step, withdrawn_step, balanced_step, settled_step, entered_step, shut_step, numbered_step, turned_step, called_step, claimed_step}
use Rattle.nob_model_jobs.proofs.Working.{gifts_same, outstanding_step}
use Rattle.nob_model_jobs.proofs.EndsStep.{call_ends_if, sends_ends}

-- ---- the ends

own_ends : (more p : ℕ) (deed : Deed) (a b : List EndEntry) → AreEndsAlike a b → AreEndsAlike (own_calls p deed a) (own_calls p (raised_deed more deed) b)
own_ends more p (did.Act q k) a b its = call_ends_if a b its (q == p) ends.Take
own_ends more p (did.Transmit q frames) a b its = call_ends_if a b its (q == p) (ends.Transmit frames)
own_ends more p (did.Arrive frame count) a b its = call_ends_if a b its (frame.from == p) (ends.Arrive frame (Ok (arrived.Took count)))
own_ends more p (did.Tick q) a b its = call_ends_if a b its (q == p) (ends.Tick (Ok None))
own_ends more p (did.Closing q reason cause) a b its = call_ends_if a b its (q == p) (call_of_closing p reason cause)
own_ends more p (did.Open q k) a b its = call_ends_if a b its (q == p) (ends.Reopen k (Ok tt))
own_ends more p deed a b its = its

-- ---- the numbers of the next sessions

sends_unseen : (sends : List Item) (calls : List EndEntry) → seen (with_sends sends calls) ≡ seen calls
sends_unseen [] calls = refl
sends_unseen (item ∷ sends) calls = sends_unseen sends (ends.Send (payload_of item) (kind_of item) (Ok (length (end.handed calls) + 1)) ∷ calls)

next_unheard : (m k : ℕ) (test : Bool) (entry : EndEntry) (a b : List EndEntry) → seen (entry ∷ a) ≡ seen a → seen (entry ∷ b) ≡ seen b → max m (seen a) ≡ max k (seen b) → max m (seen (cond test (entry ∷ a) a)) ≡ max k (seen (cond test (entry ∷ b) b))
next_unheard m k true entry a b one two same = ap (max m) one ∙ same ∙ ap (max k) (sym two)
next_unheard m k false entry a b one two same = same

next_heard : (m k : ℕ) (test : Bool) (frame : Frame) (answer : Arrived) (a b : List EndEntry) → max m (seen a) ≡ max k (seen b) → max m (seen (cond test (ends.Arrive frame (Ok answer) ∷ a) a)) ≡ max k (seen (cond test (ends.Arrive frame (Ok answer) ∷ b) b))
next_heard m k true frame answer a b same = heard m k (seen a) (seen b) frame.session same
  where
    heard : (m k x y z : ℕ) → max m x ≡ max k y → max m (max x z) ≡ max k (max y z)
    heard m k x y z same = omega (arith, same)
next_heard m k false frame answer a b same = same

next_closing : (m k p : ℕ) (test : Bool) (reason : Reason) (cause : Cause) (a b : List EndEntry) → max m (seen a) ≡ max k (seen b) → max m (seen (cond test (call_of_closing p reason cause ∷ a) a)) ≡ max k (seen (cond test (call_of_closing p reason cause ∷ b) b))
next_closing m k p test reason causes.Item a b same = next_unheard m k test (call_of_closing p reason causes.Item) a b refl refl same
next_closing m k p test reason (causes.Frame frame) a b same = next_heard m k test frame (arrived.Closed (record { peer = p; reason = reason })) a b same
next_closing m k p test reason causes.Ticks a b same = next_unheard m k test (call_of_closing p reason causes.Ticks) a b refl refl same
next_closing m k p test reason causes.Asked a b same = next_unheard m k test (call_of_closing p reason causes.Asked) a b refl refl same

next_opened : (m k j : ℕ) (test : Bool) (a b : List EndEntry) → (test ≡ true → seen a ≤ j) → (test ≡ true → seen b ≤ j) → max (m + 1) (seen a) ≡ max (k + 1) (seen b) → max (cond test j m + 1) (seen (cond test (ends.Reopen j (Ok tt) ∷ a) a)) ≡ max (cond test j k + 1) (seen (cond test (ends.Reopen j (Ok tt) ∷ b) b))
next_opened m k j true a b one two same = (let low = one refl in let low2 = two refl in above (seen a) (seen b) j low low2)
  where
    above : (x y j : ℕ) → x ≤ j → y ≤ j → max (j + 1) x ≡ max (j + 1) y
    above x y j one two = omega (arith, one, two)
next_opened m k j false a b one two same = same

-- ---- pins

pinned_less : (a b c x d y : Bool) → (a && b && not (x || c) && not (y || d)) ≡ true → (a && b && not c && not d) ≡ true
pinned_less true true false false false false is = refl
pinned_less true true false false false true is = cc
pinned_less true true false false true true is = cc
pinned_less true true false false true false is = cc
pinned_less true true false true d y is = cc
pinned_less true true true true d y is = cc
pinned_less true true true false d y is = cc
pinned_less true false c x d y is = cc
pinned_less false b c x d y is = cc

all_each : {X : Type 0} (P : X → Type 0) → ((x : X) → P x) → (xs : List X) → AllByRecursion P xs
all_each P each [] = tt
all_each P each (x ∷ xs) = (each x, all_each P each xs)

-- what has pins after a deed had them before, if it was sent before
pinned_before : (s n : ℕ) (limits : Limits) (deed : Deed) (D : List Deed) → AreRightDeeds s n limits D → IsRightDeed s n limits deed D → AllByRecursion (λ (one : SentItem). is_pinned (deed ∷ D) one ≡ true → is_pinned D one ≡ true) (sent (history_of s n D))
pinned_before s n limits (did.Open p k) D before right = opened_each s n limits p k D (right, before)
pinned_before s n limits (did.Act p k) D before right = all_each _ (λ one. pinned_less (is_some_of (counted_in one.item)) (is_of_present D one) (is_settled one.to one.number D) (p == one.to && is_settle_of one.number (item_at p k D)) (closed one.to D) false) (sent (history_of s n D))
pinned_before s n limits (did.Closing p reason cause) D before right = all_each _ (λ one. pinned_less (is_some_of (counted_in one.item)) (is_of_present D one) (is_settled one.to one.number D) false (closed one.to D) (p == one.to)) (sent (history_of s n D))
pinned_before s n limits deed D before right = all_each _ (λ one is. is) (sent (history_of s n D))

filter_among_on : {X : Type 0} (weaker test : X → Bool) (xs : List X) → AllByRecursion (λ x. test x ≡ true → weaker x ≡ true) xs → filter test xs ≡ filter test (filter weaker xs)
filter_among_on weaker test [] all = refl
filter_among_on {X = X} weaker test (x ∷ xs) all = filter_step (weaker x) (test x) refl all.0 (filter_among_on weaker test xs all.1)
  where
    filter_step : (w t : Bool) → test x ≡ t → (t ≡ true → w ≡ true) → filter test xs ≡ filter test (filter weaker xs) → cond t (x ∷ filter test xs) (filter test xs) ≡ filter test (cond w (x ∷ filter weaker xs) (filter weaker xs))
    filter_step true t is passes rest = (λ i. cond (sym is i) (x ∷ rest i) (rest i))
    filter_step false true is passes rest = absurd (both_ways false refl (passes refl))
    filter_step false false is passes rest = rest

bundles_by : (s n : ℕ) (limits : Limits) (deed : Deed) (D : List Deed) → AreRightDeeds s n limits D → IsRightDeed s n limits deed D → bundles (history_of s n (deed ∷ D)) ≡ filter (is_pinned (deed ∷ D)) (bundles (history_of s n D)) ++ filter (is_pinned (deed ∷ D)) (new_items D (sent (history_of s n D)) (gifts s n deed D (work s n D)))
bundles_by s n limits deed D before right =
    bundles_more s n deed D
    ∙ ap (λ (all : List SentItem). all ++ filter (is_pinned (deed ∷ D)) (new_items D (sent (history_of s n D)) (gifts s n deed D (work s n D)))) (filter_among_on (is_pinned D) (is_pinned (deed ∷ D)) (sent (history_of s n D)) (pinned_before s n limits deed D before right))

-- ---- who is among some references

left_among : (a b w : Bool) → (a ≡ true → w ≡ true) → (a || (b && w)) ≡ ((a || b) && w)
left_among true b w same = sym (same refl)
left_among false b w same = refl

left_out : (a b w : Bool) → (a ≡ true → w ≡ false) → (b && w) ≡ ((a || b) && w)
left_out true b w same = and_right b w (same refl) ∙ sym (same refl)
left_out false b w same = refl

among_step : (test : WireRep → Bool) (rep other : WireRep) (reps kept : List WireRep) → is_among kept rep ≡ (is_among reps rep && test rep) → (b : Bool) → test other ≡ b → is_among (cond b (other ∷ kept) kept) rep ≡ ((is_same other rep || is_among reps rep) && test rep)
among_step test rep other reps kept are true is = ap (λ (c : Bool). is_same other rep || c) are ∙ left_among (is_same other rep) (is_among reps rep) (test rep) (λ same. ap test (sym (same_ref other rep same)) ∙ is)
among_step test rep other reps kept are false is = are ∙ left_out (is_same other rep) (is_among reps rep) (test rep) (λ same. ap test (sym (same_ref other rep same)) ∙ is)

among_filter : (test : WireRep → Bool) (rep : WireRep) (reps : List WireRep) → is_among (filter test reps) rep ≡ (is_among reps rep && test rep)
among_filter test rep [] = refl
among_filter test rep (other ∷ reps) = among_step test rep other reps (filter test reps) (among_filter test rep reps) (test other) refl

or_not : (a b : Bool) → (a || (b && not a)) ≡ (a || b)
or_not true b = refl
or_not false true = refl
or_not false false = refl

among_once : (rep : WireRep) (reps : List WireRep) → is_among (once reps) rep ≡ list_any (is_same rep) reps
among_once rep [] = refl
among_once rep (first ∷ reps) =
    ap (λ (c : Bool). is_same first rep || c) (among_filter (λ (other : WireRep). not (is_same first other)) rep (once reps))
    ∙ or_not (is_same first rep) (is_among (once reps) rep)
    ∙ ap (λ (c : Bool). c || is_among (once reps) rep) (same_flip first rep)
    ∙ ap (λ (c : Bool). is_same rep first || c) (among_once rep reps)

-- ---- what is asked for

asks_if : (carried wants among shut : Bool) (t : Turns) → among ≡ (carried && wants) → among ≡ false → ((cond (carried && wants) (with_dirty t) t).asks && not shut) ≡ true → (t.asks && not shut) ≡ true
asks_if true true among shut t is none asked = cc
asks_if true false among shut t is none asked = asked
asks_if false wants among shut t is none asked = asked

answer_asks : (b : Bool) (answer : OwnerAnswer) (shut : Bool) (t : Turns) → ((cond b (with_answer answer t) t).asks && not shut) ≡ true → (t.asks && not shut) ≡ true
answer_asks true answer shut t asked = asked
answer_asks false answer shut t asked = asked

message_asked : (s n p k : ℕ) (item : Item) (rep : WireRep) (D : List Deed) → item_at p k D ≡ Some item → gifts_of_act s n p D (Some item) ≡ dirties_for s n D (counted_in item) → is_among (asked_in (gifts s n (did.Act p k) D (work s n D))) rep ≡ false → ((cond (carries rep item && wants_dirty s n rep D (turns s n rep D)) (with_dirty (turns s n rep D)) (turns s n rep D)).asks && not (closed rep.owner D)) ≡ true → is_asked s n D rep ≡ true
message_asked s n p k item rep D is message none asked =
    asks_if (carries rep item) (wants_dirty s n rep D (turns s n rep D)) (is_among (asked_in (gifts s n (did.Act p k) D (work s n D))) rep) (closed rep.owner D) (turns s n rep D)
    (ap (λ (reps : List WireRep). is_among reps rep) (message_asks s n p k item D (work s n D) is message)
    ∙ among_filter (λ (other : WireRep). wants_dirty s n other D (turns s n other D)) rep (once (counted_in item))
    ∙ ap (λ (b : Bool). b && wants_dirty s n rep D (turns s n rep D)) (among_once rep (counted_in item)))
    none asked

act_asked : (s n p k : ℕ) (rep : WireRep) (D : List Deed) (found : Option Item) → item_at p k D ≡ found → is_among (asked_in (gifts s n (did.Act p k) D (work s n D))) rep ≡ false → ((turns_after s n p rep found D (turns s n rep D)).asks && not (closed rep.owner D)) ≡ true → is_asked s n D rep ≡ true
unfolding gifts_of_act
act_asked s n p k rep D None is none asked = asked
act_asked s n p k rep D (Some (items.Call call target method value)) is none asked = message_asked s n p k (items.Call call target method value) rep D is refl none asked
act_asked s n p k rep D (Some (items.Reply call status value)) is none asked = message_asked s n p k (items.Reply call status value) rep D is refl none asked
act_asked s n p k rep D (Some (items.Settle item)) is none asked = asked
act_asked s n p k rep D (Some (items.Dirty index)) is none asked = asked
act_asked s n p k rep D (Some (items.DirtyOk index)) is none asked = answer_asks (names rep p index) said.Granted (closed rep.owner D) (turns s n rep D) asked
act_asked s n p k rep D (Some (items.DirtyNo index)) is none asked = answer_asks (names rep p index) said.Refused (closed rep.owner D) (turns s n rep D) asked
act_asked s n p k rep D (Some (items.Clean index)) is none asked = asked

open_asks : (b shut : Bool) (t : Turns) → ((cond b no_turns t).asks && not (cond b false shut)) ≡ true → (t.asks && not shut) ≡ true
open_asks true shut t asked = cc
open_asks false shut t asked = asked

clean_asks : (b shut : Bool) (t : Turns) → ((cond b (with_clean t) t).asks && not shut) ≡ true → (t.asks && not shut) ≡ true
clean_asks true shut t asked = cc
clean_asks false shut t asked = asked

close_asks : (b shut asks : Bool) → (asks && not (b || shut)) ≡ true → (asks && not shut) ≡ true
close_asks true shut true asked = cc
close_asks true shut false asked = cc
close_asks false shut asks asked = asked

-- what is asked for after a deed was asked for before, or is now
asked_before : (s n : ℕ) (deed : Deed) (D : List Deed) (rep : WireRep) → is_among (asked_in (gifts s n deed D (work s n D))) rep ≡ false → is_asked s n (deed ∷ D) rep ≡ true → is_asked s n D rep ≡ true
asked_before s n (did.Act p k) D rep none asked = act_asked s n p k rep D (item_at p k D) refl none asked
asked_before s n (did.Open q k) D rep none asked = open_asks (q == rep.owner) (closed rep.owner D) (turns s n rep D) asked
asked_before s n (did.Clean other) D rep none asked = clean_asks (is_same rep other) (closed rep.owner D) (turns s n rep D) asked
asked_before s n (did.Closing q reason cause) D rep none asked = close_asks (q == rep.owner) (closed rep.owner D) (turns s n rep D).asks asked
asked_before s n deed D rep none asked = asked

and_true : (b : Bool) → b ≡ (b && not false)
and_true true = refl
and_true false = refl

not_or : (a t b : Bool) → (not a && (t && not b)) ≡ (t && not (a || b))
not_or true true b = refl
not_or true false b = refl
not_or false t b = refl

-- more references asked for stand last, whatever stood before of them
order_alike : (test : WireRep → Bool) (more X Y : List WireRep) → filter (λ (rep : WireRep). test rep && not (is_among more rep)) (once_last X) ≡ filter (λ (rep : WireRep). test rep && not (is_among more rep)) (once_last Y) → filter test (once_last (X ++ more)) ≡ filter test (once_last (Y ++ more))
order_alike test [] X Y same =
    ap (λ (reps : List WireRep). filter test (once_last reps)) (append-nil X)
    ∙ filter_same test (λ (rep : WireRep). test rep && not false) (λ rep. and_true (test rep)) (once_last X)
    ∙ same
    ∙ sym (filter_same test (λ (rep : WireRep). test rep && not false) (λ rep. and_true (test rep)) (once_last Y))
    ∙ ap (λ (reps : List WireRep). filter test (once_last reps)) (sym (append-nil Y))
order_alike test (first ∷ more) X Y same =
    let others : WireRep → Bool = λ (rep : WireRep). test rep && not (is_among more rep) in
    let push : (Z : List WireRep) → filter others (once_last (Z ++ first ∷ [])) ≡ filter (λ (rep : WireRep). test rep && not (is_same first rep || is_among more rep)) (once_last Z) ++ filter others (first ∷ []) = λ Z.
    ap (filter others) (once_last_push first Z)
    ∙ filter-append others (filter (λ (rep : WireRep). not (is_same first rep)) (once_last Z)) (first ∷ [])
    ∙ ap (λ (reps : List WireRep). reps ++ filter others (first ∷ [])) (sym (filter_and (λ (rep : WireRep). not (is_same first rep)) others (once_last Z)) ∙ filter_same _ _ (λ rep. not_or (is_same first rep) (test rep) (is_among more rep)) (once_last Z)) in
    ap (λ (reps : List WireRep). filter test (once_last reps)) (sym (append_assoc X (first ∷ []) more))
    ∙ order_alike test more (X ++ first ∷ []) (Y ++ first ∷ []) (push X ∙ ap (λ (reps : List WireRep). reps ++ filter others (first ∷ [])) same ∙ sym (push Y))
    ∙ ap (λ (reps : List WireRep). filter test (once_last reps)) (append_assoc Y (first ∷ []) more)

module _ (s n : ℕ) (limits : Limits) (more : ℕ) (D E : List Deed) (its : AreInStep s n more D E) where
  ends_step : (deed : Deed) (p : ℕ) → AreEndsAlike (calls_at p (history_of s n (deed ∷ D))) (calls_at p (history_of s n (raised_deed more deed ∷ E)))
  ends_step deed p = own_ends more p deed (with_sends (items_to p (gifts s n deed D (work s n D))) (calls_at p (history_of s n D))) (with_sends (items_to p (gifts s n (raised_deed more deed) E (work s n E))) (calls_at p (history_of s n E)))
      (subst (λ (given : List Gift). AreEndsAlike (with_sends (items_to p (gifts s n deed D (work s n D))) (calls_at p (history_of s n D))) (with_sends (items_to p given) (calls_at p (history_of s n E)))) (gifts_same s n more D E its deed)
      (sends_ends (items_to p (gifts s n deed D (work s n D))) (calls_at p (history_of s n D)) (calls_at p (history_of s n E)) (its.ends p)))

  -- the calls once what a deed gave is sent
  abbrev given_to : ℕ → Deed → List Deed → List EndEntry
  given_to p deed C = with_sends (items_to p (gifts s n deed C (work s n C))) (calls_at p (history_of s n C))

  unseen : (p : ℕ) (deed : Deed) (C : List Deed) → seen (given_to p deed C) ≡ seen (calls_at p (history_of s n C))
  unseen p deed C = sends_unseen (items_to p (gifts s n deed C (work s n C))) (calls_at p (history_of s n C))

  next_given : (deed : Deed) (p : ℕ) → max (number p D + 1) (seen (given_to p deed D)) ≡ max (number p E + 1) (seen (given_to p (raised_deed more deed) E))
  next_given deed p = ap (max (number p D + 1)) (unseen p deed D) ∙ its.next p ∙ ap (max (number p E + 1)) (sym (unseen p (raised_deed more deed) E))

  next_step : (deed : Deed) → IsRightDeed s n limits deed D → IsRightDeed s n limits (raised_deed more deed) E → (p : ℕ) → next_number p (history_of s n (deed ∷ D)) ≡ next_number p (history_of s n (raised_deed more deed ∷ E))
  next_step (did.Act q k) one two p = next_unheard (number p D + 1) (number p E + 1) (q == p) ends.Take (given_to p (did.Act q k) D) (given_to p (did.Act q k) E) refl refl (next_given (did.Act q k) p)
  next_step (did.Transmit q frames) one two p = next_unheard (number p D + 1) (number p E + 1) (q == p) (ends.Transmit frames) (given_to p (did.Transmit q frames) D) (given_to p (did.Transmit q frames) E) refl refl (next_given (did.Transmit q frames) p)
  next_step (did.Arrive frame count) one two p = next_heard (number p D + 1) (number p E + 1) (frame.from == p) frame (arrived.Took count) (given_to p (did.Arrive frame count) D) (given_to p (did.Arrive frame count) E) (next_given (did.Arrive frame count) p)
  next_step (did.Tick q) one two p = next_unheard (number p D + 1) (number p E + 1) (q == p) (ends.Tick (Ok None)) (given_to p (did.Tick q) D) (given_to p (did.Tick q) E) refl refl (next_given (did.Tick q) p)
  next_step (did.Closing q reason cause) one two p = next_closing (number p D + 1) (number p E + 1) p (q == p) reason cause (given_to p (did.Closing q reason cause) D) (given_to p (did.Closing q reason cause) E) (next_given (did.Closing q reason cause) p)
  next_step (did.Open q k) one two p =
      next_opened (number p D) (number p E) k (q == p) (given_to p (did.Open q k) D) (given_to p (did.Open q k) E)
      (λ own. let low = open_seen s n limits q k D one in let same = ap seen (ap (λ (r : ℕ). calls_at r (history_of s n D)) (eqb-true q p own)) in let sends = unseen p (did.Open q k) D in omega (arith, low, same, sends))
      (λ own. let low = open_seen s n limits q k E two in let same = ap seen (ap (λ (r : ℕ). calls_at r (history_of s n E)) (eqb-true q p own)) in let sends = unseen p (did.Open q k) E in omega (arith, low, same, sends))
      (next_given (did.Open q k) p)
  next_step deed one two p = next_given deed p

  -- ---- pins

  pinned_same : (deed : Deed) (one : SentItem) → is_pinned (deed ∷ D) one ≡ is_pinned (raised_deed more deed ∷ E) one
  pinned_same deed one = λ i. is_some_of (counted_in one.item) && one.session == numbered_step s n more D E its deed one.to i && not (settled_step s n more D E its deed one.to one.number i) && not (shut_step s n more D E its deed one.to i)

  -- as many items were sent to each peer in the present session
  abbrev SameCounts : List SentItem → List SentItem → Type 0
  SameCounts X Y = (p : ℕ) → count_to p (number p D) X ≡ count_to p (number p E) Y

  next_same : (X Y : List SentItem) → SameCounts X Y → (gift : Gift) → next_sent D X gift ≡ next_sent E Y gift
  next_same X Y same gift = λ i. record { to = gift.to; session = its.numbered gift.to i; number = same gift.to i + 1; item = gift.item; owners = map (λ (rep : WireRep). its.numbered rep.owner i) (counted_in gift.item) }

  push_same : (X Y : List SentItem) → SameCounts X Y → (gift : Gift) → SameCounts (X ++ next_sent D X gift ∷ []) (Y ++ next_sent E Y gift ∷ [])
  push_same X Y same gift p =
      count_push p (number p D) X (next_sent D X gift)
      ∙ (λ i. same p i + cond (is_sent_to p (its.numbered p i) (next_same X Y same gift i)) 1 0)
      ∙ sym (count_push p (number p E) Y (next_sent E Y gift))

  new_same : (given : List Gift) (X Y : List SentItem) → SameCounts X Y → new_items D X given ≡ new_items E Y given
  new_same [] X Y same = refl
  new_same (gift ∷ given) X Y same = λ i. next_same X Y same gift i ∷ new_same given (X ++ next_sent D X gift ∷ []) (Y ++ next_sent E Y gift ∷ []) (push_same X Y same gift) i

  counts_same : AreRightDeeds s n limits D → AreRightDeeds s n limits E → SameCounts (sent (history_of s n D)) (sent (history_of s n E))
  counts_same one two p = sym (count_handed s n p D (numbers_rise s n limits D one)) ∙ ap length (its.ends p).sent ∙ count_handed s n p E (numbers_rise s n limits E two)

  bundled_step : (deed : Deed) → AreRightDeeds s n limits D → AreRightDeeds s n limits E → IsRightDeed s n limits deed D → IsRightDeed s n limits (raised_deed more deed) E → bundles (history_of s n (deed ∷ D)) ≡ bundles (history_of s n (raised_deed more deed ∷ E))
  bundled_step deed one two right right2 =
      bundles_by s n limits deed D one right
      ∙ ap (λ (new : List SentItem). filter (is_pinned (deed ∷ D)) (bundles (history_of s n D)) ++ filter (is_pinned (deed ∷ D)) new)
      (new_same (gifts s n deed D (work s n D)) (sent (history_of s n D)) (sent (history_of s n E)) (counts_same one two) ∙ ap (new_items E (sent (history_of s n E))) (gifts_same s n more D E its deed))
      ∙ (λ i. filter (λ (item : SentItem). pinned_same deed item i) (its.bundled i) ++ filter (λ (item : SentItem). pinned_same deed item i) (new_items E (sent (history_of s n E)) (gifts s n (raised_deed more deed) E (work s n E))))
      ∙ sym (bundles_by s n limits (raised_deed more deed) E two right2)

  -- ---- what is asked for

  asked_same : (rep : WireRep) → is_asked s n D rep ≡ is_asked s n E rep
  asked_same rep = λ i. (its.turned rep i).asks && not (its.shut rep.owner i)

  still_asked_same : (deed : Deed) (rep : WireRep) → is_asked s n (deed ∷ D) rep ≡ is_asked s n (raised_deed more deed ∷ E) rep
  still_asked_same deed rep = λ i. (turned_step s n more D E its deed rep i).asks && not (shut_step s n more D E its deed rep.owner i)

  asked_step : (deed : Deed) → all_asked s n (deed ∷ D) ≡ all_asked s n (raised_deed more deed ∷ E)
  asked_step deed =
      let now : WireRep → Bool = is_asked s n (deed ∷ D) in
      let new : List WireRep = asked_in (gifts s n deed D (work s n D)) in
      let kept : WireRep → Bool = λ (rep : WireRep). now rep && not (is_among new rep) in
      let before : (rep : WireRep) → kept rep ≡ true → is_asked s n D rep ≡ true = λ rep is.
      asked_before s n deed D rep (not_true (is_among new rep) (and_parts (now rep) (not (is_among new rep)) is).1) (and_parts (now rep) (not (is_among new rep)) is).0 in
      ap (λ (reps : List WireRep). filter now (once_last reps)) (dirties_more s n deed D)
      ∙ order_alike now new (dirties (history_of s n D)) (dirties (history_of s n E))
      (filter_among (is_asked s n D) kept (by_last_dirty (history_of s n D)) before
      ∙ ap (filter kept) its.asked
      ∙ sym (filter_among (is_asked s n E) kept (by_last_dirty (history_of s n E)) (λ rep is. sym (asked_same rep) ∙ before rep is)))
      ∙ (λ i. filter (λ (rep : WireRep). still_asked_same deed rep i) (once_last (dirties (history_of s n E) ++ asked_in (gifts_same s n more D E its deed i))))
      ∙ sym (ap (λ (reps : List WireRep). filter (is_asked s n (raised_deed more deed ∷ E)) (once_last reps)) (dirties_more s n (raised_deed more deed) E))
    where
      not_true : (b : Bool) → not b ≡ true → b ≡ false
      not_true true is = cc
      not_true false is = refl

  -- lists in step stay so by a deed and the raised one
  pub step : AreRightDeeds s n limits D → AreRightDeeds s n limits E → (deed : Deed) → IsRightDeed s n limits deed D → IsRightDeed s n limits (raised_deed more deed) E → AreInStep s n more (deed ∷ D) (raised_deed more deed ∷ E)
  step one two deed right right2 = record {
    exported = exported_step s n more D E its deed;
    withdrawn = withdrawn_step s n more D E its deed;
    balanced = balanced_step s n more D E its deed;
    bundled = bundled_step deed one two right right2;
    settled = settled_step s n more D E its deed;
    entered = entered_step s n more D E its deed;
    shut = shut_step s n more D E its deed;
    numbered = numbered_step s n more D E its deed;
    next = next_step deed right right2;
    ends = ends_step deed;
    turned = turned_step s n more D E its deed;
    asked = asked_step deed;
    outstanding = outstanding_step s n more D E its deed;
    called = called_step s n more D E its deed;
    claimed = claimed_step s n more D E its deed;
  }
