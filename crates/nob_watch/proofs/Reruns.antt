-- What one entry more leaves of a run that is followed.
use Rattle.std.proofs.Common.{◌≡◌, ℕ, ◌+◌, ◌-◌, ◌≤◌, ◌<◌, ◌^◌, Bool, true, false, cond, ◌==◌, List, [], ◌∷◌, ◌++◌, length, map, filter, reverse, replicate, get_or, slice_get, Option, Some, None, inl, inr, refl, sym, ap, subst, ◌∙◌, arith}
use Prim.Native.Nat.{suc}
use Rattle.std.specs.Prelude.{Ok, Err}
use Rattle.std.proofs.lemmas.List.{length-reverse, reverse-append}
use Rattle.nob_ids.specs.declared.limits.Limits.{Limits}
use Rattle.nob_model_types.specs.declared.entry.Entry.{Entry}
use Rattle.nob_model_types.specs.declared.event.Event.{Event}
use Rattle.nob_model_types.specs.declared.event.Event.TheVariants as events
use Rattle.nob_model_journal.specs.Journals.{at}
use Rattle.nob_model_journal.specs.Runs.{ArrivesGiven}
use Rattle.nob_model_invariant.specs.Safe.{IsSafe}
use Rattle.nob_model_invariant.proofs.Safe.{safe_law}
use Rattle.nob_model_invariant.specs.Typed.{IsOfTypes}
use Rattle.nob_recall.specs.Next.{CanPass, place_of, stray_fault}
use Rattle.nob_recall.specs.declared.fault.WatchError.TheVariants.{Fault, OutOfMemory}
use Rattle.nob_recall.specs.declared.fault.WatchFault.{WatchFault}
use Rattle.nob_recall.specs.declared.fault.WatchFault.TheVariants as faults
use Rattle.nob_recall.specs.Recalls.{Recalled, Recalls, IsSame}
use Rattle.nob_recall.specs.Tables.{TableStands}
use Rattle.nob_recall.specs.declared.heard.Heard.{Heard}
use Rattle.nob_recall.specs.Remembering.{ArrivesRemembered, memory}
use Rattle.nob_recall.proofs.Forgetting.{remembered_were_transmitted}
use Rattle.nob_space.specs.Spaces.{Owner, StandsFor}
use Rattle.nob_recall.specs.declared.dated.Dated.{Dated}
use Rattle.nob_watch.specs.Sealing.{is_whole_seal}
use Rattle.nob_recall.specs.declared.dated.SegmentSeal.{SegmentSeal}
use Rattle.nob_watch.specs.Members.{AreLimits, IsMember, AreMembers, ArePlaces, IsAnswered}
use Rattle.nob_watch.proofs.Spaces.{list_got, read_there, places_none}
use Rattle.nob_watch.specs.Reruns.{journal_of, is_sealed, AreSealed, IsRun, IsSealFault, IsFaultBy, IsOriginFault, IsFound, Following, with_dated, with_fault, CanPassBy, IsLive, IsSound, IsRerun, HasTaken, IsFaultIn, Passes, PassesAfter}

-- ---- journals

pub journal_more : (passed : List Dated) (dated : Dated) → journal_of (passed ++ dated ∷ []) ≡ dated.entry ∷ journal_of passed
journal_more passed dated = ap (map (λ (d : Dated). d.entry)) (reverse-append passed (dated ∷ []))

pub sealed_more : (n : ℕ) (passed : List Dated) (dated : Dated) → AreSealed n (reverse passed) → is_sealed n dated.stamp dated.entry.space (dated.entry ∷ journal_of passed) dated.seal ≡ true → AreSealed n (reverse (passed ++ dated ∷ []))
sealed_more n passed dated are is = subst (AreSealed n) (sym (reverse-append passed (dated ∷ []))) (is, are)

filter_short : {X : Type 0} (test : X → Bool) (xs : List X) → length (filter test xs) ≤ length xs
filter_short test [] = omega arith
filter_short {X} test (x ∷ xs) = by (test x) (filter_short test xs)
  where
    by : (b : Bool) → length (filter test xs) ≤ length xs → length (cond b (x ∷ filter test xs) (filter test xs)) ≤ suc (length xs)
    by true low = omega (arith, low)
    by false low = omega (arith, low)

pub at_short : (p : ℕ) (J : List Entry) → length (at p J) ≤ length J
at_short p J = filter_short (λ (entry : Entry). entry.space == p) J

-- ---- seals

pub seal_of : (n : ℕ) (list : List Limits) (J : List Entry) (spaces : List Owner) (dated : Dated) (k : ℕ) (space : Owner) (own : SegmentSeal) (right : Bool)
    → AreMembers n list J spaces → k ≡ dated.entry.space - 1 → 1 ≤ dated.entry.space → dated.entry.space ≤ length spaces → space ≡ get_or spaces k space
    → ((L : List Entry) → StandsFor space L → right ≡ is_whole_seal space.id space.n dated.stamp L own.seal)
    → right ≡ is_sealed n dated.stamp dated.entry.space J (Some own)
seal_of n list J spaces dated k space own right are number low high is said =
    said (at dated.entry.space J) member.stands ∙ ap (λ (s : ℕ). is_whole_seal s space.n dated.stamp (at dated.entry.space J) own.seal) member.id ∙ ap (λ (m : ℕ). is_whole_seal dated.entry.space m dated.stamp (at dated.entry.space J) own.seal) member.count
  where
    there : slice_get spaces (dated.entry.space - 1) ≡ Some space
    there = read_there spaces dated.entry.space k space number low high is

    member : IsMember n list J dated.entry.space space
    member = subst (λ (q : ℕ). IsMember n list J q space) (let one : dated.entry.space - 1 + 1 ≡ dated.entry.space = omega (arith, low) in one) (are.stand (dated.entry.space - 1) space there)

pub seal_none : (n stamp space : ℕ) (J : List Entry) (seal : Option SegmentSeal) → seal ≡ None → is_sealed n stamp space J seal ≡ true
seal_none n stamp space J seal is = ap (is_sealed n stamp space J) is

-- ---- what is wrong with the next entry

-- its space answers otherwise
pub judged_wrong : (n : ℕ) (list : List Limits) (span : ℕ) (dated : Dated) (J : List Entry) (spaces : List Owner) (place : ℕ) (same : Bool)
    → place ≡ place_of dated.entry J → same ≡ false → IsAnswered n list J spaces dated.entry same → IsFaultBy n list span dated J (faults.NotARun dated.entry.space place)
judged_wrong n list span dated J spaces place same is fails answered =
    let other = subst (IsAnswered n list J spaces dated.entry) fails answered in
    λ its there. inl (inl (ap (faults.NotARun dated.entry.space) is, other its there))

-- or its frame has no origin
pub judged_stray : (n : ℕ) (list : List Limits) (span : ℕ) (dated : Dated) (J : List Entry) (spaces : List Owner) (place : ℕ) (fault : WatchFault) (same : Bool)
    → place ≡ place_of dated.entry J → same ≡ true → IsAnswered n list J spaces dated.entry same → IsOriginFault span dated.entry J place (Some fault) → IsFaultBy n list span dated J fault
judged_stray n list span dated J spaces place fault same is holds answered origin =
    let so = subst (IsAnswered n list J spaces dated.entry) holds answered in
    λ its there. inl (inr (record {
      right = so.2 its there;
      frame = origin.0;
      arrives = origin.1;
      stray = (origin.2.0, origin.2.1 ∙ ap (stray_fault origin.0 J dated.entry.space) is);
    }))

-- or the seal behind it is wrong, or nothing is wrong
pub judged_seal : (n : ℕ) (list : List Limits) (recall : Recalled) (dated : Dated) (J : List Entry) (spaces : List Owner) (place : ℕ) (found : Option WatchFault) (same : Bool)
    → same ≡ true → IsAnswered n list J spaces dated.entry same → IsOriginFault recall.span dated.entry J place None → IsSealFault n dated (dated.entry ∷ J) found → IsFound n list J spaces recall dated found
judged_seal n list recall dated J spaces place None same holds answered origin sealed =
    let so = subst (IsAnswered n list J spaces dated.entry) holds answered in
    (so.0, so.1, record { can = λ its there. record { right = so.2 its there; arrives = origin }; sealed = sealed })
judged_seal n list recall dated J spaces place (Some fault) same holds answered origin sealed =
    let so = subst (IsAnswered n list J spaces dated.entry) holds answered in
    λ its there. inr (record { right = so.2 its there; arrives = origin }, sealed)

-- the place that is kept is that of the next entry
pub place_is : (n : ℕ) (J : List Entry) (places : List ℕ) (entry : Entry) (k : ℕ) → ArePlaces n J places → k ≡ entry.space - 1 → 1 ≤ entry.space → entry.space ≤ length places → get_or places k 0 ≡ place_of entry J
place_is n J places entry k are number low high =
    let there : slice_get places (entry.space - 1) ≡ Some (get_or places (entry.space - 1) 0) = list_got places (entry.space - 1) 0 (omega (arith, low, high)) in
    let most : entry.space ≤ n = subst (λ (l : ℕ). entry.space ≤ l) are.each high in
    let both : Some (get_or places (entry.space - 1) 0) ≡ Some (length (at entry.space J) + 1) = sym there ∙ are.next entry.space low most in
    let is : get_or places (entry.space - 1) 0 ≡ length (at entry.space J) + 1 = cc in
    subst (λ (j : ℕ). get_or places j 0 ≡ length (at entry.space J) + 1) (sym number) is

-- the next place of a space is a number
pub place_low : (n : ℕ) (passed : List Dated) (places : List ℕ) (p place : ℕ) → ArePlaces n (journal_of passed) places → 1 ≤ p → p ≤ n → slice_get places (p - 1) ≡ Some place → length passed < 2 ^ 62 → place < 2 ^ 63
place_low n passed places p place are low high there short =
    let both : Some place ≡ Some (length (at p (journal_of passed)) + 1) = sym there ∙ are.next p low high in
    let is : place ≡ length (at p (journal_of passed)) + 1 = cc in
    let most : length (at p (journal_of passed)) ≤ length (journal_of passed) = at_short p (journal_of passed) in
    let count : length (journal_of passed) ≡ length passed = map_length (reverse passed) ∙ length-reverse passed in
    omega (arith, is, most, count, short)
  where
    map_length : (xs : List Dated) → length (map (λ (d : Dated). d.entry) xs) ≡ length xs
    map_length [] = refl
    map_length (x ∷ xs) = ap suc (map_length xs)

-- ---- the run

given : (span : ℕ) (event : Event) (J : List Entry) → ArrivesRemembered span event J → ArrivesGiven event J
given span (events.Arrive frame) J there = remembered_were_transmitted span J frame there
given span (_) J there = tt

pub run_more : (n span : ℕ) (list : List Limits) (J : List Entry) (entry : Entry) → IsRun n list J → 1 ≤ entry.space → entry.space ≤ n → IsOfTypes entry → ((its : Limits) → slice_get list (entry.space - 1) ≡ Some its → CanPass n its span entry J) → IsRun n list (entry ∷ J)
run_more n span list J entry is low high typed can = record {
  run = λ limits are. (
    let passes = can (limits entry.space) (are entry.space low high) in
        record { first = low; last = high; is_right = passes.right; arrives = given span entry.event J passes.arrives },
    is.run limits are,
  );
  typed = (typed, is.typed);
}

-- ---- safety

-- the limits of each space, by a list of them that isn't empty
abbrev limits_by : Limits → List Limits → ℕ → Limits
limits_by first list p = get_or list (p - 1) first

limits_are : (n : ℕ) (first : Limits) (list : List Limits) → length list ≡ n → AreLimits n (limits_by first list) list
limits_are n first list each p low high = list_got list (p - 1) first (omega (arith, each, low, high))

pub safe_of : (n : ℕ) (list : List Limits) (J : List Entry) → length list ≡ n → 1 ≤ n → IsRun n list J → IsSafe n J
safe_of n [] J each some is = absurd (omega (arith, each, some))
safe_of n (first ∷ rest) J each some is = safe_law n (limits_by first (first ∷ rest)) J (is.run (limits_by first (first ∷ rest)) (limits_are n first (first ∷ rest) each)) is.typed

-- ---- what is kept

-- nothing was passed yet
pub rerun_new : (n : ℕ) (list : List Limits) (passed : List Dated) (spaces : List Owner) (places : List ℕ) (recall : Recalled) → n ≡ length list → passed ≡ [] → 1 ≤ length list → length list ≤ 32 → AreMembers n list [] spaces → places ≡ replicate (length list) 1 → Recalls [] recall
    → IsRerun (record { n = n; limits = list; span = recall.span; passed = passed; fault = None }) spaces places recall
rerun_new n list passed spaces places recall count none some few members ones recalls = record {
  some = subst (λ (m : ℕ). 1 ≤ m) (sym count) some;
  few = subst (λ (m : ℕ). m ≤ 32) (sym count) few;
  each = sym count;
  run = subst (λ (ds : List Dated). IsRun n list (journal_of ds)) (sym none) (record { run = λ limits are. tt; typed = tt });
  sealed = subst (λ (ds : List Dated). AreSealed n (reverse ds)) (sym none) tt;
  sound = subst (λ (ds : List Dated). IsSound None n list (journal_of ds) spaces places recall) (sym none)
      (record { members = members; next = subst (ArePlaces n []) (sym (ones ∙ ap (λ (m : ℕ). replicate m 1) (sym count))) (places_none n); recalls = recalls });
}

-- the fields are the same
pub following_is : (new made : Following) → new.n ≡ made.n → new.limits ≡ made.limits → new.span ≡ made.span → new.passed ≡ made.passed → new.fault ≡ made.fault → new ≡ made
following_is new made n limits span passed fault = λ i. record { n = n i; limits = limits i; span = span i; passed = passed i; fault = fault i }

-- one entry more was passed
pub rerun_more : (old new : Following) (dated : Dated) (spaces spaces' : List Owner) (places places' : List ℕ) (recall recall' : Recalled) → IsRerun old spaces places recall → old.fault ≡ None → new ≡ with_dated dated old
    → HasTaken old.n old.limits (journal_of old.passed) old.span dated spaces' places' recall' (Ok tt) → IsRerun new spaces' places' recall'
rerun_more old new dated spaces spaces' places places' recall recall' is none made taken = subst (λ (f : Following). IsRerun f spaces' places' recall') (sym made) (record {
  some = is.some;
  few = is.few;
  each = is.each;
  run = subst (IsRun old.n old.limits) (sym (journal_more old.passed dated)) taken.1;
  sealed = sealed_more old.n old.passed dated is.sealed taken.2.sealed;
  sound = subst (λ (found : Option WatchFault). IsSound found old.n old.limits (journal_of (old.passed ++ dated ∷ [])) spaces' places' recall') (sym none)
      (subst (λ (J : List Entry). IsLive old.n old.limits J spaces' places' recall') (sym (journal_more old.passed dated)) taken.0);
})

-- it stops
pub rerun_stopped : (old new : Following) (fault : WatchFault) (spaces spaces' : List Owner) (places places' : List ℕ) (recall recall' : Recalled) → IsRerun old spaces places recall → new ≡ with_fault fault old → IsRerun new spaces' places' recall'
rerun_stopped old new fault spaces spaces' places places' recall recall' is made = subst (λ (f : Following). IsRerun f spaces' places' recall') (sym made) (record {
  some = is.some;
  few = is.few;
  each = is.each;
  run = is.run;
  sealed = is.sealed;
  sound = tt;
})

-- memory was wanted
pub rerun_same : (old new : Following) (spaces spaces' : List Owner) (places places' : List ℕ) (recall recall' : Recalled) → IsRerun old spaces places recall → old.fault ≡ None → new ≡ old → IsLive old.n old.limits (journal_of old.passed) spaces' places' recall' → IsRerun new spaces' places' recall'
rerun_same old new spaces spaces' places places' recall recall' is none made live = subst (λ (f : Following). IsRerun f spaces' places' recall') (sym made) (record {
  some = is.some;
  few = is.few;
  each = is.each;
  run = is.run;
  sealed = is.sealed;
  sound = subst (λ (found : Option WatchFault). IsSound found old.n old.limits (journal_of old.passed) spaces' places' recall') (sym none) live;
})

-- what is said then
pub passes_ok : (old new : Following) (dated : Dated) (spaces : List Owner) (places : List ℕ) (recall : Recalled) → old.fault ≡ None → HasTaken old.n old.limits (journal_of old.passed) old.span dated spaces places recall (Ok tt) → new ≡ with_dated dated old → Passes old new dated (Ok tt)
passes_ok old new dated spaces places recall none taken made = subst (λ (found : Option WatchFault). PassesAfter found old new dated (Ok tt)) (sym none) (taken.2, made)

pub passes_fault : (old new : Following) (dated : Dated) (fault : WatchFault) → old.fault ≡ None → IsFaultIn old dated fault → new ≡ with_fault fault old → Passes old new dated (Err (Fault fault))
passes_fault old new dated fault none is made = subst (λ (found : Option WatchFault). PassesAfter found old new dated (Err (Fault fault))) (sym none) (is, made)

pub passes_none : (old new : Following) (dated : Dated) → old.fault ≡ None → new ≡ old → Passes old new dated (Err OutOfMemory)
passes_none old new dated none made = subst (λ (found : Option WatchFault). PassesAfter found old new dated (Err OutOfMemory)) (sym none) made

pub passes_again : (old new : Following) (dated : Dated) (fault : WatchFault) → old.fault ≡ Some fault → new ≡ old → Passes old new dated (Err (Fault fault))
passes_again old new dated fault some made = subst (λ (found : Option WatchFault). PassesAfter found old new dated (Err (Fault fault))) (sym some) (refl, made)

-- where nothing is wrong yet all that is kept stands for what was passed
pub live_of : (old : Following) (spaces : List Owner) (places : List ℕ) (recall : Recalled) → IsRerun old spaces places recall → old.fault ≡ None → IsLive old.n old.limits (journal_of old.passed) spaces places recall
live_of old spaces places recall is none = subst (λ (found : Option WatchFault). IsSound found old.n old.limits (journal_of old.passed) spaces places recall) none is.sound

-- the same is remembered, whatever the room
recalls_same : (J : List Entry) (old new : Recalled) → IsSame old new → Recalls J old → Recalls J new
recalls_same J old new same is = record {
  memory_is = same.memory_is ∙ is.memory_is ∙ ap (λ (span : ℕ). memory span J) (sym same.span);
  table = subst (λ (t : List Heard). TableStands t J) (sym same.table) is.table;
}

pub live_same : (n : ℕ) (list : List Limits) (J : List Entry) (spaces : List Owner) (places : List ℕ) (old new : Recalled) → IsSame old new → IsLive n list J spaces places old → IsLive n list J spaces places new
live_same n list J spaces places old new same is = record { members = is.members; next = is.next; recalls = recalls_same J old new same is.recalls }

-- where there are spaces and places for an entry
pub spaces_here : (n p : ℕ) (list : List Limits) (J : List Entry) (spaces : List Owner) (places : List ℕ) (recall : Recalled) → p ≤ n → IsLive n list J spaces places recall → p ≤ length spaces
spaces_here n p list J spaces places recall high is = subst (λ (m : ℕ). p ≤ m) (sym is.members.each) high

pub places_here : (n p : ℕ) (list : List Limits) (J : List Entry) (spaces : List Owner) (places : List ℕ) (recall : Recalled) → p ≤ n → IsLive n list J spaces places recall → p ≤ length places
places_here n p list J spaces places recall high is = subst (λ (m : ℕ). p ≤ m) (sym is.next.each) high

-- what comes of an entry that was judged, and entered where nothing is wrong
pub taken_ok : (n : ℕ) (list : List Limits) (J : List Entry) (dated : Dated) (spaces : List Owner) (places places' : List ℕ) (old recall recall' : Recalled) → 1 ≤ dated.entry.space → dated.entry.space ≤ n
    → IsSame old recall → IsLive n list J spaces places old → IsRun n list J → (spaces' : List Owner) → IsFound n list J spaces' recall dated None
    → (ArePlaces n J places → ArePlaces n (dated.entry ∷ J) places') → (Recalls J recall → Recalls (dated.entry ∷ J) recall')
    → HasTaken n list J old.span dated spaces' places' recall' (Ok tt)
taken_ok n list J dated spaces places places' old recall recall' low high same live run spaces' judged places_on recalls_on =
    let can : CanPassBy n list old.span dated J = subst (λ (span : ℕ). CanPassBy n list span dated J) same.span judged.2 in (
      record { members = judged.0; next = places_on live.next; recalls = recalls_on (recalls_same J old recall same live.recalls) },
      run_more n old.span list J dated.entry run low high judged.1 can.can,
      can,
    )

-- something is wrong with it
pub taken_fault : (n : ℕ) (list : List Limits) (J : List Entry) (dated : Dated) (spaces : List Owner) (old recall : Recalled) (fault : WatchFault) → IsSame old recall → IsFound n list J spaces recall dated (Some fault) → IsFaultBy n list old.span dated J fault
taken_fault n list J dated spaces old recall fault same judged = subst (λ (span : ℕ). IsFaultBy n list span dated J fault) same.span judged

-- memory was wanted
pub taken_none : (n : ℕ) (list : List Limits) (J : List Entry) (spaces spaces' : List Owner) (places : List ℕ) (old recall : Recalled) → IsSame old recall → IsLive n list J spaces places old → AreMembers n list J spaces' → IsLive n list J spaces' places recall
taken_none n list J spaces spaces' places old recall same live members = record { members = members; next = live.next; recalls = recalls_same J old recall same live.recalls }
