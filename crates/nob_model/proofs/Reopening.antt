-- What a right Open tells of the deeds before, and that it leaves all holds and all pins as they were.
use Rattle.std.proofs.Common.{◌≡◌, ℕ, ◌+◌, ◌-◌, ◌≤◌, ◌<◌, ◌&&◌, ◌||◌, not, max, Bool, true, false, cond, List, [], ◌∷◌, ◌++◌, length, map, filter, flat_map, refl, sym, ap, subst, ◌∙◌, arith}
use Rattle.std.specs.Prelude.{◌==◌}
use Rattle.std.specs.List.{AllByRecursion, list_any}
use Rattle.std.proofs.lemmas.Bool.{eqb-true, eq-eqb, ne_eqb, and_from, and_parts, or_parts, both_ways, false_from_ne_true}
use Rattle.std.proofs.lemmas.List.{length-append}
use Rattle.std.proofs.lemmas.List.Elements.{filter-append}
use Rattle.nob_ids.specs.Names.{is_same, is_counted}
use Rattle.nob_ids.specs.declared.limits.Limits.{Limits}
use Rattle.nob_ids.specs.declared.wire_rep.WireRep.{WireRep}
use Rattle.nob_item.specs.Kinds.{counted_in, refs_carried}
use Rattle.nob_item.specs.declared.item.Item.{Item}
use Rattle.nob_model_session.specs.End.{last_session, seen}
use Rattle.nob_model_types.specs.declared.deed.Deed.{Deed}
use Rattle.nob_model_types.specs.declared.deed.Deed.TheVariants as did
use Rattle.nob_model_types.specs.declared.message.RefCopy.{RefCopy}
use Rattle.nob_model_types.specs.declared.message.Message.{Message}
use Rattle.nob_model_types.specs.Sessions.{is_peer, closed, number}
use Rattle.nob_model_work.specs.declared.work.Outstanding.{Outstanding}
use Rattle.nob_model_work.specs.Work.{work}
use Rattle.nob_model_history.specs.declared.transit.SentItem.{SentItem}
use Rattle.nob_model_history.specs.Histories.{history_of}
use Rattle.nob_model_history.specs.Ends.{calls_at}
use Rattle.nob_model_history.specs.Holds.{times, gains, releases, lent_in, is_held}
use Rattle.nob_model_history.specs.Transit.{is_some_of, sent, is_settled, is_pinned, bundles, pinned, pins}
use Rattle.nob_model_history.proofs.Anew.{work_opened}
use Rattle.nob_model_history.proofs.Numbered.{sent_sessions}
use Rattle.nob_model_history.proofs.Pinning.{bundles_opened}
use Rattle.nob_model_history.proofs.Turning.{same_ref}
use Rattle.nob_model.specs.Opening.{is_owned_by, holds_any_of, carries_any_of, still_held, next_number}
use Rattle.nob_model.specs.Right.{right_after}
use Rattle.nob_model.specs.Lists.{IsRightDeed, AreRightDeeds}
use Rattle.nob_model.specs.Laws.{NumbersLaw}
use Rattle.nob_model.proofs.Accepted.{open_tells}
use Rattle.nob_model.proofs.Carrying.{Carries, all_carry}
use Rattle.nob_model.proofs.Doing.{was_answered}

-- ---- lists

each_weaker : {X : Type 0} (P Q : X → Type 0) → ((x : X) → P x → Q x) → (xs : List X) → AllByRecursion P xs → AllByRecursion Q xs
each_weaker P Q step [] all = tt
each_weaker P Q step (x ∷ xs) all = (step x all.0, each_weaker P Q step xs all.1)

-- where no element passes a test, each one doesn't
none_pass : {X : Type 0} (test : X → Bool) (xs : List X) → list_any test xs ≡ false → AllByRecursion (λ (x : X). test x ≡ false) xs
none_pass test [] none = tt
none_pass test (x ∷ xs) none = let parts = or_parts (test x) (list_any test xs) none in (parts.0, none_pass test xs parts.1)

absent_step : (test : WireRep → Bool) (rep other : WireRep) (rest : List WireRep) → test rep ≡ true → test other ≡ false → length rest ≡ 0 → (b : Bool) → is_same rep other ≡ b → length (cond b (other ∷ rest) rest) ≡ 0
absent_step test rep other rest passes none before true same = absurd (both_ways (test other) none (subst (λ (r : WireRep). test r ≡ true) (same_ref rep other same) passes))
absent_step test rep other rest passes none before false same = before

-- a reference that passes a test doesn't stand among those that don't
absent : (test : WireRep → Bool) (rep : WireRep) (reps : List WireRep) → test rep ≡ true → AllByRecursion (λ (other : WireRep). test other ≡ false) reps → times rep reps ≡ 0
absent test rep [] passes none = refl
absent test rep (other ∷ reps) passes none = absent_step test rep other (filter (is_same rep) reps) passes none.0 (absent test rep reps passes none.1) (is_same rep other) refl

counted_if : (b : Bool) (rep : WireRep) (kept : List WireRep) → is_counted rep ≡ b → AllByRecursion (λ (other : WireRep). is_counted other ≡ true) kept → AllByRecursion (λ (other : WireRep). is_counted other ≡ true) (cond b (rep ∷ kept) kept)
counted_if true rep kept is rest = (is, rest)
counted_if false rep kept is rest = rest

filter_counted : (reps : List WireRep) → AllByRecursion (λ (rep : WireRep). is_counted rep ≡ true) (filter is_counted reps)
filter_counted [] = tt
filter_counted (rep ∷ reps) = counted_if (is_counted rep) rep (filter is_counted reps) refl (filter_counted reps)

-- the counted references of an item are counted
pub counted_are : (item : Item) → AllByRecursion (λ (rep : WireRep). is_counted rep ≡ true) (counted_in item)
counted_are item = filter_counted (refs_carried item)

-- ---- what a right Open tells

module _ (s n : ℕ) (limits : Limits) (p k : ℕ) (D : List Deed) (right : IsRightDeed s n limits (did.Open p k) D) where
  open_told : (is_peer s n p ≡ true) × (closed p D ≡ true) × (still_held s p (history_of s n D) ≡ false) × (next_number p (history_of s n D) ≡ k) × (k ≤ last_session)
  unfolding right_after
  open_told = open_tells s n p k (history_of s n D) (was_answered s n limits (did.Open p k) D right)

  -- it is of a session with a peer
  pub open_peer : is_peer s n p ≡ true
  open_peer = open_told.0

  -- that has closed here
  pub open_closed : closed p D ≡ true
  open_closed = open_told.1

  -- its number is above the present one
  pub open_number : number p D < k
  open_number = let next : max (number p D + 1) (seen (calls_at p (history_of s n D))) ≡ k = open_told.3 in omega (arith, next)

  -- and not below what was seen
  pub open_seen : seen (calls_at p (history_of s n D)) ≤ k
  open_seen = let next : max (number p D + 1) (seen (calls_at p (history_of s n D))) ≡ k = open_told.3 in omega (arith, next)

  -- and is a session's number
  pub open_last : k ≤ last_session
  open_last = open_told.4

  -- a session that is open here is another one
  pub open_other : (q : ℕ) → closed q D ≡ false → (p == q) ≡ false
  open_other q up = ne_eqb p q (λ same. both_ways (closed q D) up (subst (λ (r : ℕ). closed r D ≡ true) same open_closed))

  not_held : (holds_any_of s p (history_of s n D) ≡ false) × (list_any (is_owned_by p) (pinned (history_of s n D)) ≡ false) × (list_any (carries_any_of p) (work s n D).waiting ≡ false)
  not_held =
      let outer = or_parts (holds_any_of s p (history_of s n D) || list_any (is_owned_by p) (pinned (history_of s n D))) (list_any (carries_any_of p) (work s n D).waiting) open_told.2 in
      let inner = or_parts (holds_any_of s p (history_of s n D)) (list_any (is_owned_by p) (pinned (history_of s n D))) outer.0 in
      (inner.0, inner.1, outer.1)

  -- no counted reference that the peer owns is held
  pub open_unheld : (rep : WireRep) → rep.owner ≡ p → is_counted rep ≡ true → is_held s rep (history_of s n D) ≡ false
  open_unheld rep own counted =
      let test : WireRep → Bool = λ (r : WireRep). is_owned_by p r && is_held s r (history_of s n D) in
      let none = none_pass test (gains D ++ lent_in s (work s n D)) not_held.0 in
      false_from_ne_true (is_held s rep (history_of s n D)) (λ held.
      let count = absent test rep (gains D ++ lent_in s (work s n D)) (and_from (is_owned_by p rep) (is_held s rep (history_of s n D)) (owned_by rep own counted) held) none in
      let split = ap length (filter-append (is_same rep) (gains D) (lent_in s (work s n D))) ∙ length-append (filter (is_same rep) (gains D)) (filter (is_same rep) (lent_in s (work s n D))) in
      both_ways (is_held s rep (history_of s n D)) (no_holds (times rep (gains D)) (times rep (lent_in s (work s n D))) (times rep (releases D)) (sym split ∙ count)) held)
    where
      owned_by : (rep : WireRep) → rep.owner ≡ p → is_counted rep ≡ true → is_owned_by p rep ≡ true
      owned_by rep own counted = and_from (rep.owner == p) (is_counted rep) (eq-eqb rep.owner p own) counted

      no_holds : (gained lent gone : ℕ) → gained + lent ≡ 0 → not ((gained + lent) - gone == 0) ≡ false
      no_holds gained lent gone none = ap not (eq-eqb ((gained + lent) - gone) 0 (omega (arith, none)))

  -- nor has any of them pins
  pub open_unpinned : (rep : WireRep) → rep.owner ≡ p → is_counted rep ≡ true → pins rep (history_of s n D) ≡ 0
  open_unpinned rep own counted = absent (is_owned_by p) rep (pinned (history_of s n D)) (and_from (rep.owner == p) (is_counted rep) (eq-eqb rep.owner p own) counted) (none_pass (is_owned_by p) (pinned (history_of s n D)) not_held.1)

  -- no message that waits carries one
  pub open_uncarried : AllByRecursion (λ (m : Message). AllByRecursion (λ (copy : RefCopy). (p == copy.rep.owner) ≡ false) m.copies) (work s n D).waiting
  open_uncarried = messages (work s n D).waiting (all_carry s n D).waiting (none_pass (carries_any_of p) (work s n D).waiting not_held.2)
    where
      other_owner : (rep : WireRep) → is_counted rep ≡ true → is_owned_by p rep ≡ false → (p == rep.owner) ≡ false
      other_owner rep counted none = ne_eqb p rep.owner (λ same. both_ways (is_owned_by p rep) none (and_from (rep.owner == p) (is_counted rep) (eq-eqb rep.owner p (sym same)) counted))

      copies : (cs : List RefCopy) → AllByRecursion (λ (rep : WireRep). is_counted rep ≡ true) (map (λ copy. copy.rep) cs) → AllByRecursion (λ (copy : RefCopy). is_owned_by p copy.rep ≡ false) cs → AllByRecursion (λ (copy : RefCopy). (p == copy.rep.owner) ≡ false) cs
      copies [] counted none = tt
      copies (copy ∷ cs) counted none = (other_owner copy.rep counted.0 none.0, copies cs counted.1 none.1)

      messages : (ms : List Message) → AllByRecursion Carries ms → AllByRecursion (λ (m : Message). carries_any_of p m ≡ false) ms → AllByRecursion (λ (m : Message). AllByRecursion (λ (copy : RefCopy). (p == copy.rep.owner) ≡ false) m.copies) ms
      messages [] carry none = tt
      messages (m ∷ ms) carry none =
          (copies m.copies (subst (AllByRecursion (λ (rep : WireRep). is_counted rep ≡ true)) (sym carry.0) (counted_are m.item)) (none_pass (λ (copy : RefCopy). is_owned_by p copy.rep) m.copies none.0), messages ms carry.1 none.1)

-- ---- numbers

-- in a list of right deeds the numbers of each session rise
pub numbers_rise : NumbersLaw
numbers_rise s n limits [] right = tt
numbers_rise s n limits (did.Open p k ∷ D) right = (open_number s n limits p k D right.0, numbers_rise s n limits D right.1)
numbers_rise s n limits (deed ∷ D) right = numbers_rise s n limits D right.1

-- ---- what a right Open leaves as it was

-- all that is held is held as before
pub opened_held : (s n p k : ℕ) (D : List Deed) (rep : WireRep) → is_held s rep (history_of s n (did.Open p k ∷ D)) ≡ is_held s rep (history_of s n D)
opened_held s n p k D rep = ap (λ (W : Outstanding). not ((times rep (gains D) + times rep (lent_in s W)) - times rep (releases D) == 0)) (work_opened s n p k D)

pinned_if : (some settled shut : Bool) (session before k : ℕ) (b : Bool) → (b ≡ true → (session == k) ≡ false) → (some && session == cond b k before && not (cond b false settled) && not (cond b false shut)) ≡ true → (some && session == before && not settled && not shut) ≡ true
pinned_if some settled shut session before k true other is = absurd (both_ways (session == k) (other refl) (and_parts some (session == k) (and_parts _ _ (and_parts _ _ is).0).0).1)
pinned_if some settled shut session before k false other is = is

module _ (s n : ℕ) (limits : Limits) (p k : ℕ) (D : List Deed) (right : AreRightDeeds s n limits (did.Open p k ∷ D)) where
  -- what was sent and has pins had them: the session that opens has none
  pub opened_each : AllByRecursion (λ (one : SentItem). is_pinned (did.Open p k ∷ D) one ≡ true → is_pinned D one ≡ true) (sent (history_of s n D))
  opened_each =
      each_weaker (λ (one : SentItem). one.session ≤ number one.to D) (λ (one : SentItem). is_pinned (did.Open p k ∷ D) one ≡ true → is_pinned D one ≡ true)
      (λ one most. pinned_if (is_some_of (counted_in one.item)) (is_settled one.to one.number D) (closed one.to D) one.session (number one.to D) k (p == one.to)
      (λ same. ne_eqb one.session k (λ now. let above : number one.to D < k = subst (λ (q : ℕ). number q D < k) (eqb-true p one.to same) (open_number s n limits p k D right.0) in omega (arith, most, above, now))))
      (sent (history_of s n D)) (sent_sessions s n D (numbers_rise s n limits D right.1))

  -- the bundles are as they were
  pub opened_bundles : bundles (history_of s n (did.Open p k ∷ D)) ≡ bundles (history_of s n D)
  opened_bundles = bundles_opened s n p k D (numbers_rise s n limits (did.Open p k ∷ D) right) (open_closed s n limits p k D right.0)

  -- and so are all pins
  pub opened_pinned : pinned (history_of s n (did.Open p k ∷ D)) ≡ pinned (history_of s n D)
  opened_pinned = ap (flat_map (λ (one : SentItem). counted_in one.item)) opened_bundles

  pub opened_counts : (rep : WireRep) → pins rep (history_of s n (did.Open p k ∷ D)) ≡ pins rep (history_of s n D)
  opened_counts rep = ap (times rep) opened_pinned
