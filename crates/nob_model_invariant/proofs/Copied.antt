-- The copies of a reference that a space acted on since it last gave it up: where it has no surrogate there are none, and
-- while it is pending each waits in its message, or came in a session that the space has left.
use Rattle.std.proofs.Common.{◌≡◌, ℕ, ◌+◌, ◌-◌, ◌≤◌, ◌&&◌, ◌||◌, not, Bool, true, false, cond, List, [], ◌∷◌, ◌++◌, length, map, Option, Some, None, refl, sym, ap, subst, ◌∙◌, arith, ◌⊎◌, inl, inr}
use Rattle.std.specs.Prelude.{◌==◌}
use Rattle.std.specs.List.{AllByRecursion, list_any, list_all, slice_get}
use Rattle.std.proofs.lemmas.Bool.{eqb-true, eq-eqb, and_parts, and_from, or_left, or_right, not-true, both_ways, not_from_false}
use Rattle.nob_ids.specs.Names.{is_same}
use Rattle.nob_ids.specs.declared.limits.Limits.{Limits}
use Rattle.nob_ids.specs.declared.wire_rep.WireRep.{WireRep}
use Rattle.nob_item.specs.Kinds.{counted_in}
use Rattle.nob_item.specs.declared.item.Item.{Item}
use Rattle.nob_model_types.specs.declared.deed.Deed.{Deed}
use Rattle.nob_model_types.specs.declared.deed.Deed.TheVariants as did
use Rattle.nob_model_types.specs.declared.message.Message.{Message}
use Rattle.nob_model_types.specs.declared.message.RefCopy.{RefCopy}
use Rattle.nob_model_types.specs.Sessions.{is_peer, closed, number, item_at, acted}
use Rattle.nob_model_types.specs.Turns.{no_turns, turns, is_own, is_resolved, is_pending, is_granted, is_refused, is_standing, with_clean, wants_dirty, carries}
use Rattle.nob_model_types.specs.Messages.{message_after, is_of}
use Rattle.nob_model_work.specs.Work.{work}
use Rattle.nob_model_history.specs.Histories.{history_of}
use Rattle.nob_model_history.specs.Premises.{TookTurns}
use Rattle.nob_model_history.proofs.Sessions.{number_kept}
use Rattle.nob_model_history.proofs.Inbox.{acted_takes}
use Rattle.nob_model_history.proofs.Turning.{same_ref, shapes, pending_waits, waiting_stands, granted_answered, after_clean}
use Rattle.nob_model_acting.specs.Candidates.{is_all_resolved}
use Rattle.nob_model.specs.Lists.{IsRightDeed, AreRightDeeds}
use Rattle.nob_model.proofs.Accepted.{found_passes}
use Rattle.nob_model.proofs.Carrying.{Carries, all_carry, all_found}
use Rattle.nob_model.proofs.Premises.{took_turns}
use Rattle.nob_model.proofs.Waiting.{IsOpenIn, are_waiting, settled_message, act_number, all_weaker}
use Rattle.nob_model_journal.specs.Losses.{is_carried, sources}
use Rattle.nob_model_journal.specs.declared.losses.Source.{Source}
use Rattle.nob_model_invariant.proofs.Opened.{opens_above, open_stays}
use Rattle.nob_model_invariant.proofs.EachSession.{deed_rises}
use Rattle.nob_model_invariant.proofs.Clients.{asks_peer}
use Rattle.nob_model_holdings.proofs.Lists.{all_both, place_in_whole, some_same}
use Rattle.nob_model_invariant.proofs.Settling.{waits_more}
use Rattle.nob_model_invariant.specs.Copies.{is_waiting}
use Rattle.nob_model_invariant.proofs.Denied.{carried_some}
use Rattle.nob_model_invariant.proofs.Resting.{rests, rests_on, waits_new, open_before}
use Rattle.nob_model_invariant.proofs.Standing.{WasPending, was_idle, was_pending}

-- ---- items that were acted on

-- an item stands at its place among those that were acted on
abbrev pub StandsAt : (p k : ℕ) → Item → List Deed → Type 0
StandsAt p k item D = slice_get (acted p D) (k - 1) ≡ Some (k, Some item)

-- so it stays, where the session isn't opened anew
stands_on : (s n : ℕ) (limits : Limits) (p k : ℕ) (item : Item) (deed : Deed) (D : List Deed) → IsRightDeed s n limits deed D → number p (deed ∷ D) ≡ number p D → StandsAt p k item D → StandsAt p k item (deed ∷ D)
stands_on s n limits p k item (did.Act q j) D right same at = elim (q == p) as (λ (b : Bool). slice_get (cond b (acted p D ++ (j, item_at p j D) ∷ []) (acted p D)) (k - 1) ≡ Some (k, Some item)) [ true ↦ place_in_whole (acted p D) ((j, item_at p j D) ∷ []) _ (k - 1) (k, Some item) refl at | false ↦ at ]
stands_on s n limits p k item (did.Open q j) D right same at = by (q == p) refl
  where
    by : (own : Bool) → (q == p) ≡ own → slice_get (cond own [] (acted p D)) (k - 1) ≡ Some (k, Some item)
    by true own = absurd (let above = opens_above s n p limits (did.Open q j) D right own in omega (arith, above, same))
    by false other = at
stands_on s n limits p k item deed D right same at = at

at_end : {X : Type 0} (xs : List X) (x : X) → slice_get (xs ++ x ∷ []) (length xs) ≡ Some x
at_end [] x = refl
at_end (y ∷ xs) x = at_end xs x

-- the item that is acted on is the last of them
stands_new : (s n : ℕ) (limits : Limits) (p k : ℕ) (item : Item) (D : List Deed) → AreRightDeeds s n limits (did.Act p k ∷ D) → item_at p k D ≡ Some item → StandsAt p k item (did.Act p k ∷ D)
stands_new s n limits p k item D right is =
    let number : k ≡ length (acted p D) + 1 = act_number s n limits p k D right.0 ∙ ap (λ (m : ℕ). m + 1) (sym (acted_takes s n p D)) in
    let place : k - 1 ≡ length (acted p D) = omega (arith, number) in
    let longer : List (ℕ × Option Item) = acted p D ++ (k, item_at p k D) ∷ [] in
    ap (λ (b : Bool). slice_get (cond b longer (acted p D)) (k - 1)) (eq-eqb p p refl)
    ∙ ap (λ (m : ℕ). slice_get longer m) place
    ∙ at_end (acted p D) (k, item_at p k D)
    ∙ ap (λ (one : Option Item). Some (k, one)) is

-- ---- messages that wait

-- a message that waits is of an item that was acted on
abbrev pub IsActed : List Deed → Message → Type 0
IsActed D m = StandsAt m.from m.number m.item D

acted_kept : (s n : ℕ) (D E : List Deed) (m : Message) → IsActed E m → IsActed E (message_after s n D m)
unfolding message_after
acted_kept s n D E m at = at

pub waiting_acted : (s n : ℕ) (limits : Limits) (D : List Deed) → AreRightDeeds s n limits D → AllByRecursion (IsActed D) (work s n D).waiting
waiting_acted s n limits [] right = tt
waiting_acted s n limits (deed ∷ D) right =
    waits_more (IsActed (deed ∷ D)) s n deed D (acted_kept s n (deed ∷ D) (deed ∷ D))
    (λ p k item is found some. subst (λ (one : Deed). StandsAt p k item (one ∷ D)) (sym is) (stands_new s n limits p k item D (subst (λ (one : Deed). AreRightDeeds s n limits (one ∷ D)) is right) found))
    (all_both (IsOpenIn s n D) (IsActed D) (IsActed (deed ∷ D)) (λ m up at. stands_on s n limits m.from m.number m.item deed D right.0 (open_stays s n m.from limits deed D right.0 up.0) at) (work s n D).waiting (are_waiting s n limits D right.1).0 (waiting_acted s n limits D right.1))

-- ---- copies

-- whether a copy came in the session in which the space is
abbrev pub is_present : List Deed → Source → Bool
is_present D copy = copy.session == number copy.from D

-- a copy of a reference came in a session up to the present one; if in that, it is of an item that was acted on and carries it; and what came from the owner came in that
pub record IsCopyOf (rep : WireRep) (D : List Deed) (copy : Source) : Type 0 where
  pub low : copy.session ≤ number copy.from D
  pub of_owner : is_own copy.from rep ≡ true → is_present D copy ≡ true
  pub acted_on : is_present D copy ≡ true → (item : Item) × StandsAt copy.from copy.number item D × (carries rep item ≡ true)

-- the session of a copy that came before is the present one only where the space stays in it
module _ (s n : ℕ) (limits : Limits) (deed : Deed) (D : List Deed) (right : IsRightDeed s n limits deed D) where
  present_stays : (copy : Source) → copy.session ≤ number copy.from D → is_present (deed ∷ D) copy ≡ true → number copy.from (deed ∷ D) ≡ number copy.from D
  present_stays copy low present =
      let same = eqb-true copy.session (number copy.from (deed ∷ D)) present in
      let rises = deed_rises s n copy.from limits deed D right in
      omega (arith, low, same, rises)

  was_present : (copy : Source) → copy.session ≤ number copy.from D → is_present (deed ∷ D) copy ≡ true → is_present D copy ≡ true
  was_present copy low present = ap (λ (k : ℕ). copy.session == k) (sym (present_stays copy low present)) ∙ present

  copy_on : (rep : WireRep) → number rep.owner (deed ∷ D) ≡ number rep.owner D → (copy : Source) → IsCopyOf rep D copy → IsCopyOf rep (deed ∷ D) copy
  copy_on rep same copy its = record {
    low = let low = its.low in let rises = deed_rises s n copy.from limits deed D right in omega (arith, low, rises);
    of_owner = λ own. ap (λ (k : ℕ). copy.session == k) (subst (λ (p : ℕ). number p (deed ∷ D) ≡ number p D) (eqb-true rep.owner copy.from own) same) ∙ its.of_owner own;
    acted_on = λ present.
        let found = its.acted_on (was_present copy its.low present) in
        (found.0, stands_on s n limits copy.from copy.number found.0 deed D right (present_stays copy its.low present) found.1, found.2);
  }

  copies_on : (rep : WireRep) → number rep.owner (deed ∷ D) ≡ number rep.owner D → AllByRecursion (IsCopyOf rep D) (sources s n rep D) → AllByRecursion (IsCopyOf rep (deed ∷ D)) (sources s n rep D)
  copies_on rep same all = all_weaker (IsCopyOf rep D) (IsCopyOf rep (deed ∷ D)) (copy_on rep same) (sources s n rep D) all

-- the copy that comes from p in item k
abbrev pub new_source : (p k : ℕ) → List Deed → Source
new_source p k D = record { from = p; session = number p D; number = k }

new_copied : (s n : ℕ) (limits : Limits) (rep : WireRep) (p k : ℕ) (D : List Deed) → AreRightDeeds s n limits (did.Act p k ∷ D) → (found : Option Item) → item_at p k D ≡ found → AllByRecursion (IsCopyOf rep (did.Act p k ∷ D)) (sources s n rep D) → AllByRecursion (IsCopyOf rep (did.Act p k ∷ D)) (cond (is_carried rep found) (new_source p k D ∷ sources s n rep D) (sources s n rep D))
new_copied s n limits rep p k D right None is all = all
new_copied s n limits rep p k D right (Some item) is all = by (carries rep item) refl
  where
    by : (b : Bool) → carries rep item ≡ b → AllByRecursion (IsCopyOf rep (did.Act p k ∷ D)) (cond b (new_source p k D ∷ sources s n rep D) (sources s n rep D))
    by true carried = (record { low = omega arith; of_owner = λ own. eq-eqb (number p D) (number p D) refl; acted_on = λ present. (item, stands_new s n limits p k item D right is, carried) }, all)
    by false carried = all

pub cleaned : {X : Type 0} (P : X → Type 0) (b : Bool) (xs : List X) → AllByRecursion P xs → AllByRecursion P (cond b [] xs)
cleaned P true xs all = tt
cleaned P false xs all = all

pub copies_acted : (s n : ℕ) (limits : Limits) (rep : WireRep) (D : List Deed) → AreRightDeeds s n limits D → AllByRecursion (IsCopyOf rep D) (sources s n rep D)
copies_acted s n limits rep [] right = tt
copies_acted s n limits rep (did.Act p k ∷ D) right = new_copied s n limits rep p k D right (item_at p k D) refl (copies_on s n limits (did.Act p k) D right.0 rep refl (copies_acted s n limits rep D right.1))
copies_acted s n limits rep (did.Clean other ∷ D) right = cleaned (IsCopyOf rep (did.Clean other ∷ D)) (is_same rep other && (turns s n rep D).asks) (sources s n rep D) (copies_on s n limits (did.Clean other) D right.0 rep refl (copies_acted s n limits rep D right.1))
copies_acted s n limits rep (did.Open q k ∷ D) right = by (copies_acted s n limits rep D right.1) (q == rep.owner) refl
  where
    by : AllByRecursion (IsCopyOf rep D) (sources s n rep D) → (own : Bool) → (q == rep.owner) ≡ own → AllByRecursion (IsCopyOf rep (did.Open q k ∷ D)) (cond own [] (sources s n rep D))
    by before true own = tt
    by before false other = copies_on s n limits (did.Open q k) D right.0 rep (number_kept rep.owner (did.Open q k) D other) before
copies_acted s n limits rep (deed ∷ D) right = copies_on s n limits deed D right.0 rep refl (copies_acted s n limits rep D right.1)

-- ---- a message that is settled carries nothing that is pending

resolved_among : (s n : ℕ) (rep : WireRep) (D : List Deed) (its : List RefCopy) → list_all (λ (copy : RefCopy). is_resolved s n copy.rep D) its ≡ true → list_any (is_same rep) (map (λ (copy : RefCopy). copy.rep) its) ≡ true → is_resolved s n rep D ≡ true
resolved_among s n rep D [] all there = cc
resolved_among s n rep D (copy ∷ its) all there = by (is_same rep copy.rep) refl (and_parts (is_resolved s n copy.rep D) _ all) (resolved_among s n rep D its) there
  where
    by : (b : Bool) → is_same rep copy.rep ≡ b → (is_resolved s n copy.rep D ≡ true) × (list_all (λ (one : RefCopy). is_resolved s n one.rep D) its ≡ true) → (list_all (λ (one : RefCopy). is_resolved s n one.rep D) its ≡ true → list_any (is_same rep) (map (λ (one : RefCopy). one.rep) its) ≡ true → is_resolved s n rep D ≡ true) → (b || list_any (is_same rep) (map (λ (one : RefCopy). one.rep) its)) ≡ true → is_resolved s n rep D ≡ true
    by true same parts rest either = subst (λ (r : WireRep). is_resolved s n r D ≡ true) (sym (same_ref rep copy.rep same)) parts.0
    by false same parts rest either = rest parts.1 either

unresolved_by : (own granted peer shut refused : Bool) → own ≡ false → granted ≡ false → peer ≡ true → shut ≡ false → refused ≡ false → (own || (granted && not shut) || (not own && (not peer || shut || refused))) ≡ false
unresolved_by own granted peer shut refused a b c d e = rw (a, b, c, d, e) refl

-- what is pending on an open session isn't resolved
pending_unresolved : (s n : ℕ) (rep : WireRep) (D : List Deed) → closed rep.owner D ≡ false → is_pending (turns s n rep D) ≡ true → is_resolved s n rep D ≡ false
pending_unresolved s n rep D up pending =
    let waits = pending_waits (turns s n rep D) pending in
    let stands = waiting_stands (turns s n rep D) waits in
    let peer : is_peer s n rep.owner ≡ true = asks_peer s n rep D waits.0 in
    unresolved_by (is_own s rep) (is_granted (turns s n rep D)) (is_peer s n rep.owner) (closed rep.owner D) (is_refused (turns s n rep D))
    (not-true (rep.owner == s) (and_parts _ _ (and_parts _ _ peer).0).0) stands.1 peer up stands.2

-- the item of the message that a Settle takes
settled_item : (s n : ℕ) (limits : Limits) (p k : ℕ) (D : List Deed) → AreRightDeeds s n limits (did.Settle p k ∷ D) → (m : Message) × (is_all_resolved s n (history_of s n D) m ≡ true) × Carries m × StandsAt p k m.item D
settled_item s n limits p k D right =
    let told = settled_message s n limits p k D right in
    let m : Message = told.0 in
    let at : IsActed D m = all_found (IsActed D) (is_of p k) (work s n D).waiting m told.4 (waiting_acted s n limits D right.1) in (
      m,
      found_passes (is_all_resolved s n (history_of s n D)) (work s n D).waiting m told.1,
      all_found Carries (is_of p k) (work s n D).waiting m told.4 (all_carry s n D).waiting,
      subst (λ (q : ℕ). StandsAt q k m.item D) told.2 (subst (λ (j : ℕ). StandsAt m.from j m.item D) told.3 at),
    )

same_at : {X : Type 0} (found : Option X) (x y : X) → found ≡ Some x → found ≡ Some y → x ≡ y
same_at found x y one other = some_same x y (sym one ∙ other)

same_pair : (k : ℕ) (x y : Item) → ◌≡◌ {A = ℕ × Option Item} (k, Some x) (k, Some y) → x ≡ y
same_pair k x y same = some_same x y (ap (λ (pair : ℕ × Option Item). pair.1) same)

settle_not_pending : (s n : ℕ) (limits : Limits) (rep : WireRep) (p k : ℕ) (D : List Deed) → AreRightDeeds s n limits (did.Settle p k ∷ D) → closed rep.owner D ≡ false → is_pending (turns s n rep D) ≡ true → (item : Item) × StandsAt p k item D × (carries rep item ≡ true) → ⊥
settle_not_pending s n limits rep p k D right up pending copy =
    let its = settled_item s n limits p k D right in
    let m : Message = its.0 in
    let same : copy.0 ≡ m.item = same_pair k copy.0 m.item (same_at (slice_get (acted p D) (k - 1)) (k, Some copy.0) (k, Some m.item) copy.1 its.3) in
    let carried : list_any (is_same rep) (map (λ (one : RefCopy). one.rep) m.copies) ≡ true = ap (list_any (is_same rep)) its.2 ∙ ap (λ (item : Item). carries rep item) (sym same) ∙ copy.2 in
    both_ways (is_resolved s n rep D) (pending_unresolved s n rep D up pending) (resolved_among s n rep D m.copies its.1 carried)

-- ---- one deed more

-- a copy waits in its message, or the space has left the session in which it came
abbrev pub Rests : (s n : ℕ) → List Deed → Source → Type 0
Rests s n D copy = (is_waiting copy.from copy.number (work s n D).waiting || (closed copy.from D || not (is_present D copy))) ≡ true

rests_then : (waits shut present : Bool) → (waits || shut) ≡ true → (waits || (shut || not present)) ≡ true
rests_then true shut present is = refl
rests_then false true present is = refl
rests_then false false present is = cc

-- a copy of the present session waits, or that session has closed
pub rests_now : (waits shut present : Bool) → present ≡ true → (waits || (shut || not present)) ≡ true → (waits || shut) ≡ true
rests_now true shut present is rest = refl
rests_now false true present is rest = refl
rests_now false false true is rest = cc
rests_now false false false is rest = cc

-- how it stands with the copies of a reference
pub record AreCopied (s n : ℕ) (rep : WireRep) (D : List Deed) : Type 0 where
  pub none : is_peer s n rep.owner ≡ true → closed rep.owner D ≡ false → is_standing (turns s n rep D) ≡ false → sources s n rep D ≡ []
  pub wait : closed rep.owner D ≡ false → is_pending (turns s n rep D) ≡ true → AllByRecursion (Rests s n D) (sources s n rep D)

-- while a reference is pending its copies rest
copies_rest : (s n : ℕ) (limits : Limits) (rep : WireRep) (deed : Deed) (D : List Deed) → AreRightDeeds s n limits (deed ∷ D) → closed rep.owner D ≡ false → is_pending (turns s n rep D) ≡ true → AllByRecursion (Rests s n D) (sources s n rep D) → AllByRecursion (Rests s n (deed ∷ D)) (sources s n rep D)
copies_rest s n limits rep deed D right up pending all =
    all_both (IsCopyOf rep D) (Rests s n D) (Rests s n (deed ∷ D)) one (sources s n rep D) (copies_acted s n limits rep D right.1) all
  where
    on : (copy : Source) → IsCopyOf rep D copy → is_present D copy ≡ true → (rests s n copy.from copy.number (deed ∷ D) ≡ true) ⊎ (deed ≡ did.Settle copy.from copy.number) → Rests s n (deed ∷ D) copy
    on copy its present (inl rest) = rests_then (is_waiting copy.from copy.number (work s n (deed ∷ D)).waiting) (closed copy.from (deed ∷ D)) (is_present (deed ∷ D) copy) rest
    on copy its present (inr settles) = absurd (settle_not_pending s n limits rep copy.from copy.number D (subst (λ (d : Deed). AreRightDeeds s n limits (d ∷ D)) settles right) up pending (its.acted_on present))

    by : (copy : Source) → IsCopyOf rep D copy → Rests s n D copy → (b : Bool) → is_present (deed ∷ D) copy ≡ b → Rests s n (deed ∷ D) copy
    by copy its rest true present =
        let same = present_stays s n limits deed D right.0 copy its.low present in
        let before = was_present s n limits deed D right.0 copy its.low present in
        on copy its before
        (rests_on s n limits copy.from copy.number deed D right same (rests_now (is_waiting copy.from copy.number (work s n D).waiting) (closed copy.from D) (is_present D copy) before rest))
    by copy its rest false other = or_right (is_waiting copy.from copy.number (work s n (deed ∷ D)).waiting) _ (or_right (closed copy.from (deed ∷ D)) (not (is_present (deed ∷ D) copy)) (not_from_false (is_present (deed ∷ D) copy) other))

    one : (copy : Source) → IsCopyOf rep D copy → Rests s n D copy → Rests s n (deed ∷ D) copy
    one copy its rest = by copy its rest (is_present (deed ∷ D) copy) refl

other_copied : (s n : ℕ) (limits : Limits) (rep : WireRep) (deed : Deed) (D : List Deed) → number rep.owner (deed ∷ D) ≡ number rep.owner D → AreRightDeeds s n limits (deed ∷ D) → turns s n rep (deed ∷ D) ≡ turns s n rep D → sources s n rep (deed ∷ D) ≡ sources s n rep D → AreCopied s n rep D → AreCopied s n rep (deed ∷ D)
other_copied s n limits rep deed D leaves right same also before = record {
  none = λ peer up idle. also ∙ before.none peer (open_before s n rep.owner limits deed D right.0 leaves up) (ap is_standing (sym same) ∙ idle);
  wait = λ up pending.
      let pended : is_pending (turns s n rep D) ≡ true = ap is_pending (sym same) ∙ pending in
      let earlier = open_before s n rep.owner limits deed D right.0 leaves up in
      subst (AllByRecursion (Rests s n (deed ∷ D))) (sym also) (copies_rest s n limits rep deed D right earlier pended (before.wait earlier pended));
}

carried_false : (carried wanted : Bool) → (carried && wanted) ≡ false → wanted ≡ true → carried ≡ false
carried_false true wanted none is = absurd (both_ways wanted none is)
carried_false false wanted none is = refl

new_rests : (s n : ℕ) (rep : WireRep) (p k : ℕ) (D : List Deed) (found : Option Item) → item_at p k D ≡ found → is_carried rep found ≡ true → Rests s n (did.Act p k ∷ D) (new_source p k D)
new_rests s n rep p k D None is carried = cc
new_rests s n rep p k D (Some item) is carried = or_left (is_waiting p k (work s n (did.Act p k ∷ D)).waiting) _ (waits_new s n p k item D is (carried_some rep (counted_in item) carried))

pub more_rest : (P : Source → Type 0) (b : Bool) (copy : Source) (cs : List Source) → (b ≡ true → P copy) → AllByRecursion P cs → AllByRecursion P (cond b (copy ∷ cs) cs)
more_rest P true copy cs its all = (its refl, all)
more_rest P false copy cs its all = all

act_copied : (s n : ℕ) (limits : Limits) (rep : WireRep) (p k : ℕ) (D : List Deed) → AreRightDeeds s n limits (did.Act p k ∷ D) → AreCopied s n rep D → AreCopied s n rep (did.Act p k ∷ D)
act_copied s n limits rep p k D right before = record { none = none; wait = wait }
  where
    took : TookTurns s n (did.Act p k ∷ D)
    took = took_turns s n limits (did.Act p k ∷ D) right

    none : is_peer s n rep.owner ≡ true → closed rep.owner D ≡ false → is_standing (turns s n rep (did.Act p k ∷ D)) ≡ false → sources s n rep (did.Act p k ∷ D) ≡ []
    none peer up idle =
        let was = was_idle s n p rep (item_at p k D) D took.0 (shapes s n rep D took.1) idle in
        let wanted : wants_dirty s n rep D (turns s n rep D) ≡ true = and_from _ _ (and_from _ _ peer (not_from_false _ up)) (not_from_false _ was.0) in
        ap (λ (b : Bool). cond b (new_source p k D ∷ sources s n rep D) (sources s n rep D)) (carried_false (is_carried rep (item_at p k D)) _ was.1 wanted) ∙ before.none peer up was.0

    earlier : closed rep.owner D ≡ false → WasPending s n rep (item_at p k D) D → AllByRecursion (Rests s n (did.Act p k ∷ D)) (sources s n rep D)
    earlier up (inl pending) = copies_rest s n limits rep (did.Act p k) D right up pending (before.wait up pending)
    earlier up (inr asked) =
        let wanted = (and_parts (is_carried rep (item_at p k D)) _ asked).1 in
        let open_peer = and_parts _ _ wanted in
        subst (AllByRecursion (Rests s n (did.Act p k ∷ D))) (sym (before.none (and_parts _ _ open_peer.0).0 up (not-true _ open_peer.1))) tt

    wait : closed rep.owner D ≡ false → is_pending (turns s n rep (did.Act p k ∷ D)) ≡ true → AllByRecursion (Rests s n (did.Act p k ∷ D)) (sources s n rep (did.Act p k ∷ D))
    wait up pending =
        more_rest (Rests s n (did.Act p k ∷ D)) (is_carried rep (item_at p k D)) (new_source p k D) (sources s n rep D) (new_rests s n rep p k D (item_at p k D) refl)
        (earlier up (was_pending s n p rep (item_at p k D) D took.0 pending))

clean_copied : (s n : ℕ) (limits : Limits) (rep other : WireRep) (D : List Deed) → AreRightDeeds s n limits (did.Clean other ∷ D) → AreCopied s n rep D → AreCopied s n rep (did.Clean other ∷ D)
clean_copied s n limits rep other D right before = by (is_same rep other) refl
  where
    granted : is_same rep other ≡ true → is_granted (turns s n rep D) ≡ true
    granted same = subst (λ (r : WireRep). is_granted (turns s n r D) ≡ true) (sym (same_ref rep other same)) (took_turns s n limits (did.Clean other ∷ D) right).0

    by : (b : Bool) → is_same rep other ≡ b → AreCopied s n rep (did.Clean other ∷ D)
    by true same =
        let asks : (turns s n rep D).asks ≡ true = (granted_answered (turns s n rep D) (granted same)).0 in
        let turned : turns s n rep (did.Clean other ∷ D) ≡ with_clean (turns s n rep D) = ap (λ (b : Bool). cond b (with_clean (turns s n rep D)) (turns s n rep D)) same in
        record {
          none = λ peer up idle. ap (λ (b : Bool). cond (b && (turns s n rep D).asks) [] (sources s n rep D)) same ∙ ap (λ (b : Bool). cond b [] (sources s n rep D)) asks;
          wait = λ up pending. absurd (both_ways (is_pending (with_clean (turns s n rep D))) (after_clean (turns s n rep D) (granted same)).1.0 (ap is_pending (sym turned) ∙ pending));
        }
    by false same = other_copied s n limits rep (did.Clean other) D refl right (ap (λ (b : Bool). cond b (with_clean (turns s n rep D)) (turns s n rep D)) same) (ap (λ (b : Bool). cond (b && (turns s n rep D).asks) [] (sources s n rep D)) same) before

-- a session with the owner that opens begins without copies
opened_copied : (s n : ℕ) (limits : Limits) (rep : WireRep) (q k : ℕ) (D : List Deed) → AreRightDeeds s n limits (did.Open q k ∷ D) → AreCopied s n rep D → AreCopied s n rep (did.Open q k ∷ D)
opened_copied s n limits rep q k D right before = by (q == rep.owner) refl
  where
    turned : (own : Bool) → (q == rep.owner) ≡ own → turns s n rep (did.Open q k ∷ D) ≡ cond own no_turns (turns s n rep D)
    turned own is = ap (λ (b : Bool). cond b no_turns (turns s n rep D)) is

    came : (own : Bool) → (q == rep.owner) ≡ own → sources s n rep (did.Open q k ∷ D) ≡ cond own [] (sources s n rep D)
    came own is = ap (λ (b : Bool). cond b [] (sources s n rep D)) is

    by : (own : Bool) → (q == rep.owner) ≡ own → AreCopied s n rep (did.Open q k ∷ D)
    by true own = record {
      none = λ peer up idle. came true own;
      wait = λ up pending. absurd (let clash : false ≡ true = ap is_pending (sym (turned true own)) ∙ pending in cc);
    }
    by false other = other_copied s n limits rep (did.Open q k) D (number_kept rep.owner (did.Open q k) D other) right (turned false other) (came false other) before

-- in every list of right deeds
pub are_copied : (s n : ℕ) (limits : Limits) (rep : WireRep) (D : List Deed) → AreRightDeeds s n limits D → AreCopied s n rep D
are_copied s n limits rep [] right = record { none = λ peer up idle. refl; wait = λ up pending. tt }
are_copied s n limits rep (did.Act p k ∷ D) right = act_copied s n limits rep p k D right (are_copied s n limits rep D right.1)
are_copied s n limits rep (did.Clean other ∷ D) right = clean_copied s n limits rep other D right (are_copied s n limits rep D right.1)
are_copied s n limits rep (did.Open q k ∷ D) right = opened_copied s n limits rep q k D right (are_copied s n limits rep D right.1)
are_copied s n limits rep (deed ∷ D) right = other_copied s n limits rep deed D refl right refl refl (are_copied s n limits rep D right.1)
