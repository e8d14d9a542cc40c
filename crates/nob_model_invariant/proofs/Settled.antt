-- What is settled carries counted references.
use Rattle.std.proofs.Common.{◌≡◌, ℕ, ◌+◌, ◌-◌, ◌&&◌, Bool, true, false, cond, List, [], ◌∷◌, ◌++◌, length, map, filter_map, Option, Some, refl, sym, ap, subst, ◌∙◌, arith}
use Rattle.std.specs.Prelude.{◌==◌}
use Rattle.std.specs.List.{AllByRecursion, slice_get}
use Rattle.std.proofs.lemmas.Bool.{eqb-true, eq-eqb, and_parts, both_ways}
use Rattle.std.proofs.lemmas.List.{append-nil}
use Rattle.nob_ids.specs.declared.limits.Limits.{Limits}
use Rattle.nob_ids.specs.declared.wire_rep.WireRep.{WireRep}
use Rattle.nob_item.specs.Kinds.{counted_in}
use Rattle.nob_item.specs.declared.item.Item.{Item}
use Rattle.nob_model_session.specs.End.{takes}
use Rattle.nob_model_types.specs.declared.deed.Deed.{Deed}
use Rattle.nob_model_types.specs.declared.deed.Deed.TheVariants as did
use Rattle.nob_model_types.specs.declared.message.RefCopy.{RefCopy}
use Rattle.nob_model_types.specs.declared.message.Message.{Message}
use Rattle.nob_model_types.specs.Sessions.{is_peer, item_at, acted}
use Rattle.nob_model_types.specs.Messages.{new_message, new_copy, message_after, is_of}
use Rattle.nob_model_work.specs.Work.{is_none_of, work}
use Rattle.nob_model_history.specs.Histories.{history_of}
use Rattle.nob_model_history.specs.Ends.{calls_at}
use Rattle.nob_model_history.specs.Transit.{is_some_of}
use Rattle.nob_model_history.proofs.Inbox.{acted_takes}
use Rattle.nob_model_history.proofs.Sessions.{opens, number_kept}
use Rattle.nob_model.specs.Lists.{AreRightDeeds}
use Rattle.nob_model.proofs.Carrying.{all_push, all_without, all_found}
use Rattle.nob_model.proofs.Waiting.{settled_message, act_number, all_weaker}
use Rattle.nob_model_invariant.specs.Settles.{settle_in, IsCarrying}
use Rattle.nob_model_holdings.proofs.Lists.{place_in_whole}
use Rattle.nob_model_invariant.proofs.Opened.{opens_above}
use Rattle.nob_model_invariant.proofs.Anew.{none_sent_new}
use Rattle.nob_model_invariant.proofs.Coming.{none_from}
use Rattle.nob_model_invariant.proofs.Settling.{waits_more, others_wait, settles_of, is_settle, settles_same, settles_now}

-- ---- items that were acted on

carried_longer : (pairs more : List (ℕ × Option Item)) (k : ℕ) → IsCarrying pairs k → IsCarrying (pairs ++ more) k
carried_longer pairs more k its = (its.0, place_in_whole pairs more (pairs ++ more) (k - 1) (k, Some its.0) refl its.1, its.2)

-- what was acted on stays so
acted_longer : (p : ℕ) (deed : Deed) (D : List Deed) → opens p deed ≡ false → (k : ℕ) → IsCarrying (acted p D) k → IsCarrying (acted p (deed ∷ D)) k
acted_longer p (did.Act q j) D kept k its = elim (q == p) as (λ (b : Bool). IsCarrying (cond b (acted p D ++ (j, item_at p j D) ∷ []) (acted p D)) k) [ true ↦ carried_longer (acted p D) ((j, item_at p j D) ∷ []) k its | false ↦ its ]
acted_longer p (did.Open q j) D kept k its = subst (λ (b : Bool). IsCarrying (cond b [] (acted p D)) k) (sym kept) its
acted_longer p deed D kept k its = its

at_end : {X : Type 0} (xs : List X) (x : X) → slice_get (xs ++ x ∷ []) (length xs) ≡ Some x
at_end [] x = refl
at_end (y ∷ xs) x = at_end xs x

some_copies : (f : WireRep → RefCopy) (reps : List WireRep) → is_none_of (map f reps) ≡ false → is_some_of reps ≡ true
some_copies f [] some = cc
some_copies f (rep ∷ reps) some = refl

-- the item that is acted on is the last of them
new_carried : (s n : ℕ) (limits : Limits) (p q k : ℕ) (item : Item) (D : List Deed) → AreRightDeeds s n limits (did.Act q k ∷ D) → item_at q k D ≡ Some item → is_some_of (counted_in item) ≡ true → (q == p) ≡ true → IsCarrying (acted p (did.Act q k ∷ D)) k
new_carried s n limits p q k item D right is some own =
    let same : q ≡ p = eqb-true q p own in
    let number : k ≡ length (acted p D) + 1 = subst (λ (r : ℕ). k ≡ takes (calls_at r (history_of s n D)) + 1) same (act_number s n limits q k D right.0) ∙ ap (λ (m : ℕ). m + 1) (sym (acted_takes s n p D)) in
    let place : k - 1 ≡ length (acted p D) = omega (arith, number) in
    let longer : List (ℕ × Option Item) = acted p D ++ (k, item_at p k D) ∷ [] in (
      item,
      ap (λ (b : Bool). slice_get (cond b longer (acted p D)) (k - 1)) own
          ∙ ap (λ (m : ℕ). slice_get longer m) place
          ∙ at_end (acted p D) (k, item_at p k D)
          ∙ ap (λ (one : Option Item). Some (k, one)) (ap (λ (r : ℕ). item_at r k D) (sym same) ∙ is),
      some,
    )

-- ---- what waits and what is settled

-- a message from p carries counted references
abbrev pub IsOfCarrying : ℕ → List Deed → Message → Type 0
IsOfCarrying p D m = (m.from == p) ≡ true → IsCarrying (acted p D) m.number

-- how it stands with p at space s: what waits and what is settled carries counted references
pub record SettledCarry (s n p : ℕ) (D : List Deed) : Type 0 where
  pub waits : AllByRecursion (IsOfCarrying p D) (work s n D).waiting
  pub settled : AllByRecursion (IsCarrying (acted p D)) (settles_of s n p D)

kept : (s n p : ℕ) (D E : List Deed) (m : Message) → IsOfCarrying p E m → IsOfCarrying p E (message_after s n D m)
unfolding message_after
kept s n p D E m is = is

still_waits : (s n p : ℕ) (deed : Deed) (D : List Deed) → opens p deed ≡ false → AllByRecursion (IsOfCarrying p D) (work s n D).waiting → AllByRecursion (IsOfCarrying p (deed ∷ D)) (work s n D).waiting
still_waits s n p deed D kept_one all = all_weaker (IsOfCarrying p D) (IsOfCarrying p (deed ∷ D)) (λ m its own. acted_longer p deed D kept_one m.number (its own)) (work s n D).waiting all

still_settled : (s n p : ℕ) (deed : Deed) (D : List Deed) → opens p deed ≡ false → (ks : List ℕ) → AllByRecursion (IsCarrying (acted p D)) ks → AllByRecursion (IsCarrying (acted p (deed ∷ D))) ks
still_settled s n p deed D kept_one ks all = all_weaker (IsCarrying (acted p D)) (IsCarrying (acted p (deed ∷ D))) (λ k its. acted_longer p deed D kept_one k its) ks all

new_waits : (s n : ℕ) (limits : Limits) (p : ℕ) (deed : Deed) (D : List Deed) → AreRightDeeds s n limits (deed ∷ D) → (q k : ℕ) (item : Item) → deed ≡ did.Act q k → item_at q k D ≡ Some item → is_none_of (new_message s n q k item (did.Act q k ∷ D)).copies ≡ false → IsOfCarrying p (deed ∷ D) (new_message s n q k item (did.Act q k ∷ D))
new_waits s n limits p deed D right q k item is found some = λ own.
    subst (λ (one : Deed). IsCarrying (acted p (one ∷ D)) k) (sym is)
    (new_carried s n limits p q k item D (subst (λ (one : Deed). AreRightDeeds s n limits (one ∷ D)) is right) found (some_copies (λ rep. new_copy s n (did.Act q k ∷ D) rep) (counted_in item) some) own)

other_carries : (s n : ℕ) (limits : Limits) (p : ℕ) (deed : Deed) (D : List Deed) → opens p deed ≡ false → AreRightDeeds s n limits (deed ∷ D) → is_settle deed ≡ false → SettledCarry s n p D → SettledCarry s n p (deed ∷ D)
other_carries s n limits p deed D kept_one right none before = record {
  waits = waits_more (IsOfCarrying p (deed ∷ D)) s n deed D (kept s n p (deed ∷ D) (deed ∷ D)) (new_waits s n limits p deed D right) (still_waits s n p deed D kept_one before.waits);
  settled = subst (AllByRecursion (IsCarrying (acted p (deed ∷ D)))) (sym (settles_same s n p deed D (number_kept p deed D kept_one) none)) (still_settled s n p deed D kept_one (settles_of s n p D) before.settled);
}

settled_by : (s n p k : ℕ) (D : List Deed) (ks : List ℕ) (b : Bool) → AllByRecursion (IsCarrying (acted p D)) ks → (b ≡ true → IsCarrying (acted p D) k) → AllByRecursion (IsCarrying (acted p D)) (ks ++ cond b (k ∷ []) [])
settled_by s n p k D ks true all its = all_push (IsCarrying (acted p D)) ks k all (its refl)
settled_by s n p k D ks false all its = subst (AllByRecursion (IsCarrying (acted p D))) (sym (append-nil ks)) all

settle_carries : (s n : ℕ) (limits : Limits) (p q k : ℕ) (D : List Deed) → AreRightDeeds s n limits (did.Settle q k ∷ D) → SettledCarry s n p D → SettledCarry s n p (did.Settle q k ∷ D)
settle_carries s n limits p q k D right before =
    let told = settled_message s n limits q k D right in
    let m : Message = told.0 in
    record {
      waits = others_wait (IsOfCarrying p (did.Settle q k ∷ D)) s n q k D (kept s n p (did.Settle q k ∷ D) (did.Settle q k ∷ D)) m told.4 (all_without (IsOfCarrying p D) (is_of q k) (work s n D).waiting before.waits);
      settled = subst (AllByRecursion (IsCarrying (acted p D))) (sym (settles_now s n p q k D m told.4)) (settled_by s n p k D (settles_of s n p D) (is_peer s n q && q == p) before.settled
          (λ own. subst (IsCarrying (acted p D)) told.3 (all_found (IsOfCarrying p D) (is_of q k) (work s n D).waiting m told.4 before.waits (eq-eqb m.from p (told.2 ∙ eqb-true q p (and_parts _ _ own).1)))));
    }

-- a session that is opened anew: it had closed, so nothing from p waits
open_carries : (s n : ℕ) (limits : Limits) (p q k : ℕ) (D : List Deed) → AreRightDeeds s n limits (did.Open q k ∷ D) → SettledCarry s n p D → (b : Bool) → (q == p) ≡ b → SettledCarry s n p (did.Open q k ∷ D)
open_carries s n limits p q k D right before true own =
    let E : List Deed = did.Open q k ∷ D in
    let none : settles_of s n p E ≡ [] = ap (filter_map settle_in) (none_sent_new s n p limits (did.Open q k) D right (opens_above s n p limits (did.Open q k) D right.0 own)) in
    record {
      waits = waits_more (IsOfCarrying p E) s n (did.Open q k) D (kept s n p E E) (new_waits s n limits p (did.Open q k) D right)
          (all_weaker (λ (m : Message). (m.from == p) ≡ false) (IsOfCarrying p E) (λ m away from. absurd (both_ways (m.from == p) away from)) (work s n D).waiting (none_from s n limits p q k D right own));
      settled = subst (AllByRecursion (IsCarrying (acted p E))) (sym none) tt;
    }
open_carries s n limits p q k D right before false other = other_carries s n limits p (did.Open q k) D other right refl before

-- in every list of right deeds what is settled carries counted references
pub settled_carry : (s n : ℕ) (limits : Limits) (p : ℕ) (D : List Deed) → AreRightDeeds s n limits D → SettledCarry s n p D
settled_carry s n limits p [] right = record { waits = tt; settled = tt }
settled_carry s n limits p (did.Settle q k ∷ D) right = settle_carries s n limits p q k D right (settled_carry s n limits p D right.1)
settled_carry s n limits p (did.Open q k ∷ D) right = open_carries s n limits p q k D right (settled_carry s n limits p D right.1) (q == p) refl
settled_carry s n limits p (deed ∷ D) right = other_carries s n limits p deed D refl right refl (settled_carry s n limits p D right.1)
