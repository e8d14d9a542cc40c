-- Slots and the earlier ones of their owners: one slot more, and no slot yet.
use Rattle.std.proofs.Common.{◌≡◌, ℕ, ◌<◌, ◌≤◌, ◌++◌, ◌+◌, ◌-◌, true, false, ◌==◌, List, [], ◌∷◌, length, Some, slice_get, nat_lt, refl, sym, ap, subst, ◌∙◌, arith, eqb-true, true≢false}
use Prim.Native.Nat.{zero, suc}
use lib.ListN.{set, replicate}
use Rattle.std.proofs.lemmas.Bool.Decides.{Decides-ltb, nat_tests}
use Rattle.std.proofs.lemmas.Cmp.{nat_eq_equiv}
use Rattle.std.proofs.lemmas.Option.{none-some, same_Some}
use Rattle.nob_ids.specs.declared.wire_rep.WireRep.{WireRep}
use Rattle.nob_table.specs.declared.order.Slot.{Slot}
use Rattle.nob_table_rows.specs.declared.standing.Surrogate.{Surrogate}
use Rattle.nob_table.specs.Far.{Covers, AreLinked, AreEnds}
use Rattle.nob_table_rows.proofs.Flat.{get_set_other, set_is_written, get_push_low}

apart_from : (i k : ℕ) → (i == k) ≡ false → i ≡ k → ⊥
apart_from i k u e = true≢false (sym (rw e (nat_eq_equiv.refl k)) ∙ u)

all_zero : (n k x : ℕ) → slice_get (replicate n 0) k ≡ Some x → x ≡ 0
all_zero zero k x got = absurd (none-some x got)
all_zero (suc n) zero x got = sym (same_Some 0 x got)
all_zero (suc n) (suc k) x got = all_zero n k x got

module _ (slots : List Slot) (surrogates : List (WireRep × Surrogate)) where
  covers_none : (owner few : ℕ) → few ≡ 0 → Covers slots surrogates owner 0 few
  covers_none owner few is = record {
    low = omega (arith, is);
    last = λ some. absurd (omega (arith, is, some));
    all = λ at slot less got own current. absurd (omega (arith, less));
  }

  -- before the first slot there are none
  pub ends_none : (n : ℕ) → AreEnds slots surrogates (replicate n 0) 0
  ends_none n owner few got = covers_none owner few (all_zero n owner few got)

  pub linked_none : (before : List ℕ) → AreLinked slots surrogates before 0
  linked_none before at few slot less = absurd (omega (arith, less))

  same_there : (k at : ℕ) (e f : Slot) → k ≡ at → slice_get slots at ≡ Some e → slice_get slots k ≡ Some f → e ≡ f
  same_there k at e f same got there = same_Some e f (sym got ∙ ap (λ (j : ℕ). slice_get slots j) (sym same) ∙ there)

  -- a slot more, another owner's
  covers_step : (owner at few : ℕ) (e : Slot) → Covers slots surrogates owner at few → slice_get slots at ≡ Some e → (e.rep.owner ≡ owner → ⊥) → Covers slots surrogates owner (at + 1) few
  covers_step owner at few e covers got apart = record {
    low = omega (arith, covers.low);
    last = covers.last;
    all = λ k f less there is current.
        elim (nat_lt k at) as (λ b. nat_lt k at ≡ b → k < few) [
          | true ↦ λ t. covers.all k f ((Decides-ltb k at).0 t) there is current
          | false ↦ λ u. let same : k ≡ at = grind (arith, nat_tests) in absurd (apart (ap (λ (s : Slot). s.rep.owner) (same_there k at e f same got there) ∙ is))
        ] refl;
  }

  -- a slot more of the owner
  covers_here : (at : ℕ) (e : Slot) → slice_get slots at ≡ Some e → Covers slots surrogates e.rep.owner (at + 1) (at + 1)
  covers_here at e got =
      let back : at + 1 - 1 ≡ at = omega arith in
      record {
        low = omega arith;
        last = λ some. (e, ap (λ (j : ℕ). slice_get slots j) back ∙ got, refl);
        all = λ k f less there is current. less;
      }

  -- a number behind the last changes nothing before it
  pub linked_push : (before : List ℕ) (few x : ℕ) → few ≤ length before → AreLinked slots surrogates before few → AreLinked slots surrogates (before ++ x ∷ []) few
  linked_push before few x short linked k n f less there is = linked k n f less there (sym (get_push_low before x k (omega arith)) ∙ is)

  module _ (before ends : List ℕ) (at : ℕ) (e : Slot) (got : slice_get slots at ≡ Some e) (ended : AreEnds slots surrogates ends at) where
    pub linked_step : (few : ℕ) → AreLinked slots surrogates before at → slice_get ends e.rep.owner ≡ Some few → AreLinked slots surrogates (set before at few) (at + 1)
    linked_step few linked end k n f less there written =
        elim (k == at) as (λ b. (k == at) ≡ b → Covers slots surrogates f.rep.owner k n) [
          | true ↦ λ t.
              let is : k ≡ at = eqb-true k at t in
              let number : n ≡ few = set_is_written before at few n (ap (λ (j : ℕ). slice_get (set before at few) j) (sym is) ∙ written) in
              let here : Covers slots surrogates e.rep.owner k n = rw (is, number) (ended e.rep.owner few end) in
              subst (λ (s : Slot). Covers slots surrogates s.rep.owner k n) (same_there k at e f is got there) here
          | false ↦ λ u.
              let apart = apart_from k at u in
              linked k n f (omega arith) there (sym (get_set_other before at k few apart) ∙ written)
        ] refl

    pub ends_step : AreEnds slots surrogates (set ends e.rep.owner (at + 1)) (at + 1)
    ends_step owner few is =
        elim (owner == e.rep.owner) as (λ b. (owner == e.rep.owner) ≡ b → Covers slots surrogates owner (at + 1) few) [
          | true ↦ λ t.
              let same : owner ≡ e.rep.owner = eqb-true owner e.rep.owner t in
              let number : few ≡ at + 1 = set_is_written ends e.rep.owner (at + 1) few (ap (λ (j : ℕ). slice_get (set ends e.rep.owner (at + 1)) j) (sym same) ∙ is) in
              rw (same, number) (covers_here at e got)
          | false ↦ λ u.
              let apart = apart_from owner e.rep.owner u in
              covers_step owner at few e (ended owner few (sym (get_set_other ends e.rep.owner owner (at + 1) apart) ∙ is)) got (λ x. apart (sym x))
        ] refl
