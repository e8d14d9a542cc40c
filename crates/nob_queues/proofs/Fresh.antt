-- Three queues of nothing.
use Rattle.std.proofs.Common.{◌≡◌, ℕ, List, [], ◌∷◌, length, count_by, Option, is_some, refl, sym, ap, subst, ◌∙◌, arith}
use Prim.Native.Nat.{zero, suc}
use Rattle.std.proofs.lemmas.Option.{none-some}
use Rattle.nob_slots.specs.Slots.{SlotList, item_at, IsRising}
use Rattle.nob_queues.specs.Keys.{AreKept, Stands, keys_at}

module _ (one two three : SlotList ℕ) (none_one : one.rows ≡ []) (none_two : two.rows ≡ []) (none_three : three.rows ≡ []) where
  none_at : (q : ℕ) → keys_at (one ∷ two ∷ three ∷ []) q ≡ []
  none_at zero = none_one
  none_at (suc zero) = none_two
  none_at (suc (suc zero)) = none_three
  none_at (suc (suc (suc q))) = refl

  none_stands : (q n k : ℕ) → Stands (one ∷ two ∷ three ∷ []) q n k → ⊥
  none_stands q n k stands = none-some k (sym (ap (λ (rs : List (ℕ × ℕ)). item_at rs n) (none_at q)) ∙ stands)

  pub none_kept : {T : Type 0} (slots : List (Option T)) → slots ≡ [] → AreKept slots (one ∷ two ∷ three ∷ [])
  none_kept {T} slots empty = record {
    rising = λ q. subst (λ (rs : List (ℕ × ℕ)). IsRising rs) (sym (none_at q)) tt;
    there = λ q n k stands. absurd (none_stands q n k stands);
    once = λ q n r m k first second. absurd (none_stands q n k first);
    all = (let count = ap (λ (ss : List (Option T)). count_by is_some ss) empty in
        let a = ap (λ (rs : List (ℕ × ℕ)). length rs) none_one in
        let b = ap (λ (rs : List (ℕ × ℕ)). length rs) none_two in
        let c = ap (λ (rs : List (ℕ × ℕ)). length rs) none_three in
        omega (arith, count, a, b, c));
  }
