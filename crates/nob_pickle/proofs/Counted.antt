-- The counted references of values, one after another: which stands behind how many others.
use Rattle.std.proofs.Common.{◌≡◌, ℕ, ◌+◌, ◌<◌, Bool, true, false, cond, List, [], ◌∷◌, ◌++◌, length, drop, get_or, filter, slice_get, Some, refl, ap, ◌∙◌, length-append, arith}
use Prim.Native.Nat.{zero, suc}
use Rattle.std.proofs.lemmas.Option.{none-some}
use Rattle.nob_ids.specs.Names.{is_counted}
use Rattle.nob_ids.specs.declared.wire_rep.WireRep.{WireRep}
use Rattle.nob_pickle.specs.Shape.{tree, forest}
use Rattle.nob_pickle.specs.Spelling.{refs, all_refs, refs_in}
use Rattle.nob_pickle.specs.declared.value.Value.{Value}
use Rattle.nob_pickle.proofs.Written.{first_ahead}

-- those of values, one after another
abbrev pub all_counted : List Value → List WireRep
all_counted vs = filter is_counted (all_refs (forest vs))

-- those of a value
abbrev pub counted : Value → List WireRep
counted v = filter is_counted (refs_in v)

filter-append : {A : Type 0} (test : A → Bool) (xs ys : List A) → filter test (xs ++ ys) ≡ filter test xs ++ filter test ys
filter-append test [] ys = refl
filter-append test (x ∷ xs) ys =
    elim (test x) as (λ b. cond b (x ∷ filter test (xs ++ ys)) (filter test (xs ++ ys)) ≡ cond b (x ∷ filter test xs) (filter test xs) ++ filter test ys) [
      | true ↦ ap (λ zs. x ∷ zs) (filter-append test xs ys)
      | false ↦ filter-append test xs ys
    ]

-- those ahead are those of the next value, and then those behind it
ahead : (vs : List Value) (i : ℕ) (v : Value) → i < length vs → v ≡ get_or vs i v → all_counted (drop i vs) ≡ counted v ++ all_counted (drop (i + 1) vs)
ahead vs i v lt same = ap all_counted (first_ahead vs i v lt same) ∙ filter-append is_counted (refs (tree v)) (all_refs (forest (drop (i + 1) vs)))

found_in_front : (xs ys : List WireRep) (n : ℕ) (rep : WireRep) → slice_get xs n ≡ Some rep → slice_get (xs ++ ys) n ≡ Some rep
found_in_front [] ys n rep e = absurd (none-some rep e)
found_in_front (x ∷ xs) ys zero rep e = e
found_in_front (x ∷ xs) ys (suc n) rep e = found_in_front xs ys n rep e

found_behind : (xs ys : List WireRep) (n m : ℕ) → m + length xs ≡ n → slice_get (xs ++ ys) n ≡ slice_get ys m
found_behind [] ys n m e = let same : n ≡ m = omega arith in ap (λ (k : ℕ). slice_get ys k) same
found_behind (x ∷ xs) ys zero m e = absurd (omega arith)
found_behind (x ∷ xs) ys (suc n) m e = found_behind xs ys n m (omega arith)

module _ (vs : List Value) (i : ℕ) (v : Value) (lt : i < length vs) (same : v ≡ get_or vs i v) (number missing : ℕ)
    (so_far : slice_get (all_counted vs) number ≡ slice_get (all_counted (drop i vs)) missing) where
  -- it is one of the next value's
  pub found_here : (rep : WireRep) → slice_get (counted v) missing ≡ Some rep → slice_get (all_counted vs) number ≡ Some rep
  found_here rep here = so_far ∙ ap (λ (xs : List WireRep). slice_get xs missing) (ahead vs i v lt same) ∙ found_in_front (counted v) (all_counted (drop (i + 1) vs)) missing rep here

  -- it is behind those of the next value
  pub found_later : (after : ℕ) → after + length (counted v) ≡ missing → slice_get (all_counted vs) number ≡ slice_get (all_counted (drop (i + 1) vs)) after
  found_later after more = so_far ∙ ap (λ (xs : List WireRep). slice_get xs missing) (ahead vs i v lt same) ∙ found_behind (counted v) (all_counted (drop (i + 1) vs)) missing after more

  pub left_later : (after : ℕ) → after + length (counted v) ≡ missing → number + length (all_counted (drop i vs)) ≡ missing + length (all_counted vs) → number + length (all_counted (drop (i + 1) vs)) ≡ after + length (all_counted vs)
  left_later after more total = omega (arith, ap length (ahead vs i v lt same), length-append (counted v) (all_counted (drop (i + 1) vs)), more, total)
