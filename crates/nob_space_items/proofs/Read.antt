-- A value that can be read has few references.
use Rattle.std.proofs.Common.{◌≡◌, ℕ, zero, suc, ◌+◌, ◌-◌, ◌≤◌, Bool, true, false, not, ◌==◌, List, [], ◌∷◌, ◌++◌, length, take, drop, Result, Ok, Err, if◌then◌else◌, refl, sym, ap, subst, ◌∙◌, arith}
use Rattle.std.specs.Prelude.{nat_lt}
use Rattle.std.specs.Int.{w64, cast_signed}
use Rattle.std.proofs.lemmas.Bool.Decides.{nat_tests}
use Rattle.std.proofs.lemmas.List.{length-append}
use Rattle.nob_pickle.proofs.Choices.{bind_ok, guard_ok, ended_ok, ok_is}
use Rattle.nob_ids.specs.Names.{is_space}
use Rattle.nob_pickle.specs.Trees.{Tree, unit, int, bytes, list, ref, Trees, none, more}
use Rattle.nob_pickle.specs.Shape.{tree, value}
use Rattle.nob_pickle.specs.Spelling.{refs, all_refs, refs_in}
use Rattle.nob_pickle.specs.Limits.{most_bytes, most_elements, most_references, most_levels, most_in_all}
use Rattle.nob_pickle.specs.Writing.{◌>>=◌}
use Rattle.nob_pickle.specs.Reading.{Front, number_at, int_at, bytes_at, ref_at, trees_at, list_at, tree_by, tree_at, value_read}
use Rattle.nob_pickle.specs.declared.fault.PickleFault.TheVariants as faults
use Rattle.nob_pickle.specs.declared.value.Value.{Value}

pub no_ok : {A E : Type 0} (fault : E) (x : A) → Err fault ≡ Ok x → ⊥
no_ok fault x e = cc

-- a choice that succeeds is one of two
pub either : {A E P : Type 0} (b : Bool) (one other : Result A E) (x : A) → (if b then one else other) ≡ Ok x → (one ≡ Ok x → P) → (other ≡ Ok x → P) → P
either true one other x e first second = first e
either false one other x e first second = second e

-- each reference that is read is one that may no more come
abbrev Counts : ℕ → Tree × ℕ × List ℕ → Type 0
Counts left x = length (refs x.0) + x.1 ≡ left

abbrev CountsAll : ℕ → Trees × ℕ × List ℕ → Type 0
CountsAll left x = length (all_refs x.0) + x.1 ≡ left

int_counts : (left : ℕ) (bs : List ℕ) (x : Tree × ℕ × List ℕ) → int_at left bs ≡ Ok x → Counts left x
unfolding int_at
int_counts left bs x e =
    let a = bind_ok (number_at 8 bs) (λ n. Ok (int (cast_signed w64 n.0), left, n.1)) x e in
    subst (Counts left) (ok_is (int (cast_signed w64 a.0.0), left, a.0.1) x a.2) (omega arith)

bytes_counts : (left : ℕ) (bs : List ℕ) (x : Tree × ℕ × List ℕ) → bytes_at left bs ≡ Ok x → Counts left x
unfolding bytes_at
bytes_counts left bs x e =
    let a = bind_ok (number_at 4 bs) (λ n. if nat_lt most_bytes n.0 then Err faults.Bytes else if nat_lt (length n.1) n.0 then Err faults.Short else Ok (bytes (take n.0 n.1), left, drop n.0 n.1)) x e in
    either (nat_lt most_bytes a.0.0) _ _ x a.2 (λ bad. absurd (no_ok faults.Bytes x bad)) (λ f.
    either (nat_lt (length a.0.1) a.0.0) _ _ x f (λ bad. absurd (no_ok faults.Short x bad)) (λ g.
    subst (Counts left) (ok_is (bytes (take a.0.0 a.0.1), left, drop a.0.0 a.0.1) x g) (omega arith)))

ref_counts : (left : ℕ) (bs : List ℕ) (x : Tree × ℕ × List ℕ) → ref_at left bs ≡ Ok x → Counts left x
unfolding ref_at
ref_counts left bs x e =
    let a = bind_ok (number_at 2 bs) (λ o. number_at 8 o.1 >>= λ i. if not (is_space o.0) then Err faults.Space else if left == 0 then Err faults.TooBig else Ok (ref (record { owner = o.0; index = i.0 }), left - 1, i.1)) x e in
    let b = bind_ok (number_at 8 a.0.1) (λ i. if not (is_space a.0.0) then Err faults.Space else if left == 0 then Err faults.TooBig else Ok (ref (record { owner = a.0.0; index = i.0 }), left - 1, i.1)) x a.2 in
    either (not (is_space a.0.0)) _ _ x b.2 (λ bad. absurd (no_ok faults.Space x bad)) (λ f.
    elim (left == 0) as (λ z. left == 0 ≡ z → (if z then Err faults.TooBig else Ok (ref (record { owner = a.0.0; index = b.0.0 }), left - 1, b.0.1)) ≡ Ok x → Counts left x) [
      | true ↦ λ _ bad. absurd (no_ok faults.TooBig x bad)
      | false ↦ λ some g.
          let low : 1 ≤ left = grind (arith, nat_tests, some) in
          subst (Counts left) (ok_is (ref (record { owner = a.0.0; index = b.0.0 }), left - 1, b.0.1) x g) (omega (arith, low))
    ] refl f)

module _ (read : ℕ → List ℕ → Front Tree) (one : (left : ℕ) (bs : List ℕ) (x : Tree × ℕ × List ℕ) → read left bs ≡ Ok x → Counts left x) where
  trees_count : (n left : ℕ) (bs : List ℕ) (x : Trees × ℕ × List ℕ) → trees_at read n left bs ≡ Ok x → CountsAll left x
  unfolding trees_at
  trees_count zero left bs x e = subst (CountsAll left) (ok_is (none, left, bs) x e) (omega arith)
  trees_count (suc n) left bs x e =
      let a = bind_ok (read left bs) (λ first. trees_at read n first.1 first.2 >>= λ others. Ok (more first.0 others.0, others.1, others.2)) x e in
      let t = a.0 in
      let b = bind_ok (trees_at read n t.1 t.2) (λ others. Ok (more t.0 others.0, others.1, others.2)) x a.2 in
      let ts = b.0 in
      let first : length (refs t.0) + t.1 ≡ left = one left bs t a.1 in
      let others : length (all_refs ts.0) + ts.1 ≡ t.1 = trees_count n t.1 t.2 ts b.1 in
      let both : length (refs t.0 ++ all_refs ts.0) ≡ length (refs t.0) + length (all_refs ts.0) = length-append (refs t.0) (all_refs ts.0) in
      subst (CountsAll left) (ok_is (more t.0 ts.0, ts.1, ts.2) x b.2) (omega (arith, first, others, both))

  list_counts : (left : ℕ) (bs : List ℕ) (x : Tree × ℕ × List ℕ) → list_at read left bs ≡ Ok x → Counts left x
  unfolding list_at
  list_counts left bs x e =
      let a = bind_ok (number_at 2 bs) (λ n. if nat_lt most_elements n.0 then Err faults.Count else (trees_at read n.0 left n.1 >>= λ ts. Ok (list ts.0, ts.1, ts.2))) x e in
      either (nat_lt most_elements a.0.0) _ _ x a.2 (λ bad. absurd (no_ok faults.Count x bad)) (λ f.
      let b = bind_ok (trees_at read a.0.0 left a.0.1) (λ ts. Ok (list ts.0, ts.1, ts.2)) x f in
      subst (Counts left) (ok_is (list b.0.0, b.0.1, b.0.2) x b.2) (trees_count a.0.0 left a.0.1 b.0 b.1))

  by_counts : (left : ℕ) (bs : List ℕ) (x : Tree × ℕ × List ℕ) → tree_by read left bs ≡ Ok x → Counts left x
  unfolding tree_by
  by_counts left [] x e = absurd (no_ok faults.Short x e)
  by_counts left (first ∷ bs) x e =
      either (first == 0) _ _ x e (λ f. subst (Counts left) (ok_is (unit, left, bs) x f) (omega arith)) (λ f.
      either (first == 1) _ _ x f (int_counts left bs x) (λ g.
      either (first == 2) _ _ x g (bytes_counts left bs x) (λ h.
      either (first == 3) _ _ x h (list_counts left bs x) (λ i.
      either (first == 4) _ _ x i (ref_counts left bs x) (λ j. absurd (no_ok faults.Tag x j))))))

tree_counts : (levels left : ℕ) (bs : List ℕ) (x : Tree × ℕ × List ℕ) → tree_at levels left bs ≡ Ok x → Counts left x
unfolding tree_at
tree_counts zero left bs x e = absurd (no_ok faults.Depth x e)
tree_counts (suc levels) left bs x e = by_counts (tree_at levels) (tree_counts levels) left bs x e

tree_value : (t : Tree) → tree (value t) ≡ t
tree_value unit = refl
tree_value (int n) = refl
tree_value (bytes bs) = refl
tree_value (list ts) = refl
tree_value (ref rep) = refl

-- a value that was read has 32 references at most
pub value_few : (bs : List ℕ) (v : Value) → value_read bs ≡ Ok v → length (refs_in v) ≤ 32
unfolding value_read
value_few bs v e =
    let a = guard_ok (nat_lt most_in_all (length bs)) faults.TooBig (tree_at most_levels most_references bs >>= λ t. if length t.2 == 0 then Ok (value t.0) else Err faults.Trailing) v e in
    let b = bind_ok (tree_at most_levels most_references bs) (λ t. if length t.2 == 0 then Ok (value t.0) else Err faults.Trailing) v a.1 in
    let c = ended_ok (length b.0.2 == 0) faults.Trailing (value b.0.0) v b.2 in
    let counts : length (refs b.0.0) + b.0.1 ≡ 32 = tree_counts most_levels most_references bs b.0 b.1 in
    let same : length (refs_in v) ≡ length (refs b.0.0) = ap (λ (w : Value). length (refs_in w)) (sym c.1) ∙ ap (λ (t : Tree). length (refs t)) (tree_value b.0.0) in
    omega (arith, counts, same)
