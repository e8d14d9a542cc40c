-- A value that is judged well is in the limits, and one in the limits is judged well.
use Rattle.std.proofs.Common.{◌≡◌, ℕ, ◌+◌, ◌-◌, ◌≤◌, true, cond, ltb, eqb, ◌++◌, length, Result, Ok, Err, refl, ap, ◌∙◌, length-append, arith}
use Rattle.std.specs.Prelude.{nat_le}
use Rattle.std.proofs.lemmas.Bool.{ltb-false, le-ltb, le-leb, leb-true, eqb-false, ne_eqb, and_from, and_parts, cond-false}
use Rattle.nob_pickle.specs.Trees.{Tree, unit, int, bytes, list, ref, Trees, none, more, count}
use Rattle.nob_pickle.specs.Spelling.{refs, all_refs}
use Rattle.nob_pickle.specs.Limits.{depth, deepest, has_short_bytes, have_short_bytes, has_short_lists, have_short_lists}
use Rattle.nob_pickle.specs.Writing.{◌>>=◌, references_left, left_after_all}
use Rattle.nob_pickle.specs.declared.fault.PickleFault.{PickleFault}
use Rattle.nob_pickle.specs.declared.fault.PickleFault.TheVariants as faults
use Rattle.nob_pickle.proofs.Choices.{bind_ok, guard_ok, ok_is, within_ok, within_some}

pub record InLimits (t : Tree) (levels left left' : ℕ) : Type 0 where
  pub depth : depth t ≤ levels
  pub bytes : has_short_bytes t ≡ true
  pub lists : has_short_lists t ≡ true
  pub refs : length (refs t) + left' ≡ left

pub record AllInLimits (ts : Trees) (levels left left' : ℕ) : Type 0 where
  pub depth : deepest ts ≤ levels
  pub bytes : have_short_bytes ts ≡ true
  pub lists : have_short_lists ts ≡ true
  pub refs : length (all_refs ts) + left' ≡ left

mutual
  pub in_limits : (t : Tree) (levels left left' : ℕ) → references_left t levels left ≡ Ok left' → InLimits t levels left left'
  in_limits unit levels left left' e =
      let w = within_ok levels (Ok left) left' e in
      let same : left ≡ left' = ok_is left left' w.1 in
      record { depth = omega (arith, w.0); bytes = refl; lists = refl; refs = omega (arith, same) }
  in_limits (int n) levels left left' e =
      let w = within_ok levels (Ok left) left' e in
      let same : left ≡ left' = ok_is left left' w.1 in
      record { depth = omega (arith, w.0); bytes = refl; lists = refl; refs = omega (arith, same) }
  in_limits (bytes bs) levels left left' e =
      let w = within_ok levels (cond (ltb 8192 (length bs)) (Err faults.Bytes) (Ok left)) left' e in
      let g = guard_ok (ltb 8192 (length bs)) faults.Bytes (Ok left) left' w.1 in
      let same : left ≡ left' = ok_is left left' g.1 in
      record { depth = omega (arith, w.0); bytes = le-leb _ _ (ltb-false _ _ g.0); lists = refl; refs = omega (arith, same) }
  in_limits (list ts) levels left left' e =
      let w = within_ok levels (cond (ltb 256 (count ts)) (Err faults.Count) (left_after_all ts (levels - 1) left)) left' e in
      let g = guard_ok (ltb 256 (count ts)) faults.Count (left_after_all ts (levels - 1) left) left' w.1 in
      let all = all_in_limits ts (levels - 1) left left' g.1 in
      record { depth = omega (arith, w.0, all.depth); bytes = all.bytes; lists = and_from _ _ (le-leb _ _ (ltb-false _ _ g.0)) all.lists; refs = all.refs }
  in_limits (ref r) levels left left' e =
      let w = within_ok levels (cond (eqb left 0) (Err faults.TooBig) (Ok (left - 1))) left' e in
      let g = guard_ok (eqb left 0) faults.TooBig (Ok (left - 1)) left' w.1 in
      let same : left - 1 ≡ left' = ok_is (left - 1) left' g.1 in
      let some : left ≡ 0 → ⊥ = eqb-false left 0 g.0 in
      record { depth = omega (arith, w.0); bytes = refl; lists = refl; refs = grind (arith, same, some) }

  pub all_in_limits : (ts : Trees) (levels left left' : ℕ) → left_after_all ts levels left ≡ Ok left' → AllInLimits ts levels left left'
  all_in_limits none levels left left' e =
      let same : left ≡ left' = ok_is left left' e in
      record { depth = omega arith; bytes = refl; lists = refl; refs = omega (arith, same) }
  all_in_limits (more t ts) levels left left' e =
      let a = bind_ok (references_left t levels left) (left_after_all ts levels) left' e in
      let first = in_limits t levels left a.0 a.1 in
      let others = all_in_limits ts levels a.0 left' a.2 in
      record {
        depth = omega (arith, first.depth, others.depth);
        bytes = and_from _ _ first.bytes others.bytes;
        lists = and_from _ _ first.lists others.lists;
        refs = omega (arith, first.refs, others.refs, length-append (refs t) (all_refs ts));
      }

mutual
  pub judged_well : (t : Tree) (levels left left' : ℕ) → InLimits t levels left left' → references_left t levels left ≡ Ok left'
  judged_well unit levels left left' h =
      let same : left ≡ left' = omega (arith, h.refs) in
      within_some levels (Ok left) (omega (arith, h.depth)) ∙ ap (λ (k : ℕ). Ok k) same
  judged_well (int n) levels left left' h =
      let same : left ≡ left' = omega (arith, h.refs) in
      within_some levels (Ok left) (omega (arith, h.depth)) ∙ ap (λ (k : ℕ). Ok k) same
  judged_well (bytes bs) levels left left' h =
      let same : left ≡ left' = omega (arith, h.refs) in
      within_some levels _ (omega (arith, h.depth)) ∙ cond-false (ltb 8192 (length bs)) (Err faults.Bytes) (Ok left) (le-ltb _ _ (leb-true _ _ h.bytes)) ∙ ap (λ (k : ℕ). Ok k) same
  judged_well (list ts) levels left left' h =
      let parts = and_parts (nat_le (count ts) 256) (have_short_lists ts) h.lists in
      within_some levels _ (omega (arith, h.depth)) ∙ cond-false (ltb 256 (count ts)) (Err faults.Count) (left_after_all ts (levels - 1) left) (le-ltb _ _ (leb-true _ _ parts.0))
      ∙ all_judged_well ts (levels - 1) left left' (record { depth = omega (arith, h.depth); bytes = h.bytes; lists = parts.1; refs = h.refs })
  judged_well (ref r) levels left left' h =
      let some : left ≡ 0 → ⊥ = λ e. omega (arith, e, h.refs) in
      let same : left - 1 ≡ left' = omega (arith, h.refs) in
      within_some levels _ (omega (arith, h.depth)) ∙ cond-false (eqb left 0) (Err faults.TooBig) (Ok (left - 1)) (ne_eqb left 0 some) ∙ ap (λ (k : ℕ). Ok k) same

  pub all_judged_well : (ts : Trees) (levels left left' : ℕ) → AllInLimits ts levels left left' → left_after_all ts levels left ≡ Ok left'
  all_judged_well none levels left left' h =
      let same : left ≡ left' = omega (arith, h.refs) in
      ap (λ (k : ℕ). Ok k) same
  all_judged_well (more t ts) levels left left' h =
      let b = and_parts (has_short_bytes t) (have_short_bytes ts) h.bytes in
      let l = and_parts (has_short_lists t) (have_short_lists ts) h.lists in
      let total : length (refs t ++ all_refs ts) + left' ≡ left = h.refs in
      let middle : ℕ = length (all_refs ts) + left' in
      let first = judged_well t levels left (length (all_refs ts) + left')
      (record { depth = omega (arith, h.depth); bytes = b.0; lists = l.0; refs = omega (arith, total, length-append (refs t) (all_refs ts)) }) in
      let others = all_judged_well ts levels (length (all_refs ts) + left') left' (record { depth = omega (arith, h.depth); bytes = b.1; lists = l.1; refs = refl }) in
      ap (λ (r : Result ℕ PickleFault). r >>= left_after_all ts levels) first ∙ others
