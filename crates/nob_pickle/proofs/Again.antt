-- What is spelled is read again.
use Rattle.std.proofs.Common.{◌≡◌, ℕ, suc, ◌-◌, ◌^◌, ◌<◌, ◌≤◌, false, cond, ltb, eqb, not, List, ◌++◌, length, Ok, Err, refl, ap, ◌∙◌, append_assoc, length-append, arith}
use Rattle.std.specs.Int.{w64, cast_unsigned}
use Rattle.std.specs.Int.RustNames.{FitsSigned}
use Rattle.std.proofs.Math.Facts.{Fits-of_z}
use Rattle.std.proofs.lemmas.Bool.{ltb-false, le-ltb, le-leb, and_from, not_from_true}
use Rattle.std.proofs.lemmas.Int.{to_z-of_z}
use Rattle.std.proofs.lemmas.List.{take_at, drop_at}
use Rattle.byteorder.specs.Endian.{big_bytes}
use Rattle.nob_ids.specs.Names.{IsSpace, is_space}
use Rattle.nob_ids.specs.declared.wire_rep.WireRep.{WireRep}
use Rattle.nob_pickle.specs.Trees.{Tree, unit, int, bytes, list, ref, Trees, none, more, count}
use Rattle.nob_pickle.specs.Spelling.{spelled, spelled_all}
use Rattle.nob_pickle.specs.Limits.{IsTyped, AreTyped}
use Rattle.nob_pickle.specs.Writing.{references_left, left_after_all}
use Rattle.nob_pickle.specs.Reading.{int_at, bytes_at, ref_at, trees_at, list_at, tree_by, tree_at}
use Rattle.nob_pickle.specs.declared.fault.PickleFault.TheVariants as faults
use Rattle.nob_pickle.proofs.Choices.{bind_ok, guard_ok, ok_is, within_ok}
use Rattle.nob_pickle.proofs.Numbers.{number_again}
use Rattle.nob_pickle.proofs.Loop.{tree_at_some}

int_again : (left : ℕ) (n : _) (rest : List ℕ) → FitsSigned w64 n → int_at left (big_bytes 8 (cast_unsigned w64 n) ++ rest) ≡ Ok (int n, left, rest)
unfolding int_at
int_again left n rest fits =
    rw (number_again 8 (cast_unsigned w64 n) rest (Fits-of_z fits).fits, to_z-of_z w64 n fits) refl

bytes_again : (left : ℕ) (bs rest : List ℕ) → ltb 8192 (length bs) ≡ false → bytes_at left (big_bytes 4 (length bs) ++ (bs ++ rest)) ≡ Ok (bytes bs, left, rest)
unfolding bytes_at
bytes_again left bs rest small =
    let short : length bs ≤ 8192 = ltb-false _ _ small in
    let long : ltb (length (bs ++ rest)) (length bs) ≡ false = le-ltb _ _ (omega (arith, length-append bs rest)) in
    rw (number_again 4 (length bs) (bs ++ rest) (omega (arith, short)), small, long, take_at bs rest (length bs) refl, drop_at bs rest (length bs) refl) refl

ref_again : (left : ℕ) (r : WireRep) (rest : List ℕ) → IsSpace r.owner → r.index < 2 ^ 64 → eqb left 0 ≡ false → ref_at left (big_bytes 2 r.owner ++ (big_bytes 8 r.index ++ rest)) ≡ Ok (ref r, left - 1, rest)
unfolding ref_at
ref_again left r rest space index some =
    let range : not (is_space r.owner) ≡ false = not_from_true _ (and_from _ _ (le-leb _ _ space.0) (le-leb _ _ space.1)) in
    rw (number_again 2 r.owner (big_bytes 8 r.index ++ rest) (omega (arith, space.1)), number_again 8 r.index rest index, range, some) refl

mutual
  unfolding tree_by list_at trees_at

  pub tree_again : (t : Tree) (levels left left' : ℕ) (rest : List ℕ) → IsTyped t → references_left t levels left ≡ Ok left' → tree_at levels left (spelled t ++ rest) ≡ Ok (t, left', rest)
  tree_again unit levels left left' rest typed e =
      let w = within_ok levels (Ok left) left' e in
      tree_at_some levels left _ w.0 ∙ ap (λ (k : ℕ). Ok (unit, k, rest)) (ok_is left left' w.1)
  tree_again (int n) levels left left' rest typed e =
      let w = within_ok levels (Ok left) left' e in
      tree_at_some levels left _ w.0 ∙ int_again left n rest typed ∙ ap (λ (k : ℕ). Ok (int n, k, rest)) (ok_is left left' w.1)
  tree_again (bytes bs) levels left left' rest typed e =
      let w = within_ok levels (cond (ltb 8192 (length bs)) (Err faults.Bytes) (Ok left)) left' e in
      let g = guard_ok (ltb 8192 (length bs)) faults.Bytes (Ok left) left' w.1 in
      tree_at_some levels left _ w.0 ∙ bytes_again left bs rest g.0 ∙ ap (λ (k : ℕ). Ok (bytes bs, k, rest)) (ok_is left left' g.1)
  tree_again (list ts) levels left left' rest typed e =
      let w = within_ok levels (cond (ltb 256 (count ts)) (Err faults.Count) (left_after_all ts (levels - 1) left)) left' e in
      let g = guard_ok (ltb 256 (count ts)) faults.Count (left_after_all ts (levels - 1) left) left' w.1 in
      let few : count ts ≤ 256 = ltb-false _ _ g.0 in
      let elements = trees_again ts (levels - 1) left left' rest typed g.1 in
      tree_at_some levels left _ w.0 ∙ rw (number_again 2 (count ts) (spelled_all ts ++ rest) (omega (arith, few)), g.0, elements) refl
  tree_again (ref r) levels left left' rest typed e =
      let w = within_ok levels (cond (eqb left 0) (Err faults.TooBig) (Ok (left - 1))) left' e in
      let g = guard_ok (eqb left 0) faults.TooBig (Ok (left - 1)) left' w.1 in
      tree_at_some levels left _ w.0 ∙ ref_again left r rest typed.0 typed.1 g.0 ∙ ap (λ (k : ℕ). Ok (ref r, k, rest)) (ok_is (left - 1) left' g.1)

  pub trees_again : (ts : Trees) (levels left left' : ℕ) (rest : List ℕ) → AreTyped ts → left_after_all ts levels left ≡ Ok left' → trees_at (tree_at levels) (count ts) left (spelled_all ts ++ rest) ≡ Ok (ts, left', rest)
  trees_again none levels left left' rest typed e = ap (λ (k : ℕ). Ok (none, k, rest)) (ok_is left left' e)
  trees_again (more t ts) levels left left' rest typed e =
      let a = bind_ok (references_left t levels left) (left_after_all ts levels) left' e in
      let first = tree_again t levels left a.0 (spelled_all ts ++ rest) typed.0 a.1 in
      let others = trees_again ts levels a.0 left' rest typed.1 a.2 in
      let many : count (more t ts) ≡ suc (count ts) = omega arith in
      rw (many, append_assoc (spelled t) (spelled_all ts) rest, first, others) refl
