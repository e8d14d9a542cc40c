-- What is read is spelled so, and is in the limits as far as they are judged on the way.
use Rattle.std.proofs.Common.{◌≡◌, ℕ, zero, suc, ◌-◌, ◌≤◌, false, cond, ltb, eqb, not, List, [], ◌∷◌, ◌++◌, length, take, drop, Result, Ok, Err, refl, sym, ap, subst, ◌∙◌, append_assoc, arith, inl, inr}
use Rattle.std.specs.Int.{w64, cast_signed, cast_unsigned}
use Rattle.std.specs.Int.RustNames.{FitsSigned}
use Rattle.std.proofs.Math.Facts.{sfits_to_z, Fits-of_lt}
use Rattle.std.proofs.lemmas.Bool.{ltb-false, eqb-true, leb-true, and_parts, not-false, cond-false}
use Rattle.std.proofs.lemmas.Int.{of_z-to_z}
use Rattle.std.proofs.lemmas.List.{take-append-drop, length-take}
use Rattle.byteorder.specs.Endian.{big_bytes}
use Rattle.nob_ids.specs.Names.{IsSpace, is_space}
use Rattle.nob_pickle.specs.Trees.{Tree, unit, int, bytes, list, ref, Trees, none, more, count}
use Rattle.nob_pickle.specs.Spelling.{spelled, spelled_all}
use Rattle.nob_pickle.specs.Limits.{IsTyped, AreTyped}
use Rattle.nob_pickle.specs.Writing.{◌>>=◌, within, references_left, left_after_all}
use Rattle.nob_pickle.specs.Reading.{number_at, int_at, bytes_at, ref_at, trees_at, list_at, tree_by, tree_at}
use Rattle.nob_pickle.specs.declared.fault.PickleFault.{PickleFault}
use Rattle.nob_pickle.specs.declared.fault.PickleFault.TheVariants as faults
use Rattle.nob_pickle.proofs.Choices.{bind_ok, guard_ok, choice, ok_is, within_some}
use Rattle.nob_pickle.proofs.Numbers.{IsBytes, IsBytes-drop, back_2, back_4, back_8, number_takes}

-- a tree was read from the front, with so many levels and references left
pub record Took (levels left : ℕ) (bs : List ℕ) (x : Tree × ℕ × List ℕ) : Type 0 where
  pub parts : bs ≡ spelled x.0 ++ x.2
  pub rest_fits : IsBytes x.2
  pub typed : IsTyped x.0
  pub judged : references_left x.0 levels left ≡ Ok x.1

-- the same of so many trees
pub record TookAll (levels left n : ℕ) (bs : List ℕ) (x : Trees × ℕ × List ℕ) : Type 0 where
  pub parts : bs ≡ spelled_all x.0 ++ x.2
  pub rest_fits : IsBytes x.2
  pub typed : AreTyped x.0
  pub judged : left_after_all x.0 levels left ≡ Ok x.1
  pub many : count x.0 ≡ n

IsBytes-rest : (b : ℕ) (bs : List ℕ) → IsBytes (b ∷ bs) → IsBytes bs
IsBytes-rest b bs h i = h (suc i)

-- with a level left, what stands inside decides
inside : {A : Type 0} (levels : ℕ) (r : Result A PickleFault) → within (suc levels) r ≡ r
inside levels r = within_some (suc levels) r (omega arith)

int_takes : (levels left : ℕ) (bs : List ℕ) (x : Tree × ℕ × List ℕ) → IsBytes bs → int_at left bs ≡ Ok x → Took (suc levels) left (1 ∷ bs) x
unfolding int_at
int_takes levels left bs x fits e =
    let a = bind_ok (number_at 8 bs) (λ n. Ok (int (cast_signed w64 n.0), left, n.1)) x e in
    let n = a.0 in
    let t = number_takes 8 bs n.0 n.1 back_8 fits a.1 in
    let same : cast_unsigned w64 (cast_signed w64 n.0) ≡ n.0 = of_z-to_z w64 n.0 t.1 in
    let signed : FitsSigned w64 (cast_signed w64 n.0) = sfits_to_z (Fits-of_lt t.1) in
    subst (λ (y : Tree × ℕ × List ℕ). Took (suc levels) left (1 ∷ bs) y) (ok_is (int (cast_signed w64 n.0), left, n.1) x a.2)
    (record { parts = ap (λ (r : List ℕ). 1 ∷ r) t.0.parts ∙ ap (λ (k : ℕ). 1 ∷ (big_bytes 8 k ++ n.1)) (sym same); rest_fits = t.0.rest_fits; typed = signed; judged = inside levels (Ok left) })

bytes_takes : (levels left : ℕ) (bs : List ℕ) (x : Tree × ℕ × List ℕ) → IsBytes bs → bytes_at left bs ≡ Ok x → Took (suc levels) left (2 ∷ bs) x
unfolding bytes_at
bytes_takes levels left bs x fits e =
    let a = bind_ok (number_at 4 bs) (λ n. cond (ltb 8192 n.0) (Err faults.Bytes) (cond (ltb (length n.1) n.0) (Err faults.Short) (Ok (bytes (take n.0 n.1), left, drop n.0 n.1)))) x e in
    let n = a.0 in
    let t = number_takes 4 bs n.0 n.1 back_4 fits a.1 in
    let g = guard_ok (ltb 8192 n.0) faults.Bytes (cond (ltb (length n.1) n.0) (Err faults.Short) (Ok (bytes (take n.0 n.1), left, drop n.0 n.1))) x a.2 in
    let h = guard_ok (ltb (length n.1) n.0) faults.Short (Ok (bytes (take n.0 n.1), left, drop n.0 n.1)) x g.1 in
    let long : n.0 ≤ length n.1 = ltb-false _ _ h.0 in
    let len : length (take n.0 n.1) ≡ n.0 = omega (arith, length-take n.0 n.1) in
    let small : ltb 8192 (length (take n.0 n.1)) ≡ false = ap (ltb 8192) len ∙ g.0 in
    let split : bs ≡ big_bytes 4 n.0 ++ (take n.0 n.1 ++ drop n.0 n.1) = t.0.parts ∙ ap (λ (r : List ℕ). big_bytes 4 n.0 ++ r) (sym (take-append-drop n.0 n.1)) in
    let whole : 2 ∷ bs ≡ spelled (bytes (take n.0 n.1)) ++ drop n.0 n.1 =
    ap (λ (r : List ℕ). 2 ∷ r) split ∙ ap (λ (k : ℕ). 2 ∷ (big_bytes 4 k ++ (take n.0 n.1 ++ drop n.0 n.1))) (sym len) in
    subst (λ (y : Tree × ℕ × List ℕ). Took (suc levels) left (2 ∷ bs) y) (ok_is (bytes (take n.0 n.1), left, drop n.0 n.1) x h.1)
    (record { parts = whole; rest_fits = IsBytes-drop n.0 n.1 t.0.rest_fits; typed = tt; judged = inside levels _ ∙ cond-false (ltb 8192 (length (take n.0 n.1))) (Err faults.Bytes) (Ok left) small })

ref_takes : (levels left : ℕ) (bs : List ℕ) (x : Tree × ℕ × List ℕ) → IsBytes bs → ref_at left bs ≡ Ok x → Took (suc levels) left (4 ∷ bs) x
unfolding ref_at
ref_takes levels left bs x fits e =
    let a = bind_ok (number_at 2 bs) (λ o. number_at 8 o.1 >>= λ i. cond (not (is_space o.0)) (Err faults.Space) (cond (eqb left 0) (Err faults.TooBig) (Ok (ref (record { owner = o.0; index = i.0 }), left - 1, i.1)))) x e in
    let o = a.0 in
    let b = bind_ok (number_at 8 o.1) (λ i. cond (not (is_space o.0)) (Err faults.Space) (cond (eqb left 0) (Err faults.TooBig) (Ok (ref (record { owner = o.0; index = i.0 }), left - 1, i.1)))) x a.2 in
    let i = b.0 in
    let g = guard_ok (not (is_space o.0)) faults.Space (cond (eqb left 0) (Err faults.TooBig) (Ok (ref (record { owner = o.0; index = i.0 }), left - 1, i.1))) x b.2 in
    let h = guard_ok (eqb left 0) faults.TooBig (Ok (ref (record { owner = o.0; index = i.0 }), left - 1, i.1)) x g.1 in
    let t = number_takes 2 bs o.0 o.1 back_2 fits a.1 in
    let s = number_takes 8 o.1 i.0 i.1 back_8 t.0.rest_fits b.1 in
    let range = and_parts _ _ (not-false (is_space o.0) g.0) in
    let space : IsSpace o.0 = (leb-true _ _ range.0, leb-true _ _ range.1) in
    let whole : 4 ∷ bs ≡ 4 ∷ ((big_bytes 2 o.0 ++ big_bytes 8 i.0) ++ i.1) =
    ap (λ (r : List ℕ). 4 ∷ r) (t.0.parts ∙ ap (λ (r : List ℕ). big_bytes 2 o.0 ++ r) s.0.parts ∙ sym (append_assoc (big_bytes 2 o.0) (big_bytes 8 i.0) i.1)) in
    subst (λ (y : Tree × ℕ × List ℕ). Took (suc levels) left (4 ∷ bs) y) (ok_is (ref (record { owner = o.0; index = i.0 }), left - 1, i.1) x h.1)
    (record { parts = whole; rest_fits = s.0.rest_fits; typed = (space, s.1); judged = inside levels _ ∙ cond-false (eqb left 0) (Err faults.TooBig) (Ok (left - 1)) h.0 })

-- what reading a tree with so many levels gives is taken from the front
abbrev TakesTrees : ℕ → Type 0
TakesTrees levels = (left : ℕ) (bs : List ℕ) (x : Tree × ℕ × List ℕ) → IsBytes bs → tree_at levels left bs ≡ Ok x → Took levels left bs x

trees_take : (levels : ℕ) → TakesTrees levels → (n left : ℕ) (bs : List ℕ) (x : Trees × ℕ × List ℕ) → IsBytes bs → trees_at (tree_at levels) n left bs ≡ Ok x → TookAll levels left n bs x
unfolding trees_at
trees_take levels one zero left bs x fits e =
    subst (λ (y : Trees × ℕ × List ℕ). TookAll levels left 0 bs y) (ok_is (none, left, bs) x e) (record { parts = refl; rest_fits = fits; typed = tt; judged = refl; many = refl })
trees_take levels one (suc n) left bs x fits e =
    let a = bind_ok (tree_at levels left bs) (λ first. trees_at (tree_at levels) n first.1 first.2 >>= λ others. Ok (more first.0 others.0, others.1, others.2)) x e in
    let t = a.0 in
    let b = bind_ok (trees_at (tree_at levels) n t.1 t.2) (λ others. Ok (more t.0 others.0, others.1, others.2)) x a.2 in
    let ts = b.0 in
    let first = one left bs t fits a.1 in
    let others = trees_take levels one n t.1 t.2 ts first.rest_fits b.1 in
    let split : bs ≡ (spelled t.0 ++ spelled_all ts.0) ++ ts.2 =
    first.parts ∙ ap (λ (r : List ℕ). spelled t.0 ++ r) others.parts ∙ sym (append_assoc (spelled t.0) (spelled_all ts.0) ts.2) in
    subst (λ (y : Trees × ℕ × List ℕ). TookAll levels left (suc n) bs y) (ok_is (more t.0 ts.0, ts.1, ts.2) x b.2)
    (record {
      parts = split;
      rest_fits = others.rest_fits;
      typed = (first.typed, others.typed);
      judged = ap (λ (r : Result ℕ PickleFault). r >>= left_after_all ts.0 levels) first.judged ∙ others.judged;
      many = omega (arith, others.many);
    })

list_takes : (levels left : ℕ) (bs : List ℕ) (x : Tree × ℕ × List ℕ) → TakesTrees levels → IsBytes bs → list_at (tree_at levels) left bs ≡ Ok x → Took (suc levels) left (3 ∷ bs) x
unfolding list_at
list_takes levels left bs x one fits e =
    let a = bind_ok (number_at 2 bs) (λ n. cond (ltb 256 n.0) (Err faults.Count) (trees_at (tree_at levels) n.0 left n.1 >>= λ ts. Ok (list ts.0, ts.1, ts.2))) x e in
    let n = a.0 in
    let t = number_takes 2 bs n.0 n.1 back_2 fits a.1 in
    let g = guard_ok (ltb 256 n.0) faults.Count (trees_at (tree_at levels) n.0 left n.1 >>= λ ts. Ok (list ts.0, ts.1, ts.2)) x a.2 in
    let b = bind_ok (trees_at (tree_at levels) n.0 left n.1) (λ ts. Ok (list ts.0, ts.1, ts.2)) x g.1 in
    let ts = b.0 in
    let all = trees_take levels one n.0 left n.1 ts t.0.rest_fits b.1 in
    let few : ltb 256 (count ts.0) ≡ false = ap (ltb 256) all.many ∙ g.0 in
    let down : suc levels - 1 ≡ levels = omega arith in
    let whole : 3 ∷ bs ≡ spelled (list ts.0) ++ ts.2 =
    ap (λ (r : List ℕ). 3 ∷ r) (t.0.parts ∙ ap (λ (r : List ℕ). big_bytes 2 n.0 ++ r) all.parts) ∙ ap (λ (k : ℕ). 3 ∷ (big_bytes 2 k ++ (spelled_all ts.0 ++ ts.2))) (sym all.many) in
    subst (λ (y : Tree × ℕ × List ℕ). Took (suc levels) left (3 ∷ bs) y) (ok_is (list ts.0, ts.1, ts.2) x b.2)
    (record {
      parts = whole;
      rest_fits = all.rest_fits;
      typed = all.typed;
      judged = inside levels _ ∙ cond-false (ltb 256 (count ts.0)) (Err faults.Count) (left_after_all ts.0 (suc levels - 1) left) few ∙ ap (λ (k : ℕ). left_after_all ts.0 k left) down ∙ all.judged;
    })

first_takes : (levels left first : ℕ) (bs : List ℕ) (x : Tree × ℕ × List ℕ) → TakesTrees levels → IsBytes bs → tree_by (tree_at levels) left (first ∷ bs) ≡ Ok x → Took (suc levels) left (first ∷ bs) x
unfolding tree_by
first_takes levels left first bs x one fits e =
    let P : ℕ → Type 0 = λ k. Took (suc levels) left (k ∷ bs) x in
    elim (choice (eqb first 0) (Ok (unit, left, bs)) _ x e) [
      | inl h ↦ subst P (sym (eqb-true first 0 h.0)) (subst (λ (y : Tree × ℕ × List ℕ). Took (suc levels) left (0 ∷ bs) y) (ok_is (unit, left, bs) x h.1) (record { parts = refl; rest_fits = fits; typed = tt; judged = inside levels (Ok left) }))
      | inr e1 ↦ elim (choice (eqb first 1) (int_at left bs) _ x e1) [
        | inl h ↦ subst P (sym (eqb-true first 1 h.0)) (int_takes levels left bs x fits h.1)
        | inr e2 ↦ elim (choice (eqb first 2) (bytes_at left bs) _ x e2) [
          | inl h ↦ subst P (sym (eqb-true first 2 h.0)) (bytes_takes levels left bs x fits h.1)
          | inr e3 ↦ elim (choice (eqb first 3) (list_at (tree_at levels) left bs) _ x e3) [
            | inl h ↦ subst P (sym (eqb-true first 3 h.0)) (list_takes levels left bs x one fits h.1)
            | inr e4 ↦ elim (choice (eqb first 4) (ref_at left bs) (Err faults.Tag) x e4) [
              | inl h ↦ subst P (sym (eqb-true first 4 h.0)) (ref_takes levels left bs x fits h.1)
              | inr e5 ↦ absurd cc
            ]
          ]
        ]
      ]
    ]

by_takes : (levels left : ℕ) (bs : List ℕ) (x : Tree × ℕ × List ℕ) → TakesTrees levels → IsBytes bs → tree_by (tree_at levels) left bs ≡ Ok x → Took (suc levels) left bs x
unfolding tree_by
by_takes levels left [] x one fits e = absurd cc
by_takes levels left (first ∷ bs) x one fits e = first_takes levels left first bs x one (IsBytes-rest first bs fits) e

pub tree_takes : (levels : ℕ) → TakesTrees levels
unfolding tree_at
tree_takes zero left bs x fits e = absurd cc
tree_takes (suc levels) left bs x fits e = by_takes levels left bs x (tree_takes levels) fits e
