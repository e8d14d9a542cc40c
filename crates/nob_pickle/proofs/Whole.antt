-- A pickle as a whole: what is read of it, what is written, and that no spelling begins another.
use Rattle.std.proofs.Common.{◌≡◌, ℕ, ◌-◌, ◌≤◌, true, false, cond, ltb, eqb, List, [], ◌++◌, length, Result, Ok, Err, refl, sym, ap, subst, ◌∙◌, arith}
use Rattle.std.specs.Prelude.{IfOk, OnOk, MatchResult, nat_le}
use Rattle.std.proofs.lemmas.Bool.{ltb-false, le-ltb, le-leb, leb-true, eqb-true, and_from, and_parts}
use Rattle.std.proofs.lemmas.List.{append-nil, nil_from_length}
use Rattle.nob_pickle.specs.Trees.{Tree}
use Rattle.nob_pickle.specs.Shape.{tree, value}
use Rattle.nob_pickle.specs.Spelling.{spelled, spelling, refs_in}
use Rattle.nob_pickle.specs.Limits.{IsTyped, Fits, Spelt, is_in_limits, has_short_bytes, has_short_lists}
use Rattle.nob_pickle.specs.Writing.{◌>>=◌, Gives, references_left, pickle_of}
use Rattle.nob_pickle.specs.Reading.{tree_at, value_read}
use Rattle.nob_pickle.specs.Laws.{NoFront}
use Rattle.nob_pickle.specs.declared.fault.PickleFault.{PickleFault}
use Rattle.nob_pickle.specs.declared.fault.PickleFault.TheVariants as faults
use Rattle.nob_pickle.specs.declared.fault.PickleError.{PickleError}
use Rattle.nob_pickle.specs.declared.value.Value.{Value}
use Rattle.nob_pickle.proofs.Choices.{bind_ok, guard_ok, ended_ok, ok_is}
use Rattle.nob_pickle.proofs.Numbers.{IsBytes}
use Rattle.nob_pickle.proofs.Forests.{value-tree, tree-value, same_value}
use Rattle.nob_pickle.proofs.Taken.{tree_takes}
use Rattle.nob_pickle.proofs.Again.{tree_again}
use Rattle.nob_pickle.proofs.Bounds.{in_limits, judged_well}

-- a tree that is judged well and has a short spelling is that of a value in the limits
limits_from : (v : Value) (left : ℕ) → references_left (tree v) 16 32 ≡ Ok left → length (spelling v) ≤ 16000 → is_in_limits v ≡ true
limits_from v left e short =
    let h = in_limits (tree v) 16 32 left e in
    and_from _ _ (and_from _ _ (and_from _ _ (and_from _ _ (le-leb _ _ h.depth) h.bytes) h.lists) (le-leb _ _ (omega (arith, h.refs)))) (le-leb _ _ short)

-- the tree of a value in the limits is judged well, and its spelling is short
judged_from : (v : Value) → is_in_limits v ≡ true → (references_left (tree v) 16 32 ≡ Ok (32 - length (refs_in v))) × (length (spelling v) ≤ 16000)
judged_from v e =
    let a = and_parts _ (nat_le (length (spelling v)) 16000) e in
    let b = and_parts _ (nat_le (length (refs_in v)) 32) a.0 in
    let c = and_parts _ (has_short_lists (tree v)) b.0 in
    let d = and_parts _ (has_short_bytes (tree v)) c.0 in
    let few : length (refs_in v) ≤ 32 = leb-true _ _ b.1 in
    (judged_well (tree v) 16 32 (32 - length (refs_in v)) (record { depth = leb-true _ _ d.0; bytes = d.1; lists = c.1; refs = omega (arith, few) }), leb-true _ _ a.1)

-- what is read of the spelling of a value with bytes behind it
spelt_read : (v : Value) (rest : List ℕ) → Fits v → tree_at 16 32 (spelling v ++ rest) ≡ Ok (tree v, 32 - length (refs_in v), rest)
spelt_read v rest fits = tree_again (tree v) 16 32 (32 - length (refs_in v)) rest fits.typed (judged_from v fits.in_limits).0

-- ---- decoding

read_spelt : (bs : List ℕ) (v : Value) → IsBytes bs → value_read bs ≡ Ok v → Spelt bs v
unfolding value_read
read_spelt bs v fits e =
    let g = guard_ok (ltb 16000 (length bs)) faults.TooBig (tree_at 16 32 bs >>= λ t. cond (eqb (length t.2) 0) (Ok (value t.0)) (Err faults.Trailing)) v e in
    let b = bind_ok (tree_at 16 32 bs) (λ t. cond (eqb (length t.2) 0) (Ok (value t.0)) (Err faults.Trailing)) v g.1 in
    let t = b.0 in
    let h = ended_ok (eqb (length t.2) 0) faults.Trailing (value t.0) v b.2 in
    let took = tree_takes 16 32 bs t fits b.1 in
    let nothing : t.2 ≡ [] = nil_from_length t.2 (eqb-true _ _ h.0) in
    let whole : bs ≡ spelled t.0 = took.parts ∙ ap (λ (r : List ℕ). spelled t.0 ++ r) nothing ∙ append-nil (spelled t.0) in
    let same : t.0 ≡ tree v = sym (tree-value t.0) ∙ ap tree h.1 in
    let is : bs ≡ spelling v = whole ∙ ap spelled same in
    let judged : references_left (tree v) 16 32 ≡ Ok t.1 = ap (λ (u : Tree). references_left u 16 32) (sym same) ∙ took.judged in
    let short : length (spelling v) ≤ 16000 = rw (← is) (ltb-false _ _ g.0) in
    record { fits = record { typed = subst IsTyped same took.typed; in_limits = limits_from v t.1 judged short }; is_spelling = is }

whole_read : (bs : List ℕ) (v : Value) → Spelt bs v → value_read bs ≡ Ok v
unfolding value_read
whole_read bs v s =
    let j = judged_from v s.fits.in_limits in
    let is : bs ≡ spelling v ++ [] = s.is_spelling ∙ sym (append-nil (spelling v)) in
    let same : length bs ≡ length (spelling v) = ap length s.is_spelling in
    let short : ltb 16000 (length bs) ≡ false = le-ltb _ _ (omega (arith, j.1, same)) in
    let read : tree_at 16 32 bs ≡ Ok (tree v, 32 - length (refs_in v), []) = ap (tree_at 16 32) is ∙ spelt_read v [] s.fits in
    rw (short, read) (ap (λ (w : Value). Ok w) (value-tree v))

pub found_by : (r : Result Value PickleError) (bs : List ℕ) → IsBytes bs → Gives (λ v. v) r (value_read bs) → IfOk r (λ v. Spelt bs v)
found_by (Ok v) bs fits e = read_spelt bs v fits e
found_by (Err e) bs fits h = tt

pub only_by : (r : Result Value PickleError) (bs : List ℕ) (v : Value) → Spelt bs v → Gives (λ v. v) r (value_read bs) → Gives (λ v. v) r (Ok v)
only_by r bs v s h = subst (λ (w : Result Value PickleFault). Gives (λ v. v) r w) (whole_read bs v s) h

-- ---- encoding

pickle_spelt : (v : Value) (p : List ℕ) → IsTyped (tree v) → pickle_of v ≡ Ok p → Spelt p v
unfolding pickle_of
pickle_spelt v p typed e =
    let g = guard_ok (ltb 16000 (length (spelling v))) faults.TooBig (references_left (tree v) 16 32 >>= λ left. Ok (spelling v)) p e in
    let b = bind_ok (references_left (tree v) 16 32) (λ left. Ok (spelling v)) p g.1 in
    record { fits = record { typed = typed; in_limits = limits_from v b.0 b.1 (ltb-false _ _ g.0) }; is_spelling = sym (ok_is (spelling v) p b.2) }

pub fits_pickle : (v : Value) → Fits v → pickle_of v ≡ Ok (spelling v)
unfolding pickle_of
fits_pickle v fits =
    let j = judged_from v fits.in_limits in
    let short : ltb 16000 (length (spelling v)) ≡ false = le-ltb _ _ j.1 in
    rw (short, j.0) refl

-- what was judged fits
pub judged_fits : (v : Value) → IsTyped (tree v) → pickle_of v ≡ Ok (spelling v) → Fits v
judged_fits v typed e = (pickle_spelt v (spelling v) typed e).fits

pub judged_by : (v : Value) (r : Result ℕ PickleFault) → MatchResult r (λ len. pickle_of v ≡ Ok (spelling v)) (λ fault. pickle_of v ≡ Err fault) → OnOk r (IsTyped (tree v)) → OnOk r (Fits v)
judged_by v (Ok len) exact typed = judged_fits v typed exact
judged_by v (Err fault) exact typed = tt

-- what has a fault doesn't fit
pub faulty : (v : Value) (fault : PickleFault) → pickle_of v ≡ Err fault → Fits v → ⊥
faulty v fault e fits = let well = fits_pickle v fits in cc

-- a pickle isn't long
pub pickle_short : (v : Value) → Fits v → length (spelling v) ≤ 16000
pickle_short v fits = (judged_from v fits.in_limits).1

-- ---- the law

pub no_front : NoFront
no_front front whole rest v w sv sw e =
    let same : spelling w ++ [] ≡ spelling v ++ rest = append-nil (spelling w) ∙ sym sw.is_spelling ∙ e ∙ ap (λ (bs : List ℕ). bs ++ rest) sv.is_spelling in
    let both : Ok (tree v, 32 - length (refs_in v), rest) ≡ tree_at 16 32 (spelling v ++ rest) = sym (spelt_read v rest sv.fits) in
    let again : tree_at 16 32 (spelling v ++ rest) ≡ Ok (tree w, 32 - length (refs_in w), []) = ap (tree_at 16 32) (sym same) ∙ spelt_read w [] sw.fits in
    let one : (tree v, 32 - length (refs_in v), rest) ≡ (tree w, 32 - length (refs_in w), []) = ok_is _ _ (both ∙ again) in
    (ap (λ (x : Tree × ℕ × List ℕ). x.2) one, same_value v w (ap (λ (x : Tree × ℕ × List ℕ). x.0) one))
