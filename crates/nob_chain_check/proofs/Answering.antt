-- A space that is asked the next events of a trace.
use Rattle.std.proofs.Common.{◌≡◌, ◌↔◌, ℕ, ◌+◌, Bool, true, false, List, [], ◌∷◌, ◌++◌, length, drop, take, Some, slice_get, refl, sym, ap, subst, ◌∙◌, arith}
use Prim.Native.Nat.{zero, suc}
use Rattle.nob_model_types.specs.declared.entry.Entry.{Entry}
use Rattle.nob_model.specs.Right.{IsRight}
use Rattle.nob_model_invariant.specs.Typed.{IsOfTypes}
use Rattle.nob_check.specs.Spaces.{Owner, StandsFor, SameSpace}
use Rattle.nob_trace.specs.declared.stamped.Stamped.{Stamped}
use Rattle.nob_trace.specs.declared.trace.Trace.{Trace}
use Rattle.nob_model_traces.specs.Apart.{entry_at}
use Rattle.nob_model_traces.specs.Traces.{IsFirstWrong}
use Rattle.nob_check.specs.Running.{IsNewOf, IsRightAndTyped}
use Rattle.nob_check.proofs.Answering.{IsAt, at_next, at_end, wrong_next}
use Rattle.nob_chain_check.specs.Running.{HasAnswered}

to_at : (trace : Trace) (i : ℕ) (space : Owner) → HasAnswered trace i space → IsAt trace i space
to_at trace i space has = record { id = has.id; n = has.n; limits = has.limits; stands = has.stands; right = has.right; typed = has.typed }

of_at : (trace : Trace) (i : ℕ) (space : Owner) → IsAt trace i space → HasAnswered trace i space
of_at trace i space at = record { id = at.id; n = at.n; limits = at.limits; stands = at.stands; right = at.right; typed = at.typed }

pub has_none : (trace : Trace) (space : Owner) → IsNewOf trace space → HasAnswered trace 0 space
has_none trace space new = record { id = new.id; n = new.n; limits = new.limits; stands = new.stands; right = tt; typed = tt }

pub has_all : (trace : Trace) (i : ℕ) (space : Owner) → i ≡ length trace.entries → HasAnswered trace i space → IsRightAndTyped trace
has_all trace i space is has = at_end trace i space is (to_at trace i space has)

-- ---- an entry of the next ones

got_drop : (p : ℕ) (xs : List Stamped) (j : ℕ) → slice_get (drop p xs) j ≡ slice_get xs (p + j)
got_drop zero xs j = ap (λ (k : ℕ). slice_get xs k) (let e : j ≡ 0 + j = omega arith in e)
got_drop (suc p) [] j = refl
got_drop (suc p) (x ∷ xs) j = got_drop p xs j ∙ ap (λ (k : ℕ). slice_get (x ∷ xs) k) (let e : suc (p + j) ≡ suc p + j = omega arith in e)

got_front : (ys zs : List Stamped) (j : ℕ) (e : Stamped) → slice_get ys j ≡ Some e → slice_get (ys ++ zs) j ≡ Some e
got_front [] zs j e is = absurd cc
got_front (y ∷ ys) zs zero e is = is
got_front (y ∷ ys) zs (suc j) e is = got_front ys zs j e is

there : (xs ys zs : List Stamped) (p j : ℕ) (e : Stamped) → drop p xs ≡ ys ++ zs → slice_get ys j ≡ Some e → slice_get xs (p + j) ≡ Some e
there xs ys zs p j e is at = sym (got_drop p xs j) ∙ ap (λ (ws : List Stamped). slice_get ws j) is ∙ got_front ys zs j e at

further : (p j : ℕ) → p + j + 1 ≡ p + (j + 1)
further p j = omega arith

-- it answers one more of them
pub answered_next : (trace : Trace) (p j : ℕ) (entries rest : List Stamped) (e : Stamped) (old new : Owner) (same : Bool) → drop p trace.entries ≡ entries ++ rest → slice_get entries j ≡ Some e → HasAnswered trace (p + j) old
    → ((L : List Entry) → StandsFor old L → (same ≡ true) ↔ IsRight old.id old.n old.limits (entry_at old.id e) L)
    → (same ≡ true → (L : List Entry) → StandsFor old L → StandsFor new (entry_at old.id e ∷ L)) → (same ≡ true → IsOfTypes (entry_at old.id e)) → SameSpace old new → same ≡ true → HasAnswered trace (p + (j + 1)) new
answered_next trace p j entries rest e old new same is at has right stands typed kept holds =
    subst (λ (k : ℕ). HasAnswered trace k new) (further p j)
    (of_at trace (p + j + 1) new (at_next trace (p + j) e old new same (there trace.entries entries rest p j e is at) (to_at trace (p + j) old has) right stands typed kept holds))

-- or it doesn't
pub wrong_entry : (trace : Trace) (p j : ℕ) (entries rest : List Stamped) (e : Stamped) (old : Owner) (same : Bool) → drop p trace.entries ≡ entries ++ rest → slice_get entries j ≡ Some e → HasAnswered trace (p + j) old
    → ((L : List Entry) → StandsFor old L → (same ≡ true) ↔ IsRight old.id old.n old.limits (entry_at old.id e) L) → same ≡ false → IsFirstWrong trace (p + (j + 1))
wrong_entry trace p j entries rest e old same is at has right fails =
    subst (λ (k : ℕ). IsFirstWrong trace k) (further p j) (wrong_next trace (p + j) e old same (there trace.entries entries rest p j e is at) (to_at trace (p + j) old has) right fails)
