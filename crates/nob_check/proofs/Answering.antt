-- A space that is asked the events of its trace one after the other.
use Rattle.std.proofs.Common.{◌≡◌, ◌↔◌, ℕ, ◌+◌, Bool, true, false, List, ◌∷◌, length, Some, slice_get, sym, subst, ◌∙◌}
use Rattle.nob_ids.specs.declared.limits.Limits.{Limits}
use Rattle.nob_model_types.specs.declared.entry.Entry.{Entry}
use Rattle.nob_model.specs.Right.{IsRight}
use Rattle.nob_model_invariant.specs.Typed.{IsOfTypes, AreOfTypes}
use Rattle.nob_space.specs.Spaces.{Owner, StandsFor, SameSpace}
use Rattle.nob_trace.specs.declared.stamped.Stamped.{Stamped}
use Rattle.nob_trace.specs.declared.trace.Trace.{Trace}
use Rattle.nob_model_traces.specs.Apart.{entry_at}
use Rattle.nob_model_traces.specs.Traces.{IsFirstWrong, journal_at}
use Rattle.nob_model_traces.proofs.Entering.{whole}
use Rattle.nob_model_traces.proofs.Telling.{told, AreRightTo, told_more, right_more, right_all, wrong_at}
use Rattle.nob_check.specs.Running.{IsNewOf, IsRightAndTyped}

-- a space that answered the entries of its trace up to a place as the trace has them
pub record IsAt (trace : Trace) (i : ℕ) (space : Owner) : Type 0 where
  pub id : space.id ≡ trace.space
  pub n : space.n ≡ trace.n
  pub limits : space.limits ≡ trace.limits
  pub stands : StandsFor space (told trace i)
  pub right : AreRightTo trace i
  pub typed : AreOfTypes (told trace i)

pub at_start : (trace : Trace) (space : Owner) → IsNewOf trace space → IsAt trace 0 space
at_start trace space new = record { id = new.id; n = new.n; limits = new.limits; stands = new.stands; right = tt; typed = tt }

-- what is right by a space's own numbers is by those of its trace
by_trace : (trace : Trace) (i : ℕ) (e : Stamped) (old : Owner) → IsAt trace i old → IsRight old.id old.n old.limits (entry_at old.id e) (told trace i) → IsRight trace.space trace.n trace.limits (entry_at trace.space e) (told trace i)
by_trace trace i e old at right =
    subst (λ (s : ℕ). IsRight s trace.n trace.limits (entry_at s e) (told trace i)) at.id
    (subst (λ (n : ℕ). IsRight old.id n trace.limits (entry_at old.id e) (told trace i)) at.n
    (subst (λ (its : Limits). IsRight old.id old.n its (entry_at old.id e) (told trace i)) at.limits right))

by_space : (trace : Trace) (i : ℕ) (e : Stamped) (old : Owner) → IsAt trace i old → IsRight trace.space trace.n trace.limits (entry_at trace.space e) (told trace i) → IsRight old.id old.n old.limits (entry_at old.id e) (told trace i)
by_space trace i e old at right =
    subst (λ (its : Limits). IsRight old.id old.n its (entry_at old.id e) (told trace i)) (sym at.limits)
    (subst (λ (n : ℕ). IsRight old.id n trace.limits (entry_at old.id e) (told trace i)) (sym at.n)
    (subst (λ (s : ℕ). IsRight s trace.n trace.limits (entry_at s e) (told trace i)) (sym at.id) right))

-- it answers one entry more
pub at_next : (trace : Trace) (i : ℕ) (e : Stamped) (old new : Owner) (same : Bool) → slice_get trace.entries i ≡ Some e → IsAt trace i old
    → ((L : List Entry) → StandsFor old L → (same ≡ true) ↔ IsRight old.id old.n old.limits (entry_at old.id e) L)
    → (same ≡ true → (L : List Entry) → StandsFor old L → StandsFor new (entry_at old.id e ∷ L)) → (same ≡ true → IsOfTypes (entry_at old.id e)) → SameSpace old new → same ≡ true → IsAt trace (i + 1) new
at_next trace i e old new same is at right stands typed kept holds =
    let more = told_more trace i e is in
    record {
      id = kept.id ∙ at.id;
      n = kept.n ∙ at.n;
      limits = kept.limits ∙ at.limits;
      stands = subst (StandsFor new) (sym more) (subst (λ (s : ℕ). StandsFor new (entry_at s e ∷ told trace i)) at.id (stands holds (told trace i) at.stands));
      right = right_more trace i e is (by_trace trace i e old at ((right (told trace i) at.stands).0 holds)) at.right;
      typed = subst AreOfTypes (sym more) (subst (λ (s : ℕ). IsOfTypes (entry_at s e)) at.id (typed holds), at.typed);
    }

-- or it doesn't
pub wrong_next : (trace : Trace) (i : ℕ) (e : Stamped) (old : Owner) (same : Bool) → slice_get trace.entries i ≡ Some e → IsAt trace i old
    → ((L : List Entry) → StandsFor old L → (same ≡ true) ↔ IsRight old.id old.n old.limits (entry_at old.id e) L) → same ≡ false → IsFirstWrong trace (i + 1)
wrong_next trace i e old same is at right fails =
    wrong_at trace i e is (λ told_right. let holds : same ≡ true = (right (told trace i) at.stands).1 (by_space trace i e old at told_right) in absurd cc) at.right

-- at the end it answered all
pub at_end : (trace : Trace) (i : ℕ) (space : Owner) → i ≡ length trace.entries → IsAt trace i space → IsRightAndTyped trace
at_end trace i space is at = record {
  right = right_all trace i is at.right;
  typed = subst (λ (es : List Stamped). AreOfTypes (journal_at trace.space es)) (whole trace.entries i is) at.typed;
}
