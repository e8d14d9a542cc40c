-- A trace up to a place, and the first entry of it that isn't right.
use Rattle.std.proofs.Common.{◌≡◌, ℕ, ◌+◌, ◌<◌, List, ◌∷◌, length, take, drop, slice_get, Some, sym, ap, subst, arith}
use Prim.Native.Nat.{suc}
use Rattle.std.proofs.lemmas.List.{length-take-le}
use Rattle.std.proofs.lemmas.Option.{slice_get_within}
use Rattle.nob_model_types.specs.declared.entry.Entry.{Entry}
use Rattle.nob_model.specs.Right.{IsRight}
use Rattle.nob_trace.specs.declared.stamped.Stamped.{Stamped}
use Rattle.nob_trace.specs.declared.trace.Trace.{Trace}
use Rattle.nob_model_traces.specs.Apart.{entry_at}
use Rattle.nob_model_traces.specs.Traces.{journal_at, AreRight, IsRightTrace, IsFirstWrong}
use Rattle.nob_model_traces.proofs.Entering.{newest_of, parted, whole}

-- the entries of a trace up to a place, as a journal
abbrev pub told : Trace → ℕ → List Entry
told trace i = journal_at trace.space (take i trace.entries)

-- they are right
abbrev pub AreRightTo : Trace → ℕ → Type 0
AreRightTo trace i = AreRight trace.space trace.n trace.limits (told trace i)

pub told_more : (trace : Trace) (i : ℕ) (e : Stamped) → slice_get trace.entries i ≡ Some e → told trace (i + 1) ≡ entry_at trace.space e ∷ told trace i
told_more trace i e is = newest_of (entry_at trace.space) trace.entries i e is

pub right_more : (trace : Trace) (i : ℕ) (e : Stamped) → slice_get trace.entries i ≡ Some e → IsRight trace.space trace.n trace.limits (entry_at trace.space e) (told trace i) → AreRightTo trace i → AreRightTo trace (i + 1)
right_more trace i e is right before = subst (AreRight trace.space trace.n trace.limits) (sym (told_more trace i e is)) (right, before)

pub right_all : (trace : Trace) (i : ℕ) → i ≡ length trace.entries → AreRightTo trace i → IsRightTrace trace
right_all trace i is before = subst (λ (es : List Stamped). AreRight trace.space trace.n trace.limits (journal_at trace.space es)) (whole trace.entries i is) before

pub wrong_at : (trace : Trace) (i : ℕ) (e : Stamped) → slice_get trace.entries i ≡ Some e → (IsRight trace.space trace.n trace.limits (entry_at trace.space e) (told trace i) → ⊥) → AreRightTo trace i → IsFirstWrong trace (i + 1)
wrong_at trace i e is wrong before = record {
  before = take i trace.entries;
  wrong = e;
  after = drop (suc i) trace.entries;
  entries_are = parted trace.entries i e is;
  place_is = ap (λ (n : ℕ). n + 1) (sym (length-take-le i trace.entries (let less : i < length trace.entries = slice_get_within trace.entries i e is in omega (arith, less))));
  are_right = before;
  is_wrong = wrong;
}
