-- The lowest space whose trace isn't right.
use Rattle.std.proofs.Common.{◌≡◌, ℕ, ◌<◌, Bool, true, false, List, [], ◌∷◌, Option, Some, None, MatchOption, nat_lt, if◌then◌else◌, refl, arith}
use Rattle.std.proofs.lemmas.Bool.Decides.{nat_tests}
use Rattle.nob_model_traces.specs.declared.fault.WrongEntry.{WrongEntry}
use Rattle.nob_model_traces.specs.Lowest.{lower_of, IsLowest}
use Rattle.std.specs.List.{AllByRecursion}
use Rattle.nob_trace.specs.declared.trace.Trace.{Trace}
use Rattle.nob_model_traces.specs.Traces.{IsRightTrace, IsFirstWrong}
use Rattle.nob_model_traces.specs.Faults.{IsFirstNoRun}
use Rattle.nob_model_traces.proofs.Transmitting.{contains_here, contains_there}

-- all that holds of each
pub all_map : {X : Type 0} (P Q : X → Type 0) (xs : List X) → ((x : X) → P x → Q x) → AllByRecursion P xs → AllByRecursion Q xs
all_map P Q [] to all = tt
all_map P Q (x ∷ xs) to all = (to x all.0, all_map P Q xs to all.1)

-- one of a lower space than the first
pub lower_behind : (trace : Trace) (traces : List Trace) (space place : ℕ) → IsFirstNoRun traces space place → space < trace.space → IsFirstNoRun (trace ∷ traces) space place
lower_behind trace traces space place found less = record {
  trace = found.trace;
  is_there = contains_there found.trace trace traces found.is_there;
  space_is = found.space_is;
  wrong = found.wrong;
  lower = (λ under. absurd (omega (arith, less, under)), found.lower);
}

-- one behind the first, which is right
pub right_before : (trace : Trace) (traces : List Trace) (space place : ℕ) → IsFirstNoRun traces space place → IsRightTrace trace → IsFirstNoRun (trace ∷ traces) space place
right_before trace traces space place found right = record {
  trace = found.trace;
  is_there = contains_there found.trace trace traces found.is_there;
  space_is = found.space_is;
  wrong = found.wrong;
  lower = (λ under. right, found.lower);
}

-- the first itself, where all behind it are right
pub wrong_alone : (P : Trace → Type 0) → ((t : Trace) → P t → IsRightTrace t) → (trace : Trace) (traces : List Trace) (place : ℕ) → AllByRecursion P traces → IsFirstWrong trace place → IsFirstNoRun (trace ∷ traces) trace.space place
wrong_alone P to trace traces place all wrong = record {
  trace = trace;
  is_there = contains_here trace trace traces refl;
  space_is = refl;
  wrong = wrong;
  lower = (λ under. absurd (omega (arith, under)), all_map P (λ (other : Trace). other.space < trace.space → IsRightTrace other) traces (λ t p under. to t p) all);
}

-- the first itself, where one behind it isn't right and of no lower space
pub wrong_first : (trace : Trace) (traces : List Trace) (space place other : ℕ) → IsFirstNoRun traces space other → (space < trace.space → ⊥) → IsFirstWrong trace place → IsFirstNoRun (trace ∷ traces) trace.space place
wrong_first trace traces space place other found high wrong = record {
  trace = trace;
  is_there = contains_here trace trace traces refl;
  space_is = refl;
  wrong = wrong;
  lower = (λ under. absurd (omega (arith, under)), all_map (λ (t : Trace). t.space < space → IsRightTrace t) (λ (t : Trace). t.space < trace.space → IsRightTrace t) traces (λ t right under. right (below t under)) found.lower);
}
  where
    below : (t : Trace) → t.space < trace.space → t.space < space
    below t under = omega (arith, under, high)

-- of one trace more
pub lowest_more : (P : Trace → Type 0) → ((t : Trace) → P t → IsRightTrace t) → (trace : Trace) (traces : List Trace) (own : Option ℕ) (other : Option WrongEntry) → MatchOption own (P trace) (λ place. IsFirstWrong trace place) → IsLowest P traces other
    → IsLowest P (trace ∷ traces) (lower_of trace.space own other)
lowest_more P to trace traces None None right all = (right, all)
lowest_more P to trace traces None (Some found) right lowest = right_before trace traces found.space found.place lowest (to trace right)
lowest_more P to trace traces (Some place) None wrong all = wrong_alone P to trace traces place all wrong
lowest_more P to trace traces (Some place) (Some found) wrong lowest = by (nat_lt found.space trace.space) refl
  where
    by : (b : Bool) → nat_lt found.space trace.space ≡ b → IsLowest P (trace ∷ traces) (if b then Some found else Some (record { space = trace.space; place = place }))
    by true less = lower_behind trace traces found.space found.place lowest (grind (arith, nat_tests, less))
    by false high = wrong_first trace traces found.space place found.place lowest (λ less. grind (arith, nat_tests, less, high)) wrong

-- of one trace more, by the definitions alone
pub lowest_plain : (trace : Trace) (traces : List Trace) (own : Option ℕ) (other : Option WrongEntry) → MatchOption own (IsRightTrace trace) (λ place. IsFirstWrong trace place) → IsLowest IsRightTrace traces other
    → IsLowest IsRightTrace (trace ∷ traces) (lower_of trace.space own other)
lowest_plain trace traces own other = lowest_more IsRightTrace (λ t right. right) trace traces own other
