-- What holds of accepted traces, and that nothing else is answered for them.
use Rattle.std.proofs.Common.{◌≡◌, ℕ, Bool, true, false, not, ◌&&◌, ◌==◌, nat_le, List, [], ◌∷◌, ◌++◌, length, map, reverse, if◌then◌else◌, refl, sym, ap, subst, true≢false, ◌∙◌, arith, append_assoc}
use Prim.Native.Nat.{zero, suc}
use Rattle.std.specs.List.{AllByRecursion, Contains, list_all}
use Rattle.std.specs.Prelude.{Err}
use Rattle.std.proofs.lemmas.Bool.{and_parts}
use Rattle.std.proofs.lemmas.Bool.Decides.{nat_tests}
use Rattle.std.proofs.lemmas.Cmp.{nat_eq_equiv}
use Rattle.std.proofs.lemmas.List.{reverse-append, map-append}
use Rattle.nob_ids.specs.declared.limits.Limits.{Limits}
use Rattle.nob_model_types.specs.declared.entry.Entry.{Entry}
use Rattle.nob_model_types.specs.declared.event.Event.{Event}
use Rattle.nob_model.specs.Right.{IsRight}
use Rattle.nob_model_journal.specs.Journals.{Each}
use Rattle.nob_model_journal.specs.Runs.{ArrivesGiven}
use Rattle.nob_model_invariant.specs.Safe.{IsSafe}
use Rattle.nob_model_invariant.proofs.Safe.{safe_law}
use Rattle.nob_trace.specs.declared.stamped.Stamped.{Stamped}
use Rattle.nob_trace.specs.declared.trace.Trace.{Trace}
use Rattle.nob_model_traces.specs.Apart.{entry_at, is_free, are_apart}
use Rattle.nob_model_traces.proofs.One.{one_merged}
use Rattle.nob_model_traces.specs.declared.fault.CheckFault.{CheckFault}
use Rattle.nob_model_traces.specs.declared.fault.CheckFault.TheVariants as faults
use Rattle.nob_model_traces.specs.declared.fault.CheckError.{CheckError}
use Rattle.nob_model_traces.specs.declared.fault.CheckError.TheVariants.{Fault, OutOfMemory}
use Rattle.nob_model_traces.specs.Traces.{journal_at, is_one_of, are_one_each, IsRightTrace, IsFirstWrong}
use Rattle.nob_model_traces.specs.Origins.{HaveOrigins, IsOriginFault}
use Rattle.nob_model_traces.specs.Faults.{AreAccepted, IsChecked, IsFault, IsLost}
use Rattle.nob_check.specs.Running.{IsRightAndTyped, HaveLimits}
use Rattle.nob_check.specs.Accepting.{Answers}
use Rattle.nob_check.proofs.Worlds.{world_run}

-- ---- limits

-- the limits of the trace of a space
abbrev limits_of : Limits → List Trace → ℕ → Limits
limits_of other [] s = other
limits_of other (t ∷ ts) s = if t.space == s then t.limits else limits_of other ts s

skipped : (other : Limits) (t : Trace) (ts us : List Trace) → is_free t.space us ≡ true → HaveLimits (limits_of other ts) us → HaveLimits (limits_of other (t ∷ ts)) us
skipped other t ts [] free its = tt
skipped other t ts (u ∷ us) free its =
    let parts = and_parts (not (u.space == t.space)) (is_free t.space us) free in
    (ap (λ (b : Bool). if b then t.limits else limits_of other ts u.space) (apart (u.space == t.space) refl parts.0) ∙ its.0, skipped other t ts us parts.1 its.1)
  where
    swapped : (a b : ℕ) → (a == b) ≡ false → (b == a) ≡ false
    swapped a b h = grind (arith, nat_tests, h)

    apart : (b : Bool) → (u.space == t.space) ≡ b → not b ≡ true → (t.space == u.space) ≡ false
    apart true same denied = absurd (true≢false (sym denied))
    apart false differs denied = swapped u.space t.space differs

have_limits : (other : Limits) (ts : List Trace) → are_apart ts ≡ true → HaveLimits (limits_of other ts) ts
have_limits other [] apart = tt
have_limits other (t ∷ ts) apart =
    let parts = and_parts (is_free t.space ts) (are_apart ts) apart in
    (ap (λ (b : Bool). if b then t.limits else limits_of other ts t.space) (nat_eq_equiv.refl t.space), skipped other t ts ts parts.0 (have_limits other ts parts.1))

-- some limits are those of all traces
some_limits : (ts : List Trace) → are_one_each ts ≡ true → (limits : ℕ → Limits) × HaveLimits limits ts
some_limits [] ones = absurd cc
some_limits (t ∷ ts) ones =
    let parts = and_parts (nat_le 1 (length (t ∷ ts)) && list_all (is_one_of (length (t ∷ ts))) (t ∷ ts)) (are_apart (t ∷ ts)) ones in
    (limits_of t.limits (t ∷ ts), have_limits t.limits (t ∷ ts) parts.1)

-- ---- safety

pub safe_of : (traces : List Trace) (merged : List Entry) → AreAccepted traces merged → AllByRecursion IsRightAndTyped traces → IsSafe (length traces) (reverse merged)
safe_of traces merged accepted right =
    let its = some_limits traces accepted.runs.one_each in
    let run = world_run traces merged its.0 accepted.runs.one_each right accepted.is_merged accepted.origins its.1 in
    safe_law (length traces) its.0 (reverse merged) run.0 run.1

-- ---- nothing else

of_one : {X : Type 0} (P : X → Type 0) (xs : List X) (x : X) → AllByRecursion P xs → Contains xs x → P x
of_one P [] x all (k, less, is) = absurd (omega (arith, less))
of_one P (y ∷ ys) x all (zero, less, is) = subst P is all.0
of_one P (y ∷ ys) x all (suc k, less, is) = of_one P ys x all.1 (k, omega (arith, less), is)

-- what holds of each holds of one in the middle
in_middle : (holds : Entry → List Entry → Type 0) (A B : List Entry) (entry : Entry) → Each holds (A ++ entry ∷ B) → holds entry B
in_middle holds [] B entry each = each.0
in_middle holds (e ∷ A) B entry each = in_middle holds A B entry each.1

turned : (before after : List Entry) (entry : Entry) → reverse (before ++ entry ∷ after) ≡ reverse after ++ entry ∷ reverse before
turned before after entry =
    reverse-append before (entry ∷ after)
    ∙ ap (λ (es : List Entry). es ++ reverse before) (reverse-append (entry ∷ []) after)
    ∙ append_assoc (reverse after) (entry ∷ []) (reverse before)

told_middle : (s : ℕ) (before after : List Stamped) (e : Stamped) → journal_at s (before ++ e ∷ after) ≡ reverse (map (entry_at s) after) ++ entry_at s e ∷ journal_at s before
told_middle s before after e = ap reverse (map-append (entry_at s) before (e ∷ after)) ∙ turned (map (entry_at s) before) (map (entry_at s) after) (entry_at s e)

not_wrong : (trace : Trace) (place : ℕ) → IsRightTrace trace → IsFirstWrong trace place → ⊥
not_wrong trace place right wrong =
    wrong.is_wrong (in_middle (IsRight trace.space trace.n trace.limits) (reverse (map (entry_at trace.space) wrong.after)) (journal_at trace.space wrong.before) (entry_at trace.space wrong.wrong)
    (subst (Each (IsRight trace.space trace.n trace.limits)) (ap (journal_at trace.space) wrong.entries_are ∙ told_middle trace.space wrong.before wrong.after wrong.wrong) right))

not_lost : (merged : List Entry) (fault : CheckFault) → HaveOrigins merged → IsOriginFault merged fault → ⊥
not_lost merged fault origins (space, place, frame, alone, refused) =
    alone.has_none (subst (λ (event : Event). ArrivesGiven event (reverse alone.before)) alone.arrives
    (in_middle (λ entry J. ArrivesGiven entry.event J) (reverse alone.after) (reverse alone.before) alone.arrival
    (subst (Each (λ (entry : Entry) (J : List Entry). ArrivesGiven entry.event J)) (ap reverse alone.merged_is ∙ turned alone.before alone.after alone.arrival) origins)))

lost_none : (traces : List Trace) (merged : List Entry) (fault : CheckFault) → AreAccepted traces merged → IsLost traces fault → ⊥
lost_none traces merged fault accepted lost =
    not_lost merged fault accepted.origins (subst (λ (es : List Entry). IsOriginFault es fault) (one_merged traces lost.merged merged lost.is_merged accepted.is_merged) lost.lost)

-- accepted traces have no fault
no_fault : (traces : List Trace) (merged : List Entry) (fault : CheckFault) → AreAccepted traces merged → IsFault traces fault → ⊥
no_fault traces merged faults.Set accepted fault = true≢false (sym accepted.runs.one_each ∙ fault)
no_fault traces merged (faults.NotARun space place) accepted fault =
    not_wrong fault.1.trace place (of_one IsRightTrace traces fault.1.trace accepted.runs.right fault.1.is_there) fault.1.wrong
no_fault traces merged (faults.NoOrigin space place) accepted lost = lost_none traces merged (faults.NoOrigin space place) accepted lost
no_fault traces merged (faults.Stamp space place) accepted lost = lost_none traces merged (faults.Stamp space place) accepted lost

-- they are answered by their merged entries alone
pub accepted_ok : (traces : List Trace) (entries merged : List Entry) → AreAccepted traces entries → AreAccepted traces merged → entries ≡ merged
accepted_ok traces entries merged one other = one_merged traces entries merged one.is_merged other.is_merged

-- and refused for no fault
pub err_only : {X : Type 0} (f : X → List Entry) (traces : List Trace) (merged : List Entry) (error : CheckError) → IsChecked f traces (Err error) → AreAccepted traces merged → Answers merged (Err error)
err_only f traces merged (Fault fault) is accepted = no_fault traces merged fault accepted is
err_only f traces merged OutOfMemory is accepted = tt
