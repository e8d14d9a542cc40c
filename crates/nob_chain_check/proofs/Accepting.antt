-- What holds of accepted chains, and that nothing else is answered for them.
use Rattle.std.proofs.Common.{◌≡◌, ℕ, List, [], ◌∷◌, length, map, reverse, Some, None, sym, ap, subst, ◌∙◌, arith}
use Prim.Native.Nat.{zero, suc}
use Rattle.std.specs.Prelude.{Err}
use Rattle.std.specs.List.{AllByRecursion, Contains}
use Rattle.std.proofs.lemmas.List.{length-map}
use Rattle.nob_ids.specs.declared.limits.Limits.{Limits}
use Rattle.nob_model_types.specs.declared.entry.Entry.{Entry}
use Rattle.nob_model_journal.specs.Runs.{WorldRun}
use Rattle.nob_model_invariant.specs.Safe.{IsSafe}
use Rattle.nob_model_traces.specs.declared.fault.CheckError.TheVariants as check_errors
use Rattle.nob_check.specs.Running.{IsRightAndTyped}
use Rattle.nob_check.proofs.Worlds.{world_run}
use Rattle.nob_check.proofs.Accepting as below
use Rattle.nob_chain.specs.declared.chain.ChainParts.{ChainParts}
use Rattle.nob_chain.specs.Chains.{joined}
use Rattle.nob_model_chains.specs.declared.fault.SetFault.{SetFault}
use Rattle.nob_model_chains.specs.declared.fault.SetFault.TheVariants as sets
use Rattle.nob_model_chains.specs.declared.fault.SetError.{SetError}
use Rattle.nob_model_chains.specs.declared.fault.SetError.TheVariants.{Fault, OutOfMemory}
use Rattle.nob_model_chains.specs.Sealing.{first_wrong_seal}
use Rattle.nob_model_chains.specs.Parts.{IsRightChain}
use Rattle.nob_model_chains.specs.Faults.{AreAccepted, IsChecked, IsFault}
use Rattle.nob_model_chains.proofs.AsTraces.{all_joined}
use Rattle.nob_chain_check.specs.Running.{IsRightAndSealed, ChainsHaveLimits}
use Rattle.nob_chain_check.specs.Accepting.{Answers}

-- a chain that was run again is right
pub is_right : (chain : ChainParts) → IsRightAndSealed chain → IsRightChain chain
is_right chain is = record { right = is.right.right; sealed = is.sealed }

all_typed : (chains : List ChainParts) → AllByRecursion IsRightAndSealed chains → AllByRecursion IsRightAndTyped (map joined chains)
all_typed chains right = all_joined IsRightAndSealed IsRightAndTyped chains (λ chain is. is.right) right

pub run_of : (chains : List ChainParts) (merged : List Entry) (limits : ℕ → Limits) → AreAccepted chains merged → AllByRecursion IsRightAndSealed chains → ChainsHaveLimits limits chains → WorldRun (length chains) limits (reverse merged)
run_of chains merged limits accepted right its =
    let traces = accepted.traces in
    subst (λ (n : ℕ). WorldRun n limits (reverse merged)) (length-map chains joined)
    (world_run (map joined chains) merged limits traces.runs.one_each (all_typed chains right) traces.is_merged traces.origins its).0

pub safe_of : (chains : List ChainParts) (merged : List Entry) → AreAccepted chains merged → AllByRecursion IsRightAndSealed chains → IsSafe (length chains) (reverse merged)
safe_of chains merged accepted right = subst (λ (n : ℕ). IsSafe n (reverse merged)) (length-map chains joined) (below.safe_of (map joined chains) merged accepted.traces (all_typed chains right))

-- ---- nothing else

of_one : (P : ChainParts → Type 0) (chains : List ChainParts) (chain : ChainParts) → AllByRecursion P chains → Contains chains chain → P chain
of_one P [] chain all (k, less, is) = absurd (omega (arith, less))
of_one P (c ∷ cs) chain all (zero, less, is) = subst P is all.0
of_one P (c ∷ cs) chain all (suc k, less, is) = of_one P cs chain all.1 (k, omega (arith, less), is)

no_fault : (chains : List ChainParts) (merged : List Entry) (fault : SetFault) → AreAccepted chains merged → IsFault chains fault → ⊥
no_fault chains merged (sets.Traces fault) accepted is = below.err_only (λ (es : List Entry). es) (map joined chains) merged (check_errors.Fault fault) is.0 accepted.traces
no_fault chains merged (sets.Seal space number) accepted is =
    let wrong = is.1 in
    let none = of_one (λ (c : ChainParts). first_wrong_seal c ≡ None) chains wrong.chain accepted.sealed wrong.is_there in
    let some = wrong.wrong.1 in
    absurd cc

pub accepted_ok : (chains : List ChainParts) (entries merged : List Entry) → AreAccepted chains entries → AreAccepted chains merged → entries ≡ merged
accepted_ok chains entries merged one other = below.accepted_ok (map joined chains) entries merged one.traces other.traces

pub err_only : {X : Type 0} (f : X → List Entry) (chains : List ChainParts) (merged : List Entry) (error : SetError) → IsChecked f chains (Err error) → AreAccepted chains merged → Answers merged (Err error)
err_only f chains merged (Fault fault) is accepted = no_fault chains merged fault accepted is
err_only f chains merged OutOfMemory is accepted = tt
