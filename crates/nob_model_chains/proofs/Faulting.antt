-- What chains are refused for, and which are accepted.
use Rattle.std.proofs.Common.{◌≡◌, ℕ, ◌<◌, true, List, map}
use Rattle.std.specs.Prelude.{None}
use Rattle.std.specs.List.{AllByRecursion}
use Rattle.nob_model_types.specs.declared.entry.Entry.{Entry}
use Rattle.nob_trace.specs.declared.trace.Trace.{Trace}
use Rattle.nob_model_traces.specs.declared.fault.CheckFault.{CheckFault}
use Rattle.nob_model_traces.specs.declared.fault.CheckFault.TheVariants as faults
use Rattle.nob_model_traces.specs.Traces.{are_one_each, IsRightTrace}
use Rattle.nob_model_traces.specs.Merged.{IsMerged}
use Rattle.nob_model_traces.specs.Origins.{HaveOrigins, IsOriginFault}
use Rattle.nob_model_traces.specs.Faults.{IsFirstNoRun, AreRuns}
use Rattle.nob_model_traces.proofs.Choosing.{all_map}
use Rattle.nob_model_traces.proofs.Faulting.{lost}
use Rattle.nob_chain.specs.declared.chain.ChainParts.{ChainParts}
use Rattle.nob_chain.specs.Chains.{joined}
use Rattle.nob_model_chains.specs.declared.fault.WrongPart.{WrongPart}
use Rattle.nob_model_chains.specs.declared.fault.WrongPart.TheVariants as parts
use Rattle.nob_model_chains.specs.declared.fault.SetFault.TheVariants.{Traces}
use Rattle.nob_model_chains.specs.Sealing.{first_wrong_seal}
use Rattle.nob_model_chains.specs.Parts.{IsRightChain, IsFirstWrongPart}
use Rattle.nob_model_chains.specs.Lowest.{fault_at}
use Rattle.nob_model_chains.specs.Faults.{AreSealedBefore, IsFault, AreAccepted}
use Rattle.nob_model_chains.proofs.AsTraces.{all_joined, contains_joined}

-- a wrong entry of the lowest space is one of the traces
wrong_entry : (cs : List ChainParts) (space place : ℕ) → IsFirstWrongPart cs space (parts.Entry place) → IsFirstNoRun (map joined cs) space place
wrong_entry cs space place found = record {
  trace = joined found.chain;
  is_there = contains_joined cs found.chain found.is_there;
  space_is = found.space_is;
  wrong = found.wrong;
  lower = all_joined (λ (c : ChainParts). c.space < space → IsRightChain c) (λ (t : Trace). t.space < space → IsRightTrace t) cs (λ c right under. (right under).right) found.lower;
}

-- what is wrong in the chain of the lowest space is wrong with all
pub part_fault : (cs : List ChainParts) (space : ℕ) (part : WrongPart) → are_one_each (map joined cs) ≡ true → IsFirstWrongPart cs space part → IsFault cs (fault_at space part)
part_fault cs space (parts.Entry place) ones found = (
  (ones, wrong_entry cs space place found),
  all_map (λ (c : ChainParts). c.space < space → IsRightChain c) (λ (c : ChainParts). c.space < space → first_wrong_seal c ≡ None) cs (λ c right under. (right under).sealed) found.lower,
)
part_fault cs space (parts.Seal number) ones found = (ones, found)

-- right chains are runs, and sealed
pub runs_of : (P : ChainParts → Type 0) → ((c : ChainParts) → P c → IsRightChain c) → (cs : List ChainParts) → are_one_each (map joined cs) ≡ true → AllByRecursion P cs → AreRuns (map joined cs)
runs_of P to cs ones right = record { one_each = ones; right = all_joined P IsRightTrace cs (λ c is. (to c is).right) right }

pub sealed_of : (P : ChainParts → Type 0) → ((c : ChainParts) → P c → IsRightChain c) → (cs : List ChainParts) → AllByRecursion P cs → AllByRecursion (λ (c : ChainParts). first_wrong_seal c ≡ None) cs
sealed_of P to cs right = all_map P (λ (c : ChainParts). first_wrong_seal c ≡ None) cs (λ c is. (to c is).sealed) right

sealed_before : (fault : CheckFault) (cs : List ChainParts) → AllByRecursion (λ (c : ChainParts). first_wrong_seal c ≡ None) cs → AreSealedBefore fault cs
sealed_before faults.Set cs sealed = tt
sealed_before (faults.NotARun space place) cs sealed = all_map (λ (c : ChainParts). first_wrong_seal c ≡ None) (λ (c : ChainParts). c.space < space → first_wrong_seal c ≡ None) cs (λ c is under. is) sealed
sealed_before (faults.NoOrigin space place) cs sealed = sealed
sealed_before (faults.Stamp space place) cs sealed = sealed

-- an arrival without an origin, of right chains
pub lost_of : (P : ChainParts → Type 0) → ((c : ChainParts) → P c → IsRightChain c) → (cs : List ChainParts) (merged : List Entry) (fault : CheckFault) → are_one_each (map joined cs) ≡ true → AllByRecursion P cs → IsMerged (map joined cs) merged → IsOriginFault merged fault → IsFault cs (Traces fault)
lost_of P to cs merged fault ones right is fault_is = (lost (map joined cs) merged fault (runs_of P to cs ones right) is fault_is, sealed_before fault cs (sealed_of P to cs right))

-- right chains whose frames have origins
pub accepted_of : (P : ChainParts → Type 0) → ((c : ChainParts) → P c → IsRightChain c) → (cs : List ChainParts) (merged : List Entry) → are_one_each (map joined cs) ≡ true → AllByRecursion P cs → IsMerged (map joined cs) merged → HaveOrigins merged → AreAccepted cs merged
accepted_of P to cs merged ones right is origins = record {
  traces = record { runs = runs_of P to cs ones right; is_merged = is; origins = origins };
  sealed = sealed_of P to cs right;
}
