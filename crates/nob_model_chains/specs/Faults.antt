-- What is wrong with chains: the first of C4; C1 and C5, chain by chain; C2 and C3. All but the seals is said of the traces that chains are.
use Rattle.std.specs.Prelude.{◌≡◌, ◌<◌, ⊤, ℕ, true, None, List, map, Result, Ok, Err}
use Rattle.std.specs.List.{AllByRecursion}
use Rattle.nob_model_types.specs.declared.entry.Entry.{Entry}
use Rattle.nob_model_traces.specs.declared.fault.CheckFault.{CheckFault}
use Rattle.nob_model_traces.specs.declared.fault.CheckFault.TheVariants as faults
use Rattle.nob_model_traces.specs.Traces.{are_one_each}
use Rattle.nob_model_traces.specs.Faults as traces
use Rattle.nob_chain.specs.Chains.{joined}
use Rattle.nob_chain.specs.declared.chain.ChainParts.{ChainParts}
use Rattle.nob_model_chains.specs.declared.fault.WrongPart.TheVariants.{Seal}
use Rattle.nob_model_chains.specs.declared.fault.SetFault.{SetFault}
use Rattle.nob_model_chains.specs.declared.fault.SetFault.TheVariants as sets
use Rattle.nob_model_chains.specs.declared.fault.SetError.{SetError}
use Rattle.nob_model_chains.specs.declared.fault.SetError.TheVariants.{Fault, OutOfMemory}
use Rattle.nob_model_chains.specs.Sealing.{first_wrong_seal}
use Rattle.nob_model_chains.specs.Parts.{IsFirstWrongPart}

-- the seals that are judged before a fault of the traces are right: none before C4, those of lower spaces before C1, and all before C2 and C3
abbrev pub AreSealedBefore : CheckFault → List ChainParts → Type 0
AreSealedBefore faults.Set chains = ⊤
AreSealedBefore (faults.NotARun space place) chains = AllByRecursion (λ chain. chain.space < space → first_wrong_seal chain ≡ None) chains
AreSealedBefore _ chains = AllByRecursion (λ chain. first_wrong_seal chain ≡ None) chains

-- this is wrong with chains: with the traces that they are, where the seals judged before are right; or, of chains that belong together, a seal
abbrev pub IsFault : List ChainParts → SetFault → Type 0
IsFault chains (sets.Traces fault) = traces.IsFault (map joined chains) fault × AreSealedBefore fault chains
IsFault chains (sets.Seal space number) = (are_one_each (map joined chains) ≡ true) × IsFirstWrongPart chains space (Seal number)

-- nothing is wrong with chains, nor with the traces that they are, of which these are the merged entries
pub record AreAccepted (chains : List ChainParts) (merged : List Entry) : Type 0 where
  pub traces : traces.AreAccepted (map joined chains) merged
  pub sealed : AllByRecursion (λ chain. first_wrong_seal chain ≡ None) chains

-- the merged entries of accepted chains, or what is wrong, unless memory ran out
abbrev pub IsChecked : {X : Type 0} → (X → List Entry) → List ChainParts → Result X SetError → Type 0
IsChecked entries_of chains (Ok merged) = AreAccepted chains (entries_of merged)
IsChecked entries_of chains (Err (Fault fault)) = IsFault chains fault
IsChecked entries_of chains (Err OutOfMemory) = Unit {0}
