-- Inputs: chains and traces of both versions, one after the other, in any mixture. Each is a chain.
use Rattle.std.specs.Prelude.{◌≡◌, ◌≢◌, ℕ, List, [], ◌∷◌, ◌++◌, codes}
use Rattle.nob_trace.specs.declared.trace.Trace.{Trace}
use Rattle.nob_trace.specs.declared.fault.TraceFault.{TraceFault}
use Rattle.nob_trace.specs.declared.fault.TraceFault.TheVariants as faults
use Rattle.nob_trace.specs.declared.fault.TraceError.{TraceError}
use Rattle.nob_trace.specs.declared.fault.TraceError.TheVariants as trace_errors
use Rattle.nob_trace.specs.Traces.{trace_text, IsTrace}
use Rattle.nob_trace.specs.Reading.{TextFault}
use Rattle.nob_chain.specs.declared.chain.ChainParts.{ChainParts}
use Rattle.nob_chain.specs.declared.fault.ChainFault.{ChainFault}
use Rattle.nob_chain.specs.declared.fault.ChainFault.TheVariants as chain_faults
use Rattle.nob_chain.specs.declared.fault.ChainError.{ChainError}
use Rattle.nob_chain.specs.declared.fault.ChainError.TheVariants as chain_errors
use Rattle.nob_chain.specs.Chains.{whole, chain_text, IsChain}
use Rattle.nob_chain.specs.Reading.{FrontFault}

-- a trace as a chain: its entries as one segment without a seal, or no segment where it has none
abbrev pub of_trace : Trace → ChainParts
of_trace trace = record { space = trace.space; n = trace.n; limits = trace.limits; segments = whole trace.entries }

-- a text spells a chain: as it is, or as a trace that is the chain
pub data Spells (text : List ℕ) (chain : ChainParts) : Type 0 where
  -- as it is
  as_chain : IsChain chain → text ≡ chain_text chain → Spells text chain
  -- as a trace of one of the two versions
  as_trace : (trace : Trace) → IsTrace trace → text ≡ trace_text trace → chain ≡ of_trace trace → Spells text chain

-- an input spells these chains, one after the other
abbrev pub AreSpelt : List ℕ → List ChainParts → Type 0
AreSpelt input [] = input ≡ []
AreSpelt input (chain ∷ chains) = (front rest : List ℕ) × Spells front chain × (input ≡ front ++ rest) × AreSpelt rest chains

-- a text begins as chains do
abbrev pub BeginsAsChain : List ℕ → Type 0
BeginsAsChain text = (rest : List ℕ) × (text ≡ codes "chain " ++ rest)

-- the fault of a trace as one of a chain
abbrev pub fault_as : TraceFault → ChainFault
fault_as faults.Short = chain_faults.Short
fault_as faults.Entry = chain_faults.Entry
fault_as faults.Stamp = chain_faults.Stamp
fault_as faults.Trailing = chain_faults.Trailing
fault_as faults.Version = chain_faults.Entry

-- the error of a trace as one of a chain
abbrev pub error_as : TraceError → ChainError
error_as (trace_errors.Fault fault) = chain_errors.Fault (fault_as fault)
error_as trace_errors.OutOfMemory = chain_errors.OutOfMemory

-- why a text begins neither with a chain nor with a trace: it is judged as a chain where it begins as one, and else as a trace
pub data StartFault (text : List ℕ) (fault : ChainFault) : Type 0 where
  -- it begins as a chain
  in_chain : BeginsAsChain text → FrontFault text fault → StartFault text fault
  -- it doesn't
  in_trace : (own : TraceFault) → (BeginsAsChain text → ⊥) → TextFault text own → fault ≡ fault_as own → StartFault text fault

-- what is wrong with an input: behind these chains something stands that begins with none
pub record InputProblem (input : List ℕ) (fault : ChainFault) (chains : List ChainParts) (front left : List ℕ) : Type 0 where
  pub are : AreSpelt front chains
  pub input_is : input ≡ front ++ left
  pub some : left ≢ []
  pub fault_is : StartFault left fault

-- there are such chains
abbrev pub IsWrongInput : List ℕ → ChainFault → Type 0
IsWrongInput input fault = (chains : List ChainParts) × (front left : List ℕ) × InputProblem input fault chains front left
