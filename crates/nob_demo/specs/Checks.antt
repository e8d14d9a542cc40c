-- What `nobj check` writes for an input, and how it ends.
use Rattle.std.specs.Prelude.{◌≡◌, ℕ, List, ◌++◌, length, reverse, codes}
use Rattle.std.specs.Fmt.{decimal}
use Rattle.nob_model_types.specs.declared.entry.Entry.{Entry}
use Rattle.nob_model_journal.specs.declared.verdict.Verdict.TheVariants.{Yes}
use Rattle.nob_script_text.specs.Verdicts.{verdict_line}
use Rattle.nob_chain.specs.declared.chain.ChainParts.{ChainParts}
use Rattle.nob_chain.specs.declared.fault.ChainFault.{ChainFault}
use Rattle.nob_chain.specs.declared.fault.ChainError.TheVariants as chain_errors
use Rattle.nob_chain.specs.Inputs.{AreSpelt, IsWrongInput}
use Rattle.nob_chain.specs.Faults.{refusal_line}
use Rattle.nob_model_traces.specs.declared.fault.CheckFault.{CheckFault}
use Rattle.nob_model_traces.specs.declared.fault.CheckFault.TheVariants as faults
use Rattle.nob_model_invariant.specs.Safe.{IsSafe}
use Rattle.nob_model_chains.specs.declared.fault.SetFault.{SetFault}
use Rattle.nob_model_chains.specs.declared.fault.SetFault.TheVariants as sets
use Rattle.nob_model_chains.specs.Faults.{IsFault, AreAccepted}
use Rattle.nob_demo.specs.declared.checking.CheckEnding.{CheckEnding}
use Rattle.nob_demo.specs.declared.checking.CheckEnding.TheVariants.{Accepted, Refused, OutOfMemory}

-- the line that says how many entries were merged
abbrev pub merged_line : ℕ → List ℕ
merged_line count = codes "merged " ++ (decimal count ++ codes "\n")

-- a place of a space on a line
abbrev pub place_text : (space place : ℕ) → List ℕ
place_text space place = decimal space ++ (codes " " ++ (decimal place ++ codes "\n"))

-- the line of a fault in the traces that chains are: its name, and where it is
abbrev pub trace_fault_line : CheckFault → List ℕ
trace_fault_line faults.Set = codes "C4\n"
trace_fault_line (faults.NotARun space place) = codes "C1 " ++ place_text space place
trace_fault_line (faults.NoOrigin space place) = codes "C2 " ++ place_text space place
trace_fault_line (faults.Stamp space place) = codes "C3 " ++ place_text space place

-- the line of a fault in a set of chains
abbrev pub fault_line : SetFault → List ℕ
fault_line (sets.Traces fault) = trace_fault_line fault
fault_line (sets.Seal space number) = codes "C5 " ++ place_text space number

-- the last line behind what was written before
abbrev pub last_line : CheckEnding → List ℕ
last_line Accepted = verdict_line Yes
last_line Refused = codes ""
last_line OutOfMemory = codes "memory\n"

-- what is written for an input, and how the check of it ends
pub data Checks (input text : List ℕ) (ending : CheckEnding) : Type 0 where
  -- the chains that the input is are a run of a world, of which all is proved that is proved of such runs: so the verdict is yes
  accepted : (chains : List ChainParts) (merged : List Entry) → AreSpelt input chains → AreAccepted chains merged → IsSafe (length chains) (reverse merged) → text ≡ merged_line (length merged) ++ verdict_line Yes → ending ≡ Accepted → Checks input text ending
  -- something is wrong with the chains that the input is
  refused : (chains : List ChainParts) (fault : SetFault) → AreSpelt input chains → IsFault chains fault → text ≡ fault_line fault → ending ≡ Refused → Checks input text ending
  -- the input isn't chains
  unread : (fault : ChainFault) → IsWrongInput input fault → text ≡ refusal_line (chain_errors.Fault fault) → ending ≡ Refused → Checks input text ending
  -- memory ran out
  stopped : text ≡ codes "memory\n" → ending ≡ OutOfMemory → Checks input text ending
