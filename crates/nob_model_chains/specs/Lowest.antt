-- What is wrong in the chain of the lowest space.
use Rattle.std.specs.Prelude.{ℕ, nat_lt, List, Option, Some, None, if◌then◌else◌}
use Rattle.std.specs.List.{AllByRecursion}
use Rattle.nob_chain.specs.declared.chain.ChainParts.{ChainParts}
use Rattle.nob_model_traces.specs.declared.fault.CheckFault.TheVariants as faults
use Rattle.nob_model_chains.specs.declared.fault.WrongPart.{WrongPart}
use Rattle.nob_model_chains.specs.declared.fault.WrongPart.TheVariants as parts
use Rattle.nob_model_chains.specs.declared.fault.SetFault.{SetFault}
use Rattle.nob_model_chains.specs.declared.fault.SetFault.TheVariants as sets
use Rattle.nob_model_chains.specs.declared.fault.WrongChain.{WrongChain}
use Rattle.nob_model_chains.specs.Parts.{IsFirstWrongPart}

-- what is wrong at the lower space, of a part of the chain of space s and another one
abbrev pub lower_of : ℕ → Option WrongPart → Option WrongChain → Option WrongChain
lower_of s None other = other
lower_of s (Some part) None = Some (record { space = s; part = part })
lower_of s (Some part) (Some found) = if nat_lt found.space s then Some found else Some (record { space = s; part = part })

-- the fault of a set of chains that this part of the chain of space s is
abbrev pub fault_at : ℕ → WrongPart → SetFault
fault_at s (parts.Entry place) = sets.Traces (faults.NotARun s place)
fault_at s (parts.Seal number) = sets.Seal s number

-- the fault of a set of chains that this is
abbrev pub fault_of : WrongChain → SetFault
fault_of wrong = fault_at wrong.space wrong.part

-- this is wrong in the chain of the lowest space, or nothing is and this holds of each
abbrev pub IsLowest : (ChainParts → Type 0) → List ChainParts → Option WrongChain → Type 0
IsLowest holds chains None = AllByRecursion holds chains
IsLowest holds chains (Some wrong) = IsFirstWrongPart chains wrong.space wrong.part
