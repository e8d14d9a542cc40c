-- Which entry of a set of chains is wrong.
use Rattle.std.specs.Prelude.{◌≡◌, ℕ, ◌==◌, List, [], ◌∷◌, length, take, map, Option, Some, None, if◌then◌else◌}
use Rattle.nob_model_types.specs.declared.entry.Entry.{Entry}
use Rattle.nob_model_traces.specs.Merged.{IsMerged}
use Rattle.nob_model_traces.specs.declared.fault.CheckFault.{CheckFault}
use Rattle.nob_model_traces.specs.declared.fault.CheckFault.TheVariants as faults
use Rattle.nob_model_traces.specs.declared.fault.WrongEntry.{WrongEntry}
use Rattle.nob_chain.specs.declared.chain.ChainParts.{ChainParts}
use Rattle.nob_chain.specs.Chains.{entries_of, joined}
use Rattle.nob_model_chains.specs.declared.fault.SetFault.{SetFault}
use Rattle.nob_model_chains.specs.declared.fault.SetFault.TheVariants as sets
use Rattle.nob_model_chains.specs.Faults.{IsFault, AreAccepted}

-- how many entries the first so many segments of a chain have
abbrev pub count_within : (number : ℕ) → ChainParts → ℕ
count_within number chain = length (entries_of (take number chain.segments))

-- the place of the last entry of the segment of this number of space s, among the entries of the space: 0 where there is no chain of it
abbrev pub last_place : (s number : ℕ) → List ChainParts → ℕ
last_place s number [] = 0
last_place s number (chain ∷ chains) = if chain.space == s then count_within number chain else last_place s number chains

-- the entry that a fault of traces is of: none where they don't belong together
abbrev pub entry_of : CheckFault → Option WrongEntry
entry_of faults.Set = None
entry_of (faults.NotARun space place) = Some (record { space = space; place = place })
entry_of (faults.NoOrigin space place) = Some (record { space = space; place = place })
entry_of (faults.Stamp space place) = Some (record { space = space; place = place })

-- the entry that a fault of chains is of: a wrong seal is of the last entry of its segment
abbrev pub wrong_entry : List ChainParts → SetFault → Option WrongEntry
wrong_entry chains (sets.Traces fault) = entry_of fault
wrong_entry chains (sets.Seal space number) = Some (record { space = space; place = last_place space number chains })

-- something is wrong with chains that belong together, and it is of this entry
abbrev pub IsWrongEntry : List ChainParts → WrongEntry → Type 0
IsWrongEntry chains entry = (fault : SetFault) × IsFault chains fault × (wrong_entry chains fault ≡ Some entry)

-- these are the entries of chains in order of stamp, and nothing is wrong with the chains, or this entry is
abbrev pub IsJudged : List ChainParts → List Entry → Option WrongEntry → Type 0
IsJudged chains merged None = AreAccepted chains merged
IsJudged chains merged (Some entry) = IsMerged (map joined chains) merged × IsWrongEntry chains entry
