-- What is answered where nothing is wrong with traces.
use Rattle.std.specs.Prelude.{◌≡◌, List, Result, Ok, Err}
use Rattle.nob_model_types.specs.declared.entry.Entry.{Entry}
use Rattle.nob_model_traces.specs.declared.fault.CheckError.{CheckError}
use Rattle.nob_model_traces.specs.declared.fault.CheckError.TheVariants.{Fault, OutOfMemory}

-- these merged entries are answered, unless memory ran out
abbrev pub Answers : List Entry → Result (List Entry) CheckError → Type 0
Answers merged (Ok entries) = entries ≡ merged
Answers merged (Err (Fault fault)) = ⊥
Answers merged (Err OutOfMemory) = Unit {0}
