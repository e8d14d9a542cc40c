-- What is answered where nothing is wrong with chains.
use Rattle.std.specs.Prelude.{◌≡◌, List, Result, Ok, Err}
use Rattle.nob_model_types.specs.declared.entry.Entry.{Entry}
use Rattle.nob_model_chains.specs.declared.fault.SetError.{SetError}
use Rattle.nob_model_chains.specs.declared.fault.SetError.TheVariants.{Fault, OutOfMemory}

-- these merged entries are answered, unless memory ran out
abbrev pub Answers : List Entry → Result (List Entry) SetError → Type 0
Answers merged (Ok entries) = entries ≡ merged
Answers merged (Err (Fault fault)) = ⊥
Answers merged (Err OutOfMemory) = Unit {0}
