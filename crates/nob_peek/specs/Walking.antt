-- What stands behind a value in a pickle, and how many references the value has.
use Rattle.std.specs.Prelude.{ℕ, List, length, Option, Some, None, Result, Ok, Err}
use Rattle.nob_pickle.specs.Reading.{Front}
use Rattle.nob_pickle.specs.Spelling.{refs_in}
use Rattle.nob_pickle.specs.declared.fault.PickleFault.{PickleFault}
use Rattle.nob_pickle.specs.declared.value.Value.{Value}

-- what stands behind what was read: how many references may still come, and the bytes; nothing where there is a fault
abbrev pub behind : {T : Type 0} → Front T → Option (ℕ × List ℕ)
behind (Ok x) = Some (x.1, x.2)
behind (Err fault) = None

-- how many references a value that was read has, if it was
abbrev pub references_read : Result Value PickleFault → Option ℕ
references_read (Ok value) = Some (length (refs_in value))
references_read (Err fault) = None
