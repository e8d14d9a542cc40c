-- What is true of the merged entries of all traces.
use Rattle.std.specs.Prelude.{◌≡◌, List}
use Rattle.nob_model_types.specs.declared.entry.Entry.{Entry}
use Rattle.nob_trace.specs.declared.trace.Trace.{Trace}
use Rattle.nob_model_traces.specs.Merged.{IsMerged}

-- traces have one list of merged entries at most
abbrev pub OneMerged : Type 0
OneMerged = (traces : List Trace) (merged other : List Entry) → IsMerged traces merged → IsMerged traces other → merged ≡ other
