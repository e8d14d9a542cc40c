use Rattle.std.proofs.Common.{◌≡◌, ◌++◌, drop}
use Rattle.std.specs.String.{string_bytes}
use Rattle.nob_trace.specs.Entries.{HasSpelling}
use Rattle.nob_trace.specs.Traces.{entries_text}
use Rattle.nob_trace.proofs.Written.{SameAll}
use Rattle.nob_trace.proofs.writing.put_entries.Given as goal

-- what is written and what is left are all
abbrev pub invariant-loop-entry : goal.invariant-loop-entry
invariant-loop-entry l =
    (string_bytes l.text ++ entries_text l.version (drop l.entry-index l.all) ≡ string_bytes l.initial.text ++ entries_text l.version l.all) × SameAll (HasSpelling l.version) l.all l.entry-index
