use Rattle.std.proofs.Common.{◌≡◌, ◌++◌, drop}
use Rattle.std.specs.String.{string_bytes}
use Rattle.nob_frame.specs.declared.version.Version.TheVariants.{Two}
use Rattle.nob_trace.specs.Entries.{HasSpelling}
use Rattle.nob_trace.proofs.Written.{SameAll}
use Rattle.nob_chain.specs.Chains.{lines_text, entry_lines}
use Rattle.nob_chain.proofs.writing.put_entries.Given as goal

-- what is written and what is left are all
abbrev pub invariant-loop-entry : goal.invariant-loop-entry
invariant-loop-entry l = (string_bytes l.text ++ lines_text (entry_lines (drop l.entry-index l.all)) ≡ string_bytes l.initial.text ++ lines_text (entry_lines l.all)) × SameAll (HasSpelling Two) l.all l.entry-index
