use Rattle.std.proofs.Common.{◌≡◌, ◌++◌, drop}
use Rattle.std.specs.List.{flat_map}
use Rattle.std.specs.String.{string_bytes}
use Rattle.nob_trace.specs.Traces.{trace_text}
use Rattle.test_definitions.proofs.trace.texts_of.Given as goal

-- what is written and what is left are all
abbrev pub invariant-loop-trace : goal.invariant-loop-trace
invariant-loop-trace l = string_bytes l.text ++ flat_map trace_text (drop l.trace-index l.all) ≡ flat_map trace_text l.all
