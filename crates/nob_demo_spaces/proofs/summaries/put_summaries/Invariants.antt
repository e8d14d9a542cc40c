use Rattle.std.proofs.Common.{◌≡◌, ◌++◌, drop}
use Rattle.std.specs.String.{string_bytes}
use Rattle.nob_demo_spaces.specs.Lines.{summaries_text}
use Rattle.nob_demo_spaces.proofs.summaries.put_summaries.Given as goal

-- what is written and what is left are all
abbrev pub invariant-loop-summary : goal.invariant-loop-summary
invariant-loop-summary l = string_bytes l.text ++ summaries_text (drop l.summary-index l.summaries) ≡ string_bytes l.initial.text ++ summaries_text l.summaries
