use Rattle.std.proofs.Common.{◌≡◌, ◌+◌, ◌++◌, drop}
use Rattle.std.specs.String.{string_bytes}
use Rattle.nob_trace.proofs.Written.{SameAll}
use Rattle.nob_chain.specs.Chains.{lines_text, segments_lines}
use Rattle.nob_chain.specs.Writing.{IsSpeakable}
use Rattle.nob_chain.proofs.writing.put_segments.Given as goal

-- what is written and what is left are all
abbrev pub invariant-loop-segment : goal.invariant-loop-segment
invariant-loop-segment l =
    (l.number ≡ 1 + l.segment-index) × (string_bytes l.text ++ lines_text (segments_lines l.number (drop l.segment-index l.all)) ≡ string_bytes l.initial.text ++ lines_text (segments_lines 1 l.all)) × SameAll IsSpeakable l.all l.segment-index
