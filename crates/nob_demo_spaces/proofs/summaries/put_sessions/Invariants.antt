use Rattle.std.proofs.Common.{◌≡◌, ◌++◌, drop}
use Rattle.std.specs.String.{string_bytes}
use Rattle.nob_demo_spaces.specs.Lines.{sessions_text}
use Rattle.nob_demo_spaces.proofs.summaries.put_sessions.Given as goal

-- what is written and what is left are all
abbrev pub invariant-loop-session : goal.invariant-loop-session
invariant-loop-session l = string_bytes l.text ++ sessions_text (drop l.session-index l.sessions) ≡ string_bytes l.initial.text ++ sessions_text l.sessions
