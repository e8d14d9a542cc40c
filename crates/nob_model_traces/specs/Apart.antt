-- Traces of several spaces: their entries as those of a journal, and whether no two are of one space.
use Rattle.std.specs.Prelude.{ℕ, Bool, true, ◌&&◌, not, ◌==◌, List, [], ◌∷◌}
use Rattle.std.specs.List.{list_all}
use Rattle.nob_model_types.specs.declared.entry.Entry.{Entry}
use Rattle.nob_trace.specs.declared.stamped.Stamped.{Stamped}
use Rattle.nob_trace.specs.declared.trace.Trace.{Trace}

-- an entry of a trace of space s, as one of a journal
abbrev pub entry_at : ℕ → Stamped → Entry
entry_at s stamped = record { space = s; event = stamped.event; result = stamped.result }

-- whether no trace is of space s
abbrev pub is_free : ℕ → List Trace → Bool
is_free s traces = list_all (λ trace. not (trace.space == s)) traces

-- whether no two traces are of one space
abbrev pub are_apart : List Trace → Bool
are_apart [] = true
are_apart (trace ∷ traces) = is_free trace.space traces && are_apart traces
