-- What each trace tells of its space, and which traces belong together. A trace stands oldest first, a journal newest FIRST.
use Rattle.std.specs.Prelude.{◌≡◌, ℕ, ◌+◌, Bool, ◌&&◌, ◌==◌, nat_le, List, ◌∷◌, ◌++◌, length, map, reverse}
use Rattle.std.specs.List.{list_all, AllByRecursion, flat_map}
use Rattle.nob_ids.specs.declared.limits.Limits.{Limits}
use Rattle.nob_model_types.specs.declared.entry.Entry.{Entry}
use Rattle.nob_model.specs.Right.{IsRight}
use Rattle.nob_model_journal.specs.Journals.{Each}
use Rattle.nob_trace.specs.declared.stamped.Stamped.{Stamped}
use Rattle.nob_trace.specs.declared.trace.Trace.{Trace}
use Rattle.nob_trace.specs.Traces.{trace_text, IsTrace}
use Rattle.nob_model_traces.specs.Apart.{entry_at, are_apart}

-- an input is these traces, one after the other
abbrev pub Spells : List ℕ → List Trace → Type 0
Spells input traces = AllByRecursion IsTrace traces × (input ≡ flat_map trace_text traces)

-- entries of a trace of space s as a journal
abbrev pub journal_at : ℕ → List Stamped → List Entry
journal_at s entries = reverse (map (entry_at s) entries)

-- each of the entries of space s among n has the one right result after those before it
abbrev pub AreRight : (s n : ℕ) → Limits → List Entry → Type 0
AreRight s n limits L = Each (IsRight s n limits) L

-- a trace in which each result is right, by its own number of spaces and limits
abbrev pub IsRightTrace : Trace → Type 0
IsRightTrace trace = AreRight trace.space trace.n trace.limits (journal_at trace.space trace.entries)

-- the entry at this place of a trace, counted from 1, is the first that isn't right: all before it are
pub record IsFirstWrong (trace : Trace) (place : ℕ) : Type 0 where
  pub before : List Stamped
  pub wrong : Stamped
  pub after : List Stamped
  pub entries_are : trace.entries ≡ before ++ wrong ∷ after
  pub place_is : place ≡ length before + 1
  pub are_right : AreRight trace.space trace.n trace.limits (journal_at trace.space before)
  pub is_wrong : IsRight trace.space trace.n trace.limits (entry_at trace.space wrong) (journal_at trace.space before) → ⊥

-- whether a trace is of one of n spaces, and says that there are n
abbrev pub is_one_of : ℕ → Trace → Bool
is_one_of n trace = trace.n == n && nat_le 1 trace.space && nat_le trace.space n

-- whether there are traces, as many as each of them says that there are spaces, and one of each of these; their limits may differ
abbrev pub are_one_each : List Trace → Bool
are_one_each traces = nat_le 1 (length traces) && list_all (is_one_of (length traces)) traces && are_apart traces
