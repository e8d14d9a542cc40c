-- The entries of several traces in order of stamp, ties by space. The first stands first.
use Rattle.std.specs.Prelude.{◌≡◌, ⊤, ℕ, Bool, true, ◌&&◌, ◌||◌, ◌==◌, nat_lt, List, [], ◌∷◌, map, filter}
use Rattle.std.specs.List.{AllByRecursion, list_any}
use Rattle.nob_model_types.specs.declared.entry.Entry.{Entry}
use Rattle.nob_trace.specs.declared.stamped.Stamped.{Stamped}
use Rattle.nob_trace.specs.declared.trace.Trace.{Trace}
use Rattle.nob_model_traces.specs.declared.moment.Moment.{Moment}
use Rattle.nob_model_traces.specs.Apart.{entry_at}

-- whether a moment is earlier than another: its stamp is lower, or it is the same and its space is
abbrev pub is_earlier : Moment → Moment → Bool
is_earlier one other = nat_lt one.stamp other.stamp || (one.stamp == other.stamp && nat_lt one.space other.space)

-- an entry of a journal with its stamp
pub record Dated : Type 0 where
  pub stamp : ℕ
  pub entry : Entry

-- when an entry was made
abbrev pub moment_of : Dated → Moment
moment_of dated = record { stamp = dated.stamp; space = dated.entry.space }

-- an entry of a trace of space s with its stamp
abbrev pub dated_at : ℕ → Stamped → Dated
dated_at s stamped = record { stamp = stamped.stamp; entry = entry_at s stamped }

-- each entry is earlier than all that stand behind it
abbrev pub InOrder : List Dated → Type 0
InOrder [] = ⊤
InOrder (one ∷ others) = AllByRecursion (λ other. is_earlier (moment_of one) (moment_of other) ≡ true) others × InOrder others

-- the entries of space s
abbrev pub dated_of : ℕ → List Dated → List Dated
dated_of s M = filter (λ dated. dated.entry.space == s) M

-- whether one of the traces is of the space of an entry
abbrev pub is_traced : List Trace → Dated → Bool
is_traced traces dated = list_any (λ trace. trace.space == dated.entry.space) traces

-- entries with their stamps are those of all traces: they are in order, those of each trace's space are the trace's, and there are no others
pub record AreOfTraces (traces : List Trace) (M : List Dated) : Type 0 where
  pub in_order : InOrder M
  pub each : AllByRecursion (λ trace. dated_of trace.space M ≡ map (dated_at trace.space) trace.entries) traces
  pub no_others : AllByRecursion (λ dated. is_traced traces dated ≡ true) M

-- the entries of all traces in order of stamp, ties by space
abbrev pub IsMerged : List Trace → List Entry → Type 0
IsMerged traces merged = (M : List Dated) × AreOfTraces traces M × (merged ≡ map (λ dated. dated.entry) M)
