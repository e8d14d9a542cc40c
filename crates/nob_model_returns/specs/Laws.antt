-- The laws of worlds whose spaces come back.
use Rattle.std.specs.Prelude.{ℕ, List}
use Rattle.std.specs.List.{IsDistinct}
use Rattle.nob_ids.specs.Names.{is_same}
use Rattle.nob_ids.specs.declared.limits.Limits.{Limits}
use Rattle.nob_model_types.specs.declared.entry.Entry.{Entry}
use Rattle.nob_model_types.specs.Objects.{exports}
use Rattle.nob_model_journal.specs.Journals.{deeds_at}
use Rattle.nob_model_journal.specs.Runs.{WorldRun}
use Rattle.nob_model_invariant.specs.Safe.{IsSafe}
use Rattle.nob_model_invariant.specs.Typed.{AreOfTypes}
use Rattle.nob_model_returns.specs.Returns.{Happening, entries, ReturningRun}
use Rattle.nob_model_returns.specs.Joined.{Joined}

-- to every run of a world whose spaces come back there is a journal to which it is joined
abbrev pub JoinedLaw : Type 0
JoinedLaw = (n : ℕ) (limits : ℕ → Limits) (H : List Happening) → ReturningRun n limits H → (J : List Entry) × Joined n limits H J

-- each such journal is a run of a world
abbrev pub RunLaw : Type 0
RunLaw = (n : ℕ) (limits : ℕ → Limits) (H : List Happening) (J : List Entry) → ReturningRun n limits H → Joined n limits H J → WorldRun n limits J

-- and so it is safe
abbrev pub SafeReturnsLaw : Type 0
SafeReturnsLaw = (n : ℕ) (limits : ℕ → Limits) (H : List Happening) (J : List Entry) → ReturningRun n limits H → Joined n limits H J → AreOfTypes (entries H) → IsSafe n J

-- no space gives a reference twice, in all its lives
abbrev pub FreshLaw : Type 0
FreshLaw = (n : ℕ) (limits : ℕ → Limits) (H : List Happening) → ReturningRun n limits H → (s : ℕ) → IsDistinct is_same (exports (deeds_at s (entries H)))
