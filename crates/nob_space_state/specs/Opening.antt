-- The number of the next session, by the end of the one that closed.
use Rattle.std.specs.Prelude.{ℕ, ◌+◌, max}
use Rattle.nob_session.specs.Stands.{End}

-- the number of the next session of an end: above the present one, and none below the highest that arrived
abbrev pub next_of : End → ℕ
next_of e = max (e.number + 1) e.seen
