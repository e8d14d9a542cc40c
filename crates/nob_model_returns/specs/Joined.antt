-- Joined: a journal in which a world whose spaces come back is one whose spaces never died. Where a life began there is a
-- bridge of the space's own, and each entry stands as it was, but for higher job numbers.
use Rattle.std.specs.Prelude.{◌≡◌, ℕ, List, [], ◌∷◌, ◌++◌}
use Rattle.nob_ids.specs.declared.limits.Limits.{Limits}
use Rattle.nob_model_types.specs.declared.entry.Entry.{Entry}
use Rattle.nob_model_lives.specs.Births.{IsBorn}
use Rattle.nob_model_lives.specs.Bridges.{birth_behind}
use Rattle.nob_model_jobs.specs.Raised.{raised_entry}
use Rattle.nob_model_lives.specs.Alone.{AreOfBridge}
use Rattle.nob_model_journal.specs.Journals.{at}
use Rattle.nob_model_returns.specs.Returns.{Happening, does, begins, jobs_claimed, jobs_uncounted}

-- what happened is joined to a journal: an entry with its job numbers raised, the beginning of a life replaced by entries of that space which need nobody else, after which it is born behind the bounds and all jobs claimed
abbrev pub Joined : (n : ℕ) → (ℕ → Limits) → List Happening → List Entry → Type 0
Joined n limits [] J = J ≡ []
Joined n limits (does entry ∷ H) J = (K : List Entry) × (J ≡ raised_entry (jobs_uncounted entry.space H) entry ∷ K) × Joined n limits H K
Joined n limits (begins s bounds jobs ∷ H) J = (K : List Entry) × (bridge : List Entry) × (J ≡ bridge ++ K) × AreOfBridge s bridge × IsBorn s n (limits s) (birth_behind bounds (jobs_claimed s H)) (at s J) × Joined n limits H K
