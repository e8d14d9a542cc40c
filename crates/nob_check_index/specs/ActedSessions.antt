-- The sessions in which items were acted on, each once: the peer, and the number of the session with it.
use Rattle.std.specs.Prelude.{ℕ, Bool, ◌&&◌, ◌==◌, List, [], ◌∷◌}
use Rattle.indexmap.specs.IndexSet.{insert_key}
use Rattle.nob_model_types.specs.declared.deed.Deed.{Deed}
use Rattle.nob_model_types.specs.declared.deed.Deed.TheVariants.{Act}
use Rattle.nob_check_tables.specs.Numbers.{number_in}
use Rattle.nob_check_tables.specs.Tables.{tables_of}
use Rattle.nob_check_tables.specs.declared.tables.Tables.{Tables}

-- whether two are one session
abbrev pub is_same_session : ℕ × ℕ → ℕ × ℕ → Bool
is_same_session one other = one.0 == other.0 && one.1 == other.1

-- these with one more, unless it is one of them
abbrev pub with_one : (p k : ℕ) → List (ℕ × ℕ) → List (ℕ × ℕ)
with_one p k sessions = insert_key is_same_session sessions (p, k)

-- the sessions after a deed, by the tables before it
abbrev pub sessions_after : Deed → Tables → List (ℕ × ℕ) → List (ℕ × ℕ)
sessions_after (Act p k) tables sessions = with_one p (number_in p tables.numbers) sessions
sessions_after (_) tables sessions = sessions

-- the sessions in which space s, among n, acted
abbrev pub sessions_of : (s n : ℕ) → List Deed → List (ℕ × ℕ)
sessions_of s n [] = []
sessions_of s n (deed ∷ D) = sessions_after deed (tables_of s n D) (sessions_of s n D)

-- a test of sessions
abbrev pub SessionTest : Type 0
SessionTest = ℕ × ℕ → Bool
