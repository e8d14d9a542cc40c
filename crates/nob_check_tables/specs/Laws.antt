-- What the tables of a list of deeds say.
use Rattle.std.specs.Prelude.{◌≡◌, ℕ, List}
use Rattle.nob_ids.specs.declared.wire_rep.WireRep.{WireRep}
use Rattle.nob_model_types.specs.Sessions.{closed, number, accepted_from, item_at}
use Rattle.nob_model_types.specs.Turns.{turns}
use Rattle.nob_model_types.specs.declared.deed.Deed.{Deed}
use Rattle.nob_check_tables.specs.Closed.{is_among}
use Rattle.nob_check_tables.specs.Numbers.{number_in}
use Rattle.nob_check_tables.specs.Taken.{taken_from}
use Rattle.nob_check_tables.specs.Came.{item_in}
use Rattle.nob_check_tables.specs.Rows.{turns_in}
use Rattle.nob_check_tables.specs.Tables.{tables_of}

-- the tables of space s, among n, say what it did
pub record Say (s n : ℕ) (D : List Deed) : Type 0 where
  pub numbered : (p : ℕ) → number_in p (tables_of s n D).numbers ≡ number p D
  pub closes : (p : ℕ) → is_among p (tables_of s n D).closed ≡ closed p D
  pub taken : (p : ℕ) → taken_from p (tables_of s n D).taken ≡ accepted_from p D
  pub came : (p k : ℕ) → item_in p k (tables_of s n D).came ≡ item_at p k D
  pub asked : (rep : WireRep) → turns_in rep (tables_of s n D).rows ≡ turns s n rep D

-- of every list of deeds
abbrev pub TablesLaw : Type 0
TablesLaw = (s n : ℕ) (D : List Deed) → Say s n D
