-- What making loans makes of the table.
use Rattle.std.specs.Prelude.{◌≡◌, ℕ, ◌+◌, ◌≤◌, true, List}
use Rattle.std.specs.List.{AllByRecursion}
use Rattle.nob_ids.specs.declared.wire_rep.WireRep.{WireRep}
use Rattle.nob_table_rows.specs.Standings.{is_known}
use Rattle.nob_table.specs.Table.{Table, standing}
use Rattle.nob_model_history.specs.declared.history.History.{History}
use Rattle.nob_model_history.specs.Holds.{times}
use Rattle.nob_space_state.specs.Shows.{TableShows}

-- so many loans of a reference can be counted and no more
abbrev pub most_lent : ℕ
most_lent = 18446744073709551615

-- these references can be lent, each as often as it stands there: the table has counts of them, and its counts don't pass their limit
pub record CanLend (t : Table) (reps : List WireRep) : Type 0 where
  pub known : AllByRecursion (λ rep. is_known (standing t rep).state ≡ true) reps
  pub room : (rep : WireRep) → 1 ≤ times rep reps → (standing t rep).counts.lent + times rep reps ≤ most_lent

-- each of these references is lent as much more as it stands there, and what old shows new shows but for that
pub record Lends (old new : Table) (reps : List WireRep) : Type 0 where
  pub known : (rep : WireRep) → is_known (standing new rep).state ≡ is_known (standing old rep).state
  pub counts : (rep : WireRep) → (standing new rep).counts.lent ≡ (standing old rep).counts.lent + times rep reps
  pub shows : (s n : ℕ) (h : History) (hand_of on_loan : WireRep → ℕ) → TableShows s n old h hand_of on_loan → TableShows s n new h hand_of (λ rep. on_loan rep + times rep reps)
