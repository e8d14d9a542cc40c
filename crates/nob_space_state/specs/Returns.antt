-- What giving back loans makes of the table.
use Rattle.std.specs.Prelude.{◌≡◌, ℕ, ◌-◌, ◌≤◌, ◌==◌, Bool, List, filter, flat_map}
use Rattle.nob_ids.specs.declared.wire_rep.WireRep.{WireRep}
use Rattle.nob_table.specs.Table.{Table, standing}
use Rattle.nob_model_history.specs.declared.history.History.{History}
use Rattle.nob_model_types.specs.declared.message.Message.{Message}
use Rattle.nob_model_history.specs.Holds.{times, loans_of}
use Rattle.nob_space_state.specs.Shows.{TableShows}

-- each of these references is lent at least as often as it stands there
abbrev pub HasLent : Table → List WireRep → Type 0
HasLent t reps = (rep : WireRep) → times rep reps ≤ (standing t rep).counts.lent

-- each of these references is lent as much less as often as it stands there, and what old shows new shows but for that
pub record GivesBack (old new : Table) (reps : List WireRep) : Type 0 where
  pub counts : (rep : WireRep) → (standing new rep).counts.lent ≡ (standing old rep).counts.lent - times rep reps
  pub shows : (s n : ℕ) (h : History) (hand_of on_loan : WireRep → ℕ) → TableShows s n old h hand_of on_loan → TableShows s n new h hand_of (λ rep. on_loan rep - times rep reps)

-- whether a message came from p
abbrev pub is_from : ℕ → Message → Bool
is_from p message = message.from == p

-- what the messages from p among some have lent
abbrev pub lent_from : (s p : ℕ) → List Message → List WireRep
lent_from s p messages = flat_map (loans_of s) (filter (is_from p) messages)
