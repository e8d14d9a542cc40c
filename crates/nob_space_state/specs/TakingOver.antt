-- References that were lent come into the hand.
use Rattle.std.specs.Prelude.{◌≤◌, ℕ, ◌+◌, ◌-◌, List, map}
use Rattle.nob_ids.specs.declared.wire_rep.WireRep.{WireRep}
use Rattle.nob_table.specs.Table.{Table, standing}
use Rattle.nob_model_types.specs.declared.message.RefCopy.{RefCopy}
use Rattle.nob_model_history.specs.Holds.{times}
use Rattle.nob_model.specs.Right.{greatest_hand}

-- the references that copies are of, in order
abbrev pub reps_of : List RefCopy → List WireRep
reps_of copies = map (λ copy. copy.rep) copies

-- references are lent as often as they stand in a list, and that often the hand can take them
pub record CanTake (t : Table) (reps : List WireRep) : Type 0 where
  pub lent : (rep : WireRep) → times rep reps ≤ (standing t rep).counts.lent
  pub room : (rep : WireRep) → 1 ≤ times rep reps → (standing t rep).counts.hand + times rep reps ≤ greatest_hand

-- holds with more references, and with fewer
abbrev pub with_more : List WireRep → (WireRep → ℕ) → WireRep → ℕ
with_more reps holds rep = holds rep + times rep reps

abbrev pub with_fewer : List WireRep → (WireRep → ℕ) → WireRep → ℕ
with_fewer reps holds rep = holds rep - times rep reps
