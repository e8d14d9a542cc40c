use Rattle.std.proofs.Common.{take}
use Rattle.nob_model_history.specs.Holds.{copies_lent}
use Rattle.nob_space_state.specs.Returns.{GivesBack}
use Rattle.nob_space_state.proofs.returns.give_back_copies.Given as goal

abbrev pub invariant-loop-copy : goal.invariant-loop-copy
invariant-loop-copy l = GivesBack l.fn.table l.table (copies_lent (take l.copy-index l.copies))
