use Rattle.std.proofs.Common.{◌≡◌, ◌++◌, map, drop}
use Rattle.nob_model_types.specs.Messages.{new_copy}
use Rattle.nob_check_ledgers.proofs.lending.new_copies.Given as goal

-- the copies of the references so far, and those of the others
abbrev pub invariant-loop-rep : goal.invariant-loop-rep
invariant-loop-rep l = l.copies.items ++ map (λ rep. new_copy l.past.here.space l.past.here.n l.past.deeds rep) (drop l.rep-index l.reps) ≡ map (λ rep. new_copy l.past.here.space l.past.here.n l.past.deeds rep) l.reps
