use Rattle.std.proofs.Common.{◌≡◌, ◌==◌, ◌++◌, filter, flat_map, map}
use Rattle.nob_model_history.specs.Holds.{loans_of}
use Rattle.nob_space_state.specs.Returns.{GivesBack}
use Rattle.nob_space_state.proofs.returns.give_back_ready.Given as goal

abbrev pub invariant-loop-message : goal.invariant-loop-message
invariant-loop-message l = GivesBack l.fn.table l.table (flat_map (loans_of l.me) (map (λ m. m.now) l.yielded)) × (filter (λ message. message.from == l.fn.peer) l.messages.jobs.ready ≡ map (λ m. m.now) l.yielded ++ l.message-iterator)
