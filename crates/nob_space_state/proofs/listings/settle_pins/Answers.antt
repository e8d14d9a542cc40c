use Rattle.nob_pins.specs.Evidence.{reps_of}
use Rattle.nob_space_state.proofs.Letting.{ended_have, none_taken}
use Rattle.nob_space_state.proofs.listings.settle_pins.Goals as goal

pub returns-clause-kept : goal.returns-clause-kept
returns-clause-kept c have =
    ended_have c.args.me c.args.table.now c.spend_all.new.table c.args.pins.now.bundles c.take.new.self.bundles c.args.dirty.now (reps_of c.in_ok-ended.ended.items)
    (none_taken c.args.pins.now.bundles c.take.new.self.bundles c.args.settled.now.peer c.args.settled.now.item (reps_of c.in_ok-ended.ended.items) c.in_ok-ended.ensures.answer.1)
    c.spend_all.ensures.kept have
