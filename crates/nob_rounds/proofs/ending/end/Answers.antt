use Rattle.nob_rounds.proofs.Ends.{went_to_the_end}
use Rattle.nob_rounds.proofs.ending.end.Goals as goal

pub returns-clause-entries : goal.returns-clause-entries
returns-clause-entries c = went_to_the_end c.withdraw_all.result c.args.world.now.n c.end_rounds.new.world.n c.args.world.now.entries c.end_rounds.new.world.entries c.withdraw_all.new.world.entries c.end_rounds.ensures.n c.in_ok-end_rounds.ensures.entries c.withdraw_all.ensures.entries
