use Rattle.nob_rounds.proofs.Ends.{went_round}
use Rattle.nob_rounds.proofs.ending.end_round.Goals as goal

pub returns-clause-entries : goal.returns-clause-entries
returns-clause-entries c = went_round c.round.result c.args.world.now.n c.close_unopen.new.world.n c.claim_all.new.world.n c.end_calls.new.world.n c.release_all.new.world.n c.args.world.now.entries c.close_unopen.new.world.entries c.claim_all.new.world.entries c.end_calls.new.world.entries c.release_all.new.world.entries c.round.new.world.entries c.close_unopen.ensures.n c.claim_all.ensures.n c.end_calls.ensures.n c.release_all.ensures.n c.in_ok-close_unopen.ensures.entries c.in_ok-claim_all.ensures.entries c.in_ok-end_calls.ensures.entries c.in_ok-release_all.ensures.entries c.round.ensures.entries
