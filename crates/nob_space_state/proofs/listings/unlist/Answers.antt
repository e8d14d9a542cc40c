use Rattle.nob_space_state.proofs.Letting.{unlisted_have}
use Rattle.nob_space_state.proofs.listings.unlist.Goals as goal

pub returns-clause-kept : goal.returns-clause-kept
returns-clause-kept c have = unlisted_have c.args.me c.args.table.now c.let_go_of.new.table c.args.pins.now.bundles c.args.dirty.now c.clean.new.self c.args.client c.args.index c.clean.ensures.leaves c.let_go_of.ensures.kept have
