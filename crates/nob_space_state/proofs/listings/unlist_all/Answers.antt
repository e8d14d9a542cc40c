use Rattle.nob_space_state.proofs.Letting.{all_unlisted_have}
use Rattle.nob_space_state.proofs.listings.unlist_all.Goals as goal

pub returns-clause-kept : goal.returns-clause-kept
returns-clause-kept c have = all_unlisted_have c.args.me c.args.table.now c.let_all_go.new.table c.args.pins.now.bundles c.args.dirty.now c.take_indexes-indexes.new.self c.args.client c.take_indexes-indexes.result.keys c.take_indexes-indexes.ensures.leaves c.take_indexes-indexes.ensures.indexes c.let_all_go.ensures.kept have
