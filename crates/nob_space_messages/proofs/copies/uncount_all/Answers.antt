use Rattle.nob_space_messages.specs.Waiting.{is_copy_of}
use Rattle.nob_space_messages.proofs.Carried.{one_left}
use Rattle.nob_space_messages.proofs.copies.uncount_all.Goals as goal

pub uncount_one-requires : goal.uncount_one-requires
uncount_one-requires c =
    let owner = c.copy-item.result.rep.owner in
    one_left _ _ (is_copy_of owner) c.args.copies.now c.loop-copy.copy-index c.copy-item.result (c.requires.some owner) (c.loop-copy.invariant owner) c.loop-copy-test.true c.copy-item.is
