use Rattle.std.proofs.Common.{arith}
use Rattle.nob_space_messages.specs.Waiting.{is_copy_of}
use Rattle.nob_space_messages.proofs.Granting.{few_first}
use Rattle.nob_space_messages.proofs.copies.count_all.Goals as goal

pub count_one-requires : goal.count_one-requires
count_one-requires c =
    let owner = c.copy-item.result.rep.owner in
    let its = c.loop-copy.invariant owner in
    let few = few_first (is_copy_of owner) c.args.copies.now c.loop-copy.copy-index in
    let small = c.requires.small owner in
    let under = c.loop-copy-test.true in
    omega (arith, its, few, small, under)
