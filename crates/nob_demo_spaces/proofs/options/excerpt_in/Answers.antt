use Rattle.std.proofs.Common.{◌∙◌, codes, refl, arith}
use Rattle.clap.specs.Words.{found_of}
use Rattle.nob_demo_spaces.specs.Options.{greatest}
use Rattle.nob_demo_spaces.proofs.Readings.{number_got, number_there}
use Rattle.nob_demo_spaces.proofs.options.excerpt_in.Goals as goal

pub returns : goal.returns
returns c =
    let found = found_of c.args.options.now in
    let from = number_got 64 1 greatest 1 (omega arith) found (codes "from") c.get_one.result c.unwrap_or-from.result c.unwrap_or-from.ensures c.requires.from (omega arith, omega arith) c.get_one.ensures.none c.get_one.ensures.value in
    let to = number_got 64 1 greatest greatest (omega arith) found (codes "to") c.get_one-2.result c.unwrap_or-to.result c.unwrap_or-to.ensures c.requires.to (omega arith, omega arith) c.get_one-2.ensures.none c.get_one-2.ensures.value in
    let owner = number_there 16 1 32 1 (omega arith) found (codes "owner") c.get_one-owner.result c.requires.owner c.get_one-owner.ensures.none c.get_one-owner.ensures.value in
    let index = number_there 64 0 greatest 0 (omega arith) found (codes "index") c.get_one-index.result c.requires.index c.get_one-index.ensures.none c.get_one-index.ensures.value in
    let space = number_there 16 1 32 1 (omega arith) found (codes "space") c.get_one-space.result c.requires.space c.get_one-space.ensures.none c.get_one-space.ensures.value in
    rw (from.0, to.0, owner, index, space, c.is_set-brief.ensures) refl
