use Rattle.std.proofs.Common.{◌≡◌, ℕ, ◌+◌, List, length, arith, sym, subst}
use Rattle.nob_keeper.specs.Keep.{Keep}
use Rattle.nob_keeper.specs.Summary.{Summary}
use Rattle.nob_demo_spaces.specs.Endings.{HaveLeft}
use Rattle.nob_demo_spaces.proofs.Each.{none_yet}
use Rattle.nob_demo_spaces.proofs.playing.say_of.Goals as goal

pub returns : goal.returns
returns c =
    let stop = c.summed-stop.result.0 in
    let chains = c.summed-stop.new.records.chains.items in
    let none = none_yet c.keep.result c.new.result.items c.new-2.result.items c.new.ensures.items c.new-2.ensures.items in
    let all : 0 + length c.args.all.items ≡ c.args.scene.spaces = omega (arith, c.requires.all) in
    let left = subst (λ (x : Keep × ℕ × List Summary). HaveLeft x.0 x.1 stop chains x.2) (λ i. (c.keep.ensures i, all i, sym c.as_slice-summaries.ensures.value i)) (c.summed-stop.ensures 0 none) in
    (stop, c.summed-stop.result.1, chains, c.as_slice-summaries.result.now, left, c.say.ensures)
