use Rattle.std.proofs.Common.{arith, ◌≡◌, [], ◌∷◌, sym, ◌∙◌, length-append}
use Rattle.crossbeam_channel.specs.Ends.{sends_on, receives_on}
use Rattle.nob_dispatch_lanes.proofs.Together.{getting_parts_push, none_got_push, all_push}
use Rattle.nob_dispatch_lanes.proofs.making.getters.Goals as goal

pub loop-first-preserved : goal.loop-first-preserved
loop-first-preserved g c =
    let inv = c.loop-first.invariant in let f = c.getter.ensures.first in let p = c.in_ok-another.ensures.parts in
    let ends = c.loop-first.ends.items in let end = c.in_ok-another.another in let len = length-append ends (end ∷ []) in
    let test = c.loop-first-test.true in
    rw c.in_ok-push.ensures.items (
      f.0 ∙ inv.0,
      f.1 ∙ inv.1,
      omega (arith, getting_parts_push ends end, len, inv.2, p.0),
      omega (arith, len, inv.3, p.1),
      omega (arith, len, inv.4, test, c.len.ensures),
      none_got_push ends end inv.5 c.in_ok-another.ensures.new,
      all_push (λ end. sends_on c.args.first.now.sender ≡ receives_on end.receiver) ends end inv.6 (sym inv.0 ∙ c.in_ok-another.ensures.lane),
      c.getter.ensures.heard ∙ inv.7,
    )
