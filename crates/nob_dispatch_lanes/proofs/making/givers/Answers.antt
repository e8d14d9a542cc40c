use Rattle.std.proofs.Common.{arith, ◌≡◌, [], ◌∷◌, ◌∙◌, false, length-append}
use Rattle.crossbeam_channel.specs.Ends.{sends_on}
use Rattle.nob_dispatch_lanes.proofs.Together.{giving_parts_push, none_given_push, all_push}
use Rattle.nob_dispatch_lanes.proofs.making.givers.Goals as goal

pub loop-first-preserved : goal.loop-first-preserved
loop-first-preserved g c =
    let inv = c.loop-first.invariant in let f = c.giver.ensures.first in let p = c.in_ok-another.ensures.parts in
    let ends = c.loop-first.ends.items in let end = c.in_ok-another.another in let len = length-append ends (end ∷ []) in
    let test = c.loop-first-test.true in
    rw c.in_ok-push.ensures.items (
      f.0 ∙ inv.0,
      f.1 ∙ inv.1,
      omega (arith, giving_parts_push ends end, len, inv.2, p.0),
      omega (arith, len, inv.3, p.1),
      omega (arith, len, inv.4, test, c.len.ensures),
      none_given_push ends end inv.5 c.in_ok-another.ensures.new,
      all_push (λ end. sends_on end.sender ≡ sends_on c.args.first.sender) ends end inv.6 (c.in_ok-another.ensures.lane ∙ inv.0),
      c.giver.ensures.heard ∙ inv.7,
      all_push (λ end. end.has_heard_gone ≡ false) ends end inv.8 c.in_ok-another.ensures.gone,
    )

pub returns-clause-parts : goal.returns-clause-parts
returns-clause-parts g c = let inv = c.loop-first.invariant in rw c.in_ok-push-2.ensures.items (omega (arith, giving_parts_push c.loop-first.ends.items c.loop-first.first, inv.2, inv.3))

pub returns-clause-new : goal.returns-clause-new
returns-clause-new g c none = let inv = c.loop-first.invariant in rw c.in_ok-push-2.ensures.items (none_given_push c.loop-first.ends.items c.loop-first.first inv.5 (inv.1 ∙ none))

pub returns-clause-gone : goal.returns-clause-gone
returns-clause-gone g c none = let inv = c.loop-first.invariant in rw c.in_ok-push-2.ensures.items (all_push (λ end. end.has_heard_gone ≡ false) c.loop-first.ends.items c.loop-first.first inv.8 (inv.7 ∙ none))
