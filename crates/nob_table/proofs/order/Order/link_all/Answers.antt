use Rattle.std.proofs.Common.{◌≡◌, ◌∙◌}
use Rattle.nob_table.proofs.order.Order.link_all.Goals as goal

pub loop-at-preserved : goal.loop-at-preserved
loop-at-preserved c =
    let old : c.loop-at.self.slots ≡ c.args.self.now.slots = c.loop-at.invariant.0 in
    let new : c.link.new.self.slots ≡ c.args.self.now.slots = c.link.ensures.slots ∙ old in (
      new,
      c.link.ensures.idle ∙ c.loop-at.invariant.1,
      c.link.ensures.spare ∙ c.loop-at.invariant.2,
      c.link.ensures.len ∙ c.loop-at.invariant.3,
      c.link.ensures.kept ∙ c.loop-at.invariant.4,
      λ surrogates ended.
          let so_far = c.loop-at.invariant.5 surrogates ended in
          rw new at (c.link.ensures.linked surrogates (rw old so_far.0) (rw old so_far.1)),
    )
