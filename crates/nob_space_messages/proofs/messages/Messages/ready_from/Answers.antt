use Rattle.std.proofs.Common.{ap, sym, subst, ◌∙◌, arith}
use Rattle.nob_queues.specs.Queues.{rows_at}
use Rattle.nob_space_messages.specs.Lines.{AreThere, messages_at}
use Rattle.nob_space_messages.proofs.Stamps.{messages_few, messages_from, there_from}
use Rattle.nob_space_messages.proofs.messages.Messages.ready_from.Goals as goal

pub invariant_of-result : goal.invariant_of-result
invariant_of-result c = (omega arith, subst (AreThere (rows_at c.self.inside.queues 1)) (sym (c.iter.ensures.items ∙ c.self.invariant.4.froms c.args.peer)) (there_from c.args.peer (rows_at c.self.inside.queues 1) c.self.invariant.4.rising))

pub returns-clause-items : goal.returns-clause-items
returns-clause-items c = rw (← c.self.view_is) (ap (messages_at (rows_at c.self.inside.queues 1)) (c.iter.ensures.items ∙ c.self.invariant.4.froms c.args.peer) ∙ messages_from c.args.peer (rows_at c.self.inside.queues 1) c.self.invariant.4.rising)

pub returns-clause-fits : goal.returns-clause-fits
returns-clause-fits c =
    let few = messages_few (rows_at c.self.inside.queues 1) c.iter.result in
    let fits = c.iter.ensures.fits in
    omega (arith, few, fits)
