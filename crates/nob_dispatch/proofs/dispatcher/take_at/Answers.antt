use Rattle.nob_dispatch.proofs.Ties.{weigh_removed, removed}
use Rattle.nob_dispatch.proofs.dispatcher.take_at.Goals as goal

pub returns-clause-once : goal.returns-clause-once
returns-clause-once c = λ weight. weigh_removed weight c.args.place _ _ _ c.requires c.remove.ensures.value c.remove.ensures.items

pub returns-clause-without : goal.returns-clause-without
returns-clause-without c = removed c.args.place _ _ _ c.requires c.remove.ensures.value c.remove.ensures.items
