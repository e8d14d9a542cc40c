use Rattle.nob_space_messages.proofs.lanes.Lanes.put.Goals as goal

pub returns-clause-puts : goal.returns-clause-puts
returns-clause-puts c = let k = rw c.unwrap-old.ensures at c.insert.ensures.updates in rw (← c.self.view_is) (k.0)
