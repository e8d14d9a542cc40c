use Rattle.nob_space_calls.proofs.firsts.Firsts.put.Goals as goal

pub returns-clause-writes : goal.returns-clause-writes
returns-clause-writes c =
    let k = rw c.unwrap-before.ensures at c.insert.ensures.updates in
    rw (← c.self.view_is) k.0
