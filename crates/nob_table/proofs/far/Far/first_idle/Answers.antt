use Rattle.nob_table.specs.Far.{is_idle_in}
use Rattle.nob_table.proofs.far.Far.first_idle.Goals as goal

pub returns : goal.returns
returns c =
    let ordered = c.self.invariant.far.ordered in
    rw (← c.self.view_is) (c.first.ensures (is_idle_in c.self.inside.counted.rows c.self.inside.surrogates.rows) c.self.inside.surrogates.rows ordered.have_slots ordered.idle_are)
