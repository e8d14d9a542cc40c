use Rattle.std.proofs.Common.{◌∙◌}
use Rattle.nob_space_calls.proofs.Numbered.{item_found}
use Rattle.nob_space_calls.proofs.rows.Rows.get.Goals as goal

pub returns : goal.returns
returns c = rw (← c.self.view_is) (c.own_at.ensures ∙ item_found c.args.call c.self.inside.calls.rows c.self.invariant.numbered)
