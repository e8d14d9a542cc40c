use Rattle.std.proofs.Common.{sym, ap, ◌∙◌}
use Rattle.nob_space_calls.proofs.Numbered.{is_awaited, item_awaited}
use Rattle.nob_space_calls.proofs.rows.Rows.awaits.Goals as goal

pub returns-in_default : goal.returns-in_default
returns-in_default c =
    rw (← c.self.view_is) (ap (is_awaited c.args.peer c.args.call) (sym c.in_default.is ∙ c.own_at.ensures) ∙ item_awaited c.args.peer c.args.call c.self.inside.calls.rows c.self.invariant.rising c.self.invariant.numbered)

pub returns : goal.returns
returns c =
    rw (← c.self.view_is) (c.awaits_reply.ensures ∙ ap (is_awaited c.args.peer c.args.call) (sym c.in-Some.is ∙ c.own_at.ensures) ∙ item_awaited c.args.peer c.args.call c.self.inside.calls.rows c.self.invariant.rising c.self.invariant.numbered)
