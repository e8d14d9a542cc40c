use Rattle.std.proofs.Common.{◌≡◌, Some, None, sym, ◌∙◌}
use Rattle.nob_space_calls.specs.Rows.{first_stamp}
use Rattle.nob_space_calls.proofs.Stamped.{stamp_is, find_none, find_first}
use Rattle.nob_space_calls.proofs.ready.Ready.get.Goals as goal

pub returns-in_default : goal.returns-in_default
returns-in_default c =
    let none : first_stamp c.args.call c.self.inside.messages.rows ≡ None = sym (stamp_is c.self.inside.messages.rows c.self.inside.firsts.rows c.args.call None c.self.invariant.stamped (sym c.in_default.is ∙ c.get.ensures)) in
    rw (← c.self.view_is) (sym (find_none c.args.call c.self.inside.messages.rows none))

pub returns : goal.returns
returns c =
    let some : first_stamp c.args.call c.self.inside.messages.rows ≡ Some c.in-Some.first.stamp = sym (stamp_is c.self.inside.messages.rows c.self.inside.firsts.rows c.args.call (Some c.in-Some.first) c.self.invariant.stamped (sym c.in-Some.is ∙ c.get.ensures)) in
    rw (← c.self.view_is) (c.get-2.ensures ∙ find_first c.args.call c.in-Some.first.stamp c.self.inside.messages.rows c.self.invariant.rising some)
