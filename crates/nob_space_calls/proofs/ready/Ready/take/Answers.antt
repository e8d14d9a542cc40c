use Rattle.std.proofs.Common.{◌≡◌, Some, None, sym, ap, ◌∙◌}
use Rattle.nob_space_calls.specs.Rows.{first_stamp, replies_in}
use Rattle.nob_space_calls.proofs.Stamped.{stamp_is, find_none, find_first, without_none, without_one, none_after, ready_less}
use Rattle.nob_space_calls.proofs.ready.Ready.take.Goals as goal

pub returns-in_default-clause-reply : goal.returns-in_default-clause-reply
returns-in_default-clause-reply c =
    let none : first_stamp c.args.call c.self.inside.messages.rows ≡ None = sym (stamp_is c.self.inside.messages.rows c.self.inside.firsts.rows c.args.call None c.self.invariant.stamped (sym c.in_default.is ∙ c.get.ensures)) in
    rw (← c.self.view_is) (sym (find_none c.args.call c.self.inside.messages.rows none))

pub returns-in_default-clause-replies : goal.returns-in_default-clause-replies
returns-in_default-clause-replies c =
    let none : first_stamp c.args.call c.self.inside.messages.rows ≡ None = sym (stamp_is c.self.inside.messages.rows c.self.inside.firsts.rows c.args.call None c.self.invariant.stamped (sym c.in_default.is ∙ c.get.ensures)) in
    rw (← c.self.view_is) (sym (without_none c.args.call c.self.inside.messages.rows none))

pub stamp_if-next-requires : goal.stamp_if-next-requires
stamp_if-next-requires c = λ alone.
    let some : first_stamp c.args.call c.self.inside.messages.rows ≡ Some c.in-Some.first.stamp = sym (stamp_is c.self.inside.messages.rows c.self.inside.firsts.rows c.args.call (Some c.in-Some.first) c.self.invariant.stamped (sym c.in-Some.is ∙ c.get.ensures)) in
    ap (first_stamp c.args.call) c.take-message.ensures.rows
    ∙ none_after c.args.call c.in-Some.first.stamp c.self.inside.messages.rows c.self.invariant.rising some (c.self.invariant.stamped.alone c.args.call c.in-Some.first (sym c.get.ensures ∙ c.in-Some.is) alone)

pub invariant_of-self : goal.invariant_of-self
invariant_of-self c =
    let some : first_stamp c.args.call c.self.inside.messages.rows ≡ Some c.in-Some.first.stamp = sym (stamp_is c.self.inside.messages.rows c.self.inside.firsts.rows c.args.call (Some c.in-Some.first) c.self.invariant.stamped (sym c.in-Some.is ∙ c.get.ensures)) in
    ready_less c.self.inside.next c.self.inside.room c.self.inside.messages.rows c.self.inside.messages.room c.self.inside.firsts.rows c.self.inside.firsts.room c.self.invariant
    c.args.call c.in-Some.first.stamp c.take-message.new.self.rows c.take-message.new.self.room c.renew.new.firsts.rows c.renew.new.firsts.room c.stamp_if-next.result some c.take-message.ensures.rows c.take-message.ensures.room c.stamp_if-next.ensures c.renew.ensures.writes c.renew.ensures.kept

pub returns-clause-reply : goal.returns-clause-reply
returns-clause-reply c =
    let some : first_stamp c.args.call c.self.inside.messages.rows ≡ Some c.in-Some.first.stamp = sym (stamp_is c.self.inside.messages.rows c.self.inside.firsts.rows c.args.call (Some c.in-Some.first) c.self.invariant.stamped (sym c.in-Some.is ∙ c.get.ensures)) in
    rw (← c.self.view_is) (c.take-message.ensures.item ∙ find_first c.args.call c.in-Some.first.stamp c.self.inside.messages.rows c.self.invariant.rising some)

pub returns-clause-replies : goal.returns-clause-replies
returns-clause-replies c =
    let some : first_stamp c.args.call c.self.inside.messages.rows ≡ Some c.in-Some.first.stamp = sym (stamp_is c.self.inside.messages.rows c.self.inside.firsts.rows c.args.call (Some c.in-Some.first) c.self.invariant.stamped (sym c.in-Some.is ∙ c.get.ensures)) in
    rw (← c.self.view_is) (ap replies_in c.take-message.ensures.rows ∙ without_one c.args.call c.in-Some.first.stamp c.self.inside.messages.rows c.self.invariant.rising some)
