use Rattle.std.proofs.Common.{◌≡◌, ◌≤◌, true, find, Some, None, option_copied, sym, ap, ◌∙◌}
use Rattle.nob_model_work.specs.Work.{is_reply_from}
use Rattle.nob_space_calls.specs.Calls.{is_reply}
use Rattle.nob_space_calls.specs.Rows.{first_stamp, replies_in, reply_count}
use Rattle.nob_space_calls.proofs.Stamped.{stamp_is, stamp_none, find_first, none_from_replies, alone_from, any_in, not_false}
use Rattle.nob_space_calls.proofs.ready.Ready.has_from.Goals as goal

pub returns-in_default : goal.returns-in_default
returns-in_default c =
    let none : first_stamp c.args.call c.self.inside.messages.rows ≡ None = sym (stamp_is c.self.inside.messages.rows c.self.inside.firsts.rows c.args.call None c.self.invariant.stamped (sym c.in_default.is ∙ c.get.ensures)) in
    rw (← c.self.view_is) (none_from_replies c.args.peer c.args.call c.self.inside.messages.rows none)

pub returns-then-not-first : goal.returns-then-not-first
returns-then-not-first c = rw (← c.self.view_is) (c.is_any_from.ensures ∙ any_in (is_reply_from c.args.peer c.args.call) c.self.inside.messages.rows)

pub returns-in_default-get : goal.returns-in_default-get
returns-in_default-get c =
    let some : first_stamp c.args.call c.self.inside.messages.rows ≡ Some c.in-Some.first.stamp = sym (stamp_is c.self.inside.messages.rows c.self.inside.firsts.rows c.args.call (Some c.in-Some.first) c.self.invariant.stamped (sym c.in-Some.is ∙ c.get.ensures)) in
    let none : first_stamp c.args.call c.self.inside.messages.rows ≡ None =
    stamp_none c.args.call c.self.inside.messages.rows (sym (find_first c.args.call c.in-Some.first.stamp c.self.inside.messages.rows c.self.invariant.rising some) ∙ sym c.get-2.ensures ∙ ap option_copied c.in_default-get.is) in
    rw (← c.self.view_is) (none_from_replies c.args.peer c.args.call c.self.inside.messages.rows none)

pub returns : goal.returns
returns c =
    let some : first_stamp c.args.call c.self.inside.messages.rows ≡ Some c.in-Some.first.stamp = sym (stamp_is c.self.inside.messages.rows c.self.inside.firsts.rows c.args.call (Some c.in-Some.first) c.self.invariant.stamped (sym c.in-Some.is ∙ c.get.ensures)) in
    let alone : c.in-Some.first.alone ≡ true = not_false c.in-Some.first.alone c.if-not-first.false in
    let found : find (is_reply c.args.call) (replies_in c.self.inside.messages.rows) ≡ Some c.in-Some-get.message.now =
    sym (find_first c.args.call c.in-Some.first.stamp c.self.inside.messages.rows c.self.invariant.rising some) ∙ sym c.get-2.ensures ∙ ap option_copied c.in-Some-get.is in
    let few : reply_count c.args.call c.self.inside.messages.rows ≤ 1 = c.self.invariant.stamped.alone c.args.call c.in-Some.first (sym c.get.ensures ∙ c.in-Some.is) alone in
    rw (← c.self.view_is) (c.eq.ensures ∙ alone_from c.args.call c.in-Some.first.stamp c.args.peer c.in-Some-get.message.now c.self.inside.messages.rows some few found)
