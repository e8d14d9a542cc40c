use Rattle.nob_space_calls.proofs.Stamped.{ready_push}
use Rattle.nob_space_calls.proofs.ready.Ready.push.Goals as goal
use Rattle.std.proofs.Common.{arith}

pub invariant_of-self : goal.invariant_of-self
invariant_of-self c =
    let some = rw (← c.self.view_is) at c.requires in
    ready_push c.self.inside.next c.self.inside.room c.self.inside.messages.rows c.self.inside.messages.room c.self.inside.firsts.rows c.self.inside.firsts.room c.self.invariant
    c.args.message c.push.new.self.rows c.push.new.self.room c.note.new.firsts.rows c.note.new.firsts.room _ some c.push.ensures.rows c.push.ensures.room c.note.ensures.notes c.note.ensures.room (omega (arith, some))
