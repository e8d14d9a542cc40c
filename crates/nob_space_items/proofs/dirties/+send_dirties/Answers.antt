use Rattle.std.proofs.Common.{rules, sym, subst}
use Rattle.nob_space_items.specs.Asking.{CanAsk, CanSendAll, SendsAll}
use Rattle.nob_space_items.proofs.Sends.{first_can, rest_can, sends_then, sends_none, no_refs, first_rest, first_asks, rest_asks}
use Rattle.nob_space_items.proofs.dirties.+send_dirties.Goals as goal

pub returns-then-is_empty-clause-sessions : goal.returns-then-is_empty-clause-sessions
returns-then-is_empty-clause-sessions t c = subst (SendsAll c.args.sessions.now.items c.args.sessions.now.items) (no_refs c.args.dirties.items (search rules)) (sends_none c.args.sessions.now.items)

pub send_next-requires-clause-sessions : goal.send_next-requires-clause-sessions
send_next-requires-clause-sessions t c =
    let split = first_rest c.args.dirties.items c.remove-dirty.result c.remove-dirty.new.self.items (search rules) c.remove-dirty.ensures.value c.remove-dirty.ensures.items in
    first_can c.args.sessions.now.items c.remove-dirty.result c.remove-dirty.new.self.items (subst (CanSendAll c.args.sessions.now.items) split c.requires.sessions)

pub send_next-requires-clause-table : goal.send_next-requires-clause-table
send_next-requires-clause-table t c =
    let split = first_rest c.args.dirties.items c.remove-dirty.result c.remove-dirty.new.self.items (search rules) c.remove-dirty.ensures.value c.remove-dirty.ensures.items in
    first_asks c.args.table.now c.remove-dirty.result c.remove-dirty.new.self.items (subst (CanAsk c.args.table.now) split c.requires.table)

pub send_dirties-requires : goal.send_dirties-requires
send_dirties-requires t c =
    let split = first_rest c.args.dirties.items c.remove-dirty.result c.remove-dirty.new.self.items (search rules) c.remove-dirty.ensures.value c.remove-dirty.ensures.items in (
      search rules,
      (
        rest_can c.args.sessions.now.items c.send_next.new.sessions.items c.remove-dirty.result c.remove-dirty.new.self.items (subst (CanSendAll c.args.sessions.now.items) split c.requires.sessions) c.send_next.ensures.sessions,
        rest_asks c.args.table.now c.send_next.new.table c.remove-dirty.result c.remove-dirty.new.self.items (subst (CanAsk c.args.table.now) split c.requires.table)
            c.send_next.ensures.pending c.send_next.ensures.dirties c.send_next.ensures.count c.send_next.ensures.room c.send_next.ensures.left,
      ),
    )

pub returns-clause-sessions : goal.returns-clause-sessions
returns-clause-sessions t c =
    let split = first_rest c.args.dirties.items c.remove-dirty.result c.remove-dirty.new.self.items (search rules) c.remove-dirty.ensures.value c.remove-dirty.ensures.items in
    subst (SendsAll c.args.sessions.now.items c.send_dirties.new.sessions.items) (sym split) (sends_then c.args.sessions.now.items c.send_next.new.sessions.items c.send_dirties.new.sessions.items c.remove-dirty.result c.remove-dirty.new.self.items c.send_next.ensures.sessions c.send_dirties.ensures.sessions)
