use Rattle.std.proofs.Common.{◌≡◌, ◌-◌, get_or, set, sym, ap, subst, ◌∙◌}
use Rattle.nob_ids.specs.declared.wire_rep.WireRep.{WireRep}
use Rattle.nob_space_items.specs.Asking.{SendsNext}
use Rattle.nob_space_items.proofs.Sends.{one_can, sends_next}
use Rattle.nob_space_items.proofs.dirties.send_next.Goals as goal

pub send_dirty-requires : goal.send_dirty-requires
send_dirty-requires c =
    let at : c.place_of.result ≡ c.args.dirty.owner - 1 = c.place_of.ensures ∙ ap (λ (rep : WireRep). rep.owner - 1) c.rep-rep.ensures in
    one_can c.args.sessions.now.items c.args.dirty c.index_mut-session.result.now c.requires.sessions
    (c.index_mut-session.ensures.value ∙ ap (λ k. get_or c.args.sessions.now.items k c.index_mut-session.result.now) at)

pub returns-clause-sessions : goal.returns-clause-sessions
returns-clause-sessions c =
    let at : c.place_of.result ≡ c.args.dirty.owner - 1 = c.place_of.ensures ∙ ap (λ (rep : WireRep). rep.owner - 1) c.rep-rep.ensures in
    subst (λ k. SendsNext c.args.sessions.now.items (set c.args.sessions.now.items k c.send_dirty.new.session) c.args.dirty) (sym at)
    (sends_next c.args.sessions.now.items c.args.dirty c.index_mut-session.result.now c.send_dirty.new.session c.requires.sessions.owners.0
    (c.index_mut-session.ensures.value ∙ ap (λ k. get_or c.args.sessions.now.items k c.index_mut-session.result.now) at) c.send_dirty.ensures)
