use Rattle.std.proofs.Common.{length, slice_get, sym, ap, ◌∙◌}
use Rattle.nob_pins.proofs.Rows.{of_peer_at, pinned_there, pinned_past}
use Rattle.nob_pins.proofs.table.PinTable.bundles.Goals as goal

pub returns-in-Some : goal.returns-in-Some
returns-in-Some c =
    let got = ap (λ xs. slice_get xs c.args.peer) (sym c.deref.ensures.value) ∙ c.in-Some.ensures in
    rw (← c.self.view_is) (c.len.ensures ∙ ap length (sym (of_peer_at c.self.inside.peers.items c.self.invariant.0 c.args.peer ∙ pinned_there c.self.inside.peers.items c.args.peer c.in-Some.row.now got)))

pub returns-in-None : goal.returns-in-None
returns-in-None c =
    let none = ap (λ xs. slice_get xs c.args.peer) (sym c.deref.ensures.value) ∙ c.in-None.ensures in
    rw (← c.self.view_is) (ap length (sym (of_peer_at c.self.inside.peers.items c.self.invariant.0 c.args.peer ∙ pinned_past c.self.inside.peers.items c.args.peer none)))
