use Rattle.std.proofs.Common.{slice_get, sym, ap, ◌∙◌}
use Rattle.nob_pins.specs.Peers.{has_item}
use Rattle.nob_pins.proofs.Rows.{has_at, pinned_there, pinned_past}
use Rattle.nob_pins.proofs.table.PinTable.has.Goals as goal

pub returns-in-Some : goal.returns-in-Some
returns-in-Some c =
    let got = ap (λ xs. slice_get xs c.args.peer) (sym c.deref.ensures.value) ∙ c.in-Some.ensures in
    rw (← c.self.view_is) (c.has.ensures ∙ sym (has_at c.self.inside.peers.items c.self.invariant.0 c.args.peer c.args.item ∙ ap (has_item c.args.item) (pinned_there c.self.inside.peers.items c.args.peer c.in-Some.row.now got)))

pub returns-in-None : goal.returns-in-None
returns-in-None c =
    let none = ap (λ xs. slice_get xs c.args.peer) (sym c.deref.ensures.value) ∙ c.in-None.ensures in
    rw (← c.self.view_is) (sym (has_at c.self.inside.peers.items c.self.invariant.0 c.args.peer c.args.item ∙ ap (has_item c.args.item) (pinned_past c.self.inside.peers.items c.args.peer none)))
