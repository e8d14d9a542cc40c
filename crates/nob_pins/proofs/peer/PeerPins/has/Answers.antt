use Rattle.std.proofs.Common.{sym, ◌∙◌}
use Rattle.nob_pins.proofs.Items.{item_lookup}
use Rattle.nob_pins.proofs.peer.PeerPins.has.Goals as goal

pub returns : goal.returns
returns c = rw (← c.self.view_is) (c.contains_key.ensures ∙ sym (item_lookup c.args.item c.self.inside.bundles.entries c.self.invariant))
