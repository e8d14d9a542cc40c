use Rattle.std.proofs.Common.{◌≡◌, ◌==◌, ◌++◌, ◌∷◌, [], ℕ, List, false, is_some, sym, ap, subst, ◌∙◌, true≢false}
use Rattle.std.specs.Map.{lookup, values_of}
use Rattle.indexmap.proofs.CallerLemmas.{insert_entry-new}
use Rattle.nob_pins.specs.Bundles.{Pinned}
use Rattle.nob_pins.specs.Peers.{has_item, AreByItem}
use Rattle.nob_pins.proofs.Items.{item_lookup, by_item_pushed, values_pushed}
use Rattle.nob_pins.proofs.peer.PeerPins.put.Goals as goal

pub unreachable-requires : goal.unreachable-requires
unreachable-requires c =
    let none : has_item c.args.bundle.item (values_of c.self.inside.bundles.entries) ≡ false = rw (← c.self.view_is) at c.requires.new in
    true≢false (ap is_some (sym c.in-Ok-Some.field-0-is ∙ c.in-Ok-Some.ensures.old ∙ ap (λ (k : ℕ). lookup (λ j. k == j) c.self.inside.bundles.entries) c.item.ensures)
    ∙ sym (item_lookup c.args.bundle.item c.self.inside.bundles.entries c.self.invariant) ∙ none)

put : (c : goal.In-Ok-None) → c.insert.new.self.entries ≡ c.self.inside.bundles.entries ++ (c.args.bundle.item, c.args.bundle) ∷ []
put c =
    c.in-Ok-None.ensures.entries
    ∙ insert_entry-new (λ (a b : ℕ). a == b) c.self.inside.bundles c.item.result c.args.bundle (sym c.in-Ok-None.ensures.old ∙ c.in-Ok-None.field-0-is)
    ∙ ap (λ (k : ℕ). c.self.inside.bundles.entries ++ (k, c.args.bundle) ∷ []) c.item.ensures

pub invariant_of-self : goal.invariant_of-self
invariant_of-self c = subst (λ (es : List (ℕ × Pinned)). AreByItem es) (sym (put c)) (by_item_pushed c.self.inside.bundles.entries c.args.bundle c.self.invariant)

pub returns : goal.returns
returns c = rw (← c.self.view_is) (ap values_of (put c) ∙ values_pushed c.self.inside.bundles.entries c.args.bundle.item c.args.bundle)
