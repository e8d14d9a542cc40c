use Rattle.std.proofs.Common.{◌≡◌, ◌==◌, ◌∷◌, ℕ, List, false, Some, None, is_some, slice_get, sym, ap, subst, ◌∙◌, refl}
use Rattle.std.proofs.lemmas.Option.{slice_get-map}
use Rattle.std.specs.List.Sorted.{IsPermutation}
use Rattle.std.specs.Map.{lookup, values_of}
use Rattle.std.specs.Option.{option_map}
use Rattle.nob_pins.specs.Bundles.{Pinned}
use Rattle.nob_pins.specs.Peers.{has_item}
use Rattle.nob_pins.proofs.Items.{item_lookup, lookup_item, no_gap, entry_taken, its_item, left_by_item, left_values}
use Rattle.nob_pins.proofs.peer.PeerPins.take.Goals as goal

pub returns-in_err-at-clause-taken : goal.returns-in_err-at-clause-taken
returns-in_err-at-clause-taken c =
    let none = item_lookup c.args.item c.self.inside.bundles.entries c.self.invariant ∙ sym c.get_index_of.ensures.found ∙ ap is_some c.in_err-at.was in
    rw (c.from_residual.ensures, ← c.self.view_is) (none, refl)

pub returns-in_err-_item-clause-taken : goal.returns-in_err-_item-clause-taken
returns-in_err-_item-clause-taken c = absurd (no_gap c.self.inside.bundles.entries c.in_ok-at.at c.in_ok-at.ensures.within (sym c.swap_remove_index.ensures.entry ∙ c.in_err-_item.was))

got : (c : goal.In_ok-_item) → slice_get c.self.inside.bundles.entries c.in_ok-at.at ≡ Some (c.in_ok-_item._item, c.in_ok-_item.bundle)
got c = sym c.swap_remove_index.ensures.entry ∙ c.in_ok-_item.was

out : (c : goal.In_ok-_item) → IsPermutation ((c.in_ok-_item._item, c.in_ok-_item.bundle) ∷ c.swap_remove_index.new.self.entries) c.self.inside.bundles.entries
out c =
    subst (λ (es : List (ℕ × Pinned)). IsPermutation ((c.in_ok-_item._item, c.in_ok-_item.bundle) ∷ es) c.self.inside.bundles.entries) (sym c.in_ok-_item.ensures.entries)
    (entry_taken c.self.inside.bundles.entries c.in_ok-at.at (c.in_ok-_item._item, c.in_ok-_item.bundle) (got c))

pub invariant_of-self-2 : goal.invariant_of-self-2
invariant_of-self-2 c = left_by_item c.self.inside.bundles.entries c.swap_remove_index.new.self.entries c.in_ok-_item._item c.in_ok-_item.bundle c.self.invariant (out c)

found : (c : goal.In_ok-_item) → lookup (λ k. c.args.item == k) c.self.inside.bundles.entries ≡ Some c.in_ok-_item.bundle
found c =
    sym c.in_ok-at.ensures.value
    ∙ slice_get-map (λ (e : ℕ × Pinned). e.1) c.self.inside.bundles.entries c.in_ok-at.at
    ∙ ap (option_map (λ (e : ℕ × Pinned). e.1)) (got c)

pub returns-clause-taken : goal.returns-clause-taken
returns-clause-taken c =
    let es = c.self.inside.bundles.entries in
    let fs = c.swap_remove_index.new.self.entries in
    let key = c.in_ok-_item._item in
    let bundle = c.in_ok-_item.bundle in
    let item : bundle.item ≡ c.args.item = lookup_item c.args.item es bundle c.self.invariant (found c) in
    let same : key ≡ c.args.item = sym (its_item es fs key bundle c.self.invariant (out c)) ∙ item in
    let gone : lookup (λ k. c.args.item == k) fs ≡ None = subst (λ (n : ℕ). lookup (λ k. n == k) fs ≡ None) same c.in_ok-_item.ensures.updates.1 in
    let none : has_item c.args.item (values_of fs) ≡ false = item_lookup c.args.item fs (left_by_item es fs key bundle c.self.invariant (out c)) ∙ ap is_some gone in
    rw (← c.self.view_is) (item, left_values es fs key bundle c.self.invariant (out c), none)
