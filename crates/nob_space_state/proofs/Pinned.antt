-- The pins of a reference, as the bundles have them.
use Rattle.std.proofs.Common.{◌≡◌, ℕ, ◌+◌, List, [], ◌∷◌, map, filter, flat_map, length, refl, sym, ap, ◌∙◌}
use Rattle.std.specs.List.{sum_by}
use Rattle.std.proofs.lemmas.List.Sums.{sum_by-cons}
use Rattle.nob_ids.specs.declared.limits.Limits.{Limits}
use Rattle.nob_ids.specs.declared.wire_rep.WireRep.{WireRep}
use Rattle.nob_item.specs.Kinds.{counted_in}
use Rattle.nob_pins.specs.Bundles as pins
use Rattle.nob_table_rows.proofs.Same.{same_laws}
use Rattle.nob_model_types.specs.declared.deed.Deed.{Deed}
use Rattle.nob_model_history.specs.declared.history.History.{History}
use Rattle.nob_model_history.specs.declared.transit.SentItem.{SentItem}
use Rattle.nob_model_history.specs.Histories.{history_of}
use Rattle.nob_model_history.specs.Holds.{times}
use Rattle.nob_model_history.specs.Transit as transit
use Rattle.nob_space_state.specs.Parts.{State}
use Rattle.nob_space_state.specs.Stands.{Stands, PinsStand, bundle}
use Rattle.nob_space_state.proofs.Counted.{times_both}

-- the same in whichever order two references are compared
times_same : (rep : WireRep) (reps : List WireRep) → pins.times rep reps ≡ times rep reps
times_same rep reps = λ i. length (filter (λ other. same_laws.symm other rep i) reps)

-- how often a reference stands in bundles
counted_bundles : (rep : WireRep) (items : List SentItem) → sum_by (λ b. pins.times rep b.reps) (map bundle items) ≡ times rep (flat_map (λ item. counted_in item.item) items)
counted_bundles rep [] = refl
counted_bundles rep (item ∷ items) =
    sum_by-cons (λ b. pins.times rep b.reps) (bundle item) (map bundle items)
    ∙ ap (λ k. k + sum_by (λ b. pins.times rep b.reps) (map bundle items)) (times_same rep (counted_in item.item))
    ∙ ap (λ k. times rep (counted_in item.item) + k) (counted_bundles rep items)
    ∙ sym (times_both rep (counted_in item.item) (flat_map (λ item. counted_in item.item) items))

-- the pins of a reference, where the bundles are those of a history
pub pins_of : (bundles : List pins.Pinned) (h : History) → PinsStand bundles h → (rep : WireRep) → pins.count_of bundles rep ≡ transit.pins rep h
pins_of bundles h stand rep = stand (λ b. pins.times rep b.reps) ∙ counted_bundles rep (transit.bundles h)

-- the pins of a reference
pub pins_there : {s n : ℕ} {limits : Limits} {st : State} {D : List Deed} → Stands s n limits st D → (rep : WireRep) → pins.count_of st.pins.bundles rep ≡ transit.pins rep (history_of s n D)
pins_there {s} {n} {limits} {st} {D} stands rep = pins_of st.pins.bundles (history_of s n D) stands.pins rep
