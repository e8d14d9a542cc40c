-- What deeds behind a list lead to, whether or not they need others, and the right entries that did them.
use Rattle.std.proofs.Common.{◌≡◌, ℕ, List, [], ◌∷◌, ◌++◌, Option, refl, sym, ap, subst, ◌∙◌, append_assoc}
use Rattle.std.specs.List.{cons_option}
use Rattle.nob_ids.specs.declared.limits.Limits.{Limits}
use Rattle.nob_model_types.specs.declared.event.Event.{Event}
use Rattle.nob_model_types.specs.declared.entry.Entry.{Entry}
use Rattle.nob_model_types.specs.declared.deed.Deed.{Deed}
use Rattle.nob_model_types.specs.Deeds.{deeds}
use Rattle.nob_model_history.specs.Histories.{history_of}
use Rattle.nob_model.specs.Right.{right_after}
use Rattle.nob_model_lives.proofs.Leads as alone
use Rattle.nob_model.specs.Lists.{AreRight, AreRightDeeds}

-- some deeds behind a list lead to what something holds of
abbrev pub Leads : (List Deed → Type 0) → List Deed → Type 0
Leads P D = (B : List Deed) × P (B ++ D)

-- none, where it holds already
pub stays : (P : List Deed → Type 0) (D : List Deed) → P D → Leads P D
stays P D its = ([], its)

-- one deed
pub leads_by : (P : List Deed → Type 0) (deed : Deed) (D : List Deed) → P (deed ∷ D) → Leads P D
leads_by P deed D its = (deed ∷ [], its)

-- some deeds, and then others
pub leads_on : (P Q : List Deed → Type 0) (D : List Deed) → Leads P D → ((E : List Deed) → P E → Leads Q E) → Leads Q D
leads_on P Q D first further =
    let next = further (first.0 ++ D) first.1 in
    (next.0 ++ first.0, subst Q (sym (append_assoc next.0 first.0 D)) next.1)

-- to what something weaker holds of
pub leads_as : (P Q : List Deed → Type 0) (D : List Deed) → ((E : List Deed) → P E → Q E) → Leads P D → Leads Q D
leads_as P Q D step lead = (lead.0, step (lead.0 ++ D) lead.1)

-- right deeds behind what right entries did are what right entries behind these did
pub entries_behind : (s n : ℕ) (limits : Limits) (L : List Entry) → AreRight s n limits L → (B : List Deed) → AreRightDeeds s n limits (B ++ deeds L) → (bridge : List Entry) × AreRight s n limits (bridge ++ L) × (deeds (bridge ++ L) ≡ B ++ deeds L)
entries_behind s n limits L right [] are = ([], right, refl)
entries_behind s n limits L right (deed ∷ B) are =
    let before = entries_behind s n limits L right B are.1 in
    let event : Event = are.0.0 in
    let entry : Entry = record { space = s; event = event; result = right_after s n limits (history_of s n (B ++ deeds L)) event } in (
      entry ∷ before.0,
      (ap (λ (D : List Deed). right_after s n limits (history_of s n D) event) (sym before.2), before.1),
      ap (λ (found : Option Deed). cons_option found (deeds (before.0 ++ L))) are.0.1 ∙ ap (λ (D : List Deed). deed ∷ D) before.2,
    )

-- what deeds lead to that need nobody else
pub led_alone : (P : List Deed → Type 0) (D : List Deed) → alone.Leads P D → Leads P D
led_alone P D lead = (lead.0, lead.2)
