-- What deeds behind a list lead to, where none of them needs anybody else, and the right entries that did them.
use Rattle.std.proofs.Common.{◌≡◌, ℕ, true, List, [], ◌∷◌, ◌++◌, Option, refl, sym, ap, subst, ◌∙◌, append_assoc}
use Rattle.std.specs.List.{AllByRecursion, cons_option}
use Rattle.nob_ids.specs.declared.limits.Limits.{Limits}
use Rattle.nob_model_types.specs.declared.event.Event.{Event}
use Rattle.nob_model_types.specs.declared.entry.Entry.{Entry}
use Rattle.nob_model_types.specs.declared.deed.Deed.{Deed}
use Rattle.nob_model_types.specs.Deeds.{deeds}
use Rattle.nob_model_history.specs.Histories.{history_of}
use Rattle.nob_model.specs.Right.{right_after}
use Rattle.nob_model.specs.Lists.{AreRight, AreRightDeeds}
use Rattle.nob_model_lives.specs.Alone.{needs_nobody, AreOfBridge}

-- none of these deeds needs anybody else
abbrev pub AreAlone : List Deed → Type 0
AreAlone B = AllByRecursion (λ (deed : Deed). needs_nobody deed ≡ true) B

-- some deeds behind a list, which need nobody else, lead to what something holds of
abbrev pub Leads : (List Deed → Type 0) → List Deed → Type 0
Leads P D = (B : List Deed) × AreAlone B × P (B ++ D)

-- none, where it holds already
pub stays : (P : List Deed → Type 0) (D : List Deed) → P D → Leads P D
stays P D its = ([], tt, its)

-- one deed
pub leads_by : (P : List Deed → Type 0) (deed : Deed) (D : List Deed) → needs_nobody deed ≡ true → P (deed ∷ D) → Leads P D
leads_by P deed D alone its = (deed ∷ [], (alone, tt), its)

both_alone : (B C : List Deed) → AreAlone B → AreAlone C → AreAlone (B ++ C)
both_alone [] C one two = two
both_alone (deed ∷ B) C one two = (one.0, both_alone B C one.1 two)

-- some deeds, and then others
pub leads_on : (P Q : List Deed → Type 0) (D : List Deed) → Leads P D → ((E : List Deed) → P E → Leads Q E) → Leads Q D
leads_on P Q D first further =
    let next = further (first.0 ++ D) first.2 in
    (next.0 ++ first.0, both_alone next.0 first.0 next.1 first.1, subst Q (sym (append_assoc next.0 first.0 D)) next.2)

-- to what something weaker holds of
pub leads_as : (P Q : List Deed → Type 0) (D : List Deed) → ((E : List Deed) → P E → Q E) → Leads P D → Leads Q D
leads_as P Q D step lead = (lead.0, lead.1, step (lead.0 ++ D) lead.2)

-- right deeds behind what right entries did, which need nobody else, are what entries of a bridge behind these did
pub entries_behind : (s n : ℕ) (limits : Limits) (L : List Entry) → AreRight s n limits L → (B : List Deed) → AreAlone B → AreRightDeeds s n limits (B ++ deeds L) → (bridge : List Entry) × AreOfBridge s bridge × AreRight s n limits (bridge ++ L) × (deeds (bridge ++ L) ≡ B ++ deeds L)
entries_behind s n limits L right [] alone are = ([], tt, right, refl)
entries_behind s n limits L right (deed ∷ B) alone are =
    let before = entries_behind s n limits L right B alone.1 are.1 in
    let event : Event = are.0.0 in
    let entry : Entry = record { space = s; event = event; result = right_after s n limits (history_of s n (B ++ deeds L)) event } in (
      entry ∷ before.0,
      (record { own = refl; deed = deed; did_it = are.0.1; alone = alone.0 }, before.1),
      (ap (λ (D : List Deed). right_after s n limits (history_of s n D) event) (sym before.3), before.2),
      ap (λ (found : Option Deed). cons_option found (deeds (before.0 ++ L))) are.0.1 ∙ ap (λ (D : List Deed). deed ∷ D) before.3,
    )
