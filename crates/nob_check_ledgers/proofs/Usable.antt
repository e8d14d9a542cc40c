-- What a deed makes usable, and that all else outstanding keeps its loans.
use Rattle.std.proofs.Common.{◌≡◌, ◌&&◌, ◌||◌, not, ℕ, ◌+◌, Bool, true, false, List, [], ◌∷◌, Option, Some, None, if◌then◌else◌, filter, refl, sym, ap, subst, true≢false, ◌∙◌}
use Rattle.std.specs.Prelude.{◌==◌}
use Rattle.std.specs.List.{list_any}
use Rattle.std.proofs.lemmas.Bool.{and_parts, and_from}
use Rattle.nob_ids.specs.Names.{is_same}
use Rattle.nob_ids.specs.declared.wire_rep.WireRep.{WireRep}
use Rattle.nob_item.specs.declared.item.Item.{Item}
use Rattle.nob_item.specs.declared.item.Item.TheVariants as items
use Rattle.nob_model_types.specs.declared.deed.Deed.{Deed}
use Rattle.nob_model_types.specs.declared.deed.Deed.TheVariants.{Act, Clean, Closing, Open}
use Rattle.nob_model_types.specs.declared.turns.OwnerAnswer.TheVariants as said
use Rattle.nob_model_types.specs.declared.turns.Turns.{Turns}
use Rattle.nob_model_types.specs.Sessions.{closed, item_at}
use Rattle.nob_model_types.specs.Turns.{no_turns, turns, turns_after, is_granted, is_usable, is_own, names, carries, wants_dirty, with_dirty, with_answer, with_clean}
use Rattle.nob_model_history.proofs.Turning.{same_ref}
use Rattle.nob_check_ledgers.specs.Making.{can_lend, named_in, named_by, makes_usable}

neither : (a b : Bool) → (a || b) ≡ false → (a ≡ false) × (b ≡ false)
neither true b h = absurd (true≢false h)
neither false b h = (refl, h)

and_true : (b : Bool) → (b && true) ≡ b
and_true true = refl
and_true false = refl

no_granted : (a b : Bool) → (a && b && false) ≡ true → false ≡ true
no_granted true true h = h
no_granted true false h = h
no_granted false b h = h

either_way : (a b : Bool) (P : Type 0) → (a || b) ≡ true → (a ≡ true → P) → (b ≡ true → P) → P
either_way true b P h left right = left refl
either_way false b P h left right = right h

or_second : (a b : Bool) → b ≡ true → (a || b) ≡ true
or_second true b h = refl
or_second false b h = h

not_second : (a b : Bool) → not (a || b) ≡ true → not b ≡ true
not_second true b h = absurd (true≢false (sym h))
not_second false b h = h

-- what is passed over by a test that fails is as it was
passed_over : (test wants : Bool) (P : Turns → Type 0) (after before : Turns) → test ≡ false → P (if test && wants then after else before) → P before
passed_over true wants P after before fails holds = absurd (true≢false fails)
passed_over false wants P after before fails holds = holds

-- what an item doesn't name isn't granted by it
pub granted_before : (s n p : ℕ) (rep : WireRep) (item : Option Item) (D : List Deed) (before : Turns) → list_any (is_same rep) (named_in p item) ≡ false → is_granted (turns_after s n p rep item D before) ≡ true → is_granted before ≡ true
granted_before s n p rep None D before none granted = granted
granted_before s n p rep (Some (items.Call call target method value)) D before none granted = passed_over (carries rep (items.Call call target method value)) (wants_dirty s n rep D before) (λ t. is_granted t ≡ true) (with_dirty before) before none granted
granted_before s n p rep (Some (items.Reply call status value)) D before none granted = passed_over (carries rep (items.Reply call status value)) (wants_dirty s n rep D before) (λ t. is_granted t ≡ true) (with_dirty before) before none granted
granted_before s n p rep (Some (items.Settle item)) D before none granted = granted
granted_before s n p rep (Some (items.Dirty index)) D before none granted = granted
granted_before s n p rep (Some (items.DirtyOk index)) D before none granted = passed_over (names rep p index) true (λ t. is_granted t ≡ true) (with_answer said.Granted before) before (neither (names rep p index) false none).0 (subst (λ b. is_granted (if b then with_answer said.Granted before else before) ≡ true) (sym (and_true (names rep p index))) granted)
granted_before s n p rep (Some (items.DirtyNo index)) D before none granted = elim (names rep p index) as (λ b. is_granted (if b then with_answer said.Refused before else before) ≡ true → is_granted before ≡ true) [
  | true ↦ λ h. absurd (true≢false (sym (no_granted (before.asks) (before.answers + 1 == before.dirties) h)))
  | false ↦ λ h. h
] granted
granted_before s n p rep (Some (items.Clean index)) D before none granted = granted

-- what a deed doesn't name isn't usable by it
usable_before : (s n : ℕ) (rep : WireRep) (deed : Deed) (D : List Deed) → list_any (is_same rep) (named_by deed D) ≡ false → is_usable s n rep (deed ∷ D) ≡ true → is_usable s n rep D ≡ true
usable_before s n rep (Act p k) D none usable =
    let parts = and_parts (is_granted (turns s n rep (Act p k ∷ D))) (not (closed rep.owner D)) usable in
    and_from (is_granted (turns s n rep D)) (not (closed rep.owner D)) (granted_before s n p rep (item_at p k D) D (turns s n rep D) none parts.0) parts.1
usable_before s n rep (Clean other) D none usable = elim (is_same rep other) as (λ b. (is_granted (if b then with_clean (turns s n rep D) else turns s n rep D) && not (closed rep.owner D)) ≡ true → is_usable s n rep D ≡ true) [
  | true ↦ λ h. absurd (true≢false (sym h))
  | false ↦ λ h. h
] usable
usable_before s n rep (Closing q reason cause) D none usable =
    let parts = and_parts (is_granted (turns s n rep D)) (not (q == rep.owner || closed rep.owner D)) usable in
    and_from (is_granted (turns s n rep D)) (not (closed rep.owner D)) parts.0 (not_second (q == rep.owner) (closed rep.owner D) parts.1)
usable_before s n rep (Open q k) D none usable = elim (q == rep.owner) as (λ b. (is_granted (if b then no_turns else turns s n rep D) && not (if b then false else closed rep.owner D)) ≡ true → is_usable s n rep D ≡ true) [
  | true ↦ λ h. absurd (true≢false (sym h))
  | false ↦ λ h. h
] usable
usable_before s n rep (_) D none usable = usable

-- a reference that a deed names, where the deed makes none usable
named_lent : (s n : ℕ) (rep : WireRep) (deed : Deed) (D : List Deed) (names : List WireRep) → list_any (can_lend s n (deed ∷ D)) (filter (λ rep. not (can_lend s n D rep)) names) ≡ false → list_any (is_same rep) names ≡ true → can_lend s n (deed ∷ D) rep ≡ true → can_lend s n D rep ≡ true
named_lent s n rep deed D [] none some after = absurd (true≢false (sym some))
named_lent s n rep deed D (x ∷ names) none some after = elim (can_lend s n D x) as (λ b. can_lend s n D x ≡ b → list_any (can_lend s n (deed ∷ D)) (if not b then x ∷ filter (λ rep. not (can_lend s n D rep)) names else filter (λ rep. not (can_lend s n D rep)) names) ≡ false → can_lend s n D rep ≡ true) [
  | true ↦ λ e h. either_way (is_same rep x) (list_any (is_same rep) names) _ some (λ here. ap (can_lend s n D) (same_ref rep x here) ∙ e) (λ rest. named_lent s n rep deed D names h rest after)
  | false ↦ λ e h.
      let parts = neither (can_lend s n (deed ∷ D) x) (list_any (can_lend s n (deed ∷ D)) (filter (λ rep. not (can_lend s n D rep)) names)) h in
      either_way (is_same rep x) (list_any (is_same rep) names) _ some (λ here. absurd (true≢false (sym after ∙ ap (can_lend s n (deed ∷ D)) (same_ref rep x here) ∙ parts.0))) (λ rest. named_lent s n rep deed D names parts.1 rest after)
] refl none

-- where a deed makes none usable, what can be lent after it could be before
pub lent_before : (s n : ℕ) (rep : WireRep) (deed : Deed) (D : List Deed) → makes_usable s n deed D ≡ false → can_lend s n (deed ∷ D) rep ≡ true → can_lend s n D rep ≡ true
lent_before s n rep deed D none after = elim (list_any (is_same rep) (named_by deed D)) as (λ b. list_any (is_same rep) (named_by deed D) ≡ b → can_lend s n D rep ≡ true) [
  | true ↦ λ some. named_lent s n rep deed D (named_by deed D) none some after
  | false ↦ λ unnamed. either_way (is_own s rep) (is_usable s n rep (deed ∷ D)) _ after (λ own. ap (λ b. b || is_usable s n rep D) own) (λ usable. or_second (is_own s rep) (is_usable s n rep D) (usable_before s n rep deed D unnamed usable))
] refl
