-- The first job that is marked is the first that may start.
use Rattle.std.proofs.Common.{◌≡◌, ℕ, ◌<◌, ◌≤◌, ◌==◌, Bool, true, false, not, cond, List, [], ◌∷◌, find, Option, Some, None, inl, inr, refl, sym, ap, ◌∙◌, arith, true≢false, eqb-true}
use Rattle.std.proofs.lemmas.Bool.{and_parts, cases_lt, eq-eqb}
use Rattle.std.proofs.lemmas.Cmp.{nat_eq_equiv}
use Rattle.std.proofs.lemmas.Option.{none-some, same_Some}
use Rattle.std.specs.Map.{remove_entry}
use Rattle.std.specs.Option.{option_map}
use Rattle.nob_model_types.specs.declared.message.Message.{Message}
use Rattle.nob_model_work.specs.declared.work.Run.{Run}
use Rattle.nob_model_work.specs.Work.{without_first}
use Rattle.nob_model_acting.specs.Candidates.{target_of}
use Rattle.nob_slots.specs.Slots.{item_at, is_marked, is_number, IsFirstMarked, IsRising, NoneMarked}
use Rattle.nob_space_messages.specs.declared.lanes.Lane.{Lane}
use Rattle.nob_space_messages.specs.declared.links.Link.{Link}
use Rattle.nob_space_messages.specs.Jobs.{is_free_of}
use Rattle.nob_space_messages.specs.Lanes.{LaneList, lane_at, runs_in}
use Rattle.nob_space_messages.specs.InLine.{AreLines, AreLinked, IsLane, IsNext, is_head, is_head_of, is_in_line, is_place}
use Rattle.nob_space_messages.specs.Rows.{AreCounted, SameTargets, message_target, runs_with}
use Rattle.nob_space_messages.specs.Lines.{items_of}
use Rattle.nob_space_messages.specs.declared.entry.Entry.{Entry}
use Rattle.nob_space_messages.proofs.Counted.{running_runs}
use Rattle.nob_space_messages.proofs.Found.{find_first, find_none}
use Rattle.nob_space_messages.proofs.Written.{has_it, target_is}

module _ {targets befores behinds : ℕ → Option ℕ} {lanes : List (ℕ × Lane)} {marked : List ℕ} (are : AreLines targets befores behinds lanes marked) where
  -- a marked stamp has a job
  pub head_target : (at : ℕ) → is_marked marked at ≡ true → (t : ℕ) × (targets at ≡ Some t)
  head_target at on = elim (targets at) as (λ o. is_head lanes o at ≡ true → (t : ℕ) × (o ≡ Some t)) [ None ↦ λ e. absurd (true≢false (sym e)) | Some t ↦ λ e. (t, refl) ] (sym (are.head at) ∙ on)

  -- none of its target runs
  pub head_idle : (at t : ℕ) → is_marked marked at ≡ true → targets at ≡ Some t → runs_in (lane_at lanes t) ≡ 0
  head_idle at t on e =
      let is : is_head_of (lane_at lanes t) at ≡ true = sym (are.head at ∙ ap (λ o. is_head lanes o at) e) ∙ on in
      elim (lane_at lanes t) as (λ o. is_head_of o at ≡ true → runs_in o ≡ 0) [
        | None ↦ λ x. refl
        | Some lane ↦ λ x. eqb-true lane.runs 0 ((and_parts (lane.runs == 0) (is_place lane.first at) x).0)
      ] is

  first_head : (k t : ℕ) (lane : Lane) (o : Option ℕ) → is_in_line targets t k ≡ true → lane_at lanes t ≡ Some lane → lane.first ≡ o → IsNext (is_in_line targets t) 0 o → lane.runs ≡ 0 → (f : ℕ) × (f ≤ k) × (is_marked marked f ≡ true)
  first_head k t lane None on its first none idle = absurd (true≢false (sym on ∙ none k (omega arith)))
  first_head k t lane (Some f) on its first is idle =
      let low : f ≤ k = elim (cases_lt k f) as (λ _. f ≤ k) [ inl less ↦ absurd (true≢false (sym on ∙ is.2 k (omega arith) less)) | inr le ↦ le ] in
      let head : is_head_of (Some lane) f ≡ true = rw (first, eq-eqb lane.runs 0 idle) (nat_eq_equiv.refl f) in
      (f, low, are.head f ∙ ap (λ o. is_head lanes o f) (target_is t (targets f) is.1) ∙ ap (λ o. is_head_of o f) its ∙ head)

  lane_head : (k t : ℕ) (o : Option Lane) → is_in_line targets t k ≡ true → lane_at lanes t ≡ o → IsLane (is_in_line targets t) o → runs_in o ≡ 0 → (f : ℕ) × (f ≤ k) × (is_marked marked f ≡ true)
  lane_head k t None on its is idle = absurd (true≢false (sym on ∙ is k))
  lane_head k t (Some lane) on its is idle = first_head k t lane lane.first on its refl is.0 idle

  -- where no job of a target runs, its first one is marked, no later than any
  pub idle_head : (k t : ℕ) → targets k ≡ Some t → runs_in (lane_at lanes t) ≡ 0 → (f : ℕ) × (f ≤ k) × (is_marked marked f ≡ true)
  idle_head k t e idle = lane_head k t (lane_at lanes t) (has_it t (targets k) e) refl ((are.line t).ends) idle

-- what has a target has a message
pub message_there : (rows : List (ℕ × Entry)) (at t : ℕ) → message_target rows at ≡ Some t → (e : Entry) × (item_at rows at ≡ Some e) × (target_of e.message.item ≡ t)
message_there rows at t = elim (item_at rows at) as (λ o. option_map (λ (e : Entry). target_of e.message.item) o ≡ Some t → (e : Entry) × (o ≡ Some e) × (target_of e.message.item ≡ t)) [ None ↦ λ e. absurd (none-some t e) | Some e ↦ λ is. (e, refl, same_Some (target_of e.message.item) t is) ]

not_not : (b : Bool) → not (not b) ≡ b
not_not true = refl
not_not false = refl

module _ (rows : List (ℕ × Entry)) (rising : IsRising rows) (links : List (ℕ × Link)) (lanes : LaneList) {marked : List ℕ} (are : AreLinked links lanes.rows marked) (same : SameTargets links rows) (running : List Run) (counted : AreCounted lanes running) where
  -- a job is free where none of its target runs
  free_idle : (m : Message) → is_free_of running m ≡ (runs_in (lane_at lanes.rows (target_of m.item)) == 0)
  free_idle m =
      ap not (running_runs running (target_of m.item)) ∙ not_not (runs_with running (target_of m.item) == 0)
      ∙ ap (λ (k : ℕ). k == 0) (sym (counted (target_of m.item)))

  -- a marked job is free
  pub head_free : (at : ℕ) → is_marked marked at ≡ true → (e : Entry) × (item_at rows at ≡ Some e) × (is_free_of running e.message ≡ true)
  head_free at on =
      let some = head_target are at on in
      let entry = message_there rows at some.0 (sym (same at) ∙ some.1) in
      let idle : runs_in (lane_at lanes.rows (target_of entry.0.message.item)) ≡ 0 = ap (λ t. runs_in (lane_at lanes.rows t)) entry.2 ∙ head_idle are at some.0 on some.1 in
      (entry.0, entry.1, free_idle entry.0.message ∙ eq-eqb (runs_in (lane_at lanes.rows (target_of entry.0.message.item))) 0 idle)

  -- a free job has a marked one no later
  free_head : (k : ℕ) (e : Entry) → item_at rows k ≡ Some e → is_free_of running e.message ≡ true → (f : ℕ) × (f ≤ k) × (is_marked marked f ≡ true)
  free_head k e there free = idle_head are k (target_of e.message.item) (same k ∙ ap (option_map (λ (n : Entry). target_of n.message.item)) there) (eqb-true (runs_in (lane_at lanes.rows (target_of e.message.item))) 0 (sym (free_idle e.message) ∙ free))

  not_free : (k : ℕ) (e : Entry) → item_at rows k ≡ Some e → ((f : ℕ) → f ≤ k → is_marked marked f ≡ false) → is_free_of running e.message ≡ false
  not_free k e there none = elim (is_free_of running e.message) as (λ b. is_free_of running e.message ≡ b → b ≡ false) [
    | true ↦ λ free. let head = free_head k e there free in absurd (true≢false (sym head.2 ∙ none head.0 head.1))
    | false ↦ λ free. refl
  ] refl

  -- the first marked job is the first that is free
  pub first_marked : (at : ℕ) (e : Entry) → IsFirstMarked marked 0 at → item_at rows at ≡ Some e → (find (is_free_of running) (items_of rows) ≡ Some e.message) × (without_first (is_free_of running) (items_of rows) ≡ items_of (remove_entry (is_number at) rows))
  first_marked at e first found =
      let head = head_free at first.1 in
      let is : head.0 ≡ e = same_Some head.0 e (sym head.1 ∙ found) in
      find_first (is_free_of running) at e rows rising found (ap (λ (x : Entry). is_free_of running x.message) (sym is) ∙ head.2) (λ s n there less. not_free s n there (λ f le. first.2 f (omega arith) (omega (arith, le, less))))

  -- where none is marked none is free
  pub none_marked : NoneMarked marked 0 → (find (is_free_of running) (items_of rows) ≡ None) × (without_first (is_free_of running) (items_of rows) ≡ items_of rows)
  none_marked none = find_none (is_free_of running) rows rising (λ s e there. not_free s e there (λ f le. none f (omega arith)))
