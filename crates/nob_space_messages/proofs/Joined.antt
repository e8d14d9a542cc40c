-- A job is put behind the others of its target.
use Rattle.std.proofs.Common.{◌≡◌, ℕ, ◌≤◌, ◌==◌, Bool, true, false, List, [], ◌∷◌, ◌++◌, Option, Some, None, IsSome, is_some, inl, inr, refl, sym, ap, subst, ◌∙◌, arith, if◌then◌else◌, true≢false}
use Rattle.std.proofs.lemmas.Bool.{cases_eq, ne_eqb, and_right}
use Rattle.std.proofs.lemmas.Cmp.{nat_eq_equiv}
use Rattle.std.proofs.lemmas.Option.{none-some, same_Some}
use Rattle.std.specs.Option.{option_map}
use Rattle.nob_slots.specs.Slots.{item_at, is_marked, IsAbove}
use Rattle.nob_space_messages.specs.declared.lanes.Lane.{Lane}
use Rattle.nob_space_messages.specs.declared.links.Link.{Link}
use Rattle.nob_space_messages.specs.Lanes.{PutsLane, lane_at, last_of, or_no_jobs}
use Rattle.nob_space_messages.specs.InLine.{AreLines, AreLinked, IsLast, IsLine, IsNext, MarksFirst, before_at, before_of, behind_at, behind_of, first_or, has_target, is_head, is_head_of, is_in_line, is_place, lane_pushed, target_at, with_at, with_if}
use Rattle.nob_queues.proofs.Found.{is_above, none_over, pushed_by}
use Rattle.nob_space_messages.proofs.LinePushed.{last_on, line_pushed}
use Rattle.nob_space_messages.proofs.Written.{has_it, target_is, written}

-- ---- links and targets
pub no_link : (links : List (ℕ × Link)) (s : ℕ) → target_at links s ≡ None → item_at links s ≡ None
no_link links s = elim (item_at links s) as (λ o. option_map (λ (l : Link). l.target) o ≡ None → o ≡ None) [ None ↦ λ e. refl | Some l ↦ λ e. absurd (none-some l.target (sym e)) ]

pub has_link : (links : List (ℕ × Link)) (s t : ℕ) → target_at links s ≡ Some t → IsSome (item_at links s)
has_link links s t = elim (item_at links s) as (λ o. option_map (λ (l : Link). l.target) o ≡ Some t → IsSome o) [ None ↦ λ e. absurd (none-some t e) | Some l ↦ λ e. refl ]

module _ (values : ℕ → Option ℕ) (place : ℕ) (value : Option ℕ) where
  pub at_here : with_at values place value place ≡ value
  at_here = ap (λ b. if b then value else values place) (nat_eq_equiv.refl place)

  pub at_other : (k : ℕ) → (place ≡ k → ⊥) → with_at values place value k ≡ values k
  at_other k ne = ap (λ b. if b then value else values k) (ne_eqb place k ne)

pub or_empty : {line : ℕ → Bool} {befores behinds : ℕ → Option ℕ} (o : Option Lane) → IsLine line befores behinds o → IsLine line befores behinds (Some (or_no_jobs o))
or_empty None is = record { before = is.before; behind = is.behind; ends = (λ at le. is.ends at, λ some. absurd (true≢false (sym some))) }
or_empty (Some lane) is = is

head_off : (o : Option Lane) (k : ℕ) → is_place (or_no_jobs o).first k ≡ false → is_head_of o k ≡ false
head_off None k off = refl
head_off (Some lane) k off = and_right (lane.runs == 0) (is_place lane.first k) off

first_off : (o : Option ℕ) (place k : ℕ) → is_place (first_or o place) k ≡ false → is_place o k ≡ false
first_off None place k off = refl
first_off (Some f) place k off = off

-- no job has two targets
pub one_target : (t u : ℕ) (o : Option ℕ) → (t ≡ u → ⊥) → has_target t o ≡ true → has_target u o ≡ true → ⊥
one_target t u o ne on other = ne (same_Some t u (sym (target_is t o on) ∙ target_is u o other))

module _ {targets befores behinds : ℕ → Option ℕ} (target before behind : ℕ → Option ℕ) {lanes : List (ℕ × Lane)} {marked : List ℕ} (are : AreLines targets befores behinds lanes marked) (place t : ℕ) (lane : Lane) (its : lane ≡ or_no_jobs (lane_at lanes t))
    (high : (k : ℕ) → place ≤ k → targets k ≡ None)
    (target_is_now : (k : ℕ) → target k ≡ with_at targets place (Some t) k)
    (before_is : (k : ℕ) → before k ≡ with_at befores place (last_of lane) k)
    (behind_is : (k : ℕ) → behind k ≡ with_at (with_if behinds (last_of lane) (Some place)) place None k) where
  line_was : IsLine (is_in_line targets t) befores behinds (Some lane)
  line_was = subst (λ (l : Lane). IsLine (is_in_line targets t) befores behinds (Some l)) (sym its) (or_empty (lane_at lanes t) (are.line t))

  none_high : (u k : ℕ) → place ≤ k → is_in_line targets u k ≡ false
  none_high u k le = ap (has_target u) (high k le)

  new_here : target place ≡ Some t
  new_here = target_is_now place ∙ at_here targets place (Some t)

  new_other : (k : ℕ) → (place ≡ k → ⊥) → target k ≡ targets k
  new_other k ne = target_is_now k ∙ at_other targets place (Some t) k ne

  apart : (u k : ℕ) → is_in_line targets u k ≡ true → place ≡ k → ⊥
  apart u k on e = true≢false (sym on ∙ none_high u k (omega (arith, e)))

  -- the line of its target
  pub line_joined : IsLine (is_in_line target t) before behind (Some (lane_pushed lane place))
  line_joined = line_pushed line_was place (none_high t) (has_it t (target place) new_here) (λ k ne. ap (has_target t) (new_other k ne))
      (before_is place ∙ at_here befores place (last_of lane)) (λ k ne. before_is k ∙ at_other befores place (last_of lane) k ne)
      (behind_is place ∙ at_here (with_if behinds (last_of lane) (Some place)) place None) (λ k ne. behind_is k ∙ at_other (with_if behinds (last_of lane) (Some place)) place None k ne)

  -- its first job is there
  pub first_joined : (s : ℕ) → first_or lane.first place ≡ Some s → target s ≡ Some t
  first_joined s e =
      let first : IsNext (is_in_line target t) 0 (Some s) = subst (λ o. IsNext (is_in_line target t) 0 o) e line_joined.ends.0 in
      target_is t (target s) first.1

  agree : (u k : ℕ) → (t ≡ u → ⊥) → is_in_line target u k ≡ is_in_line targets u k
  agree u k ne = elim (cases_eq place k) as (λ _. is_in_line target u k ≡ is_in_line targets u k) [
    | inl e ↦ ap (λ (j : ℕ). has_target u (target j)) (sym e) ∙ ap (has_target u) new_here ∙ ne_eqb u t (λ f. ne (sym f)) ∙ sym (none_high u k (omega (arith, e)))
    | inr other ↦ ap (has_target u) (new_other k other)
  ]

  before_same : (u k : ℕ) → (t ≡ u → ⊥) → is_in_line targets u k ≡ true → before k ≡ befores k
  before_same u k ne on = before_is k ∙ at_other befores place (last_of lane) k (apart u k on)

  behind_same : (u k : ℕ) → (t ≡ u → ⊥) → is_in_line targets u k ≡ true → behind k ≡ behinds k
  behind_same u k ne on =
      behind_is k ∙ at_other (with_if behinds (last_of lane) (Some place)) place None k (apart u k on)
      ∙ elim (is_place (last_of lane) k) as (λ b. is_place (last_of lane) k ≡ b → (if b then Some place else behinds k) ≡ behinds k) [
        | true ↦ λ here.
            let parts = last_on (is_some lane.first) lane.last k here in
            let last : IsLast (is_in_line targets t) lane.last = line_was.ends.1 parts.0 in
            absurd (one_target t u (targets k) ne (ap (λ (j : ℕ). is_in_line targets t j) (sym parts.1) ∙ last.0) on)
        | false ↦ λ _. refl
      ] refl

  others : (k : ℕ) → is_in_line target t k ≡ false → is_marked marked k ≡ is_head lanes (target k) k
  others k off = are.head k ∙ ap (λ w. is_head lanes w k) (sym (new_other k (λ e. true≢false (sym (has_it t (target k) (ap target (sym e) ∙ new_here)) ∙ off))))

  ours : (k : ℕ) → is_in_line target t k ≡ true → is_place (first_or lane.first place) k ≡ false → is_marked marked k ≡ false
  ours k on off = elim (cases_eq place k) as (λ _. is_marked marked k ≡ false) [
    | inl e ↦ are.head k ∙ ap (λ w. is_head lanes w k) (high k (omega (arith, e)))
    | inr ne ↦
        let none : is_head_of (lane_at lanes t) k ≡ false = head_off (lane_at lanes t) k (ap (λ (l : Lane). is_place l.first k) (sym its) ∙ first_off lane.first place k off) in
        are.head k ∙ ap (λ w. is_head lanes w k) (sym (new_other k ne) ∙ target_is t (target k) on) ∙ none
  ]

  pub joined : (new : List (ℕ × Lane)) (marks : List ℕ) → PutsLane lanes new t (Some (lane_pushed lane place)) → MarksFirst marked marks (lane_pushed lane place) → AreLines target before behind new marks
  joined new marks puts marking = written target before behind are t new marked marks (lane_pushed lane place) (Some (lane_pushed lane place)) agree before_same behind_same line_joined (inl refl) puts marking others ours

-- ---- the same, of links
module _ (links tied pushed : List (ℕ × Link)) (place t : ℕ) (lane : Lane) (tail : Option ℕ) (is_tail : tail ≡ last_of lane) (above : IsAbove links place)
    (targets_same : (k : ℕ) → target_at tied k ≡ target_at links k)
    (befores_same : (k : ℕ) → before_at tied k ≡ before_at links k)
    (behinds_tied : (k : ℕ) → behind_at tied k ≡ with_if (behind_at links) tail (Some place) k) where
  none_above : (k : ℕ) → place ≤ k → target_at links k ≡ None
  none_above k le = ap (option_map (λ (l : Link). l.target)) (none_over place k links above le)

  pub tied_above : IsAbove tied place
  tied_above = is_above place tied (λ k le. no_link tied k (targets_same k ∙ none_above k le))

  module _ (is : pushed ≡ tied ++ (place, record { target = t; before = tail; behind = None }) ∷ []) where
    pub target_pushed : (k : ℕ) → target_at pushed k ≡ with_at (target_at links) place (Some t) k
    target_pushed k =
        ap (λ (rows : List (ℕ × Link)). target_at rows k) is ∙ pushed_by (option_map (λ (l : Link). l.target)) place (record { target = t; before = tail; behind = None }) tied k tied_above
        ∙ ap (λ (o : Option ℕ). if place == k then Some t else o) (targets_same k)

    before_pushed : (k : ℕ) → before_at pushed k ≡ with_at (before_at links) place (last_of lane) k
    before_pushed k =
        ap (λ (rows : List (ℕ × Link)). before_at rows k) is ∙ pushed_by before_of place (record { target = t; before = tail; behind = None }) tied k tied_above
        ∙ ap (λ (o : Option ℕ). if place == k then tail else o) (befores_same k) ∙ ap (λ (o : Option ℕ). if place == k then o else before_at links k) is_tail

    behind_pushed : (k : ℕ) → behind_at pushed k ≡ with_at (with_if (behind_at links) (last_of lane) (Some place)) place None k
    behind_pushed k =
        ap (λ (rows : List (ℕ × Link)). behind_at rows k) is ∙ pushed_by behind_of place (record { target = t; before = tail; behind = None }) tied k tied_above
        ∙ ap (λ (o : Option ℕ). if place == k then None else o) (behinds_tied k) ∙ ap (λ (o : Option ℕ). with_at (with_if (behind_at links) o (Some place)) place None k) is_tail

    module _ {lanes : List (ℕ × Lane)} {marked : List ℕ} (are : AreLinked links lanes marked) (its : lane ≡ or_no_jobs (lane_at lanes t)) (first : Option ℕ) (is_first : first ≡ first_or lane.first place) where
      pub first_there : (s : ℕ) → first ≡ Some s → IsSome (item_at pushed s)
      first_there s e = has_link pushed s t (first_joined (target_at pushed) (before_at pushed) (behind_at pushed) are place t lane its none_above target_pushed before_pushed behind_pushed s (sym is_first ∙ e))

      pub links_joined : (new : List (ℕ × Lane)) (mid marks : List ℕ) → mid ≡ marked → PutsLane lanes new t (Some (record { runs = lane.runs; first = first; last = place })) → MarksFirst mid marks (record { runs = lane.runs; first = first; last = place }) → AreLinked pushed new marks
      links_joined new mid marks same puts marking =
          joined (target_at pushed) (before_at pushed) (behind_at pushed) are place t lane its none_above target_pushed before_pushed behind_pushed new marks
          (subst (λ (o : Option ℕ). PutsLane lanes new t (Some (record { runs = lane.runs; first = o; last = place }))) is_first puts)
          (subst (λ (o : Option ℕ). MarksFirst marked marks (record { runs = lane.runs; first = o; last = place })) is_first (subst (λ (m : List ℕ). MarksFirst m marks (record { runs = lane.runs; first = first; last = place })) same marking))
