-- A job is taken out of the line of its target.
use Rattle.std.proofs.Common.{◌≡◌, ℕ, ◌+◌, ◌==◌, true, false, List, Option, Some, None, IsSome, is_some, inl, inr, refl, sym, ap, subst, ◌∙◌, arith, if◌then◌else◌, true≢false}
use Rattle.std.proofs.lemmas.Bool.{cases_eq, cases_lt, ne_eqb, eq-eqb, and_right}
use Rattle.std.specs.Map.{remove_entry}
use Rattle.std.specs.Option.{option_map}
use Rattle.nob_slots.specs.Slots.{item_at, is_marked, is_number, IsRising, PutsMark}
use Rattle.nob_space_messages.specs.declared.lanes.Lane.{Lane}
use Rattle.nob_space_messages.specs.declared.links.Link.{Link}
use Rattle.nob_space_messages.specs.Lanes.{PutsLane, if_used, lane_at}
use Rattle.nob_space_messages.specs.InLine.{AreLines, AreLinked, IsBefore, IsLane, IsLine, IsNext, MarksFirst, before_at, before_of, behind_at, behind_of, has_target, is_head, is_head_of, is_in_line, is_place, lane_taken, target_at, with_at, with_if}
use Rattle.nob_queues.proofs.Found.{removed_absent, removed_by}
use Rattle.nob_space_messages.proofs.Joined.{at_here, at_other, has_link, one_target}
use Rattle.nob_space_messages.proofs.Taken.{is_place_of, line_taken}
use Rattle.nob_space_messages.proofs.Written.{has_it, target_is, used_kept, written}

module _ {targets befores behinds : ℕ → Option ℕ} (target before behind : ℕ → Option ℕ) {lanes : List (ℕ × Lane)} {marked : List ℕ} (are : AreLines targets befores behinds lanes marked) (place t : ℕ) (lane : Lane) (there : targets place ≡ Some t) (its : lane_at lanes t ≡ Some lane)
    (target_is_now : (k : ℕ) → target k ≡ with_at targets place None k)
    (before_is : (k : ℕ) → (place ≡ k → ⊥) → before k ≡ with_if befores (behinds place) (befores place) k)
    (behind_is : (k : ℕ) → (place ≡ k → ⊥) → behind k ≡ with_if behinds (befores place) (behinds place) k) where
  line_was : IsLine (is_in_line targets t) befores behinds (Some lane)
  line_was = subst (λ w. IsLine (is_in_line targets t) befores behinds w) its (are.line t)

  in_line : is_in_line targets t place ≡ true
  in_line = has_it t (targets place) there

  none_here : target place ≡ None
  none_here = target_is_now place ∙ at_here targets place None

  new_other : (k : ℕ) → (place ≡ k → ⊥) → target k ≡ targets k
  new_other k ne = target_is_now k ∙ at_other targets place None k ne

  apart : (u k : ℕ) → (t ≡ u → ⊥) → is_in_line targets u k ≡ true → place ≡ k → ⊥
  apart u k ne on e = one_target t u (targets k) ne (ap (λ (j : ℕ). is_in_line targets t j) (sym e) ∙ in_line) on

  -- the line of its target
  pub line_left : IsLine (is_in_line target t) before behind (Some (lane_taken lane (befores place) (behinds place)))
  line_left = line_taken line_was place in_line (ap (has_target t) none_here) (λ k ne. ap (has_target t) (new_other k ne)) before_is behind_is

  -- its first job is there
  pub first_left : (s : ℕ) → (lane_taken lane (befores place) (behinds place)).first ≡ Some s → target s ≡ Some t
  first_left s e =
      let first : IsNext (is_in_line target t) 0 (Some s) = subst (λ o. IsNext (is_in_line target t) 0 o) e line_left.ends.0 in
      target_is t (target s) first.1

  agree : (u k : ℕ) → (t ≡ u → ⊥) → is_in_line target u k ≡ is_in_line targets u k
  agree u k ne = elim (cases_eq place k) as (λ _. is_in_line target u k ≡ is_in_line targets u k) [
    | inl e ↦ ap (λ (j : ℕ). has_target u (target j)) (sym e) ∙ ap (has_target u) none_here ∙ sym (ap (λ (j : ℕ). has_target u (targets j)) (sym e) ∙ ap (has_target u) there ∙ ne_eqb u t (λ f. ne (sym f)))
    | inr other ↦ ap (has_target u) (new_other k other)
  ]

  before_same : (u k : ℕ) → (t ≡ u → ⊥) → is_in_line targets u k ≡ true → before k ≡ befores k
  before_same u k ne on =
      before_is k (apart u k ne on)
      ∙ elim (is_place (behinds place) k) as (λ b. is_place (behinds place) k ≡ b → (if b then befores place else befores k) ≡ befores k) [
        | true ↦ λ here.
            let next : IsNext (is_in_line targets t) (place + 1) (Some k) = subst (λ o. IsNext (is_in_line targets t) (place + 1) o) (is_place_of (behinds place) k here) (line_was.behind place in_line) in
            absurd (one_target t u (targets k) ne next.1 on)
        | false ↦ λ _. refl
      ] refl

  behind_same : (u k : ℕ) → (t ≡ u → ⊥) → is_in_line targets u k ≡ true → behind k ≡ behinds k
  behind_same u k ne on =
      behind_is k (apart u k ne on)
      ∙ elim (is_place (befores place) k) as (λ b. is_place (befores place) k ≡ b → (if b then behinds place else behinds k) ≡ behinds k) [
        | true ↦ λ here.
            let last : IsBefore (is_in_line targets t) place (Some k) = subst (λ o. IsBefore (is_in_line targets t) place o) (is_place_of (befores place) k here) (line_was.before place in_line) in
            absurd (one_target t u (targets k) ne last.1 on)
        | false ↦ λ _. refl
      ] refl

  -- the first of the lane is another, or the one that is taken
  first_off : (o : Option ℕ) (k : ℕ) → IsBefore (is_in_line targets t) place o → (place ≡ k → ⊥) → is_place (if is_some o then lane.first else behinds place) k ≡ false → is_place lane.first k ≡ false
  first_off (Some p) k last ne off = off
  first_off None k none ne off = elim (is_place lane.first k) as (λ b. is_place lane.first k ≡ b → b ≡ false) [
    | true ↦ λ here.
        let first : IsNext (is_in_line targets t) 0 (Some k) = subst (λ o. IsNext (is_in_line targets t) 0 o) (is_place_of lane.first k here) line_was.ends.0 in
        absurd (elim (cases_lt k place) as (λ _. ⊥) [
          | inl less ↦ true≢false (sym first.1 ∙ none k less)
          | inr le ↦ true≢false (sym in_line ∙ first.2 place (omega arith) (omega (arith, le, ne)))
        ])
    | false ↦ λ _. refl
  ] refl

  module _ (mid : List ℕ) (unmarked : PutsMark marked mid place false) where
    mid_other : (k : ℕ) → (place ≡ k → ⊥) → is_marked mid k ≡ is_marked marked k
    mid_other k ne = unmarked k ∙ ap (λ b. if b then false else is_marked marked k) (ne_eqb place k ne)

    others : (k : ℕ) → is_in_line target t k ≡ false → is_marked mid k ≡ is_head lanes (target k) k
    others k off = elim (cases_eq place k) as (λ _. is_marked mid k ≡ is_head lanes (target k) k) [
      | inl e ↦ unmarked k ∙ ap (λ b. if b then false else is_marked marked k) (eq-eqb place k e) ∙ sym (ap (λ w. is_head lanes w k) (ap target (sym e) ∙ none_here))
      | inr ne ↦ mid_other k ne ∙ are.head k ∙ ap (λ w. is_head lanes w k) (sym (new_other k ne))
    ]

    ours : (k : ℕ) → is_in_line target t k ≡ true → is_place (lane_taken lane (befores place) (behinds place)).first k ≡ false → is_marked mid k ≡ false
    ours k on off =
        let ne : place ≡ k → ⊥ = λ e. true≢false (sym on ∙ ap (λ (j : ℕ). is_in_line target t j) (sym e) ∙ ap (has_target t) none_here) in
        let none : is_head_of (Some lane) k ≡ false = and_right (lane.runs == 0) (is_place lane.first k) (first_off (befores place) k (line_was.before place in_line) ne off) in
        mid_other k ne ∙ are.head k ∙ ap (λ w. is_head lanes w k) (sym (new_other k ne) ∙ target_is t (target k) on) ∙ ap (λ l. is_head_of l k) its ∙ none

    pub left : (new : List (ℕ × Lane)) (marks : List ℕ) → PutsLane lanes new t (if_used (lane_taken lane (befores place) (behinds place))) → MarksFirst mid marks (lane_taken lane (befores place) (behinds place)) → AreLines target before behind new marks
    left new marks puts marking = written target before behind are t new mid marks (lane_taken lane (befores place) (behinds place)) (if_used (lane_taken lane (befores place) (behinds place))) agree before_same behind_same line_left (used_kept (lane_taken lane (befores place) (behinds place))) puts marking others ours

-- ---- the same, of links
module _ (links taken one two : List (ℕ × Link)) (place : ℕ) (link : Link) (was : item_at links place ≡ Some link) (rising : IsRising links) (is : taken ≡ remove_entry (is_number place) links) where
  there : target_at links place ≡ Some link.target
  there = ap (option_map (λ (l : Link). l.target)) was

  target_taken : (k : ℕ) → target_at taken k ≡ with_at (target_at links) place None k
  target_taken k = ap (λ (rows : List (ℕ × Link)). target_at rows k) is ∙ removed_by (option_map (λ (l : Link). l.target)) place links k rising

  module _ {lanes : List (ℕ × Lane)} {marked : List ℕ} (are : AreLinked links lanes marked) where
    line_here : IsLine (is_in_line (target_at links) link.target) (before_at links) (behind_at links) (lane_at lanes link.target)
    line_here = are.line link.target

    in_its : is_in_line (target_at links) link.target place ≡ true
    in_its = has_it link.target (target_at links place) there

    -- its target has a lane
    pub lane_there : IsSome (lane_at lanes link.target)
    lane_there = lane_some (lane_at lanes link.target) line_here.ends
      where
        lane_some : (o : Option Lane) → IsLane (is_in_line (target_at links) link.target) o → IsSome o
        lane_some None none = absurd (true≢false (sym in_its ∙ none place))
        lane_some (Some lane) is = refl

    still_there : (s : ℕ) → (place ≡ s → ⊥) → is_in_line (target_at links) link.target s ≡ true → IsSome (item_at taken s)
    still_there s ne on = has_link taken s link.target (target_taken s ∙ at_other (target_at links) place None s ne ∙ target_is link.target (target_at links s) on)

    pub before_there : (s : ℕ) → link.before ≡ Some s → IsSome (item_at taken s)
    before_there s e =
        let last : IsBefore (is_in_line (target_at links) link.target) place (Some s) = subst (λ o. IsBefore (is_in_line (target_at links) link.target) place o) (ap before_of was ∙ e) (line_here.before place in_its) in
        let less = last.0 in
        still_there s (λ f. omega (arith, less, f)) last.1

    pub behind_there : (s : ℕ) → link.behind ≡ Some s → IsSome (item_at taken s)
    behind_there s e =
        let next : IsNext (is_in_line (target_at links) link.target) (place + 1) (Some s) = subst (λ o. IsNext (is_in_line (target_at links) link.target) (place + 1) o) (ap behind_of was ∙ e) (line_here.behind place in_its) in
        let more = next.0 in
        still_there s (λ f. omega (arith, more, f)) next.1

    module _ (one_targets : (k : ℕ) → target_at one k ≡ target_at taken k) (one_befores : (k : ℕ) → before_at one k ≡ before_at taken k) (one_behinds : (k : ℕ) → behind_at one k ≡ with_if (behind_at taken) link.before link.behind k)
        (two_targets : (k : ℕ) → target_at two k ≡ target_at one k) (two_befores : (k : ℕ) → before_at two k ≡ with_if (before_at one) link.behind link.before k) (two_behinds : (k : ℕ) → behind_at two k ≡ behind_at one k) where
      pub target_left : (k : ℕ) → target_at two k ≡ with_at (target_at links) place None k
      target_left k = two_targets k ∙ one_targets k ∙ target_taken k

      before_taken : (k : ℕ) → (place ≡ k → ⊥) → before_at taken k ≡ before_at links k
      before_taken k ne = ap (λ (rows : List (ℕ × Link)). before_at rows k) is ∙ removed_by before_of place links k rising ∙ at_other (before_at links) place None k ne

      behind_taken : (k : ℕ) → (place ≡ k → ⊥) → behind_at taken k ≡ behind_at links k
      behind_taken k ne = ap (λ (rows : List (ℕ × Link)). behind_at rows k) is ∙ removed_by behind_of place links k rising ∙ at_other (behind_at links) place None k ne

      its_before : link.before ≡ before_at links place
      its_before = sym (ap before_of was)

      its_behind : link.behind ≡ behind_at links place
      its_behind = sym (ap behind_of was)

      before_left : (k : ℕ) → (place ≡ k → ⊥) → before_at two k ≡ with_if (before_at links) (behind_at links place) (before_at links place) k
      before_left k ne =
          two_befores k ∙ ap (λ (o : Option ℕ). if is_place link.behind k then link.before else o) (one_befores k ∙ before_taken k ne)
          ∙ ap (λ (o : Option ℕ). if is_place o k then link.before else before_at links k) its_behind ∙ ap (λ (o : Option ℕ). if is_place (behind_at links place) k then o else before_at links k) its_before

      behind_left : (k : ℕ) → (place ≡ k → ⊥) → behind_at two k ≡ with_if (behind_at links) (before_at links place) (behind_at links place) k
      behind_left k ne =
          two_behinds k ∙ one_behinds k ∙ ap (λ (o : Option ℕ). if is_place link.before k then link.behind else o) (behind_taken k ne)
          ∙ ap (λ (o : Option ℕ). if is_place o k then link.behind else behind_at links k) its_before ∙ ap (λ (o : Option ℕ). if is_place (before_at links place) k then o else behind_at links k) its_behind

      module _ (lane : Lane) (its : lane_at lanes link.target ≡ Some lane) (new_lane : Lane) (is_lane : new_lane ≡ lane_taken lane link.before link.behind) where
        same_lane : new_lane ≡ lane_taken lane (before_at links place) (behind_at links place)
        same_lane = is_lane ∙ ap (λ (o : Option ℕ). lane_taken lane o link.behind) its_before ∙ ap (λ (o : Option ℕ). lane_taken lane (before_at links place) o) its_behind

        pub first_there : (s : ℕ) → new_lane.first ≡ Some s → IsSome (item_at two s)
        first_there s e = has_link two s link.target (first_left (target_at two) (before_at two) (behind_at two) are place link.target lane there its target_left before_left behind_left s (ap (λ (l : Lane). l.first) (sym same_lane) ∙ e))

        pub links_left : (new : List (ℕ × Lane)) (mid last marks : List ℕ) → PutsMark marked mid place false → last ≡ mid → PutsLane lanes new link.target (if_used new_lane) → MarksFirst last marks new_lane → AreLinked two new marks
        links_left new mid last marks unmarked same puts marking =
            left (target_at two) (before_at two) (behind_at two) are place link.target lane there its target_left before_left behind_left mid unmarked new marks
            (subst (λ (l : Lane). PutsLane lanes new link.target (if_used l)) same_lane puts)
            (subst (λ (l : Lane). MarksFirst mid marks l) same_lane (subst (λ (m : List ℕ). MarksFirst m marks new_lane) same marking))

-- where the targets are the same the links are there
pub some_link : (links other : List (ℕ × Link)) → ((k : ℕ) → target_at other k ≡ target_at links k) → (s : ℕ) → IsSome (item_at links s) → IsSome (item_at other s)
some_link links other same s some = elim (item_at links s) as (λ o. item_at links s ≡ o → IsSome o → IsSome (item_at other s)) [
  | None ↦ λ e none. absurd (true≢false (sym none))
  | Some l ↦ λ e _. has_link other s l.target (same s ∙ ap (option_map (λ (m : Link). m.target)) e)
] refl some

-- ---- nothing is taken where there is nothing
module _ (links taken : List (ℕ × Link)) (place : ℕ) (none : item_at links place ≡ None) (is : taken ≡ remove_entry (is_number place) links) where
  same_links : taken ≡ links
  same_links = is ∙ removed_absent place links none

  pub target_same : (k : ℕ) → target_at taken k ≡ with_at (target_at links) place None k
  target_same k = elim (cases_eq place k) as (λ _. target_at taken k ≡ with_at (target_at links) place None k) [
    | inl e ↦
        let nothing : target_at taken k ≡ None = ap (λ (rows : List (ℕ × Link)). target_at rows k) same_links ∙ ap (target_at links) (sym e) ∙ ap (option_map (λ (l : Link). l.target)) none in
        nothing ∙ sym (ap (with_at (target_at links) place None) (sym e) ∙ at_here (target_at links) place None)
    | inr ne ↦ ap (λ (rows : List (ℕ × Link)). target_at rows k) same_links ∙ sym (at_other (target_at links) place None k ne)
  ]

  pub links_same : {lanes : List (ℕ × Lane)} {marked : List ℕ} → AreLinked links lanes marked → (mid : List ℕ) → PutsMark marked mid place false → AreLinked taken lanes mid
  links_same {lanes} {marked} are mid unmarked = subst (λ (rows : List (ℕ × Link)). AreLinked rows lanes mid) (sym same_links) (record {
    line = are.line;
    head = λ k. unmarked k ∙ elim (cases_eq place k) as (λ _. (if is_number place k then false else is_marked marked k) ≡ is_head lanes (target_at links k) k) [
      | inl e ↦
          let nothing : target_at links k ≡ None = ap (target_at links) (sym e) ∙ ap (option_map (λ (l : Link). l.target)) none in
          ap (λ b. if b then false else is_marked marked k) (eq-eqb place k e) ∙ sym (ap (λ w. is_head lanes w k) nothing)
      | inr ne ↦ ap (λ b. if b then false else is_marked marked k) (ne_eqb place k ne) ∙ are.head k
    ];
  })
