-- One stamp more in line, behind all others.
use Rattle.std.proofs.Common.{◌≡◌, ℕ, ◌+◌, ◌<◌, ◌≤◌, Bool, true, false, Option, Some, None, is_some, ◌⊎◌, inl, inr, refl, sym, ap, subst, ◌∙◌, arith, if◌then◌else◌, eqb-true, true≢false}
use Rattle.std.proofs.lemmas.Bool.{cases_eq, cases_lt, eq-eqb}
use Rattle.nob_space_messages.specs.declared.lanes.Lane.{Lane}
use Rattle.nob_space_messages.specs.Lanes.{last_of}
use Rattle.nob_space_messages.specs.InLine.{IsBefore, IsLast, IsLine, IsNext, first_or, is_place, lane_pushed, with_if}

pub last_on : (some : Bool) (last at : ℕ) → is_place (if some then Some last else None) at ≡ true → (some ≡ true) × (last ≡ at)
last_on true last at on = (refl, eqb-true last at on)
last_on false last at on = absurd (true≢false (sym on))

last_off : (some : Bool) (last at : ℕ) → is_place (if some then Some last else None) at ≡ false → some ≡ true → last ≡ at → ⊥
last_off true last at off some same = true≢false (sym (eq-eqb last at same) ∙ off)
last_off false last at off some same = true≢false (sym some)

pub some_or : (o : Option ℕ) → (is_some o ≡ true) ⊎ (o ≡ None)
some_or None = inr refl
some_or (Some p) = inl refl

module _ {line new : ℕ → Bool} {befores behinds before behind : ℕ → Option ℕ} {lane : Lane} (is : IsLine line befores behinds (Some lane)) (place : ℕ) (high : (at : ℕ) → place ≤ at → line at ≡ false)
    (here : new place ≡ true) (same : (at : ℕ) → (place ≡ at → ⊥) → new at ≡ line at)
    (before_here : before place ≡ last_of lane) (before_same : (at : ℕ) → (place ≡ at → ⊥) → before at ≡ befores at)
    (behind_here : behind place ≡ None) (behind_same : (at : ℕ) → (place ≡ at → ⊥) → behind at ≡ with_if behinds (last_of lane) (Some place) at) where
  low : (at : ℕ) → line at ≡ true → at < place
  low at t = elim (cases_lt at place) as (λ _. at < place) [ inl less ↦ less | inr le ↦ absurd (true≢false (sym t ∙ high at le)) ]

  next_some : (from n : ℕ) → IsNext line from (Some n) → IsNext new from (Some n)
  next_some from n next = let under = low n next.1 in (next.0, same n (λ e. omega (arith, under, e)) ∙ next.1, λ at le less. same at (λ e. omega (arith, less, under, e)) ∙ next.2 at le less)

  before_kept : (to : ℕ) (o : Option ℕ) → to ≤ place → IsBefore line to o → IsBefore new to o
  before_kept to None under none = λ at less. same at (λ e. omega (arith, under, less, e)) ∙ none at less
  before_kept to (Some p) under last = (last.0, same p (λ e. let less = last.0 in omega (arith, under, less, e)) ∙ last.1, λ at more less. same at (λ e. omega (arith, under, less, e)) ∙ last.2 at more less)

  last_next : (at : ℕ) → line at ≡ true → is_place (last_of lane) at ≡ true → IsNext new (at + 1) (Some place)
  last_next at t on =
      let parts = last_on (is_some lane.first) lane.last at on in
      let last : IsLast line lane.last = is.ends.1 parts.0 in
      let less : at < place = low at t in
      (omega (arith, less), here, λ k le under. same k (λ e. omega (arith, under, e)) ∙ last.1 k (let e = parts.1 in omega (arith, le, e)))

  next_kept : (at : ℕ) (o : Option ℕ) → line at ≡ true → is_place (last_of lane) at ≡ false → IsNext line (at + 1) o → IsNext new (at + 1) o
  next_kept at (Some n) t off next = next_some (at + 1) n next
  next_kept at None t off none = absurd (elim (some_or lane.first) as (λ _. ⊥) [
    | inl some ↦
        let last : IsLast line lane.last = is.ends.1 some in
        let apart : lane.last ≡ at → ⊥ = last_off (is_some lane.first) lane.last at off some in
        elim (cases_lt lane.last at) as (λ _. ⊥) [
          | inl less ↦ true≢false (sym t ∙ last.1 at less)
          | inr le ↦ true≢false (sym last.0 ∙ none lane.last (omega (arith, le, apart)))
        ]
    | inr nothing ↦
        let first : IsNext line 0 None = subst (λ o. IsNext line 0 o) nothing is.ends.0 in
        true≢false (sym t ∙ first at (omega arith))
  ])

  pushed_behind : (at : ℕ) → new at ≡ true → IsNext new (at + 1) (behind at)
  pushed_behind at t = elim (cases_eq place at) as (λ _. IsNext new (at + 1) (behind at)) [
    | inl e ↦ subst (λ o. IsNext new (at + 1) o) (sym (ap behind (sym e) ∙ behind_here)) (λ k le. same k (λ f. omega (arith, le, e, f)) ∙ high k (omega (arith, le, e)))
    | inr ne ↦
        let was : line at ≡ true = sym (same at ne) ∙ t in
        subst (λ o. IsNext new (at + 1) o) (sym (behind_same at ne)) (elim (is_place (last_of lane) at) as (λ v. is_place (last_of lane) at ≡ v → IsNext new (at + 1) (if v then Some place else behinds at)) [
          | true ↦ λ on. last_next at was on
          | false ↦ λ off. next_kept at (behinds at) was off (is.behind at was)
        ] refl)
  ]

  before_last : (o : Option ℕ) → lane.first ≡ o → IsBefore new place (if is_some o then Some lane.last else None)
  before_last None nothing =
      let first : IsNext line 0 None = subst (λ o. IsNext line 0 o) nothing is.ends.0 in
      λ at less. same at (λ e. omega (arith, less, e)) ∙ first at (omega arith)
  before_last (Some f) first =
      let last : IsLast line lane.last = is.ends.1 (rw first refl) in
      let under : lane.last < place = low lane.last last.0 in
      (under, same lane.last (λ e. omega (arith, under, e)) ∙ last.0, λ at more less. same at (λ e. omega (arith, less, e)) ∙ last.1 at more)

  pushed_before : (at : ℕ) → new at ≡ true → IsBefore new at (before at)
  pushed_before at t = elim (cases_eq place at) as (λ _. IsBefore new at (before at)) [
    | inl e ↦ subst (λ k. IsBefore new k (before k)) e (subst (λ o. IsBefore new place o) (sym before_here) (before_last lane.first refl))
    | inr ne ↦
        let was : line at ≡ true = sym (same at ne) ∙ t in
        let under : at < place = low at was in
        subst (λ o. IsBefore new at o) (sym (before_same at ne)) (before_kept at (befores at) (omega (arith, under)) (is.before at was))
  ]

  first_more : (o : Option ℕ) → IsNext line 0 o → IsNext new 0 (first_or o place)
  first_more None none = (omega arith, here, λ at le less. same at (λ e. omega (arith, less, e)) ∙ none at le)
  first_more (Some f) next = next_some 0 f next

  pub line_pushed : IsLine new before behind (Some (lane_pushed lane place))
  line_pushed = record {
    before = pushed_before;
    behind = pushed_behind;
    ends = (first_more lane.first is.ends.0, λ some. (here, λ at less. same at (λ e. omega (arith, less, e)) ∙ high at (omega (arith, less))));
  }
