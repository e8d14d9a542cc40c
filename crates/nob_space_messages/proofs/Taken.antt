-- One stamp less in line.
use Rattle.std.proofs.Common.{◌≡◌, ℕ, ◌+◌, ◌<◌, ◌≤◌, Bool, true, false, Option, Some, None, IsSome, is_some, inl, inr, refl, sym, ap, subst, ◌∙◌, arith, if◌then◌else◌, eqb-true, true≢false}
use Rattle.std.proofs.lemmas.Bool.{cases_eq, cases_lt, eq-eqb}
use Rattle.std.specs.Option.{unwrap_or}
use Rattle.nob_space_messages.specs.declared.lanes.Lane.{Lane}
use Rattle.nob_space_messages.specs.InLine.{IsBefore, IsLast, IsLine, IsNext, is_place, lane_taken, with_if}

pub is_place_of : (o : Option ℕ) (at : ℕ) → is_place o at ≡ true → o ≡ Some at
is_place_of None at on = absurd (true≢false (sym on))
is_place_of (Some p) at on = ap (λ (k : ℕ). Some k) (eqb-true p at on)

place_of : (o : Option ℕ) (at : ℕ) → o ≡ Some at → is_place o at ≡ true
place_of o at e = ap (λ w. is_place w at) e ∙ eq-eqb at at refl

module _ {line new : ℕ → Bool} {befores behinds before behind : ℕ → Option ℕ} {lane : Lane} (is : IsLine line befores behinds (Some lane)) (place : ℕ) (there : line place ≡ true)
    (gone : new place ≡ false) (same : (at : ℕ) → (place ≡ at → ⊥) → new at ≡ line at)
    (before_same : (at : ℕ) → (place ≡ at → ⊥) → before at ≡ with_if befores (behinds place) (befores place) at)
    (behind_same : (at : ℕ) → (place ≡ at → ⊥) → behind at ≡ with_if behinds (befores place) (behinds place) at) where
  less_in : (at : ℕ) → line at ≡ false → new at ≡ false
  less_in at f = elim (cases_eq place at) as (λ _. new at ≡ false) [ inl e ↦ ap new (sym e) ∙ gone | inr ne ↦ same at ne ∙ f ]

  apart : (at : ℕ) → new at ≡ true → place ≡ at → ⊥
  apart at t e = true≢false (sym t ∙ ap new (sym e) ∙ gone)

  next_kept : (from : ℕ) (o : Option ℕ) → (o ≡ Some place → ⊥) → IsNext line from o → IsNext new from o
  next_kept from None ne none = λ at le. less_in at (none at le)
  next_kept from (Some n) ne next = (next.0, same n (λ e. ne (ap (λ (k : ℕ). Some k) (sym e))) ∙ next.1, λ at le less. less_in at (next.2 at le less))

  before_kept : (to : ℕ) (o : Option ℕ) → (o ≡ Some place → ⊥) → IsBefore line to o → IsBefore new to o
  before_kept to None ne none = λ at less. less_in at (none at less)
  before_kept to (Some p) ne last = (last.0, same p (λ e. ne (ap (λ (k : ℕ). Some k) (sym e))) ∙ last.1, λ at more less. less_in at (last.2 at more less))

  -- what has the place next behind it stands next before it
  meets_before : (at : ℕ) (o : Option ℕ) → line at ≡ true → IsNext line (at + 1) (Some place) → IsBefore line place o → o ≡ Some at
  meets_before at None t next none = absurd (true≢false (sym t ∙ none at (let less = next.0 in omega (arith, less))))
  meets_before at (Some p) t next last =
      let low = next.0 in
      elim (cases_lt at p) as (λ _. Some p ≡ Some at) [
        | inl less ↦ absurd (true≢false (sym last.1 ∙ next.2 p (omega (arith, less)) last.0))
        | inr le ↦ elim (cases_lt p at) as (λ _. Some p ≡ Some at) [
          | inl less ↦ absurd (true≢false (sym t ∙ last.2 at less (omega (arith, low))))
          | inr more ↦ let e : p ≡ at = omega (arith, le, more) in ap (λ (k : ℕ). Some k) e
        ]
      ]

  -- what has the place next before it stands next behind it
  meets_behind : (at : ℕ) (o : Option ℕ) → line at ≡ true → IsBefore line at (Some place) → IsNext line (place + 1) o → o ≡ Some at
  meets_behind at None t last none = absurd (true≢false (sym t ∙ none at (let less = last.0 in omega (arith, less))))
  meets_behind at (Some n) t last next =
      let low = last.0 in
      let high = next.0 in
      elim (cases_lt at n) as (λ _. Some n ≡ Some at) [
        | inl less ↦ absurd (true≢false (sym t ∙ next.2 at (omega (arith, low)) less))
        | inr le ↦ elim (cases_lt n at) as (λ _. Some n ≡ Some at) [
          | inl less ↦ absurd (true≢false (sym next.1 ∙ last.2 n (omega (arith, high)) less))
          | inr more ↦ let e : n ≡ at = omega (arith, le, more) in ap (λ (k : ℕ). Some k) e
        ]
      ]

  -- over the place
  skip : (from at : ℕ) → from ≤ at → ((k : ℕ) → from ≤ k → k < place → line k ≡ false) → (place < at → line at ≡ false) → new at ≡ false
  skip from at le under over = elim (cases_eq place at) as (λ _. new at ≡ false) [
    | inl e ↦ ap new (sym e) ∙ gone
    | inr ne ↦ elim (cases_lt at place) as (λ _. new at ≡ false) [ inl less ↦ less_in at (under at le less) | inr more ↦ less_in at (over (omega (arith, more, ne))) ]
  ]

  next_over : (from : ℕ) (o : Option ℕ) → from ≤ place → ((k : ℕ) → from ≤ k → k < place → line k ≡ false) → IsNext line (place + 1) o → IsNext new from o
  next_over from None under none next = λ at le. skip from at le none (λ more. next at (omega (arith, more)))
  next_over from (Some n) under none next =
      let high = next.0 in
      (omega (arith, high, under), same n (λ e. omega (arith, high, e)) ∙ next.1, λ at le less. skip from at le none (λ more. next.2 at (omega (arith, more)) less))

  before_over : (to : ℕ) (o : Option ℕ) → place < to → ((k : ℕ) → place < k → k < to → line k ≡ false) → IsBefore line place o → IsBefore new to o
  before_over to None over none last = λ at less. elim (cases_eq place at) as (λ _. new at ≡ false) [
    | inl e ↦ ap new (sym e) ∙ gone
    | inr ne ↦ elim (cases_lt at place) as (λ _. new at ≡ false) [ inl under ↦ less_in at (last at under) | inr more ↦ less_in at (none at (omega (arith, more, ne)) less) ]
  ]
  before_over to (Some p) over none last =
      let low = last.0 in (
        omega (arith, low, over),
        same p (λ e. omega (arith, low, e)) ∙ last.1,
        λ at more less. elim (cases_eq place at) as (λ _. new at ≡ false) [
          | inl e ↦ ap new (sym e) ∙ gone
          | inr ne ↦ elim (cases_lt at place) as (λ _. new at ≡ false) [ inl under ↦ less_in at (last.2 at more under) | inr beyond ↦ less_in at (none at (omega (arith, beyond, ne)) less) ]
        ],
      )

  taken_behind : (at : ℕ) → new at ≡ true → IsNext new (at + 1) (behind at)
  taken_behind at t =
      let ne : place ≡ at → ⊥ = apart at t in
      let was : line at ≡ true = sym (same at ne) ∙ t in
      subst (λ o. IsNext new (at + 1) o) (sym (behind_same at ne)) (elim (is_place (befores place) at) as (λ v. is_place (befores place) at ≡ v → IsNext new (at + 1) (if v then behinds place else behinds at)) [
        | true ↦ λ on.
            let last : IsBefore line place (Some at) = subst (λ o. IsBefore line place o) (is_place_of (befores place) at on) (is.before place there) in
            let low = last.0 in
            next_over (at + 1) (behinds place) (omega (arith, low)) (λ k le less. last.2 k (omega (arith, le)) less) (is.behind place there)
        | false ↦ λ off. next_kept (at + 1) (behinds at)
            (λ e. true≢false (sym (place_of (befores place) at (meets_before at (befores place) was (subst (λ o. IsNext line (at + 1) o) e (is.behind at was)) (is.before place there))) ∙ off))
            (is.behind at was)
      ] refl)

  taken_before : (at : ℕ) → new at ≡ true → IsBefore new at (before at)
  taken_before at t =
      let ne : place ≡ at → ⊥ = apart at t in
      let was : line at ≡ true = sym (same at ne) ∙ t in
      subst (λ o. IsBefore new at o) (sym (before_same at ne)) (elim (is_place (behinds place) at) as (λ v. is_place (behinds place) at ≡ v → IsBefore new at (if v then befores place else befores at)) [
        | true ↦ λ on.
            let next : IsNext line (place + 1) (Some at) = subst (λ o. IsNext line (place + 1) o) (is_place_of (behinds place) at on) (is.behind place there) in
            let high = next.0 in
            before_over at (befores place) (omega (arith, high)) (λ k more less. next.2 k (omega (arith, more)) less) (is.before place there)
        | false ↦ λ off. before_kept at (befores at)
            (λ e. true≢false (sym (place_of (behinds place) at (meets_behind at (behinds place) was (subst (λ o. IsBefore line at o) e (is.before at was)) (is.behind place there))) ∙ off))
            (is.before at was)
      ] refl)

  taken_first : (o : Option ℕ) → IsBefore line place o → IsNext new 0 (if is_some o then lane.first else behinds place)
  taken_first None none = next_over 0 (behinds place) (omega arith) (λ k le less. none k less) (is.behind place there)
  taken_first (Some p) last = next_kept 0 lane.first (λ e.
      let first : IsNext line 0 (Some place) = subst (λ o. IsNext line 0 o) e is.ends.0 in
      true≢false (sym last.1 ∙ first.2 p (omega arith) last.0)) is.ends.0

  has_first : (o : Option ℕ) → IsNext line 0 o → IsSome o
  has_first None none = absurd (true≢false (sym there ∙ none place (omega arith)))
  has_first (Some f) next = refl

  taken_last : (o w : Option ℕ) → IsBefore line place o → IsNext line (place + 1) w → IsSome (if is_some o then lane.first else w) → IsLast new (if is_some w then lane.last else unwrap_or o lane.last)
  taken_last o (Some n) last next some =
      let all : IsLast line lane.last = is.ends.1 (has_first lane.first is.ends.0) in
      let high = next.0 in
      (same lane.last (λ e. true≢false (sym next.1 ∙ all.1 n (omega (arith, high, e)))) ∙ all.0, λ at less. less_in at (all.1 at less))
  taken_last None None last next some = absurd (true≢false (sym some))
  taken_last (Some p) None last next some =
      let low = last.0 in
      (same p (λ e. omega (arith, low, e)) ∙ last.1, λ at less. skip (p + 1) at (omega (arith, less)) (λ k le under. last.2 k (omega (arith, le)) under) (λ more. next at (omega (arith, more))))

  pub line_taken : IsLine new before behind (Some (lane_taken lane (befores place) (behinds place)))
  line_taken = record {
    before = taken_before;
    behind = taken_behind;
    ends = (taken_first (befores place) (is.before place there), taken_last (befores place) (behinds place) (is.before place there) (is.behind place there));
  }
