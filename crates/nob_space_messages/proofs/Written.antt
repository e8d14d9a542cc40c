-- The line of one target is changed, and its lane written.
use Rattle.std.proofs.Common.{◌≡◌, ℕ, ◌+◌, ◌==◌, ◌&&◌, ◌||◌, not, is_some, Bool, true, false, List, Option, Some, None, ◌⊎◌, inl, inr, refl, sym, ap, subst, ◌∙◌, arith, if◌then◌else◌, eqb-true, true≢false}
use Rattle.std.proofs.lemmas.Bool.{eqb-false, and_right}
use Rattle.std.proofs.lemmas.Cmp.{nat_eq_equiv}
use Rattle.nob_slots.specs.Slots.{is_marked}
use Rattle.nob_space_messages.specs.declared.lanes.Lane.{Lane}
use Rattle.nob_space_messages.specs.Lanes.{is_target}
use Rattle.nob_space_messages.specs.Lanes.{PutsLane, if_used, is_used, lane_at}
use Rattle.nob_space_messages.specs.InLine.{AreLines, IsBefore, IsLine, IsNext, MarksFirst, has_target, is_head, is_head_of, is_in_line, is_place}

-- what has a target
pub target_is : (t : ℕ) (o : Option ℕ) → has_target t o ≡ true → o ≡ Some t
target_is t None on = absurd (true≢false (sym on))
target_is t (Some u) on = ap (λ (k : ℕ). Some k) (sym (eqb-true t u on))

pub has_it : (t : ℕ) (o : Option ℕ) → o ≡ Some t → has_target t o ≡ true
has_it t o e = ap (has_target t) e ∙ nat_eq_equiv.refl t

-- a lane is left out where it is of no use
abbrev pub IsKept : Option Lane → Lane → Type 0
IsKept o lane = (o ≡ Some lane) ⊎ ((o ≡ None) × (lane.first ≡ None))

and_true : (b : Bool) → b ≡ (b && true)
and_true true = refl
and_true false = refl

not_first : (line : ℕ → Bool) (o : Option ℕ) (k : ℕ) → IsNext line 0 o → line k ≡ false → is_place o k ≡ false
not_first line None k none off = refl
not_first line (Some f) k next off = elim (f == k) as (λ b. (f == k) ≡ b → b ≡ false) [ true ↦ λ t. absurd (true≢false (sym next.1 ∙ ap line (eqb-true f k t) ∙ off)) | false ↦ λ _. refl ] refl

line_moved : {line new : ℕ → Bool} {befores behinds before behind : ℕ → Option ℕ} {o : Option Lane} → IsLine line befores behinds o → ((k : ℕ) → new k ≡ line k) → ((k : ℕ) → line k ≡ true → before k ≡ befores k) → ((k : ℕ) → line k ≡ true → behind k ≡ behinds k) → IsLine new before behind o
line_moved {line} {new} {befores} {behinds} {before} {behind} {o} is same one other = subst (λ (l : ℕ → Bool). IsLine l before behind o) (λ i k. sym (same k) i) (record {
  before = λ at t. subst (λ w. IsBefore line at w) (sym (one at t)) (is.before at t);
  behind = λ at t. subst (λ w. IsNext line (at + 1) w) (sym (other at t)) (is.behind at t);
  ends = is.ends;
})

module _ {targets befores behinds : ℕ → Option ℕ} (target before behind : ℕ → Option ℕ) {lanes : List (ℕ × Lane)} {marked : List ℕ} (are : AreLines targets befores behinds lanes marked) (t : ℕ) (new : List (ℕ × Lane)) (mid marks : List ℕ) (lane : Lane) (o : Option Lane)
    (agree : (u k : ℕ) → (t ≡ u → ⊥) → is_in_line target u k ≡ is_in_line targets u k)
    (before_same : (u k : ℕ) → (t ≡ u → ⊥) → is_in_line targets u k ≡ true → before k ≡ befores k)
    (behind_same : (u k : ℕ) → (t ≡ u → ⊥) → is_in_line targets u k ≡ true → behind k ≡ behinds k)
    (line : IsLine (is_in_line target t) before behind (Some lane)) (keeps : IsKept o lane) (puts : PutsLane lanes new t o) (marking : MarksFirst mid marks lane)
    (others : (k : ℕ) → is_in_line target t k ≡ false → is_marked mid k ≡ is_head lanes (target k) k)
    (ours : (k : ℕ) → is_in_line target t k ≡ true → is_place lane.first k ≡ false → is_marked mid k ≡ false) where
  line_here : IsLine (is_in_line target t) before behind o
  line_here = elim keeps as (λ _. IsLine (is_in_line target t) before behind o) [
    | inl some ↦ subst (λ w. IsLine (is_in_line target t) before behind w) (sym some) line
    | inr none ↦
        let nothing : IsNext (is_in_line target t) 0 None = subst (λ w. IsNext (is_in_line target t) 0 w) none.1 line.ends.0 in
        subst (λ w. IsLine (is_in_line target t) before behind w) (sym none.0) (record { before = line.before; behind = line.behind; ends = λ at. nothing at (omega arith) })
  ]

  written_line : (u : ℕ) → IsLine (is_in_line target u) before behind (lane_at new u)
  written_line u = subst (λ w. IsLine (is_in_line target u) before behind w) (sym (puts u)) (elim (is_target t u) as (λ b. is_target t u ≡ b → IsLine (is_in_line target u) before behind (if b then o else lane_at lanes u)) [
    | true ↦ λ e. subst (λ (v : ℕ). IsLine (is_in_line target v) before behind o) (eqb-true t u e) line_here
    | false ↦ λ e. line_moved (are.line u) (λ k. agree u k (eqb-false t u e)) (λ k on. before_same u k (eqb-false t u e) on) (λ k on. behind_same u k (eqb-false t u e) on)
  ] refl)

  head_here : (k : ℕ) → is_head_of o k ≡ ((lane.runs == 0) && is_place lane.first k)
  head_here k = elim keeps as (λ _. is_head_of o k ≡ ((lane.runs == 0) && is_place lane.first k)) [
    | inl some ↦ ap (λ w. is_head_of w k) some
    | inr none ↦ ap (λ w. is_head_of w k) none.0 ∙ sym (and_right (lane.runs == 0) (is_place lane.first k) (ap (λ w. is_place w k) none.1))
  ]

  same_head : (k : ℕ) (w : Option ℕ) → has_target t w ≡ false → is_head lanes w k ≡ is_head new w k
  same_head k None off = refl
  same_head k (Some u) off = ap (λ l. is_head_of l k) (sym (puts u ∙ ap (λ b. if b then o else lane_at lanes u) off))

  written_head : (k : ℕ) → is_marked marks k ≡ is_head new (target k) k
  written_head k = elim (is_in_line target t k) as (λ b. is_in_line target t k ≡ b → is_marked marks k ≡ is_head new (target k) k) [
    | true ↦ λ on.
        let its : lane_at new t ≡ o = puts t ∙ ap (λ b. if b then o else lane_at lanes t) (nat_eq_equiv.refl t) in
        let is : is_head new (target k) k ≡ ((lane.runs == 0) && is_place lane.first k) = ap (λ w. is_head new w k) (target_is t (target k) on) ∙ ap (λ l. is_head_of l k) its ∙ head_here k in
        marking k ∙ elim (is_place lane.first k) as (λ b. is_place lane.first k ≡ b → (if b then lane.runs == 0 else is_marked mid k) ≡ ((lane.runs == 0) && b)) [
          | true ↦ λ _. and_true (lane.runs == 0)
          | false ↦ λ f. ours k on f ∙ sym (and_right (lane.runs == 0) false refl)
        ] refl ∙ sym is
    | false ↦ λ off.
        let apart : is_place lane.first k ≡ false = not_first (is_in_line target t) lane.first k line.ends.0 off in
        marking k ∙ ap (λ b. if b then lane.runs == 0 else is_marked mid k) apart ∙ others k off ∙ same_head k (target k) off
  ] refl

  pub written : AreLines target before behind new marks
  written = record { line = written_line; head = written_head }

-- an unused lane has no first job
pub used_kept : (lane : Lane) → IsKept (if_used lane) lane
used_kept lane = elim (is_used lane) as (λ b. is_used lane ≡ b → IsKept (if b then Some lane else None) lane) [
  | true ↦ λ _. inl refl
  | false ↦ λ off. inr (refl, no_first (not (lane.runs == 0)) lane.first off)
] refl
  where
    no_first : (runs : Bool) (o : Option ℕ) → (runs || is_some o) ≡ false → o ≡ None
    no_first runs None off = refl
    no_first true (Some p) off = absurd (true≢false off)
    no_first false (Some p) off = absurd (true≢false off)
