-- The lines of each owner, where those of one are others.
use Rattle.std.proofs.Common.{◌≡◌, ℕ, ◌+◌, ◌<◌, ◌≤◌, ◌==◌, ◌&&◌, ◌||◌, Bool, true, false, nat_lt, List, [], ◌∷◌, ◌++◌, map, length, Some, None, slice_get, refl, ap, sym, subst, ◌∙◌, arith, eqb-true}
use Prim.Native.Nat.{zero, suc}
use lib.ListN.{set}
use Rattle.std.proofs.lemmas.Bool.Decides.{nat_tests}
use Rattle.std.proofs.lemmas.Cmp.{nat_eq_equiv}
use Rattle.std.proofs.lemmas.List.Folds.{list_any-append}
use Rattle.std.proofs.lemmas.Map.Made.{is_some-lookup}
use Rattle.std.proofs.lemmas.Option.{none-some, same_Some}
use Rattle.std.specs.List.{IsDistinct, list_any}
use Rattle.std.specs.Map.{keys_of}
use Rattle.nob_ids.specs.Names.{is_same}
use Rattle.nob_ids.specs.declared.wire_rep.WireRep.{WireRep}
use Rattle.nob_rows.specs.Rows.{IsOnce}
use Rattle.nob_slots.proofs.Flat.{get_set_other, get_set_same}
use Rattle.nob_space_messages.specs.declared.owner_lines.Line.{Line}
use Rattle.nob_space_messages.specs.Lines.{AreAwaited, AreOf, AreOwners, HavePlaces, HaveRoom, LineList, LineMap, OwnerList, count_of, has_line, lines_of, lines_or_none, reps_in}
use Rattle.nob_space_messages.proofs.Rows.{lower_unlike}

-- the lines of each
abbrev pub all_lines : List OwnerList → List LineMap
all_lines owners = map (λ (owner : OwnerList). owner.lines) owners

-- those at a place
abbrev pub lines_at : List OwnerList → ℕ → LineMap
lines_at owners place = lines_or_none (slice_get (all_lines owners) place)

-- one more owner, of no lines
pub one_more : (owners : List OwnerList) (new : OwnerList) → new.lines.rows ≡ [] → new.lines.links ≡ [] → (place : ℕ) → lines_at (owners ++ new ∷ []) place ≡ lines_at owners place
one_more [] new rows links zero = λ i. record { rows = rows i; links = links i }
one_more [] new rows links (suc place) = refl
one_more (first ∷ owners) new rows links zero = refl
one_more (first ∷ owners) new rows links (suc place) = one_more owners new rows links place

pub reps_more : (owners : List OwnerList) (new : OwnerList) → new.lines.rows ≡ [] → reps_in (all_lines (owners ++ new ∷ [])) ≡ reps_in (all_lines owners)
reps_more [] new rows = ap (λ (cs : List (WireRep × Line)). keys_of cs ++ []) rows
reps_more (first ∷ owners) new rows = ap (λ (rs : List WireRep). keys_of first.lines.rows ++ rs) (reps_more owners new rows)

-- what stands at a place
pub here : (owners : List OwnerList) (place : ℕ) (owner : OwnerList) → slice_get owners place ≡ Some owner → lines_at owners place ≡ owner.lines
here [] place owner got = absurd (none-some owner got)
here (first ∷ owners) zero owner got = ap (λ (o : OwnerList). o.lines) (same_Some first owner got)
here (first ∷ owners) (suc place) owner got = here owners place owner got

-- nothing stands past the end
pub none_here : (owners : List OwnerList) (place : ℕ) → slice_get owners place ≡ None → lines_at owners place ≡ lines_or_none None
none_here [] zero none = refl
none_here [] (suc place) none = refl
none_here (first ∷ owners) zero none = absurd (none-some first (sym none))
none_here (first ∷ owners) (suc place) none = none_here owners place none

-- none are apart
pub none_once : IsOnce (lines_or_none None).rows
unfolding IsDistinct
none_once = tt

-- what stands at another place than the one that changes
elsewhere : (owners : List OwnerList) (place : ℕ) (new : OwnerList) (other : ℕ) → (other == place) ≡ false → lines_at (set owners place new) other ≡ lines_at owners other
elsewhere [] place new other differs = refl
elsewhere (first ∷ owners) zero new zero differs = absurd (grind (arith, nat_tests, differs))
elsewhere (first ∷ owners) zero new (suc other) differs = refl
elsewhere (first ∷ owners) (suc place) new zero differs = refl
elsewhere (first ∷ owners) (suc place) new (suc other) differs = elsewhere owners place new other (grind (arith, nat_tests, differs))

-- what holds of the lines that change, and of lines that stay, holds of all
pub set_holds : (owners : List OwnerList) (place : ℕ) (old new : OwnerList) → slice_get owners place ≡ Some old → (P : LineMap → LineMap → Type 0) (other : ℕ) → (other ≡ place → P new.lines old.lines) → ((other == place) ≡ false → (lines : LineMap) → P lines lines) → P (lines_at (set owners place new) other) (lines_at owners other)
set_holds owners place old new got P other changed stays =
    elim (other == place) as (λ b. (other == place) ≡ b → P (lines_at (set owners place new) other) (lines_at owners other)) [
      | true ↦ λ t.
          let same : place ≡ other = sym (eqb-true other place t) in
          subst (λ (k : ℕ). P (lines_at (set owners place new) k) (lines_at owners k)) same
          (subst (λ (l : LineMap). P l (lines_at owners place)) (sym (here (set owners place new) place new (get_set_same owners place old new got)))
          (subst (λ (l : LineMap). P new.lines l) (sym (here owners place old got)) (changed (sym same))))
      | false ↦ λ u. subst (λ (l : LineMap). P l (lines_at owners other)) (sym (elsewhere owners place new other u)) (stays u (lines_at owners other))
    ] refl

-- the same lines
pub same_lines : (owners : List OwnerList) (place : ℕ) (old new : OwnerList) → slice_get owners place ≡ Some old → new.lines.rows ≡ old.lines.rows → new.lines.links ≡ old.lines.links → all_lines (set owners place new) ≡ all_lines owners
same_lines [] place old new got rows links = absurd (none-some old got)
same_lines (first ∷ owners) zero old new got rows links =
    let lines : new.lines ≡ old.lines = λ i. record { rows = rows i; links = links i } in
    ap (λ (l : LineMap). l ∷ all_lines owners) (lines ∙ ap (λ (o : OwnerList). o.lines) (sym (same_Some first old got)))
same_lines (first ∷ owners) (suc place) old new got rows links = ap (λ (ls : List LineMap). first.lines ∷ ls) (same_lines owners place old new got rows links)

-- ---- room
pub room_set : (owners : List OwnerList) (place room : ℕ) (old new : OwnerList) → slice_get owners place ≡ Some old → HaveRoom owners room → room ≤ new.room → HaveRoom (set owners place new) room
room_set owners place room old new got rooms le at owner there =
    elim (at == place) as (λ b. (at == place) ≡ b → room ≤ owner.room) [
      | true ↦ λ t. let is : at ≡ place = eqb-true at place t in
          subst (λ (o : OwnerList). room ≤ o.room) (same_Some new owner (sym (get_set_same owners place old new got) ∙ subst (λ (k : ℕ). slice_get (set owners place new) k ≡ Some owner) is there)) le
      | false ↦ λ f. rooms at owner (sym (get_set_other owners place at new (λ e. grind (arith, nat_tests))) ∙ there)
    ] refl

pub room_below : (owners : List OwnerList) (place additional : ℕ) (old new : OwnerList) → slice_get owners place ≡ Some old
    → ((at : ℕ) (owner : OwnerList) → at < place → slice_get owners at ≡ Some owner → additional ≤ owner.room) → additional ≤ new.room
    → (at : ℕ) (owner : OwnerList) → at < place + 1 → slice_get (set owners place new) at ≡ Some owner → additional ≤ owner.room
room_below owners place additional old new got before le at owner less there =
    elim (at == place) as (λ b. (at == place) ≡ b → additional ≤ owner.room) [
      | true ↦ λ t. let is : at ≡ place = eqb-true at place t in
          subst (λ (o : OwnerList). additional ≤ o.room) (same_Some new owner (sym (get_set_same owners place old new got) ∙ subst (λ (k : ℕ). slice_get (set owners place new) k ≡ Some owner) is there)) le
      | false ↦ λ f. before at owner (grind (arith, nat_tests, less)) (sym (get_set_other owners place at new (λ e. grind (arith, nat_tests))) ∙ there)
    ] refl

-- ---- whose lines they are
pub owners_kept : (owners new : List OwnerList) (room : ℕ) → AreOwners owners room → (33 ≤ length owners → new ≡ owners) → ((o : ℕ) → lines_at new o ≡ lines_at owners o) → AreOwners new room
owners_kept owners new room are same lines = record {
  all = λ some. let all = are.all some in subst (λ (os : List OwnerList). 33 ≤ length os) (sym (same all)) all;
  rooms = λ at owner there. elim (nat_lt 0 room) as (λ b. nat_lt 0 room ≡ b → room ≤ owner.room) [
    | true ↦ λ t. let some : 0 < room = grind (arith, nat_tests) in
        are.rooms at owner (ap (λ (os : List OwnerList). slice_get os at) (sym (same (are.all some))) ∙ there)
    | false ↦ λ f. grind (arith, nat_tests)
  ] refl;
  own = λ o. subst (AreOf o) (sym (lines o)) (are.own o);
}

pub own_set : (owners : List OwnerList) (place : ℕ) (old new : OwnerList) → slice_get owners place ≡ Some old → ((o : ℕ) → AreOf o (lines_at owners o)) → HavePlaces new.lines.rows
    → ((r : WireRep) → (r.owner == place) ≡ false → count_of old.lines.rows r ≡ 0 → count_of new.lines.rows r ≡ 0) → (o : ℕ) → AreOf o (lines_at (set owners place new) o)
own_set owners place old new got own have keeps o =
    set_holds owners place old new got (λ a b. AreOf o b → AreOf o a) o
    (λ same are. record { places = have; only = λ r off. keeps r (subst (λ (k : ℕ). (r.owner == k) ≡ false) same off) (are.only r off) })
    (λ off lines are. are) (own o)

keys_have : (owner : ℕ) (lines : LineMap) → AreOf owner lines → (rep : WireRep) → list_any (is_same rep) (keys_of lines.rows) ≡ nat_lt 0 (count_of lines.rows rep)
keys_have owner lines are rep = sym (is_some-lookup (is_same rep) lines.rows) ∙ are.places rep

keys_none : (owner : ℕ) (lines : LineMap) → AreOf owner lines → (rep : WireRep) → (rep.owner == owner) ≡ false → list_any (is_same rep) (keys_of lines.rows) ≡ false
keys_none owner lines are rep off = keys_have owner lines are rep ∙ ap (nat_lt 0) (are.only rep off)

-- the lines from this owner on
abbrev From : ℕ → List LineMap → Type 0
From first owners = (k o : ℕ) → o ≡ first + k → AreOf o (lines_or_none (slice_get owners k))

from_next : (first : ℕ) (lines : LineMap) (owners : List LineMap) → From first (lines ∷ owners) → From (suc first) owners
from_next first lines owners own k o is = own (suc k) o (omega (arith, is))

reps_none : (owners : List LineMap) (first : ℕ) (rep : WireRep) → rep.owner < first → From first owners → list_any (is_same rep) (reps_in owners) ≡ false
reps_none [] first rep low own = refl
reps_none (lines ∷ owners) first rep low own =
    list_any-append (is_same rep) (keys_of lines.rows) (reps_in owners)
    ∙ ap (λ b. b || list_any (is_same rep) (reps_in owners)) (keys_none first lines (own zero first (omega arith)) rep (lower_unlike rep.owner first low))
    ∙ reps_none owners (suc first) rep (omega (arith, low)) (from_next first lines owners own)

or_false : (b : Bool) → (b || false) ≡ b
or_false true = refl
or_false false = refl

reps_at : (owners : List LineMap) (first place : ℕ) (rep : WireRep) → rep.owner ≡ first + place → From first owners → list_any (is_same rep) (reps_in owners) ≡ nat_lt 0 (count_of (lines_or_none (slice_get owners place)).rows rep)
reps_at [] first zero rep is own = refl
reps_at [] first (suc place) rep is own = refl
reps_at (lines ∷ owners) first zero rep is own =
    list_any-append (is_same rep) (keys_of lines.rows) (reps_in owners)
    ∙ ap (λ b. list_any (is_same rep) (keys_of lines.rows) || b) (reps_none owners (suc first) rep (omega (arith, is)) (from_next first lines owners own))
    ∙ or_false (list_any (is_same rep) (keys_of lines.rows)) ∙ keys_have first lines (own zero first (omega arith)) rep
reps_at (lines ∷ owners) first (suc place) rep is own =
    let off : (rep.owner == first) ≡ false = nat_eq_equiv.symm rep.owner first ∙ lower_unlike first rep.owner (omega (arith, is)) in
    list_any-append (is_same rep) (keys_of lines.rows) (reps_in owners)
    ∙ ap (λ b. b || list_any (is_same rep) (reps_in owners)) (keys_none first lines (own zero first (omega arith)) rep off)
    ∙ reps_at owners (suc first) place rep (omega (arith, is)) (from_next first lines owners own)

module _ (lines : LineList) (own : (owner : ℕ) → AreOf owner (lines_of lines owner)) where
  pub all_awaited : AreAwaited lines
  all_awaited rep = reps_at lines.owners 0 rep.owner rep (omega arith) (λ k o is. let same : k ≡ o = omega (arith, is) in subst (λ (n : ℕ). AreOf n (lines_of lines k)) same (own k))

  pub reps_own : (owner : ℕ) (rep : WireRep) → list_any (is_same rep) (keys_of (lines_of lines owner).rows) ≡ (rep.owner == owner && has_line lines rep)
  reps_own owner rep =
      elim (rep.owner == owner) as (λ b. (rep.owner == owner) ≡ b → list_any (is_same rep) (keys_of (lines_of lines owner).rows) ≡ (b && has_line lines rep)) [
        | true ↦ λ t. keys_have owner (lines_of lines owner) (own owner) rep ∙ ap (λ (k : ℕ). nat_lt 0 (count_of (lines_of lines k).rows rep)) (sym (eqb-true rep.owner owner t))
        | false ↦ λ u. keys_none owner (lines_of lines owner) (own owner) rep u
      ] refl

-- a reference of another owner is another
pub other_rep : (rep other : WireRep) → (other.owner == rep.owner) ≡ false → is_same rep other ≡ false
other_rep rep other off = ap (λ b. b && (rep.index == other.index)) (nat_eq_equiv.symm rep.owner other.owner ∙ off)
