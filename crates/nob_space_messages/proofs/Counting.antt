-- Places in lines, and how often a stamp stands there.
use Rattle.std.proofs.Common.{◌≡◌, ℕ, ◌<◌, ◌+◌, ◌==◌, ◌&&◌, add-one, Bool, true, false, nat_lt, List, [], ◌∷◌, ◌++◌, take, Option, Some, is_some, slice_get, if◌then◌else◌, refl, sym, ap, ◌∙◌, arith}
use Prim.Native.Nat.{zero, suc}
use Rattle.std.proofs.lemmas.Bool.Decides.{Decides-eqb, Decides-and}
use Rattle.std.proofs.lemmas.Cmp.{nat_eq_equiv}
use Rattle.std.proofs.lemmas.List.{take_more}
use Rattle.std.proofs.lemmas.Option.{get_or_from_slice_get, slice_get_within}
use Rattle.std.specs.Option.{option_map_or}
use Rattle.nob_ids.specs.declared.wire_rep.WireRep.{WireRep}
use Rattle.nob_ids.specs.Names.{is_same}
use Rattle.nob_rows.specs.Rows.{Puts, row_at}
use Rattle.nob_space_messages.specs.declared.entry.Entry.{Entry}
use Rattle.nob_space_messages.specs.declared.owner_lines.Line.{Line}
use Rattle.nob_space_messages.specs.Lines.{HavePlaces, LineList, is_link, link_at, lowered, once, places_for, stands, times_in, times_of}
use Rattle.nob_space_messages.proofs.Rows.{lower_unlike, lowered_both}

pub same_is : (rep other : WireRep) → is_same rep other ≡ true → rep ≡ other
same_is rep other same =
    let parts : (rep.owner ≡ other.owner) × (rep.index ≡ other.index) = (Decides-and _ _ (Decides-eqb rep.owner other.owner) (Decides-eqb rep.index other.index)).0 same in
    λ i. record { owner = parts.0 i; index = parts.1 i }

pub same_turned : (rep other : WireRep) → is_same rep other ≡ is_same other rep
same_turned rep other =
    let owners = nat_eq_equiv.symm rep.owner other.owner in
    let indices = nat_eq_equiv.symm rep.index other.index in
    λ i. owners i && indices i

-- how many places a line has that there may be
abbrev count_in : Option Line → ℕ
count_in line = option_map_or (λ l. l.count) line 0

-- what has a line has places still
pub places_written : (old new : List (WireRep × Line)) (rep : WireRep) (w : Option Line) → Puts old new rep w → is_some w ≡ nat_lt 0 (count_in w) → HavePlaces old → HavePlaces new
places_written old new rep w puts some have other =
    ap is_some (puts other)
    ∙ elim (is_same rep other) as (λ b. is_some (if b then w else row_at old other) ≡ nat_lt 0 (count_in (if b then w else row_at old other))) [ true ↦ some | false ↦ have other ]
    ∙ ap (λ o. nat_lt 0 (count_in o)) (sym (puts other))

-- ---- stamps in lines
pub stands_next : (lines : LineList) (rep : WireRep) (place : ℕ) (standing : Option ℕ) (rows0 rows new : List (ℕ × Entry)) → standing ≡ link_at lines rep place → rows ≡ lowered (stands lines rep place) rows0 → new ≡ lowered (once standing) rows → new ≡ lowered (stands lines rep (place + 1)) rows0
stands_next lines rep place standing rows0 rows new is was now =
    now ∙ ap (lowered (once standing)) was
    ∙ ap (λ o. lowered (once o) (lowered (stands lines rep place) rows0)) is
    ∙ lowered_both (stands lines rep place) (once (link_at lines rep place)) (stands lines rep (suc place)) rows0 (λ s. refl)
    ∙ ap (λ n. lowered (stands lines rep n) rows0) (sym (add-one place))

times_append : (lines : LineList) (reps others : List WireRep) (s : ℕ) → times_of lines (reps ++ others) s ≡ times_of lines reps s + times_of lines others s
times_append lines [] others s = omega arith
times_append lines (rep ∷ reps) others s = let rest = times_append lines reps others s in omega (arith, rest)

pub times_next : (lines : LineList) (keys : List WireRep) (at : ℕ) (rep : WireRep) (rows0 rows new : List (ℕ × Entry)) → slice_get keys at ≡ Some rep → rows ≡ lowered (times_of lines (take at keys)) rows0 → new ≡ lowered (times_in lines rep) rows → new ≡ lowered (times_of lines (take (at + 1) keys)) rows0
times_next lines keys at rep rows0 rows new got was now =
    let more : take (at + 1) keys ≡ take at keys ++ rep ∷ [] = take_more keys at rep (slice_get_within keys at rep got) ∙ ap (λ (r : WireRep). take at keys ++ r ∷ []) (get_or_from_slice_get keys at rep rep got) in
    now ∙ ap (lowered (times_in lines rep)) was
    ∙ lowered_both (times_of lines (take at keys)) (times_in lines rep) (times_of lines (take at keys ++ rep ∷ [])) rows0
    (λ s. let sums = times_append lines (take at keys) (rep ∷ []) s in omega (arith, sums))
    ∙ ap (λ (reps : List WireRep). lowered (times_of lines reps) rows0) (sym more)

pub stands_below : (old new : LineList) (rep : WireRep) (count s : ℕ) → ((place : ℕ) → place < count → link_at new rep place ≡ link_at old rep place) → stands new rep count s ≡ stands old rep count s
stands_below old new rep zero s same = refl
stands_below old new rep (suc count) s same =
    let rest = stands_below old new rep count s (λ place less. same place (omega (arith, less))) in
    let one : once (link_at new rep count) s ≡ once (link_at old rep count) s = ap (λ o. once o s) (same count (omega arith)) in
    omega (arith, one, rest)

-- a stamp behind the others of a line
pub times_push : (old new : LineList) (rep : WireRep) (stamp : ℕ)
    → ((other : WireRep) → places_for new other ≡ (if is_same rep other then 1 else 0) + places_for old other)
    → ((other : WireRep) (place : ℕ) → link_at new other place ≡ (if is_link rep (places_for old rep) other place then Some stamp else link_at old other place))
    → (other : WireRep) (s : ℕ) → times_in new other s ≡ times_in old other s + (if stamp == s then (if is_same rep other then 1 else 0) else 0)
times_push old new rep stamp counts links other s =
    elim (is_same rep other) as (λ b. is_same rep other ≡ b → places_for new other ≡ (if b then 1 else 0) + places_for old other → times_in new other s ≡ times_in old other s + (if stamp == s then (if b then 1 else 0) else 0)) [
      | true ↦ λ t e.
          let n : ℕ = places_for old other in
          let at : places_for old rep ≡ n = ap (λ (r : WireRep). places_for old r) (same_is rep other t) in
          let more : places_for new other ≡ suc n = omega (arith, e) in
          let test : (place : ℕ) (b : Bool) → (n == place) ≡ b → is_link rep (places_for old rep) other place ≡ b = λ place b h. (λ i. t i && (at i == place)) ∙ h in
          let top : link_at new other n ≡ Some stamp = links other n ∙ ap (λ b. if b then Some stamp else link_at old other n) (test n true (nat_eq_equiv.refl n)) in
          let below = stands_below old new other n s (λ place less. links other place ∙ ap (λ b. if b then Some stamp else link_at old other place) (test place false (nat_eq_equiv.symm n place ∙ lower_unlike place n less))) in
          let first : once (link_at new other n) s ≡ (if stamp == s then 1 else 0) = ap (λ o. once o s) top in
          ap (λ k. stands new other k s) more ∙ omega (arith, first, below)
      | false ↦ λ u e.
          let same : places_for new other ≡ places_for old other = omega (arith, e) in
          let kept = stands_below old new other (places_for old other) s (λ place less. links other place ∙ rw u refl) in
          let none : ◌≡◌ {A = ℕ} (if stamp == s then 0 else 0) 0 = elim (stamp == s) as (λ b. ◌≡◌ {A = ℕ} (if b then 0 else 0) 0) [ true ↦ refl | false ↦ refl ] in
          ap (λ k. stands new other k s) same ∙ omega (arith, kept, none)
    ] refl (counts other)
