-- Counts of references, and how often one stands among others.
use Rattle.std.proofs.Common.{◌≡◌, ℕ, ◌<◌, ◌≤◌, ◌+◌, Bool, true, false, ◌||◌, ◌-◌, ◌^◌, not, nat_lt, nat_le, true≢false, IsSome, cond, List, [], ◌∷◌, length, filter, Option, Some, None, get_or, drop, if◌then◌else◌, refl, sym, ap, ◌∙◌, arith}
use Rattle.std.proofs.lemmas.Bool.{and_parts}
use Rattle.std.proofs.lemmas.Bool.Decides.{Decides-eqb, Decides-and, nat_tests}
use Rattle.std.proofs.lemmas.List.{drop_more}
use Rattle.std.proofs.lemmas.List.Filters.{length-filter_both}
use Rattle.std.proofs.lemmas.List.Sorted.{sum_by_pushed}
use Rattle.std.specs.Map.{lookup}
use Rattle.std.specs.Option.{unwrap_or}
use Rattle.std.specs.List.{list_any}
use Rattle.nob_ids.specs.declared.wire_rep.WireRep.{WireRep}
use Rattle.nob_ids.specs.Names.{is_same}
use Rattle.nob_pins.specs.Evidence.{Pin, reps_of}
use Rattle.nob_pins.specs.Bundles.{Pinned, Table, Adds, times, is_full, has_room}
use Rattle.nob_pins.specs.Peers.{count_in, is_many, AreCounted}

same_is : (rep other : WireRep) → is_same rep other ≡ true → rep ≡ other
same_is rep other same =
    let parts : (rep.owner ≡ other.owner) × (rep.index ≡ other.index) = (Decides-and _ _ (Decides-eqb rep.owner other.owner) (Decides-eqb rep.index other.index)).0 same in
    λ i. record { owner = parts.0 i; index = parts.1 i }

-- old has at every reference but one what new has
abbrev pub Writes : List (WireRep × ℕ) → List (WireRep × ℕ) → WireRep → Option ℕ → Type 0
Writes old new rep w = (other : WireRep) → lookup (is_same other) new ≡ cond (is_same rep other) w (lookup (is_same other) old)

pub written : (old new : List (WireRep × ℕ)) (rep : WireRep) (w : Option ℕ) → Writes old new rep w → (other : WireRep) → count_in new other ≡ (if is_same rep other then unwrap_or w 0 else count_in old other)
written old new rep w writes other = rw (writes other) (elim (is_same rep other) as (λ b. unwrap_or (cond b w (lookup (is_same other) old)) 0 ≡ (if b then unwrap_or w 0 else count_in old other)) [ true ↦ refl | false ↦ refl ])

-- one more
pub one_more : (old new : List (WireRep × ℕ)) (rep : WireRep) (n : ℕ) → Writes old new rep (Some n) → n ≡ count_in old rep + 1 → (other : WireRep) → count_in new other ≡ (if is_same rep other then 1 else 0) + count_in old other
one_more old new rep n writes more other =
    let all = written old new rep (Some n) writes other in
    elim (is_same rep other) as (λ b. is_same rep other ≡ b → count_in new other ≡ (if b then n else count_in old other) → count_in new other ≡ (if b then 1 else 0) + count_in old other) [
      | true ↦ λ t e. let same : count_in old rep ≡ count_in old other = ap (λ (w : WireRep). count_in old w) (same_is rep other t) in omega (arith, e, more, same)
      | false ↦ λ t e. omega (arith, e)
    ] refl all

-- one less
pub one_less : (old new : List (WireRep × ℕ)) (rep : WireRep) (n : ℕ) → ((other : WireRep) → count_in new other ≡ (if is_same rep other then n else count_in old other)) → count_in old rep ≡ n + 1 → (other : WireRep) → count_in old other ≡ (if is_same rep other then 1 else 0) + count_in new other
one_less old new rep n all less other =
    elim (is_same rep other) as (λ b. is_same rep other ≡ b → count_in new other ≡ (if b then n else count_in old other) → count_in old other ≡ (if b then 1 else 0) + count_in new other) [
      | true ↦ λ t e. let same : count_in old rep ≡ count_in old other = ap (λ (w : WireRep). count_in old w) (same_is rep other t) in omega (arith, e, less, same)
      | false ↦ λ t e. omega (arith, e)
    ] refl (all other)

-- ---- among the references of pins
times_cons : (rep one : WireRep) (reps : List WireRep) → times rep (one ∷ reps) ≡ (if is_same one rep then 1 else 0) + times rep reps
times_cons rep one reps = elim (is_same one rep) as (λ b. length (cond b (one ∷ filter (λ other. is_same other rep) reps) (filter (λ other. is_same other rep) reps)) ≡ (if b then 1 else 0) + times rep reps) [ true ↦ omega arith | false ↦ omega arith ]

-- the next of the pins that are left
pub times_next : (rep : WireRep) (pins : List Pin) (i : ℕ) (pin : Pin) → i < length pins → pin ≡ get_or pins i pin → times rep (reps_of (drop i pins)) ≡ (if is_same pin.rep rep then 1 else 0) + times rep (reps_of (drop (i + 1) pins))
times_next rep pins i pin low is =
    ap (λ (xs : List Pin). times rep (reps_of xs)) (drop_more pins i pin low ∙ ap (λ (p : Pin). p ∷ drop (i + 1) pins) (sym is))
    ∙ times_cons rep pin.rep (reps_of (drop (i + 1) pins))

-- a test of the references of pins
pub any_rep : (test : WireRep → Bool) (pins : List Pin) → list_any (λ (pin : Pin). test pin.rep) pins ≡ list_any test (reps_of pins)
any_rep test [] = refl
any_rep test (pin ∷ pins) = rw (any_rep test pins) refl

-- where none of the pins' references has too high a count, each of them has room for all
pub none_many : (rows : List (WireRep × ℕ)) (many : ℕ) (pins : List Pin) → list_any (λ (pin : Pin). is_many rows many pin.rep) pins ≡ false → (rep : WireRep) → 1 ≤ times rep (reps_of pins) → count_in rows rep ≤ 2 ^ 64 - 1 - many
none_many rows many [] none rep some = absurd (omega (arith, some))
none_many rows many (pin ∷ pins) none rep some =
    elim (is_many rows many pin.rep) as (λ b. is_many rows many pin.rep ≡ b → (b || list_any (λ (p : Pin). is_many rows many p.rep) pins) ≡ false → count_in rows rep ≤ 2 ^ 64 - 1 - many) [
      | true ↦ λ t n. absurd (true≢false n)
      | false ↦ λ t n.
          let cons : times rep (reps_of (pin ∷ pins)) ≡ (if is_same pin.rep rep then 1 else 0) + times rep (reps_of pins) = times_cons rep pin.rep (reps_of pins) in
          elim (is_same pin.rep rep) as (λ s. is_same pin.rep rep ≡ s → times rep (reps_of (pin ∷ pins)) ≡ (if s then 1 else 0) + times rep (reps_of pins) → count_in rows rep ≤ 2 ^ 64 - 1 - many) [
            | true ↦ λ s e.
                let low : nat_lt (2 ^ 64 - 1 - many) (count_in rows rep) ≡ false = ap (λ (w : WireRep). is_many rows many w) (sym (same_is pin.rep rep s)) ∙ t in
                grind (arith, nat_tests, low)
            | false ↦ λ s e. none_many rows many pins n rep (omega (arith, some, e))
          ] refl cons
    ] refl none

pub times_few : (rep : WireRep) (reps : List WireRep) → times rep reps ≤ length reps
times_few rep reps = omega (arith, length-filter_both (λ other. is_same other rep) (λ other. not (is_same other rep)) (λ _. refl) reps)

-- some pins are on a reference, so it has a count
pub some_there : (rows : List (WireRep × ℕ)) (rep : WireRep) → 0 < count_in rows rep → IsSome (lookup (is_same rep) rows)
some_there rows rep some =
    elim (lookup (is_same rep) rows) as (λ o. 0 < unwrap_or o 0 → IsSome o) [
      | None ↦ λ h. absurd (omega (arith, h))
      | Some n ↦ λ h. refl
    ] some

-- the counts with a bundle more
pub counted_more : (counts fresh : List (WireRep × ℕ)) (old new : List Pinned) (b : Pinned) → AreCounted counts old → Adds old new b → ((rep : WireRep) → count_in fresh rep ≡ count_in counts rep + times rep b.reps) → AreCounted fresh new
counted_more counts fresh old new b are adds more rep = omega (arith, are rep, more rep, sum_by_pushed (λ (x : Pinned). times rep x.reps) b old new adds)

-- the counts with a bundle less
pub counted_less : (counts fresh : List (WireRep × ℕ)) (old new : List Pinned) (b : Pinned) → AreCounted counts old → Adds new old b → ((rep : WireRep) → count_in counts rep ≡ count_in fresh rep + times rep b.reps) → AreCounted fresh new
counted_less counts fresh old new b are adds less rep = omega (arith, are rep, less rep, sum_by_pushed (λ (x : Pinned). times rep x.reps) b new old adds)

-- a bundle's references are counted
pub counted_below : (counts : List (WireRep × ℕ)) (old new : List Pinned) (b : Pinned) → AreCounted counts old → Adds new old b → (rep : WireRep) → times rep b.reps ≤ count_in counts rep
counted_below counts old new b are adds rep = omega (arith, are rep, sum_by_pushed (λ (x : Pinned). times rep x.reps) b new old adds)

-- too many by the counts are too many by the bundles
pub many_is_full : (counts : List (WireRep × ℕ)) (bundles : List Pinned) (many : ℕ) → AreCounted counts bundles → (pins : List Pin) → list_any (λ (pin : Pin). is_many counts many pin.rep) pins ≡ list_any (is_full bundles many) (reps_of pins)
many_is_full counts bundles many are [] = refl
many_is_full counts bundles many are (pin ∷ pins) =
    let here : is_many counts many pin.rep ≡ is_full bundles many pin.rep = ap (λ n. nat_lt (2 ^ 64 - 1 - many) n) (are pin.rep) in
    rw (here, many_is_full counts bundles many are pins) refl

-- where there are too many there is no room
pub no_room : (table : Table) (peer : ℕ) (reps : List WireRep) → list_any (is_full table.bundles (length reps)) reps ≡ true → has_room table peer reps ≡ true → ⊥
unfolding has_room
no_room table peer reps full room =
    let few = (and_parts (nat_le (length reps) table.counts) _ (and_parts (nat_lt 0 (get_or table.rooms peer 0)) _ room).1).1 in
    true≢false (sym few ∙ ap not full)

-- as many references as pins
pub reps_long : (pins : List Pin) → length (reps_of pins) ≡ length pins
reps_long [] = refl
reps_long (pin ∷ pins) = let rest = reps_long pins in omega (arith, rest)
