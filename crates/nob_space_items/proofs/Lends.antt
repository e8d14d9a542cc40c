-- What loans make of the table, one after the other.
use Rattle.std.proofs.Common.{◌≡◌, ℕ, ◌+◌, ◌≤◌, true, false, ◌==◌, List, [], ◌∷◌, ◌++◌, None, if◌then◌else◌, refl, ap, subst, ◌∙◌, arith}
use Rattle.std.specs.List.{AllByRecursion}
use Rattle.std.proofs.lemmas.Bool.Decides.{nat_tests}
use Rattle.nob_ids.specs.Names.{is_same}
use Rattle.nob_ids.specs.declared.wire_rep.WireRep.{WireRep}
use Rattle.nob_table_rows.specs.declared.counts.Part.TheVariants.{Lent}
use Rattle.nob_table_rows.specs.declared.standing.Standing.{Standing}
use Rattle.nob_table_rows.specs.Standings.{is_known, after_hold}
use Rattle.nob_table.specs.Table.{Table, standing, Becomes, ChangeLeaves, hold_fault}
use Rattle.nob_table_rows.proofs.Same.{same_laws}
use Rattle.nob_model_history.specs.Holds.{times}
use Rattle.nob_space_state.specs.Holds.{one_more}
use Rattle.nob_space_state.specs.Shows.{TableShows}
use Rattle.nob_space_state.proofs.Counted.{times_both}
use Rattle.nob_space_state.proofs.Returned.{times_one}
use Rattle.nob_space_state.proofs.Shows.{one_row, shows_lent_more}
use Rattle.nob_space_items.specs.Lending.{CanLend, Lends}

-- a reference that can be lent has counts that aren't full
pub one_lendable : (t : Table) (rep : WireRep) → CanLend t (rep ∷ []) → hold_fault t rep Lent ≡ None
one_lendable t rep can =
    let once : times rep (rep ∷ []) ≡ 1 = times_one rep rep ∙ rw (same_laws.refl rep) refl in
    let low : (standing t rep).counts.lent + times rep (rep ∷ []) ≤ 18446744073709551615 = can.room rep (omega (arith, once)) in
    let count : (standing t rep).counts.lent == 18446744073709551615 ≡ false = grind (arith, nat_tests, low, once) in
    rw (can.known.0, count) refl

-- one more is more by how often it stands in the list of one
more_by_one : (rep : WireRep) (holds : WireRep → ℕ) (other : WireRep) → one_more rep holds other ≡ holds other + times other (rep ∷ [])
more_by_one rep holds other = rw (times_one rep other) (elim (is_same rep other) as (λ b. (if b then holds other + 1 else holds other) ≡ holds other + (if b then 1 else 0)) [ true ↦ refl | false ↦ omega arith ])

-- one loan
pub lends_one : (t u : Table) (rep : WireRep) → hold_fault t rep Lent ≡ None → Becomes t u rep (after_hold Lent (standing t rep)) → ChangeLeaves t u → Lends t u (rep ∷ [])
lends_one t u rep free becomes leaves =
    let it : Standing = standing t rep in
    record {
      known = λ other. one_row (λ w after. is_known after.state ≡ is_known (standing t w).state) rep (standing t) (standing u) (after_hold Lent it) becomes refl (λ w differs. refl) other;
      counts = λ other. one_row (λ w after. after.counts.lent ≡ one_more rep (λ x. (standing t x).counts.lent) w) rep (standing t) (standing u) (after_hold Lent it) becomes
          (rw (same_laws.refl rep) refl) (λ w differs. rw differs refl) other
          ∙ more_by_one rep (λ x. (standing t x).counts.lent) other;
      shows = λ s n h hand_of on_loan shows. subst (λ (loans : WireRep → ℕ). TableShows s n u h hand_of loans) (λ i other. more_by_one rep on_loan other i)
          (shows_lent_more s n h hand_of on_loan t u rep shows leaves free becomes);
    }

-- nothing that is lent
pub lends_none : (t : Table) → Lends t t []
lends_none t = record {
  known = λ rep. refl;
  counts = λ rep. omega arith;
  shows = λ s n h hand_of on_loan shows. subst (λ (loans : WireRep → ℕ). TableShows s n t h hand_of loans) (λ i other. same (on_loan other) i) shows;
}
  where
    same : (a : ℕ) → a ≡ a + 0
    same a = omega arith

more_twice : (a b c d : ℕ) → d ≡ b + c → (a + b) + c ≡ a + d
more_twice a b c d sum = omega (arith, sum)

-- some that are lent, and then others
pub lends_then : (t u v : Table) (first last : List WireRep) → Lends t u first → Lends u v last → Lends t v (first ++ last)
lends_then t u v first last one two = record {
  known = λ rep. two.known rep ∙ one.known rep;
  counts = λ rep. two.counts rep ∙ ap (λ k. k + times rep last) (one.counts rep) ∙ more_twice (standing t rep).counts.lent (times rep first) (times rep last) (times rep (first ++ last)) (times_both rep first last);
  shows = λ s n h hand_of on_loan shows. subst (λ (loans : WireRep → ℕ). TableShows s n v h hand_of loans) (λ i other. more_twice (on_loan other) (times other first) (times other last) (times other (first ++ last)) (times_both other first last) i)
      (two.shows s n h hand_of (λ other. on_loan other + times other first) (one.shows s n h hand_of on_loan shows));
}

all_first : (P : WireRep → Type 0) (first last : List WireRep) → AllByRecursion P (first ++ last) → AllByRecursion P first × AllByRecursion P last
all_first P [] last all = (tt, all)
all_first P (rep ∷ first) last all = let rest = all_first P first last all.1 in ((all.0, rest.0), rest.1)

-- what can be lent in front can be lent
pub first_lendable : (t : Table) (first last : List WireRep) → CanLend t (first ++ last) → CanLend t first
first_lendable t first last can = record {
  known = (all_first (λ rep. is_known (standing t rep).state ≡ true) first last can.known).0;
  room = λ rep some.
      let both = times_both rep first last in
      let all : (standing t rep).counts.lent + times rep (first ++ last) ≤ 18446744073709551615 = can.room rep (omega (arith, both, some)) in
      omega (arith, both, all);
}

-- and then the others
pub then_lendable : (t u : Table) (first last : List WireRep) → CanLend t (first ++ last) → Lends t u first → CanLend u last
then_lendable t u first last can lent = record {
  known = still last (all_first (λ rep. is_known (standing t rep).state ≡ true) first last can.known).1;
  room = λ rep some.
      let both = times_both rep first last in
      let more = lent.counts rep in
      let all : (standing t rep).counts.lent + times rep (first ++ last) ≤ 18446744073709551615 = can.room rep (omega (arith, both, some)) in
      omega (arith, both, all, more);
}
  where
    still : (reps : List WireRep) → AllByRecursion (λ rep. is_known (standing t rep).state ≡ true) reps → AllByRecursion (λ rep. is_known (standing u rep).state ≡ true) reps
    still [] all = tt
    still (rep ∷ reps) all = (lent.known rep ∙ all.0, still reps all.1)
