-- TakeReply: what is right is what the state tells, and what it leaves stands for one deed more.
use Rattle.std.proofs.Common.{◌≡◌, ℕ, ◌+◌, ◌-◌, ◌≤◌, true, false, ◌==◌, List, [], ◌∷◌, length, take, drop, get_or, None, if◌then◌else◌, refl, sym, ap, subst, ◌∙◌, arith}
use Rattle.std.proofs.lemmas.Bool.Decides.{nat_tests}
use Rattle.nob_ids.specs.Names.{is_same}
use Rattle.nob_ids.specs.declared.wire_rep.WireRep.{WireRep}
use Rattle.nob_table_rows.specs.declared.counts.Counts.{Counts}
use Rattle.nob_table_rows.specs.declared.counts.Part.TheVariants.{Hand, Lent}
use Rattle.nob_table_rows.specs.declared.standing.Standing.{Standing}
use Rattle.nob_table_rows.specs.Counts.{is_held, more, fewer}
use Rattle.nob_rows.specs.Rows.{row_at}
use Rattle.nob_table_rows.specs.Standings.{is_known, after_hold, after_release}
use Rattle.nob_table.specs.Table.{Table, standing, was_given, Becomes, ChangeLeaves, hold_fault, release_fault}
use Rattle.nob_table_rows.proofs.Same.{same_is, same_refl}
use Rattle.nob_model_types.specs.declared.message.RefCopy.{RefCopy}
use Rattle.nob_model_types.proofs.Lists.{rest_is, first_and_rest}
use Rattle.nob_model_history.specs.declared.history.History.{History}
use Rattle.nob_model_history.specs.Holds.{times}
use Rattle.nob_model.specs.Right.{greatest_hand}
use Rattle.nob_space_state.specs.Holds.{one_more, one_fewer}
use Rattle.nob_space_state.specs.TakingOver.{reps_of, CanTake, with_more, with_fewer}
use Rattle.nob_space_state.specs.Shows.{TableShows}
use Rattle.nob_space_state.proofs.Counted.{held_known, times_more}
use Rattle.nob_space_state.proofs.Shows.{shows_hand_more, shows_lent_fewer, forgets_counts}

-- what is lent is known
lent_known : (t : Table) (rep : WireRep) → 1 ≤ (standing t rep).counts.lent → is_known (standing t rep).state ≡ true
lent_known t rep lent = held_known (rep.owner == t.me) (was_given t.exported rep.index) (row_at t.objects rep) (row_at t.surrogates rep) (row_at t.counted rep) (held (standing t rep).counts lent)
  where
    held : (counts : Counts) → 1 ≤ counts.lent → is_held counts ≡ true
    held counts some = grind (arith, nat_tests, some)

-- one reference stands in a list as often as in the rest, and once more
times_own : (rep : WireRep) (reps : List WireRep) → times rep (rep ∷ reps) ≡ times rep reps + 1
times_own rep reps = times_more rep rep reps ∙ rw same_refl refl

module _ (t : Table) (rep : WireRep) (reps : List WireRep) (can : CanTake t (rep ∷ reps)) where
  some_lent : 1 ≤ (standing t rep).counts.lent
  some_lent = (let low : times rep (rep ∷ reps) ≤ (standing t rep).counts.lent = can.lent rep in let own : times rep (rep ∷ reps) ≡ times rep reps + 1 = times_own rep reps in omega (arith, low, own))

  -- the hand takes it
  pub can_hold : hold_fault t rep Hand ≡ None
  can_hold =
      let own : times rep (rep ∷ reps) ≡ times rep reps + 1 = times_own rep reps in
      let room : (standing t rep).counts.hand + times rep (rep ∷ reps) ≤ greatest_hand = can.room rep (omega (arith, own)) in
      let below : (standing t rep).counts.hand == 4294967295 ≡ false = grind (arith, nat_tests, room, own) in
      rw (lent_known t rep some_lent, below) refl

  module _ (u : Table) (held : Becomes t u rep (after_hold Hand (standing t rep))) where
    counts_held : (standing u rep).counts ≡ more Hand (standing t rep).counts
    counts_held = (let is : standing u rep ≡ after_hold Hand (standing t rep) = held rep ∙ rw same_refl refl in ap (λ (it : Standing). it.counts) is)

    -- then it is given back
    pub can_release : release_fault u rep Lent ≡ None
    can_release =
        let lent : (standing u rep).counts.lent ≡ (standing t rep).counts.lent = ap (λ (c : Counts). c.lent) counts_held in
        let some : 1 ≤ (standing u rep).counts.lent = (let before = some_lent in omega (arith, lent, before)) in
        let here : (standing u rep).counts.lent == 0 ≡ false = grind (arith, nat_tests, some) in
        rw (lent_known u rep some, here) refl

    module _ (v : Table) (released : Becomes u v rep (after_release Lent (standing u rep))) where
      own_counts : (standing v rep).counts ≡ fewer Lent (more Hand (standing t rep).counts)
      own_counts = (let is : standing v rep ≡ after_release Lent (standing u rep) = released rep ∙ rw same_refl refl in ap (λ (it : Standing). it.counts) is) ∙ forgets_counts (standing u rep).state (fewer Lent (standing u rep).counts) ∙ ap (fewer Lent) counts_held

      other_counts : (other : WireRep) → is_same rep other ≡ false → (standing v other).counts ≡ (standing t other).counts
      other_counts other differs =
          let last : standing v other ≡ standing u other = released other ∙ rw differs refl in
          let first : standing u other ≡ standing t other = held other ∙ rw differs refl in
          ap (λ (it : Standing). it.counts) (last ∙ first)

      -- and the others can be taken
      pub can_rest : CanTake v reps
      can_rest = record {
        lent = λ other. elim (is_same rep other) as (λ b. is_same rep other ≡ b → times other reps ≤ (standing v other).counts.lent) [
          | true ↦ λ same. subst (λ w. times w reps ≤ (standing v w).counts.lent) (same_is rep other same)
              (let now : (standing v rep).counts.lent ≡ (standing t rep).counts.lent - 1 = ap (λ (c : Counts). c.lent) own_counts in
              let low : times rep (rep ∷ reps) ≤ (standing t rep).counts.lent = can.lent rep in
              let own : times rep (rep ∷ reps) ≡ times rep reps + 1 = times_own rep reps in
              omega (arith, now, low, own))
          | false ↦ λ differs.
              let now : (standing v other).counts.lent ≡ (standing t other).counts.lent = ap (λ (c : Counts). c.lent) (other_counts other differs) in
              let low : times other (rep ∷ reps) ≤ (standing t other).counts.lent = can.lent other in
              let same : times other (rep ∷ reps) ≡ times other reps = times_more rep other reps ∙ rw differs refl in
              omega (arith, now, low, same)
        ] refl;
        room = λ other some. elim (is_same rep other) as (λ b. is_same rep other ≡ b → (standing v other).counts.hand + times other reps ≤ greatest_hand) [
          | true ↦ λ same.
              let is : rep ≡ other = same_is rep other same in
              subst (λ w. (standing v w).counts.hand + times w reps ≤ greatest_hand) is
              (let now : (standing v rep).counts.hand ≡ (standing t rep).counts.hand + 1 = ap (λ (c : Counts). c.hand) own_counts in
              let own : times rep (rep ∷ reps) ≡ times rep reps + 1 = times_own rep reps in
              let room : (standing t rep).counts.hand + times rep (rep ∷ reps) ≤ greatest_hand = can.room rep (omega (arith, own)) in
              omega (arith, now, room, own))
          | false ↦ λ differs.
              let now : (standing v other).counts.hand ≡ (standing t other).counts.hand = ap (λ (c : Counts). c.hand) (other_counts other differs) in
              let same : times other (rep ∷ reps) ≡ times other reps = times_more rep other reps ∙ rw differs refl in
              let room : (standing t other).counts.hand + times other (rep ∷ reps) ≤ greatest_hand = can.room other (omega (arith, same, some)) in
              omega (arith, now, room, same)
        ] refl;
      }

-- holds that are the same
pub shows_same : {s n : ℕ} {t : Table} {h : History} {H L : WireRep → ℕ} (H' L' : WireRep → ℕ) → ((rep : WireRep) → H rep ≡ H' rep) → ((rep : WireRep) → L rep ≡ L' rep) → TableShows s n t h H L → TableShows s n t h H' L'
shows_same {s} {n} {t} {h} {H} {L} H' L' hands lents shows = record {
  me = shows.me;
  exported = shows.exported;
  live = shows.live;
  far = shows.far;
  hands = λ rep counted. shows.hands rep counted ∙ hands rep;
  loans = λ rep counted. shows.loans rep counted ∙ lents rep;
  passed = shows.passed;
  dirties = shows.dirties;
  places = shows.places;
  kept = shows.kept;
}

-- none more
pub shows_none : {s n : ℕ} {t : Table} {h : History} {H L : WireRep → ℕ} → TableShows s n t h H L → TableShows s n t h (with_more [] H) (with_fewer [] L)
shows_none {s} {n} {t} {h} {H} {L} shows = shows_same (with_more [] H) (with_fewer [] L) (λ rep. omega arith) (λ rep. omega arith) shows

-- one, and then others
more_first : (rep : WireRep) (reps : List WireRep) (H : WireRep → ℕ) (other : WireRep) → with_more reps (one_more rep H) other ≡ with_more (rep ∷ reps) H other
more_first rep reps H other =
    let more : times other (rep ∷ reps) ≡ (if is_same rep other then times other reps + 1 else times other reps) = times_more rep other reps in
    elim (is_same rep other) as (λ b. times other (rep ∷ reps) ≡ (if b then times other reps + 1 else times other reps) → (if b then H other + 1 else H other) + times other reps ≡ H other + times other (rep ∷ reps)) [ true ↦ λ e. omega (arith, e) | false ↦ λ e. omega (arith, e) ] more

fewer_first : (rep : WireRep) (reps : List WireRep) (L : WireRep → ℕ) (other : WireRep) → with_fewer reps (one_fewer rep L) other ≡ with_fewer (rep ∷ reps) L other
fewer_first rep reps L other =
    let more : times other (rep ∷ reps) ≡ (if is_same rep other then times other reps + 1 else times other reps) = times_more rep other reps in
    elim (is_same rep other) as (λ b. times other (rep ∷ reps) ≡ (if b then times other reps + 1 else times other reps) → (if b then L other - 1 else L other) - times other reps ≡ L other - times other (rep ∷ reps)) [ true ↦ λ e. omega (arith, e) | false ↦ λ e. omega (arith, e) ] more

module _ {s n : ℕ} {h : History} {H L : WireRep → ℕ} {t u v : Table} (rep : WireRep) (reps : List WireRep) (can : CanTake t (rep ∷ reps)) (shows : TableShows s n t h H L)
    (first : ChangeLeaves t u) (held : Becomes t u rep (after_hold Hand (standing t rep))) (then_left : ChangeLeaves u v) (released : Becomes u v rep (after_release Lent (standing u rep))) where
  -- one reference that was lent comes into the hand
  pub shows_taken : TableShows s n v h (one_more rep H) (one_fewer rep L)
  shows_taken = shows_lent_fewer s n h (one_more rep H) L u v rep (shows_hand_more s n h H L t u rep shows first (can_hold t rep reps can) held) then_left (can_release t rep reps can u held) released

  -- and then the others
  pub shows_all : {w : Table} → ((H L : WireRep → ℕ) → TableShows s n v h H L → TableShows s n w h (with_more reps H) (with_fewer reps L)) → TableShows s n w h (with_more (rep ∷ reps) H) (with_fewer (rep ∷ reps) L)
  shows_all rest = shows_same (with_more (rep ∷ reps) H) (with_fewer (rep ∷ reps) L) (more_first rep reps H) (fewer_first rep reps L) (rest (one_more rep H) (one_fewer rep L) shows_taken)

-- copies with a first are that and the others
pub first_rep : (copies : List RefCopy) (copy : RefCopy) → 1 ≤ length copies → copy ≡ get_or copies 0 copy → reps_of copies ≡ copy.rep ∷ reps_of (take (length copies - 1) (drop 1 copies))
first_rep copies copy long is = ap reps_of (first_and_rest copies copy long is) ∙ ap (λ rest. copy.rep ∷ reps_of rest) (sym (rest_is copies))
