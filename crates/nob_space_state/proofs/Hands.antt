-- Dup and Release: what is right is what the state tells, and what they leave stands for one deed more.
use Rattle.std.proofs.Common.{◌≡◌, ℕ, ◌+◌, ◌-◌, ◌≤◌, Bool, true, false, not, ◌||◌, ◌==◌, nat_le, List, ◌∷◌, Some, None, if◌then◌else◌, refl, sym, ap, ◌∙◌, arith}
use Rattle.std.proofs.lemmas.Option.{none-some}
use Rattle.std.proofs.lemmas.Bool.Decides.{nat_tests}
use Rattle.nob_ids.specs.Names.{is_same}
use Rattle.nob_ids.specs.declared.limits.Limits.{Limits}
use Rattle.nob_ids.specs.declared.wire_rep.WireRep.{WireRep}
use Rattle.nob_table_rows.specs.declared.counts.Part.TheVariants.{Hand}
use Rattle.nob_rows.specs.Rows.{row_at}
use Rattle.nob_table_rows.specs.Standings.{is_known}
use Rattle.nob_table.specs.Table.{Table, standing, was_given, hold_fault, release_fault}
use Rattle.nob_model_types.specs.declared.answer.Answer.TheVariants as answers
use Rattle.nob_model_types.specs.declared.refusal.Refusal.TheVariants as refusals
use Rattle.nob_model_types.specs.declared.deed.Deed.{Deed}
use Rattle.nob_model_types.specs.declared.deed.Deed.TheVariants.{Dup, Release}
use Rattle.nob_model_work.specs.Work.{work}
use Rattle.nob_model_history.specs.Histories.{history_of}
use Rattle.nob_model_history.specs.Holds.{hand, times, gains, releases, lent_in}
use Rattle.nob_model.specs.Right.{right_dup, right_release, greatest_hand}
use Rattle.nob_model_acting.specs.Sending.{◌or_else◌, refuse_if, unless}
use Rattle.nob_space_state.specs.Judging.{dup_refusal, release_refusal}
use Rattle.nob_space_state.specs.Looks.{has_holds, is_gone, is_cut}
use Rattle.nob_space_state.specs.Holds.{one_more, one_fewer}
use Rattle.nob_space_state.specs.Parts.{State, with_table}
use Rattle.nob_space_state.specs.Shows.{TableShows}
use Rattle.nob_space_state.proofs.Counted.{held_known, times_more}
use Rattle.nob_space_state.specs.Stands.{Stands}
use Rattle.nob_model.specs.Lists.{IsRightDeed}
use Rattle.nob_space_state.proofs.Orderly.{orderly}
use Rattle.nob_space_state.proofs.Quiet.{IsQuiet, dup_is_quiet, release_is_quiet}
use Rattle.nob_space_state.proofs.Stood.{shows_quiet, stands_quiet}
use Rattle.nob_space_state.proofs.Told.{closed_there, held_there, gone_there}

-- the first refusal of a chain
dup_chain : (gone agent held cut full : Bool) → unless (refuse_if gone refusals.NoObject or_else refuse_if (not (not agent) || not held) refusals.NotHeld or_else refuse_if cut refusals.Closed or_else refuse_if full refusals.Limit) answers.Done
    ≡ unless (if gone then Some refusals.NoObject else if agent then Some refusals.NotHeld else if not held then Some refusals.NotHeld else if cut then Some refusals.Closed else if full then Some refusals.Limit else None) answers.Done
dup_chain true agent held cut full = refl
dup_chain false true held cut full = refl
dup_chain false false false cut full = refl
dup_chain false false true true full = refl
dup_chain false false true false true = refl
dup_chain false false true false false = refl

release_chain : (gone agent empty : Bool) → unless (refuse_if gone refusals.NoObject or_else refuse_if (not (not agent) || empty) refusals.NotHeld) answers.Done
    ≡ unless (if gone then Some refusals.NoObject else if agent then Some refusals.NotHeld else if empty then Some refusals.NotHeld else None) answers.Done
release_chain true agent empty = refl
release_chain false true empty = refl
release_chain false false true = refl
release_chain false false false = refl

-- what a chain that ends in no refusal has passed
dup_passes : (gone agent held cut full : Bool) → (if gone then Some refusals.NoObject else if agent then Some refusals.NotHeld else if not held then Some refusals.NotHeld else if cut then Some refusals.Closed else if full then Some refusals.Limit else None) ≡ None → (held ≡ true) × (full ≡ false)
dup_passes true agent held cut full e = absurd (none-some _ (sym e))
dup_passes false true held cut full e = absurd (none-some _ (sym e))
dup_passes false false false cut full e = absurd (none-some _ (sym e))
dup_passes false false true true full e = absurd (none-some _ (sym e))
dup_passes false false true false true e = absurd (none-some _ (sym e))
dup_passes false false true false false e = (refl, refl)

release_passes : (gone agent empty : Bool) → (if gone then Some refusals.NoObject else if agent then Some refusals.NotHeld else if empty then Some refusals.NotHeld else None) ≡ None → empty ≡ false
release_passes true agent empty e = absurd (none-some _ (sym e))
release_passes false true empty e = absurd (none-some _ (sym e))
release_passes false false true e = absurd (none-some _ (sym e))
release_passes false false false e = refl

-- a Dup that isn't refused finds room in the table
pub dup_finds_room : (s : ℕ) (st : State) (rep : WireRep) → dup_refusal s st rep ≡ None → hold_fault st.table rep Hand ≡ None
unfolding dup_refusal
dup_finds_room s st rep free =
    let passes : (has_holds st.table rep ≡ true) × (nat_le greatest_hand (standing st.table rep).counts.hand ≡ false) = dup_passes (is_gone s st.table rep) (rep.index == 0) (has_holds st.table rep) (is_cut s st.sessions rep) (nat_le greatest_hand (standing st.table rep).counts.hand) free in
    let known : is_known (standing st.table rep).state ≡ true = held_known (rep.owner == st.table.me) (was_given st.table.exported rep.index) (row_at st.table.objects rep) (row_at st.table.surrogates rep) (row_at st.table.counted rep) passes.0 in
    let room : (standing st.table rep).counts.hand == 4294967295 ≡ false = grind (arith, nat_tests, passes.1) in
    rw (known, room) refl

-- a Release that isn't refused finds the hold
pub release_finds_hold : (s : ℕ) (st : State) (rep : WireRep) → release_refusal s st rep ≡ None → release_fault st.table rep Hand ≡ None
unfolding release_refusal
release_finds_hold s st rep free =
    let some : (standing st.table rep).counts.hand == 0 ≡ false = release_passes (is_gone s st.table rep) (rep.index == 0) ((standing st.table rep).counts.hand == 0) free in
    let held : has_holds st.table rep ≡ true = rw some refl in
    let known : is_known (standing st.table rep).state ≡ true = held_known (rep.owner == st.table.me) (was_given st.table.exported rep.index) (row_at st.table.objects rep) (row_at st.table.surrogates rep) (row_at st.table.counted rep) held in
    rw (known, some) refl

module _ {s n : ℕ} {limits : Limits} {st : State} {D : List Deed} (stands : Stands s n limits st D) (rep : WireRep) where
  -- what is right for a Dup is what the state tells
  pub dup_right : right_dup s rep (history_of s n D) ≡ unless (dup_refusal s st rep) answers.Done
  unfolding right_dup dup_refusal
  dup_right = elim (rep.index == 0) as (λ t. rep.index == 0 ≡ t → right_dup s rep (history_of s n D) ≡ unless (dup_refusal s st rep) answers.Done) [
    | true ↦ λ agent. rw (agent) refl
    | false ↦ λ counted.
        rw (sym (held_there stands rep (rw counted refl)), sym (gone_there stands rep), sym (closed_there stands rep.owner), sym (stands.table.hands rep (rw counted refl)))
        (dup_chain (is_gone s st.table rep) (rep.index == 0) (has_holds st.table rep) (is_cut s st.sessions rep) (nat_le greatest_hand (standing st.table rep).counts.hand))
  ] refl

  -- what is right for a Release is what the state tells
  pub release_right : right_release s rep (history_of s n D) ≡ unless (release_refusal s st rep) answers.Done
  unfolding right_release release_refusal
  release_right = elim (rep.index == 0) as (λ t. rep.index == 0 ≡ t → right_release s rep (history_of s n D) ≡ unless (release_refusal s st rep) answers.Done) [
    | true ↦ λ agent. rw (agent) refl
    | false ↦ λ counted.
        rw (sym (gone_there stands rep), sym (stands.table.hands rep (rw counted refl)))
        (release_chain (is_gone s st.table rep) (rep.index == 0) ((standing st.table rep).counts.hand == 0))
  ] refl

-- no more is released where one more came into the hand
pub gains_more : (rep other : WireRep) (D : List Deed) → times other (releases D) ≤ times other (gains D) → times other (releases D) ≤ times other (rep ∷ gains D)
gains_more rep other D low =
    let more : times other (rep ∷ gains D) ≡ (if is_same rep other then times other (gains D) + 1 else times other (gains D)) = times_more rep other (gains D) in
    elim (is_same rep other) as (λ b. times other (rep ∷ gains D) ≡ (if b then times other (gains D) + 1 else times other (gains D)) → times other (releases D) ≤ times other (rep ∷ gains D)) [ true ↦ λ e. omega (arith, e, low) | false ↦ λ e. omega (arith, e, low) ] more

-- the hand with one more that came into it
hand_gains : (rep other : WireRep) (D : List Deed) → times other (releases D) ≤ times other (gains D) → one_more rep (λ w. hand w D) other ≡ hand other (Dup rep ∷ D)
hand_gains rep other D low = elim (is_same rep other) as (λ b. is_same rep other ≡ b → (if b then hand other D + 1 else hand other D) ≡ times other (rep ∷ gains D) - times other (releases D)) [
  | true ↦ λ e. let more : times other (rep ∷ gains D) ≡ times other (gains D) + 1 = times_more rep other (gains D) ∙ rw e refl in omega (arith, more, low)
  | false ↦ λ e. let more : times other (rep ∷ gains D) ≡ times other (gains D) = times_more rep other (gains D) ∙ rw e refl in ap (λ k. k - times other (releases D)) (sym more)
] refl

-- the hand with one that was released
hand_releases : (rep other : WireRep) (D : List Deed) → one_fewer rep (λ w. hand w D) other ≡ hand other (Release rep ∷ D)
hand_releases rep other D = elim (is_same rep other) as (λ b. is_same rep other ≡ b → (if b then hand other D - 1 else hand other D) ≡ times other (gains D) - times other (rep ∷ releases D)) [
  | true ↦ λ e. let more : times other (rep ∷ releases D) ≡ times other (releases D) + 1 = times_more rep other (releases D) ∙ rw e refl in omega (arith, more)
  | false ↦ λ e. let more : times other (rep ∷ releases D) ≡ times other (releases D) = times_more rep other (releases D) ∙ rw e refl in ap (λ k. times other (gains D) - k) (sym more)
] refl

module _ {s n : ℕ} {limits : Limits} {st : State} {D : List Deed} (stands : Stands s n limits st D) (rep : WireRep) (t : Table) where
  -- after a Dup
  pub dup_stands : IsRightDeed s n limits (Dup rep) D → TableShows s n t (history_of s n D) (one_more rep (λ w. hand w D)) (λ w. times w (lent_in s (work s n D))) → Stands s n limits (with_table t st) (Dup rep ∷ D)
  dup_stands its shows =
      let quiet : IsQuiet s n (Dup rep) D = dup_is_quiet s n rep D in
      stands_quiet quiet t stands
      (shows_quiet quiet (λ w. hand w (Dup rep ∷ D)) (λ w. times w (lent_in s (work s n (Dup rep ∷ D)))) shows refl (λ index. refl)
      (λ other counted. hand_gains rep other D ((orderly stands).released other counted)) (λ other counted. ap (λ w. times other (lent_in s w)) (sym quiet.work)))
      its

  -- after a Release
  pub release_stands : IsRightDeed s n limits (Release rep) D → TableShows s n t (history_of s n D) (one_fewer rep (λ w. hand w D)) (λ w. times w (lent_in s (work s n D))) → Stands s n limits (with_table t st) (Release rep ∷ D)
  release_stands its shows =
      let quiet : IsQuiet s n (Release rep) D = release_is_quiet s n rep D in
      stands_quiet quiet t stands
      (shows_quiet quiet (λ w. hand w (Release rep ∷ D)) (λ w. times w (lent_in s (work s n (Release rep ∷ D)))) shows refl (λ index. refl)
      (λ other counted. hand_releases rep other D) (λ other counted. ap (λ w. times other (lent_in s w)) (sym quiet.work)))
      its
