-- Export and Withdraw: what is right is what the state tells, and what they leave stands for one deed more.
use Rattle.std.proofs.Common.{◌≡◌, ℕ, ◌+◌, ◌-◌, ◌≤◌, Bool, true, false, not, ◌&&◌, ◌||◌, ◌==◌, nat_le, List, [], ◌∷◌, Some, None, length, if◌then◌else◌, refl, sym, ap, subst, ◌∙◌, arith}
use Rattle.std.proofs.lemmas.Option.{none-some}
use Rattle.std.proofs.lemmas.List.{length-append}
use Rattle.std.proofs.lemmas.List.Folds.{list_any-append}
use Rattle.std.proofs.lemmas.Map.Entries.{length-keys_of}
use Rattle.std.proofs.lemmas.Bool.Decides.{nat_tests}
use Rattle.std.proofs.lemmas.Cmp.{nat_eq_equiv}
use Rattle.std.specs.List.{list_any}
use Rattle.nob_ids.specs.Names.{is_counted, is_same}
use Rattle.nob_ids.specs.declared.limits.Limits.{Limits}
use Rattle.nob_ids.specs.declared.wire_rep.WireRep.{WireRep}
use Rattle.nob_dirty.proofs.Membership.{empty_there}
use Rattle.nob_pins.specs.Bundles.{count_of}
use Rattle.nob_table_rows.specs.declared.counts.Counts.{Counts}
use Rattle.nob_table_rows.specs.declared.fault.TableFault.{TableFault}
use Rattle.nob_table_rows.specs.declared.fault.TableFault.TheVariants.{Absent, StillUsed, Limit}
use Rattle.nob_table_rows.specs.declared.fault.TableError.TheVariants as errors
use Rattle.nob_table_rows.specs.Counts as table_counts
use Rattle.nob_rows.specs.Rows.{IsOnce}
use Rattle.nob_table_rows.specs.Standings.{is_live, withdrawn, exported_standing}
use Rattle.nob_table.specs.Table as table
use Rattle.nob_table.specs.Table.{Table, standing, live_reps, own, withdraw_fault, export_fault, IsRefusal, Becomes, SetsKept, is_kept, ExportLeaves, WithdrawalLeaves, SameSurrogates}
use Rattle.nob_table_rows.proofs.Same.{same_laws, same_is, same_refl}
use Rattle.nob_model_types.specs.declared.answer.Answer.TheVariants as answers
use Rattle.nob_model_types.specs.declared.refusal.Refusal.TheVariants as refusals
use Rattle.nob_model_types.specs.declared.refusal.Use.TheVariants as uses
use Rattle.nob_model_types.specs.declared.deed.Deed.{Deed}
use Rattle.nob_model_types.specs.declared.deed.Deed.TheVariants.{Export, Withdraw}
use Rattle.nob_model_types.specs.Objects as objects
use Rattle.nob_model_work.specs.Work.{work}
use Rattle.nob_model_history.specs.Histories.{history_of}
use Rattle.nob_model_history.specs.Holds.{hand, times, gains, releases, lent_in}
use Rattle.nob_model_history.specs.Listing.{is_listed, is_any_listed}
use Rattle.nob_model.specs.Right.{right_export, right_withdraw, withdraw_refused, own_ref, most_objects, last_number}
use Rattle.nob_model_acting.specs.Sending.{◌or_else◌, refuse_if, unless}
use Rattle.nob_space_state.specs.Judging.{export_refusal, withdraw_refusal}
use Rattle.nob_space_state.specs.Looks.{has_holds, has_clients}
use Rattle.nob_space_state.specs.Parts.{State, with_table}
use Rattle.nob_space_state.specs.Stands.{Stands}
use Rattle.nob_model.specs.Lists.{IsRightDeed}
use Rattle.nob_space_state.proofs.Orderly.{orderly}
use Rattle.nob_space_state.proofs.Counted.{times_more}
use Rattle.nob_space_state.proofs.Shows.{no_holds}
use Rattle.nob_space_state.proofs.Listed.{nobody_listed, somebody_listed}
use Rattle.nob_space_state.proofs.Pinned.{pins_there}
use Rattle.nob_space_state.proofs.Marked.{same_pins, used_still, used_then}
use Rattle.nob_space_state.proofs.Quiet.{IsQuiet, export_is_quiet, withdraw_is_quiet}
use Rattle.nob_space_state.proofs.Rows.{live_count, own_row, own_there, differ}
use Rattle.nob_space_state.proofs.Stood.{stands_quiet}
use Rattle.nob_space_state.proofs.Told.{held_there}

withdraw_chain : (agent here held pinned listed : Bool) → unless (refuse_if agent (refusals.StillUsed uses.Agent) or_else refuse_if (not here) refusals.NoObject or_else refuse_if held (refusals.StillUsed uses.Held) or_else refuse_if pinned (refusals.StillUsed uses.InTransit) or_else refuse_if listed (refusals.StillUsed uses.Listed)) answers.Withdrawn
    ≡ unless (if agent then Some (refusals.StillUsed uses.Agent) else if not agent && (true && not here) then Some refusals.NoObject else if held then Some (refusals.StillUsed uses.Held) else if pinned then Some (refusals.StillUsed uses.InTransit) else if listed then Some (refusals.StillUsed uses.Listed) else None) answers.Withdrawn
withdraw_chain true here held pinned listed = refl
withdraw_chain false false held pinned listed = refl
withdraw_chain false true true pinned listed = refl
withdraw_chain false true false true listed = refl
withdraw_chain false true false false true = refl
withdraw_chain false true false false false = refl

-- two tests of one fact
any_test : (a b : Bool) → (a ≡ false → b ≡ false) → (a ≡ true → b ≡ true) → a ≡ b
any_test true b none some = sym (some refl)
any_test false b none some = sym (none refl)

module _ {s n : ℕ} {limits : Limits} {st : State} {D : List Deed} (stands : Stands s n limits st D) where
  -- somebody is listed where the sets have a client
  pub listed_there : (index : ℕ) → has_clients st.dirty index ≡ is_any_listed s index D
  listed_there index = any_test _ _
      (λ none. nobody_listed s index D (λ c. sym (stands.listed index c) ∙ (empty_there index st.dirty).0 (ap not none) c))
      (λ some. elim (is_any_listed s index D) as (λ b. is_any_listed s index D ≡ b → b ≡ true) [
        | true ↦ λ _. refl
        | false ↦ λ nobody.
            let none : (c : ℕ) → is_listed s index c D ≡ false = λ c. elim (is_listed s index c D) as (λ b. is_listed s index c D ≡ b → b ≡ false) [ true ↦ λ listed. absurd (differ (somebody_listed s index D c listed) nobody) | false ↦ λ _. refl ] refl in
            let empty : not (has_clients st.dirty index) ≡ true = (empty_there index st.dirty).1 (λ c. stands.listed index c ∙ none c) in
            rw some at empty
      ] refl)

  -- as many objects are live as the table has
  pub objects_there : IsOnce st.table.objects → ((rep : WireRep) → list_any (is_same rep) (live_reps st.table) ≡ is_live (standing st.table rep).state) → table.live st.table ≡ length (objects.live s D)
  objects_there once members = sym (length-keys_of st.table.objects) ∙ live_count stands.table (orderly stands).once once members

  -- what is right for an Export is what the state tells
  pub export_right : IsOnce st.table.objects → ((rep : WireRep) → list_any (is_same rep) (live_reps st.table) ≡ is_live (standing st.table rep).state)
      → right_export s (history_of s n D) ≡ unless (export_refusal st) (answers.Exported (own_ref s (length (objects.exports D) + 1)))
  unfolding right_export export_refusal
  export_right once members =
      rw (sym (objects_there once members), sym stands.table.exported) refl

  -- what is right for a Withdraw is what the state tells
  pub withdraw_right : (index : ℕ) → right_withdraw s index (history_of s n D) ≡ unless (withdraw_refusal s st index) answers.Withdrawn
  unfolding right_withdraw withdraw_refused withdraw_refusal
  withdraw_right index = elim (index == 0) as (λ z. index == 0 ≡ z → right_withdraw s index (history_of s n D) ≡ unless (withdraw_refusal s st index) answers.Withdrawn) [
    | true ↦ λ agent. rw (agent) refl
    | false ↦ λ counted.
        rw (sym (held_there stands (own_ref s index) (rw counted refl)), sym (pins_there stands (own_ref s index)), sym (listed_there index), sym (stands.table.live index), nat_eq_equiv.refl s)
        (withdraw_chain (index == 0) (is_live (standing st.table (own_ref s index)).state) (has_holds st.table (own_ref s index)) (not (count_of st.pins.bundles (own_ref s index) == 0)) (has_clients st.dirty index))
  ] refl

-- what a chain that ends in no refusal has passed
pub withdraw_passes : (agent here held pinned listed : Bool) → (if agent then Some (refusals.StillUsed uses.Agent) else if not agent && (true && not here) then Some refusals.NoObject else if held then Some (refusals.StillUsed uses.Held) else if pinned then Some (refusals.StillUsed uses.InTransit) else if listed then Some (refusals.StillUsed uses.Listed) else None) ≡ None → (here ≡ true) × (held ≡ false) × (pinned ≡ false) × (listed ≡ false)
withdraw_passes true here held pinned listed e = absurd (none-some _ (sym e))
withdraw_passes false false held pinned listed e = absurd (none-some _ (sym e))
withdraw_passes false true true pinned listed e = absurd (none-some _ (sym e))
withdraw_passes false true false true listed e = absurd (none-some _ (sym e))
withdraw_passes false true false false true e = absurd (none-some _ (sym e))
withdraw_passes false true false false false e = (refl, refl, refl, refl)

-- what is kept where one object's mark went was kept before
pub kept_before : (here before : Bool) → (if here then false else before) ≡ true → before ≡ true
kept_before true before kept = absurd (cc)
kept_before false before kept = kept

or_false : (b : Bool) → (b || false) ≡ b
or_false true = refl
or_false false = refl

and_false : (b : Bool) → (b && false) ≡ false
and_false true = refl
and_false false = refl

-- whether an index was exported, with one Export more
exported_more : (s : ℕ) (D : List Deed) (rep : WireRep) (index : ℕ) → objects.is_exported s index (Export rep ∷ D) ≡ (objects.is_exported s index D || is_same (own_ref s index) rep)
exported_more s D rep index = list_any-append (is_same (own_ref s index)) (objects.exports D) (rep ∷ []) ∙ ap (λ b. objects.is_exported s index D || b) (or_false (is_same (own_ref s index) rep))

-- other references of one space have other indexes
apart : (s index other : ℕ) → is_same (own_ref s index) (own_ref s other) ≡ false → index == other ≡ false
apart s index other differs = elim (index == other) as (λ b. index == other ≡ b → b ≡ false) [
  | true ↦ λ same. let one : is_same (own_ref s index) (own_ref s other) ≡ true = rw (nat_eq_equiv.refl s, same) refl in absurd (differ one differs)
  | false ↦ λ _. refl
] refl

-- what is live was exported
live_exported : (s : ℕ) (D : List Deed) (index : ℕ) → objects.is_live s index D ≡ true → objects.is_exported s index D ≡ true
live_exported s D index alive = elim (objects.is_exported s index D) as (λ b. (b && not (objects.is_withdrawn index D)) ≡ true → b ≡ true) [ true ↦ λ _. refl | false ↦ λ e. e ] alive

-- a Withdraw that isn't refused finds a live object that nothing holds
pub withdraw_finds : {s n : ℕ} {limits : Limits} {st : State} {D : List Deed} → Stands s n limits st D → (index : ℕ) → withdraw_refusal s st index ≡ None → (objects.is_live s index D ≡ true) × (has_holds st.table (own_ref s index) ≡ false)
unfolding withdraw_refusal
withdraw_finds {s} {n} {limits} {st} {D} stands index free =
    let passes : (is_live (standing st.table (own_ref s index)).state ≡ true) × (has_holds st.table (own_ref s index) ≡ false) × (not (count_of st.pins.bundles (own_ref s index) == 0) ≡ false) × (has_clients st.dirty index ≡ false) =
    withdraw_passes (index == 0) (is_live (standing st.table (own_ref s index)).state) (has_holds st.table (own_ref s index)) (not (count_of st.pins.bundles (own_ref s index) == 0)) (has_clients st.dirty index)
    (sym (rw (nat_eq_equiv.refl s) refl) ∙ free) in
    (sym (stands.table.live index) ∙ passes.0, passes.1)

-- and the table withdraws it
pub withdraw_free : {s n : ℕ} {limits : Limits} {st : State} {D : List Deed} → Stands s n limits st D → (index : ℕ) → withdraw_refusal s st index ≡ None → withdraw_fault st.table index ≡ None
withdraw_free {s} {n} {limits} {st} {D} stands index free =
    let finds : (objects.is_live s index D ≡ true) × (has_holds st.table (own_ref s index) ≡ false) = withdraw_finds stands index free in
    let there : is_live (standing st.table (own_ref s index)).state ≡ true = stands.table.live index ∙ finds.0 in
    let mine : own st.table index ≡ own_ref s index = ap (λ me. own_ref me index) stands.table.me in
    subst (λ (w : WireRep). (if is_live (standing st.table w).state then (if table_counts.is_held (standing st.table w).counts then Some StillUsed else None) else Some Absent) ≡ None) (sym mine) (rw (there, finds.1) refl)

-- no index is the one that comes next
not_next : (k : ℕ) → (nat_le 1 (k + 1) && nat_le (k + 1) k) ≡ false
not_next k = grind (arith, nat_tests)

-- the indexes so far and the next one
next_index : (index k : ℕ) → ((nat_le 1 index && nat_le index k) || (index == k + 1)) ≡ (nat_le 1 index && nat_le index (k + 1))
next_index index k = grind (arith, nat_tests)

module _ {s n : ℕ} {limits : Limits} {st : State} {D : List Deed} (stands : Stands s n limits st D) (u : Table) where
  -- the next index was never given
  next_is_new : objects.is_exported s (length (objects.exports D) + 1) D ≡ false
  next_is_new = (orderly stands).exported (length (objects.exports D) + 1) ∙ not_next (length (objects.exports D))

  -- nor withdrawn
  next_is_kept : objects.is_withdrawn (length (objects.exports D) + 1) D ≡ false
  next_is_kept = elim (objects.is_withdrawn (length (objects.exports D) + 1) D) as (λ b. objects.is_withdrawn (length (objects.exports D) + 1) D ≡ b → b ≡ false) [
    | true ↦ λ gone. absurd (differ ((orderly stands).withdrawn _ gone) next_is_new)
    | false ↦ λ _. refl
  ] refl

  -- the object that comes next has no counts yet
  next_unheld : (standing st.table (own_ref s (length (objects.exports D) + 1))).counts ≡ table_counts.no_counts
  next_unheld =
      let mine : s == st.table.me ≡ true = subst (λ m. s == m ≡ true) (sym stands.table.me) (nat_eq_equiv.refl s) in
      let dead : is_live (standing st.table (own_ref s (length (objects.exports D) + 1))).state ≡ false = stands.table.live _ ∙ rw next_is_new refl in
      (own_there st.table (own_ref s (length (objects.exports D) + 1)) mine).1 dead

  -- after an Export
  pub export_stands : IsRightDeed s n limits (Export (own_ref s (length (objects.exports D) + 1))) D → ExportLeaves st.table u → Becomes st.table u (own_ref s (length (objects.exports D) + 1)) exported_standing → u.exported ≡ st.table.exported + 1
      → Stands s n limits (with_table u st) (Export (own_ref s (length (objects.exports D) + 1)) ∷ D)
  export_stands its leaves becomes more =
      let rep : WireRep = own_ref s (length (objects.exports D) + 1) in
      let quiet : IsQuiet s n (Export (own_ref s (length (objects.exports D) + 1))) D = export_is_quiet s n (own_ref s (length (objects.exports D) + 1)) D in
      let counted : is_counted (own_ref s (length (objects.exports D) + 1)) ≡ true = grind (arith, nat_tests) in
      let empty : times rep (gains D) - times rep (releases D) ≡ 0 = sym (stands.table.hands rep counted) ∙ ap (λ (c : Counts). c.hand) next_unheld in
      let low : times rep (releases D) ≤ times rep (gains D) = (orderly stands).released rep counted in
      let more_hand : times rep (rep ∷ gains D) ≡ times rep (gains D) + 1 = times_more rep rep (gains D) ∙ rw (same_refl rep) refl in
      stands_quiet quiet u stands
      (own_row s n (history_of s n D) (history_of s n (Export rep ∷ D)) (λ w. hand w D) (λ w. times w (lent_in s (work s n D))) (λ w. hand w (Export rep ∷ D)) (λ w. times w (lent_in s (work s n (Export rep ∷ D)))) st.table u rep stands.table (nat_eq_equiv.refl s) leaves.surrogates
      (λ p. refl) (λ w. refl) (sym quiet.dirties) exported_standing becomes leaves.me
      (more ∙ ap (λ j. j + 1) stands.table.exported ∙ sym (length-append (objects.exports D) (rep ∷ []))) refl
      (λ index same. let at : index ≡ length (objects.exports D) + 1 = ap (λ (w : WireRep). w.index) (sym (same_is rep (own_ref s index) same)) in
      subst (λ j. true ≡ objects.is_live s j (Export rep ∷ D)) (sym at) (sym (rw (exported_more s D rep (length (objects.exports D) + 1), next_is_new, same_refl rep, next_is_kept) refl)))
      (λ index differs. sym (rw (exported_more s D rep index, same_laws.symm (own_ref s index) rep, differs, or_false (objects.is_exported s index D)) refl))
      (λ _. omega (arith, empty, low, more_hand))
      (λ _. sym (ap (λ (c : Counts). c.lent) next_unheld) ∙ stands.table.loans rep counted ∙ ap (λ w. times rep (lent_in s w)) (sym quiet.work))
      (λ other _ differs. ap (λ j. j - times other (releases D)) (sym (times_more rep other (gains D) ∙ rw differs refl)))
      (λ other _ differs. ap (λ w. times other (lent_in s w)) (sym quiet.work))
      (used_still s st.table u (history_of s n D) (history_of s n (Export rep ∷ D)) leaves.kept quiet.bundles quiet.listed stands.table.kept))
      its

  -- after a Withdraw
  pub withdraw_stands : (index : ℕ) → IsRightDeed s n limits (Withdraw index) D → WithdrawalLeaves st.table u → SetsKept st.table u (own_ref s index) false → Becomes st.table u (own_ref s index) withdrawn → withdraw_refusal s st index ≡ None → Stands s n limits (with_table u st) (Withdraw index ∷ D)
  withdraw_stands index its leaves unkept becomes free =
      let rep : WireRep = own_ref s index in
      let quiet : IsQuiet s n (Withdraw index) D = withdraw_is_quiet s n index D in
      let passes : (objects.is_live s index D ≡ true) × (has_holds st.table rep ≡ false) = withdraw_finds stands index free in
      let bare : (standing st.table rep).counts ≡ table_counts.no_counts = no_holds (standing st.table rep).counts passes.1 in
      stands_quiet quiet u stands
      (own_row s n (history_of s n D) (history_of s n (Withdraw index ∷ D)) (λ w. hand w D) (λ w. times w (lent_in s (work s n D))) (λ w. hand w D) (λ w. times w (lent_in s (work s n (Withdraw index ∷ D)))) st.table u rep stands.table (nat_eq_equiv.refl s) leaves.surrogates
      (λ p. refl) (λ w. refl) (sym quiet.dirties) withdrawn becomes leaves.me
      (leaves.exported ∙ stands.table.exported) refl
      (λ other same. let at : index ≡ other = ap (λ (w : WireRep). w.index) (same_is rep (own_ref s other) same) in
      subst (λ j. false ≡ objects.is_live s j (Withdraw index ∷ D)) at (sym (rw (nat_eq_equiv.refl index) (and_false (objects.is_exported s index D)))))
      (λ other differs. sym (rw (apart s index other differs) refl))
      (λ counted. sym (ap (λ (c : Counts). c.hand) bare) ∙ stands.table.hands rep counted)
      (λ counted. sym (ap (λ (c : Counts). c.lent) bare) ∙ stands.table.loans rep counted ∙ ap (λ w. times rep (lent_in s w)) (sym quiet.work))
      (λ other _ differs. refl)
      (λ other _ differs. ap (λ w. times other (lent_in s w)) (sym quiet.work))
      (used_then s st.table u (history_of s n D) (history_of s n (Withdraw index ∷ D)) (λ other kept. kept_before (is_same rep other) (is_kept st.table other) (sym (unkept other) ∙ kept)) (λ other none. same_pins (history_of s n D) (history_of s n (Withdraw index ∷ D)) quiet.bundles other ∙ none) quiet.listed stands.table.kept))
      its

-- the table's refusal of an Export is the space's
module _ (st : State) where
  pub export_free : export_fault st.table ≡ None → export_refusal st ≡ None
  unfolding export_refusal
  export_free = elim (nat_le most_objects (table.live st.table) || nat_le last_number st.table.exported) as (λ b. (if b then Some Limit else None) ≡ None → (if b then Some refusals.Limit else None) ≡ None) [ true ↦ λ e. absurd (none-some _ (sym e)) | false ↦ λ _. refl ]

  pub export_full : (fault : TableFault) → IsRefusal (export_fault st.table) (errors.Fault fault) → export_refusal st ≡ Some refusals.Limit
  unfolding export_refusal
  export_full fault = elim (nat_le most_objects (table.live st.table) || nat_le last_number st.table.exported) as (λ b. IsRefusal (if b then Some Limit else None) (errors.Fault fault) → (if b then Some refusals.Limit else None) ≡ Some refusals.Limit) [ true ↦ λ _. refl | false ↦ λ e. absurd (cc) ]

  pub export_wants : IsRefusal (export_fault st.table) errors.OutOfMemory → export_refusal st ≡ None
  unfolding export_refusal
  export_wants = elim (nat_le most_objects (table.live st.table) || nat_le last_number st.table.exported) as (λ b. IsRefusal (if b then Some Limit else None) errors.OutOfMemory → (if b then Some refusals.Limit else None) ≡ None) [ true ↦ λ e. absurd (cc) | false ↦ λ _. refl ]

-- the next reference, as the table and as the list have it
pub next_there : {s n : ℕ} {limits : Limits} {st : State} {D : List Deed} → Stands s n limits st D → own st.table (st.table.exported + 1) ≡ own_ref s (length (objects.exports D) + 1)
next_there stands = λ i. own_ref (stands.table.me i) (stands.table.exported i + 1)
