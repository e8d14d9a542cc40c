-- What could be done next, by the state.
use Rattle.std.proofs.Common.{◌≡◌, ℕ, ◌+◌, ◌<◌, ◌≤◌, ◌==◌, ◌&&◌, not, nat_lt, Bool, true, false, List, [], ◌∷◌, find, Option, Some, None, Ok, is_some, option_map, refl, sym, ap, subst, ◌∙◌, arith}
use Rattle.std.specs.Prelude.{◌≢◌, MatchOption}
use Rattle.std.proofs.lemmas.Bool.Decides.{nat_tests, Decides-eqb}
use Rattle.std.proofs.lemmas.Cmp.{nat_eq_equiv}
use Rattle.std.proofs.lemmas.Option.{none-some}
use Rattle.nob_pins.specs.Bundles.{count_of}
use Rattle.nob_table_rows.specs.Standings.{is_live, is_unheld}
use Rattle.nob_table.specs.Table.{standing, own, is_kept, is_spare_at, NeverSpare, IsFirstSpare}
use Rattle.nob_model_types.specs.declared.answer.Answer.TheVariants as answers
use Rattle.nob_model_types.specs.declared.refusal.Refusal.{Refusal}
use Rattle.nob_ids.specs.declared.limits.Limits.{Limits}
use Rattle.nob_ids.specs.declared.wire_rep.WireRep.{WireRep}
use Rattle.nob_model_session.specs.End.{transmitted}
use Rattle.nob_model_session.specs.Right.{right_front, right_transmit}
use Rattle.nob_session.specs.declared.due.Due.TheVariants.{Nothing}
use Rattle.nob_session.specs.Dues.{due_of}
use Rattle.nob_model_types.specs.declared.deed.Deed.{Deed}
use Rattle.nob_model_types.specs.Sessions.{is_peer}
use Rattle.nob_model_work.specs.declared.work.Outstanding.{Outstanding}
use Rattle.nob_model_history.specs.declared.history.History.{History}
use Rattle.nob_model_history.specs.Ends.{calls_at}
use Rattle.nob_model_history.specs.Histories.{history_of}
use Rattle.nob_model_acting.specs.Candidates.{is_free}
use Rattle.nob_model_history.specs.Transit.{is_some_of}
use Rattle.nob_model.specs.Next.{can_act, can_send, can_claim, to_withdraw}
use Rattle.nob_model.specs.Right.{own_ref, right_withdraw}
use Rattle.nob_model_acting.specs.Sending.{unless}
use Rattle.nob_model.proofs.Possible.{least_law}
use Rattle.nob_space_state.specs.Judging.{withdraw_refusal}
use Rattle.nob_space_state.specs.Looks.{has_closed, has_clients, has_holds, is_used}
use Rattle.nob_space_state.specs.Dues.{due}
use Rattle.nob_space_state.specs.Parts.{State}
use Rattle.nob_space_state.specs.Stands.{Stands}
use Rattle.nob_space_state.proofs.Exported.{withdraw_passes, withdraw_right}
use Rattle.nob_space_state.proofs.Kept.{is_used_there, users_there}
use Rattle.nob_space_state.proofs.Rows.{differ}
use Rattle.nob_space_state.proofs.Told.{closed_there}

-- something is there where something else was made of it
pub mapped_some : {A B : Type 0} (f : A → B) (found : Option A) → is_some found ≡ is_some (option_map f found)
mapped_some f (Some x) = refl
mapped_some f None = refl

-- there is an item to act on where the inbox of an open session has a front
pub act_there : {s n : ℕ} {limits : Limits} {st : State} {D : List Deed} → Stands s n limits st D → (p : ℕ) → is_peer s n p ≡ true → has_closed st.sessions p ≡ false → can_act s n p (history_of s n D) ≡ is_some (right_front (calls_at p (history_of s n D)))
act_there {s} {n} {limits} {st} {D} stands p peer still = rw (peer, sym (closed_there stands p), still) refl

-- there is none of a session that has closed
pub act_shut : {s n : ℕ} {limits : Limits} {st : State} {D : List Deed} → Stands s n limits st D → (p : ℕ) → is_peer s n p ≡ true → has_closed st.sessions p ≡ true → false ≡ can_act s n p (history_of s n D)
act_shut {s} {n} {limits} {st} {D} stands p peer cut = sym (rw (peer, sym (closed_there stands p), cut) refl)

-- whether something is there, as a look says that tells the empty list from all others
pub some_by : {A : Type 0} (b : Bool) (xs : List A) → (b ≡ true → xs ≢ []) → (b ≡ false → xs ≡ []) → b ≡ is_some_of xs
some_by true [] some none = absurd (some refl refl)
some_by true (x ∷ xs) some none = refl
some_by false xs some none = sym (ap is_some_of (none refl))

-- whether a Transmit to a peer would give a frame is told by the calls on the end with it
pub send_there : (s n p window : ℕ) (h : History) → is_peer s n p ≡ true → can_send s n p window h ≡ is_some_of (right_transmit s p window (calls_at p h))
send_there s n p window h peer = rw peer refl

-- what a Transmit to a peer would give is told by the calls on the end with it
pub due_there : (s n p window : ℕ) (h : History) → is_peer s n p ≡ true → due s n p window h ≡ due_of (transmitted (calls_at p h)) (right_transmit s p window (calls_at p h))
due_there s n p window h peer = rw peer refl

-- a Transmit to who is no peer would give nothing
pub due_no_peer : (s n p window : ℕ) (h : History) → is_peer s n p ≡ false → due s n p window h ≡ Nothing
due_no_peer s n p window h stranger = rw stranger refl

-- there is a job to claim where a ready one is free
pub claim_there : {s n : ℕ} {limits : Limits} {st : State} {D : List Deed} → Stands s n limits st D → is_some (find (is_free st.work) st.work.ready) ≡ can_claim (history_of s n D)
claim_there {s} {n} {limits} {st} {D} stands = ap (λ (W : Outstanding). is_some (find (is_free W) W.ready)) stands.work

-- ---- the object to withdraw

-- what is kept from outside is used there
abbrev pub KeptAreUsed : (s : ℕ) → State → Type 0
KeptAreUsed s st = (rep : WireRep) → is_kept st.table rep ≡ true → is_used s st.pins.bundles st.dirty rep ≡ true

-- an object that may be withdrawn is live, without holds and not kept from outside
pub spare_where : (s : ℕ) (st : State) (index : ℕ) → st.table.me ≡ s → KeptAreUsed s st → withdraw_refusal s st index ≡ None → is_spare_at st.table index ≡ true
unfolding withdraw_refusal
spare_where s st index me kept free =
    let passes : (is_live (standing st.table (own_ref s index)).state ≡ true) × (has_holds st.table (own_ref s index) ≡ false) × (not (count_of st.pins.bundles (own_ref s index) == 0) ≡ false) × (has_clients st.dirty index ≡ false) =
    withdraw_passes (index == 0) (is_live (standing st.table (own_ref s index)).state) (has_holds st.table (own_ref s index)) (not (count_of st.pins.bundles (own_ref s index) == 0)) (has_clients st.dirty index)
    (sym (rw (nat_eq_equiv.refl s) refl) ∙ free) in
    let unheld : is_unheld (standing st.table (own st.table index)) ≡ true = subst (λ (k : ℕ). is_unheld (standing st.table (own_ref k index)) ≡ true) (sym me) (rw (passes.0, passes.1) refl) in
    let unused : is_used s st.pins.bundles st.dirty (own_ref s index) ≡ false = rw (passes.2, nat_eq_equiv.refl s, passes.3) refl in
    elim (is_kept st.table (own st.table index)) as (λ b. is_kept st.table (own st.table index) ≡ b → (is_unheld (standing st.table (own st.table index)) && not b) ≡ true) [
      | true ↦ λ is. absurd (differ (kept (own_ref s index) (subst (λ (k : ℕ). is_kept st.table (own_ref k index) ≡ true) me is)) unused)
      | false ↦ λ _. rw (unheld) refl
    ] refl

-- every index below one is refused
abbrev pub AreRefusedBelow : (s : ℕ) → State → ℕ → Type 0
AreRefusedBelow s st from = st.table.me ≡ s → KeptAreUsed s st → (index : ℕ) → index < from → withdraw_refusal s st index ≡ None → ⊥

-- one step further: the indexes that were passed are refused, and so is the one that was found
pub refused_more : (s : ℕ) (st : State) (from index : ℕ) (refusal : Refusal) → IsFirstSpare st.table from index → withdraw_refusal s st index ≡ Some refusal → AreRefusedBelow s st from → AreRefusedBelow s st (index + 1)
refused_more s st from index refusal first refused below = λ me kept other low free.
    elim (other == index) as (λ b. other == index ≡ b → ⊥) [
      | true ↦ λ same. let is : other ≡ index = (Decides-eqb other index).0 same in none-some refusal (sym (subst (λ k. withdraw_refusal s st k ≡ None) is free) ∙ refused)
      | false ↦ λ differs. elim (nat_lt other from) as (λ b. nat_lt other from ≡ b → ⊥) [
        | true ↦ λ lower. below me kept other (grind (arith, nat_tests, lower)) free
        | false ↦ λ higher. differ (spare_where s st other me kept free) (first.2 other (grind (arith, nat_tests, higher)) (grind (arith, nat_tests, low, differs)))
      ] refl
    ] refl

none_unless : (refusal : Option Refusal) → unless refusal answers.Withdrawn ≡ Ok answers.Withdrawn → refusal ≡ None
none_unless None e = refl
none_unless (Some refusal) e = absurd (cc)

module _ {s n : ℕ} {limits : Limits} {st : State} {D : List Deed} (stands : Stands s n limits st D) where
  -- an object that Withdraw takes isn't refused
  taken_free : (index : ℕ) → right_withdraw s index (history_of s n D) ≡ Ok answers.Withdrawn → withdraw_refusal s st index ≡ None
  taken_free index is = none_unless (withdraw_refusal s st index) (sym (withdraw_right stands index) ∙ is)

  pub kept_there : KeptAreUsed s st
  kept_there rep kept = is_used_there s st.pins.bundles st.dirty rep (users_there stands st.table stands.table.kept rep kept)

  -- the first one that isn't refused
  pub least_there : (from index : ℕ) → IsFirstSpare st.table from index → withdraw_refusal s st index ≡ None → AreRefusedBelow s st from → to_withdraw s (history_of s n D) ≡ Some index
  least_there from index first free below =
      let it : right_withdraw s index (history_of s n D) ≡ Ok answers.Withdrawn = withdraw_right stands index ∙ ap (λ r. unless r answers.Withdrawn) free in
      let least : (other : ℕ) → right_withdraw s other (history_of s n D) ≡ Ok answers.Withdrawn → index ≤ other = λ other is.
      elim (nat_lt other index) as (λ b. nat_lt other index ≡ b → index ≤ other) [
        | true ↦ λ lower. absurd (elim (nat_lt other from) as (λ b. nat_lt other from ≡ b → ⊥) [
          | true ↦ λ low. below stands.table.me kept_there other (grind (arith, nat_tests, low)) (taken_free other is)
          | false ↦ λ higher. differ (spare_where s st other stands.table.me kept_there (taken_free other is)) (first.2 other (grind (arith, nat_tests, higher)) (grind (arith, nat_tests, lower)))
        ] refl)
        | false ↦ λ higher. grind (arith, nat_tests, higher)
      ] refl in
      elim (to_withdraw s (history_of s n D)) as (λ found. MatchOption found ((other : ℕ) → right_withdraw s other (history_of s n D) ≢ Ok answers.Withdrawn) (λ i. (right_withdraw s i (history_of s n D) ≡ Ok answers.Withdrawn) × ((other : ℕ) → right_withdraw s other (history_of s n D) ≡ Ok answers.Withdrawn → i ≤ other)) → found ≡ Some index) [
        | None ↦ λ nowhere. absurd (nowhere index it)
        | Some i ↦ λ found. let low = found.1 index it in let high = least i found.0 in ap (λ k. Some k) (omega (arith, low, high))
      ] (least_law s (history_of s n D))

  -- none that isn't refused
  pub none_there : (from : ℕ) → NeverSpare st.table from → AreRefusedBelow s st from → to_withdraw s (history_of s n D) ≡ None
  none_there from never below =
      elim (to_withdraw s (history_of s n D)) as (λ found. MatchOption found ((other : ℕ) → right_withdraw s other (history_of s n D) ≢ Ok answers.Withdrawn) (λ i. (right_withdraw s i (history_of s n D) ≡ Ok answers.Withdrawn) × ((other : ℕ) → right_withdraw s other (history_of s n D) ≡ Ok answers.Withdrawn → i ≤ other)) → found ≡ None) [
        | None ↦ λ _. refl
        | Some i ↦ λ found. absurd (elim (nat_lt i from) as (λ b. nat_lt i from ≡ b → ⊥) [
          | true ↦ λ low. below stands.table.me kept_there i (grind (arith, nat_tests, low)) (taken_free i found.0)
          | false ↦ λ higher. differ (spare_where s st i stands.table.me kept_there (taken_free i found.0)) (never i (grind (arith, nat_tests, higher)))
        ] refl)
      ] (least_law s (history_of s n D))
