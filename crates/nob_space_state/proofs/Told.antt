-- Looks at a state tell words of each list that it stands for.
use Rattle.std.proofs.Common.{◌≡◌, ℕ, ◌+◌, ◌-◌, ◌≤◌, true, false, not, ◌&&◌, ◌||◌, ◌==◌, List, slice_get, Some, None, if◌then◌else◌, inl, inr, refl, sym, ap, subst, ◌∙◌, arith}
use Rattle.std.proofs.lemmas.Option.{slice_get_cases, none-some}
use Rattle.std.proofs.lemmas.Bool.Decides.{nat_tests, Decides-eqb}
use Rattle.nob_ids.specs.Names.{is_counted}
use Rattle.nob_ids.specs.declared.limits.Limits.{Limits}
use Rattle.nob_ids.specs.declared.wire_rep.WireRep.{WireRep}
use Rattle.nob_session.specs.Stands.{End, Roomy, is_open_end}
use Rattle.nob_session.proofs.Alike.{onward_is}
use Rattle.nob_table_rows.specs.Counts as counts
use Rattle.nob_table.specs.Table.{standing}
use Rattle.nob_table_rows.specs.Standings as standings
use Rattle.nob_model_session.specs.End.{is_open}
use Rattle.nob_model_types.specs.declared.deed.Deed.{Deed}
use Rattle.nob_model_types.specs.Objects as objects
use Rattle.nob_model_types.specs.Sessions.{is_peer, closed, number}
use Rattle.nob_model_types.specs.declared.message.Message.{Message}
use Rattle.nob_model_history.proofs.Sessions.{number_is}
use Rattle.nob_model_history.specs.Histories.{history_of}
use Rattle.nob_model_history.specs.Ends.{calls_at}
use Rattle.nob_model_history.specs.Holds.{is_held, hand, times, gains, releases, lent_in}
use Rattle.nob_model_acting.specs.Sending.{is_gone}
use Rattle.nob_model.specs.Right.{own_ref}
use Rattle.nob_model.specs.Right as right
use Rattle.nob_space_state.specs.Parts.{State}
use Rattle.nob_space_state.specs.Looks.{is_closed_end, has_closed, number_of, number_with, has_ended}
use Rattle.nob_space_state.proofs.Orderly.{orderly}
use Rattle.nob_space_state.specs.Stands.{Stands}
use Rattle.nob_model_history.proofs.Inbox.{open_calls}

-- where a session hasn't ended its end is open
pub still_there : (sessions : List Roomy) (p k : ℕ) → has_ended sessions p k ≡ false → has_closed sessions p ≡ false
still_there sessions p k still = elim (has_closed sessions p) as (λ b. (b || not (k == number_with sessions p)) ≡ false → b ≡ false) [ true ↦ λ e. e | false ↦ λ _. refl ] still

-- nothing is held where neither part has any
counts_held : (g l r : ℕ) → r ≤ g → not ((g - r) == 0 && l == 0) ≡ not ((g + l) - r == 0)
counts_held g l r low = grind (arith, nat_tests, low)

-- an own reference is that of its index
pub own_is : (rep : WireRep) (s : ℕ) → rep.owner == s ≡ true → rep ≡ own_ref s rep.index
own_is rep s own =
    let owner : rep.owner ≡ s = (Decides-eqb rep.owner s).0 own in
    λ i. record { owner = owner i; index = rep.index }

module _ {s n : ℕ} {limits : Limits} {st : State} {D : List Deed} (stands : Stands s n limits st D) where
  -- the end at a place is open exactly where the session hasn't closed
  pub ended_there : (p : ℕ) (end : Roomy) → 1 ≤ p → slice_get st.sessions (p - 1) ≡ Some end → not (is_open_end end.end) ≡ closed p D
  ended_there p end low there =
      let place : p - 1 + 1 ≡ p = omega (arith, low) in
      let is : is_open_end end.end ≡ is_open (calls_at (p - 1 + 1) (history_of s n D)) = ap is_open_end (onward_is (stands.ends.ends (p - 1) end there)) in
      let still : is_open_end end.end ≡ not (closed p D) = is ∙ open_calls s n (p - 1 + 1) D ∙ ap (λ q. not (closed q D)) place in
      elim (closed p D) as (λ b. is_open_end end.end ≡ not b → not (is_open_end end.end) ≡ b) [ true ↦ λ e. rw e refl | false ↦ λ e. rw e refl ] still

  -- a space that has no place is no peer
  pub no_peer : (p : ℕ) → 1 ≤ p → slice_get st.sessions (p - 1) ≡ None → is_peer s n p ≡ false
  no_peer p low nowhere = elim (slice_get_cases st.sessions (p - 1)).1 [
    | inl found ↦ absurd (none-some found.0 (sym nowhere ∙ found.2))
    | inr past ↦ let far : n ≤ p - 1 = subst (λ k. k ≤ p - 1) stands.ends.each past.0 in grind (arith, nat_tests, low, far)
  ]

  -- 0 is no peer
  nobody : (p : ℕ) → p == 0 ≡ true → is_peer s n p ≡ false
  nobody p none = grind (arith, nat_tests, none)

  -- the same at its place
  closed_at : (p : ℕ) → 1 ≤ p → is_closed_end (slice_get st.sessions (p - 1)) ≡ closed p D
  closed_at p low =
      elim (slice_get st.sessions (p - 1)) as (λ end. slice_get st.sessions (p - 1) ≡ end → is_closed_end end ≡ closed p D) [
        | Some end ↦ λ there. ended_there p end low there
        | None ↦ λ nowhere. sym ((orderly stands).strangers p (no_peer p low nowhere))
      ] refl

  -- the end with a space has closed exactly where the session has: one without a place never had a session
  pub closed_there : (p : ℕ) → has_closed st.sessions p ≡ closed p D
  closed_there p = elim (p == 0) as (λ z. p == 0 ≡ z → is_closed_end (if z then None else slice_get st.sessions (p - 1)) ≡ closed p D) [
    | true ↦ λ none. sym ((orderly stands).strangers p (nobody p none))
    | false ↦ λ some. closed_at p (grind (arith, nat_tests, some))
  ] refl

  -- the end at a place is in the session with its space
  number_at : (p : ℕ) → 1 ≤ p → is_peer s n p ≡ true → number_of (slice_get st.sessions (p - 1)) ≡ number p D
  number_at p low peer =
      let place : p - 1 + 1 ≡ p = omega (arith, low) in
      elim (slice_get st.sessions (p - 1)) as (λ end. slice_get st.sessions (p - 1) ≡ end → number_of end ≡ number p D) [
        | Some end ↦ λ there. ap (λ (e : End). e.number) (onward_is (stands.ends.ends (p - 1) end there)) ∙ number_is s n (p - 1 + 1) D ∙ ap (λ (q : ℕ). number q D) place
        | None ↦ λ nowhere. let bad : true ≡ false = sym peer ∙ no_peer p low nowhere in absurd (cc)
      ] refl

  -- the end with a peer is in the session with it
  pub number_there : (p : ℕ) → is_peer s n p ≡ true → number_with st.sessions p ≡ number p D
  number_there p peer = elim (p == 0) as (λ z. p == 0 ≡ z → number_of (if z then None else slice_get st.sessions (p - 1)) ≡ number p D) [
    | true ↦ λ none. let bad : true ≡ false = sym peer ∙ nobody p none in absurd (cc)
    | false ↦ λ some. number_at p (grind (arith, nat_tests, some)) peer
  ] refl

  -- the session of a message from a peer has ended where its end tells so
  pub over_there : (message : Message) → is_peer s n message.from ≡ true → has_ended st.sessions message.from message.session ≡ right.has_ended message (history_of s n D)
  over_there message peer = λ i. closed_there message.from i || not (message.session == number_there message.from peer i)

  -- the counts of a counted reference are its holds
  pub held_there : (rep : WireRep) → is_counted rep ≡ true → counts.is_held (standing st.table rep).counts ≡ is_held s rep (history_of s n D)
  held_there rep counted =
      let hand_is : (standing st.table rep).counts.hand ≡ hand rep D = stands.table.hands rep counted in
      let on_loan : (standing st.table rep).counts.lent ≡ times rep (lent_in s (history_of s n D).work) = stands.table.loans rep counted in
      rw (hand_is, on_loan) (counts_held (times rep (gains D)) (times rep (lent_in s (history_of s n D).work)) (times rep (releases D)) ((orderly stands).released rep counted))

  -- an own reference is live where the table has it so
  pub gone_there : (rep : WireRep) → not (rep.index == 0) && ((rep.owner == s) && not (standings.is_live (standing st.table rep).state)) ≡ (is_counted rep && is_gone s rep (history_of s n D))
  gone_there rep =
      elim (rep.owner == s) as (λ b. rep.owner == s ≡ b → not (rep.index == 0) && (b && not (standings.is_live (standing st.table rep).state)) ≡ not (rep.index == 0) && (b && not (objects.is_live s rep.index D))) [
        | true ↦ λ own.
            let is : rep ≡ own_ref s rep.index = own_is rep s own in
            let live : standings.is_live (standing st.table rep).state ≡ objects.is_live s rep.index D = ap (λ (w : WireRep). standings.is_live (standing st.table w).state) is ∙ stands.table.live rep.index in
            rw live refl
        | false ↦ λ other. refl
      ] refl
