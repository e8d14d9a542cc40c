-- What a call on one end leaves: the ends, and the state with one deed more that is nothing but that call.
use Rattle.std.proofs.Common.{◌≡◌, ℕ, ◌+◌, ◌-◌, ◌≤◌, true, false, not, ◌&&◌, ◌==◌, List, [], ◌∷◌, length, map, get_or, slice_get, Some, None, Ok, Err, if◌then◌else◌, refl, sym, ap, subst, ◌∙◌, arith}
use Prim.Native.Nat.{zero, suc}
use lib.ListN.{set}
use Rattle.std.specs.List.{sum_by, list_any}
use Rattle.std.proofs.lemmas.List.{length-set}
use Rattle.std.proofs.lemmas.Option.{slice_get_read}
use Rattle.std.proofs.lemmas.Cmp.{nat_eq_equiv}
use Rattle.nob_model_types.specs.declared.answer.Answer.TheVariants as answers
use Rattle.nob_model_types.specs.declared.refusal.Refusal.TheVariants as refusals
use Rattle.nob_model_session.specs.Right.{right_transmit}
use Rattle.std.proofs.lemmas.Bool.Decides.{nat_tests, Decides-eqb}
use Rattle.nob_ids.specs.Names.{is_same}
use Rattle.nob_table_rows.proofs.Flat.{get_set_other}
use Rattle.nob_table_rows.specs.Standings as standings
use Rattle.nob_model_session.specs.declared.entry.Arrived.TheVariants as arrived
use Rattle.nob_model_session.specs.declared.entry.EndEntry.{EndEntry}
use Rattle.nob_model_session.specs.declared.entry.EndEntry.TheVariants as ends
use Rattle.nob_model.specs.Right.{own_ref}
use Rattle.nob_space_state.proofs.Rows.{differ}
use Rattle.nob_ids.specs.declared.limits.Limits.{Limits}
use Rattle.nob_ids.specs.declared.wire_rep.WireRep.{WireRep}
use Rattle.nob_frame.specs.declared.frame.Frame.{Frame}
use Rattle.nob_session.specs.Onward.{StandsOnward}
use Rattle.nob_session.specs.Stands.{End, Roomy}
use Rattle.nob_table_rows.specs.Counts.{is_held}
use Rattle.nob_table.specs.Table.{standing}
use Rattle.nob_model_types.specs.declared.deed.Deed.{Deed}
use Rattle.nob_model_types.specs.declared.deed.Deed.TheVariants.{Transmit, Tick, Arrive}
use Rattle.nob_model_types.specs.Objects as objects
use Rattle.nob_model_types.specs.Sessions.{closed, is_peer}
use Rattle.nob_model_types.specs.Turns.{turns}
use Rattle.nob_model_types.specs.Messages.{copy_after, message_after}
use Rattle.nob_model_work.specs.Work.{work, work_after, with_loans, run_after}
use Rattle.nob_model_work.specs.Gifts.{gifts, gifts_of}
use Rattle.nob_model_history.specs.declared.history.History.{History}
use Rattle.nob_model_history.specs.Histories.{history_of}
use Rattle.nob_model_history.specs.Ends.{calls_at}
use Rattle.nob_model_history.specs.Holds.{times, lent_in, gains, releases}
use Rattle.nob_model_history.specs.Listing.{is_listed}
use Rattle.nob_model_history.specs.Transit as transit
use Rattle.nob_model.specs.Right.{calls_made, jobs_made, right_frames}
use Rattle.nob_space_state.specs.Parts.{State, with_sessions}
use Rattle.nob_model.specs.Lists.{IsRightDeed}
use Rattle.nob_space_state.specs.Shows.{far_state}
use Rattle.nob_space_state.specs.Stands.{Stands, EndsStand, bundle}
use Rattle.nob_space_state.proofs.Awaited.{same_lost, still_awaited}
use Rattle.nob_model.proofs.Made.{loans_made}
use Rattle.nob_space_state.proofs.Marked.{used_still}

-- one element changes
pub set_here : {X : Type 0} (xs : List X) (at : ℕ) (y z : X) → slice_get (set xs at y) at ≡ Some z → z ≡ y
set_here [] at y z there = absurd (cc)
set_here (x ∷ xs) zero y z there = cc
set_here (x ∷ xs) (suc at) y z there = set_here xs at y z there

-- the ends with one changed
pub ends_changed : (s n : ℕ) (limits : Limits) (ends : List Roomy) (h h' : History) (p : ℕ) (new : Roomy) → EndsStand s n limits ends h → 1 ≤ p
    → StandsOnward s p limits new.end (calls_at p h') → ((q : ℕ) → q == p ≡ false → calls_at q h ≡ calls_at q h') → EndsStand s n limits (set ends (p - 1) new) h'
ends_changed s n limits ends h h' p new stands low here elsewhere = record {
  each = length-set ends (p - 1) new ∙ stands.each;
  ends = λ place end there. elim (place == p - 1) as (λ b. place == p - 1 ≡ b → StandsOnward s (place + 1) limits end.end (calls_at (place + 1) h')) [
    | true ↦ λ same.
        let at : place ≡ p - 1 = (Decides-eqb place (p - 1)).0 same in
        let is : end ≡ new = set_here ends (p - 1) new end (subst (λ k. slice_get (set ends (p - 1) new) k ≡ Some end) at there) in
        subst (λ q. StandsOnward s q limits end.end (calls_at q h')) (omega (arith, at, low)) (subst (λ (e : Roomy). StandsOnward s p limits e.end (calls_at p h')) (sym is) here)
    | false ↦ λ differs.
        let apart : place ≡ p - 1 → ⊥ = λ same. differ ((Decides-eqb place (p - 1)).1 same) differs in
        let before : slice_get ends place ≡ Some end = sym (get_set_other ends (p - 1) place new apart) ∙ there in
        subst (λ calls. StandsOnward s (place + 1) limits end.end calls) (elsewhere (place + 1) (grind (arith, nat_tests, differs, low))) (stands.ends place end before)
  ] refl;
}

-- the ends with one in its place that is the same end
pub ends_kept : (s n : ℕ) (limits : Limits) (ends : List Roomy) (h : History) (p : ℕ) (old new : Roomy) → EndsStand s n limits ends h → 1 ≤ p
    → slice_get ends (p - 1) ≡ Some old → new.end ≡ old.end → EndsStand s n limits (set ends (p - 1) new) h
ends_kept s n limits ends h p old new stands low there same =
    let at : p - 1 + 1 ≡ p = omega (arith, low) in
    ends_changed s n limits ends h h p new stands low (subst (λ (e : End). StandsOnward s p limits e (calls_at p h)) (sym same) (subst (λ q. StandsOnward s q limits old.end (calls_at q h)) at (stands.ends (p - 1) old there))) (λ q other. refl)

-- what a deed leaves that is nothing but a call on one end
pub record IsStill (s n : ℕ) (deed : Deed) (D : List Deed) : Type 0 where
  pub closed : (p : ℕ) → closed p (deed ∷ D) ≡ closed p D
  pub turns : (rep : WireRep) → turns s n rep (deed ∷ D) ≡ turns s n rep D
  pub exports : objects.exports (deed ∷ D) ≡ objects.exports D
  pub withdrawn : (index : ℕ) → objects.is_withdrawn index (deed ∷ D) ≡ objects.is_withdrawn index D
  pub gains : gains (deed ∷ D) ≡ gains D
  pub releases : releases (deed ∷ D) ≡ releases D
  pub listed : (index client : ℕ) → is_listed s index client (deed ∷ D) ≡ is_listed s index client D
  pub bundles : transit.bundles (history_of s n (deed ∷ D)) ≡ transit.bundles (history_of s n D)
  pub dirties : transit.dirties (history_of s n (deed ∷ D)) ≡ transit.dirties (history_of s n D)
  pub work : work s n (deed ∷ D) ≡ work s n D
  pub calls_made : calls_made (deed ∷ D) ≡ calls_made D
  pub jobs_made : jobs_made (deed ∷ D) ≡ jobs_made D

pub transmit_is_still : (s n p : ℕ) (frames : List Frame) (D : List Deed) → IsStill s n (Transmit p frames) D
unfolding gifts gifts_of work_after with_loans message_after run_after copy_after
transmit_is_still s n p frames D = record {
  closed = λ p. refl;
  turns = λ rep. refl;
  exports = refl;
  withdrawn = λ index. refl;
  gains = refl;
  releases = refl;
  listed = λ index client. refl;
  bundles = refl;
  dirties = refl;
  work = loans_made s n D;
  calls_made = refl;
  jobs_made = refl;
}

pub tick_is_still : (s n p : ℕ) (D : List Deed) → IsStill s n (Tick p) D
unfolding gifts gifts_of work_after with_loans message_after run_after copy_after
tick_is_still s n p D = record {
  closed = λ p. refl;
  turns = λ rep. refl;
  exports = refl;
  withdrawn = λ index. refl;
  gains = refl;
  releases = refl;
  listed = λ index client. refl;
  bundles = refl;
  dirties = refl;
  work = loans_made s n D;
  calls_made = refl;
  jobs_made = refl;
}

pub arrive_is_still : (s n : ℕ) (frame : Frame) (count : ℕ) (D : List Deed) → IsStill s n (Arrive frame count) D
unfolding gifts gifts_of work_after with_loans message_after run_after copy_after
arrive_is_still s n frame count D = record {
  closed = λ p. refl;
  turns = λ rep. refl;
  exports = refl;
  withdrawn = λ index. refl;
  gains = refl;
  releases = refl;
  listed = λ index client. refl;
  bundles = refl;
  dirties = refl;
  work = loans_made s n D;
  calls_made = refl;
  jobs_made = refl;
}

-- a deed is nothing but this call on the end with p
abbrev pub IsOneCall : (s n p : ℕ) → Deed → EndEntry → List Deed → Type 0
IsOneCall s n p deed entry D = (q : ℕ) → calls_at q (history_of s n (deed ∷ D)) ≡ (if p == q then entry ∷ calls_at q (history_of s n D) else calls_at q (history_of s n D))

pub transmit_calls : (s n p : ℕ) (frames : List Frame) (D : List Deed) → IsOneCall s n p (Transmit p frames) (ends.Transmit frames) D
unfolding gifts gifts_of
transmit_calls s n p frames D = λ q. refl

pub tick_calls : (s n p : ℕ) (D : List Deed) → IsOneCall s n p (Tick p) (ends.Tick (Ok None)) D
unfolding gifts gifts_of
tick_calls s n p D = λ q. refl

pub arrive_calls : (s n : ℕ) (frame : Frame) (count : ℕ) (D : List Deed) → IsOneCall s n frame.from (Arrive frame count) (ends.Arrive frame (Ok (arrived.Took count))) D
unfolding gifts gifts_of
arrive_calls s n frame count D = λ q. refl

module _ {s n : ℕ} {limits : Limits} {st : State} {deed : Deed} {D : List Deed} (still : IsStill s n deed D) (stands : Stands s n limits st D) where
  -- a state with other ends
  pub stands_still : (sessions : List Roomy) → EndsStand s n limits sessions (history_of s n (deed ∷ D)) → IsRightDeed s n limits deed D
      → Stands s n limits (with_sessions sessions st) (deed ∷ D)
  stands_still sessions ends_stand its =
      record {
        ends = ends_stand;
        table = record {
          me = stands.table.me;
          exported = stands.table.exported ∙ ap length (sym still.exports);
          live = λ index. stands.table.live index ∙ sym (λ i. list_any (is_same (own_ref s index)) (still.exports i) && not (still.withdrawn index i));
          far = λ rep counted own. stands.table.far rep counted own
              ∙ ap (λ b. far_state b (is_held (standing st.table rep).counts) (turns s n rep D)) (sym (still.closed rep.owner))
              ∙ ap (λ w. far_state (closed rep.owner (deed ∷ D)) (is_held (standing st.table rep).counts) w) (sym (still.turns rep));
          hands = λ rep counted. stands.table.hands rep counted ∙ sym (λ i. times rep (still.gains i) - times rep (still.releases i));
          loans = λ rep counted. stands.table.loans rep counted ∙ ap (λ w. times rep (lent_in s w)) (sym still.work);
          passed = stands.table.passed;
          dirties = stands.table.dirties ∙ ap length (sym still.dirties);
          places = λ rep. stands.table.places rep ∙ ap (λ reps. if standings.is_surrogate (standing st.table rep).state then transit.last_place rep reps else None) (sym still.dirties);
          kept = used_still s st.table st.table (history_of s n D) (history_of s n (deed ∷ D)) (λ rep. refl) still.bundles still.listed stands.table.kept;
        };
        listed = λ index client. stands.listed index client ∙ sym (still.listed index client);
        pins = λ f. stands.pins f ∙ ap (λ items. sum_by f (map bundle items)) (sym still.bundles);
        work = stands.work ∙ sym still.work;
        awaited = still_awaited s n st.awaited st.work.waiting D (deed ∷ D) stands.awaited (λ rep. same_lost s n rep D (deed ∷ D) (still.closed rep.owner) (still.turns rep));
        calls = stands.calls ∙ sym still.calls_made;
        jobs = stands.jobs ∙ sym still.jobs_made;
        right = (its, stands.right);
      }

-- the end with a peer stands in its place
pub end_there : (s n : ℕ) (limits : Limits) (ends : List Roomy) (h : History) (p : ℕ) (end : Roomy) → EndsStand s n limits ends h → is_peer s n p ≡ true → end ≡ get_or ends (p - 1) end
    → (1 ≤ p) × (slice_get ends (p - 1) ≡ Some end) × StandsOnward s p limits end.end (calls_at p h)
end_there s n limits ends h p end stands peer is =
    let low : 1 ≤ p = grind (arith, nat_tests, peer) in
    let high : p ≤ n = grind (arith, nat_tests, peer) in
    let there : slice_get ends (p - 1) ≡ Some end = slice_get_read ends n (p - 1) end (sym stands.each) (omega (arith, low, high)) is in
    let at : p - 1 + 1 ≡ p = omega (arith, low) in
    (low, there, subst (λ q. StandsOnward s q limits end.end (calls_at q h)) at (stands.ends (p - 1) end there))

-- the end that was read at a peer's place
pub at_peer : (ends : List Roomy) (k p : ℕ) (end : Roomy) → k ≡ p - 1 → end ≡ get_or ends k end → end ≡ get_or ends (p - 1) end
at_peer ends k p end same is = subst (λ j. end ≡ get_or ends j end) same is

-- what is right for a Transmit
pub frames_right : (s n p window : ℕ) (h : History) → is_peer s n p ≡ true → right_frames s n p window h ≡ Ok (answers.Frames (right_transmit s p window (calls_at p h)))
unfolding right_frames
frames_right s n p window h peer = rw peer refl

pub frames_no_peer : (s n p window : ℕ) (h : History) → is_peer s n p ≡ false → right_frames s n p window h ≡ Err refusals.NoPeer
unfolding right_frames
frames_no_peer s n p window h stranger = rw stranger refl

module _ {s n : ℕ} {limits : Limits} {st : State} {D : List Deed} (stands : Stands s n limits st D) (p : ℕ) (old new : Roomy) (peer : is_peer s n p ≡ true) (is : old ≡ get_or st.sessions (p - 1) old) where
  -- a state with the same end in its place
  pub stands_kept : new.end ≡ old.end → Stands s n limits (with_sessions (set st.sessions (p - 1) new) st) D
  stands_kept same =
      let there = end_there s n limits st.sessions (history_of s n D) p old stands.ends peer is in
      record {
        ends = ends_kept s n limits st.sessions (history_of s n D) p old new stands.ends there.0 there.1 same;
        table = stands.table;
        listed = stands.listed;
        pins = stands.pins;
        work = stands.work;
        awaited = stands.awaited;
        calls = stands.calls;
        jobs = stands.jobs;
        right = stands.right;
      }

  -- after one call on that end
  pub called_stands : (deed : Deed) (entry : EndEntry) → IsStill s n deed D → IsOneCall s n p deed entry D → IsRightDeed s n limits deed D → StandsOnward s p limits new.end (entry ∷ calls_at p (history_of s n D)) → Stands s n limits (with_sessions (set st.sessions (p - 1) new) st) (deed ∷ D)
  called_stands deed entry still calls its after =
      let there = end_there s n limits st.sessions (history_of s n D) p old stands.ends peer is in
      let here : calls_at p (history_of s n (deed ∷ D)) ≡ entry ∷ calls_at p (history_of s n D) = calls p ∙ rw (nat_eq_equiv.refl p) refl in
      stands_still still stands (set st.sessions (p - 1) new)
      (ends_changed s n limits st.sessions (history_of s n D) (history_of s n (deed ∷ D)) p new stands.ends there.0
      (subst (λ calls. StandsOnward s p limits new.end calls) (sym here) after)
      (λ q other. sym (calls q ∙ rw (nat_eq_equiv.symm p q, other) refl)))
      its
