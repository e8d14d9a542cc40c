-- The state of a space whose life begins.
use Rattle.std.proofs.Common.{◌≡◌, ◌==◌, ℕ, ◌+◌, ◌-◌, ◌≤◌, ◌<◌, Bool, true, false, inl, inr, List, [], ◌∷◌, ◌++◌, length, map, ◌&&◌, nat_le, get_or, slice_get, Option, Some, None, Ok, max, replicate, if◌then◌else◌, refl, sym, ap, subst, ◌∙◌, arith}
use Rattle.std.proofs.lemmas.Option.{none-some, slice_get_within}
use Prim.Native.Nat.{zero, suc}
use Rattle.nob_ids.specs.Names.{most_spaces}
use Rattle.nob_ids.specs.declared.limits.Limits.{Limits}
use Rattle.nob_model_session.specs.declared.entry.EndEntry.{EndEntry}
use Rattle.nob_model_session.specs.declared.entry.EndEntry.TheVariants as calls
use Rattle.nob_model_session.specs.End.{number, seen, reach}
use Rattle.nob_session.specs.Stands as session
use Rattle.nob_session.specs.Stands.{End, Roomy}
use Rattle.nob_session.specs.Calls.{beginning}
use Rattle.nob_session.specs.Onward.{StandsOnward}
use Rattle.nob_session.proofs.Kept.{none_again}
use Rattle.std.proofs.lemmas.List.{nil_from_length, get_or-replicate}
use Rattle.std.proofs.lemmas.Bool.Decides.{nat_tests, Decides-eqb}
use Rattle.std.specs.List.{sum_by}
use Rattle.nob_ids.specs.declared.wire_rep.WireRep.{WireRep}
use Rattle.nob_dirty.specs.Sets.{ListsNothing}
use Rattle.nob_table_rows.specs.declared.standing.Standing.{Standing}
use Rattle.nob_table_rows.specs.declared.standing.State.TheVariants as states
use Rattle.nob_table_rows.specs.Counts.{is_held}
use Rattle.nob_table_rows.specs.Order.{place_in}
use Rattle.nob_table_rows.specs.Standings.{is_live, is_surrogate, unknown, withdrawn}
use Rattle.nob_table.specs.Table.{Table, standing, place_of, surrogate_total, is_kept, was_given}
use Rattle.nob_model_types.specs.declared.entry.Entry.{Entry}
use Rattle.nob_model_types.specs.declared.turns.Turns.{Turns}
use Rattle.nob_model_types.specs.Deeds.{deeds}
use Rattle.nob_model_types.specs.Sessions.{is_peer, closed}
use Rattle.nob_model_types.specs.Turns.{no_turns, turns, is_own}
use Rattle.nob_model_work.specs.declared.work.Outstanding.{Outstanding}
use Rattle.nob_model_work.specs.Work.{no_work, work}
use Rattle.nob_model_history.specs.Histories.{history, history_of}
use Rattle.nob_model_history.specs.Anew.{IsNewEnd, BeginsAnew}
use Rattle.nob_model_history.specs.Ends.{calls_at}
use Rattle.nob_model_history.specs.Holds.{times, lent_in}
use Rattle.nob_model_history.specs.Transit as transit
use Rattle.nob_model.proofs.Doing.{right_deeds}
use Rattle.nob_model_lives.specs.Births.{Birth, IsBorn, IsInRange, IsNewBirth, IsLaterBirth, new_birth}
use Rattle.nob_model_lives.proofs.Begin.{new_law}
use Rattle.nob_model_lives.proofs.Peers.{strangers_uncalled}
use Rattle.nob_space_messages.specs.Waiting.{is_due_in}
use Rattle.nob_space_state.specs.Shows.{behind, far_state}
use Rattle.nob_space_state.specs.Parts.{State}
use Rattle.nob_space_state.specs.Stands.{AreBegun, EndsStand, Stands, bundle, first_session}

-- ---- the ends

-- one end more
pub begun_push : (s p : ℕ) (numbers : ℕ → ℕ) (limits : Limits) (ends : List Roomy) (end : Roomy) (q : ℕ) → q ≡ p + length ends → AreBegun s numbers p limits ends
    → end.end ≡ beginning (first_session s numbers q) (session.end_of s q limits []) → AreBegun s numbers p limits (ends ++ end ∷ [])
begun_push s p numbers limits [] end q at begun new = (subst (λ w. end.end ≡ beginning (first_session s numbers w) (session.end_of s w limits [])) (at ∙ omega arith) new, tt)
begun_push s p numbers limits (first ∷ ends) end q at begun new = (begun.0, begun_push s (p + 1) numbers limits ends end q (at ∙ omega arith) begun.1 new)

-- the number in which an end begins isn't 0
pub first_low : (s n p : ℕ) (numbers : ℕ → ℕ) → ((q : ℕ) → is_peer s n q ≡ true → 1 ≤ numbers q) → 1 ≤ p → p ≤ n → 1 ≤ first_session s numbers p
first_low s n p numbers positive low high =
    elim (p == s) as (λ b. p == s ≡ b → 1 ≤ (if b then 1 else numbers p)) [
      | true ↦ λ own. omega arith
      | false ↦ λ other.
          let among : (nat_le 1 p && nat_le p n) ≡ true = grind (arith, nat_tests, low, high) in
          positive p (rw other among)
    ] refl

-- the end at a place
begun_at : (s p : ℕ) (numbers : ℕ → ℕ) (limits : Limits) (ends : List Roomy) (place : ℕ) (end : Roomy) → AreBegun s numbers p limits ends → slice_get ends place ≡ Some end
    → end.end ≡ beginning (first_session s numbers (p + place)) (session.end_of s (p + place) limits [])
begun_at s p numbers limits [] place end begun there = absurd (none-some end there)
begun_at s p numbers limits (first ∷ ends) zero end begun there =
    let is : first ≡ end = cc in
    subst (λ w. end.end ≡ beginning (first_session s numbers w) (session.end_of s w limits [])) (omega arith) (subst (λ (e : Roomy). e.end ≡ beginning (first_session s numbers p) (session.end_of s p limits [])) is begun.0)
begun_at s p numbers limits (first ∷ ends) (suc place) end begun there = subst (λ w. end.end ≡ beginning (first_session s numbers w) (session.end_of s w limits [])) (omega arith) (begun_at s (p + 1) numbers limits ends place end begun.1 there)

-- a new end of a session is the one that its opening leaves
opening_is : (s p k : ℕ) (limits : Limits) → beginning k (session.end_of s p limits []) ≡ session.end_of s p limits (calls.Reopen k (Ok tt) ∷ [])
opening_is s p k limits = ap (λ (early : List (Option (List ℕ))). record {
  me = s;
  peer = p;
  limits = limits;
  number = k;
  seen = 0;
  handed = 0;
  lowest = 1;
  unacknowledged = [];
  transmitted = 0;
  accepted = 0;
  came = 0;
  taken = 0;
  waiting = [];
  early = early;
  data_arrived = false;
  ticks = 0;
  ending = None;
  owes_close = false;
}) (none_again 1 reach k [])

-- it stands for every list of calls after which the end is in that session as at first, and no higher number has arrived
new_onward : (s p k : ℕ) (limits : Limits) (e : End) (L : List EndEntry) → e ≡ beginning k (session.end_of s p limits []) → IsNewEnd k L → seen L ≤ k → StandsOnward s p limits e L
new_onward s p k limits e L is new low =
    let latest : max k 0 ≡ max (number L) (seen L) = omega (arith, new.numbered, low) in
    record {
      calls = calls.Reopen k (Ok tt) ∷ [];
      stands = is ∙ opening_is s p k limits;
      alike = λ i. record {
        number = sym new.numbered i;
        latest = latest i;
        ending = sym new.is_up i;
        handed = sym new.none_handed i;
        lowest = sym new.first_lowest i;
        transmitted = sym new.none_transmitted i;
        accepted_count = sym new.none_counted i;
        payload = λ n. sym (new.no_payload n) i;
        accepted = sym new.none_accepted i;
        takes = sym new.none_taken i;
        data_arrived = sym new.none_arrived i;
        ticks = sym new.none_ticked i;
        owes_close = sym new.owes_none i;
      };
    }

uncalled_is_new : IsNewEnd 1 []
uncalled_is_new = record { numbered = refl; is_up = refl; none_handed = refl; first_lowest = refl; none_transmitted = refl; none_counted = refl; no_payload = λ j. refl; none_accepted = refl; none_taken = refl; none_ticked = refl; none_arrived = refl; owes_none = refl }

-- ---- the table

-- what a table that begins has of a reference: nothing, or that its object is withdrawn
abbrev at_first : Bool → Standing
at_first given = if given then withdrawn else unknown

first_not_live : (given : Bool) → is_live (at_first given).state ≡ false
first_not_live given = elim given as (λ b. is_live (at_first b).state ≡ false) [ true ↦ refl | false ↦ refl ]

first_no_surrogate : (given : Bool) → is_surrogate (at_first given).state ≡ false
first_no_surrogate given = elim given as (λ b. is_surrogate (at_first b).state ≡ false) [ true ↦ refl | false ↦ refl ]

first_no_hand : (given : Bool) → (at_first given).counts.hand ≡ 0
first_no_hand given = elim given as (λ b. (at_first b).counts.hand ≡ 0) [ true ↦ refl | false ↦ refl ]

first_no_loan : (given : Bool) → (at_first given).counts.lent ≡ 0
first_no_loan given = elim given as (λ b. (at_first b).counts.lent ≡ 0) [ true ↦ refl | false ↦ refl ]

first_far : (own given cut : Bool) (t : Turns) → own ≡ false → t ≡ no_turns → (at_first (own && given)).state ≡ far_state cut (is_held (at_first (own && given)).counts) t
first_far own given true t far none = rw far refl
first_far own given false t far none = rw (far, none) refl

-- a table without surrogates has no places
no_place : (t : Table) (rep : WireRep) → surrogate_total t ≡ 0 → place_of t rep ≡ None
no_place t rep none = ap (λ rows. place_in rows rep) (nil_from_length t.surrogates none)

-- ---- the state

-- what holds of the parts of a space whose life begins so
pub record AreFirst (s n : ℕ) (limits : Limits) (birth : Birth) (st : State) : Type 0 where
  pub each : length st.sessions ≡ n
  pub begun : AreBegun s birth.session 1 limits st.sessions
  pub me : st.table.me ≡ s
  pub exported : st.table.exported ≡ birth.indexes
  pub dirties : st.table.dirties ≡ 0
  pub surrogates : surrogate_total st.table ≡ 0
  pub nothing : (rep : WireRep) → standing st.table rep ≡ at_first (rep.owner == s && was_given birth.indexes rep.index)
  pub unkept : (rep : WireRep) → is_kept st.table rep ≡ false
  pub listed : ListsNothing st.dirty
  pub pins : st.pins.bundles ≡ []
  pub work : st.work ≡ no_work
  pub calls : st.calls ≡ birth.calls
  pub jobs : st.jobs ≡ birth.jobs

module _ {s n : ℕ} {limits : Limits} {birth : Birth} {st : State} (first : AreFirst s n limits birth st) (L : List Entry) (born : IsBorn s n limits birth L) where
  -- the end at a place stands for the calls on it
  end_stands : (place : ℕ) (end : Roomy) → slice_get st.sessions place ≡ Some end → StandsOnward s (place + 1) limits end.end (calls_at (place + 1) (history s n L))
  end_stands place end there =
      let within : place < n = subst (λ many. place < many) first.each (slice_get_within st.sessions place end there) in
      let is : end.end ≡ beginning (first_session s birth.session (place + 1)) (session.end_of s (place + 1) limits []) = subst (λ w. end.end ≡ beginning (first_session s birth.session w) (session.end_of s w limits [])) (omega arith) (begun_at s 1 birth.session limits st.sessions place end first.begun there) in
      elim (place + 1 == s) as (λ b. place + 1 == s ≡ b → StandsOnward s (place + 1) limits end.end (calls_at (place + 1) (history s n L))) [
        | true ↦ λ own.
            let stranger : is_peer s n (place + 1) ≡ false = rw own refl in
            let none : calls_at (place + 1) (history s n L) ≡ [] = strangers_uncalled s n limits (place + 1) (deeds L) (right_deeds s n limits L born.right) stranger in
            subst (λ (calls : List EndEntry). StandsOnward s (place + 1) limits end.end calls) (sym none)
            (new_onward s (place + 1) 1 limits end.end [] (is ∙ ap (λ (b : Bool). beginning (if b then 1 else birth.session (place + 1)) (session.end_of s (place + 1) limits [])) own) uncalled_is_new (omega arith))
        | false ↦ λ other.
            let low : (nat_le 1 (place + 1) && nat_le (place + 1) n) ≡ true = grind (arith, nat_tests, within) in
            let peer : is_peer s n (place + 1) ≡ true = rw other low in
            new_onward s (place + 1) (birth.session (place + 1)) limits end.end (calls_at (place + 1) (history s n L)) (is ∙ ap (λ (b : Bool). beginning (if b then 1 else birth.session (place + 1)) (session.end_of s (place + 1) limits [])) other) (born.sessions (place + 1) peer).end_is_new (born.none_higher (place + 1) peer)
      ] refl

  -- such a state stands for every list after which the space is born so
  pub born_stands : Stands s n limits st (deeds L)
  born_stands = record {
    ends = record { each = first.each; ends = end_stands };
    table = record {
      me = first.me;
      exported = first.exported ∙ sym born.indexes;
      live = λ index. ap (λ (it : Standing). is_live it.state) (first.nothing _) ∙ first_not_live _ ∙ sym (born.none_live index);
      far = λ rep counted away. rw (first.nothing rep) (first_far (rep.owner == s) (was_given birth.indexes rep.index) (closed rep.owner (deeds L)) (turns s n rep (deeds L)) away (born.none_asked rep));
      hands = λ rep counted. ap (λ (it : Standing). it.counts.hand) (first.nothing rep) ∙ first_no_hand _ ∙ sym (born.none_in_hand rep counted);
      loans = λ rep counted. ap (λ (it : Standing). it.counts.lent) (first.nothing rep) ∙ first_no_loan _ ∙ ap (λ w. times rep (lent_in s w)) (sym born.none_outstanding);
      passed = length (transit.dirties (history s n L));
      dirties = ap (λ k. length (transit.dirties (history s n L)) + k) first.dirties ∙ omega arith;
      places = λ rep. ap (behind (length (transit.dirties (history s n L)))) (no_place st.table rep first.surrogates)
          ∙ sym (ap (λ (b : Bool). if b then transit.place rep (history s n L) else None) (ap (λ (it : Standing). is_surrogate it.state) (first.nothing rep) ∙ first_no_surrogate _));
      kept = λ rep kept none. absurd (let bad : true ≡ false = sym kept ∙ first.unkept rep in cc);
    };
    listed = λ index client. first.listed index client ∙ sym (born.none_listed index client);
    pins = λ f. ap (λ bundles. sum_by f bundles) first.pins ∙ sym (ap (λ items. sum_by f (map bundle items)) born.none_pinned);
    work = first.work ∙ sym born.none_outstanding;
    awaited = λ rep due. absurd (let bad : false ≡ true = ap (λ (W : Outstanding). is_due_in W.waiting rep) (sym first.work) ∙ due in cc);
    calls = first.calls ∙ sym born.calls;
    jobs = first.jobs ∙ sym born.jobs;
    right = right_deeds s n limits L born.right;
  }

-- ---- births

-- each session has a number where a birth is in range
pub has_number : (s n : ℕ) (birth : Birth) → IsInRange s n birth → (p : ℕ) → is_peer s n p ≡ true → 1 ≤ birth.session p
has_number s n birth (inl new) p peer = let one = new.sessions p peer in omega (arith, one)
has_number s n birth (inr later) p peer = let two = (later.sessions p peer).0 in omega (arith, two)

-- no more indexes were given than there are
pub few_indexes : (s n : ℕ) (birth : Birth) → IsInRange s n birth → birth.indexes ≤ 281474976710656
few_indexes s n birth (inl new) = let none = new.indexes in omega (arith, none)
few_indexes s n birth (inr later) = later.indexes

-- a space that has done nothing is born so, where that is a new space's birth
pub nothing_born : (s n : ℕ) (limits : Limits) (birth : Birth) → IsNewBirth s n birth → IsBorn s n limits birth []
nothing_born s n limits birth new =
    let at_first = new_law s n limits in
    record {
      right = tt;
      indexes = sym new.indexes;
      calls = sym new.calls;
      jobs = sym new.jobs;
      none_live = at_first.none_live;
      none_in_hand = at_first.none_in_hand;
      none_outstanding = at_first.none_outstanding;
      none_listed = at_first.none_listed;
      none_pinned = at_first.none_pinned;
      none_asked = at_first.none_asked;
      sessions = λ p peer. subst (λ k. BeginsAnew s n p k (history s n [])) (sym (new.sessions p peer)) (at_first.sessions p peer);
      none_higher = λ p peer. subst (λ k. seen (calls_at p (history s n [])) ≤ k) (sym (new.sessions p peer)) (at_first.none_higher p peer);
    }

-- the parts of a space that begins, one by one
pub begins_stands : (s n : ℕ) (limits : Limits) (birth : Birth) (st : State) → length st.sessions ≡ n → AreBegun s birth.session 1 limits st.sessions
    → st.table.me ≡ s → st.table.exported ≡ birth.indexes → st.table.dirties ≡ 0 → surrogate_total st.table ≡ 0 → ((rep : WireRep) → standing st.table rep ≡ at_first (rep.owner == s && was_given birth.indexes rep.index)) → ((rep : WireRep) → is_kept st.table rep ≡ false)
    → ListsNothing st.dirty → st.pins.bundles ≡ [] → st.work ≡ no_work → st.calls ≡ birth.calls → st.jobs ≡ birth.jobs
    → (L : List Entry) → IsBorn s n limits birth L → Stands s n limits st (deeds L)
begins_stands s n limits birth st each begun me exported dirties surrogates nothing unkept listed pins work calls jobs L born =
    let first : AreFirst s n limits birth st = record { each = each; begun = begun; me = me; exported = exported; dirties = dirties; surrogates = surrogates; nothing = nothing; unkept = unkept; listed = listed; pins = pins; work = work; calls = calls; jobs = jobs } in
    born_stands first L born
