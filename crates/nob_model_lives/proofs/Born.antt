-- The bridge ends: each session opens anew under the number of the birth. Then the space is born.
use Rattle.std.proofs.Common.{◌≡◌, ℕ, zero, suc, ◌+◌, ◌-◌, ◌≤◌, ◌<◌, max, Bool, true, false, List, [], ◌∷◌, ◌++◌, length, refl, sym, ap, subst, ◌∙◌, arith, inl, inr}
use Rattle.std.specs.Prelude.{◌==◌}
use Rattle.std.proofs.lemmas.Bool.{eqb-true, ne_eqb, both_ways}
use Rattle.nob_ids.specs.Names.{is_counted}
use Rattle.nob_ids.specs.declared.limits.Limits.{Limits}
use Rattle.nob_ids.specs.declared.wire_rep.WireRep.{WireRep}
use Rattle.nob_model_session.specs.End.{last_session, seen}
use Rattle.nob_model_session.specs.declared.entry.EndEntry.{EndEntry}
use Rattle.nob_model_types.specs.declared.entry.Entry.{Entry}
use Rattle.nob_model_types.specs.declared.deed.Deed.{Deed}
use Rattle.nob_model_types.specs.declared.deed.Deed.TheVariants as did
use Rattle.nob_model_types.specs.Deeds.{deeds}
use Rattle.nob_model_types.specs.Sessions.{is_peer, closed, number}
use Rattle.nob_model_types.specs.Objects.{exports, is_live}
use Rattle.nob_model_types.specs.Turns.{no_turns, turns}
use Rattle.nob_model_work.specs.Work.{no_work, work}
use Rattle.nob_model_history.specs.Histories.{history_of}
use Rattle.nob_model_history.specs.Ends.{calls_at}
use Rattle.nob_model_history.specs.Holds.{hand}
use Rattle.nob_model_history.specs.Listing.{is_listed}
use Rattle.nob_model_history.specs.Transit.{bundles}
use Rattle.nob_model_history.specs.Anew.{IsNewEnd, BeginsAnew}
use Rattle.nob_model_history.proofs.Anew.{calls_opened, begins_anew_after, closed_other, number_other, accepted_other, payload_other, acted_other, settled_other, entered_other, listed_other, turns_other, calls_other}
use Rattle.nob_model.specs.Opening.{next_number}
use Rattle.nob_model.specs.Right.{last_number, calls_made, jobs_made}
use Rattle.nob_model.specs.Lists.{AreRight, AreRightDeeds}
use Rattle.nob_model_lives.specs.Alone.{AreOfBridge}
use Rattle.nob_model_lives.specs.Births.{Birth, IsBorn}
use Rattle.nob_model_lives.proofs.Closes.{Rests, below_or_next, close_all}
use Rattle.nob_model_lives.proofs.Finishes.{Idles, finish_all}
use Rattle.nob_model_lives.proofs.Leads.{Leads, stays, leads_by, leads_on, leads_as, entries_behind}
use Rattle.nob_model_lives.proofs.Opens.{open_right, open_still, next_of, next_shown, IsPassed, ComesTo, pass_all}
use Rattle.nob_model_lives.proofs.Peers.{peer_low, peer_high, strangers_unasked}
use Rattle.nob_model_lives.proofs.Shown.{Shown, shown_by}
use Rattle.nob_model_lives.proofs.Skips.{one_index, more_indexes, skip_all}
use Rattle.nob_model_lives.proofs.Still.{IsStill, AreGone, taken_still}
use Rattle.nob_model_lives.proofs.Takes.{AreTaken, take_all}
use Rattle.nob_model_lives.proofs.Withdraws.{Waits, withdraw_all}

-- ---- an Open of another peer

begins_other : (s n p k q m : ℕ) (D : List Deed) → (q == p) ≡ false → BeginsAnew s n p k (history_of s n D) → BeginsAnew s n p k (history_of s n (did.Open q m ∷ D))
begins_other s n p k q m D other its = record {
  is_open = closed_other p q m D other ∙ its.is_open;
  numbered = number_other p q m D other ∙ its.numbered;
  none_accepted = accepted_other p q m D other ∙ its.none_accepted;
  no_payload = λ j. payload_other p q m j D other ∙ its.no_payload j;
  none_acted = acted_other p q m D other ∙ its.none_acted;
  none_settled = λ j. settled_other p q m j D other ∙ its.none_settled j;
  none_entered = λ index. entered_other s index p q m D other ∙ its.none_entered index;
  none_listed = λ index. listed_other s index p q m D other ∙ its.none_listed index;
  none_asked = λ rep own. turns_other s n q m rep D (subst (λ (r : ℕ). (q == r) ≡ false) (sym own) other) ∙ its.none_asked rep own;
  end_is_new = subst (IsNewEnd k) (sym (calls_other s n p q m D other)) its.end_is_new;
}

seen_other : (s n p q m : ℕ) (D : List Deed) → (q == p) ≡ false → seen (calls_at p (history_of s n (did.Open q m ∷ D))) ≡ seen (calls_at p (history_of s n D))
seen_other s n p q m D other = ap seen (calls_other s n p q m D other)

next_other : (s n p q m : ℕ) (D : List Deed) → (q == p) ≡ false → next_number p (history_of s n (did.Open q m ∷ D)) ≡ next_number p (history_of s n D)
next_other s n p q m D other =
    ap (λ (k : ℕ). max (k + 1) (seen (calls_at p (history_of s n (did.Open q m ∷ D))))) (number_other p q m D other)
    ∙ ap (λ (calls : List EndEntry). max (number p D + 1) (seen calls)) (calls_other s n p q m D other)

seen_opened : (s n p m : ℕ) (D : List Deed) → m ≡ next_number p (history_of s n D) → seen (calls_at p (history_of s n (did.Open p m ∷ D))) ≤ m
seen_opened s n p m D next =
    let same : seen (calls_at p (history_of s n (did.Open p m ∷ D))) ≡ seen (calls_at p (history_of s n D)) = ap seen (calls_opened s n p m D) in
    low (number p D) (seen (calls_at p (history_of s n D))) (seen (calls_at p (history_of s n (did.Open p m ∷ D)))) m same next
  where
    low : (given heard now k : ℕ) → now ≡ heard → k ≡ max (given + 1) heard → now ≤ k
    low given heard now k same next = omega (arith, same, next)

-- ---- the last opens

module _ (s n : ℕ) (limits : Limits) (birth : Birth) where
  -- so many indexes, calls and jobs are those of the birth
  pub record Counts (D : List Deed) : Type 0 where
    pub indexes : length (exports D) ≡ birth.indexes
    pub calls : calls_made D ≡ birth.calls
    pub jobs : jobs_made D ≡ birth.jobs

  -- with the peers up to one the session is as at first in its number, and with each other the next number is that
  record AreOpen (m : ℕ) (D : List Deed) : Type 0 where
    still : IsStill s n limits D
    gone : AreGone s D
    counts : Counts D
    up : (p : ℕ) → is_peer s n p ≡ true → p ≤ m → BeginsAnew s n p (birth.session p) (history_of s n D) × (seen (calls_at p (history_of s n D)) ≤ birth.session p)
    later : (p : ℕ) → is_peer s n p ≡ true → m < p → (closed p D ≡ true) × (next_number p (history_of s n D) ≡ birth.session p)

  open_if : (m : ℕ) (D : List Deed) → ((p : ℕ) → is_peer s n p ≡ true → birth.session p ≤ last_session) → AreOpen m D → (peer : Bool) → is_peer s n (suc m) ≡ peer → Leads (AreOpen (suc m)) D
  open_if m D rooms its false e = stays (AreOpen (suc m)) D record {
    still = its.still;
    gone = its.gone;
    counts = its.counts;
    up = λ p peer low. elim (below_or_next p m low) [
      | inl below ↦ its.up p peer below
      | inr same ↦ absurd (both_ways (is_peer s n (suc m)) e (subst (λ (q : ℕ). is_peer s n q ≡ true) same peer))
    ];
    later = λ p peer above. its.later p peer (omega (arith, above));
  }
  open_if m D rooms its true e =
      let p : ℕ = suc m in
      let k : ℕ = next_number p (history_of s n D) in
      let before = its.later p e (omega arith) in
      let right = open_right s n limits p D its.still e before.0 (let room = rooms p e in let is = before.1 in omega (arith, room, is)) in
      leads_by (AreOpen (suc m)) (did.Open p k) D refl record {
        still = open_still s n limits p k D right before.0 its.still;
        gone = its.gone;
        counts = record { indexes = its.counts.indexes; calls = its.counts.calls; jobs = its.counts.jobs };
        up = λ q peer low. elim (below_or_next q m low) [
          | inl below ↦ (let other : (p == q) ≡ false = ne_eqb p q (λ same. omega (arith, same, below)) in let old = its.up q peer below in
              (begins_other s n q (birth.session q) p k D other old.0, (let one = seen_other s n q p k D other in let two = old.1 in omega (arith, one, two))))
          | inr same ↦ subst (λ (r : ℕ). BeginsAnew s n r (birth.session r) (history_of s n (did.Open p k ∷ D)) × (seen (calls_at r (history_of s n (did.Open p k ∷ D))) ≤ birth.session r)) (sym same)
              (subst (λ (j : ℕ). BeginsAnew s n p j (history_of s n (did.Open p k ∷ D))) before.1 (begins_anew_after s n p k D), (let one = seen_opened s n p k D refl in let two = before.1 in omega (arith, one, two)))
        ];
        later = λ q peer above. (let other : (p == q) ≡ false = ne_eqb p q (λ same. omega (arith, same, above)) in let old = its.later q peer (omega (arith, above)) in
            (closed_other q p k D other ∙ old.0, next_other s n q p k D other ∙ old.1));
      }

  open_up_to : (m : ℕ) (D : List Deed) → ((p : ℕ) → is_peer s n p ≡ true → birth.session p ≤ last_session) → AreOpen zero D → Leads (AreOpen m) D
  open_up_to zero D rooms its = stays (AreOpen zero) D its
  open_up_to (suc m) D rooms its = leads_on (AreOpen m) (AreOpen (suc m)) D (open_up_to m D rooms its) (λ E more. open_if m E rooms more (is_peer s n (suc m)) refl)

  -- ---- each next number is that of the birth

  -- a space at rest, so that the next number of the session with each peer up to one is that of the birth, and with none is above it
  pub record Reaches (m : ℕ) (D : List Deed) : Type 0 where
    pub shown : Shown
    pub waits : Waits s n limits shown D
    pub gone : AreGone s D
    pub indexes : shown.indexes ≡ birth.indexes
    pub calls : shown.calls ≡ birth.calls
    pub jobs : shown.jobs ≡ birth.jobs
    pub below : (p : ℕ) → is_peer s n p ≡ true → next_of shown p ≤ birth.session p
    pub reached : (p : ℕ) → is_peer s n p ≡ true → p ≤ m → next_of shown p ≡ birth.session p

  same_next : (p q : ℕ) (x y : Shown) → IsPassed p x y → (p == q) ≡ false → next_of y q ≡ next_of x q
  same_next p q x y its other = ap (λ (k : ℕ). max (k + 1) (y.heard q)) (its.given q other) ∙ ap (λ (k : ℕ). max (x.given q + 1) k) (its.heard q)

  reach_if : (m : ℕ) (D : List Deed) → ((p : ℕ) → is_peer s n p ≡ true → birth.session p ≤ last_session) → Reaches m D → (peer : Bool) → is_peer s n (suc m) ≡ peer → Leads (Reaches (suc m)) D
  reach_if m D rooms its false e = stays (Reaches (suc m)) D record {
    shown = its.shown;
    waits = its.waits;
    gone = its.gone;
    indexes = its.indexes;
    calls = its.calls;
    jobs = its.jobs;
    below = its.below;
    reached = λ p peer low. elim (below_or_next p m low) [
      | inl under ↦ its.reached p peer under
      | inr same ↦ absurd (both_ways (is_peer s n (suc m)) e (subst (λ (q : ℕ). is_peer s n q ≡ true) same peer))
    ];
  }
  reach_if m D rooms its true e =
      let p : ℕ = suc m in
      let x : Shown = its.shown in
      let wanted : ℕ = birth.session p in
      let low = its.below p e in
      leads_as (ComesTo s n limits p wanted x) (Reaches (suc m)) D
      (λ E comes. record {
        shown = comes.0;
        waits = comes.3;
        gone = comes.4;
        indexes = comes.1.indexes ∙ its.indexes;
        calls = comes.1.calls ∙ its.calls;
        jobs = comes.1.jobs ∙ its.jobs;
        below = λ q peer. elim (p == q) as (λ (b : Bool). (p == q) ≡ b → next_of comes.0 q ≤ birth.session q) [
          | true ↦ λ same. subst (λ (r : ℕ). next_of comes.0 r ≤ birth.session r) (eqb-true p q same) (let is = comes.2 in omega (arith, is))
          | false ↦ λ other. let same = same_next p q x comes.0 comes.1 other in let old = its.below q peer in omega (arith, same, old)
        ] refl;
        reached = λ q peer under. elim (below_or_next q m under) [
          | inl lower ↦ same_next p q x comes.0 comes.1 (ne_eqb p q (λ same. omega (arith, same, lower))) ∙ its.reached q peer lower
          | inr same ↦ subst (λ (r : ℕ). next_of comes.0 r ≡ birth.session r) (sym same) comes.2
        ];
      })
      (pass_all s n limits p (wanted - next_of x p) wanted x D e (omega (arith, low)) (rooms p e) its.waits its.gone)

  reach_up_to : (m : ℕ) (D : List Deed) → ((p : ℕ) → is_peer s n p ≡ true → birth.session p ≤ last_session) → Reaches zero D → Leads (Reaches m) D
  reach_up_to zero D rooms its = stays (Reaches zero) D its
  reach_up_to (suc m) D rooms its = leads_on (Reaches m) (Reaches (suc m)) D (reach_up_to m D rooms its) (λ E more. reach_if m E rooms more (is_peer s n (suc m)) refl)

  none_open : (D : List Deed) → Reaches n D → AreOpen zero D
  none_open D its = record {
    still = its.waits.still;
    gone = its.gone;
    counts = record { indexes = ap (λ (one : Shown). one.indexes) its.waits.shows ∙ its.indexes; calls = ap (λ (one : Shown). one.calls) its.waits.shows ∙ its.calls; jobs = ap (λ (one : Shown). one.jobs) its.waits.shows ∙ its.jobs };
    up = λ p peer none. absurd (let some = peer_low s n p peer in omega (arith, some, none));
    later = λ p peer above. (its.waits.shut p peer, next_shown s n p its.shown D its.waits.shows ∙ its.reached p peer (peer_high s n p peer));
  }

  -- ---- born

  -- each word of the space is a new one's but for the numbers of the birth
  pub record HasWords (D : List Deed) : Type 0 where
    pub right : AreRightDeeds s n limits D
    pub counts : Counts D
    pub none_live : (index : ℕ) → is_live s index D ≡ false
    pub none_in_hand : (rep : WireRep) → is_counted rep ≡ true → hand rep D ≡ 0
    pub none_outstanding : work s n D ≡ no_work
    pub none_listed : (index client : ℕ) → is_listed s index client D ≡ false
    pub none_pinned : bundles (history_of s n D) ≡ []
    pub none_asked : (rep : WireRep) → turns s n rep D ≡ no_turns
    pub sessions : (p : ℕ) → is_peer s n p ≡ true → BeginsAnew s n p (birth.session p) (history_of s n D)
    pub none_higher : (p : ℕ) → is_peer s n p ≡ true → seen (calls_at p (history_of s n D)) ≤ birth.session p

  open_words : (D : List Deed) → AreOpen n D → HasWords D
  open_words D its = record {
    right = its.still.right;
    counts = its.counts;
    none_live = its.gone;
    none_in_hand = its.still.empty;
    none_outstanding = its.still.none_outstanding;
    none_listed = its.still.none_listed;
    none_pinned = its.still.none_pinned;
    none_asked = λ rep. elim (is_peer s n rep.owner) as (λ (b : Bool). is_peer s n rep.owner ≡ b → turns s n rep D ≡ no_turns) [
      | true ↦ λ peer. (its.up rep.owner peer (peer_high s n rep.owner peer)).0.none_asked rep refl
      | false ↦ λ stranger. strangers_unasked s n limits rep D its.still.right stranger
    ] refl;
    sessions = λ p peer. (its.up p peer (peer_high s n p peer)).0;
    none_higher = λ p peer. (its.up p peer (peer_high s n p peer)).1;
  }

  -- the last part of the bridge: numbers are passed over, and each session opens
  pub open_all : (D : List Deed) → ((p : ℕ) → is_peer s n p ≡ true → birth.session p ≤ last_session) → Reaches zero D → Leads HasWords D
  open_all D rooms its =
      leads_on (Reaches n) HasWords D (reach_up_to n D rooms its)
      (λ E more. leads_as (AreOpen n) HasWords E open_words (open_up_to n E rooms (none_open E more)))

-- ---- the whole bridge

-- what is shown by indexes passed over
more_shown : (m : ℕ) (x : Shown) → ((more_indexes m x).indexes ≡ x.indexes + m) × ((more_indexes m x).calls ≡ x.calls) × ((more_indexes m x).jobs ≡ x.jobs) × ((p : ℕ) → next_of (more_indexes m x) p ≡ next_of x p)
more_shown zero x = (omega arith, refl, refl, λ p. refl)
more_shown (suc m) x = let rest = more_shown m (one_index x) in let sum = rest.0 in (omega (arith, sum), rest.1, rest.2, rest.3)

module _ (s n : ℕ) (limits : Limits) where
  -- a space is at rest with no object live, and showed no more
  pub rest_all : (D : List Deed) → AreRightDeeds s n limits D → Leads (λ E. Waits s n limits (shown_by s n D) E × AreGone s E) D
  rest_all D right =
      let x : Shown = shown_by s n D in
      leads_on (Rests s n limits x) (λ E. Waits s n limits x E × AreGone s E) D (close_all s n limits x D right refl) (λ E one.
      leads_on (Idles s n limits x) (λ F. Waits s n limits x F × AreGone s F) E (finish_all s n limits x E one) (λ F two.
      leads_on (AreTaken s n limits x) (λ G. Waits s n limits x G × AreGone s G) F (take_all s n limits x F two) (λ G three.
      withdraw_all s n limits x G (record { still = taken_still s n limits x G three; shows = three.0.0.shows; shut = three.0.0.shut }))))

  -- so many indexes were given, and the numbers of the sessions are not above the birth's
  pub reach_none : (birth : Birth) (x : Shown) (D : List Deed) → Waits s n limits x D → AreGone s D → x.indexes ≤ birth.indexes → birth.indexes ≤ last_number → x.calls ≡ birth.calls → x.jobs ≡ birth.jobs → ((p : ℕ) → is_peer s n p ≡ true → next_of x p ≤ birth.session p) → Leads (Reaches s n limits birth zero) D
  reach_none birth x D waits gone low last calls jobs below =
      let m : ℕ = birth.indexes - x.indexes in
      let more = more_shown m x in
      leads_as (λ E. Waits s n limits (more_indexes m x) E × AreGone s E) (Reaches s n limits birth zero) D
      (λ E its. record {
        shown = more_indexes m x;
        waits = its.0;
        gone = its.1;
        indexes = (let sum = more.0 in omega (arith, sum, low));
        calls = more.1 ∙ calls;
        jobs = more.2 ∙ jobs;
        below = λ p peer. subst (λ (k : ℕ). k ≤ birth.session p) (sym (more.3 p)) (below p peer);
        reached = λ p peer none. absurd (let some = peer_low s n p peer in omega (arith, some, none));
      })
      (skip_all s n limits m x D waits gone (omega (arith, low, last)))

  -- right entries that did deeds by which each word is as at the birth are such that the space is born
  pub born_by : (birth : Birth) (K : List Entry) (D : List Deed) → AreRight s n limits K → deeds K ≡ D → HasWords s n limits birth D → IsBorn s n limits birth K
  born_by birth K D right same its =
      let words : HasWords s n limits birth (deeds K) = subst (HasWords s n limits birth) (sym same) its in record {
        right = right;
        indexes = words.counts.indexes;
        calls = words.counts.calls;
        jobs = words.counts.jobs;
        none_live = words.none_live;
        none_in_hand = words.none_in_hand;
        none_outstanding = words.none_outstanding;
        none_listed = words.none_listed;
        none_pinned = words.none_pinned;
        none_asked = words.none_asked;
        sessions = words.sessions;
        none_higher = words.none_higher;
      }

  -- what deeds that need nobody else lead to is what entries of a bridge behind the right entries lead to
  pub born_behind : (birth : Birth) (L : List Entry) → AreRight s n limits L → Leads (HasWords s n limits birth) (deeds L) → (bridge : List Entry) × AreOfBridge s bridge × IsBorn s n limits birth (bridge ++ L)
  born_behind birth L right leads =
      let found = entries_behind s n limits L right leads.0 leads.1 leads.2.right in
      (found.0, found.1, born_by birth (found.0 ++ L) (leads.0 ++ deeds L) found.2 found.3 leads.2)
