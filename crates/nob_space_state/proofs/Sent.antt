-- A deed that hands one item to one peer: what it sends and pins, and the state that it leaves.
use Rattle.std.proofs.Common.{◌≡◌, ℕ, ◌+◌, Bool, true, false, cond, not, ◌&&◌, ◌||◌, ◌==◌, List, [], ◌∷◌, ◌++◌, length, map, filter, None, Ok, if◌then◌else◌, refl, sym, ap, subst, ◌∙◌, arith, flat_map}
use Rattle.std.specs.List.{sum_by, list_any}
use Rattle.std.proofs.lemmas.List.{append-nil, map-append}
use Rattle.std.proofs.lemmas.List.Sums.{sum_by-cons, sum_by_push}
use Rattle.std.proofs.lemmas.List.Sorted.{sum_by_pushed}
use Rattle.std.proofs.lemmas.Cmp.{nat_eq_equiv}
use Rattle.nob_ids.specs.Names.{is_counted, is_same}
use Rattle.nob_ids.specs.declared.limits.Limits.{Limits}
use Rattle.nob_ids.specs.declared.wire_rep.WireRep.{WireRep}
use Rattle.nob_item.specs.Kinds.{counted_in}
use Rattle.nob_item.specs.declared.item.Item.{Item}
use Rattle.nob_model_session.specs.End.{accepted, handed}
use Rattle.nob_model_session.specs.declared.entry.EndEntry.{EndEntry}
use Rattle.nob_model_session.specs.declared.entry.EndEntry.TheVariants as ends
use Rattle.nob_session.specs.Stands.{Roomy}
use Rattle.nob_table_rows.specs.Counts.{is_held}
use Rattle.nob_table_rows.specs.Standings as standings
use Rattle.nob_table.specs.Table.{Table, standing}
use Rattle.nob_pins.specs.Bundles.{Pinned, bundle_of, is_of, has_bundle}
use Rattle.nob_pins.specs.Bundles as pins
use Rattle.nob_model_types.specs.declared.deed.Deed.{Deed}
use Rattle.nob_model_types.specs.Objects as objects
use Rattle.nob_model_types.specs.Sessions.{closed, number, payload_at}
use Rattle.nob_model_types.specs.Turns.{turns}
use Rattle.nob_model_work.specs.declared.gifts.Gift.{Gift}
use Rattle.nob_model_work.specs.declared.work.Outstanding.{Outstanding}
use Rattle.nob_model_work.specs.Work.{work}
use Rattle.nob_model_work.specs.Gifts.{gifts}
use Rattle.nob_model_history.specs.declared.transit.SentItem.{SentItem}
use Rattle.nob_model_history.specs.Histories.{history_of}
use Rattle.nob_model_history.specs.Ends.{items_to, kind_of, payload_of, with_sends, own_calls, calls_at}
use Rattle.nob_model_history.specs.Holds.{gains, releases, times}
use Rattle.nob_model_history.specs.Listing.{is_listed}
use Rattle.nob_model_history.specs.Premises.{SettlesSent, NumbersRise}
use Rattle.nob_model_history.specs.Transit as transit
use Rattle.nob_model_history.specs.Transit.{asks_for, count_to, next_sent, is_pinned, is_settled, is_some_of, sent}
use Rattle.nob_model_history.proofs.Dirtying.{asked_in, dirties_more}
use Rattle.nob_model_history.proofs.Numbered.{calls_more, count_handed}
use Rattle.nob_model_history.proofs.Pinning.{bundles_kept, bundle_sent, new_pins}
use Rattle.nob_model_history.proofs.Sending.{new_items}
use Rattle.nob_model.specs.Right.{own_ref, calls_made, jobs_made}
use Rattle.nob_space_state.specs.Parts.{State}
use Rattle.nob_space_state.specs.Pins.{AddsPins}
use Rattle.nob_model.specs.Lists.{IsRightDeed}
use Rattle.nob_space_state.specs.Shows.{TableShows, TableStands, far_state}
use Rattle.nob_space_state.specs.Stands.{Stands, EndsStand, PinsStand, AreAwaited, bundle}
use Rattle.nob_model_types.specs.declared.message.Message.{Message}
use Rattle.nob_space_state.proofs.Awaited.{same_lost, still_awaited}
use Rattle.nob_space_state.proofs.Orderly.{orderly}
use Rattle.nob_space_state.proofs.Marked.{used_then}
use Rattle.nob_space_state.proofs.Counted.{times_both}

-- an item that goes to a peer
abbrev pub gift_to : ℕ → Item → Gift
gift_to p item = record { to = p; item = item }

-- what a deed leaves that takes nothing, closes and opens nothing and hands one item to one peer
pub record HandsOne (s n : ℕ) (deed : Deed) (D : List Deed) (p : ℕ) (item : Item) : Type 0 where
  pub gives : gifts s n deed D (work s n D) ≡ gift_to p item ∷ []
  pub asks_nothing : asks_for p item ≡ None
  pub makes_no_call : (q : ℕ) (calls : List EndEntry) → own_calls q deed calls ≡ calls
  pub closes_nothing : (q : ℕ) → closed q (deed ∷ D) ≡ closed q D
  pub opens_nothing : (q : ℕ) → number q (deed ∷ D) ≡ number q D
  pub settles_nothing : (q k : ℕ) → is_settled q k (deed ∷ D) ≡ is_settled q k D
  pub payloads : (q k : ℕ) → payload_at q k (deed ∷ D) ≡ payload_at q k D
  pub same_turns : (rep : WireRep) → turns s n rep (deed ∷ D) ≡ turns s n rep D
  pub exports : objects.exports (deed ∷ D) ≡ objects.exports D
  pub withdrawn : (index : ℕ) → objects.is_withdrawn index (deed ∷ D) ≡ objects.is_withdrawn index D
  pub same_gains : gains (deed ∷ D) ≡ gains D
  pub same_releases : releases (deed ∷ D) ≡ releases D
  pub listed : (index client : ℕ) → is_listed s index client (deed ∷ D) ≡ is_listed s index client D
  pub jobs : jobs_made (deed ∷ D) ≡ jobs_made D

and_true : (b : Bool) → (b && true) ≡ b
and_true true = refl
and_true false = refl

-- what has no pins in more bundles has none in some of them
pub fewer_pins : (rep : WireRep) (some more : List SentItem) → times rep (flat_map (λ (item : SentItem). counted_in item.item) (some ++ more)) ≡ 0 → times rep (flat_map (λ (item : SentItem). counted_in item.item) some) ≡ 0
fewer_pins rep [] more none = refl
fewer_pins rep (one ∷ some) more none =
    let all = times_both rep (counted_in one.item) (flat_map (λ (item : SentItem). counted_in item.item) (some ++ more)) in
    let these = times_both rep (counted_in one.item) (flat_map (λ (item : SentItem). counted_in item.item) some) in
    let rest : times rep (flat_map (λ (item : SentItem). counted_in item.item) (some ++ more)) ≡ 0 = omega (arith, none, all) in
    let less = fewer_pins rep some more rest in
    omega (arith, none, all, these, less)

-- what one bundle more, where there are references, makes of a sum over bundles
sums_then : (f : Pinned → ℕ) (one : SentItem) (old new : List Pinned) (items : List SentItem) (reps : List WireRep) → sum_by f old ≡ sum_by f (map bundle items) → AddsPins old new one.to one.number reps → counted_in one.item ≡ reps
    → sum_by f new ≡ sum_by f (map bundle (items ++ cond (is_some_of reps) (one ∷ []) []))
sums_then f one old new items [] before adds are = ap (sum_by f) adds ∙ before ∙ ap (λ (all : List SentItem). sum_by f (map bundle all)) (sym (append-nil items))
sums_then f one old new items (rep ∷ reps) before adds are =
    let more : sum_by f new ≡ f (bundle_of one.to one.number (rep ∷ reps)) + sum_by f old = sum_by_pushed f (bundle_of one.to one.number (rep ∷ reps)) old new adds in
    let last : sum_by f (map bundle (items ++ one ∷ [])) ≡ sum_by f (map bundle items) + f (bundle_of one.to one.number (counted_in one.item)) = ap (sum_by f) (map-append bundle items (one ∷ [])) ∙ sum_by_push f (map bundle items) (bundle one) in
    let same : f (bundle_of one.to one.number (counted_in one.item)) ≡ f (bundle_of one.to one.number (rep ∷ reps)) = ap (λ (rs : List WireRep). f (bundle_of one.to one.number rs)) are in
    omega (arith, more, last, same, before)

module _ {s n p : ℕ} {item : Item} {deed : Deed} {D : List Deed} (hands : HandsOne s n deed D p item) where
  -- the calls on each end
  calls_then : (q : ℕ) → calls_at q (history_of s n (deed ∷ D)) ≡ with_sends (map (λ (gift : Gift). gift.item) (cond (p == q) (gift_to p item ∷ []) [])) (calls_at q (history_of s n D))
  calls_then q =
      calls_more s n q deed D
      ∙ hands.makes_no_call q (with_sends (items_to q (gifts s n deed D (work s n D))) (calls_at q (history_of s n D)))
      ∙ ap (λ (more : List Gift). with_sends (items_to q more) (calls_at q (history_of s n D))) hands.gives

  -- on the end with the peer the item is sent
  pub calls_here : calls_at p (history_of s n (deed ∷ D)) ≡ ends.Send (payload_of item) (kind_of item) (Ok (length (handed (calls_at p (history_of s n D))) + 1)) ∷ calls_at p (history_of s n D)
  calls_here = calls_then p ∙ ap (λ (b : Bool). with_sends (map (λ (gift : Gift). gift.item) (cond b (gift_to p item ∷ []) [])) (calls_at p (history_of s n D))) (nat_eq_equiv.refl p)

  -- on the others nothing is
  pub calls_elsewhere : (q : ℕ) → p == q ≡ false → calls_at q (history_of s n (deed ∷ D)) ≡ calls_at q (history_of s n D)
  calls_elsewhere q other = calls_then q ∙ ap (λ (b : Bool). with_sends (map (λ (gift : Gift). gift.item) (cond b (gift_to p item ∷ []) [])) (calls_at q (history_of s n D))) other

  -- nothing is accepted
  accepted_then : (q : ℕ) → accepted (calls_at q (history_of s n (deed ∷ D))) ≡ accepted (calls_at q (history_of s n D))
  accepted_then q = ap accepted (calls_then q) ∙ elim (p == q) as (λ b. accepted (with_sends (map (λ (gift : Gift). gift.item) (cond b (gift_to p item ∷ []) [])) (calls_at q (history_of s n D))) ≡ accepted (calls_at q (history_of s n D))) [ true ↦ refl | false ↦ refl ]

  -- the Dirties stay
  dirties_then : transit.dirties (history_of s n (deed ∷ D)) ≡ transit.dirties (history_of s n D)
  dirties_then =
      dirties_more s n deed D
      ∙ ap (λ (more : List Gift). transit.dirties (history_of s n D) ++ asked_in more) hands.gives
      ∙ rw hands.asks_nothing (append-nil (transit.dirties (history_of s n D)))

  -- the item has pins where it carries counted references
  bundles_then : SettlesSent s n D → closed p D ≡ false
      → transit.bundles (history_of s n (deed ∷ D)) ≡ transit.bundles (history_of s n D) ++ cond (is_some_of (counted_in item)) (next_sent D (sent (history_of s n D)) (gift_to p item) ∷ []) []
  bundles_then known still =
      bundles_kept s n deed D hands.settles_nothing hands.closes_nothing hands.opens_nothing
      ∙ ap (λ (more : List Gift). transit.bundles (history_of s n D) ++ filter (is_pinned D) (new_items D (sent (history_of s n D)) more)) hands.gives
      ∙ ap (λ (items : List SentItem). transit.bundles (history_of s n D) ++ items) (new_pins s n D known (gift_to p item ∷ []))
      ∙ ap (λ (b : Bool). transit.bundles (history_of s n D) ++ cond b (next_sent D (sent (history_of s n D)) (gift_to p item) ∷ []) [])
      (ap (λ (b : Bool). is_some_of (counted_in item) && not b) still ∙ and_true (is_some_of (counted_in item)))

  -- the bundles, once the pins of the item are put to them
  pub pins_then : (old new : List Pinned) → SettlesSent s n D → NumbersRise D → closed p D ≡ false → PinsStand old (history_of s n D)
      → AddsPins old new p (length (handed (calls_at p (history_of s n D))) + 1) (counted_in item) → PinsStand new (history_of s n (deed ∷ D))
  pins_then old new known rises still stand adds = λ f.
      sums_then f (next_sent D (sent (history_of s n D)) (gift_to p item)) old new (transit.bundles (history_of s n D)) (counted_in item) (stand f)
      (subst (λ (k : ℕ). AddsPins old new p (k + 1) (counted_in item)) (count_handed s n p D rises) adds) refl
      ∙ ap (λ (items : List SentItem). sum_by f (map bundle items)) (sym (bundles_then known still))

  -- what a table shows, with other holds
  pub shows_handed : {t : Table} {H L : WireRep → ℕ} (H' L' : WireRep → ℕ) → TableShows s n t (history_of s n D) H L
      → ((rep : WireRep) → is_counted rep ≡ true → H rep ≡ H' rep) → ((rep : WireRep) → is_counted rep ≡ true → L rep ≡ L' rep)
      → TableShows s n t (history_of s n (deed ∷ D)) H' L'
  shows_handed {t} H' L' shows hand_is on_loan = record {
    me = shows.me;
    exported = shows.exported ∙ ap length (sym hands.exports);
    live = λ index. shows.live index ∙ sym (λ i. list_any (is_same (own_ref s index)) (hands.exports i) && not (hands.withdrawn index i));
    far = λ rep counted own. shows.far rep counted own
        ∙ ap (λ b. far_state b (is_held (standing t rep).counts) (turns s n rep D)) (sym (hands.closes_nothing rep.owner))
        ∙ ap (λ w. far_state (closed rep.owner (deed ∷ D)) (is_held (standing t rep).counts) w) (sym (hands.same_turns rep));
    hands = λ rep counted. shows.hands rep counted ∙ hand_is rep counted;
    loans = λ rep counted. shows.loans rep counted ∙ on_loan rep counted;
    passed = shows.passed;
    dirties = shows.dirties ∙ ap length (sym dirties_then);
    places = λ rep. shows.places rep ∙ ap (λ reps. if standings.is_surrogate (standing t rep).state then transit.last_place rep reps else None) (sym dirties_then);
    kept = used_then s t t (history_of s n D) (history_of s n (deed ∷ D)) (λ rep kept. kept) (λ rep none. fewer_pins rep (transit.bundles (history_of s n D)) _ (sym (λ i. times rep (flat_map (λ (item : SentItem). counted_in item.item) (bundles_kept s n deed D hands.settles_nothing hands.closes_nothing hands.opens_nothing i))) ∙ none)) hands.listed shows.kept;
  }

  -- the state with other ends, holds, pins and outstanding work
  pub stands_handed : {limits : Limits} {st : State} (sessions : List Roomy) (t : Table) (table_of_pins : pins.Table) (W : Outstanding) (made : ℕ) → Stands s n limits st D
      → EndsStand s n limits sessions (history_of s n (deed ∷ D)) → TableStands s n t (history_of s n (deed ∷ D)) → PinsStand table_of_pins.bundles (history_of s n (deed ∷ D))
      → W ≡ work s n (deed ∷ D) → W.waiting ≡ st.work.waiting → made ≡ calls_made (deed ∷ D) → IsRightDeed s n limits deed D
      → Stands s n limits (record { sessions = sessions; table = t; dirty = st.dirty; pins = table_of_pins; work = W; awaited = st.awaited; calls = made; jobs = st.jobs }) (deed ∷ D)
  stands_handed {limits} {st} sessions t table_of_pins W made stands ends_stand table_stands pins_stand outstanding waits calls its = record {
    ends = ends_stand;
    table = table_stands;
    listed = λ index client. stands.listed index client ∙ sym (hands.listed index client);
    pins = pins_stand;
    work = outstanding;
    awaited = subst (λ (ms : List Message). AreAwaited s n st.awaited ms (deed ∷ D)) (sym waits)
        (still_awaited s n st.awaited st.work.waiting D (deed ∷ D) stands.awaited (λ rep. same_lost s n rep D (deed ∷ D) (hands.closes_nothing rep.owner) (hands.same_turns rep)));
    calls = calls;
    jobs = stands.jobs ∙ sym hands.jobs;
    right = (its, stands.right);
  }

-- no sum, no bundle
no_bundle : (p k : ℕ) (bundles : List Pinned) → sum_by (λ (one : Pinned). cond (is_of p k one) 1 0) bundles ≡ 0 → has_bundle bundles p k ≡ false
no_bundle p k [] none = refl
no_bundle p k (one ∷ bundles) none =
    let all : cond (is_of p k one) 1 0 + sum_by (λ (b : Pinned). cond (is_of p k b) 1 0) bundles ≡ 0 = sym (sum_by-cons (λ (b : Pinned). cond (is_of p k b) 1 0) one bundles) ∙ none in
    let rest : sum_by (λ (b : Pinned). cond (is_of p k b) 1 0) bundles ≡ 0 = omega (arith, all) in
    rw (no_bundle p k bundles rest) (elim (is_of p k one) as (λ b. cond b 1 0 + sum_by (λ (x : Pinned). cond (is_of p k x) 1 0) bundles ≡ 0 → (b || false) ≡ false) [ true ↦ λ e. absurd (omega (arith, e)) | false ↦ λ _. refl ] all)

-- nothing that was sent, no sum
no_sum : (p k : ℕ) (items : List SentItem) → is_some_of (filter (λ (one : SentItem). one.to == p && one.number == k) items) ≡ false → sum_by (λ (one : Pinned). cond (is_of p k one) 1 0) (map bundle items) ≡ 0
no_sum p k [] none = refl
no_sum p k (one ∷ items) none =
    sum_by-cons (λ (b : Pinned). cond (is_of p k b) 1 0) (bundle one) (map bundle items)
    ∙ elim (one.to == p && one.number == k) as (λ b. is_some_of (cond b (one ∷ filter (λ (x : SentItem). x.to == p && x.number == k) items) (filter (λ (x : SentItem). x.to == p && x.number == k) items)) ≡ false → cond b 1 0 + sum_by (λ (x : Pinned). cond (is_of p k x) 1 0) (map bundle items) ≡ 0) [
      | true ↦ λ e. absurd (cc)
      | false ↦ λ e. let rest = no_sum p k items e in omega (arith, rest)
    ] none

not_both : (b : Bool) → (b ≡ true → ⊥) → b ≡ false
not_both true never = absurd (never refl)
not_both false never = refl

-- there is no bundle of the next item
pub next_unpinned : {s n : ℕ} {limits : Limits} {st : State} {D : List Deed} (p k : ℕ) → Stands s n limits st D → k ≡ length (handed (calls_at p (history_of s n D))) + 1 → has_bundle st.pins.bundles p k ≡ false
next_unpinned {s} {n} {limits} {st} {D} p k stands next =
    let none : transit.has_bundle p k (history_of s n D) ≡ false = not_both (transit.has_bundle p k (history_of s n D)) (λ some. let low = bundle_sent s n p k D some in let count = count_handed s n p D (orderly stands).rises in omega (arith, low, count, next)) in
    no_bundle p k st.pins.bundles (stands.pins (λ (one : Pinned). cond (is_of p k one) 1 0) ∙ no_sum p k (transit.bundles (history_of s n D)) none)
