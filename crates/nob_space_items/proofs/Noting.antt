-- A deed that gives one peer items without references: what is sent, and the state that it leaves.
use Rattle.std.proofs.Common.{◌≡◌, ℕ, ◌+◌, ◌-◌, true, false, cond, not, ◌&&◌, ◌==◌, List, [], ◌∷◌, ◌++◌, length, map, filter, get_or, None, Ok, refl, sym, ap, subst, ◌∙◌, if◌then◌else◌}
use lib.ListN.{set}
use Rattle.std.specs.List.{AllByRecursion, sum_by, list_any}
use Rattle.std.proofs.lemmas.List.{append-nil}
use Rattle.std.proofs.lemmas.Bool.{not-false}
use Rattle.std.proofs.lemmas.Cmp.{nat_eq_equiv}
use Rattle.nob_ids.specs.Names.{is_counted, is_same}
use Rattle.nob_ids.specs.declared.limits.Limits.{Limits}
use Rattle.nob_ids.specs.declared.wire_rep.WireRep.{WireRep}
use Rattle.nob_item.specs.Kinds.{counted_in}
use Rattle.nob_item.specs.declared.item.Item.{Item}
use Rattle.nob_model_session.specs.End.{handed}
use Rattle.nob_model_session.specs.declared.entry.EndEntry.{EndEntry}
use Rattle.nob_model_session.specs.declared.entry.EndEntry.TheVariants as ends
use Rattle.nob_model_session.specs.declared.entry.Kind.{Kind}
use Rattle.nob_session.specs.Onward.{StandsOnward}
use Rattle.nob_session.proofs.Alike.{onward_is}
use Rattle.nob_session.specs.Stands.{End, Roomy, is_open_end}
use Rattle.nob_table_rows.specs.Counts.{is_held}
use Rattle.nob_table_rows.specs.Standings as standings
use Rattle.nob_table.specs.Table.{Table, standing}
use Rattle.nob_model_types.specs.declared.deed.Deed.{Deed}
use Rattle.nob_model_types.specs.Objects as objects
use Rattle.nob_model_types.specs.Sessions.{closed, is_peer, number}
use Rattle.nob_model_types.specs.Turns.{turns}
use Rattle.nob_model_work.specs.declared.gifts.Gift.{Gift}
use Rattle.nob_model_work.specs.declared.work.Outstanding.{Outstanding}
use Rattle.nob_model_work.specs.Work.{work}
use Rattle.nob_model_work.specs.Gifts.{gifts}
use Rattle.nob_model_history.specs.declared.transit.SentItem.{SentItem}
use Rattle.nob_model_history.specs.Histories.{history_of}
use Rattle.nob_model_history.specs.Ends.{items_to, kind_of, payload_of, with_sends, own_calls, calls_at}
use Rattle.nob_model_history.specs.Holds.{gains, releases}
use Rattle.nob_model_history.specs.Listing.{is_listed}
use Rattle.nob_model_history.specs.Transit as transit
use Rattle.nob_model_history.specs.Transit.{next_sent, is_of_present, is_pinned, is_settled, sent, bundles, is_some_of}
use Rattle.nob_model_history.proofs.Numbered.{calls_more}
use Rattle.nob_model_history.proofs.Pinning.{bundles_kept}
use Rattle.nob_model_history.proofs.Sending.{new_items}
use Rattle.nob_model_history.proofs.Unasked.{acts_on_message, dirties_same}
use Rattle.nob_model.specs.Lists.{IsRightDeed}
use Rattle.nob_model.specs.Right.{own_ref, calls_made, jobs_made}
use Rattle.nob_space_state.specs.Parts.{State}
use Rattle.nob_space_state.specs.Shows.{TableShows, TableStands, far_state}
use Rattle.nob_space_state.specs.Stands.{Stands, AreAwaited, bundle}
use Rattle.nob_space_state.proofs.Ends.{end_there, ends_changed}
use Rattle.nob_space_state.proofs.Sent.{gift_to}
use Rattle.nob_space_state.proofs.Told.{ended_there}
use Rattle.nob_space_state.proofs.Marked.{used_still}

-- what a deed leaves that takes nothing, closes and opens nothing and gives one peer items without references
pub record GivesNotes (s n : ℕ) (deed : Deed) (D : List Deed) (p : ℕ) (items : List Item) : Type 0 where
  pub gives : gifts s n deed D (work s n D) ≡ map (gift_to p) items
  pub bare : AllByRecursion (λ (item : Item). counted_in item ≡ []) items
  pub asks_nothing : acts_on_message deed D ≡ false
  pub makes_no_call : (q : ℕ) (calls : List EndEntry) → own_calls q deed calls ≡ calls
  pub closes_nothing : (q : ℕ) → closed q (deed ∷ D) ≡ closed q D
  pub opens_nothing : (q : ℕ) → number q (deed ∷ D) ≡ number q D
  pub settles_nothing : (q k : ℕ) → is_settled q k (deed ∷ D) ≡ is_settled q k D
  pub exports : objects.exports (deed ∷ D) ≡ objects.exports D
  pub withdrawn : (index : ℕ) → objects.is_withdrawn index (deed ∷ D) ≡ objects.is_withdrawn index D
  pub same_gains : gains (deed ∷ D) ≡ gains D
  pub same_releases : releases (deed ∷ D) ≡ releases D
  pub listed : (index client : ℕ) → is_listed s index client (deed ∷ D) ≡ is_listed s index client D
  pub calls : calls_made (deed ∷ D) ≡ calls_made D
  pub jobs : jobs_made (deed ∷ D) ≡ jobs_made D

-- all items that go to a peer go to it
items_here : (p : ℕ) (items : List Item) → items_to p (map (gift_to p) items) ≡ items
items_here p [] = refl
items_here p (item ∷ items) = rw (nat_eq_equiv.refl p) (ap (λ (all : List Item). item ∷ all) (items_here p items))

-- and none to another
items_elsewhere : (p q : ℕ) (items : List Item) → p == q ≡ false → items_to q (map (gift_to p) items) ≡ []
items_elsewhere p q [] other = refl
items_elsewhere p q (item ∷ items) other = rw other (items_elsewhere p q items other)

-- items without references have no pins
none_pinned : (D : List Deed) (p : ℕ) (items : List Item) (before : List SentItem) → AllByRecursion (λ (item : Item). counted_in item ≡ []) items → filter (is_pinned D) (new_items D before (map (gift_to p) items)) ≡ []
none_pinned D p [] before bare = refl
none_pinned D p (item ∷ items) before bare =
    ap (λ (reps : List WireRep). cond (is_some_of reps && is_of_present D (next_sent D before (gift_to p item)) && not (is_settled p (next_sent D before (gift_to p item)).number D) && not (closed p D)) (next_sent D before (gift_to p item) ∷ filter (is_pinned D) (new_items D (before ++ next_sent D before (gift_to p item) ∷ []) (map (gift_to p) items))) (filter (is_pinned D) (new_items D (before ++ next_sent D before (gift_to p item) ∷ []) (map (gift_to p) items)))) bare.0
    ∙ none_pinned D p items (before ++ next_sent D before (gift_to p item) ∷ []) bare.1

-- an item that is sent is the next of its end
pub sent_next : (s p : ℕ) (limits : Limits) (old new : End) (L : List EndEntry) (item : Item) (payload : List ℕ) (kind : Kind) (number : ℕ) → StandsOnward s p limits old L
    → (StandsOnward s p limits old L → StandsOnward s p limits new (ends.Send payload kind (Ok number) ∷ L)) → payload ≡ payload_of item → kind ≡ kind_of item → number ≡ old.handed + 1
    → StandsOnward s p limits new (with_sends (item ∷ []) L)
sent_next s p limits old new L item payload kind number before answer spelled limited next =
    let count : old.handed ≡ length (handed L) = ap (λ (end : End). end.handed) (onward_is before) in
    subst (λ (k : ℕ). StandsOnward s p limits new (ends.Send (payload_of item) (kind_of item) (Ok (k + 1)) ∷ L)) count
    (subst (λ (k : ℕ). StandsOnward s p limits new (ends.Send (payload_of item) (kind_of item) (Ok k) ∷ L)) next
    (subst (λ (k : Kind). StandsOnward s p limits new (ends.Send (payload_of item) k (Ok number) ∷ L)) limited
    (subst (λ (bytes : List ℕ). StandsOnward s p limits new (ends.Send bytes kind (Ok number) ∷ L)) spelled (answer before))))

module _ {s n p : ℕ} {items : List Item} {deed : Deed} {D : List Deed} (notes : GivesNotes s n deed D p items) where
  -- the calls on each end
  calls_then : (q : ℕ) → calls_at q (history_of s n (deed ∷ D)) ≡ with_sends (items_to q (map (gift_to p) items)) (calls_at q (history_of s n D))
  calls_then q =
      calls_more s n q deed D
      ∙ notes.makes_no_call q (with_sends (items_to q (gifts s n deed D (work s n D))) (calls_at q (history_of s n D)))
      ∙ ap (λ (more : List Gift). with_sends (items_to q more) (calls_at q (history_of s n D))) notes.gives

  calls_here : calls_at p (history_of s n (deed ∷ D)) ≡ with_sends items (calls_at p (history_of s n D))
  calls_here = calls_then p ∙ ap (λ (all : List Item). with_sends all (calls_at p (history_of s n D))) (items_here p items)

  calls_elsewhere : (q : ℕ) → p == q ≡ false → calls_at q (history_of s n (deed ∷ D)) ≡ calls_at q (history_of s n D)
  calls_elsewhere q other = calls_then q ∙ ap (λ (all : List Item). with_sends all (calls_at q (history_of s n D))) (items_elsewhere p q items other)

  pub same_dirties : transit.dirties (history_of s n (deed ∷ D)) ≡ transit.dirties (history_of s n D)
  same_dirties = dirties_same s n deed D notes.asks_nothing

  pub same_bundles : bundles (history_of s n (deed ∷ D)) ≡ bundles (history_of s n D)
  same_bundles =
      bundles_kept s n deed D notes.settles_nothing notes.closes_nothing notes.opens_nothing
      ∙ ap (λ (more : List Gift). bundles (history_of s n D) ++ filter (is_pinned D) (new_items D (sent (history_of s n D)) more)) notes.gives
      ∙ ap (λ (all : List SentItem). bundles (history_of s n D) ++ all) (none_pinned D p items (sent (history_of s n D)) notes.bare)
      ∙ append-nil (bundles (history_of s n D))

  -- what a table shows, with other holds, where no turn was taken
  pub shows_noted : {t : Table} {H L : WireRep → ℕ} (H' L' : WireRep → ℕ) → TableShows s n t (history_of s n D) H L → ((rep : WireRep) → turns s n rep (deed ∷ D) ≡ turns s n rep D)
      → ((rep : WireRep) → is_counted rep ≡ true → H rep ≡ H' rep) → ((rep : WireRep) → is_counted rep ≡ true → L rep ≡ L' rep)
      → TableShows s n t (history_of s n (deed ∷ D)) H' L'
  shows_noted {t} H' L' shows same_turns hand_is on_loan = record {
    me = shows.me;
    exported = shows.exported ∙ ap length (sym notes.exports);
    live = λ index. shows.live index ∙ sym (λ i. list_any (is_same (own_ref s index)) (notes.exports i) && not (notes.withdrawn index i));
    far = λ rep counted own. shows.far rep counted own
        ∙ ap (λ b. far_state b (is_held (standing t rep).counts) (turns s n rep D)) (sym (notes.closes_nothing rep.owner))
        ∙ ap (λ w. far_state (closed rep.owner (deed ∷ D)) (is_held (standing t rep).counts) w) (sym (same_turns rep));
    hands = λ rep counted. shows.hands rep counted ∙ hand_is rep counted;
    loans = λ rep counted. shows.loans rep counted ∙ on_loan rep counted;
    passed = shows.passed;
    dirties = shows.dirties ∙ ap length (sym same_dirties);
    places = λ rep. shows.places rep ∙ ap (λ reps. if standings.is_surrogate (standing t rep).state then transit.last_place rep reps else None) (sym same_dirties);
    kept = used_still s t t (history_of s n D) (history_of s n (deed ∷ D)) (λ rep. refl) same_bundles notes.listed shows.kept;
  }

  -- the state with another end, table and outstanding work
  pub stands_noted : {limits : Limits} {st : State} (old new : Roomy) (t : Table) (W : Outstanding) → Stands s n limits st D → is_peer s n p ≡ true → old ≡ get_or st.sessions (p - 1) old
      → (StandsOnward s p limits old.end (calls_at p (history_of s n D)) → StandsOnward s p limits new.end (with_sends items (calls_at p (history_of s n D))))
      → TableStands s n t (history_of s n (deed ∷ D)) → W ≡ work s n (deed ∷ D) → AreAwaited s n st.awaited W.waiting (deed ∷ D) → IsRightDeed s n limits deed D
      → Stands s n limits (record { sessions = set st.sessions (p - 1) new; table = t; dirty = st.dirty; pins = st.pins; work = W; awaited = st.awaited; calls = st.calls; jobs = st.jobs }) (deed ∷ D)
  stands_noted {limits} {st} old new t W stands peer is answer table outstanding awaited its =
      let there = end_there s n limits st.sessions (history_of s n D) p old stands.ends peer is in
      record {
        ends = ends_changed s n limits st.sessions (history_of s n D) (history_of s n (deed ∷ D)) p new stands.ends there.0
            (subst (λ calls. StandsOnward s p limits new.end calls) (sym calls_here) (answer there.2))
            (λ q other. sym (calls_elsewhere q (nat_eq_equiv.symm p q ∙ other)));
        table = table;
        listed = λ index client. stands.listed index client ∙ sym (notes.listed index client);
        pins = λ f. stands.pins f ∙ ap (λ (all : List SentItem). sum_by f (map bundle all)) (sym same_bundles);
        work = outstanding;
        awaited = awaited;
        calls = stands.calls ∙ sym notes.calls;
        jobs = stands.jobs ∙ sym notes.jobs;
        right = (its, stands.right);
      }

-- the end with a peer is open where the session hasn't closed
pub open_there : {s n : ℕ} {limits : Limits} {st : State} {D : List Deed} → Stands s n limits st D → (p : ℕ) (end : Roomy) → is_peer s n p ≡ true → end ≡ get_or st.sessions (p - 1) end → closed p D ≡ false → is_open_end end.end ≡ true
open_there {s} {n} {limits} {st} {D} stands p end peer is still =
    let there = end_there s n limits st.sessions (history_of s n D) p end stands.ends peer is in
    not-false (is_open_end end.end) (ended_there stands p end there.0 there.1 ∙ still)
