-- What may be sent is what the state tells; Call: what is right, and what it leaves.
use Rattle.std.proofs.Common.{◌≡◌, ℕ, ◌+◌, ◌-◌, ◌≤◌, ◌<◌, Bool, true, false, cond, not, ◌&&◌, ◌||◌, ◌==◌, List, [], ◌∷◌, ◌++◌, length, filter, drop, get_or, slice_get, IsTrue, nat_le, Option, Some, None, Result, Ok, Err, IsOk, inl, inr, refl, sym, ap, subst, ◌∙◌, arith}
use Prim.Native.Nat.{zero, suc}
use lib.ListN.{set}
use lib.Seq.{drop-nil}
use Rattle.std.specs.List.{AllByRecursion, sum_by}
use Rattle.std.proofs.lemmas.Bool.Decides.{nat_tests}
use Rattle.std.proofs.lemmas.Bool.{and_parts}
use Rattle.std.proofs.lemmas.List.Sums.{length-filter, count_by-le-length}
use Rattle.std.proofs.lemmas.Option.{none-some, slice_get_cases}
use Rattle.std.proofs.lemmas.Cmp.{nat_eq_equiv}
use Rattle.nob_ids.specs.Names.{is_counted}
use Rattle.nob_ids.specs.declared.limits.Limits.{Limits}
use Rattle.nob_ids.specs.declared.wire_rep.WireRep.{WireRep}
use Rattle.nob_pickle.proofs.Whole.{fits_pickle}
use Rattle.nob_pickle.specs.Limits.{Fits, depth, has_short_bytes, has_short_lists, is_in_limits, most_in_all, most_levels, most_references}
use Rattle.nob_pickle.specs.Shape.{tree}
use Rattle.nob_pickle.specs.Spelling.{refs_in, spelling}
use Rattle.nob_pickle.specs.Writing.{pickle_of}
use Rattle.nob_pickle.specs.declared.value.Value.{Value}
use Rattle.nob_pickle.specs.declared.fault.PickleFault.{PickleFault}
use Rattle.nob_item.specs.Judging.{is_call_number}
use Rattle.nob_item.specs.Kinds.{counted_in}
use Rattle.nob_item.specs.Spelling.{call_head}
use Rattle.nob_item.specs.Writing.{bytes_of}
use Rattle.nob_item.specs.declared.fault.ItemFault.{ItemFault}
use Rattle.nob_item.specs.declared.item.Item.{Item}
use Rattle.nob_item.specs.declared.item.Item.TheVariants as items
use Rattle.nob_model_session.specs.End.{handed}
use Rattle.nob_model_session.specs.declared.entry.EndEntry.TheVariants as ends
use Rattle.nob_model_session.specs.declared.refusal.EndRefusal.{EndRefusal}
use Rattle.nob_model_session.specs.declared.entry.Kind.{Kind}
use Rattle.nob_model_session.specs.declared.entry.Kind.TheVariants.{Limited}
use Rattle.nob_session.specs.Onward.{StandsOnward}
use Rattle.nob_session.proofs.Alike.{onward_is}
use Rattle.nob_session.specs.Calls.{next_of}
use Rattle.nob_session.specs.Stands.{End, Roomy}
use Rattle.nob_table.specs.Table.{Table}
use Rattle.nob_pins.specs.Bundles as pins
use Rattle.nob_model_types.specs.declared.answer.Answer.TheVariants as answers
use Rattle.nob_model_types.specs.declared.refusal.Refusal.{Refusal}
use Rattle.nob_model_types.specs.declared.refusal.Refusal.TheVariants as refusals
use Rattle.nob_model_types.specs.declared.deed.Deed.{Deed}
use Rattle.nob_model_types.specs.declared.deed.Deed.TheVariants.{Call}
use Rattle.nob_model_types.specs.Sessions.{is_peer, closed}
use Rattle.nob_model_types.specs.Messages.{copy_after, message_after}
use Rattle.nob_model_work.specs.declared.work.Outstanding.{Outstanding}
use Rattle.nob_model_work.specs.declared.work.OwnCall.{OwnCall}
use Rattle.nob_model_work.specs.declared.work.Stage.TheVariants as stages
use Rattle.nob_model_work.specs.Work.{work, work_after, with_loans, run_after, after_call}
use Rattle.nob_model_work.specs.Gifts.{gifts, gifts_of}
use Rattle.nob_model_history.specs.Histories.{history_of}
use Rattle.nob_model_history.specs.Ends.{bytes_if, calls_at, kind_of, payload_of}
use Rattle.nob_model_history.specs.Holds.{hand, is_held, times, lent_in}
use Rattle.nob_model.specs.Right.{right_call, is_last_call, calls_made, last_number, most_calls}
use Rattle.nob_model_acting.specs.Sending.{◌or_else◌, refuse_if, unless, is_gone, is_faulty, ref_refused, refs_refused, value_refused, send_refused, refusal_in}
use Rattle.nob_model.proofs.Replying.{answered_once}
use Rattle.nob_model.proofs.Waiting.{all_weaker}
use Rattle.nob_space_calls.specs.Calls.{IsAbove}
use Rattle.nob_space_state.specs.Parts.{State}
use Rattle.nob_space_state.specs.Looks as looks
use Rattle.nob_space_state.specs.Looks.{end_with, has_closed, has_holds}
use Rattle.nob_space_state.specs.Pins.{AddsPins}
use Rattle.nob_space_state.specs.Sending.{ref_refusal, refs_refusal, value_refusal, next_refusal, send_refusal, has_last_call, call_refusal}
use Rattle.nob_model.specs.Lists.{IsRightDeed}
use Rattle.nob_space_state.proofs.Orderly.{orderly}
use Rattle.nob_space_state.specs.Shows.{TableStands}
use Rattle.nob_space_state.specs.Stands.{Stands}
use Rattle.nob_model.proofs.Made.{loans_made}
use Rattle.nob_space_state.proofs.Ends.{end_there, ends_changed, ends_kept}
use Rattle.nob_space_state.proofs.Sent.{HandsOne, calls_here, calls_elsewhere, pins_then, shows_handed, stands_handed}
use Rattle.nob_space_state.proofs.Told.{held_there, gone_there, closed_there}

-- ---- the references in a value, one after the other

is_true : (b : Bool) → IsTrue b → b ≡ true
is_true true holds = refl
is_true false holds = absurd (cc)

-- a value that has a pickle has few references
pub few_refs : (value : Value) → Fits value → length (filter is_counted (refs_in value)) ≤ 32
few_refs value fits =
    let few : nat_le (length (refs_in value)) 32 ≡ true = (and_parts (nat_le (depth (tree value)) most_levels && has_short_bytes (tree value) && has_short_lists (tree value)) (nat_le (length (refs_in value)) most_references) (and_parts (nat_le (depth (tree value)) most_levels && has_short_bytes (tree value) && has_short_lists (tree value) && nat_le (length (refs_in value)) most_references) (nat_le (length (spelling value)) most_in_all) (is_true (is_in_limits value) fits.in_limits)).0).1 in
    let fewer : length (filter is_counted (refs_in value)) ≤ length (refs_in value) = subst (λ k. k ≤ length (refs_in value)) (sym (length-filter is_counted (refs_in value))) (count_by-le-length is_counted (refs_in value)) in
    grind (arith, nat_tests, few, fewer)

-- of a value that has a pickle the references alone are judged
pub value_is : (s : ℕ) (st : State) (value : Value) → Fits value → value_refusal s st value ≡ refs_refusal s st (filter is_counted (refs_in value))
unfolding value_refusal
value_is s st value fits = rw (fits_pickle value fits) refl

module _ (s : ℕ) (st : State) where
  -- a reference that may be sent leaves what is to be said of those behind it
  pub refs_next : (reps : List WireRep) (k : ℕ) (rep : WireRep) → slice_get reps k ≡ Some rep → ref_refusal s st rep ≡ None → refs_refusal s st (drop k reps) ≡ refs_refusal s st (drop (k + 1) reps)
  refs_next [] k rep there none = absurd (none-some rep there)
  refs_next (first ∷ reps) zero rep there none = let same : first ≡ rep = cc in ap (λ refusal. refusal or_else refs_refusal s st reps) (ap (ref_refusal s st) same ∙ none)
  refs_next (first ∷ reps) (suc k) rep there none = let more : suc (k + 1) ≡ suc k + 1 = omega arith in refs_next reps k rep there none ∙ ap (λ j. refs_refusal s st (drop j (first ∷ reps))) more

  -- one that may not be sent is the first refusal
  pub refs_first : (reps : List WireRep) (k : ℕ) (rep : WireRep) (refusal : Refusal) → slice_get reps k ≡ Some rep → ref_refusal s st rep ≡ Some refusal → refs_refusal s st (drop k reps) ≡ Some refusal
  refs_first [] k rep refusal there some = absurd (none-some rep there)
  refs_first (first ∷ reps) zero rep refusal there some = let same : first ≡ rep = cc in ap (λ found. found or_else refs_refusal s st reps) (ap (ref_refusal s st) same ∙ some)
  refs_first (first ∷ reps) (suc k) rep refusal there some = refs_first reps k rep refusal there some

  -- behind the last there is none
  pub refs_last : (reps : List WireRep) (k : ℕ) → slice_get reps k ≡ None → refs_refusal s st (drop k reps) ≡ None
  refs_last [] k none = ap (refs_refusal s st) (drop-nil k)
  refs_last (first ∷ reps) zero none = absurd (none-some first (sym none))
  refs_last (first ∷ reps) (suc k) none = refs_last reps k none

module _ {s n : ℕ} {limits : Limits} {st : State} {D : List Deed} (stands : Stands s n limits st D) where
  -- why a counted reference may not be sent
  ref_there : (rep : WireRep) → is_counted rep ≡ true → ref_refused s (history_of s n D) rep ≡ ref_refusal s st rep
  unfolding ref_refusal
  ref_there rep counted =
      let gone : is_gone s rep (history_of s n D) ≡ looks.is_gone s st.table rep = ap (λ b. b && is_gone s rep (history_of s n D)) (sym counted) ∙ sym (gone_there stands rep) in
      let held : is_held s rep (history_of s n D) ≡ has_holds st.table rep = sym (held_there stands rep counted) in
      let cut : closed rep.owner D ≡ has_closed st.sessions rep.owner = sym (closed_there stands rep.owner) in
      λ i. refuse_if (gone i) refusals.NoObject or_else refuse_if (not (held i)) refusals.NotHeld or_else refuse_if (not (rep.owner == s) && cut i) refusals.Closed

  refs_there : (reps : List WireRep) → refs_refused s (history_of s n D) (filter is_counted reps) ≡ refs_refusal s st (filter is_counted reps)
  refs_there [] = refl
  refs_there (rep ∷ reps) = elim (is_counted rep) as (λ b. is_counted rep ≡ b → refs_refused s (history_of s n D) (cond b (rep ∷ filter is_counted reps) (filter is_counted reps)) ≡ refs_refusal s st (cond b (rep ∷ filter is_counted reps) (filter is_counted reps))) [
    | true ↦ λ counted. λ i. ref_there rep counted i or_else refs_there reps i
    | false ↦ λ _. refs_there reps
  ] refl

  -- why a value may not be sent
  pub value_there : (value : Value) → value_refused s (history_of s n D) value ≡ value_refusal s st value
  unfolding value_refusal
  value_there value = λ i. refuse_if (is_faulty (pickle_of value)) refusals.TooBig or_else refs_there (refs_in value) i

  -- the end with a peer
  pub end_of_peer : (p : ℕ) → is_peer s n p ≡ true → (end : Roomy) × (end_with st.sessions p ≡ Some end) × StandsOnward s p limits end.end (calls_at p (history_of s n D))
  end_of_peer p peer =
      let some : p == 0 ≡ false = grind (arith, nat_tests, peer) in
      let low : 1 ≤ p = grind (arith, nat_tests, peer) in
      let high : p ≤ n = grind (arith, nat_tests, peer) in
      elim (slice_get_cases st.sessions (p - 1)).1 [
        | inl found ↦
            let at : p - 1 + 1 ≡ p = omega (arith, low) in
            (found.0, rw some found.2, subst (λ q. StandsOnward s q limits found.0.end (calls_at q (history_of s n D))) at (stands.ends.ends (p - 1) found.0 found.2))
        | inr past ↦ absurd (let far : n ≤ p - 1 = subst (λ k. k ≤ p - 1) stands.ends.each past.0 in omega (arith, far, low, high))
      ]

  -- why an item of a kind can't be sent to a peer
  pub send_there : (p : ℕ) (kind : Kind) → is_peer s n p ≡ true → send_refused p kind (history_of s n D) ≡ send_refusal p kind st
  send_there p kind peer =
      let there = end_of_peer p peer in
      sym (ap (next_refusal kind) there.1 ∙ ap (λ (end : End). next_refusal kind (Some (record { end = end; room = there.0.room }))) (onward_is there.2))

  -- what is right for a Call is what the state tells
  pub call_right : (target : WireRep) (value : Value) → right_call s n target value (history_of s n D) ≡ unless (call_refusal s n st target value) (answers.Called (st.calls + 1))
  unfolding right_call call_refusal
  call_right target value =
      let held : (is_counted target && not (is_held s target (history_of s n D))) ≡ (is_counted target && not (has_holds st.table target)) =
      elim (is_counted target) as (λ b. is_counted target ≡ b → (b && not (is_held s target (history_of s n D))) ≡ (b && not (has_holds st.table target))) [ true ↦ λ counted. ap not (sym (held_there stands target counted)) | false ↦ λ _. refl ] refl in
      let cut : closed target.owner D ≡ has_closed st.sessions target.owner = sym (closed_there stands target.owner) in
      let outstanding : work s n D ≡ st.work = sym stands.work in
      let made : calls_made D ≡ st.calls = sym stands.calls in
      elim (is_peer s n target.owner) as (λ b. is_peer s n target.owner ≡ b
      → unless (refuse_if (not b) refusals.NoPeer or_else refuse_if (closed target.owner D) refusals.Closed or_else refuse_if (is_counted target && not (is_held s target (history_of s n D))) refusals.NotHeld or_else value_refused s (history_of s n D) value or_else refuse_if (is_last_call (history_of s n D)) refusals.Limit or_else send_refused target.owner Limited (history_of s n D)) (answers.Called (calls_made D + 1))
      ≡ unless (refuse_if (not b) refusals.NoPeer or_else refuse_if (has_closed st.sessions target.owner) refusals.Closed or_else refuse_if (is_counted target && not (has_holds st.table target)) refusals.NotHeld or_else value_refusal s st value or_else refuse_if (has_last_call st) refusals.Limit or_else send_refusal target.owner Limited st) (answers.Called (st.calls + 1))) [
        | true ↦ λ peer. λ i. unless (refuse_if (cut i) refusals.Closed or_else refuse_if (held i) refusals.NotHeld or_else value_there value i or_else refuse_if (nat_le most_calls (length (outstanding i).calls) || nat_le last_number (made i)) refusals.Limit or_else send_there target.owner Limited peer i) (answers.Called (made i + 1))
        | false ↦ λ stranger. refl
      ] refl

  -- a Call that isn't refused is answered
  pub call_ok : (target : WireRep) (value : Value) → call_refusal s n st target value ≡ None → right_call s n target value (history_of s n D) ≡ Ok (answers.Called (st.calls + 1))
  call_ok target value free = call_right target value ∙ ap (λ refusal. unless refusal (answers.Called (st.calls + 1))) free

  pub call_wants : (target : WireRep) (value : Value) → call_refusal s n st target value ≡ None → IsOk (right_call s n target value (history_of s n D))
  call_wants target value free = subst IsOk (sym (call_ok target value free)) refl

-- a Call hands one item to the owner of its target
pub call_hands : (s n : ℕ) (target : WireRep) (method : ℕ) (value : Value) (call : ℕ) (D : List Deed) → is_peer s n target.owner ≡ true → HandsOne s n (Call target method value call) D target.owner (items.Call call target.index method value)
unfolding gifts gifts_of
call_hands s n target method value call D peer = record {
  gives = rw peer refl;
  asks_nothing = refl;
  makes_no_call = λ q calls. refl;
  closes_nothing = λ q. refl;
  opens_nothing = λ q. refl;
  settles_nothing = λ q k. refl;
  payloads = λ q k. refl;
  same_turns = λ rep. refl;
  exports = refl;
  withdrawn = λ index. refl;
  same_gains = refl;
  same_releases = refl;
  listed = λ index client. refl;
  jobs = refl;
}

-- and stands last among the calls that aren't taken
pub call_work : (s n : ℕ) (target : WireRep) (method : ℕ) (value : Value) (call : ℕ) (D : List Deed) → work s n (Call target method value call ∷ D) ≡ after_call target.owner call (work s n D)
unfolding work_after with_loans message_after run_after copy_after after_call
call_work s n target method value call D = ap (after_call target.owner call) (loans_made s n D)

-- it lends nothing
call_lends : (s p call : ℕ) (W : Outstanding) → lent_in s (after_call p call W) ≡ lent_in s W
unfolding after_call
call_lends s p call W = refl

-- the table after a Call
pub call_shows : {s n : ℕ} {limits : Limits} {st : State} {D : List Deed} → Stands s n limits st D → (target : WireRep) (method : ℕ) (value : Value) (call : ℕ) → is_peer s n target.owner ≡ true → TableStands s n st.table (history_of s n (Call target method value call ∷ D))
call_shows {s} {n} {limits} {st} {D} stands target method value call peer =
    shows_handed (call_hands s n target method value call D peer) (λ rep. hand rep (Call target method value call ∷ D)) (λ rep. times rep (lent_in s (work s n (Call target method value call ∷ D)))) stands.table
    (λ rep counted. refl)
    (λ rep counted. ap (times rep) (sym (ap (lent_in s) (call_work s n target method value call D) ∙ call_lends s target.owner call (work s n D))))

-- ---- what a judged Call has passed

-- where no refusal is the first of two, none is either of them
pub or_none : (one other : Option Refusal) → (one or_else other) ≡ None → (one ≡ None) × (other ≡ None)
or_none None other e = (refl, e)
or_none (Some refusal) other e = absurd (none-some _ (sym e))

-- where there is no refusal, the test fails
pub test_none : (test : Bool) (refusal : Refusal) → refuse_if test refusal ≡ None → test ≡ false
test_none true refusal e = absurd (none-some _ (sym e))
test_none false refusal e = refl

not_false : (b : Bool) → not b ≡ false → b ≡ true
not_false true e = refl
not_false false e = let bad : true ≡ false = e in absurd (cc)

-- what isn't refused has passed each test
pub record IsJudged (s n : ℕ) (st : State) (target : WireRep) (value : Value) : Type 0 where
  pub peer : is_peer s n target.owner ≡ true
  pub still : has_closed st.sessions target.owner ≡ false
  pub fits : value_refusal s st value ≡ None
  pub more : has_last_call st ≡ false
  pub free : send_refusal target.owner Limited st ≡ None

pub call_judged : (s n : ℕ) (st : State) (target : WireRep) (value : Value) → call_refusal s n st target value ≡ None → IsJudged s n st target value
unfolding call_refusal
call_judged s n st target value none =
    let first = or_none _ _ none in
    let second = or_none _ _ first.1 in
    let third = or_none _ _ second.1 in
    let fourth = or_none _ _ third.1 in
    let fifth = or_none _ _ fourth.1 in
    record {
      peer = not_false (is_peer s n target.owner) (test_none (not (is_peer s n target.owner)) refusals.NoPeer first.0);
      still = test_none (has_closed st.sessions target.owner) refusals.Closed second.0;
      fits = fourth.0;
      more = test_none (has_last_call st) refusals.Limit fifth.0;
      free = fifth.1;
    }

-- an end that isn't refused an item has a number for it
number_free : (answer : Result ℕ EndRefusal) → refusal_in answer ≡ None → IsOk answer
number_free (Ok number) e = refl
number_free (Err refusal) e = absurd (none-some _ (sym e))

pub next_free : (p : ℕ) (kind : Kind) (st : State) (end : Roomy) → 1 ≤ p → slice_get st.sessions (p - 1) ≡ Some end → send_refusal p kind st ≡ None → IsOk (next_of kind end.end)
next_free p kind st end low there none =
    let some : p == 0 ≡ false = grind (arith, nat_tests, low) in
    let at : end_with st.sessions p ≡ Some end = rw some there in
    number_free (next_of kind end.end) (sym (ap (next_refusal kind) at) ∙ none)

-- a value that isn't refused has a pickle
has_pickle : (pickle : Result (List ℕ) PickleFault) → is_faulty pickle ≡ false → (bytes : List ℕ) × (pickle ≡ Ok bytes)
has_pickle (Ok bytes) e = (bytes, refl)
has_pickle (Err fault) e = let bad : true ≡ false = e in absurd (cc)

pub pickle_there : (s : ℕ) (st : State) (value : Value) → value_refusal s st value ≡ None → (bytes : List ℕ) × (pickle_of value ≡ Ok bytes)
unfolding value_refusal
pickle_there s st value none = has_pickle (pickle_of value) (test_none (is_faulty (pickle_of value)) refusals.TooBig (or_none _ _ none).0)

-- the number of one call more is the number of a call
pub few_calls : (st : State) → has_last_call st ≡ false → st.calls < 281474976710656
few_calls st more = grind (arith, nat_tests, more)

-- a peer is one of the spaces
pub peer_range : (s n p : ℕ) → is_peer s n p ≡ true → (1 ≤ p) × (p ≤ n)
peer_range s n p peer = (grind (arith, nat_tests, peer), grind (arith, nat_tests, peer))

-- so a Call with the next number has a spelling
pub call_spelled : (s : ℕ) (st : State) (index method : ℕ) (value : Value) (fault : ItemFault) → value_refusal s st value ≡ None → has_last_call st ≡ false → bytes_of (items.Call (st.calls + 1) index method value) ≡ Err fault → ⊥
call_spelled s st index method value fault fits more e =
    let pickle = pickle_there s st value fits in
    let few = few_calls st more in
    let number : is_call_number (st.calls + 1) ≡ true = grind (arith, nat_tests, few) in
    let spelled : bytes_of (items.Call (st.calls + 1) index method value) ≡ Ok (call_head (st.calls + 1) index method ++ pickle.0) = rw (number, pickle.1) refl in
    let bad = sym spelled ∙ e in
    absurd (cc)

-- ---- what a Call leaves

module _ {s n : ℕ} {limits : Limits} {st : State} {D : List Deed} (stands : Stands s n limits st D) (p : ℕ) (old new : Roomy) (table_of_pins : pins.Table) (peer : is_peer s n p ≡ true) (is : old ≡ get_or st.sessions (p - 1) old) where
  -- nothing is sent: the end and the bundles are what they were
  pub stands_unsent : new.end ≡ old.end → table_of_pins.bundles ≡ st.pins.bundles
      → Stands s n limits (record { sessions = set st.sessions (p - 1) new; table = st.table; dirty = st.dirty; pins = table_of_pins; work = st.work; awaited = st.awaited; calls = st.calls; jobs = st.jobs }) D
  stands_unsent same bundles =
      let there = end_there s n limits st.sessions (history_of s n D) p old stands.ends peer is in
      record {
        ends = ends_kept s n limits st.sessions (history_of s n D) p old new stands.ends there.0 there.1 same;
        table = stands.table;
        listed = stands.listed;
        pins = λ f. ap (sum_by f) bundles ∙ stands.pins f;
        work = stands.work;
        awaited = stands.awaited;
        calls = stands.calls;
        jobs = stands.jobs;
        right = stands.right;
      }

  -- one item is sent: its deed is done
  pub stands_sent : {deed : Deed} {item : Item} (payload : List ℕ) (kind : Kind) (number : ℕ) (W : Outstanding) (t : Table) (made : ℕ) → HandsOne s n deed D p item → closed p D ≡ false
      → payload ≡ payload_of item → kind ≡ kind_of item → number ≡ old.end.handed + 1
      → (StandsOnward s p limits old.end (calls_at p (history_of s n D)) → StandsOnward s p limits new.end (ends.Send payload kind (Ok number) ∷ calls_at p (history_of s n D)))
      → AddsPins st.pins.bundles table_of_pins.bundles p (old.end.handed + 1) (counted_in item)
      → TableStands s n t (history_of s n (deed ∷ D)) → W ≡ work s n (deed ∷ D) → W.waiting ≡ st.work.waiting → made ≡ calls_made (deed ∷ D) → IsRightDeed s n limits deed D
      → Stands s n limits (record { sessions = set st.sessions (p - 1) new; table = t; dirty = st.dirty; pins = table_of_pins; work = W; awaited = st.awaited; calls = made; jobs = st.jobs }) (deed ∷ D)
  stands_sent {deed} {item} payload kind number W t made hands still spelled limited next answer adds table outstanding waits calls its =
      let there = end_there s n limits st.sessions (history_of s n D) p old stands.ends peer is in
      let count : old.end.handed ≡ length (handed (calls_at p (history_of s n D))) = ap (λ (end : End). end.handed) (onward_is there.2) in
      let after : StandsOnward s p limits new.end (calls_at p (history_of s n (deed ∷ D))) =
      subst (λ calls. StandsOnward s p limits new.end calls) (sym (calls_here hands))
      (subst (λ k. StandsOnward s p limits new.end (ends.Send (payload_of item) (kind_of item) (Ok (k + 1)) ∷ calls_at p (history_of s n D))) count
      (subst (λ k. StandsOnward s p limits new.end (ends.Send (payload_of item) (kind_of item) (Ok k) ∷ calls_at p (history_of s n D))) next
      (subst (λ k. StandsOnward s p limits new.end (ends.Send (payload_of item) k (Ok number) ∷ calls_at p (history_of s n D))) limited
      (subst (λ bytes. StandsOnward s p limits new.end (ends.Send bytes kind (Ok number) ∷ calls_at p (history_of s n D))) spelled (answer there.2))))) in
      stands_handed hands (set st.sessions (p - 1) new) t table_of_pins W made stands
      (ends_changed s n limits st.sessions (history_of s n D) (history_of s n (deed ∷ D)) p new stands.ends there.0 after (λ q other. sym (calls_elsewhere hands q (nat_eq_equiv.symm p q ∙ other))))
      table
      (pins_then hands st.pins.bundles table_of_pins.bundles (orderly stands).settles (orderly stands).rises still stands.pins (subst (λ k. AddsPins st.pins.bundles table_of_pins.bundles p (k + 1) (counted_in item)) count adds))
      outstanding waits calls its

-- the number of one call more is above those of all calls
pub calls_below : {s n : ℕ} {limits : Limits} {st : State} {D : List Deed} → Stands s n limits st D → (number : ℕ) → number ≡ st.calls + 1 → IsAbove st.work.calls number
calls_below {s} {n} {limits} {st} {D} stands number next =
    all_weaker (λ (own : OwnCall). own.call ≤ calls_made D) (λ (own : OwnCall). own.call < number) (λ own low. let made = stands.calls in omega (arith, low, next, made)) st.work.calls
    (subst (λ (W : Outstanding). AllByRecursion (λ (own : OwnCall). own.call ≤ calls_made D) W.calls) (sym stands.work) (answered_once s n limits D stands.right).made_before)

-- after a Call
pub call_stands : {s n : ℕ} {limits : Limits} {st : State} {D : List Deed} → Stands s n limits st D → (target : WireRep) (method : ℕ) (value : Value) (old new : Roomy) (table_of_pins : pins.Table) → ((call : ℕ) → call ≡ st.calls + 1 → IsRightDeed s n limits (Call target method value call) D) → IsJudged s n st target value → old ≡ get_or st.sessions (target.owner - 1) old
    → (payload : List ℕ) (number call : ℕ) (reps : List WireRep) (calls : List OwnCall)
    → call ≡ st.calls + 1 → bytes_of (items.Call call target.index method value) ≡ Ok payload → number ≡ old.end.handed + 1
    → (StandsOnward s target.owner limits old.end (calls_at target.owner (history_of s n D)) → StandsOnward s target.owner limits new.end (ends.Send payload Limited (Ok number) ∷ calls_at target.owner (history_of s n D)))
    → reps ≡ filter is_counted (refs_in value) → AddsPins st.pins.bundles table_of_pins.bundles target.owner (old.end.handed + 1) reps
    → calls ≡ st.work.calls ++ record { call = call; to = target.owner; stage = stages.Sent } ∷ []
    → Stands s n limits (record { sessions = set st.sessions (target.owner - 1) new; table = st.table; dirty = st.dirty; pins = table_of_pins; work = record { waiting = st.work.waiting; ready = st.work.ready; running = st.work.running; replies = st.work.replies; calls = calls }; awaited = st.awaited; calls = st.calls + 1; jobs = st.jobs }) (Call target method value call ∷ D)
unfolding after_call
call_stands {s} {n} {limits} {st} {D} stands target method value old new table_of_pins its judged is payload number call reps calls call_is spelled next answer refs adds more =
    let W : Outstanding = record { waiting = st.work.waiting; ready = st.work.ready; running = st.work.running; replies = st.work.replies; calls = calls } in
    let outstanding : W ≡ after_call target.owner call st.work = λ i. record { waiting = st.work.waiting; ready = st.work.ready; running = st.work.running; replies = st.work.replies; calls = more i } in
    stands_sent stands target.owner old new table_of_pins judged.peer is payload Limited number W st.table (st.calls + 1)
    (call_hands s n target method value call D judged.peer) (sym (closed_there stands target.owner) ∙ judged.still)
    (sym (ap bytes_if spelled)) refl next answer (subst (λ rs. AddsPins st.pins.bundles table_of_pins.bundles target.owner (old.end.handed + 1) rs) refs adds)
    (call_shows stands target method value call judged.peer)
    (outstanding ∙ ap (after_call target.owner call) stands.work ∙ sym (call_work s n target method value call D))
    refl
    (ap (λ k. k + 1) stands.calls) (its call call_is)
