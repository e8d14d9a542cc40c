-- What each space acted on from each peer is a beginning of what that peer sent it, and all that is sent has a spelling.
use Rattle.std.proofs.Common.{◌≡◌, ℕ, ◌+◌, ◌-◌, ◌≤◌, ◌&&◌, not, Bool, true, false, cond, List, [], ◌∷◌, ◌++◌, length, map, Option, Some, Ok, Err, refl, sym, ap, subst, ◌∙◌, inl, inr, arith}
use Rattle.std.specs.Prelude.{◌==◌, ◌≢◌, nat_le}
use Rattle.std.specs.List.{AllByRecursion, slice_get}
use Rattle.std.proofs.lemmas.Bool.{eqb-true, eqb-false, leb-false, and_parts, not-true}
use Rattle.std.proofs.lemmas.List.{length-map, length_push}
use Rattle.std.proofs.lemmas.Option.{slice_get_within}
use Rattle.nob_ids.specs.declared.limits.Limits.{Limits}
use Rattle.nob_item.specs.Spelling.{Fits, IsItemNumber}
use Rattle.nob_item.specs.declared.item.Item.{Item}
use Rattle.nob_model_session.specs.End as end
use Rattle.nob_model_session.specs.End.{up_to, last_item, handed, takes, is_open, unacknowledged}
use Rattle.nob_model_session.specs.Right.{right_front, is_limited, queue_limit}
use Rattle.nob_model_session.specs.Pair.{IsBeginning, Reaches, first_calls}
use Rattle.nob_model_session.specs.declared.refusal.EndRefusal.TheVariants as end_refusals
use Rattle.nob_model_session.specs.declared.entry.EndEntry.{EndEntry}
use Rattle.nob_model_session.specs.declared.entry.EndEntry.TheVariants as ends
use Rattle.nob_model_session.proofs.Sessions.{up_to_present}
use Rattle.nob_model_session.proofs.Fronts.{accepted_law}
use Rattle.nob_model_types.specs.declared.entry.Entry.{Entry}
use Rattle.nob_model_types.specs.declared.deed.Deed.{Deed}
use Rattle.nob_model_types.specs.declared.deed.Deed.TheVariants as did
use Rattle.nob_model_types.specs.Sessions.{is_peer, item_at, item_spelt}
use Rattle.nob_model_history.specs.declared.transit.SentItem.{SentItem}
use Rattle.nob_model_history.specs.Ends.{payload_of, calls_at}
use Rattle.nob_model_history.specs.Transit.{is_sent_to, sent}
use Rattle.nob_model_history.specs.Premises.{NumbersRise}
use Rattle.nob_model_history.proofs.Sessions.{number_is}
use Rattle.nob_model_history.proofs.Inbox.{acted_takes, front_number}
use Rattle.nob_model_history.proofs.Arriving.{payload_is, front_payload}
use Rattle.nob_model.specs.Right.{right_after}
use Rattle.nob_model.specs.Lists.{IsRightDeed, AreRightDeeds}
use Rattle.nob_model.specs.Laws.{AreRightCalls}
use Rattle.nob_model.proofs.Doing.{was_answered}
use Rattle.nob_model.proofs.Accepted.{act_tells}
use Rattle.nob_model.proofs.Premises.{in_turn, front_item}
use Rattle.nob_model.proofs.Calling.{calls_law}
use Rattle.nob_model.proofs.Reopening.{numbers_rise}
use Rattle.nob_model.proofs.Carrying.{all_filter}
use Rattle.nob_model_journal.specs.Journals.{deeds_at, history_at, number_at, sent_in, sent_to, acted_during, acted_in, acted_from}
use Rattle.nob_model_journal.specs.Runs.{WorldRun}
use Rattle.nob_model_journal.specs.Fronts.{with_numbers, ActsInOrder}
use Rattle.nob_model_invariant.specs.Typed.{AreOfTypes}
use Rattle.nob_model_invariant.specs.SafetyInvariant.{Sessions, calls_in}
use Rattle.nob_model_holdings.proofs.Lists.{all_map, all_at, some_same, place_before, begins_longer, begins_further}
use Rattle.nob_model_invariant.proofs.Numbered.{numbered-append, numbered_at}
use Rattle.nob_model_invariant.proofs.Reading.{payload_back}
use Rattle.nob_model_invariant.proofs.Giving.{SentFits, ActsOnWhole, AllFit, fits_more, fits_none}
use Rattle.nob_model_invariant.proofs.Entries.{grows, right_deeds_at}
use Rattle.nob_model_invariant.proofs.BySession.{sent_grows, handed_in}
use Rattle.nob_model_invariant.proofs.EachSession.{acted_from_is}
use Rattle.nob_model_invariant.proofs.Pairs.{are_paired}
use Rattle.nob_model_invariant.proofs.Carried.{frames_carried}

-- ---- how far items come

-- the items of one space came so far at another, in each session
pub reached_in : (a b n k : ℕ) (limits : ℕ → Limits) (J : List Entry) → a ≢ b → WorldRun n limits J → Reaches (calls_in n a b k J) (calls_in n b a k J)
reached_in a b n k limits J apart run =
    let paired = are_paired a b n limits J apart run in
    subst (λ calls. Reaches (up_to k calls) (calls_in n b a k J)) paired.firsts
    (subst (λ calls. Reaches (up_to k (first_calls paired.run)) (up_to k calls)) paired.seconds (accepted_law a b (limits a) (limits b) paired.run paired.is_run k).0)

-- all calls of an end are up to those of its session
pub all_present : (a b n : ℕ) (J : List Entry) → calls_in n b a (number_at b a J) J ≡ calls_at a (history_at b n J)
all_present a b n J = up_to_present (number_at b a J) (calls_at a (history_at b n J)) (number_is b n a (deeds_at b J))

-- so far they came in the session in which that other one is
pub reached : (a b n : ℕ) (limits : ℕ → Limits) (J : List Entry) → a ≢ b → WorldRun n limits J → Reaches (calls_in n a b (number_at b a J) J) (calls_at a (history_at b n J))
reached a b n limits J apart run =
    subst (λ calls. Reaches (calls_in n a b (number_at b a J) J) calls) (all_present a b n J) (reached_in a b n (number_at b a J) limits J apart run)

-- a Send that was taken had a free number
send_low : (number count : ℕ) (shut full over : Bool) → Ok number ≡ cond shut (Err end_refusals.Closed) (cond full (Err end_refusals.QueueFull) (cond over (Err end_refusals.SeqEnd) (Ok (count + 1)))) → over ≡ false
send_low number count true full over e = absurd (cc)
send_low number count false true over e = absurd (cc)
send_low number count false false true e = absurd (cc)
send_low number count false false false e = refl

-- right calls hand on no more items than there are numbers
handed_few : (s p : ℕ) (limits : Limits) (calls : List EndEntry) → AreRightCalls s p limits calls → length (handed calls) ≤ last_item
handed_few s p limits [] right = omega arith
handed_few s p limits (ends.Reopen k (Ok done) ∷ calls) right = omega arith
handed_few s p limits (ends.Send payload kind (Ok number) ∷ calls) right =
    let low = leb-false last_item (length (handed calls)) (send_low number (length (handed calls)) (not (is_open calls)) (is_limited kind && nat_le queue_limit (length (unacknowledged calls))) (nat_le last_item (length (handed calls))) right.0) in
    let more = length_push (handed calls) payload in
    omega (arith, low, more)
handed_few s p limits (call ∷ calls) right = handed_few s p limits calls right.1

-- the calls up to the end of a session are right
right_up_to : (s p k : ℕ) (limits : Limits) (calls : List EndEntry) → AreRightCalls s p limits calls → AreRightCalls s p limits (up_to k calls)
right_up_to s p k limits [] right = tt
right_up_to s p k limits (call ∷ calls) right = elim (end.number (call ∷ calls) == k) as (λ b. AreRightCalls s p limits (cond b (call ∷ calls) (up_to k calls))) [ true ↦ right | false ↦ right_up_to s p k limits calls right.1 ]

-- the numbers of each space's sessions rise
rise_at : (s n : ℕ) (limits : ℕ → Limits) (J : List Entry) → WorldRun n limits J → NumbersRise (deeds_at s J)
rise_at s n limits J run = numbers_rise s n (limits s) (deeds_at s J) (right_deeds_at n limits J run s)

-- a space sends another no more items in a session than there are numbers
sent_few : (a b n k : ℕ) (limits : ℕ → Limits) (J : List Entry) → WorldRun n limits J → length (sent_in n a b k J) ≤ last_item
sent_few a b n k limits J run =
    subst (λ (m : ℕ). m ≤ last_item) (ap length (handed_in a n b k (deeds_at a J) (rise_at a n limits J run)) ∙ length-map (sent_in n a b k J) payload_of)
    (handed_few a b (limits a) (calls_in n a b k J) (right_up_to a b k (limits a) (calls_at b (history_at a n J)) (calls_law a n (limits a) (deeds_at a J) (right_deeds_at n limits J run a) b)))

-- ---- the item that is acted on

-- what a space sent to another has a spelling
sent_fits : (a b n k : ℕ) (J : List Entry) → AllFit a n (deeds_at a J) → AllByRecursion Fits (sent_in n a b k J)
sent_fits a b n k J all = all_map SentFits Fits (λ (one : SentItem). one.item) (λ one fits. fits) _ (all_filter SentFits (is_sent_to b k) (sent (history_at a n J)) all.was_sent)

-- item k from a, on which b acts next, is the next of those that a sent
pub record IsNextOf (n a b k : ℕ) (J : List Entry) : Type 0 where
  pub item : Item
  pub found : item_at a k (deeds_at b J) ≡ Some item
  pub next : k ≡ length (acted_from a b J) + 1
  pub was_sent : slice_get (sent_to n a b J) (length (acted_from a b J)) ≡ Some item
  pub fits : Fits item
  pub number : IsItemNumber k

spelt_as : (payload : List ℕ) (item : Item) → payload_of item ≡ payload → Fits item → item_spelt payload ≡ Some item
spelt_as payload item is fits = ap item_spelt (sym is) ∙ payload_back item fits

pub self_peer : (s n : ℕ) → is_peer s n s ≡ true → ⊥
self_peer s n e = eqb-false s s (not-true _ (and_parts _ _ (and_parts _ _ e).0).0) refl

-- the front of an inbox spells the next item that its sender sent
pub record IsFront (n a b k : ℕ) (payload : List ℕ) (J : List Entry) : Type 0 where
  pub item : Item
  pub spelt : item_spelt payload ≡ Some item
  pub next : k ≡ length (acted_from a b J) + 1
  pub was_sent : slice_get (sent_to n a b J) (length (acted_from a b J)) ≡ Some item
  pub fits : Fits item
  pub number : IsItemNumber k

pub front_is_next : (a b n k : ℕ) (limits : ℕ → Limits) (payload : List ℕ) (J : List Entry) → WorldRun n limits J → AllFit a n (deeds_at a J) → is_peer b n a ≡ true → right_front (calls_at a (history_at b n J)) ≡ Some (k, payload) → IsFront n a b k payload J
front_is_next a b n k limits payload J run all peer front =
    let D : List Deed = deeds_at b J in
    let S : List Item = sent_to n a b J in
    let t : ℕ = length (acted_from a b J) in
    let calls : List EndEntry = calls_at a (history_at b n J) in
    let apart : a ≢ b = λ same. self_peer b n (subst (λ (q : ℕ). is_peer b n q ≡ true) same peer) in
    let turn = in_turn b n (limits b) D (right_deeds_at n limits J run b) in
    let count : t ≡ takes calls = acted_takes b n a D in
    let next : k ≡ t + 1 = front_number calls k payload front ∙ ap (λ (m : ℕ). m + 1) (sym count) in
    let came = sym (payload_is b n a k D) ∙ front_payload b n a D turn k payload front in
    let there : slice_get (handed (calls_in n a b (number_at b a J) J)) (k - 1) ≡ Some payload = ((reached a b n limits J apart run).kept k payload came).1 in
    let place : slice_get (map payload_of S) t ≡ Some payload = ap (slice_get (map payload_of S)) (let at : t ≡ k - 1 = omega (arith, next) in at) ∙ ap (λ ps. slice_get ps (k - 1)) (sym (handed_in a n b (number_at b a J) (deeds_at a J) (rise_at a n limits J run))) ∙ there in
    let before = place_before payload_of S t payload place in
    let fits : Fits before.0 = all_at Fits S t before.0 (sent_fits a b n (number_at b a J) J all) before.1 in
    let low = slice_get_within S t before.0 before.1 in
    let few = sent_few a b n (number_at b a J) limits J run in
    record {
      item = before.0;
      spelt = spelt_as payload before.0 before.2 fits;
      next = next;
      was_sent = before.1;
      fits = fits;
      number = (omega (arith, next), omega (arith, next, low, few));
    }

pub acts_on_next : (a b n k : ℕ) (limits : ℕ → Limits) (J : List Entry) → WorldRun n limits J → AllFit a n (deeds_at a J) → IsRightDeed b n (limits b) (did.Act a k) (deeds_at b J) → IsNextOf n a b k J
unfolding right_after
acts_on_next a b n k limits J run all right =
    let D : List Deed = deeds_at b J in
    let told = act_tells b n a k (history_at b n J) (was_answered b n (limits b) (did.Act a k) D right) in
    let front = front_is_next a b n k limits told.2.0 J run all told.0 told.2.2 in
    record {
      item = front.item;
      found = front_item b n a D (in_turn b n (limits b) D (right_deeds_at n limits J run b)) k told.2.0 front.item told.2.2 front.spelt;
      next = front.next;
      was_sent = front.was_sent;
      fits = front.fits;
      number = front.number;
    }

-- ---- one entry more: spellings

acts_whole : (s n : ℕ) (limits : ℕ → Limits) (deed : Deed) (J : List Entry) → WorldRun n limits J → ((p : ℕ) → AllFit p n (deeds_at p J)) → IsRightDeed s n (limits s) deed (deeds_at s J) → ActsOnWhole deed (deeds_at s J)
acts_whole s n limits (did.Act p k) J run all right = λ item is.
    let own = acts_on_next p s n k limits J run (all p) right in
    (subst Fits (some_same own.item item (sym own.found ∙ is)) own.fits, own.number)
acts_whole s n limits deed J run all right = tt

-- all that the spaces of a run have outstanding and sent has a spelling
pub all_fit : (n : ℕ) (limits : ℕ → Limits) (J : List Entry) → WorldRun n limits J → AreOfTypes J → (s : ℕ) → AllFit s n (deeds_at s J)
all_fit n limits [] run typed s = fits_none s n
all_fit n limits (entry ∷ J) run typed s =
    let before : (p : ℕ) → AllFit p n (deeds_at p J) = all_fit n limits J run.1 typed.1 in
    elim (grows s entry J) [
      | inl same ↦ subst (AllFit s n) (sym same) (before s)
      | inr more ↦
          let right : AreRightDeeds s n (limits s) (more.0 ∷ deeds_at s J) = subst (AreRightDeeds s n (limits s)) more.3 (right_deeds_at n limits (entry ∷ J) run s) in
          subst (AllFit s n) (sym more.3) (fits_more s n (limits s) more.0 (deeds_at s J) right.0 (typed.0 more.0 more.2) (acts_whole s n limits more.0 J run.1 before right.0) (before s))
    ]

-- ---- one entry more: order

sent_longer : (n a b k : ℕ) (entry : Entry) (J : List Entry) (pairs : List (ℕ × Option Item)) → IsBeginning pairs (with_numbers 1 (sent_in n a b k J)) → IsBeginning pairs (with_numbers 1 (sent_in n a b k (entry ∷ J)))
sent_longer n a b k entry J pairs begins =
    let more = sent_grows n a b k entry J in
    subst (λ items. IsBeginning pairs (with_numbers 1 items)) (sym more.1)
    (subst (IsBeginning pairs) (sym (numbered-append 1 (sent_in n a b k J) more.0)) (begins_longer pairs (with_numbers 1 (sent_in n a b k J)) _ begins))

-- what b acted on in the session in which it is, is a beginning of what a sent in that
abbrev pub ActsNow : (n a b : ℕ) → List Entry → Type 0
ActsNow n a b J = IsBeginning (acted_from a b J) (with_numbers 1 (sent_to n a b J))

now_acted : (n a b : ℕ) (limits : ℕ → Limits) (J : List Entry) → WorldRun n limits J → ActsInOrder n a b (number_at b a J) J → ActsNow n a b J
now_acted n a b limits J run begins = subst (λ pairs. IsBeginning pairs (with_numbers 1 (sent_to n a b J))) (sym (acted_from_is n a b limits J run)) begins

next_acted : (n a b j : ℕ) (J : List Entry) → IsNextOf n a b j J → ActsNow n a b J → IsBeginning (acted_from a b J ++ (j, item_at a j (deeds_at b J)) ∷ []) (with_numbers 1 (sent_to n a b J))
next_acted n a b j J next begins =
    let t : ℕ = length (acted_from a b J) in
    let same : (1 + t, Some next.item) ≡ (j, item_at a j (deeds_at b J)) = ap (λ (m : ℕ). (m, Some next.item)) (let number = next.next in omega (arith, number)) ∙ ap (λ item. (j, item)) (sym next.found) in
    subst (λ pair. IsBeginning (acted_from a b J ++ pair ∷ []) (with_numbers 1 (sent_to n a b J))) same
    (begins_further (acted_from a b J) (with_numbers 1 (sent_to n a b J)) (1 + t, Some next.item) begins (numbered_at 1 (sent_to n a b J) t next.item next.was_sent))

-- item j from a, that b acts on in its session, is the next there
present_acted : (n a b j : ℕ) (limits : ℕ → Limits) (J : List Entry) → WorldRun n limits J → IsNextOf n a b j J → ActsInOrder n a b (number_at b a J) J → IsBeginning (acted_in a b (number_at b a J) J ++ (j, item_at a j (deeds_at b J)) ∷ []) (with_numbers 1 (sent_to n a b J))
present_acted n a b j limits J run next begins = subst (λ pairs. IsBeginning (pairs ++ (j, item_at a j (deeds_at b J)) ∷ []) (with_numbers 1 (sent_to n a b J))) (acted_from_is n a b limits J run) (next_acted n a b j J next (now_acted n a b limits J run begins))

act_step : (n a b q j k : ℕ) (limits : ℕ → Limits) (J : List Entry) → WorldRun n limits J → (own now : Bool) → (number_at b a J == k) ≡ now → (own ≡ true → IsNextOf n a b j J) → ActsInOrder n a b k J → IsBeginning (cond (own && now) (acted_in a b k J ++ (j, item_at a j (deeds_at b J)) ∷ []) (acted_in a b k J)) (with_numbers 1 (sent_in n a b k J))
act_step n a b q j k limits J run true true is next begins =
    let same : number_at b a J ≡ k = eqb-true (number_at b a J) k is in
    subst (λ (m : ℕ). IsBeginning (acted_in a b m J ++ (j, item_at a j (deeds_at b J)) ∷ []) (with_numbers 1 (sent_in n a b m J))) same
    (present_acted n a b j limits J run (next refl) (subst (λ (m : ℕ). ActsInOrder n a b m J) (sym same) begins))
act_step n a b q j k limits J run true false is next begins = begins
act_step n a b q j k limits J run false now is next begins = begins

deed_step : (n a b k : ℕ) (limits : ℕ → Limits) (deed : Deed) (J : List Entry) → WorldRun n limits J → AllFit a n (deeds_at a J) → IsRightDeed b n (limits b) deed (deeds_at b J) → ActsInOrder n a b k J → IsBeginning (acted_during a k (deed ∷ deeds_at b J)) (with_numbers 1 (sent_in n a b k J))
deed_step n a b k limits (did.Act q j) J run all right begins =
    act_step n a b q j k limits J run (q == a) (number_at b a J == k) refl (λ own. acts_on_next a b n j limits J run all (subst (λ (p : ℕ). IsRightDeed b n (limits b) (did.Act p j) (deeds_at b J)) (eqb-true q a own) right)) begins
deed_step n a b k limits deed J run all right begins = begins

-- what each space acted on from each peer is a beginning of what that sent it, in each session
pub in_order : (n : ℕ) (limits : ℕ → Limits) (J : List Entry) → WorldRun n limits J → AreOfTypes J → (a b k : ℕ) → ActsInOrder n a b k J
in_order n limits [] run typed a b k = ([], refl)
in_order n limits (entry ∷ J) run typed a b k =
    let before : ActsInOrder n a b k J = in_order n limits J run.1 typed.1 a b k in
    sent_longer n a b k entry J (acted_during a k (deeds_at b (entry ∷ J)))
    elim (grows b entry J) [
      | inl same ↦ subst (λ D. IsBeginning (acted_during a k D) (with_numbers 1 (sent_in n a b k J))) (sym same) before
      | inr more ↦
          let right : AreRightDeeds b n (limits b) (more.0 ∷ deeds_at b J) = subst (AreRightDeeds b n (limits b)) more.3 (right_deeds_at n limits (entry ∷ J) run b) in
          subst (λ D. IsBeginning (acted_during a k D) (with_numbers 1 (sent_in n a b k J))) (sym more.3) (deed_step n a b k limits more.0 J run.1 (all_fit n limits J run.1 typed.1 a) right.0 before)
    ]

-- and so it is in the session in which the space is that acts
pub in_order_now : (n : ℕ) (limits : ℕ → Limits) (J : List Entry) → WorldRun n limits J → AreOfTypes J → (a b : ℕ) → ActsNow n a b J
in_order_now n limits J run typed a b = now_acted n a b limits J run (in_order n limits J run typed a b (number_at b a J))

-- ---- the sessions of a run

pub sessions : (n : ℕ) (limits : ℕ → Limits) (J : List Entry) → WorldRun n limits J → AreOfTypes J → Sessions n J
sessions n limits J run typed = record {
  items_spelt = λ a b k. sent_fits a b n k J (all_fit n limits J run typed a);
  reached = λ a b apart. reached a b n limits J apart run;
  accepted_in_order = λ a b apart. let front = (reached a b n limits J apart run).front in (front.0, front.1 ∙ handed_in a n b (number_at b a J) (deeds_at a J) (rise_at a n limits J run));
  acted_in_order = in_order n limits J run typed;
  frames_carry = frames_carried n limits J run;
}
