-- The sessions in which copies were sent and came aren't above the ones in which the spaces are: who sends a reference is granted it
-- in a session to which its owner came, and who acts on a copy is in a session to which its sender came.
use Rattle.std.proofs.Common.{◌≡◌, ℕ, zero, suc, ◌+◌, ◌-◌, ◌≤◌, ◌&&◌, ◌||◌, Bool, true, false, cond, List, [], ◌∷◌, ◌++◌, length, filter, find, Option, Some, None, refl, sym, ap, subst, ◌∙◌, inl, inr, arith}
use Rattle.std.specs.Prelude.{◌==◌, ◌<◌, nat_le}
use Rattle.std.specs.List.{AllByRecursion, list_any, slice_get}
use Rattle.std.proofs.lemmas.Bool.{eqb-true, eq-eqb, and_from, or_left, or_right, leb-true, leb-false}
use Rattle.std.proofs.lemmas.List.Folds.{list_any-append}
use Rattle.nob_ids.specs.Names.{is_same}
use Rattle.nob_ids.specs.declared.limits.Limits.{Limits}
use Rattle.nob_ids.specs.declared.wire_rep.WireRep.{WireRep}
use Rattle.nob_item.specs.Kinds.{is_note, counted_in}
use Rattle.nob_item.specs.declared.item.Item.{Item}
use Rattle.nob_item.specs.declared.item.Item.TheVariants as items
use Rattle.nob_model_types.specs.declared.entry.Entry.{Entry}
use Rattle.nob_model_types.specs.declared.event.Outcome.{Outcome}
use Rattle.nob_model_types.specs.declared.deed.Deed.{Deed}
use Rattle.nob_model_types.specs.declared.deed.Deed.TheVariants as did
use Rattle.nob_model_types.specs.declared.message.Message.{Message}
use Rattle.nob_model_types.specs.Sessions.{is_peer, number, item_at}
use Rattle.nob_model_types.specs.Turns.{turns, is_granted}
use Rattle.nob_model_types.specs.Messages.{is_of, is_lost_message}
use Rattle.nob_model_work.specs.declared.gifts.Gift.{Gift}
use Rattle.nob_model_work.specs.declared.work.Run.{Run}
use Rattle.nob_model_work.specs.Work.{work}
use Rattle.nob_model_work.specs.Gifts.{lost_call_reply, gifts_of_settle, value_of, reply_to, gifts_of_finish, gifts_of, gifts}
use Rattle.nob_model_history.specs.declared.transit.SentItem.{SentItem}
use Rattle.nob_model_history.specs.Histories.{history_of}
use Rattle.nob_model_history.specs.Transit.{is_sent_to, next_sent, owner_sessions, number_at_place, owner_session, sent}
use Rattle.nob_model_history.proofs.Sending.{new_items, sent_more}
use Rattle.nob_model_history.proofs.Turning.{same_ref}
use Rattle.nob_model.specs.Right.{right_after}
use Rattle.nob_model.specs.Lists.{AreRightDeeds}
use Rattle.nob_model.proofs.Doing.{was_answered}
use Rattle.nob_model.proofs.Accepted.{call_tells, finish_tells}
use Rattle.nob_model.proofs.Carrying.{all_filter}
use Rattle.nob_model.proofs.Waiting.{all_weaker}
use Rattle.nob_model_journal.specs.Fronts.{with_numbers}
use Rattle.nob_model_journal.specs.Journals.{deeds_at, history_at, number_at, sent_to, acted_from}
use Rattle.nob_model_journal.specs.Losses.{is_carried, is_source, sources}
use Rattle.nob_model_journal.specs.declared.losses.Source.{Source}
use Rattle.nob_model_journal.specs.Runs.{WorldRun}
use Rattle.nob_model_holdings.proofs.Granted.{is_owned}
use Rattle.nob_model_holdings.proofs.Lists.{all_append, some_same}
use Rattle.nob_model_invariant.specs.LossInvariant.{IsReached}
use Rattle.nob_model_invariant.specs.LossLaws.{NumbersLaw}
use Rattle.nob_model_invariant.specs.Typed.{AreOfTypes}
use Rattle.nob_model_invariant.proofs.Entries.{grows, right_deeds_at}
use Rattle.nob_model_invariant.proofs.EachSession.{rises, none_sent_above}
use Rattle.nob_model_invariant.proofs.Copied.{new_source, more_rest, cleaned}
use Rattle.nob_model_invariant.proofs.Guarding.{value_owned}
use Rattle.nob_model_invariant.proofs.Listings.{granted_reached}
use Rattle.nob_model_invariant.proofs.Notes.{gives_notes}
use Rattle.nob_model_invariant.proofs.Numbered.{numbered_at}
use Rattle.nob_model_invariant.proofs.Order.{acts_on_next, all_fit}
use Rattle.nob_model_invariant.proofs.Sent.{IsSentAs, sent_as}

none_some : {X : Type 0} (x : X) → None ≡ Some x → ⊥
none_some x e = cc

-- what two spaces had reached they have reached
still_reached : (n k a b : ℕ) (limits : ℕ → Limits) (entry : Entry) (J : List Entry) → WorldRun n limits (entry ∷ J) → IsReached k a b J → IsReached k a b (entry ∷ J)
still_reached n k a b limits entry J run low = (
  let here = rises n a b limits entry J run in let most = low.0 in omega (arith, here, most),
  let there = rises n b a limits entry J run in let most = low.1 in omega (arith, there, most),
)

-- ---- what is given carries what is own or granted

abbrev CarriesOwned : (s n : ℕ) → List Deed → Gift → Type 0
CarriesOwned s n D gift = AllByRecursion (λ rep. is_owned s n rep D ≡ true) (counted_in gift.item)

module _ (s n : ℕ) (D : List Deed) where
  note_carries : (item : Item) → is_note item ≡ true → AllByRecursion (λ rep. is_owned s n rep D ≡ true) (counted_in item)
  note_carries (items.Call call target method value) is = cc
  note_carries (items.Reply call status value) is = cc
  note_carries (items.Settle item) is = tt
  note_carries (items.Dirty index) is = tt
  note_carries (items.DirtyOk index) is = tt
  note_carries (items.DirtyNo index) is = tt
  note_carries (items.Clean index) is = tt

  reply_carries : (p : ℕ) (item : Item) (outcome : Outcome) → ((call status : ℕ) → AllByRecursion (λ rep. is_owned s n rep D ≡ true) (counted_in (items.Reply call status (value_of outcome)))) → AllByRecursion (CarriesOwned s n D) (reply_to p item outcome)
  unfolding reply_to
  reply_carries p (items.Call call target method value) outcome all = (all call 0, tt)
  reply_carries p (items.Reply call status value) outcome all = tt
  reply_carries p (items.Settle item) outcome all = tt
  reply_carries p (items.Dirty index) outcome all = tt
  reply_carries p (items.DirtyOk index) outcome all = tt
  reply_carries p (items.DirtyNo index) outcome all = tt
  reply_carries p (items.Clean index) outcome all = tt

  lost_carries : (p : ℕ) (item : Item) (lost : Bool) → AllByRecursion (CarriesOwned s n D) (lost_call_reply p item lost)
  unfolding lost_call_reply
  lost_carries p (items.Call call target method value) true = (tt, tt)
  lost_carries p (items.Call call target method value) false = tt
  lost_carries p (items.Reply call status value) lost = tt
  lost_carries p (items.Settle item) lost = tt
  lost_carries p (items.Dirty index) lost = tt
  lost_carries p (items.DirtyOk index) lost = tt
  lost_carries p (items.DirtyNo index) lost = tt
  lost_carries p (items.Clean index) lost = tt

  settle_carries : (p k : ℕ) (found : Option Message) → AllByRecursion (CarriesOwned s n D) (gifts_of_settle s n p k D found)
  unfolding gifts_of_settle
  settle_carries p k None = tt
  settle_carries p k (Some m) = (tt, lost_carries p m.item (is_lost_message s n D m))

gives_owned : (s n : ℕ) (limits : Limits) (deed : Deed) (D : List Deed) → AreRightDeeds s n limits (deed ∷ D) → AllByRecursion (CarriesOwned s n D) (gifts_of s n deed D (work s n D))
unfolding right_after gifts_of gifts_of_finish
gives_owned s n limits (did.Call target method value call) D right =
    let told = call_tells s n target value call (history_of s n D) (was_answered s n limits (did.Call target method value call) D right.0) in
    (value_owned s n limits D right.1 value told.4, tt)
gives_owned s n limits (did.Finish job outcome) D right =
    let told = finish_tells s job outcome (history_of s n D) (was_answered s n limits (did.Finish job outcome) D right.0) in
    subst (λ (found : Option Run). AllByRecursion (CarriesOwned s n D) (gifts_of_finish outcome found)) (sym told.1) (reply_carries s n D told.0.message.from told.0.message.item outcome (λ call status. value_owned s n limits D right.1 (value_of outcome) told.3))
gives_owned s n limits (did.Settle p k) D right = settle_carries s n D p k (find (is_of p k) (work s n D).waiting)
gives_owned s n limits deed D right =
    all_weaker (λ (gift : Gift). is_note gift.item ≡ true) (CarriesOwned s n D) (λ gift. note_carries s n D gift.item) (gifts_of s n deed D (work s n D)) (gives_notes s n deed D (work s n D) refl)

-- ---- the sessions with owners

-- the number at the place of a reference is one that is known of it
place_has : (rep : WireRep) (D : List Deed) (most : WireRep → ℕ) (reps : List WireRep) → AllByRecursion (λ (other : WireRep). number other.owner D ≤ most other) reps → number_at_place rep reps (owner_sessions D reps) ≤ most rep
place_has rep D most [] all = omega arith
place_has rep D most (other ∷ reps) all = by (is_same rep other) refl (place_has rep D most reps all.1)
  where
    by : (b : Bool) → is_same rep other ≡ b → number_at_place rep reps (owner_sessions D reps) ≤ most rep → cond b (number other.owner D) (number_at_place rep reps (owner_sessions D reps)) ≤ most rep
    by true same low = subst (λ (r : WireRep). number other.owner D ≤ most r) (sym (same_ref rep other same)) all.0
    by false unlike low = low

own_numbers : (D : List Deed) (reps : List WireRep) → AllByRecursion (λ (rep : WireRep). number rep.owner D ≤ number rep.owner D) reps
own_numbers D [] = tt
own_numbers D (rep ∷ reps) = (omega arith, own_numbers D reps)

-- the session with the owner of a reference in which an item was sent isn't above the ones in which the two are
abbrev IsWithOwner : (a : ℕ) → WireRep → List Entry → SentItem → Type 0
IsWithOwner a rep J one = IsReached (owner_session rep one) a rep.owner J

module _ (n a : ℕ) (limits : ℕ → Limits) (J : List Entry) (run : WorldRun n limits J) (typed : AreOfTypes J) where
  owned_reached : (rep : WireRep) → is_owned a n rep (deeds_at a J) ≡ true → number_at a rep.owner J ≤ number_at rep.owner a J
  owned_reached rep owned = by (rep.owner == a) refl owned
    where
      by : (b : Bool) → (rep.owner == a) ≡ b → (b || is_granted (turns a n rep (deeds_at a J))) ≡ true → number_at a rep.owner J ≤ number_at rep.owner a J
      by true same either = subst (λ (o : ℕ). number_at a o J ≤ number_at o a J) (sym (eqb-true rep.owner a same)) (omega arith)
      by false other granted = granted_reached n a limits J rep run typed granted

  new_reached : (rep : WireRep) (more : List Gift) (before : List SentItem) → AllByRecursion (CarriesOwned a n (deeds_at a J)) more → AllByRecursion (IsWithOwner a rep J) (new_items (deeds_at a J) before more)
  new_reached rep [] before all = tt
  new_reached rep (gift ∷ more) before all =
      let reps : List WireRep = counted_in gift.item in
      let D : List Deed = deeds_at a J in (
        (
          place_has rep D (λ (other : WireRep). number other.owner D) reps (own_numbers D reps),
          place_has rep D (λ (other : WireRep). number_at other.owner a J) reps (all_weaker (λ other. is_owned a n other D ≡ true) (λ (other : WireRep). number other.owner D ≤ number_at other.owner a J) owned_reached reps all.0),
        ),
        new_reached rep more (before ++ next_sent D before gift ∷ []) all.1,
      )

  deed_with_owner : (rep : WireRep) (deed : Deed) → AreRightDeeds a n (limits a) (deed ∷ deeds_at a J) → AllByRecursion (IsWithOwner a rep J) (sent (history_at a n J)) → AllByRecursion (IsWithOwner a rep J) (sent (history_of a n (deed ∷ deeds_at a J)))
  unfolding gifts
  deed_with_owner rep deed right before =
      let D : List Deed = deeds_at a J in
      subst (AllByRecursion (IsWithOwner a rep J)) (sym (sent_more a n deed D))
      (all_append (IsWithOwner a rep J) (sent (history_of a n D)) (new_items D (sent (history_of a n D)) (gifts a n deed D (work a n D))) before
      (new_reached rep (gifts a n deed D (work a n D)) (sent (history_of a n D)) (all_filter (CarriesOwned a n D) (λ (gift : Gift). is_peer a n gift.to) (gifts_of a n deed D (work a n D)) (gives_owned a n (limits a) deed D right))))

-- in every run each item was sent in such sessions with the owners of its references
pub owners_reached : (n : ℕ) (limits : ℕ → Limits) (J : List Entry) → WorldRun n limits J → AreOfTypes J → (a : ℕ) (rep : WireRep) → AllByRecursion (λ one. IsReached (owner_session rep one) a rep.owner J) (sent (history_at a n J))
owners_reached n limits [] run typed a rep = tt
owners_reached n limits (entry ∷ J) run typed a rep =
    let before : AllByRecursion (IsWithOwner a rep J) (sent (history_at a n J)) = owners_reached n limits J run.1 typed.1 a rep in
    let later : (all : List SentItem) → AllByRecursion (IsWithOwner a rep J) all → AllByRecursion (IsWithOwner a rep (entry ∷ J)) all = λ all low. all_weaker (IsWithOwner a rep J) (IsWithOwner a rep (entry ∷ J)) (λ one is. still_reached n (owner_session rep one) a rep.owner limits entry J run is) all low in
    elim (grows a entry J) [
      | inl same ↦ subst (λ D. AllByRecursion (IsWithOwner a rep (entry ∷ J)) (sent (history_of a n D))) (sym same) (later (sent (history_at a n J)) before)
      | inr more ↦
          let right : AreRightDeeds a n (limits a) (more.0 ∷ deeds_at a J) = subst (AreRightDeeds a n (limits a)) more.3 (right_deeds_at n limits (entry ∷ J) run a) in
          subst (λ D. AllByRecursion (IsWithOwner a rep (entry ∷ J)) (sent (history_of a n D))) (sym more.3) (later (sent (history_of a n (more.0 ∷ deeds_at a J))) (deed_with_owner n a limits J run.1 typed.1 rep more.0 right before))
    ]

-- ---- the sessions of copies

-- a copy that came to b was sent, in a session that isn't above the ones in which the two are
abbrev pub IsCome : (n b : ℕ) → List Entry → Source → Type 0
IsCome n b J copy = IsReached copy.session copy.from b J × (list_any (is_source b copy) (sent (history_at copy.from n J)) ≡ true)

any_at : {X : Type 0} (among test : X → Bool) (xs : List X) (place : ℕ) (x : X) → slice_get (filter among xs) place ≡ Some x → test x ≡ true → list_any test xs ≡ true
any_at among test [] place x at is = absurd (none_some x at)
any_at among test (y ∷ xs) place x at is = by (λ place at. any_at among test xs place x at is) (among y) place at
  where
    by : ((place : ℕ) → slice_get (filter among xs) place ≡ Some x → list_any test xs ≡ true) → (b : Bool) (place : ℕ) → slice_get (cond b (y ∷ filter among xs) (filter among xs)) place ≡ Some x → (test y || list_any test xs) ≡ true
    by rest true zero at = or_left (test y) (list_any test xs) (ap test (some_same y x at) ∙ is)
    by rest true (suc place) at = or_right (test y) (list_any test xs) (rest place at)
    by rest false place at = or_right (test y) (list_any test xs) (rest place at)

none_at : (place : ℕ) (item : Item) (more : List Item) → more ≡ [] → slice_get more place ≡ Some item → ⊥
none_at place item more none at = none_some item (sym (ap (λ xs. slice_get xs place) none) ∙ at)

module _ (n p b k : ℕ) (limits : ℕ → Limits) (J : List Entry) (run : WorldRun n limits J) (typed : AreOfTypes J) (right : AreRightDeeds b n (limits b) (did.Act p k ∷ deeds_at b J)) where
  sender_came : number_at b p J ≤ number_at p b J
  sender_came = by (nat_le (number_at b p J) (number_at p b J)) refl
    where
      never : number_at p b J < number_at b p J → ⊥
      never above =
          let next = acts_on_next p b n k limits J run (all_fit n limits J run typed p) right.0 in
          none_at (length (acted_from p b J)) next.item (sent_to n p b J) (none_sent_above p n b (number_at b p J) (limits p) (deeds_at p J) (right_deeds_at n limits J run p) above) next.was_sent

      by : (test : Bool) → nat_le (number_at b p J) (number_at p b J) ≡ test → number_at b p J ≤ number_at p b J
      by true is = leb-true (number_at b p J) (number_at p b J) is
      by false is = absurd (never (let above = leb-false (number_at b p J) (number_at p b J) is in omega (arith, above)))

  new_sent : list_any (is_source b (new_source p k (deeds_at b J))) (sent (history_at p n J)) ≡ true
  new_sent =
      let next = acts_on_next p b n k limits J run (all_fit n limits J run typed p) right.0 in
      let session : ℕ = number_at b p J in
      let t : ℕ = length (acted_from p b J) in
      let count = next.next in
      let place : k - 1 ≡ t = omega (arith, count) in
      let there : slice_get (with_numbers 1 (sent_to n p b J)) (k - 1) ≡ Some (k, Some next.item) =
      ap (slice_get (with_numbers 1 (sent_to n p b J))) place ∙ numbered_at 1 (sent_to n p b J) t next.item next.was_sent ∙ ap (λ (m : ℕ). Some (m, Some next.item)) (let one : 1 + t ≡ k = omega (arith, count) in one) in
      let its : IsSentAs n p b session k next.item J = sent_as n p b session k next.item J there in
      any_at (is_sent_to b session) (is_source b (new_source p k (deeds_at b J))) (sent (history_at p n J)) (k - 1) its.one its.place
      (and_from (is_sent_to b session its.one) (its.one.number == k) (and_from (its.one.to == b) (its.one.session == session) (eq-eqb its.one.to b its.to) (eq-eqb its.one.session session its.of_session)) (eq-eqb its.one.number k its.number))

  new_come : IsCome n b J (new_source p k (deeds_at b J))
  new_come = ((sender_came, omega arith), new_sent)

pub deed_come : (n b : ℕ) (limits : ℕ → Limits) (J : List Entry) (rep : WireRep) (deed : Deed) → WorldRun n limits J → AreOfTypes J → AreRightDeeds b n (limits b) (deed ∷ deeds_at b J) → AllByRecursion (IsCome n b J) (sources b n rep (deeds_at b J)) → AllByRecursion (IsCome n b J) (sources b n rep (deed ∷ deeds_at b J))
deed_come n b limits J rep (did.Act p k) run typed right before = more_rest (IsCome n b J) (is_carried rep (item_at p k (deeds_at b J))) (new_source p k (deeds_at b J)) (sources b n rep (deeds_at b J)) (λ carried. new_come n p b k limits J run typed right) before
deed_come n b limits J rep (did.Clean other) run typed right before = cleaned (IsCome n b J) (is_same rep other && (turns b n rep (deeds_at b J)).asks) (sources b n rep (deeds_at b J)) before
deed_come n b limits J rep (did.Open q k) run typed right before = elim (q == rep.owner) as (λ (own : Bool). AllByRecursion (IsCome n b J) (cond own [] (sources b n rep (deeds_at b J)))) [ true ↦ tt | false ↦ before ]
deed_come n b limits J rep deed run typed right before = before

sent_later : (n a : ℕ) (test : SentItem → Bool) (entry : Entry) (J : List Entry) → list_any test (sent (history_at a n J)) ≡ true → list_any test (sent (history_at a n (entry ∷ J))) ≡ true
sent_later n a test entry J there = elim (grows a entry J) [
  | inl same ↦ ap (λ D. list_any test (sent (history_of a n D))) same ∙ there
  | inr more ↦
      let new : List SentItem = new_items (deeds_at a J) (sent (history_at a n J)) (gifts a n more.0 (deeds_at a J) (work a n (deeds_at a J))) in
      ap (λ D. list_any test (sent (history_of a n D))) more.3
      ∙ ap (list_any test) (sent_more a n more.0 (deeds_at a J))
      ∙ list_any-append test (sent (history_at a n J)) new
      ∙ or_left (list_any test (sent (history_at a n J))) (list_any test new) there
]

still_come : (n b : ℕ) (limits : ℕ → Limits) (entry : Entry) (J : List Entry) → WorldRun n limits (entry ∷ J) → (copy : Source) → IsCome n b J copy → IsCome n b (entry ∷ J) copy
still_come n b limits entry J run copy its = (still_reached n copy.session copy.from b limits entry J run its.0, sent_later n copy.from (is_source b copy) entry J its.1)

-- in every run each copy came in such a session
pub copies_come : (n : ℕ) (limits : ℕ → Limits) (J : List Entry) → WorldRun n limits J → AreOfTypes J → (b : ℕ) (rep : WireRep) → AllByRecursion (IsCome n b J) (sources b n rep (deeds_at b J))
copies_come n limits [] run typed b rep = tt
copies_come n limits (entry ∷ J) run typed b rep =
    let before = copies_come n limits J run.1 typed.1 b rep in
    elim (grows b entry J) [
      | inl same ↦ subst (λ D. AllByRecursion (IsCome n b (entry ∷ J)) (sources b n rep D)) (sym same) (all_weaker (IsCome n b J) (IsCome n b (entry ∷ J)) (still_come n b limits entry J run) (sources b n rep (deeds_at b J)) before)
      | inr more ↦
          let right : AreRightDeeds b n (limits b) (more.0 ∷ deeds_at b J) = subst (AreRightDeeds b n (limits b)) more.3 (right_deeds_at n limits (entry ∷ J) run b) in
          subst (λ D. AllByRecursion (IsCome n b (entry ∷ J)) (sources b n rep D)) (sym more.3) (all_weaker (IsCome n b J) (IsCome n b (entry ∷ J)) (still_come n b limits entry J run) (sources b n rep (more.0 ∷ deeds_at b J)) (deed_come n b limits J rep more.0 run.1 typed.1 right before))
    ]

pub numbers : NumbersLaw
numbers n limits J run typed = record {
  copies_reached = λ b rep. all_weaker (IsCome n b J) (λ copy. IsReached copy.session copy.from b J) (λ copy its. its.0) (sources b n rep (deeds_at b J)) (copies_come n limits J run typed b rep);
  copies_sent = λ b rep. all_weaker (IsCome n b J) (λ copy. list_any (is_source b copy) (sent (history_at copy.from n J)) ≡ true) (λ copy its. its.1) (sources b n rep (deeds_at b J)) (copies_come n limits J run typed b rep);
  owners_reached = λ a rep. owners_reached n limits J run typed a rep;
}
