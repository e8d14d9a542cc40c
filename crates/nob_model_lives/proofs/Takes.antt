-- The third part of the bridge: the reply to each call is taken, or that there will be none, and what comes into the hand
-- is given back. Then nothing is outstanding.
use Rattle.std.proofs.Common.{◌≡◌, ℕ, zero, suc, ◌+◌, ◌≤◌, not, Bool, true, false, List, [], ◌∷◌, length, map, filter, find, Option, Some, None, refl, sym, ap, subst, ◌∙◌, arith, ◌⊎◌, inl, inr}
use Rattle.std.specs.Prelude.{nat_lt}
use Rattle.std.specs.List.{AllByRecursion, list_any}
use Rattle.std.proofs.lemmas.Bool.{eq-eqb, ltb-true, false_from_ne_true}
use Rattle.nob_ids.specs.Names.{is_counted}
use Rattle.nob_ids.specs.declared.limits.Limits.{Limits}
use Rattle.nob_ids.specs.declared.wire_rep.WireRep.{WireRep}
use Rattle.nob_pickle.specs.Limits.{most_references}
use Rattle.nob_pickle.specs.Spelling.{refs_in}
use Rattle.nob_pickle.specs.declared.value.Value.{Value}
use Rattle.nob_item.specs.declared.item.Item.{Item}
use Rattle.nob_item.specs.declared.item.Item.TheVariants as items
use Rattle.nob_model_types.specs.declared.event.Event.TheVariants as events
use Rattle.nob_model_types.specs.declared.answer.Answer.TheVariants as answers
use Rattle.nob_model_types.specs.declared.refusal.Refusal.TheVariants as refusals
use Rattle.nob_model_types.specs.declared.deed.Deed.{Deed}
use Rattle.nob_model_types.specs.declared.deed.Deed.TheVariants as did
use Rattle.nob_model_types.specs.declared.message.Message.{Message}
use Rattle.nob_model_types.specs.Deeds.{deed_by}
use Rattle.nob_model_types.specs.Sessions.{is_peer, closed}
use Rattle.nob_model_types.specs.Messages.{replies_to}
use Rattle.nob_model_work.specs.declared.work.OwnCall.{OwnCall}
use Rattle.nob_model_work.specs.declared.work.Stage.{Stage}
use Rattle.nob_model_work.specs.declared.work.Stage.TheVariants as stages
use Rattle.nob_model_work.specs.Work.{is_call, no_work, work, work_after, with_loans, run_after, after_take, after_end}
use Rattle.nob_model_history.specs.declared.history.History.{History}
use Rattle.nob_model_history.specs.Histories.{history_of}
use Rattle.nob_model_history.specs.Holds.{times, hand}
use Rattle.nob_model_acting.specs.Sending.{refuse_if, unless}
use Rattle.nob_model.specs.Right.{greatest_hand, right_after, right_take_reply, take_of, answer_of_call, answer_of_reply, answer_of_stage, is_handful}
use Rattle.nob_model.specs.Lists.{IsRightDeed, AreRightDeeds}
use Rattle.nob_model.proofs.Accepted.{found_passes}
use Rattle.nob_model.proofs.Carrying.{all_found}
use Rattle.nob_model.proofs.Waiting.{all_weaker}
use Rattle.nob_model_holdings.proofs.Lists.{all_pass}
use Rattle.nob_model_lives.proofs.Anys.{none_found, any_none}
use Rattle.nob_model_lives.proofs.Finishes.{Idles, filter_first, found_first}
use Rattle.nob_model_lives.proofs.Leads.{Leads, stays, leads_by, leads_on}
use Rattle.nob_model_lives.proofs.Matched.{IsOver, HasCall, all_matched}
use Rattle.nob_model_lives.proofs.Read.{HasFew, CarriesFew, all_few, times_few}
use Rattle.nob_model_lives.proofs.Releases.{IsEmptyHand, release_all}
use Rattle.nob_model_lives.proofs.Shown.{Shown, take_shows, end_shows, release_shows}
use Rattle.nob_model_lives.proofs.Up.{shut_waiting, shut_ready}

-- ---- one reply

-- where the hand is empty no value fills it
few_taken : (s n : ℕ) (D : List Deed) (v : Value) → IsEmptyHand D → length (refs_in v) ≤ most_references → is_handful v (history_of s n D) ≡ false
few_taken s n D v empty few =
    any_none (λ (rep : WireRep). nat_lt greatest_hand (hand rep D + times rep (filter is_counted (refs_in v)))) (filter is_counted (refs_in v))
    (all_weaker (λ (rep : WireRep). is_counted rep ≡ true) (λ (rep : WireRep). nat_lt greatest_hand (hand rep D + times rep (filter is_counted (refs_in v))) ≡ false) (λ rep counted. low rep (empty rep counted)) (filter is_counted (refs_in v)) (all_pass is_counted (refs_in v)))
  where
    low : (rep : WireRep) → hand rep D ≡ 0 → nat_lt greatest_hand (hand rep D + times rep (filter is_counted (refs_in v))) ≡ false
    low rep none = false_from_ne_true (nat_lt greatest_hand (hand rep D + times rep (filter is_counted (refs_in v)))) (λ over. let above = ltb-true greatest_hand (hand rep D + times rep (filter is_counted (refs_in v))) over in let most = times_few rep (refs_in v) in omega (arith, above, most, none, few))

reply_by : (k status : ℕ) (v : Value) (full : Bool) → full ≡ false → deed_by (events.TakeReply k) (unless (refuse_if full refusals.Limit) (answers.Replied status v)) ≡ Some (did.TakeReply k status v)
reply_by k status v true room = cc
reply_by k status v false room = refl

end_by : (k : ℕ) (stage : Stage) → stage ≡ stages.Ended → deed_by (events.TakeReply k) (answer_of_stage stage) ≡ Some (did.TakeEnd k)
end_by k stage is = ap (λ (one : Stage). deed_by (events.TakeReply k) (answer_of_stage one)) is

item_taken : (s n k : ℕ) (D : List Deed) (item : Item) → IsEmptyHand D → replies_to k item ≡ true → HasFew item → (status : ℕ) × (v : Value) × (deed_by (events.TakeReply k) (answer_of_reply item (history_of s n D)) ≡ Some (did.TakeReply k status v))
unfolding answer_of_reply
item_taken s n k D (items.Reply call status v) empty is few = (status, v, reply_by k status v (is_handful v (history_of s n D)) (few_taken s n D v empty few))
item_taken s n k D (items.Call call target method v) empty is few = cc
item_taken s n k D (items.Settle item) empty is few = cc
item_taken s n k D (items.Dirty index) empty is few = cc
item_taken s n k D (items.DirtyOk index) empty is few = cc
item_taken s n k D (items.DirtyNo index) empty is few = cc
item_taken s n k D (items.Clean index) empty is few = cc

-- the reply to a call can be taken, or that there will be none
abbrev IsTakenRight : (s n : ℕ) → Limits → ℕ → List Deed → Type 0
IsTakenRight s n limits k D = ((status : ℕ) × (v : Value) × IsRightDeed s n limits (did.TakeReply k status v) D) ⊎ IsRightDeed s n limits (did.TakeEnd k) D

taken_by : (s n : ℕ) (limits : Limits) (D : List Deed) (own : OwnCall) → IsEmptyHand D → find (is_call own.call) (work s n D).calls ≡ Some own → IsOver own (work s n D).replies → (found : Option Message) → find (λ (m : Message). replies_to own.call m.item) (work s n D).replies ≡ found → IsTakenRight s n limits own.call D
unfolding right_after right_take_reply take_of answer_of_call
taken_by s n limits D own empty there over (Some m) e =
    let h : History = history_of s n D in
    let replies : replies_to own.call m.item ≡ true = found_passes (λ (o : Message). replies_to own.call o.item) (work s n D).replies m e in
    let taken = item_taken s n own.call D m.item empty replies (all_found CarriesFew (λ (o : Message). replies_to own.call o.item) (work s n D).replies m e (all_few s n D).replies) in
    inl (
      taken.0,
      taken.1,
      (
        events.TakeReply own.call,
        ap (λ (one : Option OwnCall). deed_by (events.TakeReply own.call) (take_of own.call one h)) there
            ∙ ap (λ (one : Option Message). deed_by (events.TakeReply own.call) (answer_of_call own one h)) e
            ∙ taken.2,
      ),
    )
taken_by s n limits D own empty there (inl ended) None e =
    let h : History = history_of s n D in
    inr (
      events.TakeReply own.call,
      ap (λ (one : Option OwnCall). deed_by (events.TakeReply own.call) (take_of own.call one h)) there
          ∙ ap (λ (one : Option Message). deed_by (events.TakeReply own.call) (answer_of_call own one h)) e
          ∙ end_by own.call own.stage ended,
    )
taken_by s n limits D own empty there (inr some) None e = absurd (let clash : true ≡ false = sym some ∙ any_none (λ (m : Message). replies_to own.call m.item) (work s n D).replies (none_found (λ (m : Message). replies_to own.call m.item) (work s n D).replies e) in cc)

-- ---- one after the other

module _ (s n : ℕ) (limits : Limits) (x : Shown) where
  -- so many calls are outstanding at most
  abbrev Lasts : ℕ → List Deed → Type 0
  Lasts m D = Idles s n limits x D × (length (work s n D).calls ≤ m)

  last_right : (m : ℕ) (D : List Deed) → Lasts m D → AreRightDeeds s n limits D
  last_right m D its = its.0.0.right

  last_release : (m : ℕ) (rep : WireRep) (D : List Deed) → Lasts m D → IsRightDeed s n limits (did.Release rep) D → Lasts m (did.Release rep ∷ D)
  unfolding work_after with_loans
  last_release m rep D its right =
      ((record { right = (right, its.0.0.right); shows = release_shows s n rep D ∙ its.0.0.shows; shut = its.0.0.shut }, ap (map (λ run. run_after s n (did.Release rep ∷ D) run)) its.0.1), its.1)

  fewer_calls : (m : ℕ) (own : OwnCall) (all calls : List OwnCall) → all ≡ own ∷ calls → length calls ≤ m → length (filter (λ (o : OwnCall). not (is_call own.call o)) all) ≤ m
  fewer_calls m own all calls e low =
      let same : length (filter (λ (o : OwnCall). not (is_call own.call o)) all) ≡ length (filter (λ (o : OwnCall). not (is_call own.call o)) (own ∷ calls)) = ap (λ (os : List OwnCall). length (filter (λ (o : OwnCall). not (is_call own.call o)) os)) e in
      let less = filter_first (λ (o : OwnCall). not (is_call own.call o)) own calls (ap not (eq-eqb own.call own.call refl)) in
      omega (arith, same, less, low)

  last_taken : (m status : ℕ) (v : Value) (own : OwnCall) (calls : List OwnCall) (D : List Deed) → Idles s n limits x D → (work s n D).calls ≡ own ∷ calls → length calls ≤ m → IsRightDeed s n limits (did.TakeReply own.call status v) D → Lasts m (did.TakeReply own.call status v ∷ D)
  unfolding work_after after_take with_loans
  last_taken m status v own calls D its e low right =
      ((record { right = (right, its.0.right); shows = take_shows s n own.call status v D ∙ its.0.shows; shut = its.0.shut }, ap (map (λ run. run_after s n (did.TakeReply own.call status v ∷ D) run)) its.1), fewer_calls m own (work s n D).calls calls e low)

  last_told : (m : ℕ) (own : OwnCall) (calls : List OwnCall) (D : List Deed) → Idles s n limits x D → (work s n D).calls ≡ own ∷ calls → length calls ≤ m → IsRightDeed s n limits (did.TakeEnd own.call) D → Lasts m (did.TakeEnd own.call ∷ D)
  unfolding work_after after_end with_loans
  last_told m own calls D its e low right =
      ((record { right = (right, its.0.right); shows = end_shows s n own.call D ∙ its.0.shows; shut = its.0.shut }, ap (map (λ run. run_after s n (did.TakeEnd own.call ∷ D) run)) its.1), fewer_calls m own (work s n D).calls calls e low)

  take_if : (m : ℕ) (own : OwnCall) (calls : List OwnCall) (D : List Deed) → Idles s n limits x D → (work s n D).calls ≡ own ∷ calls → length calls ≤ m → IsTakenRight s n limits own.call D → Leads (Lasts m) D
  take_if m own calls D its e low (inl taken) = leads_by (Lasts m) (did.TakeReply own.call taken.0 taken.1) D refl (last_taken m taken.0 taken.1 own calls D its e low taken.2)
  take_if m own calls D its e low (inr told) = leads_by (Lasts m) (did.TakeEnd own.call) D refl (last_told m own calls D its e low told)

  take_first : (m : ℕ) (own : OwnCall) (calls : List OwnCall) (D : List Deed) → Idles s n limits x D → IsEmptyHand D → (work s n D).calls ≡ own ∷ calls → length calls ≤ m → Leads (Lasts m) D
  take_first m own calls D its empty e low =
      let matched = all_matched s n limits D its.0.right in
      let peers = subst (AllByRecursion (λ (o : OwnCall). is_peer s n o.to ≡ true)) e matched.to_peers in
      let overs = subst (AllByRecursion (λ (o : OwnCall). closed o.to D ≡ true → IsOver o (work s n D).replies)) e matched.over in
      take_if m own calls D its e low (taken_by s n limits D own empty (ap (find (is_call own.call)) e ∙ found_first (is_call own.call) own calls (eq-eqb own.call own.call refl)) (overs.0 (its.0.shut own.to peers.0)) (find (λ (o : Message). replies_to own.call o.item) (work s n D).replies) refl)

  -- no call is outstanding and nothing in the hand
  abbrev pub AreTaken : List Deed → Type 0
  AreTaken D = Idles s n limits x D × IsEmptyHand D × ((work s n D).calls ≡ [])

  take_by : (m : ℕ) (D : List Deed) (calls : List OwnCall) → Idles s n limits x D → IsEmptyHand D → (work s n D).calls ≡ calls → length calls ≤ m → Leads AreTaken D
  take_by m D [] its empty e low = stays AreTaken D (its, empty, e)
  take_by zero D (own ∷ calls) its empty e low = absurd (omega (arith, low))
  take_by (suc m) D (own ∷ calls) its empty e low =
      leads_on (Lasts m) AreTaken D (take_first m own calls D its empty e (omega (arith, low)))
      (λ E more. leads_on (λ F. Lasts m F × IsEmptyHand F) AreTaken E (release_all s n limits (Lasts m) (last_right m) (last_release m) E more)
      (λ F rest. take_by m F (work s n F).calls rest.0.0 rest.1 refl rest.0.1))

  -- each call is taken, and what is in the hand given back
  pub take_all : (D : List Deed) → Idles s n limits x D → Leads AreTaken D
  take_all D its =
      let m : ℕ = length (work s n D).calls in
      leads_on (λ E. Lasts m E × IsEmptyHand E) AreTaken D (release_all s n limits (Lasts m) (last_right m) (last_release m) D (its, omega arith))
      (λ E more. take_by m E (work s n E).calls more.0.0 more.1 refl more.0.1)

  no_replies : (calls : List OwnCall) (replies : List Message) → calls ≡ [] → AllByRecursion (λ (m : Message). HasCall calls m.item) replies → replies ≡ []
  no_replies calls [] none all = refl
  no_replies calls (m ∷ ms) none all = absurd (let clash : false ≡ true = ap (list_any (is_call all.0.0)) (sym none) ∙ all.0.2 in cc)

  -- then nothing is outstanding
  pub none_outstanding : (D : List Deed) → AreTaken D → work s n D ≡ no_work
  none_outstanding D its =
      let right : AreRightDeeds s n limits D = its.0.0.right in
      let waiting = shut_waiting s n limits D right its.0.0.shut in
      let ready = shut_ready s n limits D right its.0.0.shut in
      let replies = no_replies (work s n D).calls (work s n D).replies its.2 (all_matched s n limits D right).replies in
      λ i. record { waiting = waiting i; ready = ready i; running = its.0.1 i; replies = replies i; calls = its.2 i }
