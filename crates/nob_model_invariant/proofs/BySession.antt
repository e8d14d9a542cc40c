-- What was sent and acted on, session by session, by one entry more: only what is sent or acted on in the present session grows.
use Rattle.std.proofs.Common.{◌≡◌, ℕ, ◌+◌, ◌≤◌, ◌&&◌, Bool, true, false, cond, List, [], ◌∷◌, ◌++◌, length, map, Ok, refl, sym, ap, subst, ◌∙◌, ◌⊎◌, inl, inr, arith}
use Rattle.std.specs.Prelude.{◌==◌}
use Rattle.std.proofs.lemmas.Bool.{eqb-true}
use Rattle.std.proofs.lemmas.List.{append-nil}
use Rattle.nob_ids.specs.declared.limits.Limits.{Limits}
use Rattle.nob_ids.specs.declared.reason.Reason.{Reason}
use Rattle.nob_item.specs.declared.item.Item.{Item}
use Rattle.nob_model_session.specs.End.{up_to, handed}
use Rattle.nob_model_session.specs.End as end
use Rattle.nob_model_session.specs.declared.entry.EndEntry.{EndEntry}
use Rattle.nob_model_session.specs.declared.entry.EndEntry.TheVariants as ends
use Rattle.nob_model_session.proofs.Sessions.{up_to_present}
use Rattle.nob_model_types.specs.declared.entry.Entry.{Entry}
use Rattle.nob_model_types.specs.declared.deed.Deed.{Deed}
use Rattle.nob_model_types.specs.declared.deed.Deed.TheVariants as did
use Rattle.nob_model_types.specs.declared.deed.Cause.{Cause}
use Rattle.nob_model_types.specs.declared.deed.Cause.TheVariants as causes
use Rattle.nob_model_types.specs.Sessions.{number, item_at}
use Rattle.nob_model_work.specs.Work.{work}
use Rattle.nob_model_work.specs.Gifts.{gifts_of, gifts}
use Rattle.nob_model_history.specs.Histories.{history_of}
use Rattle.nob_model_history.specs.Ends.{items_to, payload_of, kind_of, with_sends, own_calls, call_of_closing, calls_at}
use Rattle.nob_model_history.specs.Transit.{sent}
use Rattle.nob_model_history.specs.Premises.{NumbersRise}
use Rattle.nob_model_history.proofs.Sessions.{sends_number, number_is}
use Rattle.nob_model_history.proofs.Numbered.{items_sent_in, gifts_sent_in, gifts_sent_now, rise_before, payloads_handed}
use Rattle.nob_model_journal.specs.Journals.{deeds_at, number_at, are_in_one, sent_in, sent_now, sent_to, acted_during}
use Rattle.nob_model_journal.specs.Runs.{WorldRun}
use Rattle.nob_model_invariant.specs.Typed.{AreOfTypes}
use Rattle.nob_model_invariant.proofs.Entries.{grows}

-- ---- what is sent

-- what a deed gives to p is sent in the present session
pub sent_in_more : (s n p k : ℕ) (deed : Deed) (D : List Deed) → items_sent_in p k (sent (history_of s n (deed ∷ D))) ≡ items_sent_in p k (sent (history_of s n D)) ++ cond (number p D == k) (items_to p (gifts s n deed D (work s n D))) []
sent_in_more s n p k deed D = gifts_sent_in p k D (gifts s n deed D (work s n D)) (sent (history_of s n D))

-- so what was sent in another stays
pub sent_in_same : (s n p k : ℕ) (deed : Deed) (D : List Deed) → (number p D == k) ≡ false → items_sent_in p k (sent (history_of s n (deed ∷ D))) ≡ items_sent_in p k (sent (history_of s n D))
sent_in_same s n p k deed D other =
    sent_in_more s n p k deed D
    ∙ ap (λ (b : Bool). items_sent_in p k (sent (history_of s n D)) ++ cond b (items_to p (gifts s n deed D (work s n D))) []) other
    ∙ append-nil (items_sent_in p k (sent (history_of s n D)))

-- and all that is given stands behind what was sent in the present one
pub sent_now_more : (s n p : ℕ) (deed : Deed) (D : List Deed) → items_sent_in p (number p D) (sent (history_of s n (deed ∷ D))) ≡ items_sent_in p (number p D) (sent (history_of s n D)) ++ items_to p (gifts s n deed D (work s n D))
sent_now_more s n p deed D = gifts_sent_now p D (gifts s n deed D (work s n D)) (sent (history_of s n D))

-- a deed leaves the number of each session, or it gives nothing
number_or_none : (s n p : ℕ) (deed : Deed) (D : List Deed) → (number p (deed ∷ D) ≡ number p D) ⊎ (gifts s n deed D (work s n D) ≡ [])
unfolding gifts gifts_of
number_or_none s n p (did.Open q j) D = inr refl
number_or_none s n p deed D = inl refl

pub given_elsewhere : (s n p k : ℕ) (deed : Deed) (D : List Deed) → (number p (deed ∷ D) == k) ≡ false → ((number p D == k) ≡ false) ⊎ (gifts s n deed D (work s n D) ≡ [])
given_elsewhere s n p k deed D other = by (number_or_none s n p deed D)
  where
    by : (number p (deed ∷ D) ≡ number p D) ⊎ (gifts s n deed D (work s n D) ≡ []) → ((number p D == k) ≡ false) ⊎ (gifts s n deed D (work s n D) ≡ [])
    by (inl same) = inl (ap (λ (m : ℕ). m == k) (sym same) ∙ other)
    by (inr none) = inr none

either_none : (b : Bool) (more : List Item) → more ≡ [] → cond b more [] ≡ []
either_none true more none = none
either_none false more none = refl

-- nothing is sent in another session than the one in which a space is then
pub sent_stays : (s n p k : ℕ) (deed : Deed) (D : List Deed) → (number p (deed ∷ D) == k) ≡ false → items_sent_in p k (sent (history_of s n (deed ∷ D))) ≡ items_sent_in p k (sent (history_of s n D))
sent_stays s n p k deed D other = by (given_elsewhere s n p k deed D other)
  where
    by : ((number p D == k) ≡ false) ⊎ (gifts s n deed D (work s n D) ≡ []) → items_sent_in p k (sent (history_of s n (deed ∷ D))) ≡ items_sent_in p k (sent (history_of s n D))
    by (inl elsewhere) = sent_in_same s n p k deed D elsewhere
    by (inr none) =
        sent_in_more s n p k deed D
        ∙ ap (λ more. items_sent_in p k (sent (history_of s n D)) ++ more) (either_none (number p D == k) _ (ap (items_to p) none))
        ∙ append-nil (items_sent_in p k (sent (history_of s n D)))

-- what was sent in a session before stands in front of what is sent in it
pub sent_grows : (n a b k : ℕ) (entry : Entry) (J : List Entry) → (more : List Item) × (sent_in n a b k (entry ∷ J) ≡ sent_in n a b k J ++ more)
sent_grows n a b k entry J =
    elim (grows a entry J) [
      | inl same ↦ ([], ap (λ D. items_sent_in b k (sent (history_of a n D))) same ∙ sym (append-nil (sent_in n a b k J)))
      | inr more ↦ (
        cond (number_at a b J == k) (items_to b (gifts a n more.0 (deeds_at a J) (work a n (deeds_at a J)))) [],
        ap (λ D. items_sent_in b k (sent (history_of a n D))) more.3 ∙ sent_in_more a n b k more.0 (deeds_at a J),
      )
    ]

-- a space that isn't in a session sends nothing in it
pub sent_other : (n a b k : ℕ) (entry : Entry) (J : List Entry) → (number_at a b (entry ∷ J) == k) ≡ false → sent_in n a b k (entry ∷ J) ≡ sent_in n a b k J
sent_other n a b k entry J other =
    elim (grows a entry J) [
      | inl same ↦ ap (λ D. items_sent_in b k (sent (history_of a n D))) same
      | inr more ↦ ap (λ D. items_sent_in b k (sent (history_of a n D))) more.3 ∙ sent_stays a n b k more.0 (deeds_at a J) (ap (λ D. number b D == k) (sym more.3) ∙ other)
    ]

-- ---- what was handed on the end

-- calls in the present session aren't up to the end of another
sends_left : (k : ℕ) (items : List Item) (calls : List EndEntry) → (end.number calls == k) ≡ false → up_to k (with_sends items calls) ≡ up_to k calls
sends_left k [] calls other = refl
sends_left k (item ∷ items) calls other =
    let call : EndEntry = ends.Send (payload_of item) (kind_of item) (Ok (length (handed calls) + 1)) in
    sends_left k items (call ∷ calls) other
    ∙ ap (λ (b : Bool). cond b (call ∷ calls) (up_to k calls)) other

if_left : (k : ℕ) (own : Bool) (call : EndEntry) (calls : List EndEntry) → (end.number (call ∷ calls) == k) ≡ false → up_to k (cond own (call ∷ calls) calls) ≡ up_to k calls
if_left k true call calls other = ap (λ (b : Bool). cond b (call ∷ calls) (up_to k calls)) other
if_left k false call calls other = refl

closing_left : (k p : ℕ) (own : Bool) (reason : Reason) (cause : Cause) (calls : List EndEntry) → (end.number calls == k) ≡ false → up_to k (cond own (call_of_closing p reason cause ∷ calls) calls) ≡ up_to k calls
closing_left k p own reason causes.Item calls other = if_left k own _ calls other
closing_left k p own reason (causes.Frame frame) calls other = if_left k own _ calls other
closing_left k p own reason causes.Ticks calls other = if_left k own _ calls other
closing_left k p own reason causes.Asked calls other = if_left k own _ calls other

-- the number of the session with p by a deed more
number_by : ℕ → Deed → ℕ → ℕ
number_by p (did.Open q j) before = cond (q == p) j before
number_by p (_) before = before

number_more : (p : ℕ) (deed : Deed) (D : List Deed) → number p (deed ∷ D) ≡ number_by p deed (number p D)
unfolding number_by
number_more p (did.Open q j) D = refl
number_more p deed D = refl

open_left : (k j : ℕ) (own : Bool) (calls : List EndEntry) → (cond own j (end.number calls) == k) ≡ false → up_to k (cond own (ends.Reopen j (Ok tt) ∷ calls) calls) ≡ up_to k calls
open_left k j true calls other = ap (λ (b : Bool). cond b (ends.Reopen j (Ok tt) ∷ calls) (up_to k calls)) other
open_left k j false calls other = refl

own_left : (k p : ℕ) (deed : Deed) (calls : List EndEntry) → (number_by p deed (end.number calls) == k) ≡ false → up_to k (own_calls p deed calls) ≡ up_to k calls
unfolding number_by
own_left k p (did.Act q j) calls other = if_left k (q == p) _ calls other
own_left k p (did.Transmit q frames) calls other = if_left k (q == p) _ calls other
own_left k p (did.Arrive frame count) calls other = if_left k (frame.from == p) _ calls other
own_left k p (did.Tick q) calls other = if_left k (q == p) _ calls other
own_left k p (did.Closing q reason cause) calls other = closing_left k p (q == p) reason cause calls other
own_left k p (did.Open q j) calls other = open_left k j (q == p) calls other
own_left k p deed calls other = refl

-- so in another session than the one in which a space is then nothing is handed on
calls_stay : (s n p k : ℕ) (deed : Deed) (D : List Deed) → (number p (deed ∷ D) == k) ≡ false → up_to k (calls_at p (history_of s n (deed ∷ D))) ≡ up_to k (calls_at p (history_of s n D))
calls_stay s n p k deed D other =
    own_left k p deed (with_sends given before) (ap (λ (m : ℕ). number_by p deed m == k) (sends_number given before ∙ number_is s n p D) ∙ ap (λ (m : ℕ). m == k) (sym (number_more p deed D)) ∙ other)
    ∙ by (given_elsewhere s n p k deed D other)
  where
    given : List Item
    given = items_to p (gifts s n deed D (work s n D))

    before : List EndEntry
    before = calls_at p (history_of s n D)

    by : ((number p D == k) ≡ false) ⊎ (gifts s n deed D (work s n D) ≡ []) → up_to k (with_sends given before) ≡ up_to k before
    by (inl elsewhere) = sends_left k given before (ap (λ (m : ℕ). m == k) (number_is s n p D) ∙ elsewhere)
    by (inr none) = ap (λ more. up_to k (with_sends (items_to p more) before)) none

-- where numbers rise, what was handed up to the end of a session are the payloads of what was sent in it
pub handed_in : (s n p k : ℕ) (D : List Deed) → NumbersRise D → handed (up_to k (calls_at p (history_of s n D))) ≡ map payload_of (items_sent_in p k (sent (history_of s n D)))
handed_in s n p k [] rise = refl
handed_in s n p k (deed ∷ D) rise = by (number p (deed ∷ D) == k) refl (handed_in s n p k D (rise_before deed D rise))
  where
    by : (b : Bool) → (number p (deed ∷ D) == k) ≡ b → handed (up_to k (calls_at p (history_of s n D))) ≡ map payload_of (items_sent_in p k (sent (history_of s n D))) → handed (up_to k (calls_at p (history_of s n (deed ∷ D)))) ≡ map payload_of (items_sent_in p k (sent (history_of s n (deed ∷ D))))
    by true is before =
        let here : number p (deed ∷ D) ≡ k = eqb-true (number p (deed ∷ D)) k is in
        ap handed (up_to_present k (calls_at p (history_of s n (deed ∷ D))) (number_is s n p (deed ∷ D) ∙ here))
        ∙ payloads_handed s n p (deed ∷ D) rise
        ∙ ap (λ (m : ℕ). map payload_of (items_sent_in p m (sent (history_of s n (deed ∷ D))))) here
    by false other before =
        ap handed (calls_stay s n p k deed D other)
        ∙ before
        ∙ ap (map payload_of) (sym (sent_stays s n p k deed D other))

-- ---- what is acted on

-- nothing is acted on in another session than the one in which a space is then
pub acted_stays : (p k : ℕ) (deed : Deed) (D : List Deed) → (number p (deed ∷ D) == k) ≡ false → acted_during p k (deed ∷ D) ≡ acted_during p k D
acted_stays p k (did.Act q j) D other = by (q == p) (number p D == k) other
  where
    by : (own now : Bool) → now ≡ false → cond (own && now) (acted_during p k D ++ (j, item_at p j D) ∷ []) (acted_during p k D) ≡ acted_during p k D
    by own true is = cc
    by true false is = refl
    by false false is = refl
acted_stays p k deed D other = refl

-- ---- spaces that are in one session

-- what a sent in the session in which b is, where a is in that too
pub sent_one : (n a b : ℕ) (J : List Entry) → are_in_one a b J ≡ true → sent_to n a b J ≡ sent_now n a b J
sent_one n a b J one = ap (λ (k : ℕ). sent_in n a b k J) (sym (eqb-true (number_at a b J) (number_at b a J) one))

pub sent_back : (n a b : ℕ) (J : List Entry) → are_in_one a b J ≡ true → sent_to n b a J ≡ sent_now n b a J
sent_back n a b J one = ap (λ (k : ℕ). sent_in n b a k J) (eqb-true (number_at a b J) (number_at b a J) one)

-- ---- each session

-- what is no more than something else in the session in which a is, is so in each
pub bounded_in : (n a b k : ℕ) (limits : ℕ → Limits) (f g : List Item → ℕ) → f [] ≡ 0 → ((xs ys : List Item) → g xs ≤ g (xs ++ ys)) → ((J : List Entry) → WorldRun n limits J → AreOfTypes J → f (sent_now n a b J) ≤ g (sent_to n b a J)) → (J : List Entry) → WorldRun n limits J → AreOfTypes J → f (sent_in n a b k J) ≤ g (sent_in n b a k J)
bounded_in n a b k limits f g none grow now [] run typed = none_few none
  where
    none_few : f [] ≡ 0 → f [] ≤ g []
    none_few none = omega (arith, none)
bounded_in n a b k limits f g none grow now (entry ∷ J) run typed = by (number_at a b (entry ∷ J) == k) refl (bounded_in n a b k limits f g none grow now J run.1 typed.1)
  where
    by : (is : Bool) → (number_at a b (entry ∷ J) == k) ≡ is → f (sent_in n a b k J) ≤ g (sent_in n b a k J) → f (sent_in n a b k (entry ∷ J)) ≤ g (sent_in n b a k (entry ∷ J))
    by true is before = subst (λ (m : ℕ). f (sent_in n a b m (entry ∷ J)) ≤ g (sent_in n b a m (entry ∷ J))) (eqb-true (number_at a b (entry ∷ J)) k is) (now (entry ∷ J) run typed)
    by false other before =
        let same : f (sent_in n a b k (entry ∷ J)) ≡ f (sent_in n a b k J) = ap f (sent_other n a b k entry J other) in
        let more = sent_grows n b a k entry J in
        let longer : g (sent_in n b a k J) ≤ g (sent_in n b a k (entry ∷ J)) = subst (λ all. g (sent_in n b a k J) ≤ g all) (sym more.1) (grow (sent_in n b a k J) more.0) in
        omega (arith, before, same, longer)
