-- What is true of the session in which a space is, is true of each in which it has been: a deed sends and acts in that session alone
-- to which it comes, and a session that it opens is above.
use Rattle.std.proofs.Common.{◌≡◌, ℕ, ◌≤◌, ◌&&◌, Bool, true, false, cond, List, [], ◌∷◌, ◌++◌, Option, refl, sym, ap, subst, ◌∙◌, ◌⊎◌, inl, inr, arith}
use Rattle.std.specs.Prelude.{◌==◌, ◌≢◌, ◌<◌}
use Rattle.std.proofs.lemmas.Bool.{eqb-true, eq-eqb, ne_eqb, or_right}
use Rattle.nob_ids.specs.declared.limits.Limits.{Limits}
use Rattle.nob_item.specs.declared.item.Item.{Item}
use Rattle.nob_model_types.specs.declared.entry.Entry.{Entry}
use Rattle.nob_model_types.specs.declared.deed.Deed.{Deed}
use Rattle.nob_model_types.specs.declared.deed.Deed.TheVariants as did
use Rattle.nob_model_types.specs.Sessions.{closed, number, item_at, acted}
use Rattle.nob_model_history.specs.Histories.{history_of}
use Rattle.nob_model_history.specs.Transit.{sent}
use Rattle.nob_model_history.proofs.Numbered.{items_sent_in}
use Rattle.nob_model_history.proofs.Sessions.{opens, number_kept}
use Rattle.nob_model.specs.Lists.{IsRightDeed, AreRightDeeds}
use Rattle.nob_model.proofs.Reopening.{open_number}
use Rattle.nob_model_journal.specs.Journals.{deeds_at, number_at, sent_in, acted_during, acted_in, acted_from}
use Rattle.nob_model_journal.specs.Runs.{WorldRun}
use Rattle.nob_model_invariant.proofs.Entries.{grows, right_deeds_at}
use Rattle.nob_model_invariant.proofs.Opened.{never, opens_above}
use Rattle.nob_model_invariant.proofs.BySession.{sent_stays, acted_stays}

-- ---- the number of a session, by one deed more

-- how a space goes on with p: in the session in which it was, closed where that was closed, or in one above
abbrev pub GoesOn : ℕ → (before after : List Deed) → Type 0
GoesOn p before after = ((number p after ≡ number p before) × (closed p before ≡ true → closed p after ≡ true)) ⊎ (number p before < number p after)

-- but for an Open what was closed stays closed
pub closed_kept : (p : ℕ) (deed : Deed) (D : List Deed) → opens p deed ≡ false → closed p D ≡ true → closed p (deed ∷ D) ≡ true
closed_kept p (did.Open q k) D other shut = ap (λ (b : Bool). cond b false (closed p D)) other ∙ shut
closed_kept p (did.Closing q reason cause) D other shut = or_right (q == p) (closed p D) shut
closed_kept p deed D other shut = shut

deed_goes_on : (s n p : ℕ) (limits : Limits) (deed : Deed) (D : List Deed) → IsRightDeed s n limits deed D → GoesOn p D (deed ∷ D)
deed_goes_on s n p limits deed D right = by (opens p deed) refl
  where
    by : (b : Bool) → opens p deed ≡ b → GoesOn p D (deed ∷ D)
    by true own = inr (opens_above s n p limits deed D right own)
    by false other = inl (number_kept p deed D other, closed_kept p deed D other)

-- so goes on each space of a run
pub goes_on : (n a b : ℕ) (limits : ℕ → Limits) (entry : Entry) (J : List Entry) → WorldRun n limits (entry ∷ J) → GoesOn b (deeds_at a J) (deeds_at a (entry ∷ J))
goes_on n a b limits entry J run =
    elim (grows a entry J) [
      | inl same ↦ subst (GoesOn b (deeds_at a J)) (sym same) (inl (refl, λ shut. shut))
      | inr more ↦ subst (GoesOn b (deeds_at a J)) (sym more.3) (deed_goes_on a n b (limits a) more.0 (deeds_at a J) (subst (AreRightDeeds a n (limits a)) more.3 (right_deeds_at n limits (entry ∷ J) run a)).0)
    ]

no_less : (p : ℕ) (before after : List Deed) → GoesOn p before after → number p before ≤ number p after
no_less p before after (inl stays) = (let same = stays.0 in omega (arith, same))
no_less p before after (inr above) = omega (arith, above)

-- numbers never fall
pub rises : (n a b : ℕ) (limits : ℕ → Limits) (entry : Entry) (J : List Entry) → WorldRun n limits (entry ∷ J) → number_at a b J ≤ number_at a b (entry ∷ J)
rises n a b limits entry J run = no_less b (deeds_at a J) (deeds_at a (entry ∷ J)) (goes_on n a b limits entry J run)

pub deed_rises : (s n p : ℕ) (limits : Limits) (deed : Deed) (D : List Deed) → IsRightDeed s n limits deed D → number p D ≤ number p (deed ∷ D)
deed_rises s n p limits deed D right = no_less p D (deed ∷ D) (deed_goes_on s n p limits deed D right)

-- ---- each session

-- what is true of what a space acted on from p and sent it in the session in which it is, is true of each session
pub each_session : (s n p k : ℕ) (limits : Limits) (P : List (ℕ × Option Item) → List Item → Type 0) → P [] [] → ((D : List Deed) → AreRightDeeds s n limits D → P (acted_during p (number p D) D) (items_sent_in p (number p D) (sent (history_of s n D)))) → (D : List Deed) → AreRightDeeds s n limits D → P (acted_during p k D) (items_sent_in p k (sent (history_of s n D)))
each_session s n p k limits P none now [] right = none
each_session s n p k limits P none now (deed ∷ D) right = by (number p (deed ∷ D) == k) refl (each_session s n p k limits P none now D right.1)
  where
    by : (b : Bool) → (number p (deed ∷ D) == k) ≡ b → P (acted_during p k D) (items_sent_in p k (sent (history_of s n D))) → P (acted_during p k (deed ∷ D)) (items_sent_in p k (sent (history_of s n (deed ∷ D))))
    by true is before = subst (λ (m : ℕ). P (acted_during p m (deed ∷ D)) (items_sent_in p m (sent (history_of s n (deed ∷ D))))) (eqb-true (number p (deed ∷ D)) k is) (now (deed ∷ D) right)
    by false other before =
        subst (λ pairs. P pairs (items_sent_in p k (sent (history_of s n (deed ∷ D))))) (sym (acted_stays p k deed D other))
        (subst (P (acted_during p k D)) (sym (sent_stays s n p k deed D other)) before)

-- ---- sessions that a space hasn't come to

above_other : (k m : ℕ) → m < k → (m == k) ≡ false
above_other k m above = ne_eqb m k (λ same. omega (arith, above, same))

-- nothing is sent in a session above the one in which a space is
pub none_sent_above : (s n p k : ℕ) (limits : Limits) (D : List Deed) → AreRightDeeds s n limits D → number p D < k → items_sent_in p k (sent (history_of s n D)) ≡ []
none_sent_above s n p k limits [] right above = refl
none_sent_above s n p k limits (deed ∷ D) right above =
    sent_stays s n p k deed D (above_other k (number p (deed ∷ D)) above)
    ∙ none_sent_above s n p k limits D right.1 (let low = deed_rises s n p limits deed D right.0 in omega (arith, low, above))

-- and nothing is acted on
pub none_acted_above : (s n p k : ℕ) (limits : Limits) (D : List Deed) → AreRightDeeds s n limits D → number p D < k → acted_during p k D ≡ []
none_acted_above s n p k limits [] right above = refl
none_acted_above s n p k limits (deed ∷ D) right above =
    acted_stays p k deed D (above_other k (number p (deed ∷ D)) above)
    ∙ none_acted_above s n p k limits D right.1 (let low = deed_rises s n p limits deed D right.0 in omega (arith, low, above))

opens_acting : (p k : ℕ) (deed : Deed) (D : List Deed) → number p D < number p (deed ∷ D) → acted_during p k (deed ∷ D) ≡ acted_during p k D
opens_acting p k (did.Act q j) D above = absurd (omega (arith, above))
opens_acting p k deed D above = refl

-- what was acted on is what was acted on in the present session
pub acted_is : (s n p : ℕ) (limits : Limits) (D : List Deed) → AreRightDeeds s n limits D → acted p D ≡ acted_during p (number p D) D
acted_is s n p limits [] right = refl
acted_is s n p limits (did.Act q j ∷ D) right =
    ap (λ pairs. cond (q == p) (pairs ++ (j, item_at p j D) ∷ []) pairs) (acted_is s n p limits D right.1)
    ∙ by (q == p) (number p D == number p D) (eq-eqb (number p D) (number p D) refl)
  where
    by : (own now : Bool) → now ≡ true → cond own (acted_during p (number p D) D ++ (j, item_at p j D) ∷ []) (acted_during p (number p D) D) ≡ cond (own && now) (acted_during p (number p D) D ++ (j, item_at p j D) ∷ []) (acted_during p (number p D) D)
    by true true is = refl
    by true false is = cc
    by false now is = refl
acted_is s n p limits (did.Open q k ∷ D) right = by (q == p) refl (acted_is s n p limits D right.1)
  where
    by : (own : Bool) → (q == p) ≡ own → acted p D ≡ acted_during p (number p D) D → cond own [] (acted p D) ≡ acted_during p (cond own k (number p D)) D
    by true own before =
        let above : number p D < k = subst (λ (r : ℕ). number r D < k) (eqb-true q p own) (open_number s n limits q k D right.0) in
        sym (none_acted_above s n p k limits D right.1 above)
    by false other before = before
acted_is s n p limits (_ ∷ D) right = acted_is s n p limits D right.1

pub acted_from_is : (n a b : ℕ) (limits : ℕ → Limits) (J : List Entry) → WorldRun n limits J → acted_from a b J ≡ acted_in a b (number_at b a J) J
acted_from_is n a b limits J run = acted_is b n a (limits b) (deeds_at b J) (right_deeds_at n limits J run b)

-- ---- what begins anew by an Open

-- nothing was acted on
pub acted_anew : (p : ℕ) (deed : Deed) (D : List Deed) → opens p deed ≡ true → acted p (deed ∷ D) ≡ []
acted_anew p (did.Open q k) D own = ap (λ (b : Bool). cond b [] (acted p D)) own
acted_anew p deed D own = absurd (never own)

-- so nothing was acted on in a session that an entry opens
pub none_acted_new : (n a b : ℕ) (limits : ℕ → Limits) (entry : Entry) (J : List Entry) → WorldRun n limits (entry ∷ J) → number_at b a J < number_at b a (entry ∷ J) → acted_in a b (number_at b a (entry ∷ J)) (entry ∷ J) ≡ []
none_acted_new n a b limits entry J run above = elim (grows b entry J) [
  | inl same ↦ absurd (let stays = ap (number a) same in omega (arith, above, stays))
  | inr more ↦
      let k : ℕ = number_at b a (entry ∷ J) in
      let new : number a (deeds_at b J) < number a (more.0 ∷ deeds_at b J) = subst (λ D. number a (deeds_at b J) < number a D) more.3 above in
      ap (acted_during a k) more.3 ∙ opens_acting a k more.0 (deeds_at b J) new ∙ none_acted_above b n a k (limits b) (deeds_at b J) (right_deeds_at n limits J run.1 b) above
]

-- and another space sent by that entry nothing
pub sent_apart : (n a b : ℕ) (limits : ℕ → Limits) (entry : Entry) (J : List Entry) → a ≢ b → number_at b a J < number_at b a (entry ∷ J) → (k : ℕ) → sent_in n a b k (entry ∷ J) ≡ sent_in n a b k J
sent_apart n a b limits entry J apart above k = elim (grows b entry J) [
  | inl same ↦ absurd (let stays = ap (number a) same in omega (arith, above, stays))
  | inr more ↦ elim (grows a entry J) [
    | inl same ↦ ap (λ D. items_sent_in b k (sent (history_of a n D))) same
    | inr also ↦ absurd (apart (sym also.1 ∙ more.1))
  ]
]
