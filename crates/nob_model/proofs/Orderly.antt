-- What else holds of every list of right deeds, and no state of a space shows.
use Rattle.std.proofs.Common.{◌≡◌, ℕ, ◌+◌, ◌-◌, ◌≤◌, ◌<◌, ◌&&◌, ◌||◌, Bool, true, false, cond, List, [], ◌∷◌, ◌++◌, length, filter, refl, sym, ap, subst, ◌∙◌, arith}
use Rattle.std.specs.Prelude.{◌==◌, nat_le}
use Rattle.std.specs.Cmp.{IsEquivalence}
use Rattle.std.specs.List.{IsDistinct, list_any, slice_get}
use Rattle.std.proofs.lemmas.List.{length-append}
use Rattle.std.proofs.lemmas.List.Elements.{filter-append}
use Rattle.std.proofs.lemmas.List.Folds.{list_any-append}
use Rattle.std.proofs.lemmas.Map.Keys.{IsDistinct-push}
use Rattle.std.proofs.lemmas.Bool.{eqb-true, eqb-false, and_parts, or_left, both_ways}
use Rattle.std.proofs.lemmas.Bool.Decides.{nat_tests}
use Rattle.nob_ids.specs.Names.{is_same, is_counted}
use Rattle.nob_ids.specs.declared.limits.Limits.{Limits}
use Rattle.nob_ids.specs.declared.reason.Reason.{Reason}
use Rattle.nob_ids.specs.declared.wire_rep.WireRep.{WireRep}
use Rattle.nob_pickle.specs.Spelling.{refs_in}
use Rattle.nob_model_session.specs.End.{accepted}
use Rattle.nob_model_types.specs.declared.deed.Deed.{Deed}
use Rattle.nob_model_types.specs.declared.deed.Deed.TheVariants as did
use Rattle.nob_model_types.specs.declared.deed.Cause.{Cause}
use Rattle.nob_model_types.specs.declared.deed.Cause.TheVariants as causes
use Rattle.nob_model_types.specs.Sessions.{is_peer, closed, payload_at}
use Rattle.nob_model_types.specs.Objects.{exports, is_exported, is_withdrawn, is_live}
use Rattle.nob_model_work.specs.Work.{work}
use Rattle.nob_model_history.specs.Histories.{history_of}
use Rattle.nob_model_history.specs.Ends.{calls_at}
use Rattle.nob_model_history.specs.Holds.{times, gains, releases, hand, lent_in}
use Rattle.nob_model_history.specs.Premises.{ObjectsInTurn}
use Rattle.nob_model_history.proofs.Arriving.{payloads_are}
use Rattle.nob_model_history.proofs.Dirtying.{same_flip, same_self}
use Rattle.nob_model_history.proofs.Living.{exported_are}
use Rattle.nob_model_history.proofs.Turning.{same_ref}
use Rattle.nob_model.specs.Right.{right_after}
use Rattle.nob_model.specs.Lists.{IsRightDeed, AreRightDeeds}
use Rattle.nob_model.specs.Laws.{HoldsLaw}
use Rattle.nob_model.proofs.Doing.{was_answered}
use Rattle.nob_model.proofs.Accepted.{release_tells, fault_tells, arrive_end_tells, tick_end_tells, close_tells}
use Rattle.nob_model.proofs.Premises.{in_turn, objects_in_turn}

-- ---- objects

-- the indexes that were given are 1, 2, .. without a gap
pub exported : (s n : ℕ) (limits : Limits) (D : List Deed) → AreRightDeeds s n limits D → (index : ℕ) → is_exported s index D ≡ (nat_le 1 index && nat_le index (length (exports D)))
exported s n limits D right index = exported_are s index D (objects_in_turn s n limits D right)

same_laws : IsEquivalence is_same
same_laws = record {
  refl = same_self;
  symm = same_flip;
  congr = λ x y z same. ap (λ (rep : WireRep). is_same rep z) (same_ref x y same);
}

past_last : (k : ℕ) → (nat_le 1 (k + 1) && nat_le (k + 1) k) ≡ false
past_last k = grind (arith, nat_tests)

once_in_turn : (s : ℕ) (D : List Deed) → ObjectsInTurn s D → IsDistinct is_same (exports D)
unfolding IsDistinct
once_in_turn s [] turn = tt
once_in_turn s (did.Export rep ∷ D) turn = IsDistinct-push same_laws (exports D) rep (once_in_turn s D turn.1) (ap (λ (r : WireRep). list_any (is_same r) (exports D)) turn.0 ∙ exported_are s (length (exports D) + 1) D turn.1 ∙ past_last (length (exports D)))
once_in_turn s (did.Withdraw index ∷ D) turn = once_in_turn s D turn.1
once_in_turn s (deed ∷ D) turn = once_in_turn s D turn

-- no index was given twice
pub once : (s n : ℕ) (limits : Limits) (D : List Deed) → AreRightDeeds s n limits D → IsDistinct is_same (exports D)
once s n limits D right = once_in_turn s D (objects_in_turn s n limits D right)

withdrawn_step : (s index x : ℕ) (D : List Deed) → is_live s index D ≡ true → (is_withdrawn x D ≡ true → is_exported s x D ≡ true) → (now : Bool) → (index == x) ≡ now → (now || is_withdrawn x D) ≡ true → is_exported s x D ≡ true
withdrawn_step s index x D alive before true is gone = subst (λ (i : ℕ). is_exported s i D ≡ true) (eqb-true index x is) (and_parts _ _ alive).0
withdrawn_step s index x D alive before false is gone = before gone

withdrawn_in_turn : (s x : ℕ) (D : List Deed) → ObjectsInTurn s D → is_withdrawn x D ≡ true → is_exported s x D ≡ true
withdrawn_in_turn s x [] turn gone = cc
withdrawn_in_turn s x (did.Withdraw index ∷ D) turn gone = withdrawn_step s index x D turn.0 (withdrawn_in_turn s x D turn.1) (index == x) refl gone
withdrawn_in_turn s x (did.Export rep ∷ D) turn gone = list_any-append (is_same (record { owner = s; index = x })) (exports D) (rep ∷ []) ∙ or_left _ _ (withdrawn_in_turn s x D turn.1 gone)
withdrawn_in_turn s x (deed ∷ D) turn gone = withdrawn_in_turn s x D turn gone

-- what was withdrawn was exported
pub withdrawn : (s n : ℕ) (limits : Limits) (D : List Deed) → AreRightDeeds s n limits D → (index : ℕ) → is_withdrawn index D ≡ true → is_exported s index D ≡ true
withdrawn s n limits D right index gone = withdrawn_in_turn s index D (objects_in_turn s n limits D right) gone

-- ---- the hand

times_more : (rep other : WireRep) (reps : List WireRep) → times rep reps ≤ times rep (other ∷ reps)
times_more rep other reps = elim (is_same rep other) as (λ (b : Bool). times rep reps ≤ length (cond b (other ∷ filter (is_same rep) reps) (filter (is_same rep) reps))) [ true ↦ omega arith | false ↦ omega arith ]

times_append : (rep : WireRep) (reps more : List WireRep) → times rep (reps ++ more) ≡ times rep reps + times rep more
times_append rep reps more = ap length (filter-append (is_same rep) reps more) ∙ length-append (filter (is_same rep) reps) (filter (is_same rep) more)

release_step : (rep other : WireRep) (reps : List WireRep) (gained : ℕ) → times rep reps ≤ gained → (b : Bool) → (b ≡ true → times rep reps < gained) → length (cond b (other ∷ filter (is_same rep) reps) (filter (is_same rep) reps)) ≤ gained
release_step rep other reps gained most true less = let below = less refl in omega (arith, below)
release_step rep other reps gained most false less = most

-- of what is in the hand less was released than came
in_the_hand : (rep : WireRep) (D : List Deed) → (hand rep D == 0) ≡ false → times rep (releases D) < times rep (gains D)
in_the_hand rep D some =
    let more : times rep (gains D) - times rep (releases D) ≡ 0 → ⊥ = eqb-false (hand rep D) 0 some in
    below (times rep (gains D)) (times rep (releases D)) more
  where
    below : (a b : ℕ) → (a - b ≡ 0 → ⊥) → b < a
    below a b some = omega (arith, some)

release_held : (s n : ℕ) (limits : Limits) (rep : WireRep) (D : List Deed) → IsRightDeed s n limits (did.Release rep) D → (hand rep D == 0) ≡ false
unfolding right_after
release_held s n limits rep D right = (release_tells s rep (history_of s n D) (was_answered s n limits (did.Release rep) D right)).1

no_more_released : (s n : ℕ) (limits : Limits) (rep : WireRep) (D : List Deed) → AreRightDeeds s n limits D → times rep (releases D) ≤ times rep (gains D)
no_more_released s n limits rep [] right = omega arith
no_more_released s n limits rep (did.Export other ∷ D) right = let before = no_more_released s n limits rep D right.1 in let more = times_more rep other (gains D) in omega (arith, before, more)
no_more_released s n limits rep (did.Dup other ∷ D) right = let before = no_more_released s n limits rep D right.1 in let more = times_more rep other (gains D) in omega (arith, before, more)
no_more_released s n limits rep (did.TakeReply call status value ∷ D) right = let before = no_more_released s n limits rep D right.1 in let more = times_append rep (refs_in value) (gains D) in omega (arith, before, more)
no_more_released s n limits rep (did.Release other ∷ D) right =
    release_step rep other (releases D) (times rep (gains D)) (no_more_released s n limits rep D right.1) (is_same rep other)
    (λ same. subst (λ (r : WireRep). times r (releases D) < times r (gains D)) (sym (same_ref rep other same)) (in_the_hand other D (release_held s n limits other D right.0)))
no_more_released s n limits rep (deed ∷ D) right = no_more_released s n limits rep D right.1

-- no counted reference was released more often than it came into the hand
pub released : (s n : ℕ) (limits : Limits) (D : List Deed) → AreRightDeeds s n limits D → (rep : WireRep) → is_counted rep ≡ true → times rep (releases D) ≤ times rep (gains D)
released s n limits D right rep counted = no_more_released s n limits rep D right

less_more : (gained lent gone : ℕ) → gone ≤ gained → (gained + lent) - gone ≡ (gained - gone) + lent
less_more gained lent gone most = omega (arith, most)

-- the holds of a reference are those in the hand and those that are lent
pub holds_law : HoldsLaw
holds_law s n limits D right rep = less_more (times rep (gains D)) (times rep (lent_in s (work s n D))) (times rep (releases D)) (no_more_released s n limits rep D right)

-- ---- sessions

-- a session that closed is with a peer
pub closing_peer : (s n : ℕ) (limits : Limits) (p : ℕ) (reason : Reason) (cause : Cause) (D : List Deed) → IsRightDeed s n limits (did.Closing p reason cause) D → is_peer s n p ≡ true
unfolding right_after
closing_peer s n limits p reason causes.Item D right = (fault_tells s n p reason (history_of s n D) (was_answered s n limits (did.Closing p reason causes.Item) D right)).0
closing_peer s n limits p reason (causes.Frame frame) D right = let own = was_answered s n limits (did.Closing p reason (causes.Frame frame)) D right in subst (λ (q : ℕ). is_peer s n q ≡ true) own.0 (arrive_end_tells s n reason frame (history_of s n D) own.1).1
closing_peer s n limits p reason causes.Ticks D right = (tick_end_tells s n p limits.retry reason (history_of s n D) (was_answered s n limits (did.Closing p reason causes.Ticks) D right)).0
closing_peer s n limits p reason causes.Asked D right = (close_tells s n p reason (history_of s n D) (was_answered s n limits (did.Closing p reason causes.Asked) D right)).0

stranger_step : (s n p q : ℕ) (D : List Deed) → is_peer s n p ≡ false → is_peer s n q ≡ true → closed p D ≡ false → (now : Bool) → (q == p) ≡ now → (now || closed p D) ≡ false
stranger_step s n p q D stranger peer before true is = absurd (both_ways (is_peer s n p) stranger (subst (λ (r : ℕ). is_peer s n r ≡ true) (eqb-true q p is) peer))
stranger_step s n p q D stranger peer before false is = before

opened_stranger : (now before : Bool) → before ≡ false → cond now false before ≡ false
opened_stranger true before none = refl
opened_stranger false before none = none

-- no session with a space that is no peer closed
pub strangers : (s n : ℕ) (limits : Limits) (D : List Deed) → AreRightDeeds s n limits D → (p : ℕ) → is_peer s n p ≡ false → closed p D ≡ false
strangers s n limits [] right p stranger = refl
strangers s n limits (did.Closing q reason cause ∷ D) right p stranger = stranger_step s n p q D stranger (closing_peer s n limits q reason cause D right.0) (strangers s n limits D right.1 p stranger) (q == p) refl
strangers s n limits (did.Open q k ∷ D) right p stranger = opened_stranger (q == p) (closed p D) (strangers s n limits D right.1 p stranger)
strangers s n limits (deed ∷ D) right p stranger = strangers s n limits D right.1 p stranger

-- the payload of an accepted item is the one that was accepted in its turn
pub payloads : (s n : ℕ) (limits : Limits) (D : List Deed) → AreRightDeeds s n limits D → (p k : ℕ) → k < length (accepted (calls_at p (history_of s n D))) → payload_at p (k + 1) D ≡ slice_get (accepted (calls_at p (history_of s n D))) k
payloads s n limits D right = payloads_are s n D (in_turn s n limits D right)
