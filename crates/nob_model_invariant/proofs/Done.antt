-- What was acted on and carries counted references is settled, or its message waits.
use Rattle.std.proofs.Common.{◌≡◌, ℕ, ◌&&◌, ◌||◌, Bool, true, false, cond, List, [], ◌∷◌, ◌++◌, find, Option, Some, None, refl, sym, ap, subst, ◌∙◌, ◌⊎◌, inl, inr}
use Rattle.std.specs.Prelude.{◌==◌}
use Rattle.std.specs.List.{AllByRecursion}
use Rattle.std.proofs.lemmas.Bool.{eqb-true, eq-eqb, or_cases, or_left, or_right}
use Rattle.std.proofs.lemmas.List.Folds.{list_any-append}
use Rattle.nob_ids.specs.declared.limits.Limits.{Limits}
use Rattle.nob_item.specs.declared.item.Item.{Item}
use Rattle.nob_model_types.specs.declared.deed.Deed.{Deed}
use Rattle.nob_model_types.specs.declared.deed.Deed.TheVariants as did
use Rattle.nob_model_types.specs.declared.message.Message.{Message}
use Rattle.nob_model_types.specs.Sessions.{is_peer, item_at, acted}
use Rattle.nob_model_types.specs.Messages.{new_message, message_after, is_of}
use Rattle.nob_model_work.specs.Work.{work}
use Rattle.nob_model_history.specs.Histories.{history_of}
use Rattle.nob_model_history.proofs.Sessions.{opens, number_kept}
use Rattle.nob_model.specs.Right.{right_after}
use Rattle.nob_model.specs.Lists.{IsRightDeed, AreRightDeeds}
use Rattle.nob_model.proofs.Accepted.{act_tells}
use Rattle.nob_model.proofs.Carrying.{all_found}
use Rattle.nob_model.proofs.Doing.{was_answered}
use Rattle.nob_model.proofs.Waiting.{settled_message, all_weaker}
use Rattle.nob_model_invariant.specs.Settles.{is_in}
use Rattle.nob_model_holdings.proofs.Lists.{all_append}
use Rattle.nob_model_invariant.proofs.Settling.{waits_more, settles_of, settles_same, settles_now}
use Rattle.nob_model_invariant.specs.Copies.{carries_any}
use Rattle.nob_model_invariant.proofs.Resting.{rests, rests_on, rests_new}

-- ---- messages come from peers

pub act_peer : (s n : ℕ) (limits : Limits) (p k : ℕ) (D : List Deed) → IsRightDeed s n limits (did.Act p k) D → is_peer s n p ≡ true
unfolding right_after
act_peer s n limits p k D right = (act_tells s n p k (history_of s n D) (was_answered s n limits (did.Act p k) D right)).0

-- a message came from a peer
abbrev IsOfPeer : (s n : ℕ) → Message → Type 0
IsOfPeer s n m = is_peer s n m.from ≡ true

peer_kept : (s n : ℕ) (D : List Deed) (m : Message) → IsOfPeer s n m → IsOfPeer s n (message_after s n D m)
unfolding message_after
peer_kept s n D m is = is

new_of_peer : (s n : ℕ) (limits : Limits) (deed : Deed) (D : List Deed) → IsRightDeed s n limits deed D → (p k : ℕ) (item : Item) → deed ≡ did.Act p k → IsOfPeer s n (new_message s n p k item (did.Act p k ∷ D))
new_of_peer s n limits deed D right p k item is = act_peer s n limits p k D (subst (λ (one : Deed). IsRightDeed s n limits one D) is right)

waiting_of_peers : (s n : ℕ) (limits : Limits) (D : List Deed) → AreRightDeeds s n limits D → AllByRecursion (IsOfPeer s n) (work s n D).waiting
waiting_of_peers s n limits [] right = tt
waiting_of_peers s n limits (deed ∷ D) right = waits_more (IsOfPeer s n) s n deed D (peer_kept s n (deed ∷ D)) (λ p k item is found some. new_of_peer s n limits deed D right.0 p k item is) (waiting_of_peers s n limits D right.1)

-- ---- what is settled stays so

settles_before : (s n p k q j : ℕ) (D : List Deed) (m : Message) → find (is_of q j) (work s n D).waiting ≡ Some m → is_in k (settles_of s n p D) ≡ true → is_in k (settles_of s n p (did.Settle q j ∷ D)) ≡ true
settles_before s n p k q j D m found is =
    ap (is_in k) (settles_now s n p q j D m found) ∙ list_any-append (λ i. i == k) (settles_of s n p D) (cond (is_peer s n q && q == p) (j ∷ []) []) ∙ or_left (is_in k (settles_of s n p D)) _ is

settles_still : (s n : ℕ) (limits : Limits) (p k : ℕ) (deed : Deed) (D : List Deed) → opens p deed ≡ false → AreRightDeeds s n limits (deed ∷ D) → is_in k (settles_of s n p D) ≡ true → is_in k (settles_of s n p (deed ∷ D)) ≡ true
settles_still s n limits p k (did.Settle q j) D kept right is = let told = settled_message s n limits q j D right in settles_before s n p k q j D told.0 told.4 is
settles_still s n limits p k deed D kept right is = ap (is_in k) (settles_same s n p deed D (number_kept p deed D kept) refl) ∙ is

one_in : (k : ℕ) (b : Bool) → b ≡ true → is_in k (cond b (k ∷ []) []) ≡ true
one_in k true is = or_left (k == k) false (eq-eqb k k refl)
one_in k false is = cc

-- a Settle settles its item
settles_own : (s n : ℕ) (limits : Limits) (p k : ℕ) (D : List Deed) → AreRightDeeds s n limits (did.Settle p k ∷ D) → is_in k (settles_of s n p (did.Settle p k ∷ D)) ≡ true
settles_own s n limits p k D right =
    let told = settled_message s n limits p k D right in
    let peer : is_peer s n p ≡ true = subst (λ (q : ℕ). is_peer s n q ≡ true) told.2 (all_found (IsOfPeer s n) (is_of p k) (work s n D).waiting told.0 told.4 (waiting_of_peers s n limits D right.1)) in
    ap (is_in k) (settles_now s n p p k D told.0 told.4)
    ∙ list_any-append (λ i. i == k) (settles_of s n p D) (cond (is_peer s n p && p == p) (k ∷ []) [])
    ∙ or_right (is_in k (settles_of s n p D)) _ (one_in k (is_peer s n p && p == p) (ap (λ (b : Bool). b && p == p) peer ∙ eq-eqb p p refl))

-- ---- one deed more

-- an item that carries counted references waits in its message, came on a session that closed, or was settled
abbrev pub IsDone : (s n p : ℕ) → List Deed → (ℕ × Option Item) → Type 0
IsDone s n p D pair = carries_any pair.1 ≡ true → (rests s n p pair.0 D || is_in pair.0 (settles_of s n p D)) ≡ true

still_done : (s n : ℕ) (limits : Limits) (p : ℕ) (deed : Deed) (D : List Deed) → opens p deed ≡ false → AreRightDeeds s n limits (deed ∷ D) → (pair : ℕ × Option Item) → IsDone s n p D pair → IsDone s n p (deed ∷ D) pair
still_done s n limits p deed D kept right pair done some = by (or_cases (rests s n p pair.0 D) (is_in pair.0 (settles_of s n p D)) (done some))
  where
    on : (rests s n p pair.0 (deed ∷ D) ≡ true) ⊎ (deed ≡ did.Settle p pair.0) → (rests s n p pair.0 (deed ∷ D) || is_in pair.0 (settles_of s n p (deed ∷ D))) ≡ true
    on (inl rest) = or_left _ _ rest
    on (inr settles) = or_right _ _ (subst (λ (one : Deed). is_in pair.0 (settles_of s n p (one ∷ D)) ≡ true) (sym settles) (settles_own s n limits p pair.0 D (subst (λ (one : Deed). AreRightDeeds s n limits (one ∷ D)) settles right)))

    by : (rests s n p pair.0 D ≡ true) ⊎ (is_in pair.0 (settles_of s n p D) ≡ true) → (rests s n p pair.0 (deed ∷ D) || is_in pair.0 (settles_of s n p (deed ∷ D))) ≡ true
    by (inl rest) = on (rests_on s n limits p pair.0 deed D right (number_kept p deed D kept) rest)
    by (inr settled) = or_right _ _ (settles_still s n limits p pair.0 deed D kept right settled)

new_done : (s n p k : ℕ) (D : List Deed) (found : Option Item) → item_at p k D ≡ found → carries_any found ≡ true → (rests s n p k (did.Act p k ∷ D) || is_in k (settles_of s n p (did.Act p k ∷ D))) ≡ true
new_done s n p k D None is some = cc
new_done s n p k D (Some item) is some = or_left _ _ (rests_new s n p k item D is some)

act_done : (s n p q k : ℕ) (D : List Deed) (own : Bool) → (q == p) ≡ own → AllByRecursion (IsDone s n p (did.Act q k ∷ D)) (acted p D) → AllByRecursion (IsDone s n p (did.Act q k ∷ D)) (cond own (acted p D ++ (k, item_at p k D) ∷ []) (acted p D))
act_done s n p q k D true own before =
    let same : q ≡ p = eqb-true q p own in
    all_append (IsDone s n p (did.Act q k ∷ D)) (acted p D) ((k, item_at p k D) ∷ []) before
    (subst (λ (r : ℕ). IsDone s n p (did.Act r k ∷ D) (k, item_at p k D)) (sym same) (λ some. new_done s n p k D (item_at p k D) refl some), tt)
act_done s n p q k D false own before = before

open_done : (s n : ℕ) (limits : Limits) (p q k : ℕ) (D : List Deed) → AreRightDeeds s n limits (did.Open q k ∷ D) → (own : Bool) → (q == p) ≡ own → AllByRecursion (IsDone s n p D) (acted p D) → AllByRecursion (IsDone s n p (did.Open q k ∷ D)) (cond own [] (acted p D))
open_done s n limits p q k D right true own before = tt
open_done s n limits p q k D right false other before = all_weaker (IsDone s n p D) (IsDone s n p (did.Open q k ∷ D)) (λ pair done. still_done s n limits p (did.Open q k) D other right pair done) (acted p D) before

-- in every list of right deeds what was acted on is settled, or its message waits, or its session closed
pub all_done : (s n : ℕ) (limits : Limits) (p : ℕ) (D : List Deed) → AreRightDeeds s n limits D → AllByRecursion (IsDone s n p D) (acted p D)
all_done s n limits p [] right = tt
all_done s n limits p (did.Act q k ∷ D) right =
    act_done s n p q k D (q == p) refl (all_weaker (IsDone s n p D) (IsDone s n p (did.Act q k ∷ D)) (λ pair done. still_done s n limits p (did.Act q k) D refl right pair done) (acted p D) (all_done s n limits p D right.1))
all_done s n limits p (did.Open q k ∷ D) right = open_done s n limits p q k D right (q == p) refl (all_done s n limits p D right.1)
all_done s n limits p (deed ∷ D) right = all_weaker (IsDone s n p D) (IsDone s n p (deed ∷ D)) (λ pair done. still_done s n limits p deed D refl right pair done) (acted p D) (all_done s n limits p D right.1)
