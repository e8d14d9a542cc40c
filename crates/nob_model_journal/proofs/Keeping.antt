-- Each test of a promise decides the promise.
use Rattle.std.proofs.Common.{◌≡◌, ◌&&◌, ◌||◌, not, ℕ, ◌+◌, Bool, true, false, true≢false, List, [], ◌∷◌, ◌++◌, Option, Some, None, refl, sym, ap, subst, ◌∙◌}
use Rattle.std.specs.Prelude.{◌==◌}
use Rattle.std.specs.Bool.{Decides}
use Rattle.std.specs.List.{list_any, list_all, AllByRecursion}
use Rattle.std.proofs.lemmas.Bool.{and_parts, and_from, eqb-true, eq-eqb}
use Rattle.std.proofs.lemmas.Bool.Decides.{Decides-and}
use Rattle.nob_ids.specs.Names.{is_same}
use Rattle.nob_ids.specs.declared.wire_rep.WireRep.{WireRep}
use Rattle.nob_item.specs.declared.item.Item.{Item}
use Rattle.nob_item.specs.declared.item.Item.TheVariants as items
use Rattle.nob_model_session.specs.Pair.{IsBeginning}
use Rattle.nob_model_types.specs.declared.entry.Entry.{Entry}
use Rattle.nob_model_types.specs.Deeds.{deed_in}
use Rattle.nob_model_types.specs.Sessions.{closed, item_at}
use Rattle.nob_model_types.specs.Turns.{turns, is_refused, carries}
use Rattle.nob_model_types.specs.declared.deed.Deed.{Deed}
use Rattle.nob_model_types.specs.declared.deed.Deed.TheVariants.{Act, Withdraw}
use Rattle.nob_model_work.specs.Work.{work}
use Rattle.nob_model_work.specs.Gifts.{gifts, all_gifts}
use Rattle.nob_model_work.specs.declared.gifts.Gift.{Gift}
use Rattle.nob_model_history.specs.Histories.{history_of}
use Rattle.nob_model_history.specs.Holds.{is_held}
use Rattle.nob_model_history.specs.Transit.{sent}
use Rattle.nob_model.specs.Right.{own_ref}
use Rattle.nob_model_journal.specs.Journals.{deeds_at, sent_in, acted_in, acted_during}
use Rattle.nob_model_journal.specs.Fronts.{Fronts, ActsInOrder, ActsWhileOpen, SendsWhileOpen, with_numbers}
use Rattle.nob_model_journal.specs.Safety.{can_use, has_open_copy, is_open_copy, reaches_owner, NoneNeeds, WithdrawsUnneeded, SafeWithdraw}
use Rattle.nob_model_journal.specs.Losses.{is_loss, is_excuse, sources, LosesExcused, NoFalseLoss}
use Rattle.nob_model_journal.specs.declared.losses.Source.{Source}
use Rattle.nob_model_journal.specs.Findings.{is_fault_found, Found}
use Rattle.nob_model_journal.specs.Tests.{spaces_in, sessions_in, same_item, is_front, acts_while_open, sends_while_open, has_fronts, keeps_fronts, needs, is_unneeded, withdraws_safely, reps_at_risk, is_excused, is_lossless, excuses_losses, finds_all}
use Rattle.nob_model_journal.proofs.Sameness.{item_is, item_self}
use Rattle.nob_model_journal.proofs.Looking.{is_in, is_session_in, all_of, of_space, of_session, of_rep, all_decides, each_decides, no_deed, no_item}

-- ---- fronts

-- a test that finds each item with its number where it should stand finds a beginning, and finds each beginning
front_is : (k : ℕ) (xs : List (ℕ × Option Item)) (items : List Item) → is_front k xs items ≡ true → IsBeginning xs (with_numbers k items)
front_is k [] items h = (with_numbers k items, refl)
front_is k ((number, None) ∷ xs) items h = absurd (true≢false (sym h))
front_is k ((number, Some item) ∷ xs) [] h = absurd (true≢false (sym h))
front_is k ((number, Some item) ∷ xs) (one ∷ items) h =
    let last = and_parts (number == k && same_item item one) (is_front (k + 1) xs items) h in
    let first = and_parts (number == k) (same_item item one) last.0 in
    let numbers : number ≡ k = eqb-true number k first.0 in
    let same : item ≡ one = item_is item one first.1 in
    let rest = front_is (k + 1) xs items last.1 in
    let joined : xs ++ rest.0 ≡ with_numbers (k + 1) items = rest.1 in
    (rest.0, cc)

head_is : {A : Type 0} (x y : A) (xs ys : List A) → x ∷ xs ≡ y ∷ ys → x ≡ y
head_is x y xs ys e = cc

rest_is : {A : Type 0} (x y : A) (xs ys : List A) → x ∷ xs ≡ y ∷ ys → xs ≡ ys
rest_is x y xs ys e = cc

some_is : (x y : Item) → Some x ≡ Some y → x ≡ y
some_is x y e = cc

no_item_is : (y : Item) → None ≡ Some y → ⊥
no_item_is y e = cc

-- the first of two equal lists of items with their numbers
first_is : (x y : ℕ × Option Item) (xs ys : List (ℕ × Option Item)) → x ∷ xs ≡ y ∷ ys → (x.0 ≡ y.0) × (x.1 ≡ y.1)
first_is x y xs ys e =
    let head = head_is x y xs ys e in
    (ap (λ (z : ℕ × Option Item). z.0) head, ap (λ (z : ℕ × Option Item). z.1) head)

is_the_front : (k : ℕ) (xs : List (ℕ × Option Item)) (items : List Item) → IsBeginning xs (with_numbers k items) → is_front k xs items ≡ true
is_the_front k [] items h = refl
is_the_front k ((number, None) ∷ xs) [] (rest, e) = absurd (cc)
is_the_front k ((number, None) ∷ xs) (one ∷ items) (rest, e) = absurd (no_item_is one (first_is (number, None) (k, Some one) (xs ++ rest) (with_numbers (k + 1) items) e).1)
is_the_front k ((number, Some item) ∷ xs) [] (rest, e) = absurd (cc)
is_the_front k ((number, Some item) ∷ xs) (one ∷ items) (rest, e) =
    let first = first_is (number, Some item) (k, Some one) (xs ++ rest) (with_numbers (k + 1) items) e in
    let same : item ≡ one = some_is item one first.1 in
    and_from _ _ (and_from _ _ (eq-eqb number k first.0) (subst (λ (x : Item). same_item item x ≡ true) same (item_self item))) (is_the_front (k + 1) xs items (rest, rest_is (number, Some item) (k, Some one) (xs ++ rest) (with_numbers (k + 1) items) e))

front_decides : (xs : List (ℕ × Option Item)) (items : List Item) → Decides (is_front 1 xs items) (IsBeginning xs (with_numbers 1 items))
front_decides xs items = (front_is 1 xs items, is_the_front 1 xs items)

not_decides : (b : Bool) → Decides (not b) (b ≡ false)
not_decides true = (λ h. absurd (true≢false (sym h)), λ h. absurd (true≢false h))
not_decides false = (λ _. refl, λ _. refl)

acts_decides : (D : List Deed) → Decides (acts_while_open D) (ActsWhileOpen D)
acts_decides [] = (λ _. tt, λ _. refl)
acts_decides (Act p k ∷ D) = Decides-and (not (closed p D)) (acts_while_open D) (not_decides (closed p D)) (acts_decides D)
acts_decides (_ ∷ D) = acts_decides D

sends_decides : (s n : ℕ) (D : List Deed) → Decides (sends_while_open D (all_gifts s n D)) (SendsWhileOpen s n D)
sends_decides s n [] = (λ _. tt, λ _. refl)
sends_decides s n (deed ∷ D) =
    Decides-and (list_all (λ (gift : Gift). not (closed gift.to D)) (gifts s n deed D (work s n D))) (sends_while_open D (all_gifts s n D))
    (all_decides (λ (gift : Gift). not (closed gift.to D)) (λ (gift : Gift). closed gift.to D ≡ false) (λ gift. not_decides (closed gift.to D)) (gifts s n deed D (work s n D)))
    (sends_decides s n D)

-- the fronts of one space
pub record FrontsOf (n : ℕ) (J : List Entry) (b : ℕ) : Type 0 where
  pub order : (a k : ℕ) → ActsInOrder n a b k J
  pub acts : ActsWhileOpen (deeds_at b J)
  pub sends : SendsWhileOpen b n (deeds_at b J)

-- whether what space b acted on in a session is a front of what was sent to it in it
abbrev is_session_front : (n b : ℕ) → List Entry → ℕ × ℕ → Bool
is_session_front n b J session = is_front 1 (acted_in session.0 b session.1 J) (sent_in n session.0 b session.1 J)

in_order : (n a b k : ℕ) (J : List Entry) → list_all (is_session_front n b J) (sessions_in (deeds_at b J)) ≡ true → ActsInOrder n a b k J
in_order n a b k J all = by (is_session_in a k (sessions_in (deeds_at b J))) refl
  where
    by : (t : Bool) → is_session_in a k (sessions_in (deeds_at b J)) ≡ t → ActsInOrder n a b k J
    by true there = front_is 1 (acted_in a b k J) (sent_in n a b k J) (of_session (is_session_front n b J) a k (sessions_in (deeds_at b J)) all there)
    by false none = subst (λ (xs : List (ℕ × Option Item)). IsBeginning xs (with_numbers 1 (sent_in n a b k J))) (sym (no_item a k (deeds_at b J) none)) (with_numbers 1 (sent_in n a b k J), refl)

fronts_of : (n : ℕ) (J : List Entry) (b : ℕ) → has_fronts n J b ≡ true → FrontsOf n J b
fronts_of n J b h =
    let last = and_parts (list_all (is_session_front n b J) (sessions_in (deeds_at b J)) && acts_while_open (deeds_at b J)) (sends_while_open (deeds_at b J) (all_gifts b n (deeds_at b J))) h in
    let first = and_parts (list_all (is_session_front n b J) (sessions_in (deeds_at b J))) (acts_while_open (deeds_at b J)) last.0 in
    record {
      order = λ a k. in_order n a b k J first.0;
      acts = (acts_decides (deeds_at b J)).0 first.1;
      sends = (sends_decides b n (deeds_at b J)).0 last.1;
    }

no_fronts : (n : ℕ) (J : List Entry) (b : ℕ) → deeds_at b J ≡ [] → FrontsOf n J b
no_fronts n J b none = record {
  order = λ a k. subst (λ (D : List Deed). IsBeginning (acted_during a k D) (with_numbers 1 (sent_in n a b k J))) (sym none) (with_numbers 1 (sent_in n a b k J), refl);
  acts = subst ActsWhileOpen (sym none) tt;
  sends = subst (SendsWhileOpen b n) (sym none) tt;
}

all_fronts : (n : ℕ) (J : List Entry) → keeps_fronts n J ≡ true → (b : ℕ) → FrontsOf n J b
all_fronts n J h b = by (is_in b (spaces_in J)) refl
  where
    by : (t : Bool) → is_in b (spaces_in J) ≡ t → FrontsOf n J b
    by true there = fronts_of n J b (of_space (has_fronts n J) b (spaces_in J) h there)
    by false none = no_fronts n J b (no_deed b J none)

pub fronts_decides : (n : ℕ) (J : List Entry) → Decides (keeps_fronts n J) (Fronts n J)
fronts_decides n J = (
  λ h. record { order = λ a b k. (all_fronts n J h b).order a k; acts = λ s. (all_fronts n J h s).acts; sends = λ s. (all_fronts n J h s).sends },
  λ f. all_of (has_fronts n J) (spaces_in J) (λ b. and_from _ _ (and_from _ _ (all_of (is_session_front n b J) (sessions_in (deeds_at b J)) (λ session. is_the_front 1 (acted_in session.0 b session.1 J) (sent_in n session.0 b session.1 J) (f.order session.0 b session.1))) ((acts_decides (deeds_at b J)).1 (f.acts b))) ((sends_decides b n (deeds_at b J)).1 (f.sends b))),
)

-- ---- withdrawals

-- who did nothing needs nothing
idle_needs : (n s : ℕ) (rep : WireRep) (J : List Entry) → deeds_at s J ≡ [] → (can_use n s rep J ≡ false) × (has_open_copy n s rep J ≡ false)
idle_needs n s rep J none =
    subst (λ (D : List Deed). (is_held s rep (history_of s n D) && reaches_owner s rep J ≡ false) × (list_any (is_open_copy s rep J) (sent (history_of s n D)) ≡ false)) (sym none) (refl, refl)

neither : (a b : Bool) → not (a || b) ≡ true → (a ≡ false) × (b ≡ false)
neither true b h = absurd (true≢false (sym h))
neither false true h = absurd (true≢false (sym h))
neither false false h = (refl, refl)

not_either : (a b : Bool) → a ≡ false → b ≡ false → not (a || b) ≡ true
not_either a b x y = ap (λ (t : Bool). not (t || b)) x ∙ ap not y

none_needs : (n : ℕ) (rep : WireRep) (J : List Entry) → list_all (λ other. not (needs n rep J other)) (spaces_in J) ≡ true → NoneNeeds n rep J
none_needs n rep J h s = by (is_in s (spaces_in J)) refl
  where
    by : (t : Bool) → is_in s (spaces_in J) ≡ t → (can_use n s rep J ≡ false) × (has_open_copy n s rep J ≡ false)
    by true there = neither (can_use n s rep J) (has_open_copy n s rep J) (of_space (λ other. not (needs n rep J other)) s (spaces_in J) h there)
    by false none = idle_needs n s rep J (no_deed s J none)

withdrawn_index : (x y : ℕ) → Some (Withdraw x) ≡ Some (Withdraw y) → x ≡ y
withdrawn_index x y e = cc

-- what a deed that withdraws takes is unneeded
abbrev pub IsUnneeded : (n s : ℕ) → Option Deed → List Entry → Type 0
IsUnneeded n s deed J = (index : ℕ) → deed ≡ Some (Withdraw index) → NoneNeeds n (own_ref s index) J

unneeded_decides : (n s : ℕ) (deed : Option Deed) (J : List Entry) → Decides (is_unneeded n s deed J) (IsUnneeded n s deed J)
unneeded_decides n s None J = (λ h index e. absurd (no_deed_is _ e), λ _. refl)
  where
    no_deed_is : (deed : Deed) → None ≡ Some deed → ⊥
    no_deed_is deed e = cc
unneeded_decides n s (Some (Withdraw x)) J = (
  λ h index e. subst (λ (k : ℕ). NoneNeeds n (own_ref s k) J) (withdrawn_index x index e) (none_needs n (own_ref s x) J h),
  λ f. all_of _ (spaces_in J) (λ other. not_either _ _ (f x refl other).0 (f x refl other).1),
)
unneeded_decides n s (Some _) J = (λ h index e. absurd (cc), λ _. refl)

pub withdraws_decides : (n : ℕ) (J : List Entry) → Decides (withdraws_safely n J) (SafeWithdraw n J)
withdraws_decides n J = each_decides (λ entry before. is_unneeded n entry.space (deed_in entry) before) (WithdrawsUnneeded n) (λ entry before. unneeded_decides n entry.space (deed_in entry) before) J

-- ---- losses

-- what is lost by an item is among what can be
at_risk : (s n p : ℕ) (rep : WireRep) (item : Option Item) (D : List Deed) → is_loss s n p rep item D ≡ true → list_any (is_same rep) (reps_at_risk p item) ≡ true
at_risk s n p rep (Some (items.Call call target method value)) D h = (and_parts (carries rep (items.Call call target method value)) (is_refused (turns s n rep D)) h).0
at_risk s n p rep (Some (items.Reply call status value)) D h = (and_parts (carries rep (items.Reply call status value)) (is_refused (turns s n rep D)) h).0
at_risk s n p rep (Some (items.DirtyNo index)) D h = ap (λ (t : Bool). t || false) h
at_risk s n p rep _ D h = absurd (true≢false (sym h))

-- the sources of a reference that is lost there excuse it
abbrev pub AreExcuses : (n s p k : ℕ) → List Entry → WireRep → Type 0
AreExcuses n s p k J rep = AllByRecursion (λ (source : Source). is_excuse n s rep J source ≡ true) (sources s n rep (Act p k ∷ deeds_at s J))

-- what a deed loses is excused
abbrev pub IsLossless : (n s : ℕ) → Option Deed → List Entry → Type 0
IsLossless n s deed J = (p k : ℕ) (rep : WireRep) → deed ≡ Some (Act p k) → is_loss s n p rep (item_at p k (deeds_at s J)) (deeds_at s J) ≡ true → AreExcuses n s p k J rep

excuses_decides : (n s p k : ℕ) (J : List Entry) (rep : WireRep) → Decides (list_all (is_excuse n s rep J) (sources s n rep (Act p k ∷ deeds_at s J))) (AreExcuses n s p k J rep)
excuses_decides n s p k J rep = all_decides (is_excuse n s rep J) (λ (source : Source). is_excuse n s rep J source ≡ true) (λ source. (λ h. h, λ h. h)) (sources s n rep (Act p k ∷ deeds_at s J))

if_lost : (lost all : Bool) → (not lost || all) ≡ true → lost ≡ true → all ≡ true
if_lost true all h is = h
if_lost false all h is = absurd (true≢false (sym is))

lost_or : (lost all : Bool) → (lost ≡ true → all ≡ true) → (not lost || all) ≡ true
lost_or true all h = h refl
lost_or false all h = refl

act_excused : (n s p k : ℕ) (J : List Entry) → list_all (is_excused n s p k J) (reps_at_risk p (item_at p k (deeds_at s J))) ≡ true → (rep : WireRep) → is_loss s n p rep (item_at p k (deeds_at s J)) (deeds_at s J) ≡ true → AreExcuses n s p k J rep
act_excused n s p k J h rep lost =
    let there = at_risk s n p rep (item_at p k (deeds_at s J)) (deeds_at s J) lost in
    let one = of_rep (is_excused n s p k J) rep (reps_at_risk p (item_at p k (deeds_at s J))) h there in
    (excuses_decides n s p k J rep).0 (if_lost (is_loss s n p rep (item_at p k (deeds_at s J)) (deeds_at s J)) _ one lost)

acted_peer : (p k q j : ℕ) → Some (Act p k) ≡ Some (Act q j) → p ≡ q
acted_peer p k q j e = cc

acted_number : (p k q j : ℕ) → Some (Act p k) ≡ Some (Act q j) → k ≡ j
acted_number p k q j e = cc

lossless_decides : (n s : ℕ) (deed : Option Deed) (J : List Entry) → Decides (is_lossless n s deed J) (IsLossless n s deed J)
lossless_decides n s None J = (λ h p k rep e lost. absurd (no_deed_is _ e), λ _. refl)
  where
    no_deed_is : (deed : Deed) → None ≡ Some deed → ⊥
    no_deed_is deed e = cc
lossless_decides n s (Some (Act p k)) J = (
  λ h q j rep e.
      let E : ℕ → ℕ → Type 0 = λ x y. is_loss s n x rep (item_at x y (deeds_at s J)) (deeds_at s J) ≡ true → AreExcuses n s x y J rep in
      subst (λ (y : ℕ). E q y) (acted_number p k q j e) (subst (λ (x : ℕ). E x k) (acted_peer p k q j e) (act_excused n s p k J h rep)),
  λ f. all_of (is_excused n s p k J) (reps_at_risk p (item_at p k (deeds_at s J))) (λ rep. lost_or _ _ (λ lost. (excuses_decides n s p k J rep).1 (f p k rep refl lost))),
)
lossless_decides n s (Some _) J = (λ h p k rep e lost. absurd (cc), λ _. refl)

pub losses_decides : (n : ℕ) (J : List Entry) → Decides (excuses_losses n J) (NoFalseLoss n J)
losses_decides n J = each_decides (λ entry before. is_lossless n entry.space (deed_in entry) before) (LosesExcused n) (λ entry before. lossless_decides n entry.space (deed_in entry) before) J

-- ---- faults

pub found_decides : (J : List Entry) → Decides (finds_all J) (Found J)
found_decides J = all_decides (λ entry. not (is_fault_found entry.result)) (λ entry. is_fault_found entry.result ≡ false) (λ entry. not_decides (is_fault_found entry.result)) J

-- ---- what was answered by a test

pub is_kept : {P : Type 0} (answer test : Bool) → Decides test P → answer ≡ test → answer ≡ true → P
is_kept answer test d same h = d.0 (sym same ∙ h)

pub is_broken : {P : Type 0} (answer test : Bool) → Decides test P → answer ≡ test → answer ≡ false → P → ⊥
is_broken answer test d same h p = true≢false (sym (d.1 p) ∙ sym same ∙ h)
