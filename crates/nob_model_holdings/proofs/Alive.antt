-- In every list of right deeds what a space holds of its own is live.
use Rattle.std.proofs.Common.{◌≡◌, ℕ, ◌-◌, ◌≤◌, ◌&&◌, ◌||◌, not, Bool, true, false, cond, List, [], ◌∷◌, length, map, filter, find, Option, Some, None, refl, sym, ap, subst, ◌∙◌, arith, inl, inr}
use Rattle.std.specs.Prelude.{◌==◌}
use Rattle.std.specs.List.{AllByRecursion, list_any}
use Rattle.std.proofs.lemmas.Bool.{eqb-true, eq-eqb, and_from, or_parts, or_right, both_ways, not-true, not-false, not_from_false, false_from_ne_true}
use Rattle.nob_ids.specs.Names.{is_same, is_counted}
use Rattle.nob_ids.specs.declared.limits.Limits.{Limits}
use Rattle.nob_ids.specs.declared.reason.Reason.{Reason}
use Rattle.nob_ids.specs.declared.reason.Reason.TheVariants.{BadReference, OutOfPlace}
use Rattle.nob_ids.specs.declared.wire_rep.WireRep.{WireRep}
use Rattle.nob_pickle.specs.Spelling.{refs_in}
use Rattle.nob_pickle.specs.declared.value.Value.{Value}
use Rattle.nob_item.specs.Kinds.{counted_in}
use Rattle.nob_item.specs.declared.item.Item.{Item}
use Rattle.nob_item.specs.declared.item.Item.TheVariants as items
use Rattle.nob_model_types.specs.declared.deed.Deed.{Deed}
use Rattle.nob_model_types.specs.declared.deed.Deed.TheVariants as did
use Rattle.nob_model_types.specs.declared.message.Loan.{Loan}
use Rattle.nob_model_types.specs.declared.message.Loan.TheVariants as loans
use Rattle.nob_model_types.specs.declared.message.RefCopy.{RefCopy}
use Rattle.nob_model_types.specs.declared.message.Message.{Message}
use Rattle.nob_model_types.specs.Objects.{exports, is_exported, is_withdrawn, is_live}
use Rattle.nob_model_types.specs.Turns.{is_own, is_usable}
use Rattle.nob_model_types.specs.Messages.{new_message, new_copy, loan_after, copy_after, message_after, replies_to}
use Rattle.nob_model_work.specs.declared.work.Outstanding.{Outstanding}
use Rattle.nob_model_work.specs.declared.work.Run.{Run}
use Rattle.nob_model_work.specs.Work.{work, work_after, with_loans, run_after}
use Rattle.nob_model_history.specs.Histories.{history_of}
use Rattle.nob_model_history.specs.Holds.{times, gains, releases, hand, loans_of, target_lent, copies_lent, lent_in, holds, is_held}
use Rattle.nob_model_history.specs.Premises.{ObjectsInTurn}
use Rattle.nob_model_history.proofs.Living.{withdrawn_exported}
use Rattle.nob_model_history.proofs.Turning.{same_ref, named_ref}
use Rattle.nob_model_acting.specs.Sending.{is_gone}
use Rattle.nob_model_acting.specs.Acting.{fault_if, first_fault, fault_of, names_not_live, awaits_reply}
use Rattle.nob_model.specs.Right.{right_after, own_ref}
use Rattle.nob_model.specs.Lists.{IsRightDeed, AreRightDeeds}
use Rattle.nob_model.proofs.Doing.{was_answered}
use Rattle.nob_model.proofs.Accepted.{withdraw_tells, dup_tells, take_tells}
use Rattle.nob_model.proofs.Guarding.{live_stays, live_without}
use Rattle.nob_model.proofs.Premises.{in_turn, item_acted, no_fault, objects_in_turn}
use Rattle.nob_model.proofs.Orderly.{holds_law}
use Rattle.nob_model.proofs.Lending.{IsAllLent, all_lent}
use Rattle.nob_model.proofs.Carrying.{AllOutstanding, Carries, all_carry, all_found}
use Rattle.nob_model.proofs.Waiting.{all_weaker}
use Rattle.nob_model_holdings.proofs.Lists.{all_append, all_split, all_both, all_unfilter, any_push, some_same}
use Rattle.nob_model_holdings.proofs.Hands.{New, outstanding_more, hand_weaker, hand_both}
use Rattle.nob_model_holdings.proofs.Holding.{OfCounted, times_some}
use Rattle.nob_model_holdings.proofs.Granted.{all_stand, hand_apart, hand_joined, copies_apart, copies_joined, either_some}
use Rattle.nob_model_holdings.proofs.Holdings.{hand_held, lent_held, fewer, either_came, times_append}

-- a reference to an own object is to a live one
abbrev pub IsAlive : ℕ → List Deed → WireRep → Type 0
IsAlive s D rep = is_own s rep ≡ true → is_live s rep.index D ≡ true

-- ---- what is held isn't withdrawn

-- whether a deed withdraws the object of an index
abbrev pub takes_back : ℕ → Deed → Bool
takes_back x (did.Withdraw index) = index == x
takes_back x (_) = false

-- what isn't withdrawn stays live
alive_stays : (s x : ℕ) (deed : Deed) (D : List Deed) → takes_back x deed ≡ false → is_live s x D ≡ true → is_live s x (deed ∷ D) ≡ true
alive_stays s x (did.Export rep) D kept is = live_stays s x rep D is
alive_stays s x (did.Withdraw index) D kept is = live_without s x index D is (λ same. both_ways (index == x) kept same)
alive_stays s x deed D kept is = is

-- what is own and held isn't withdrawn
own_kept : (s n : ℕ) (limits : Limits) (rep : WireRep) (deed : Deed) (D : List Deed) → IsRightDeed s n limits deed D → is_own s rep ≡ true → is_held s rep (history_of s n D) ≡ true → takes_back rep.index deed ≡ false
unfolding right_after
own_kept s n limits rep (did.Withdraw index) D right own held =
    false_from_ne_true (index == rep.index) (λ same. both_ways (is_held s (own_ref s index) (history_of s n D)) (withdraw_tells s index (history_of s n D) (was_answered s n limits (did.Withdraw index) D right)).2
    (subst (λ (r : WireRep). is_held s r (history_of s n D) ≡ true) (sym (named_ref rep s index (and_from _ _ own (eq-eqb rep.index index (sym (eqb-true index rep.index same)))))) held))
own_kept s n limits rep deed D right own held = refl

-- ---- what messages carry

-- a copy is of a live object, if it is own and isn't lost
abbrev pub CopyAlive : ℕ → List Deed → RefCopy → Type 0
CopyAlive s D copy = (copy.loan ≡ loans.Never → ⊥) → IsAlive s D copy.rep

-- the own references of a message are live: its target and its copies
abbrev pub LendsAlive : ℕ → List Deed → Message → Type 0
LendsAlive s D m = AllByRecursion (IsAlive s D) (target_lent s m.item) × AllByRecursion (CopyAlive s D) m.copies

-- no own copy waits for its loan
abbrev pub NoneDue : ℕ → Message → Type 0
NoneDue s m = AllByRecursion (λ (copy : RefCopy). is_own s copy.rep ≡ true → copy.loan ≡ loans.Due → ⊥) m.copies

never_due : (own usable : Bool) (loan : Loan) → own ≡ true → loan_after (own || usable) loan ≡ loans.Due → ⊥
never_due true usable loans.Due is e = let clash : loans.Lent ≡ loans.Due = e in cc
never_due true usable loans.Lent is e = let clash : loans.Lent ≡ loans.Due = e in cc
never_due true usable loans.Never is e = let clash : loans.Never ≡ loans.Due = e in cc
never_due false usable loan is e = cc

none_due_after : (s n : ℕ) (D : List Deed) (m : Message) → NoneDue s (message_after s n D m)
unfolding message_after copy_after
none_due_after s n D m = copies m.copies
  where
    copies : (cs : List RefCopy) → AllByRecursion (λ (copy : RefCopy). is_own s copy.rep ≡ true → copy.loan ≡ loans.Due → ⊥) (map (λ copy. copy_after s n D copy) cs)
    copies [] = tt
    copies (copy ∷ cs) = (never_due (is_own s copy.rep) (is_usable s n copy.rep D) copy.loan, copies cs)

-- what holds of all that is made of something holds of all that is made of a list
all_built : {X Y : Type 0} (P : Y → Type 0) (f : X → Y) → ((x : X) → P (f x)) → (xs : List X) → AllByRecursion P (map f xs)
all_built P f each [] = tt
all_built P f each (x ∷ xs) = (each x, all_built P f each xs)

none_due : (s n : ℕ) (D : List Deed) → AllOutstanding (NoneDue s) (work s n D)
unfolding with_loans run_after
none_due s n [] = record { waiting = tt; ready = tt; running = tt; replies = tt }
none_due s n (deed ∷ D) =
    let W : Outstanding = work_after s n deed D (work s n D) in
    record {
      waiting = all_built (NoneDue s) (λ m. message_after s n (deed ∷ D) m) (none_due_after s n (deed ∷ D)) W.waiting;
      ready = all_built (NoneDue s) (λ m. message_after s n (deed ∷ D) m) (none_due_after s n (deed ∷ D)) W.ready;
      running = all_built (λ (run : Run). NoneDue s run.message) (λ run. run_after s n (deed ∷ D) run) (λ run. none_due_after s n (deed ∷ D) run.message) W.running;
      replies = all_built (NoneDue s) (λ m. message_after s n (deed ∷ D) m) (none_due_after s n (deed ∷ D)) W.replies;
    }

-- ---- one deed more: what is lent

is_lent_then : (P : Type 0) (loan : Loan) → (loan ≡ loans.Lent → P) → (loan ≡ loans.Due → ⊥) → (loan ≡ loans.Never → ⊥) → P
is_lent_then P loans.Due lent due never = absurd (due refl)
is_lent_then P loans.Lent lent due never = lent refl
is_lent_then P loans.Never lent due never = absurd (never refl)

module _ (s n : ℕ) (limits : Limits) (deed : Deed) (D : List Deed) (right : AreRightDeeds s n limits (deed ∷ D)) where
  -- a reference stands among all that is lent
  abbrev Stands : WireRep → Type 0
  Stands rep = 1 ≤ times rep (lent_in s (work s n D))

  -- what a message has lent stands among all that is lent
  abbrev LendsHeld : Message → Type 0
  LendsHeld m = AllByRecursion Stands (loans_of s m)

  -- the target of a message stands there, and each own copy that isn't lost
  abbrev AllStand : Message → Type 0
  AllStand m = AllByRecursion Stands (target_lent s m.item) × AllByRecursion (λ (copy : RefCopy). (copy.loan ≡ loans.Never → ⊥) → is_own s copy.rep ≡ true → Stands copy.rep) m.copies

  -- what is lent and live stays live
  lent_stays : (rep : WireRep) → Stands rep → IsAlive s D rep → IsAlive s (deed ∷ D) rep
  lent_stays rep some alive own = alive_stays s rep.index deed D (own_kept s n limits rep deed D right.0 own (lent_held s n limits rep D right.1 some)) (alive own)

  all_there : (m : Message) → LendsHeld m → NoneDue s m → AllStand m
  all_there m held due =
      let parts = all_split Stands (target_lent s m.item) (copies_lent m.copies) held in (
        parts.0,
        all_both (λ (copy : RefCopy). copy.loan ≡ loans.Lent → Stands copy.rep) (λ (copy : RefCopy). is_own s copy.rep ≡ true → copy.loan ≡ loans.Due → ⊥) (λ (copy : RefCopy). (copy.loan ≡ loans.Never → ⊥) → is_own s copy.rep ≡ true → Stands copy.rep)
            (λ copy lent waits never own. is_lent_then (Stands copy.rep) copy.loan lent (waits own) never) m.copies (copies_apart Stands m.copies parts.1) due,
      )

  lends_still : (m : Message) → LendsAlive s D m → AllStand m → LendsAlive s (deed ∷ D) m
  lends_still m alive there = (
    all_both (IsAlive s D) Stands (IsAlive s (deed ∷ D)) (λ rep its some. lent_stays rep some its) (target_lent s m.item) alive.0 there.0,
    all_both (CopyAlive s D) (λ (copy : RefCopy). (copy.loan ≡ loans.Never → ⊥) → is_own s copy.rep ≡ true → Stands copy.rep) (CopyAlive s (deed ∷ D)) (λ copy its some never own. lent_stays copy.rep (some never own) (its never) own) m.copies alive.1 there.1,
  )

  hand_still : AllOutstanding (LendsAlive s D) (work s n D) → AllOutstanding (LendsAlive s (deed ∷ D)) (work s n D)
  hand_still all =
      hand_both (LendsAlive s D) AllStand (LendsAlive s (deed ∷ D)) lends_still (work s n D) all
      (hand_both LendsHeld (NoneDue s) AllStand all_there (work s n D) (hand_apart s _ (work s n D) (all_stand (lent_in s (work s n D)))) (none_due s n D))

-- loans that are made change nothing of it
lends_after : (s n : ℕ) (D : List Deed) (m : Message) → LendsAlive s D m → LendsAlive s D (message_after s n D m)
unfolding message_after copy_after
lends_after s n D m its = (its.0, copies m.copies its.1)
  where
    copies : (cs : List RefCopy) → AllByRecursion (CopyAlive s D) cs → AllByRecursion (CopyAlive s D) (map (λ copy. copy_after s n D copy) cs)
    copies [] all = tt
    copies (copy ∷ cs) all = (λ never. all.0 (λ e. never (ap (loan_after (is_own s copy.rep || is_usable s n copy.rep D)) e)), copies cs all.1)

-- ---- the message that comes

first_none : (one two : Option Reason) → first_fault one two ≡ None → (one ≡ None) × (two ≡ None)
first_none (Some reason) two e = cc
first_none None two e = (refl, e)

not_any : {X : Type 0} (test : X → Bool) (xs : List X) → list_any test xs ≡ false → AllByRecursion (λ x. test x ≡ false) xs
not_any test [] none = tt
not_any test (x ∷ xs) none = let parts = or_parts (test x) (list_any test xs) none in (parts.0, not_any test xs parts.1)

alive_by : (own alive : Bool) → (own && not alive) ≡ false → own ≡ true → alive ≡ true
alive_by true true none own = refl
alive_by true false none own = cc
alive_by false alive none own = cc

named_alive : (s n : ℕ) (item : Item) (D : List Deed) → fault_if (names_not_live s item (history_of s n D)) BadReference ≡ None → AllByRecursion (IsAlive s D) (counted_in item)
named_alive s n item D none =
    all_weaker (λ rep. is_gone s rep (history_of s n D) ≡ false) (IsAlive s D) (λ rep its own. alive_by (is_own s rep) (is_live s rep.index D) its own) (counted_in item)
    (not_any (λ rep. is_gone s rep (history_of s n D)) (counted_in item) (no_fault (names_not_live s item (history_of s n D)) BadReference none))

target_alive : (s target : ℕ) (D : List Deed) (b : Bool) → (not b && not (is_live s target D)) ≡ false → AllByRecursion (IsAlive s D) (cond b [] (record { owner = s; index = target } ∷ []))
target_alive s target D true none = tt
target_alive s target D false none = (λ own. not-false _ none, tt)

-- an item without a fault calls a live object, and its own references are live
item_alive : (s n p : ℕ) (item : Item) (D : List Deed) → fault_of s n p item (history_of s n D) ≡ None → AllByRecursion (IsAlive s D) (target_lent s item) × AllByRecursion (IsAlive s D) (counted_in item)
unfolding fault_of
item_alive s n p (items.Call call target method value) D none =
    let parts = first_none (fault_if (not (target == 0) && not (is_live s target D)) BadReference) (fault_if (names_not_live s (items.Call call target method value) (history_of s n D)) BadReference) none in
    (target_alive s target D (target == 0) (no_fault _ BadReference parts.0), named_alive s n (items.Call call target method value) D parts.1)
item_alive s n p (items.Reply call status value) D none =
    let parts = first_none (fault_if (not (list_any (awaits_reply p call) (history_of s n D).work.calls)) OutOfPlace) (fault_if (names_not_live s (items.Reply call status value) (history_of s n D)) BadReference) none in
    (tt, named_alive s n (items.Reply call status value) D parts.1)
item_alive s n p (items.Settle item) D none = (tt, tt)
item_alive s n p (items.Dirty index) D none = (tt, tt)
item_alive s n p (items.DirtyOk index) D none = (tt, tt)
item_alive s n p (items.DirtyNo index) D none = (tt, tt)
item_alive s n p (items.Clean index) D none = (tt, tt)

lends_new : (s n p k : ℕ) (item : Item) (D E : List Deed) → AllByRecursion (IsAlive s E) (target_lent s item) × AllByRecursion (IsAlive s E) (counted_in item) → LendsAlive s E (new_message s n p k item D)
unfolding new_copy
lends_new s n p k item D E alive = (alive.0, copies (counted_in item) alive.1)
  where
    copies : (reps : List WireRep) → AllByRecursion (IsAlive s E) reps → AllByRecursion (CopyAlive s E) (map (λ rep. new_copy s n D rep) reps)
    copies [] all = tt
    copies (rep ∷ reps) all = (λ never. all.0, copies reps all.1)

new_lends : (s n : ℕ) (limits : Limits) (deed : Deed) (D : List Deed) → AreRightDeeds s n limits (deed ∷ D) → New s n (LendsAlive s (deed ∷ D)) (λ m call status value is its. (tt, tt)) deed D
new_lends s n limits (did.Act p k) D right = λ item is.
    let known = item_acted s n limits p k D (in_turn s n limits D right.1) right.0 in
    lends_new s n p k item (did.Act p k ∷ D) (did.Act p k ∷ D) (item_alive s n p item D (subst (λ (one : Item). fault_of s n p one (history_of s n D) ≡ None) (some_same known.0 item (sym known.1 ∙ is)) known.2))
new_lends s n limits deed D right = tt

lent_more : (s n : ℕ) (limits : Limits) (deed : Deed) (D : List Deed) → AreRightDeeds s n limits (deed ∷ D) → AllOutstanding (LendsAlive s D) (work s n D) → AllOutstanding (LendsAlive s (deed ∷ D)) (work s n (deed ∷ D))
lent_more s n limits deed D right all = outstanding_more s n (LendsAlive s (deed ∷ D)) (λ m call status value is its. (tt, tt)) deed D (lends_after s n (deed ∷ D)) (new_lends s n limits deed D right) (hand_still s n limits deed D right all)

-- ---- what is held

-- how it stands at space s: what is lent and what is in the hand is live, if it is own
pub record HoldsAlive (s n : ℕ) (D : List Deed) : Type 0 where
  pub lent : AllOutstanding (LendsAlive s D) (work s n D)
  pub in_the_hand : (rep : WireRep) → is_counted rep ≡ true → 1 ≤ hand rep D → IsAlive s D rep

lent_never : (loan : Loan) → loan ≡ loans.Lent → loan ≡ loans.Never → ⊥
lent_never loan lent never = let clash : loans.Lent ≡ loans.Never = sym lent ∙ never in cc

lent_alive : (s n : ℕ) (D : List Deed) → AllOutstanding (LendsAlive s D) (work s n D) → AllByRecursion (IsAlive s D) (lent_in s (work s n D))
lent_alive s n D all =
    hand_joined s (IsAlive s D) (work s n D) (hand_weaker (LendsAlive s D) (λ m. AllByRecursion (IsAlive s D) (loans_of s m))
    (λ m its. all_append (IsAlive s D) (target_lent s m.item) (copies_lent m.copies) its.0 (copies_joined (IsAlive s D) m.copies (all_weaker (CopyAlive s D) (λ (copy : RefCopy). copy.loan ≡ loans.Lent → IsAlive s D copy.rep) (λ copy alive lent. alive (lent_never copy.loan lent)) m.copies its.1)))
    (work s n D) all)

-- what is held is live, if it is own
held_by : (s n : ℕ) (limits : Limits) (rep : WireRep) (D : List Deed) → AreRightDeeds s n limits D → HoldsAlive s n D → is_counted rep ≡ true → is_held s rep (history_of s n D) ≡ true → IsAlive s D rep
held_by s n limits rep D right all counted held =
    elim (either_some (hand rep D) (times rep (lent_in s (work s n D))) (holds s rep (history_of s n D)) (holds_law s n limits D right rep) (not-true _ held)) [
      | inl some ↦ all.in_the_hand rep counted some
      | inr some ↦ times_some (IsAlive s D) rep (lent_in s (work s n D)) (lent_alive s n D all.lent) some
    ]

-- ---- one deed more: the hand

-- where no more is in the hand
hand_less : (s n : ℕ) (limits : Limits) (deed : Deed) (D : List Deed) (rep : WireRep) → AreRightDeeds s n limits (deed ∷ D) → HoldsAlive s n D → is_counted rep ≡ true → 1 ≤ hand rep D → IsAlive s (deed ∷ D) rep
hand_less s n limits deed D rep right all counted some own = alive_stays s rep.index deed D (own_kept s n limits rep deed D right.0 own (hand_held s n limits rep D right.1 some)) (all.in_the_hand rep counted some own)

-- one reference more came
one_more : (s n : ℕ) (limits : Limits) (deed : Deed) (D : List Deed) (rep other : WireRep) → AreRightDeeds s n limits (deed ∷ D) → HoldsAlive s n D → is_counted rep ≡ true → IsAlive s (deed ∷ D) other → (b : Bool) → is_same rep other ≡ b → 1 ≤ length (cond b (other ∷ filter (is_same rep) (gains D)) (filter (is_same rep) (gains D))) - times rep (releases D) → IsAlive s (deed ∷ D) rep
one_more s n limits deed D rep other right all counted alive true same some = subst (IsAlive s (deed ∷ D)) (sym (same_ref rep other same)) alive
one_more s n limits deed D rep other right all counted alive false same some = hand_less s n limits deed D rep right all counted some

-- an object that is exported is live
export_alive : (s : ℕ) (rep : WireRep) (D : List Deed) → ObjectsInTurn s (did.Export rep ∷ D) → IsAlive s (did.Export rep ∷ D) rep
export_alive s rep D turn own =
    let fresh : is_withdrawn rep.index D ≡ false = false_from_ne_true _ (λ gone. let before = withdrawn_exported s rep.index D turn.1 gone in let next = ap (λ (r : WireRep). r.index) turn.0 in omega (arith, before, next)) in
    and_from (is_exported s rep.index (did.Export rep ∷ D)) (not (is_withdrawn rep.index D))
    (any_push (is_same (record { owner = s; index = rep.index })) (exports D) rep
    ∙ or_right (list_any (is_same (record { owner = s; index = rep.index })) (exports D)) _ (and_from _ _ (eq-eqb s rep.owner (sym (eqb-true rep.owner s own))) (eq-eqb rep.index rep.index refl)))
    (not_from_false _ fresh)

dup_alive : (s n : ℕ) (limits : Limits) (other : WireRep) (D : List Deed) → AreRightDeeds s n limits (did.Dup other ∷ D) → HoldsAlive s n D → IsAlive s (did.Dup other ∷ D) other
unfolding right_after
dup_alive s n limits other D right all =
    let told = dup_tells s other (history_of s n D) (was_answered s n limits (did.Dup other) D right.0) in
    held_by s n limits other D right.1 all told.0 told.1

-- all that a message carries is live, if it is own
carried_alive : (s : ℕ) (D : List Deed) (m : Message) → Carries m → IsAllLent m → LendsAlive s D m → AllByRecursion (IsAlive s D) (counted_in m.item)
carried_alive s D m carries lent alive = subst (AllByRecursion (IsAlive s D)) carries (copies m.copies lent alive.1)
  where
    copies : (cs : List RefCopy) → AllByRecursion (λ (copy : RefCopy). copy.loan ≡ loans.Lent) cs → AllByRecursion (CopyAlive s D) cs → AllByRecursion (IsAlive s D) (map (λ copy. copy.rep) cs)
    copies [] lent all = tt
    copies (copy ∷ cs) lent all = (all.0 (lent_never copy.loan lent.0), copies cs lent.1 all.1)

-- what came in a reply that was taken was live, if it was own
reply_alive : (s n : ℕ) (limits : Limits) (call status : ℕ) (value : Value) (D : List Deed) → AreRightDeeds s n limits (did.TakeReply call status value ∷ D) → HoldsAlive s n D → AllByRecursion (OfCounted (IsAlive s D)) (refs_in value)
unfolding right_after
reply_alive s n limits call status value D right all =
    let told = take_tells call status value (history_of s n D) (was_answered s n limits (did.TakeReply call status value) D right.0) in
    let m : Message = told.1 in
    let replies : List Message = (work s n D).replies in
    let found : find (λ (m : Message). replies_to call m.item) replies ≡ Some m = told.4 in
    let carries = all_found Carries (λ (m : Message). replies_to call m.item) replies m found (all_carry s n D).replies in
    let lent = all_found IsAllLent (λ (m : Message). replies_to call m.item) replies m found (all_lent s n limits D right.1).replies in
    let alive = all_found (LendsAlive s D) (λ (m : Message). replies_to call m.item) replies m found all.lent.replies in
    all_unfilter (IsAlive s D) is_counted (refs_in value) (subst (λ (item : Item). AllByRecursion (IsAlive s D) (counted_in item)) told.5 (carried_alive s D m carries lent alive))

taken_alive : (s n : ℕ) (limits : Limits) (call status : ℕ) (value : Value) (D : List Deed) (rep : WireRep) → AreRightDeeds s n limits (did.TakeReply call status value ∷ D) → HoldsAlive s n D → is_counted rep ≡ true → 1 ≤ hand rep (did.TakeReply call status value ∷ D) → IsAlive s (did.TakeReply call status value ∷ D) rep
taken_alive s n limits call status value D rep right all counted some =
    elim (either_came (times rep (refs_in value)) (times rep (gains D)) (times rep (releases D)) (subst (λ (m : ℕ). 1 ≤ m - times rep (releases D)) (times_append rep (refs_in value) (gains D)) some)) [
      | inl came ↦ times_some (OfCounted (IsAlive s D)) rep (refs_in value) (reply_alive s n limits call status value D right all) came counted
      | inr before ↦ hand_less s n limits (did.TakeReply call status value) D rep right all counted before
    ]

hand_more : (s n : ℕ) (limits : Limits) (deed : Deed) (D : List Deed) → AreRightDeeds s n limits (deed ∷ D) → HoldsAlive s n D → (rep : WireRep) → is_counted rep ≡ true → 1 ≤ hand rep (deed ∷ D) → IsAlive s (deed ∷ D) rep
hand_more s n limits (did.Export other) D right all rep counted some = one_more s n limits (did.Export other) D rep other right all counted (export_alive s other D (objects_in_turn s n limits (did.Export other ∷ D) right)) (is_same rep other) refl some
hand_more s n limits (did.Dup other) D right all rep counted some = one_more s n limits (did.Dup other) D rep other right all counted (dup_alive s n limits other D right all) (is_same rep other) refl some
hand_more s n limits (did.Release other) D right all rep counted some = hand_less s n limits (did.Release other) D rep right all counted (fewer s n D rep other (is_same rep other) some)
hand_more s n limits (did.TakeReply call status value) D right all rep counted some = taken_alive s n limits call status value D rep right all counted some
hand_more s n limits deed D right all rep counted some = hand_less s n limits deed D rep right all counted some

-- in every list of right deeds what is lent and what is in the hand is live, if it is own
pub holds_alive : (s n : ℕ) (limits : Limits) (D : List Deed) → AreRightDeeds s n limits D → HoldsAlive s n D
holds_alive s n limits [] right = record { lent = record { waiting = tt; ready = tt; running = tt; replies = tt }; in_the_hand = λ rep counted some. absurd (omega (arith, some)) }
holds_alive s n limits (deed ∷ D) right =
    let before = holds_alive s n limits D right.1 in
    record { lent = lent_more s n limits deed D right before.lent; in_the_hand = hand_more s n limits deed D right before }

-- what a space holds of its own is live
pub held_alive : (s n : ℕ) (limits : Limits) (rep : WireRep) (D : List Deed) → AreRightDeeds s n limits D → is_counted rep ≡ true → is_own s rep ≡ true → is_held s rep (history_of s n D) ≡ true → is_live s rep.index D ≡ true
held_alive s n limits rep D right counted own held = held_by s n limits rep D right (holds_alive s n limits D right) counted held own
