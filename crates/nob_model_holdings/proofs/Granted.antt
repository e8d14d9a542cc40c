-- What a space holds or has pins for is its own or granted.
use Rattle.std.proofs.Common.{◌≡◌, ℕ, ◌+◌, ◌≤◌, ◌&&◌, ◌||◌, Bool, true, false, cond, List, [], ◌∷◌, length, map, filter, Option, Some, None, refl, sym, ap, subst, ◌∙◌, arith, ◌⊎◌, inl, inr}
use Rattle.std.specs.Prelude.{◌==◌, nat_le}
use Rattle.std.specs.List.{AllByRecursion, flat_map}
use Rattle.std.proofs.lemmas.Bool.{eqb-true, eqb-false, eq-eqb, ne_eqb, and_parts, or_left, or_right, both_ways, not-true, leb-true, leb-false}
use Rattle.nob_ids.specs.Names.{is_same, is_counted}
use Rattle.nob_ids.specs.declared.limits.Limits.{Limits}
use Rattle.nob_ids.specs.declared.wire_rep.WireRep.{WireRep}
use Rattle.nob_item.specs.Kinds.{counted_in}
use Rattle.nob_item.specs.declared.item.Item.{Item}
use Rattle.nob_item.specs.declared.item.Item.TheVariants as items
use Rattle.nob_model_types.specs.declared.deed.Deed.{Deed}
use Rattle.nob_model_types.specs.declared.deed.Deed.TheVariants as did
use Rattle.nob_model_types.specs.declared.message.Loan.{Loan}
use Rattle.nob_model_types.specs.declared.message.Loan.TheVariants as loans
use Rattle.nob_model_types.specs.declared.message.RefCopy.{RefCopy}
use Rattle.nob_model_types.specs.declared.message.Message.{Message}
use Rattle.nob_model_types.specs.declared.turns.Turns.{Turns}
use Rattle.nob_model_types.specs.Sessions.{item_at}
use Rattle.nob_model_types.specs.Turns.{no_turns, turns, turns_after, is_own, is_pending, is_granted, is_standing, wants_dirty, carries, names}
use Rattle.nob_model_work.specs.declared.work.Outstanding.{Outstanding}
use Rattle.nob_model_work.specs.declared.work.Run.{Run}
use Rattle.nob_model_work.specs.Work.{work}
use Rattle.nob_model_history.specs.declared.history.History.{History}
use Rattle.nob_model_history.specs.Histories.{history_of}
use Rattle.nob_model_history.specs.Holds.{times, hand, is_lent, copies_lent, target_lent, loans_of, lent_in, holds, is_held}
use Rattle.nob_model_history.specs.Transit.{bundles, pinned, pins, is_idle, by_last_dirty}
use Rattle.nob_model_history.specs.declared.transit.SentItem.{SentItem}
use Rattle.nob_model_history.specs.Premises.{AnswersPending, TookTurns}
use Rattle.nob_model_history.proofs.Dirtying.{same_self}
use Rattle.nob_model_history.proofs.Sessions.{opens}
use Rattle.nob_model_history.proofs.Turning.{same_ref, named_ref, wanted_none, pending_waits, granted_answered}
use Rattle.nob_model.specs.Right.{right_after}
use Rattle.nob_model.specs.Lists.{IsRightDeed, AreRightDeeds}
use Rattle.nob_model.proofs.Doing.{was_answered}
use Rattle.nob_model.proofs.Accepted.{found_passes, clean_tells}
use Rattle.nob_model.proofs.Orderly.{holds_law}
use Rattle.nob_model.proofs.Carrying.{AllOutstanding}
use Rattle.nob_model.proofs.Reopening.{counted_are, open_unheld, open_unpinned}
use Rattle.nob_model.proofs.Waiting.{all_weaker}
use Rattle.nob_model_holdings.proofs.Lists.{all_append, all_split}
use Rattle.nob_model_holdings.proofs.Hands.{hand_weaker}
use Rattle.nob_model_holdings.proofs.Holding.{times_some}

-- whether a reference is own or granted
abbrev pub is_owned : (s n : ℕ) → WireRep → List Deed → Bool
is_owned s n rep D = is_own s rep || is_granted (turns s n rep D)

-- ---- what is granted stays granted until it is given up

-- whether a deed gives a reference up: a Clean of it, or an Open of the session with its owner
abbrev pub gives_up : WireRep → Deed → Bool
gives_up rep (did.Clean other) = is_same rep other
gives_up rep (did.Open q k) = q == rep.owner
gives_up rep (_) = false

not_turned : (b : Bool) (t after : Turns) → (b ≡ true → ⊥) → is_granted t ≡ true → is_granted (cond b after t) ≡ true
not_turned true t after never is = absurd (never refl)
not_turned false t after never is = is

not_wanted : (s n : ℕ) (rep : WireRep) (D : List Deed) (t : Turns) → is_granted t ≡ true → (carried : Bool) → (carried && wants_dirty s n rep D t) ≡ true → ⊥
not_wanted s n rep D t granted carried wanted = both_ways (is_standing t) (wanted_none s n rep D t (and_parts carried _ wanted).1) (or_left _ _ (or_right (is_pending t) (is_granted t) granted))

not_pending : (t : Turns) → is_granted t ≡ true → is_pending t ≡ true → ⊥
not_pending t granted pending = let waits = (pending_waits t pending).1 in let answered = (granted_answered t granted).1 in omega (arith, waits, answered)

item_granted : (s n p : ℕ) (rep : WireRep) (found : Option Item) (D : List Deed) → AnswersPending s n p found D → is_granted (turns s n rep D) ≡ true → is_granted (turns_after s n p rep found D (turns s n rep D)) ≡ true
item_granted s n p rep None D answers is = is
item_granted s n p rep (Some (items.Call call target method value)) D answers is = not_turned (carries rep (items.Call call target method value) && wants_dirty s n rep D (turns s n rep D)) (turns s n rep D) _ (not_wanted s n rep D (turns s n rep D) is (carries rep (items.Call call target method value))) is
item_granted s n p rep (Some (items.Reply call status value)) D answers is = not_turned (carries rep (items.Reply call status value) && wants_dirty s n rep D (turns s n rep D)) (turns s n rep D) _ (not_wanted s n rep D (turns s n rep D) is (carries rep (items.Reply call status value))) is
item_granted s n p rep (Some (items.Settle item)) D answers is = is
item_granted s n p rep (Some (items.Dirty index)) D answers is = is
item_granted s n p rep (Some (items.DirtyOk index)) D answers is = not_turned (names rep p index) (turns s n rep D) _ (λ named. not_pending (turns s n rep D) is (subst (λ (r : WireRep). is_pending (turns s n r D) ≡ true) (named_ref rep p index named) answers)) is
item_granted s n p rep (Some (items.DirtyNo index)) D answers is = not_turned (names rep p index) (turns s n rep D) _ (λ named. not_pending (turns s n rep D) is (subst (λ (r : WireRep). is_pending (turns s n r D) ≡ true) (named_ref rep p index named) answers)) is
item_granted s n p rep (Some (items.Clean index)) D answers is = is

granted_stays : (s n : ℕ) (rep : WireRep) (deed : Deed) (D : List Deed) → TookTurns s n (deed ∷ D) → gives_up rep deed ≡ false → is_granted (turns s n rep D) ≡ true → is_granted (turns s n rep (deed ∷ D)) ≡ true
granted_stays s n rep (did.Act p k) D took kept is = item_granted s n p rep (item_at p k D) D took.0 is
granted_stays s n rep (did.Clean other) D took kept is = not_turned (is_same rep other) (turns s n rep D) _ (λ same. both_ways (is_same rep other) kept same) is
granted_stays s n rep (did.Open q k) D took kept is = ap (λ (b : Bool). is_granted (cond b no_turns (turns s n rep D))) kept ∙ is
granted_stays s n rep deed D took kept is = is

owned_by : (own granted later : Bool) → (granted ≡ true → later ≡ true) → (own || granted) ≡ true → (own || later) ≡ true
owned_by true granted later stays is = refl
owned_by false granted later stays is = stays is

-- so does what is own or granted
pub owned_stays : (s n : ℕ) (rep : WireRep) (deed : Deed) (D : List Deed) → TookTurns s n (deed ∷ D) → gives_up rep deed ≡ false → is_owned s n rep D ≡ true → is_owned s n rep (deed ∷ D) ≡ true
owned_stays s n rep deed D took kept is = owned_by (is_own s rep) (is_granted (turns s n rep D)) (is_granted (turns s n rep (deed ∷ D))) (granted_stays s n rep deed D took kept) is

-- ---- what is given up isn't held and has no pins

-- a Clean gives up what isn't held and has no pins
clean_free : (s n : ℕ) (limits : Limits) (other : WireRep) (D : List Deed) → IsRightDeed s n limits (did.Clean other) D → (is_held s other (history_of s n D) ≡ false) × ((pins other (history_of s n D) == 0) ≡ true)
unfolding right_after
clean_free s n limits other D right =
    let h : History = history_of s n D in
    let idle = and_parts _ _ (found_passes (is_idle s n h) (by_last_dirty h) other (clean_tells s n other h (was_answered s n limits (did.Clean other) D right)).0) in
    (not-true _ (and_parts _ _ idle.0).1, idle.1)

held_kept_by : (s n : ℕ) (limits : Limits) (rep other : WireRep) (D : List Deed) → IsRightDeed s n limits (did.Clean other) D → is_held s rep (history_of s n D) ≡ true → (b : Bool) → is_same rep other ≡ b → b ≡ false
held_kept_by s n limits rep other D right held true same = absurd (both_ways _ (clean_free s n limits other D right).0 (subst (λ (r : WireRep). is_held s r (history_of s n D) ≡ true) (same_ref rep other same) held))
held_kept_by s n limits rep other D right held false same = refl

-- a counted reference that is held isn't given up
pub held_kept : (s n : ℕ) (limits : Limits) (rep : WireRep) (deed : Deed) (D : List Deed) → IsRightDeed s n limits deed D → is_counted rep ≡ true → is_held s rep (history_of s n D) ≡ true → gives_up rep deed ≡ false
held_kept s n limits rep (did.Clean other) D right counted held = held_kept_by s n limits rep other D right held (is_same rep other) refl
held_kept s n limits rep (did.Open q k) D right counted held = ne_eqb q rep.owner (λ same. both_ways (is_held s rep (history_of s n D)) (open_unheld s n limits q k D right rep (sym same) counted) held)
held_kept s n limits rep deed D right counted held = refl

-- what is given up by no deed has an owner with whom no session is opened by it
pub kept_unopened : (rep : WireRep) (deed : Deed) → gives_up rep deed ≡ false → opens rep.owner deed ≡ false
kept_unopened rep (did.Open q k) kept = kept
kept_unopened rep deed kept = refl

pinned_kept_by : (s n : ℕ) (limits : Limits) (rep other : WireRep) (D : List Deed) → IsRightDeed s n limits (did.Clean other) D → 1 ≤ pins rep (history_of s n D) → (b : Bool) → is_same rep other ≡ b → b ≡ false
pinned_kept_by s n limits rep other D right some true same =
    let none : pins other (history_of s n D) ≡ 0 = eqb-true _ _ (clean_free s n limits other D right).1 in
    let here : 1 ≤ pins other (history_of s n D) = subst (λ (r : WireRep). 1 ≤ pins r (history_of s n D)) (same_ref rep other same) some in
    absurd (omega (arith, none, here))
pinned_kept_by s n limits rep other D right some false same = refl

-- all that has pins is counted
pub pinned_counted : (s n : ℕ) (D : List Deed) → AllByRecursion (λ (rep : WireRep). is_counted rep ≡ true) (pinned (history_of s n D))
pinned_counted s n D = each (bundles (history_of s n D))
  where
    each : (sent_items : List SentItem) → AllByRecursion (λ (rep : WireRep). is_counted rep ≡ true) (flat_map (λ (one : SentItem). counted_in one.item) sent_items)
    each [] = tt
    each (one ∷ sent_items) = all_append (λ (rep : WireRep). is_counted rep ≡ true) (counted_in one.item) (flat_map (λ (one : SentItem). counted_in one.item) sent_items) (counted_are one.item) (each sent_items)

-- what has pins isn't given up
pub pinned_kept : (s n : ℕ) (limits : Limits) (rep : WireRep) (deed : Deed) (D : List Deed) → IsRightDeed s n limits deed D → 1 ≤ pins rep (history_of s n D) → gives_up rep deed ≡ false
pinned_kept s n limits rep (did.Clean other) D right some = pinned_kept_by s n limits rep other D right some (is_same rep other) refl
pinned_kept s n limits rep (did.Open q k) D right some =
    let counted = times_some (λ r. is_counted r ≡ true) rep (pinned (history_of s n D)) (pinned_counted s n D) some in
    ne_eqb q rep.owner (λ same. let none : pins rep (history_of s n D) ≡ 0 = open_unpinned s n limits q k D right rep (sym same) counted in omega (arith, none, some))
pinned_kept s n limits rep deed D right some = refl

-- ---- what stands in a list

times_more : (rep other : WireRep) (reps : List WireRep) → times rep reps ≤ times rep (other ∷ reps)
times_more rep other reps = elim (is_same rep other) as (λ (b : Bool). times rep reps ≤ length (cond b (other ∷ filter (is_same rep) reps) (filter (is_same rep) reps))) [ true ↦ omega arith | false ↦ omega arith ]

times_own : (rep : WireRep) (reps : List WireRep) → 1 ≤ times rep (rep ∷ reps)
times_own rep reps = subst (λ (b : Bool). 1 ≤ length (cond b (rep ∷ filter (is_same rep) reps) (filter (is_same rep) reps))) (sym (same_self rep)) (omega arith)

-- each element of a list stands in it
pub all_stand : (reps : List WireRep) → AllByRecursion (λ rep. 1 ≤ times rep reps) reps
all_stand [] = tt
all_stand (rep ∷ reps) = (times_own rep reps, all_weaker (λ r. 1 ≤ times r reps) (λ r. 1 ≤ times r (rep ∷ reps)) (λ r some. let more = times_more r rep reps in omega (arith, some, more)) reps (all_stand reps))

-- what holds of all that some lists have holds of all that each has
pub all_apart : {X : Type 0} (Q : WireRep → Type 0) (f : X → List WireRep) (xs : List X) → AllByRecursion Q (flat_map f xs) → AllByRecursion (λ x. AllByRecursion Q (f x)) xs
all_apart Q f [] all = tt
all_apart Q f (x ∷ xs) all = let parts = all_split Q (f x) (flat_map f xs) all in (parts.0, all_apart Q f xs parts.1)

-- and the other way
pub all_joined : {X : Type 0} (Q : WireRep → Type 0) (f : X → List WireRep) (xs : List X) → AllByRecursion (λ x. AllByRecursion Q (f x)) xs → AllByRecursion Q (flat_map f xs)
all_joined Q f [] all = tt
all_joined Q f (x ∷ xs) all = all_append Q (f x) (flat_map f xs) all.0 (all_joined Q f xs all.1)

-- what is lent, by message
pub hand_apart : (s : ℕ) (Q : WireRep → Type 0) (W : Outstanding) → AllByRecursion Q (lent_in s W) → AllOutstanding (λ m. AllByRecursion Q (loans_of s m)) W
hand_apart s Q W all =
    let one = all_split Q (flat_map (loans_of s) W.waiting) _ all in
    let two = all_split Q (flat_map (loans_of s) W.ready) _ one.1 in
    let three = all_split Q (flat_map (λ run. loans_of s run.message) W.running) _ two.1 in
    record {
      waiting = all_apart Q (loans_of s) W.waiting one.0;
      ready = all_apart Q (loans_of s) W.ready two.0;
      running = all_apart Q (λ (run : Run). loans_of s run.message) W.running three.0;
      replies = all_apart Q (loans_of s) W.replies three.1;
    }

pub hand_joined : (s : ℕ) (Q : WireRep → Type 0) (W : Outstanding) → AllOutstanding (λ m. AllByRecursion Q (loans_of s m)) W → AllByRecursion Q (lent_in s W)
hand_joined s Q W all =
    all_append Q (flat_map (loans_of s) W.waiting) _ (all_joined Q (loans_of s) W.waiting all.waiting)
    (all_append Q (flat_map (loans_of s) W.ready) _ (all_joined Q (loans_of s) W.ready all.ready)
    (all_append Q (flat_map (λ run. loans_of s run.message) W.running) _ (all_joined Q (λ (run : Run). loans_of s run.message) W.running all.running) (all_joined Q (loans_of s) W.replies all.replies)))

-- ---- what is lent

-- what a message has lent is own or granted
abbrev pub LendsOwned : (s n : ℕ) → List Deed → Message → Type 0
LendsOwned s n D m = AllByRecursion (λ (copy : RefCopy). copy.loan ≡ loans.Lent → is_owned s n copy.rep D ≡ true) m.copies

-- a loan that is made is counted
lent_is : (loan : Loan) → loan ≡ loans.Lent → is_lent loan ≡ true
lent_is loan e = ap is_lent e

is_lent_then : (loan : Loan) → is_lent loan ≡ true → loan ≡ loans.Lent
is_lent_then loans.Due e = cc
is_lent_then loans.Lent e = refl
is_lent_then loans.Never e = cc

copies_if : (Q : WireRep → Type 0) (b : Bool) (copy : RefCopy) (kept : List RefCopy) → is_lent copy.loan ≡ b → AllByRecursion Q (map (λ c. c.rep) (cond b (copy ∷ kept) kept)) → (copy.loan ≡ loans.Lent → Q copy.rep) × AllByRecursion Q (map (λ c. c.rep) kept)
copies_if Q true copy kept is all = (λ lent. all.0, all.1)
copies_if Q false copy kept is all = (λ lent. absurd (let clash : true ≡ false = sym (lent_is copy.loan lent) ∙ is in cc), all)

-- what holds of all that copies lend, and the other way
pub copies_apart : (Q : WireRep → Type 0) (copies : List RefCopy) → AllByRecursion Q (copies_lent copies) → AllByRecursion (λ (copy : RefCopy). copy.loan ≡ loans.Lent → Q copy.rep) copies
copies_apart Q [] all = tt
copies_apart Q (copy ∷ copies) all = let parts = copies_if Q (is_lent copy.loan) copy (filter (λ c. is_lent c.loan) copies) refl all in (parts.0, copies_apart Q copies parts.1)

join_if : (Q : WireRep → Type 0) (b : Bool) (copy : RefCopy) (kept : List RefCopy) → is_lent copy.loan ≡ b → (copy.loan ≡ loans.Lent → Q copy.rep) → AllByRecursion Q (map (λ c. c.rep) kept) → AllByRecursion Q (map (λ c. c.rep) (cond b (copy ∷ kept) kept))
join_if Q true copy kept is own rest = (own (is_lent_then copy.loan is), rest)
join_if Q false copy kept is own rest = rest

pub copies_joined : (Q : WireRep → Type 0) (copies : List RefCopy) → AllByRecursion (λ (copy : RefCopy). copy.loan ≡ loans.Lent → Q copy.rep) copies → AllByRecursion Q (copies_lent copies)
copies_joined Q [] all = tt
copies_joined Q (copy ∷ copies) all = join_if Q (is_lent copy.loan) copy (filter (λ c. is_lent c.loan) copies) refl all.0 (copies_joined Q copies all.1)

-- the target of a Call is own
target_owned : (s n : ℕ) (D : List Deed) (item : Item) → AllByRecursion (λ rep. is_owned s n rep D ≡ true) (target_lent s item)
target_owned s n D (items.Call call target method value) = elim (target == 0) as (λ b. AllByRecursion (λ rep. is_owned s n rep D ≡ true) (cond b [] (record { owner = s; index = target } ∷ []))) [ true ↦ tt | false ↦ (or_left _ _ (eq-eqb s s refl), tt) ]
target_owned s n D (items.Reply call status value) = tt
target_owned s n D (items.Settle item) = tt
target_owned s n D (items.Dirty index) = tt
target_owned s n D (items.DirtyOk index) = tt
target_owned s n D (items.DirtyNo index) = tt
target_owned s n D (items.Clean index) = tt

-- ---- what is held

-- how it stands at space s: what is lent and what is in the hand is own or granted
pub record HoldsOwned (s n : ℕ) (D : List Deed) : Type 0 where
  pub lent : AllOutstanding (LendsOwned s n D) (work s n D)
  pub in_the_hand : (rep : WireRep) → is_counted rep ≡ true → 1 ≤ hand rep D → is_owned s n rep D ≡ true

-- all that is lent is own or granted
lent_owned : (s n : ℕ) (D : List Deed) → AllOutstanding (LendsOwned s n D) (work s n D) → AllByRecursion (λ rep. is_owned s n rep D ≡ true) (lent_in s (work s n D))
lent_owned s n D all = hand_joined s (λ rep. is_owned s n rep D ≡ true) (work s n D) (hand_weaker (LendsOwned s n D) (λ m. AllByRecursion (λ rep. is_owned s n rep D ≡ true) (loans_of s m)) (λ m its. all_append (λ rep. is_owned s n rep D ≡ true) (target_lent s m.item) (copies_lent m.copies) (target_owned s n D m.item) (copies_joined (λ rep. is_owned s n rep D ≡ true) m.copies its)) (work s n D) all)

pub either_some : (a b total : ℕ) → total ≡ a + b → (total == 0) ≡ false → (1 ≤ a) ⊎ (1 ≤ b)
either_some a b total is some =
    elim (nat_le 1 a) as (λ (c : Bool). nat_le 1 a ≡ c → (1 ≤ a) ⊎ (1 ≤ b)) [
      | true ↦ λ e. inl (leb-true 1 a e)
      | false ↦ λ e. inr (let few = leb-false 1 a e in let more : total ≡ 0 → ⊥ = eqb-false total 0 some in above b (λ none. more (omega (arith, is, few, none))))
    ] refl
  where
    above : (b : ℕ) → (b ≡ 0 → ⊥) → 1 ≤ b
    above b some = omega (arith, some)

-- what is held is own or granted
pub held_owned : (s n : ℕ) (limits : Limits) (rep : WireRep) (D : List Deed) → AreRightDeeds s n limits D → HoldsOwned s n D → is_counted rep ≡ true → is_held s rep (history_of s n D) ≡ true → is_owned s n rep D ≡ true
held_owned s n limits rep D right all counted held =
    elim (either_some (hand rep D) (times rep (lent_in s (work s n D))) (holds s rep (history_of s n D)) (holds_law s n limits D right rep) (not-true _ held)) [
      | inl some ↦ all.in_the_hand rep counted some
      | inr some ↦ times_some (λ r. is_owned s n r D ≡ true) rep (lent_in s (work s n D)) (lent_owned s n D all.lent) some
    ]
