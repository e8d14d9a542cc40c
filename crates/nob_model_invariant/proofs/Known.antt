-- Each reference of a message that waits is the space's own, lost, or has a surrogate.
use Rattle.std.proofs.Common.{◌≡◌, ℕ, ◌≤◌, ◌&&◌, ◌||◌, not, Bool, true, false, cond, List, [], ◌∷◌, map, Option, Some, None, refl, sym, ap, subst, ◌∙◌}
use Rattle.std.specs.Prelude.{◌==◌}
use Rattle.std.specs.List.{AllByRecursion, list_any}
use Rattle.std.proofs.lemmas.Bool.{and_parts, or_left, or_right, both_ways, not-true}
use Rattle.nob_ids.specs.Names.{is_same}
use Rattle.nob_ids.specs.declared.limits.Limits.{Limits}
use Rattle.nob_ids.specs.declared.wire_rep.WireRep.{WireRep}
use Rattle.nob_item.specs.Kinds.{counted_in}
use Rattle.nob_item.specs.declared.item.Item.{Item}
use Rattle.nob_item.specs.declared.item.Item.TheVariants as items
use Rattle.nob_model_types.specs.declared.deed.Deed.{Deed}
use Rattle.nob_model_types.specs.declared.deed.Deed.TheVariants as did
use Rattle.nob_model_types.specs.declared.turns.Turns.{Turns}
use Rattle.nob_model_types.specs.declared.turns.OwnerAnswer.TheVariants as said
use Rattle.nob_model_types.specs.declared.message.Loan.{Loan}
use Rattle.nob_model_types.specs.declared.message.Loan.TheVariants as loans
use Rattle.nob_model_types.specs.declared.message.Message.{Message}
use Rattle.nob_model_types.specs.declared.message.RefCopy.{RefCopy}
use Rattle.nob_model_types.specs.Sessions.{is_peer, closed, item_at}
use Rattle.nob_model_types.specs.Turns.{no_turns, turns, turns_after, is_own, is_usable, is_lost, is_refused, is_standing, with_dirty, with_answer, with_clean, wants_dirty, names, carries}
use Rattle.nob_model_types.specs.Messages.{new_message, new_copy, loan_after, copy_after, message_after}
use Rattle.nob_model_work.specs.Work.{work}
use Rattle.nob_model_history.specs.declared.history.History.{History}
use Rattle.nob_model_history.specs.Histories.{history_of}
use Rattle.nob_model_history.specs.Holds.{times, is_held, lent_in, target_lent, copies_lent, loans_of}
use Rattle.nob_model_history.specs.Premises.{TookTurns, AnswersPending}
use Rattle.nob_model_history.specs.Transit.{is_idle, by_last_dirty}
use Rattle.nob_model_history.proofs.Dirtying.{same_self}
use Rattle.nob_model_history.proofs.Turning.{shapes, after_answer, same_ref, wanted_none}
use Rattle.nob_model_history.proofs.Sessions.{opens}
use Rattle.nob_model.specs.Right.{right_after}
use Rattle.nob_model.specs.Lists.{IsRightDeed, AreRightDeeds}
use Rattle.nob_model.proofs.Accepted.{clean_tells, found_passes}
use Rattle.nob_model.proofs.Doing.{was_answered}
use Rattle.nob_model.proofs.Lending.{NeverLost, all_lent, lost_stays}
use Rattle.nob_model.proofs.Made.{all_fixed, work_fixed}
use Rattle.nob_model.proofs.Premises.{took_turns}
use Rattle.nob_model.proofs.Reopening.{open_uncarried}
use Rattle.nob_model.proofs.Waiting.{all_weaker}
use Rattle.nob_model_holdings.proofs.Granted.{gives_up, kept_unopened, all_stand, hand_apart, copies_apart}
use Rattle.nob_model_holdings.proofs.Holdings.{lent_held}
use Rattle.nob_model_holdings.proofs.Lists.{all_split}
use Rattle.nob_model_invariant.proofs.Settling.{waits_more}
use Rattle.nob_model_invariant.specs.LossInvariant.{is_known}
use Rattle.nob_model_invariant.proofs.Standing.{granted_stands, refused_stands, answered_pending, was_idle}

-- ---- what stands goes on standing until it is given up

not_turned : (b : Bool) (t after : Turns) → (b ≡ true → ⊥) → is_standing t ≡ true → is_standing (cond b after t) ≡ true
not_turned true t after never is = absurd (never refl)
not_turned false t after never is = is

turned_standing : (b : Bool) (t after : Turns) → (b ≡ true → is_standing after ≡ true) → is_standing t ≡ true → is_standing (cond b after t) ≡ true
turned_standing true t after then is = then refl
turned_standing false t after then is = is

not_wanted : (s n : ℕ) (rep : WireRep) (D : List Deed) (t : Turns) → is_standing t ≡ true → (carried : Bool) → (carried && wants_dirty s n rep D t) ≡ true → ⊥
not_wanted s n rep D t is carried both = both_ways (is_standing t) (wanted_none s n rep D t (and_parts carried _ both).1) is

item_standing : (s n p : ℕ) (rep : WireRep) (found : Option Item) (D : List Deed) → AnswersPending s n p found D → is_standing (turns s n rep D) ≡ true → is_standing (turns_after s n p rep found D (turns s n rep D)) ≡ true
item_standing s n p rep None D answers is = is
item_standing s n p rep (Some (items.Call call target method value)) D answers is = not_turned (carries rep (items.Call call target method value) && wants_dirty s n rep D (turns s n rep D)) (turns s n rep D) (with_dirty (turns s n rep D)) (not_wanted s n rep D (turns s n rep D) is (carries rep (items.Call call target method value))) is
item_standing s n p rep (Some (items.Reply call status value)) D answers is = not_turned (carries rep (items.Reply call status value) && wants_dirty s n rep D (turns s n rep D)) (turns s n rep D) (with_dirty (turns s n rep D)) (not_wanted s n rep D (turns s n rep D) is (carries rep (items.Reply call status value))) is
item_standing s n p rep (Some (items.Settle item)) D answers is = is
item_standing s n p rep (Some (items.Dirty index)) D answers is = is
item_standing s n p rep (Some (items.DirtyOk index)) D answers is = turned_standing (names rep p index) (turns s n rep D) (with_answer said.Granted (turns s n rep D)) (λ named. granted_stands (with_answer said.Granted (turns s n rep D)) (after_answer said.Granted (turns s n rep D) (answered_pending s n p index rep D answers named)).1) is
item_standing s n p rep (Some (items.DirtyNo index)) D answers is = turned_standing (names rep p index) (turns s n rep D) (with_answer said.Refused (turns s n rep D)) (λ named. refused_stands (with_answer said.Refused (turns s n rep D)) (after_answer said.Refused (turns s n rep D) (answered_pending s n p index rep D answers named)).2) is
item_standing s n p rep (Some (items.Clean index)) D answers is = is

standing_on : (s n : ℕ) (rep : WireRep) (deed : Deed) (D : List Deed) → TookTurns s n (deed ∷ D) → gives_up rep deed ≡ false → is_standing (turns s n rep D) ≡ true → is_standing (turns s n rep (deed ∷ D)) ≡ true
standing_on s n rep (did.Act p k) D took kept is = item_standing s n p rep (item_at p k D) D took.0 is
standing_on s n rep (did.Clean other) D took kept is = not_turned (is_same rep other) (turns s n rep D) (with_clean (turns s n rep D)) (λ given. both_ways (is_same rep other) kept given) is
standing_on s n rep (did.Open q k) D took kept is = ap (λ (b : Bool). is_standing (cond b no_turns (turns s n rep D))) kept ∙ is
standing_on s n rep deed D took kept is = is

known_by : (own lost stands lost_now stands_now : Bool) → (lost ≡ true → lost_now ≡ true) → (stands ≡ true → stands_now ≡ true) → (own || (lost || stands)) ≡ true → (own || (lost_now || stands_now)) ≡ true
known_by true lost stands lost_now stands_now f g is = refl
known_by false true stands lost_now stands_now f g is = or_left lost_now stands_now (f refl)
known_by false false stands lost_now stands_now f g is = or_right lost_now stands_now (g is)

-- so what is known stays known until it is given up
known_on : (s n : ℕ) (rep : WireRep) (deed : Deed) (D : List Deed) → TookTurns s n (deed ∷ D) → gives_up rep deed ≡ false → is_known s n rep D ≡ true → is_known s n rep (deed ∷ D) ≡ true
known_on s n rep deed D took kept is = known_by (is_own s rep) (is_lost s n rep D) (is_standing (turns s n rep D)) (is_lost s n rep (deed ∷ D)) (is_standing (turns s n rep (deed ∷ D))) (lost_stays s n rep deed D took (kept_unopened rep deed kept)) (standing_on s n rep deed D took kept) is

-- ---- what a message that waits carries isn't given up

-- what a Clean gives up could be used and isn't held
given_idle : (s n : ℕ) (limits : Limits) (rep : WireRep) (deed : Deed) (D : List Deed) → IsRightDeed s n limits deed D → opens rep.owner deed ≡ false → gives_up rep deed ≡ true → (is_usable s n rep D ≡ true) × (is_held s rep (history_of s n D) ≡ false)
unfolding right_after
given_idle s n limits rep (did.Clean other) D right same gives =
    let h : History = history_of s n D in
    let idle = found_passes (is_idle s n h) (by_last_dirty h) other (clean_tells s n other h (was_answered s n limits (did.Clean other) D right)).0 in
    let parts = and_parts (is_usable s n other D) (not (is_held s other h)) (and_parts (is_usable s n other D && not (is_held s other h)) _ idle).0 in
    subst (λ (r : WireRep). (is_usable s n r D ≡ true) × (is_held s r h ≡ false)) (sym (same_ref rep other gives)) (parts.0, not-true _ parts.1)
given_idle s n limits rep (did.Open q k) D right same gives = absurd (both_ways (q == rep.owner) same gives)
given_idle s n limits rep deed D right same gives = cc

-- what is known of a copy in a message that waits
pub record IsHeldCopy (s n : ℕ) (D : List Deed) (copy : RefCopy) : Type 0 where
  pub known : is_known s n copy.rep D ≡ true
  pub lent : copy.loan ≡ loans.Lent → 1 ≤ times copy.rep (lent_in s (work s n D))
  pub never : copy.loan ≡ loans.Never → is_lost s n copy.rep D ≡ true
  pub fixed : loan_after (is_own s copy.rep || is_usable s n copy.rep D) copy.loan ≡ copy.loan

due_lent : loans.Lent ≡ loans.Due → ⊥
due_lent e = cc

copy_known_on : (s n : ℕ) (limits : Limits) (deed : Deed) (D : List Deed) → AreRightDeeds s n limits (deed ∷ D) → (copy : RefCopy) → opens copy.rep.owner deed ≡ false → IsHeldCopy s n D copy → is_known s n copy.rep (deed ∷ D) ≡ true
copy_known_on s n limits deed D right copy same its = by copy.loan refl
  where
    took : TookTurns s n (deed ∷ D)
    took = took_turns s n limits (deed ∷ D) right

    due : copy.loan ≡ loans.Due → gives_up copy.rep deed ≡ true → ⊥
    due is gives =
        let usable : (is_own s copy.rep || is_usable s n copy.rep D) ≡ true = or_right (is_own s copy.rep) (is_usable s n copy.rep D) (given_idle s n limits copy.rep deed D right.0 same gives).0 in
        due_lent (ap (λ (b : Bool). loan_after b loans.Due) (sym usable) ∙ ap (loan_after (is_own s copy.rep || is_usable s n copy.rep D)) (sym is) ∙ its.fixed ∙ is)

    unless : copy.loan ≡ loans.Due → (b : Bool) → gives_up copy.rep deed ≡ b → is_known s n copy.rep (deed ∷ D) ≡ true
    unless is true gives = absurd (due is gives)
    unless is false kept = known_on s n copy.rep deed D took kept its.known

    unless_held : is_held s copy.rep (history_of s n D) ≡ true → (b : Bool) → gives_up copy.rep deed ≡ b → is_known s n copy.rep (deed ∷ D) ≡ true
    unless_held held true gives = absurd (both_ways (is_held s copy.rep (history_of s n D)) (given_idle s n limits copy.rep deed D right.0 same gives).1 held)
    unless_held held false kept = known_on s n copy.rep deed D took kept its.known

    by : (loan : Loan) → copy.loan ≡ loan → is_known s n copy.rep (deed ∷ D) ≡ true
    by loans.Due is = unless is (gives_up copy.rep deed) refl
    by loans.Lent is = unless_held (lent_held s n limits copy.rep D right.1 (its.lent is)) (gives_up copy.rep deed) refl
    by loans.Never is = or_right (is_own s copy.rep) _ (or_left (is_lost s n copy.rep (deed ∷ D)) _ (lost_stays s n copy.rep deed D took same (its.never is)))

-- ---- the messages that wait

-- all references of a message are known
abbrev pub IsKnown : (s n : ℕ) → List Deed → Message → Type 0
IsKnown s n D m = AllByRecursion (λ (copy : RefCopy). is_known s n copy.rep D ≡ true) m.copies

known_kept : (s n : ℕ) (D E : List Deed) (m : Message) → IsKnown s n E m → IsKnown s n E (message_after s n D m)
unfolding message_after copy_after
known_kept s n D E m all = those m.copies all
  where
    those : (its : List RefCopy) → AllByRecursion (λ (copy : RefCopy). is_known s n copy.rep E ≡ true) its → AllByRecursion (λ (copy : RefCopy). is_known s n copy.rep E ≡ true) (map (λ copy. copy_after s n D copy) its)
    those [] all = tt
    those (copy ∷ its) all = (all.0, those its all.1)

-- the loans of a message that waits are made
loans_fixed : (s n : ℕ) (D : List Deed) (m : Message) → message_after s n D m ≡ m → AllByRecursion (λ (copy : RefCopy). loan_after (is_own s copy.rep || is_usable s n copy.rep D) copy.loan ≡ copy.loan) m.copies
unfolding message_after copy_after
loans_fixed s n D m same =
    all_weaker (λ (copy : RefCopy). copy_after s n D copy ≡ copy) (λ (copy : RefCopy). loan_after (is_own s copy.rep || is_usable s n copy.rep D) copy.loan ≡ copy.loan) (λ copy fixed. ap (λ (c : RefCopy). c.loan) fixed) m.copies
    (all_fixed (λ copy. copy_after s n D copy) m.copies (ap (λ (o : Message). o.copies) same))

-- what is lent by messages that wait is counted
waiting_lent : (s n : ℕ) (D : List Deed) → AllByRecursion (λ (m : Message). AllByRecursion (λ (copy : RefCopy). copy.loan ≡ loans.Lent → 1 ≤ times copy.rep (lent_in s (work s n D))) m.copies) (work s n D).waiting
waiting_lent s n D =
    let Q : WireRep → Type 0 = λ rep. 1 ≤ times rep (lent_in s (work s n D)) in
    all_weaker (λ (m : Message). AllByRecursion Q (loans_of s m)) (λ (m : Message). AllByRecursion (λ (copy : RefCopy). copy.loan ≡ loans.Lent → Q copy.rep) m.copies)
    (λ m all. copies_apart Q m.copies (all_split Q (target_lent s m.item) (copies_lent m.copies) all).1) (work s n D).waiting
    (hand_apart s Q (work s n D) (all_stand (lent_in s (work s n D)))).waiting

-- ---- no session is opened anew with the owner of what waits

-- a deed opens no session anew with the owner of a reference of a message
abbrev NotOpened : Deed → Message → Type 0
NotOpened deed m = AllByRecursion (λ (copy : RefCopy). opens copy.rep.owner deed ≡ false) m.copies

never_opened : (deed : Deed) → ((p : ℕ) → opens p deed ≡ false) → (ms : List Message) → AllByRecursion (NotOpened deed) ms
never_opened deed never [] = tt
never_opened deed never (m ∷ ms) = (those m.copies, never_opened deed never ms)
  where
    those : (its : List RefCopy) → AllByRecursion (λ (copy : RefCopy). opens copy.rep.owner deed ≡ false) its
    those [] = tt
    those (copy ∷ its) = (never copy.rep.owner, those its)

none_opened : (s n : ℕ) (limits : Limits) (deed : Deed) (D : List Deed) → IsRightDeed s n limits deed D → AllByRecursion (NotOpened deed) (work s n D).waiting
none_opened s n limits (did.Open q k) D right = open_uncarried s n limits q k D right
none_opened s n limits deed D right = never_opened deed (λ p. refl) (work s n D).waiting

message_known_on : (s n : ℕ) (limits : Limits) (deed : Deed) (D : List Deed) → AreRightDeeds s n limits (deed ∷ D) → (its : List RefCopy)
    → AllByRecursion (λ (copy : RefCopy). opens copy.rep.owner deed ≡ false) its
    → AllByRecursion (λ (copy : RefCopy). is_known s n copy.rep D ≡ true) its
    → AllByRecursion (λ (copy : RefCopy). copy.loan ≡ loans.Lent → 1 ≤ times copy.rep (lent_in s (work s n D))) its
    → AllByRecursion (λ (copy : RefCopy). copy.loan ≡ loans.Never → is_lost s n copy.rep D ≡ true) its
    → AllByRecursion (λ (copy : RefCopy). loan_after (is_own s copy.rep || is_usable s n copy.rep D) copy.loan ≡ copy.loan) its
    → AllByRecursion (λ (copy : RefCopy). is_known s n copy.rep (deed ∷ D) ≡ true) its
message_known_on s n limits deed D right [] same known lent never fixed = tt
message_known_on s n limits deed D right (copy ∷ its) same known lent never fixed =
    (copy_known_on s n limits deed D right copy same.0 (record { known = known.0; lent = lent.0; never = never.0; fixed = fixed.0 }), message_known_on s n limits deed D right its same.1 known.1 lent.1 never.1 fixed.1)

all_known_on : (s n : ℕ) (limits : Limits) (deed : Deed) (D : List Deed) → AreRightDeeds s n limits (deed ∷ D) → (ms : List Message)
    → AllByRecursion (NotOpened deed) ms
    → AllByRecursion (IsKnown s n D) ms
    → AllByRecursion (λ (m : Message). AllByRecursion (λ (copy : RefCopy). copy.loan ≡ loans.Lent → 1 ≤ times copy.rep (lent_in s (work s n D))) m.copies) ms
    → AllByRecursion (NeverLost s n D) ms
    → AllByRecursion (λ (m : Message). message_after s n D m ≡ m) ms
    → AllByRecursion (IsKnown s n (deed ∷ D)) ms
all_known_on s n limits deed D right [] same known lent never fixed = tt
all_known_on s n limits deed D right (m ∷ ms) same known lent never fixed =
    (message_known_on s n limits deed D right m.copies same.0 known.0 lent.0 never.0 (loans_fixed s n D m fixed.0), all_known_on s n limits deed D right ms same.1 known.1 lent.1 never.1 fixed.1)

-- ---- the message that comes

lost_by : (own peer shut refused stands : Bool) → own ≡ false → stands ≡ false → (peer && not shut && not stands) ≡ false → (not own && (not peer || shut || refused)) ≡ true
lost_by true peer shut refused stands a b c = absurd (both_ways true a refl)
lost_by false false shut refused stands a b c = refl
lost_by false true true refused stands a b c = refl
lost_by false true false refused true a b c = absurd (both_ways true b refl)
lost_by false true false refused false a b c = absurd (both_ways true c refl)

carried_wants : (carried wanted : Bool) → carried ≡ true → (carried && wanted) ≡ false → wanted ≡ false
carried_wants true wanted is none = none
carried_wants false wanted is none = cc

-- what an item carries is known once it is acted on
carried_known : (s n : ℕ) (limits : Limits) (p k : ℕ) (item : Item) (rep : WireRep) (D : List Deed) → AreRightDeeds s n limits (did.Act p k ∷ D) → item_at p k D ≡ Some item → carries rep item ≡ true → is_known s n rep (did.Act p k ∷ D) ≡ true
carried_known s n limits p k item rep D right is carried = by (is_own s rep) refl (is_standing (turns s n rep (did.Act p k ∷ D))) refl
  where
    took : TookTurns s n (did.Act p k ∷ D)
    took = took_turns s n limits (did.Act p k ∷ D) right

    lost : is_own s rep ≡ false → is_standing (turns s n rep (did.Act p k ∷ D)) ≡ false → is_lost s n rep (did.Act p k ∷ D) ≡ true
    lost away idle =
        let answers : AnswersPending s n p (Some item) D = subst (λ (one : Option Item). AnswersPending s n p one D) is took.0 in
        let after : is_standing (turns_after s n p rep (Some item) D (turns s n rep D)) ≡ false = ap (λ (one : Option Item). is_standing (turns_after s n p rep one D (turns s n rep D))) (sym is) ∙ idle in
        let was = was_idle s n p rep (Some item) D answers (shapes s n rep D took.1) after in
        lost_by (is_own s rep) (is_peer s n rep.owner) (closed rep.owner D) (is_refused (turns s n rep (did.Act p k ∷ D))) (is_standing (turns s n rep D)) away was.0 (carried_wants (carries rep item) (wants_dirty s n rep D (turns s n rep D)) carried was.1)

    by : (own : Bool) → is_own s rep ≡ own → (stands : Bool) → is_standing (turns s n rep (did.Act p k ∷ D)) ≡ stands → is_known s n rep (did.Act p k ∷ D) ≡ true
    by true own stands is_so = or_left (is_own s rep) _ own
    by false own true stands = or_right (is_own s rep) _ (or_right (is_lost s n rep (did.Act p k ∷ D)) _ stands)
    by false own false idle = or_right (is_own s rep) _ (or_left (is_lost s n rep (did.Act p k ∷ D)) _ (lost own idle))

-- each reference of a list stands in it
all_there : (reps : List WireRep) → AllByRecursion (λ rep. list_any (is_same rep) reps ≡ true) reps
all_there [] = tt
all_there (rep ∷ reps) = (or_left (is_same rep rep) _ (same_self rep), all_weaker (λ r. list_any (is_same r) reps ≡ true) (λ r. list_any (is_same r) (rep ∷ reps) ≡ true) (λ r there. or_right (is_same r rep) _ there) reps (all_there reps))

new_known : (s n : ℕ) (limits : Limits) (p k : ℕ) (item : Item) (D : List Deed) → AreRightDeeds s n limits (did.Act p k ∷ D) → item_at p k D ≡ Some item → IsKnown s n (did.Act p k ∷ D) (new_message s n p k item (did.Act p k ∷ D))
unfolding new_copy
new_known s n limits p k item D right is = those (counted_in item) (all_there (counted_in item))
  where
    those : (reps : List WireRep) → AllByRecursion (λ rep. carries rep item ≡ true) reps → AllByRecursion (λ (copy : RefCopy). is_known s n copy.rep (did.Act p k ∷ D) ≡ true) (map (λ rep. new_copy s n (did.Act p k ∷ D) rep) reps)
    those [] all = tt
    those (rep ∷ reps) all = (carried_known s n limits p k item rep D right is all.0, those reps all.1)

-- in every list of right deeds the references of messages that wait are known
pub all_known : (s n : ℕ) (limits : Limits) (D : List Deed) → AreRightDeeds s n limits D → AllByRecursion (IsKnown s n D) (work s n D).waiting
all_known s n limits [] right = tt
all_known s n limits (deed ∷ D) right =
    waits_more (IsKnown s n (deed ∷ D)) s n deed D (known_kept s n (deed ∷ D) (deed ∷ D))
    (λ p k item is found some. subst (λ (one : Deed). IsKnown s n (one ∷ D) (new_message s n p k item (did.Act p k ∷ D))) (sym is) (new_known s n limits p k item D (subst (λ (one : Deed). AreRightDeeds s n limits (one ∷ D)) is right) found))
    (all_known_on s n limits deed D right (work s n D).waiting (none_opened s n limits deed D right.0) (all_known s n limits D right.1) (waiting_lent s n D) (all_lent s n limits D right.1).never (work_fixed s n D).waiting)
