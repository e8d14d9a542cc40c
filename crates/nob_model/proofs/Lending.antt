-- On lists of right deeds each message that waits has a number of its own, and what is ready has lent all its
-- references.
use Rattle.std.proofs.Common.{◌≡◌, ℕ, ◌+◌, ◌≤◌, Bool, true, false, not, ◌&&◌, ◌||◌, cond, List, [], ◌∷◌, ◌++◌, map, filter, find, Option, Some, None, Ok, if◌then◌else◌, refl, sym, ap, subst, ◌∙◌, arith}
use Rattle.std.specs.Prelude.{⊤, ◌==◌}
use Rattle.std.specs.List.{AllByRecursion, list_any, list_all}
use Rattle.std.proofs.lemmas.Bool.{and_parts, or_parts, or_left, or_right, eqb-true, ne_eqb}
use Rattle.std.proofs.lemmas.Cmp.{nat_eq_equiv}
use Rattle.nob_ids.specs.Names.{is_same}
use Rattle.nob_ids.specs.declared.limits.Limits.{Limits}
use Rattle.nob_ids.specs.declared.wire_rep.WireRep.{WireRep}
use Rattle.nob_item.specs.Kinds.{counted_in}
use Rattle.nob_item.specs.declared.item.Item.{Item}
use Rattle.nob_item.specs.declared.item.Item.TheVariants as items
use Rattle.nob_model_session.specs.End.{takes, waiting}
use Rattle.nob_model_session.specs.Right.{first_of, right_front}
use Rattle.nob_model_session.specs.declared.entry.Arrived.TheVariants as arrived
use Rattle.nob_model_session.specs.declared.entry.EndEntry.{EndEntry}
use Rattle.nob_model_session.specs.declared.entry.EndEntry.TheVariants as ends
use Rattle.nob_model_types.specs.declared.answer.Job.{Job}
use Rattle.nob_model_types.specs.declared.deed.Deed.{Deed}
use Rattle.nob_model_types.specs.declared.deed.Deed.TheVariants.{Call, TakeReply, TakeEnd, Claim, Finish, DropReply, Act, Settle, Clean, Transmit, Arrive, Tick, Closing, Open}
use Rattle.nob_model_types.specs.declared.deed.Cause.{Cause}
use Rattle.nob_model_types.specs.declared.deed.Cause.TheVariants as causes
use Rattle.nob_model_types.specs.declared.turns.OwnerAnswer.{OwnerAnswer}
use Rattle.nob_model_types.specs.declared.turns.OwnerAnswer.TheVariants as said
use Rattle.nob_model_types.specs.declared.turns.Turns.{Turns}
use Rattle.nob_model_types.specs.declared.message.Loan.{Loan}
use Rattle.nob_model_types.specs.declared.message.Loan.TheVariants as loans
use Rattle.nob_model_types.specs.declared.message.RefCopy.{RefCopy}
use Rattle.nob_model_types.specs.declared.message.Message.{Message}
use Rattle.nob_model_types.specs.Sessions.{item_at, closed, is_peer}
use Rattle.nob_model_types.specs.Turns.{no_turns, turns, turns_after, is_own, is_usable, is_lost, is_resolved, is_granted, is_refused, is_pending, is_yes, is_no, wants_dirty, names, carries}
use Rattle.nob_model_types.specs.Messages.{new_message, new_copy, loan_after, copy_after, message_after, is_of, is_not_from, is_job, is_lost_message}
use Rattle.nob_model_work.specs.declared.work.Outstanding.{Outstanding}
use Rattle.nob_model_work.specs.declared.work.OwnCall.{OwnCall}
use Rattle.nob_model_work.specs.declared.work.Run.{Run}
use Rattle.nob_model_work.specs.Work.{wait, make_ready, make_reply, with_calls, call_after_reply, work, work_after, with_loans, run_after, without_first, is_none_of, lost_reply, is_run, is_not_reply, after_message, after_act, after_settlement, after_settle, after_claim, after_finish, after_take, after_end, after_call, after_close, without_waiting}
use Rattle.nob_model_work.specs.Gifts.{gifts}
use Rattle.nob_model_history.specs.Histories.{history_of}
use Rattle.nob_model_history.specs.Ends.{calls_at, own_calls, with_sends, items_to, call_of_closing}
use Rattle.nob_model_history.proofs.Sessions.{opens}
use Rattle.nob_model_history.proofs.Turning.{same_ref, wanted_none}
use Rattle.nob_model_history.specs.Premises.{TookTurns, AnswersPending}
use Rattle.nob_model_acting.specs.Candidates.{is_all_resolved, to_settle}
use Rattle.nob_model.specs.Right.{right_after}
use Rattle.nob_model.specs.Lists.{IsRightDeed, AreRightDeeds}
use Rattle.nob_model.proofs.Accepted.{act_tells, settle_tells, found_passes}
use Rattle.nob_model.proofs.Carrying.{all_push, all_filter, all_without, all_found, all_mapped}
use Rattle.nob_model.proofs.Doing.{was_answered}
use Rattle.nob_model.proofs.Made.{work_fixed}
use Rattle.nob_model.proofs.Reopening.{open_other, open_uncarried}
use Rattle.nob_model.proofs.Premises.{took_turns}
use Rattle.nob_model.proofs.Waiting.{IsOpenIn, are_waiting}

nothing : {A : Type 0} (x : A) → None ≡ Some x → ⊥
nothing x e = cc

some_same : {A : Type 0} (x y : A) → Some x ≡ Some y → x ≡ y
some_same x y e = cc

named_ref : (rep : WireRep) (p index : ℕ) → names rep p index ≡ true → record { owner = p; index = index } ≡ rep
named_ref rep p index named =
    let parts = and_parts (rep.owner == p) (rep.index == index) named in
    let owner : rep.owner ≡ p = eqb-true rep.owner p parts.0 in
    let number : rep.index ≡ index = eqb-true rep.index index parts.1 in
    sym (λ i. record { owner = owner i; index = number i })

-- ---- lost references stay lost

differ : {b : Bool} → b ≡ true → b ≡ false → ⊥
differ is isnt = (let clash : true ≡ false = sym is ∙ isnt in absurd (cc))

-- a closed session stays closed, unless it opens anew
closed_stays : (p : ℕ) (deed : Deed) (D : List Deed) → opens p deed ≡ false → closed p D ≡ true → closed p (deed ∷ D) ≡ true
closed_stays p (Closing q reason cause) D other is = or_right (q == p) (closed p D) is
closed_stays p (Open q k) D other is = ap (λ (b : Bool). cond b false (closed p D)) other ∙ is
closed_stays p (deed) D other is = is

-- what is refused is neither pending nor granted
refused_not_pending : (t : Turns) → is_refused t ≡ true → is_pending t ≡ true → ⊥
refused_not_pending t refused pending =
    let answered = (and_parts t.asks (t.answers == t.dirties) (and_parts (t.asks && t.answers == t.dirties) (is_no t.last) refused).0).1 in
    let waits = (and_parts t.asks (t.answers + 1 == t.dirties) pending).1 in
    let same : t.answers ≡ t.dirties = eqb-true _ _ answered in
    let fewer : t.answers + 1 ≡ t.dirties = eqb-true _ _ waits in
    omega (arith, same, fewer)

refused_not_granted : (t : Turns) → is_refused t ≡ true → is_granted t ≡ true → ⊥
refused_not_granted t refused granted = both t.last (and_parts (t.asks && t.answers == t.dirties) (is_no t.last) refused).1 (and_parts (t.asks && t.answers == t.dirties) (is_yes t.last) granted).1
  where
    both : (last : OwnerAnswer) → is_no last ≡ true → is_yes last ≡ true → ⊥
    both said.Pending denied given = (let clash : false ≡ true = denied in absurd (cc))
    both said.Granted denied given = (let clash : false ≡ true = denied in absurd (cc))
    both said.Refused denied given = (let clash : false ≡ true = given in absurd (cc))

-- a turn that isn't taken
not_turned : (b : Bool) (t after : Turns) → (b ≡ true → ⊥) → is_refused t ≡ true → is_refused (cond b after t) ≡ true
not_turned true t after never is = absurd (never refl)
not_turned false t after never is = is

-- what stands isn't asked for again
refused_not_wanted : (s n : ℕ) (rep : WireRep) (D : List Deed) (t : Turns) → is_refused t ≡ true → (carried : Bool) → (carried && wants_dirty s n rep D t) ≡ true → ⊥
refused_not_wanted s n rep D t refused carried wanted = differ (or_right (is_pending t || is_granted t) (is_refused t) refused) (wanted_none s n rep D t (and_parts carried _ wanted).1)

-- a refused reference stays refused
refused_turned : (s n p : ℕ) (rep : WireRep) (item : Option Item) (D : List Deed) → AnswersPending s n p item D → is_refused (turns s n rep D) ≡ true → is_refused (turns_after s n p rep item D (turns s n rep D)) ≡ true
refused_turned s n p rep None D answers is = is
refused_turned s n p rep (Some (items.Call call target method value)) D answers is = not_turned (carries rep (items.Call call target method value) && wants_dirty s n rep D (turns s n rep D)) (turns s n rep D) _ (refused_not_wanted s n rep D (turns s n rep D) is _) is
refused_turned s n p rep (Some (items.Reply call status value)) D answers is = not_turned (carries rep (items.Reply call status value) && wants_dirty s n rep D (turns s n rep D)) (turns s n rep D) _ (refused_not_wanted s n rep D (turns s n rep D) is _) is
refused_turned s n p rep (Some (items.DirtyOk index)) D answers is = not_turned (names rep p index) (turns s n rep D) _ (λ named. refused_not_pending (turns s n rep D) is (subst (λ (r : WireRep). is_pending (turns s n r D) ≡ true) (named_ref rep p index named) answers)) is
refused_turned s n p rep (Some (items.DirtyNo index)) D answers is = not_turned (names rep p index) (turns s n rep D) _ (λ named. refused_not_pending (turns s n rep D) is (subst (λ (r : WireRep). is_pending (turns s n r D) ≡ true) (named_ref rep p index named) answers)) is
refused_turned s n p rep (Some (items.Settle item)) D answers is = is
refused_turned s n p rep (Some (items.Dirty index)) D answers is = is
refused_turned s n p rep (Some (items.Clean index)) D answers is = is

refused_stays : (s n : ℕ) (rep : WireRep) (deed : Deed) (D : List Deed) → TookTurns s n (deed ∷ D) → opens rep.owner deed ≡ false → is_refused (turns s n rep D) ≡ true → is_refused (turns s n rep (deed ∷ D)) ≡ true
refused_stays s n rep (Act p k) D took other is = refused_turned s n p rep (item_at p k D) D took.0 is
refused_stays s n rep (Clean other) D took same_session is = not_turned (is_same rep other) (turns s n rep D) _ (λ same. refused_not_granted (turns s n rep D) is (subst (λ (r : WireRep). is_granted (turns s n r D) ≡ true) (sym (same_ref rep other same)) took.0)) is
refused_stays s n rep (Open q k) D took other is = ap (λ (b : Bool). is_refused (cond b no_turns (turns s n rep D))) other ∙ is
refused_stays s n rep (deed) D took other is = is

lost_by : (own peer closed refused closed_then refused_then : Bool) → (closed ≡ true → closed_then ≡ true) → (refused ≡ true → refused_then ≡ true)
    → (not own && (not peer || closed || refused)) ≡ true → (not own && (not peer || closed_then || refused_then)) ≡ true
lost_by true peer closed refused closed_then refused_then f g is = is
lost_by false false closed refused closed_then refused_then f g is = is
lost_by false true true refused closed_then refused_then f g is = or_left closed_then refused_then (f refl)
lost_by false true false refused closed_then refused_then f g is = or_right closed_then refused_then (g is)

-- a lost reference stays lost, unless the session with its owner opens anew
pub lost_stays : (s n : ℕ) (rep : WireRep) (deed : Deed) (D : List Deed) → TookTurns s n (deed ∷ D) → opens rep.owner deed ≡ false → is_lost s n rep D ≡ true → is_lost s n rep (deed ∷ D) ≡ true
lost_stays s n rep deed D took other is =
    lost_by (is_own s rep) (is_peer s n rep.owner) (closed rep.owner D) (is_refused (turns s n rep D)) (closed rep.owner (deed ∷ D)) (is_refused (turns s n rep (deed ∷ D)))
    (closed_stays rep.owner deed D other) (refused_stays s n rep deed D took other) is

-- ---- numbers

takes_sends : (items : List Item) (calls : List EndEntry) → takes (with_sends items calls) ≡ takes calls
takes_sends [] calls = refl
takes_sends (item ∷ items) calls = takes_sends items _

-- a deed takes an item from the inbox of p by acting on it
abbrev takes_of : ℕ → Deed → ℕ
takes_of p (Act q k) = if q == p then 1 else 0
takes_of p (_) = 0

takes_own : (p : ℕ) (deed : Deed) (calls : List EndEntry) → opens p deed ≡ false → takes (own_calls p deed calls) ≡ takes calls + takes_of p deed
takes_own p (Act q k) calls other = elim (q == p) as (λ b. takes (if b then ends.Take ∷ calls else calls) ≡ takes calls + (if b then 1 else 0)) [ true ↦ refl | false ↦ omega arith ]
takes_own p (Transmit q frames) calls other = elim (q == p) as (λ b. takes (if b then ends.Transmit frames ∷ calls else calls) ≡ takes calls + 0) [ true ↦ omega arith | false ↦ omega arith ]
takes_own p (Arrive frame count) calls other = elim (frame.from == p) as (λ b. takes (if b then ends.Arrive frame (Ok (arrived.Took count)) ∷ calls else calls) ≡ takes calls + 0) [ true ↦ omega arith | false ↦ omega arith ]
takes_own p (Tick q) calls other = elim (q == p) as (λ b. takes (if b then ends.Tick (Ok None) ∷ calls else calls) ≡ takes calls + 0) [ true ↦ omega arith | false ↦ omega arith ]
takes_own p (Closing q reason cause) calls other = elim (q == p) as (λ b. takes (if b then call_of_closing p reason cause ∷ calls else calls) ≡ takes calls + 0) [ true ↦ takes_closing cause | false ↦ omega arith ]
  where
    takes_closing : (cause : Cause) → takes (call_of_closing p reason cause ∷ calls) ≡ takes calls + 0
    takes_closing causes.Item = omega arith
    takes_closing (causes.Frame frame) = omega arith
    takes_closing causes.Ticks = omega arith
    takes_closing causes.Asked = omega arith
takes_own p (Open q k) calls other = let same : takes (cond (q == p) (ends.Reopen k (Ok tt) ∷ calls) calls) ≡ takes calls = ap (λ (b : Bool). takes (cond b (ends.Reopen k (Ok tt) ∷ calls) calls)) other in omega (arith, same)
takes_own p (deed) calls other = omega arith

takes_more : (s n p : ℕ) (deed : Deed) (D : List Deed) → opens p deed ≡ false → takes (calls_at p (history_of s n (deed ∷ D))) ≡ takes (calls_at p (history_of s n D)) + takes_of p deed
takes_more s n p deed D other = takes_own p deed (with_sends (items_to p (gifts s n deed D (work s n D))) (calls_at p (history_of s n D))) other ∙ ap (λ j. j + takes_of p deed) (takes_sends (items_to p (gifts s n deed D (work s n D))) (calls_at p (history_of s n D)))

-- the front of an inbox has the next number
front_number : (calls : List EndEntry) (k : ℕ) (payload : List ℕ) → right_front calls ≡ Some (k, payload) → k ≡ takes calls + 1
front_number calls k payload front = first (waiting calls) front
  where
    first : (payloads : List (List ℕ)) → first_of (takes calls + 1) payloads ≡ Some (k, payload) → k ≡ takes calls + 1
    first [] e = absurd (nothing (k, payload) e)
    first (one ∷ others) e = sym (ap (λ (pair : ℕ × List ℕ). pair.0) (some_same (takes calls + 1, one) (k, payload) e))

-- a message is of an item that was taken from its peer
abbrev pub IsTaken : (s n : ℕ) → List Deed → Message → Type 0
IsTaken s n D m = m.number ≤ takes (calls_at m.from (history_of s n D))

-- no two messages are of one item
abbrev pub AreApart : List Message → Type 0
AreApart [] = ⊤
AreApart (m ∷ ms) = AllByRecursion (λ (other : Message). is_of m.from m.number other ≡ false) ms × AreApart ms

-- messages that are apart, each of an item that was taken
record AreNumbered (s n : ℕ) (D : List Deed) (ms : List Message) : Type 0 where
  apart : AreApart ms
  taken : AllByRecursion (IsTaken s n D) ms

-- a deed opens no session of a message anew: neither the one in which it came nor one with the owner of a reference that it carries
abbrev pub IsUnopened : Deed → Message → Type 0
IsUnopened deed m = (opens m.from deed ≡ false) × AllByRecursion (λ (copy : RefCopy). opens copy.rep.owner deed ≡ false) m.copies

opens_none : (deed : Deed) → ((p : ℕ) → opens p deed ≡ false) → (ms : List Message) → AllByRecursion (IsUnopened deed) ms
opens_none deed none [] = tt
opens_none deed none (m ∷ ms) = ((none m.from, copies m.copies), opens_none deed none ms)
  where
    copies : (cs : List RefCopy) → AllByRecursion (λ (copy : RefCopy). opens copy.rep.owner deed ≡ false) cs
    copies [] = tt
    copies (copy ∷ cs) = (none copy.rep.owner, copies cs)

opens_others : (s n : ℕ) (limits : Limits) (p k : ℕ) (D : List Deed) → IsRightDeed s n limits (Open p k) D → (ms : List Message) → AllByRecursion (IsOpenIn s n D) ms → AllByRecursion (λ (m : Message). AllByRecursion (λ (copy : RefCopy). (p == copy.rep.owner) ≡ false) m.copies) ms → AllByRecursion (IsUnopened (Open p k)) ms
opens_others s n limits p k D right [] up others = tt
opens_others s n limits p k D right (m ∷ ms) up others = ((open_other s n limits p k D right m.from up.0.0, others.0), opens_others s n limits p k D right ms up.1 others.1)

-- a right deed opens no session of a message that waits
pub waiting_unopened : (s n : ℕ) (limits : Limits) (deed : Deed) (D : List Deed) → AreRightDeeds s n limits (deed ∷ D) → AllByRecursion (IsUnopened deed) (work s n D).waiting
waiting_unopened s n limits (Open p k) D right = opens_others s n limits p k D right.0 (work s n D).waiting (are_waiting s n limits D right.1).0 (open_uncarried s n limits p k D right.0)
waiting_unopened s n limits (deed) D right = opens_none (deed) (λ p. refl) (work s n D).waiting

-- a message is still of an item that was taken once more is done
still_taken : (s n : ℕ) (deed : Deed) (D : List Deed) (ms : List Message) → AllByRecursion (IsUnopened deed) ms → AllByRecursion (IsTaken s n D) ms → AllByRecursion (IsTaken s n (deed ∷ D)) ms
still_taken s n deed D [] others all = tt
still_taken s n deed D (m ∷ ms) others all =
    ((let more : takes (calls_at m.from (history_of s n (deed ∷ D))) ≡ takes (calls_at m.from (history_of s n D)) + takes_of m.from deed = takes_more s n m.from deed D others.0.0 in let low : m.number ≤ takes (calls_at m.from (history_of s n D)) = all.0 in omega (arith, more, low)), still_taken s n deed D ms others.1 all.1)

-- lists with fewer messages, and with loans made
apart_filter : (test : Message → Bool) (ms : List Message) → AreApart ms → AreApart (filter test ms)
apart_filter test [] apart = tt
apart_filter test (m ∷ ms) apart = elim (test m) as (λ b. AreApart (cond b (m ∷ filter test ms) (filter test ms))) [ true ↦ (all_filter (λ (other : Message). is_of m.from m.number other ≡ false) test ms apart.0, apart_filter test ms apart.1) | false ↦ apart_filter test ms apart.1 ]

apart_without : (test : Message → Bool) (ms : List Message) → AreApart ms → AreApart (without_first test ms)
apart_without test [] apart = tt
apart_without test (m ∷ ms) apart = elim (test m) as (λ b. AreApart (if b then ms else m ∷ without_first test ms)) [ true ↦ apart.1 | false ↦ (all_without (λ (other : Message). is_of m.from m.number other ≡ false) test ms apart.0, apart_without test ms apart.1) ]

apart_kept : (s n : ℕ) (D : List Deed) (ms : List Message) → AreApart ms → AreApart (map (λ m. message_after s n D m) ms)
unfolding message_after
apart_kept s n D [] apart = tt
apart_kept s n D (m ∷ ms) apart = (all_mapped (λ (other : Message). is_of m.from m.number other ≡ false) (λ m. message_after s n D m) (λ other is. is) ms apart.0, apart_kept s n D ms apart.1)

taken_kept : (s n : ℕ) (D : List Deed) (ms : List Message) → AllByRecursion (IsTaken s n D) ms → AllByRecursion (IsTaken s n D) (map (λ m. message_after s n D m) ms)
unfolding message_after
taken_kept s n D ms taken = all_mapped (IsTaken s n D) (λ m. message_after s n D m) (λ m is. is) ms taken

-- another item than one of a lower number from its peer
not_of : (o m : Message) (count : ℕ) → (o.from ≡ m.from → o.number ≤ count) → m.number ≡ count + 1 → is_of o.from o.number m ≡ false
not_of o m count low next = elim (m.from == o.from) as (λ b. (m.from == o.from) ≡ b → (b && (m.number == o.number)) ≡ false) [
  | true ↦ λ same. ne_eqb m.number o.number (λ e. (let under : o.number ≤ count = low (sym (eqb-true m.from o.from same)) in omega (arith, under, next, e)))
  | false ↦ λ other. refl
] refl

-- one message more, of the next item
apart_push : (s n : ℕ) (D : List Deed) (m : Message) → m.number ≡ takes (calls_at m.from (history_of s n D)) + 1 → (ms : List Message) → AreApart ms → AllByRecursion (IsTaken s n D) ms → AreApart (ms ++ m ∷ [])
apart_push s n D m next [] apart taken = (tt, tt)
apart_push s n D m next (o ∷ ms) apart taken =
    (all_push (λ (other : Message). is_of o.from o.number other ≡ false) ms m apart.0 (not_of o m (takes (calls_at m.from (history_of s n D))) (λ same. subst (λ p. o.number ≤ takes (calls_at p (history_of s n D))) same taken.0) next), apart_push s n D m next ms apart.1 taken.1)

-- ---- loans

-- the copies of references that are never lent are of lost ones
abbrev pub NeverLost : (s n : ℕ) → List Deed → Message → Type 0
NeverLost s n D m = AllByRecursion (λ (copy : RefCopy). copy.loan ≡ loans.Never → is_lost s n copy.rep D ≡ true) m.copies

-- all references of a message are lent
abbrev pub IsAllLent : Message → Type 0
IsAllLent m = AllByRecursion (λ (copy : RefCopy). copy.loan ≡ loans.Lent) m.copies

-- what waits is numbered, and never lends what is lost; what is ready, runs or is a ready reply has lent all its references
pub record AreLent (s n : ℕ) (D : List Deed) (W : Outstanding) : Type 0 where
  pub apart : AreApart W.waiting
  pub taken : AllByRecursion (IsTaken s n D) W.waiting
  pub never : AllByRecursion (NeverLost s n D) W.waiting
  pub ready : AllByRecursion IsAllLent W.ready
  pub running : AllByRecursion (λ (run : Run). IsAllLent run.message) W.running
  pub replies : AllByRecursion IsAllLent W.replies

still_lent : (usable : Bool) (loan : Loan) → loan ≡ loans.Lent → loan_after usable loan ≡ loans.Lent
still_lent usable loans.Lent e = refl
still_lent usable loans.Due e = (let clash : loans.Due ≡ loans.Lent = e in absurd (cc))
still_lent usable loans.Never e = (let clash : loans.Never ≡ loans.Lent = e in absurd (cc))

was_never : (usable : Bool) (loan : Loan) → loan_after usable loan ≡ loans.Never → loan ≡ loans.Never
was_never true loans.Due e = (let clash : loans.Lent ≡ loans.Never = e in absurd (cc))
was_never false loans.Due e = e
was_never usable loans.Lent e = e
was_never usable loans.Never e = refl

lent_kept : (s n : ℕ) (D : List Deed) (m : Message) → IsAllLent m → IsAllLent (message_after s n D m)
unfolding message_after copy_after
lent_kept s n D m all = copies m.copies all
  where
    copies : (cs : List RefCopy) → AllByRecursion (λ (copy : RefCopy). copy.loan ≡ loans.Lent) cs → AllByRecursion (λ (copy : RefCopy). copy.loan ≡ loans.Lent) (map (λ copy. copy_after s n D copy) cs)
    copies [] its = tt
    copies (copy ∷ cs) its = (still_lent (is_own s copy.rep || is_usable s n copy.rep D) copy.loan its.0, copies cs its.1)

never_kept : (s n : ℕ) (D : List Deed) (m : Message) → NeverLost s n D m → NeverLost s n D (message_after s n D m)
unfolding message_after copy_after
never_kept s n D m all = copies m.copies all
  where
    copies : (cs : List RefCopy) → AllByRecursion (λ (copy : RefCopy). copy.loan ≡ loans.Never → is_lost s n copy.rep D ≡ true) cs → AllByRecursion (λ (copy : RefCopy). copy.loan ≡ loans.Never → is_lost s n copy.rep D ≡ true) (map (λ copy. copy_after s n D copy) cs)
    copies [] its = tt
    copies (copy ∷ cs) its = ((λ e. its.0 (was_never (is_own s copy.rep || is_usable s n copy.rep D) copy.loan e)), copies cs its.1)

still_never : (s n : ℕ) (deed : Deed) (D : List Deed) → TookTurns s n (deed ∷ D) → (ms : List Message) → AllByRecursion (IsUnopened deed) ms → AllByRecursion (NeverLost s n D) ms → AllByRecursion (NeverLost s n (deed ∷ D)) ms
still_never s n deed D took [] others all = tt
still_never s n deed D took (m ∷ ms) others all = (copies m.copies others.0.1 all.0, still_never s n deed D took ms others.1 all.1)
  where
    copies : (cs : List RefCopy) → AllByRecursion (λ (copy : RefCopy). opens copy.rep.owner deed ≡ false) cs → AllByRecursion (λ (copy : RefCopy). copy.loan ≡ loans.Never → is_lost s n copy.rep D ≡ true) cs → AllByRecursion (λ (copy : RefCopy). copy.loan ≡ loans.Never → is_lost s n copy.rep (deed ∷ D) ≡ true) cs
    copies [] apart its = tt
    copies (copy ∷ cs) apart its = ((λ e. lost_stays s n copy.rep deed D took apart.0 (its.0 e)), copies cs apart.1 its.1)

-- loans that are made
lent_loans : (s n : ℕ) (D : List Deed) (W : Outstanding) → AreLent s n D W → AreLent s n D (with_loans s n D W)
unfolding with_loans run_after
lent_loans s n D W all = record {
  apart = apart_kept s n D W.waiting all.apart;
  taken = taken_kept s n D W.waiting all.taken;
  never = all_mapped (NeverLost s n D) (λ m. message_after s n D m) (never_kept s n D) W.waiting all.never;
  ready = all_mapped IsAllLent (λ m. message_after s n D m) (lent_kept s n D) W.ready all.ready;
  running = all_mapped (λ (run : Run). IsAllLent run.message) (λ run. run_after s n D run) (λ run. lent_kept s n D run.message) W.running all.running;
  replies = all_mapped IsAllLent (λ m. message_after s n D m) (lent_kept s n D) W.replies all.replies;
}

-- a message as it comes is never lent what is lost
new_never : (s n p k : ℕ) (item : Item) (D : List Deed) → NeverLost s n D (new_message s n p k item D)
unfolding new_copy
new_never s n p k item D = copies (counted_in item)
  where
    one : (b : Bool) → (if b then loans.Never else loans.Due) ≡ loans.Never → b ≡ true
    one true e = refl
    one false e = (let clash : loans.Due ≡ loans.Never = e in absurd (cc))

    copies : (reps : List WireRep) → AllByRecursion (λ (copy : RefCopy). copy.loan ≡ loans.Never → is_lost s n copy.rep D ≡ true) (map (λ rep. new_copy s n D rep) reps)
    copies [] = tt
    copies (rep ∷ reps) = (one (is_lost s n rep D), copies reps)

none_lent : (m : Message) → is_none_of m.copies ≡ true → IsAllLent m
none_lent m none = copies m.copies none
  where
    copies : (cs : List RefCopy) → is_none_of cs ≡ true → AllByRecursion (λ (copy : RefCopy). copy.loan ≡ loans.Lent) cs
    copies [] e = tt
    copies (copy ∷ cs) e = (let clash : false ≡ true = e in absurd (cc))

-- ---- settling

-- the first of messages that are apart is the first of its item
find_apart : (test : Message → Bool) (ms : List Message) (m : Message) → AreApart ms → find test ms ≡ Some m → find (is_of m.from m.number) ms ≡ Some m
find_apart test [] m apart found = found
find_apart test (o ∷ ms) m apart found = elim (test o) as (λ b. cond b (Some o) (find test ms) ≡ Some m → cond (is_of m.from m.number o) (Some o) (find (is_of m.from m.number) ms) ≡ Some m) [
  | true ↦ λ here.
      let is : o ≡ m = some_same o m here in
      let its : is_of m.from m.number o ≡ true = subst (λ (x : Message). is_of x.from x.number o ≡ true) is (own_item o) in
      rw its here
  | false ↦ λ there.
      let other : is_of o.from o.number m ≡ false = all_found (λ (x : Message). is_of o.from o.number x ≡ false) test ms m there apart.0 in
      rw (is_of_flip m o ∙ other) (find_apart test ms m apart.1 there)
] found
  where
    own_item : (o : Message) → is_of o.from o.number o ≡ true
    own_item o = rw (nat_eq_equiv.refl o.from) (nat_eq_equiv.refl o.number)

    is_of_flip : (m o : Message) → is_of m.from m.number o ≡ is_of o.from o.number m
    is_of_flip m o = λ i. nat_eq_equiv.symm o.from m.from i && nat_eq_equiv.symm o.number m.number i

-- the references of a message that is settled and isn't lost are all lent
settled_lent : (s n : ℕ) (D : List Deed) (cs : List RefCopy) → list_all (λ (copy : RefCopy). is_resolved s n copy.rep D) cs ≡ true → list_any (λ (copy : RefCopy). is_lost s n copy.rep D) cs ≡ false
    → map (λ copy. copy_after s n D copy) cs ≡ cs → AllByRecursion (λ (copy : RefCopy). copy.loan ≡ loans.Never → is_lost s n copy.rep D ≡ true) cs → AllByRecursion (λ (copy : RefCopy). copy.loan ≡ loans.Lent) cs
unfolding copy_after
settled_lent s n D [] resolved kept fixed never = tt
settled_lent s n D (copy ∷ cs) resolved kept fixed never =
    let these = and_parts (is_resolved s n copy.rep D) (list_all (λ (copy : RefCopy). is_resolved s n copy.rep D) cs) resolved in
    let not_lost = or_parts (is_lost s n copy.rep D) (list_any (λ (copy : RefCopy). is_lost s n copy.rep D) cs) kept in
    let same : loan_after (is_own s copy.rep || is_usable s n copy.rep D) copy.loan ≡ copy.loan = ap (λ (c : RefCopy). c.loan) (first_same fixed) in
    (lent_by (is_own s copy.rep) (is_usable s n copy.rep D) (is_lost s n copy.rep D) copy.loan these.0 not_lost.0 same never.0, settled_lent s n D cs these.1 not_lost.1 (others_same fixed) never.1)
  where
    first_same : {A : Type 0} {x y : A} {xs ys : List A} → (x ∷ xs) ≡ (y ∷ ys) → x ≡ y
    first_same e = cc

    others_same : {A : Type 0} {x y : A} {xs ys : List A} → (x ∷ xs) ≡ (y ∷ ys) → xs ≡ ys
    others_same e = cc

    lent_by : (own usable lost : Bool) (loan : Loan) → (own || usable || lost) ≡ true → lost ≡ false → loan_after (own || usable) loan ≡ loan → (loan ≡ loans.Never → lost ≡ true) → loan ≡ loans.Lent
    lent_by own usable lost loans.Lent resolved kept same never = refl
    lent_by own usable lost loans.Never resolved kept same never = absurd (differ (never refl) kept)
    lent_by true usable lost loans.Due resolved kept same never = (let clash : loans.Lent ≡ loans.Due = same in absurd (cc))
    lent_by false true lost loans.Due resolved kept same never = (let clash : loans.Lent ≡ loans.Due = same in absurd (cc))
    lent_by false false lost loans.Due resolved kept same never = absurd (differ resolved kept)

-- ---- one deed more

module _ (s n : ℕ) (limits : Limits) (deed : Deed) (D : List Deed) (right : AreRightDeeds s n limits (deed ∷ D)) where
  took : TookTurns s n (deed ∷ D)
  took = took_turns s n limits (deed ∷ D) right

  -- what is outstanding has lent what it had, after the deed too
  still_all : AreLent s n D (work s n D) → AreLent s n (deed ∷ D) (work s n D)
  still_all all = record {
    apart = all.apart;
    taken = still_taken s n deed D (work s n D).waiting (waiting_unopened s n limits deed D right) all.taken;
    never = still_never s n deed D took (work s n D).waiting (waiting_unopened s n limits deed D right) all.never;
    ready = all.ready;
    running = all.running;
    replies = all.replies;
  }

module _ (s n : ℕ) (D : List Deed) where
  ready_lent : (m : Message) (W : Outstanding) → IsAllLent m → AreLent s n D W → AreLent s n D (make_ready m W)
  ready_lent m W its all = record { apart = all.apart; taken = all.taken; never = all.never; ready = all_push IsAllLent W.ready m all.ready its; running = all.running; replies = all.replies }

  reply_lent : (m : Message) (W : Outstanding) → IsAllLent m → AreLent s n D W → AreLent s n D (make_reply m W)
  reply_lent m W its all = record { apart = all.apart; taken = all.taken; never = all.never; ready = all.ready; running = all.running; replies = all_push IsAllLent W.replies m all.replies its }

  calls_lent : (change : OwnCall → OwnCall) (W : Outstanding) → AreLent s n D W → AreLent s n D (with_calls change W)
  calls_lent change W all = record { apart = all.apart; taken = all.taken; never = all.never; ready = all.ready; running = all.running; replies = all.replies }

  -- the message of an item that was settled
  settlement_lent : (m : Message) (item : Item) (is_lost : Bool) (W : Outstanding) → (is_lost ≡ false → IsAllLent m) → AreLent s n D W → AreLent s n D (after_settlement m item is_lost W)
  unfolding after_settlement
  settlement_lent m (items.Call call target method value) true W its all = all
  settlement_lent m (items.Call call target method value) false W its all = ready_lent m W (its refl) all
  settlement_lent m (items.Reply call status value) true W its all = reply_lent (lost_reply m call) W tt all
  settlement_lent m (items.Reply call status value) false W its all = reply_lent m W (its refl) all
  settlement_lent m (_) is_lost W its all = all

  without_lent : (p k : ℕ) (W : Outstanding) → AreLent s n D W → AreLent s n D (without_waiting p k W)
  without_lent p k W all = record {
    apart = apart_without (is_of p k) W.waiting all.apart;
    taken = all_without (IsTaken s n D) (is_of p k) W.waiting all.taken;
    never = all_without (NeverLost s n D) (is_of p k) W.waiting all.never;
    ready = all.ready;
    running = all.running;
    replies = all.replies;
  }

  claim_lent : (job : Job) (found : Option Message) (W : Outstanding) → find (is_job job) W.ready ≡ found → AreLent s n D W → AreLent s n D (after_claim job found W)
  unfolding after_claim
  claim_lent job None W is all = all
  claim_lent job (Some m) W is all = record { apart = all.apart; taken = all.taken; never = all.never; ready = all_without IsAllLent (is_job job) W.ready all.ready; running = (all_found IsAllLent (is_job job) W.ready m is all.ready, all.running); replies = all.replies }

  -- messages that are thrown away
  filter_lent : (keep : Message → Bool) (W : Outstanding) → AreLent s n D W → AreLent s n D (record { waiting = filter keep W.waiting; ready = W.ready; running = W.running; replies = W.replies; calls = W.calls })
  filter_lent keep W all = record { apart = apart_filter keep W.waiting all.apart; taken = all_filter (IsTaken s n D) keep W.waiting all.taken; never = all_filter (NeverLost s n D) keep W.waiting all.never; ready = all.ready; running = all.running; replies = all.replies }

  runs_lent : (keep : Run → Bool) (W : Outstanding) → AreLent s n D W → AreLent s n D (record { waiting = W.waiting; ready = W.ready; running = filter keep W.running; replies = W.replies; calls = W.calls })
  runs_lent keep W all = record { apart = all.apart; taken = all.taken; never = all.never; ready = all.ready; running = all_filter (λ (run : Run). IsAllLent run.message) keep W.running all.running; replies = all.replies }

-- acting on an item of the next number
module _ (s n p k : ℕ) (D : List Deed) (next : k ≡ takes (calls_at p (history_of s n D)) + 1) where
  act_taken : (ms : List Message) (m : Message) → m.from ≡ p → m.number ≡ k → AllByRecursion (IsTaken s n (Act p k ∷ D)) ms → AllByRecursion (IsTaken s n (Act p k ∷ D)) (ms ++ m ∷ [])
  act_taken ms m from number all = all_push (IsTaken s n (Act p k ∷ D)) ms m all its
    where
      one_more : takes (calls_at p (history_of s n (Act p k ∷ D))) ≡ takes (calls_at p (history_of s n D)) + 1
      one_more = takes_more s n p (Act p k) D refl ∙ ap (λ b. takes (calls_at p (history_of s n D)) + (if b then 1 else 0)) (nat_eq_equiv.refl p)

      its : IsTaken s n (Act p k ∷ D) m
      its = subst (λ q. m.number ≤ takes (calls_at q (history_of s n (Act p k ∷ D)))) (sym from) (let more = one_more in omega (arith, more, number, next))

  wait_lent : (item : Item) (W : Outstanding) → AreLent s n D W → AreLent s n (Act p k ∷ D) W → AreLent s n (Act p k ∷ D) (wait (new_message s n p k item (Act p k ∷ D)) W)
  wait_lent item W before all = record {
    apart = apart_push s n D (new_message s n p k item (Act p k ∷ D)) next W.waiting before.apart before.taken;
    taken = act_taken W.waiting (new_message s n p k item (Act p k ∷ D)) refl refl all.taken;
    never = all_push (NeverLost s n (Act p k ∷ D)) W.waiting (new_message s n p k item (Act p k ∷ D)) all.never (new_never s n p k item (Act p k ∷ D));
    ready = all.ready;
    running = all.running;
    replies = all.replies;
  }

  message_lent : (item : Item) (W : Outstanding) → AreLent s n D W → AreLent s n (Act p k ∷ D) W → AreLent s n (Act p k ∷ D) (after_message (new_message s n p k item (Act p k ∷ D)) item W)
  unfolding after_message
  message_lent (items.Call call target method value) W before all = split (is_none_of m.copies) refl
    where
      m : Message
      m = new_message s n p k (items.Call call target method value) (Act p k ∷ D)

      split : (b : Bool) → is_none_of m.copies ≡ b → AreLent s n (Act p k ∷ D) (if b then make_ready m W else wait m W)
      split true none = ready_lent s n (Act p k ∷ D) m W (none_lent m none) all
      split false some = wait_lent (items.Call call target method value) W before all
  message_lent (items.Reply call status value) W before all = calls_lent s n (Act p k ∷ D) (call_after_reply p call) (if is_none_of m.copies then make_reply m W else wait m W) (split (is_none_of m.copies) refl)
    where
      m : Message
      m = new_message s n p k (items.Reply call status value) (Act p k ∷ D)

      split : (b : Bool) → is_none_of m.copies ≡ b → AreLent s n (Act p k ∷ D) (if b then make_reply m W else wait m W)
      split true none = reply_lent s n (Act p k ∷ D) m W (none_lent m none) all
      split false some = wait_lent (items.Reply call status value) W before all
  message_lent (_) W before all = all

  act_lent : (found : Option Item) (W : Outstanding) → AreLent s n D W → AreLent s n (Act p k ∷ D) W → AreLent s n (Act p k ∷ D) (after_act s n p k D found W)
  unfolding after_act
  act_lent None W before all = all
  act_lent (Some item) W before all = message_lent item W before all

copies_fixed : (s n : ℕ) (D : List Deed) (m : Message) → message_after s n D m ≡ m → map (λ copy. copy_after s n D copy) m.copies ≡ m.copies
unfolding message_after
copies_fixed s n D m fixed = ap (λ (x : Message). x.copies) fixed

module _ (s n : ℕ) (limits : Limits) where
  settle_told : (p k : ℕ) (D : List Deed) → IsRightDeed s n limits (Settle p k) D → (message : Message) × (to_settle s n (history_of s n D) ≡ Some message) × (message.from ≡ p) × (message.number ≡ k)
  unfolding right_after
  settle_told p k D right = (let told = settle_tells s n p k (history_of s n D) (was_answered s n limits (Settle p k) D right) in (told.0, told.1, told.2, told.3))

  act_next : (p k : ℕ) (D : List Deed) → IsRightDeed s n limits (Act p k) D → k ≡ takes (calls_at p (history_of s n D)) + 1
  unfolding right_after
  act_next p k D right = (let told = act_tells s n p k (history_of s n D) (was_answered s n limits (Act p k) D right) in front_number (calls_at p (history_of s n D)) k told.2.0 told.2.2)

  -- what a right Settle takes is the first of its item, and is all resolved
  settle_takes : (p k : ℕ) (D : List Deed) → IsRightDeed s n limits (Settle p k) D → AreApart (work s n D).waiting → (m : Message) × (find (is_of p k) (work s n D).waiting ≡ Some m) × (is_all_resolved s n (history_of s n D) m ≡ true)
  settle_takes p k D right apart =
      let told = settle_told p k D right in
      let m : Message = told.0 in
      let first : find (is_of m.from m.number) (work s n D).waiting ≡ Some m = find_apart (is_all_resolved s n (history_of s n D)) (work s n D).waiting m apart told.1 in
      (m, subst (λ j. find (is_of p j) (work s n D).waiting ≡ Some m) told.3 (subst (λ q. find (is_of q m.number) (work s n D).waiting ≡ Some m) told.2 first), found_passes (is_all_resolved s n (history_of s n D)) (work s n D).waiting m told.1)

  settle_lent : (p k : ℕ) (D : List Deed) (right : AreRightDeeds s n limits (Settle p k ∷ D)) → AreLent s n D (work s n D) → AreLent s n (Settle p k ∷ D) (after_settle s n p k D (find (is_of p k) (work s n D).waiting) (work s n D))
  unfolding after_settle
  settle_lent p k D right all =
      let W : Outstanding = work s n D in
      let taken = settle_takes p k D right.0 all.apart in
      let m : Message = taken.0 in
      let never : NeverLost s n D m = all_found (NeverLost s n D) (is_of p k) W.waiting m taken.1 all.never in
      let fixed : map (λ copy. copy_after s n D copy) m.copies ≡ m.copies = copies_fixed s n D m (all_found (λ (x : Message). message_after s n D x ≡ x) (is_of p k) W.waiting m taken.1 (work_fixed s n D).waiting) in
      subst (λ (found : Option Message). AreLent s n (Settle p k ∷ D) (after_settle s n p k D found W)) (sym taken.1)
      (settlement_lent s n (Settle p k ∷ D) m m.item (is_lost_message s n D m) (without_waiting p k W) (λ kept. settled_lent s n D m.copies taken.2 kept fixed never) (without_lent s n (Settle p k ∷ D) p k W (still_all s n limits (Settle p k) D right all)))

  deed_lent : (deed : Deed) (D : List Deed) → AreRightDeeds s n limits (deed ∷ D) → AreLent s n D (work s n D) → AreLent s n (deed ∷ D) (work_after s n deed D (work s n D))
  unfolding work_after after_call after_take after_end after_finish after_close
  deed_lent (Call target method value call) D right all = (let still = still_all s n limits (Call target method value call) D right all in record { apart = still.apart; taken = still.taken; never = still.never; ready = still.ready; running = still.running; replies = still.replies })
  deed_lent (TakeReply call status value) D right all =
      let still = filter_lent s n (TakeReply call status value ∷ D) (is_not_reply call) (work s n D) (still_all s n limits (TakeReply call status value) D right all) in
      record { apart = still.apart; taken = still.taken; never = still.never; ready = still.ready; running = still.running; replies = all_filter IsAllLent (is_not_reply call) (work s n D).replies still.replies }
  deed_lent (TakeEnd call) D right all = (let still = still_all s n limits (TakeEnd call) D right all in record { apart = still.apart; taken = still.taken; never = still.never; ready = still.ready; running = still.running; replies = still.replies })
  deed_lent (Claim job) D right all = claim_lent s n (Claim job ∷ D) job (find (is_job job) (work s n D).ready) (work s n D) refl (still_all s n limits (Claim job) D right all)
  deed_lent (Finish job outcome) D right all = runs_lent s n (Finish job outcome ∷ D) (λ run. not (is_run job run)) (work s n D) (still_all s n limits (Finish job outcome) D right all)
  deed_lent (DropReply job) D right all = runs_lent s n (DropReply job ∷ D) (λ run. not (is_run job run)) (work s n D) (still_all s n limits (DropReply job) D right all)
  deed_lent (Act p k) D right all = act_lent s n p k D (act_next p k D right.0) (item_at p k D) (work s n D) all (still_all s n limits (Act p k) D right all)
  deed_lent (Settle p k) D right all = settle_lent p k D right all
  deed_lent (Closing p reason cause) D right all =
      let still = filter_lent s n (Closing p reason cause ∷ D) (is_not_from p) (work s n D) (still_all s n limits (Closing p reason cause) D right all) in
      record { apart = still.apart; taken = still.taken; never = still.never; ready = all_filter IsAllLent (is_not_from p) (work s n D).ready still.ready; running = still.running; replies = still.replies }
  deed_lent (deed) D right all = still_all s n limits (deed) D right all

  -- on a list of right deeds messages that wait are apart, and what is ready has lent all its references
  pub all_lent : (D : List Deed) → AreRightDeeds s n limits D → AreLent s n D (work s n D)
  all_lent [] right = record { apart = tt; taken = tt; never = tt; ready = tt; running = tt; replies = tt }
  all_lent (deed ∷ D) right = lent_loans s n (deed ∷ D) (work_after s n deed D (work s n D)) (deed_lent deed D right (all_lent D right.1))
