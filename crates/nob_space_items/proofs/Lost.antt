-- Which references are lost once an item was acted on; of those that are due to messages that wait, the others are
-- awaited then.
use Rattle.std.proofs.Common.{◌≡◌, ℕ, ◌+◌, nat_lt, Bool, true, false, not, ◌&&◌, ◌||◌, List, [], ◌∷◌, ◌++◌, length, filter, map, if◌then◌else◌, refl, sym, ap, subst, ◌∙◌, arith}
use Rattle.std.proofs.lemmas.Bool.Decides.{nat_tests}
use Rattle.nob_ids.specs.Names.{is_same}
use Rattle.nob_ids.specs.declared.wire_rep.WireRep.{WireRep}
use Rattle.nob_item.specs.Kinds.{counted_in}
use Rattle.nob_item.specs.declared.item.Item.{Item}
use Rattle.nob_item.specs.declared.item.Item.TheVariants as items
use Rattle.nob_model_types.specs.declared.deed.Deed.{Deed}
use Rattle.nob_model_types.specs.declared.message.Loan.TheVariants as loans
use Rattle.nob_model_types.specs.declared.message.Message.{Message}
use Rattle.nob_model_types.specs.declared.message.RefCopy.{RefCopy}
use Rattle.nob_model_types.specs.Messages.{new_message, new_copy, loan_after, copy_after, message_after}
use Rattle.nob_model_types.specs.Sessions.{is_peer, closed}
use Rattle.nob_model_types.specs.Turns.{turns, is_own, is_usable, is_lost, is_pending, is_refused}
use Rattle.nob_model_work.specs.declared.work.Outstanding.{Outstanding}
use Rattle.nob_model_work.specs.Work.{after_message, call_after_reply, is_none_of, make_ready, make_reply, wait, with_calls}
use Rattle.nob_model_history.proofs.Turning.{pending_waits, same_ref, waiting_stands}
use Rattle.nob_space_messages.specs.Waiting.{WaitingList, due_to, due_to_all, granted_message, is_awaited, is_due, is_due_in, waits_for, IsNew}
use Rattle.nob_space_messages.proofs.Granted.{count_cons, due_other, none_due}
use Rattle.nob_space_state.specs.Stands.{AreAwaited}
use Rattle.nob_space_items.specs.Placing.{IsMessage}

-- ---- what is due to messages

or_none : (b : Bool) → (b || false) ≡ b
or_none true = refl
or_none false = refl

or_all : (b : Bool) → (b || true) ≡ true
or_all true = refl
or_all false = refl

-- of a sum there is some where there is some of a part
some_of : (a b sum : ℕ) → sum ≡ a + b → nat_lt 0 sum ≡ (nat_lt 0 a || nat_lt 0 (b + 0))
some_of a b sum is = grind (arith, nat_tests, is)

due_push : (rep : WireRep) (ms : List Message) (m : Message) → due_to_all rep (ms ++ m ∷ []) ≡ due_to_all rep ms + due_to rep m
due_push rep [] m = omega arith
due_push rep (first ∷ ms) m = let rest = due_push rep ms m in omega (arith, rest)

-- with one message more
due_in_push : (rep : WireRep) (ms : List Message) (m : Message) → is_due_in (ms ++ m ∷ []) rep ≡ (is_due_in ms rep || is_due_in (m ∷ []) rep)
due_in_push rep ms m = some_of (due_to_all rep ms) (due_to rep m) (due_to_all rep (ms ++ m ∷ [])) (due_push rep ms m)

-- nothing is due to a message without copies
pub bare_due : (rep : WireRep) (m : Message) → is_none_of m.copies ≡ true → is_due_in (m ∷ []) rep ≡ false
bare_due rep m none = by_copies m.copies none
  where
    by_copies : (copies : List RefCopy) → is_none_of copies ≡ true → nat_lt 0 (length (filter (waits_for rep) copies) + 0) ≡ false
    by_copies [] none = refl
    by_copies (copy ∷ copies) none = absurd (let bad : false ≡ true = none in cc)

-- what is due once a message was put where it goes
put_due : (rep : WireRep) (m : Message) (item : Item) (W : Outstanding) → IsMessage item → is_due_in (after_message m item W).waiting rep ≡ (is_due_in W.waiting rep || is_due_in (m ∷ []) rep)
unfolding after_message
put_due rep m (items.Call call target method value) W message = placed (is_none_of m.copies) refl
  where
    placed : (b : Bool) → is_none_of m.copies ≡ b → is_due_in (if b then make_ready m W else wait m W).waiting rep ≡ (is_due_in W.waiting rep || is_due_in (m ∷ []) rep)
    placed true none = sym (ap (λ b. is_due_in W.waiting rep || b) (bare_due rep m none) ∙ or_none (is_due_in W.waiting rep))
    placed false some = due_in_push rep W.waiting m
put_due rep m (items.Reply call status value) W message = placed (is_none_of m.copies) refl
  where
    placed : (b : Bool) → is_none_of m.copies ≡ b → is_due_in (with_calls (call_after_reply m.from call) (if b then make_reply m W else wait m W)).waiting rep ≡ (is_due_in W.waiting rep || is_due_in (m ∷ []) rep)
    placed true none = sym (ap (λ b. is_due_in W.waiting rep || b) (bare_due rep m none) ∙ or_none (is_due_in W.waiting rep))
    placed false some = due_in_push rep W.waiting m
put_due rep m (items.Settle item) W message = absurd (cc)
put_due rep m (items.Dirty index) W message = absurd (cc)
put_due rep m (items.DirtyOk index) W message = absurd (cc)
put_due rep m (items.DirtyNo index) W message = absurd (cc)
put_due rep m (items.Clean index) W message = absurd (cc)

-- what is due once a reference is granted: of that nothing, and of the others as much as before
granted_due : (rep : WireRep) (ms : List Message) → due_to_all rep (map (granted_message rep) ms) ≡ 0
granted_due rep [] = refl
granted_due rep (m ∷ ms) = let one = none_due rep m in let rest = granted_due rep ms in omega (arith, one, rest)

others_due : (rep other : WireRep) (ms : List Message) → is_same rep other ≡ false → due_to_all other (map (granted_message rep) ms) ≡ due_to_all other ms
others_due rep other [] differs = refl
others_due rep other (m ∷ ms) differs = let one = due_other rep other m differs in let rest = others_due rep other ms differs in omega (arith, one, rest)

-- ---- a message that comes

-- no copy is due whose reference is lost
new_copies_due : (s n : ℕ) (E : List Deed) (rep : WireRep) (reps : List WireRep) → is_lost s n rep E ≡ true → length (filter (waits_for rep) (map (λ copy. copy_after s n E copy) (map (λ one. new_copy s n E one) reps))) ≡ 0
unfolding copy_after new_copy
new_copies_due s n E rep [] lost = refl
new_copies_due s n E rep (x ∷ xs) lost =
    let copy : RefCopy = copy_after s n E (new_copy s n E x) in
    let its : waits_for rep copy ≡ false = elim (is_same rep x) as (λ b. is_same rep x ≡ b → (b && is_due (loan_after (is_own s x || is_usable s n x E) (if is_lost s n x E then loans.Never else loans.Due))) ≡ false) [
      | true ↦ λ same. ap (λ b. is_due (loan_after (is_own s x || is_usable s n x E) (if b then loans.Never else loans.Due))) (subst (λ (w : WireRep). is_lost s n w E ≡ true) (same_ref rep x same) lost)
      | false ↦ λ _. refl
    ] refl in
    let all = count_cons (waits_for rep) copy (map (λ one. copy_after s n E one) (map (λ one. new_copy s n E one) xs)) in
    let none : ◌≡◌ {A = ℕ} (if waits_for rep copy then 1 else 0) 0 = ap (λ b. if b then 1 else 0) its in
    let rest = new_copies_due s n E rep xs lost in
    omega (arith, all, none, rest)

-- so what is due to a message that was acted on isn't lost
pub due_open : (s n p k : ℕ) (item : Item) (E : List Deed) (rep : WireRep) → is_due_in (message_after s n E (new_message s n p k item E) ∷ []) rep ≡ true → is_lost s n rep E ≡ false
unfolding message_after
due_open s n p k item E rep due = elim (is_lost s n rep E) as (λ b. is_lost s n rep E ≡ b → b ≡ false) [
  | true ↦ λ lost. (let none = new_copies_due s n E rep (counted_in item) lost in let bad : true ≡ false = sym due ∙ ap (λ many. nat_lt 0 (many + 0)) none in absurd (cc))
  | false ↦ λ _. refl
] refl

module _ (s n : ℕ) (D E : List Deed) (m : Message) (same : (rep : WireRep) → is_lost s n rep E ≡ is_lost s n rep D) (is_open : (rep : WireRep) → is_due_in (m ∷ []) rep ≡ true → is_lost s n rep E ≡ false) where
  -- what is awaited once the message was put where it goes
  pub message_awaited : (old new : List WireRep) (item : Item) (W : Outstanding) → IsMessage item → AreAwaited s n old W.waiting D → ((rep : WireRep) → is_awaited new rep ≡ (is_awaited old rep || is_due_in (m ∷ []) rep)) → AreAwaited s n new (after_message m item W).waiting E
  message_awaited old new item W message before more = λ rep due.
      more rep
      ∙ elim (is_due_in (m ∷ []) rep) as (λ b. is_due_in (m ∷ []) rep ≡ b → (is_awaited old rep || b) ≡ not (is_lost s n rep E)) [
        | true ↦ λ its. or_all (is_awaited old rep) ∙ sym (ap not (is_open rep its))
        | false ↦ λ none.
            let others : is_due_in W.waiting rep ≡ true = sym (put_due rep m item W message ∙ ap (λ b. is_due_in W.waiting rep || b) none ∙ or_none (is_due_in W.waiting rep)) ∙ due in
            or_none (is_awaited old rep) ∙ before rep others ∙ ap not (sym (same rep))
      ] refl

  -- a reference that is due to it and to messages that wait is awaited
  pub message_new : (w : WaitingList) → AreAwaited s n w.awaited w.items D → IsNew w m
  message_new w before = λ rep due others. before rep others ∙ ap not (sym (same rep) ∙ is_open rep due)

-- ---- an owner's answer

-- a peer's reference on an open session is lost where it is refused
pub far_lost : (s n : ℕ) (rep : WireRep) (D : List Deed) → is_peer s n rep.owner ≡ true → closed rep.owner D ≡ false → is_lost s n rep D ≡ is_refused (turns s n rep D)
far_lost s n rep D peer up =
    let far : is_own s rep ≡ false = grind (arith, nat_tests, peer) in
    λ i. not (far i) && (not (peer i) || up i || is_refused (turns s n rep D))

-- one that is pending isn't lost
pub pending_open : (s n : ℕ) (rep : WireRep) (D : List Deed) → is_peer s n rep.owner ≡ true → closed rep.owner D ≡ false → is_pending (turns s n rep D) ≡ true → is_lost s n rep D ≡ false
pending_open s n rep D peer up pending = far_lost s n rep D peer up ∙ (waiting_stands (turns s n rep D) (pending_waits (turns s n rep D) pending)).2

module _ (s n : ℕ) (D E : List Deed) (rep : WireRep) (others : (other : WireRep) → is_same rep other ≡ false → is_lost s n other E ≡ is_lost s n other D) where
  -- once nothing is awaited any more of the owner of one reference
  ended_awaited : (old new : List WireRep) (waiting later : List Message) → AreAwaited s n old waiting D → ((other : WireRep) → is_awaited new other ≡ (not (is_same rep other) && is_awaited old other))
      → ((other : WireRep) → is_same rep other ≡ false → is_due_in later other ≡ is_due_in waiting other) → (is_due_in later rep ≡ true → is_lost s n rep E ≡ true) → AreAwaited s n new later E
  ended_awaited old new waiting later before ends left lost = λ other due.
      ends other
      ∙ elim (is_same rep other) as (λ b. is_same rep other ≡ b → (not b && is_awaited old other) ≡ not (is_lost s n other E)) [
        | true ↦ λ same. sym (ap not (subst (λ (w : WireRep). is_due_in later w ≡ true → is_lost s n w E ≡ true) (same_ref rep other same) lost due))
        | false ↦ λ differs. before other (sym (left other differs) ∙ due) ∙ ap not (sym (others other differs))
      ] refl

  -- where it is refused
  pub refused_awaited : (old new : List WireRep) (waiting : List Message) → AreAwaited s n old waiting D → ((other : WireRep) → is_awaited new other ≡ (not (is_same rep other) && is_awaited old other)) → is_lost s n rep E ≡ true → AreAwaited s n new waiting E
  refused_awaited old new waiting before ends lost = ended_awaited old new waiting waiting before ends (λ other differs. refl) (λ due. lost)

  -- where it is granted
  pub granted_awaited : (old new : List WireRep) (waiting : List Message) → AreAwaited s n old waiting D → ((other : WireRep) → is_awaited new other ≡ (not (is_same rep other) && is_awaited old other)) → AreAwaited s n new (map (granted_message rep) waiting) E
  granted_awaited old new waiting before ends = ended_awaited old new waiting (map (granted_message rep) waiting) before ends
      (λ other differs. ap (nat_lt 0) (others_due rep other waiting differs))
      (λ due. (let bad : true ≡ false = sym due ∙ ap (nat_lt 0) (granted_due rep waiting) in absurd (cc)))
