-- Settle: which message it takes, by the state and by the list.
use Rattle.std.proofs.Common.{◌≡◌, ℕ, ◌+◌, ◌-◌, ◌≤◌, ◌<◌, Bool, true, false, not, nat_le, ◌&&◌, ◌||◌, ◌==◌, List, [], ◌∷◌, length, find, Option, Some, None, Ok, Err, IsOk, get_or, if◌then◌else◌, refl, sym, ap, subst, ◌∙◌, arith}
use Rattle.std.specs.List.{AllByRecursion, list_any}
use Rattle.std.proofs.lemmas.Bool.{and_parts, and_right}
use Rattle.std.proofs.lemmas.Bool.Decides.{nat_tests}
use Rattle.nob_ids.specs.Names.{is_counted}
use Rattle.nob_ids.specs.declared.limits.Limits.{Limits}
use Rattle.nob_ids.specs.declared.wire_rep.WireRep.{WireRep}
use Rattle.nob_item.specs.declared.item.Item.{Item}
use Rattle.nob_item.specs.declared.item.Item.TheVariants as items
use Rattle.nob_model_session.specs.End.{handed, last_item}
use Rattle.nob_session.specs.Stands.{End, Roomy}
use Rattle.nob_session.proofs.Alike.{onward_is}
use Rattle.nob_table_rows.specs.Counts.{is_held}
use Rattle.nob_table_rows.specs.declared.standing.State.TheVariants as states
use Rattle.nob_table.specs.Table.{standing}
use Rattle.nob_model_types.specs.declared.answer.Answer.TheVariants as answers
use Rattle.nob_model_types.specs.declared.event.Event.TheVariants as events
use Rattle.nob_model_types.specs.declared.refusal.Refusal.TheVariants as refusals
use Rattle.nob_model_types.specs.Deeds.{deed_by}
use Rattle.nob_model_types.specs.declared.deed.Deed.{Deed}
use Rattle.nob_model_types.specs.declared.deed.Deed.TheVariants.{Settle}
use Rattle.nob_model_types.specs.declared.message.RefCopy.{RefCopy}
use Rattle.nob_model_types.specs.declared.message.Message.{Message}
use Rattle.nob_model_types.specs.declared.turns.OwnerAnswer.{OwnerAnswer}
use Rattle.nob_model_types.specs.declared.turns.OwnerAnswer.TheVariants as said
use Rattle.nob_model_types.specs.declared.turns.Turns.{Turns}
use Rattle.nob_model_types.specs.Messages.{is_lost_message}
use Rattle.nob_model_types.specs.Sessions.{is_peer, closed}
use Rattle.nob_model_types.specs.Turns.{turns, is_lost, is_pending, is_granted, is_refused, is_yes, is_no}
use Rattle.nob_model_history.specs.Histories.{history_of}
use Rattle.nob_model_history.specs.Ends.{calls_at}
use Rattle.nob_model_history.proofs.Turning.{pending_waits, waiting_stands}
use Rattle.nob_model.specs.Lists.{IsRightDeed}
use Rattle.nob_model.specs.Right.{right_after, right_settle, settle_of, settle_count}
use Rattle.nob_space_state.specs.Parts.{State}
use Rattle.nob_space_state.specs.Looks.{has_closed}
use Rattle.nob_space_state.specs.Shows.{far_state}
use Rattle.nob_space_state.specs.Stands.{Stands}
use Rattle.nob_space_state.proofs.Ends.{end_there}
use Rattle.nob_space_state.proofs.Finishing.{state_sound}
use Rattle.nob_space_state.proofs.Running.{IsSound, all_found}
use Rattle.nob_space_state.proofs.Told.{closed_there}
use Rattle.nob_space_items.specs.Settling.{is_denied, is_lost_here, has_lost, lost_call, given_count}
use Rattle.nob_space_items.proofs.Settleable.{is_settleable, to_settle_there}

-- ---- what is refused

-- what is granted isn't refused
pub granted_kept : (t : Turns) → is_granted t ≡ true → is_refused t ≡ false
granted_kept t granted = and_right (t.asks && t.answers == t.dirties) (is_no t.last) (one_answer t.last (and_parts _ _ granted).1)
  where
    one_answer : (last : OwnerAnswer) → is_yes last ≡ true → is_no last ≡ false
    one_answer said.Pending e = refl
    one_answer said.Granted e = refl
    one_answer said.Refused e = let bad : false ≡ true = e in absurd (cc)

-- refused in the table is refused, while the session is open
pub denied_far : (held : Bool) (t : Turns) → is_denied (far_state false held t) ≡ is_refused t
denied_far held t = elim (is_pending t) as (λ p. is_pending t ≡ p → is_denied (if p then states.Pending else if is_granted t then states.Granted else if is_refused t then states.Refused else states.Unknown) ≡ is_refused t) [
  | true ↦ λ pending. sym (waiting_stands t (pending_waits t pending)).2
  | false ↦ λ _. elim (is_granted t) as (λ g. is_granted t ≡ g → is_denied (if g then states.Granted else if is_refused t then states.Refused else states.Unknown) ≡ is_refused t) [
    | true ↦ λ granted. sym (granted_kept t granted)
    | false ↦ λ _. elim (is_refused t) as (λ r. is_denied (if r then states.Refused else states.Unknown) ≡ r) [ true ↦ refl | false ↦ refl ]
  ] refl
] refl

module _ {s n : ℕ} {limits : Limits} {st : State} {D : List Deed} (stands : Stands s n limits st D) where
  -- a counted reference is lost by the state where it is by the list
  lost_there : (rep : WireRep) → is_counted rep ≡ true → is_lost_here s n st rep ≡ is_lost s n rep D
  lost_there rep counted = elim (rep.owner == s) as (λ b. rep.owner == s ≡ b → (not b && (not (is_peer s n rep.owner) || has_closed st.sessions rep.owner || is_denied (standing st.table rep).state)) ≡ (not b && (not (is_peer s n rep.owner) || closed rep.owner D || is_refused (turns s n rep D)))) [
    | true ↦ λ own. refl
    | false ↦ λ far.
        let state = stands.table.far rep counted far in
        ap (λ c. not (is_peer s n rep.owner) || c || is_denied (standing st.table rep).state) (closed_there stands rep.owner)
        ∙ elim (closed rep.owner D) as (λ c. (standing st.table rep).state ≡ far_state c (is_held (standing st.table rep).counts) (turns s n rep D) → (not (is_peer s n rep.owner) || c || is_denied (standing st.table rep).state) ≡ (not (is_peer s n rep.owner) || c || is_refused (turns s n rep D))) [
          | true ↦ λ _. elim (not (is_peer s n rep.owner)) as (λ p. (p || true || is_denied (standing st.table rep).state) ≡ (p || true || is_refused (turns s n rep D))) [ true ↦ refl | false ↦ refl ]
          | false ↦ λ is. ap (λ r. not (is_peer s n rep.owner) || false || r) (ap is_denied is ∙ denied_far (is_held (standing st.table rep).counts) (turns s n rep D))
        ] state
  ] refl

  copies_lost : (copies : List RefCopy) → AllByRecursion (λ (copy : RefCopy). is_counted copy.rep ≡ true) copies → list_any (λ (copy : RefCopy). is_lost_here s n st copy.rep) copies ≡ list_any (λ (copy : RefCopy). is_lost s n copy.rep D) copies
  copies_lost [] all = refl
  copies_lost (copy ∷ copies) all = λ i. lost_there copy.rep all.0 i || copies_lost copies all.1 i

  -- nothing is to be settled
  pub settle_none : find (is_settleable st) st.work.waiting ≡ None → right_settle s n (history_of s n D) ≡ Err refusals.Nothing
  unfolding right_settle settle_of
  settle_none none = ap (λ found. settle_of s n found (history_of s n D)) (to_settle_there stands ∙ none)

  module _ (m : Message) (found : find (is_settleable st) st.work.waiting ≡ Some m) where
    pub message_sound : IsSound s n m
    message_sound = (all_found (IsSound s n) (is_settleable st) st.work.waiting m (state_sound stands 0).waiting found).0

    -- it is lost by the state where it is by the list
    pub has_lost_there : has_lost s n st m ≡ is_lost_message s n D m
    has_lost_there = copies_lost m.copies message_sound.counted

    count_of : (item : Item) → settle_count s n m item (history_of s n D) ≡ given_count (lost_call item (has_lost s n st m))
    count_of (items.Call call target method value) = ap (λ b. if b then 2 else 1) (sym has_lost_there) ∙ elim (has_lost s n st m) as (λ b. (if b then 2 else 1) ≡ given_count (lost_call (items.Call call target method value) b)) [ true ↦ refl | false ↦ refl ]
    count_of (items.Reply call status value) = refl
    count_of (items.Settle item) = refl
    count_of (items.Dirty index) = refl
    count_of (items.DirtyOk index) = refl
    count_of (items.DirtyNo index) = refl
    count_of (items.Clean index) = refl

    module _ (end : Roomy) (is : end ≡ get_or st.sessions (m.from - 1) end) where
      count_there : end.end.handed ≡ length (handed (calls_at m.from (history_of s n D)))
      count_there = ap (λ (e : End). e.handed) (onward_is (end_there s n limits st.sessions (history_of s n D) m.from end stands.ends message_sound.peer is).2)

      settle_by : (b : Bool) → nat_le (length (handed (calls_at m.from (history_of s n D))) + given_count (lost_call m.item (has_lost s n st m))) last_item ≡ b → right_settle s n (history_of s n D) ≡ (if b then Ok (answers.Settled m.from m.number) else Err refusals.SeqEnd)
      unfolding right_settle settle_of
      settle_by b free =
          ap (λ one. settle_of s n one (history_of s n D)) (to_settle_there stands ∙ found)
          ∙ ap (λ c. if nat_le (length (handed (calls_at m.from (history_of s n D))) + c) last_item then Ok (answers.Settled m.from m.number) else Err refusals.SeqEnd) (count_of m.item)
          ∙ ap (λ (f : Bool). if f then Ok (answers.Settled m.from m.number) else Err refusals.SeqEnd) free

      -- the session with its sender has too few numbers left
      pub settle_full : last_item - end.end.handed < given_count (lost_call m.item (has_lost s n st m)) → right_settle s n (history_of s n D) ≡ Err refusals.SeqEnd
      settle_full few = let count = count_there in settle_by false (grind (arith, nat_tests, few, count))

      -- else it is settled
      pub settle_right : given_count (lost_call m.item (has_lost s n st m)) ≤ last_item - end.end.handed → 1 ≤ given_count (lost_call m.item (has_lost s n st m)) → right_settle s n (history_of s n D) ≡ Ok (answers.Settled m.from m.number)
      settle_right free some = let count = count_there in settle_by true (grind (arith, nat_tests, free, some, count))

      pub settle_wants : given_count (lost_call m.item (has_lost s n st m)) ≤ last_item - end.end.handed → 1 ≤ given_count (lost_call m.item (has_lost s n st m)) → IsOk (right_settle s n (history_of s n D))
      settle_wants free some = subst IsOk (sym (settle_right free some)) refl

-- something is given
pub some_given : (call : Option ℕ) → 1 ≤ given_count call
some_given None = omega arith
some_given (Some call) = omega arith

pub settle_is : (s n : ℕ) (limits : Limits) (D : List Deed) (p k : ℕ) → right_settle s n (history_of s n D) ≡ Ok (answers.Settled p k) → IsRightDeed s n limits (Settle p k) D
unfolding right_after
settle_is s n limits D p k is = (events.Settle, ap (deed_by events.Settle) is)
