-- Client and owner keep to Calls and Replies.
use Rattle.std.proofs.Common.{◌≡◌, ℕ, ◌+◌, ◌≤◌, true, false, List, ◌++◌, refl, sym, ap, ◌∙◌, arith, ◌⊎◌, inl, inr}
use Rattle.std.specs.Prelude.{◌==◌}
use Rattle.std.specs.List.{list_any}
use Rattle.std.proofs.lemmas.Bool.{eq-eqb, both_ways}
use Rattle.nob_ids.specs.declared.limits.Limits.{Limits}
use Rattle.nob_pickle.specs.declared.value.Value.{Value}
use Rattle.nob_item.specs.declared.item.Item.{Item}
use Rattle.nob_item.specs.declared.item.Item.TheVariants as items
use Rattle.nob_model_types.specs.declared.entry.Entry.{Entry}
use Rattle.nob_model_types.specs.Sessions.{closed}
use Rattle.nob_model_types.specs.Messages.{replies_to}
use Rattle.nob_model_work.specs.Work.{work}
use Rattle.nob_model_history.specs.Transit.{sent}
use Rattle.nob_model_acting.specs.Acting.{awaits_reply}
use Rattle.nob_model_journal.specs.Journals.{deeds_at, history_at, closed_at, number_at, sent_in, sent_now, sent_to, acted_from}
use Rattle.nob_model_journal.specs.Runs.{WorldRun}
use Rattle.nob_model_invariant.specs.Typed.{AreOfTypes}
use Rattle.nob_model_invariant.specs.Asking.{items_among}
use Rattle.nob_model_invariant.proofs.Entries.{right_deeds_at}
use Rattle.nob_model_invariant.proofs.Listings.{items_split}
use Rattle.nob_model_invariant.proofs.BySession.{bounded_in}
use Rattle.nob_model_invariant.proofs.Order.{in_order_now}
use Rattle.nob_model_invariant.proofs.Places.{IsNext, rest_next}
use Rattle.nob_model_invariant.specs.Counting.{count_of, makes_call, calls_outstanding}
use Rattle.nob_model_invariant.specs.ArrivalLaws.{AnswersLaw}
use Rattle.nob_model_invariant.proofs.Counts.{one_if, count_first, count_append}
use Rattle.nob_model_invariant.proofs.Fair.{calls_fair}
use Rattle.nob_model_invariant.proofs.Called.{fewer_in, called_once, all_answered, IsAnswered}

module _ (n : ℕ) (limits : ℕ → Limits) (J : List Entry) (run : WorldRun n limits J) (typed : AreOfTypes J) where
  once_called : (c o session k : ℕ) → count_of (makes_call k) (sent_in n c o session J) ≤ 1
  once_called c o session k =
      let all = (called_once o k c n (limits c) (deeds_at c J) (right_deeds_at n limits J run c)).0 in
      let fewer = fewer_in (makes_call k) o session (sent (history_at c n J)) in
      omega (arith, all, fewer)

  -- no more Calls are acted on than sent
  fewer_acted : (c o k : ℕ) → count_of (makes_call k) (items_among (acted_from c o J)) ≤ count_of (makes_call k) (sent_to n c o J)
  fewer_acted c o k =
      let begins = in_order_now n limits J run typed c o in
      let whole = sym (count_append (makes_call k) (items_among (acted_from c o J)) (items_among begins.0)) ∙ ap (count_of (makes_call k)) (items_split n c o J begins) in
      omega (arith, whole)

  fair : (o c k : ℕ) → calls_outstanding c (number_at o c J) k (work o n (deeds_at o J)) + count_of (replies_to k) (sent_now n o c J) ≤ count_of (makes_call k) (items_among (acted_from c o J))
  fair o c k = calls_fair c k o n (limits o) (deeds_at o J) (right_deeds_at n limits J run o)

  present_called : (o c k : ℕ) → count_of (replies_to k) (sent_now n o c J) ≤ count_of (makes_call k) (sent_to n c o J)
  present_called o c k = let all = fair o c k in let few = fewer_acted c o k in omega (arith, all, few)

more_calls : (k : ℕ) (xs ys : List Item) → count_of (makes_call k) xs ≤ count_of (makes_call k) (xs ++ ys)
more_calls k xs ys = let whole = count_append (makes_call k) xs ys in omega (arith, whole)

-- in each session an owner sent no more Replies to a Call than the client sent Calls of the number
replies_called : (n : ℕ) (limits : ℕ → Limits) (J : List Entry) → WorldRun n limits J → AreOfTypes J → (o c session k : ℕ) → count_of (replies_to k) (sent_in n o c session J) ≤ count_of (makes_call k) (sent_in n c o session J)
replies_called n limits J run typed o c session k =
    bounded_in n o c session limits (count_of (replies_to k)) (count_of (makes_call k)) refl (more_calls k) (λ before run_before typed_before. present_called n limits before run_before typed_before o c k) J run typed

module _ (n : ℕ) (limits : ℕ → Limits) (J : List Entry) (run : WorldRun n limits J) (typed : AreOfTypes J) where
  once_replied : (o c session k : ℕ) → count_of (replies_to k) (sent_in n o c session J) ≤ 1
  once_replied o c session k =
      let all = replies_called n limits J run typed o c session k in
      let one = once_called n limits J run typed c o session k in
      omega (arith, all, one)

  -- how a Call stands on a session that is open
  waits_open : (c o k : ℕ) → closed_at c o J ≡ false → 1 ≤ count_of (makes_call k) (sent_now n c o J) → (1 ≤ count_of (replies_to k) (items_among (acted_from o c J))) ⊎ (list_any (awaits_reply o k) (work c n (deeds_at c J)).calls ≡ true)
  waits_open c o k up some = by (all_answered o k c n (limits c) (deeds_at c J) (right_deeds_at n limits J run c) some)
    where
      by : IsAnswered o k c n (deeds_at c J) → (1 ≤ count_of (replies_to k) (items_among (acted_from o c J))) ⊎ (list_any (awaits_reply o k) (work c n (deeds_at c J)).calls ≡ true)
      by (inl shut) = absurd (both_ways (closed o (deeds_at c J)) up shut)
      by (inr answered) = answered

  -- a Reply that comes next is to a call that waits for it
  pub reply_awaited : (o c call status : ℕ) (value : Value) → closed_at c o J ≡ false → IsNext n o c (items.Reply call status value) J → list_any (awaits_reply o call) (work c n (deeds_at c J)).calls ≡ true
  reply_awaited o c call status value up next =
      let begins = in_order_now n limits J run typed o c in
      let rest = rest_next n o c (items.Reply call status value) J begins next in
      let behind : count_of (replies_to call) (items_among begins.0) ≡ one_if (call == call) + count_of (replies_to call) (items_among rest.0) = ap (λ pairs. count_of (replies_to call) (items_among pairs)) rest.1 ∙ count_first (replies_to call) (items.Reply call status value) (items_among rest.0) in
      let own : one_if (call == call) ≡ 1 = ap one_if (eq-eqb call call refl) in
      let whole = sym (count_append (replies_to call) (items_among (acted_from o c J)) (items_among begins.0)) ∙ ap (count_of (replies_to call)) (items_split n o c J begins) in
      let one = once_replied o c (number_at c o J) call in
      let all = replies_called n limits J run typed o c (number_at c o J) call in
      let some : 1 ≤ count_of (makes_call call) (sent_now n c o J) = omega (arith, behind, own, whole, all) in
      let none : count_of (replies_to call) (items_among (acted_from o c J)) ≡ 0 = omega (arith, behind, own, whole, one) in
      by none (waits_open c o call up some)
    where
      by : count_of (replies_to call) (items_among (acted_from o c J)) ≡ 0 → (1 ≤ count_of (replies_to call) (items_among (acted_from o c J))) ⊎ (list_any (awaits_reply o call) (work c n (deeds_at c J)).calls ≡ true) → list_any (awaits_reply o call) (work c n (deeds_at c J)).calls ≡ true
      by none (inl some) = absurd (omega (arith, none, some))
      by none (inr waits) = waits

pub answers_law : AnswersLaw
answers_law n limits J run typed = record {
  called_once = once_called n limits J run typed;
  replied_once = once_replied n limits J run typed;
  replied_called = fair n limits J run typed;
  awaited = waits_open n limits J run typed;
}
