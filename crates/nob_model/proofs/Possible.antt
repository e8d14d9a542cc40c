-- What a space could do next is what its right answers do not refuse, limits and free numbers aside.
use Rattle.std.proofs.Common.{◌≡◌, ℕ, ◌≤◌, ◌&&◌, ◌||◌, not, Bool, true, false, cond, List, [], ◌∷◌, map, filter, Option, Some, None, Result, Ok, Err, refl, sym, ap, subst, ◌∙◌, arith}
use Rattle.std.specs.Prelude.{◌==◌, ◌≢◌, ⊤, nat_le, min, is_some, is_none, MatchOption}
use Rattle.std.specs.List.{list_any}
use Rattle.std.proofs.lemmas.Bool.{eqb-true, eq-eqb, and_parts, and_from, not_from_false, not-true, leb-true, leb-false, or_left, or_right, both_ways}
use Rattle.nob_ids.specs.Names.{is_same}
use Rattle.nob_ids.specs.declared.reason.Reason.{Reason}
use Rattle.nob_ids.specs.declared.wire_rep.WireRep.{WireRep}
use Rattle.nob_frame.specs.declared.frame.Frame.{Frame}
use Rattle.nob_item.specs.declared.item.Item.{Item}
use Rattle.nob_item.specs.declared.item.Item.TheVariants as items
use Rattle.nob_model_session.specs.Right.{right_transmit, right_front}
use Rattle.nob_model_types.specs.declared.answer.Answer.{Answer}
use Rattle.nob_model_types.specs.declared.answer.Answer.TheVariants as answers
use Rattle.nob_model_types.specs.declared.refusal.Refusal.{Refusal}
use Rattle.nob_model_types.specs.declared.refusal.Refusal.TheVariants as refusals
use Rattle.nob_model_types.specs.declared.message.Message.{Message}
use Rattle.nob_model_types.specs.Sessions.{is_peer, closed, item_spelt}
use Rattle.nob_model_types.specs.Objects.{exports, is_exported, is_withdrawn, live}
use Rattle.nob_model_history.specs.declared.history.History.{History}
use Rattle.nob_model_history.specs.Ends.{calls_at}
use Rattle.nob_model_history.specs.Transit.{is_some_of}
use Rattle.nob_model_history.proofs.Turning.{same_ref}
use Rattle.nob_model_acting.specs.Sending.{has_numbers, unless}
use Rattle.nob_model_acting.specs.Acting.{fault_of, is_too_much, all_have_numbers, new_dirties, message_refusal, act_refusal, answer_of_act, act_on}
use Rattle.nob_model_acting.specs.Candidates.{to_settle, to_clean}
use Rattle.nob_model.specs.Right.{right_act, act_of, right_frames, settle_count, settle_of, right_settle, clean_of, right_clean, withdraw_refused, right_withdraw, right_take_reply}
use Rattle.nob_model.specs.Next.{can_withdraw, lesser, least, to_withdraw, is_not_ready}
use Rattle.nob_model.specs.Laws.{is_possible, gives_frame, ActLaw, SendLaw, SettleLaw, CleanLaw, WithdrawLaw, LeastLaw, ReplyLaw}
use Rattle.nob_model.proofs.Accepted.{err_ok, withdraw_tells}

-- ---- Act

-- a refusal that only limits and free numbers are
abbrev pub OnlyLimits : Option Refusal → Type 0
OnlyLimits None = ⊤
OnlyLimits (Some refusal) = is_possible (Err refusal) ≡ true

limits_only : (full short : Bool) → OnlyLimits (cond full (Some refusals.Limit) (cond short (Some refusals.SeqEnd) None))
limits_only true short = refl
limits_only false true = refl
limits_only false false = tt

number_only : (short : Bool) → OnlyLimits (cond short (Some refusals.SeqEnd) None)
number_only true = refl
number_only false = tt

-- an item without a fault is kept only by limits and free numbers
kept_by_limits : (s n p : ℕ) (item : Item) (h : History) → OnlyLimits (act_refusal s n p item h)
unfolding act_refusal message_refusal
kept_by_limits s n p (items.Call call target method value) h = limits_only (is_too_much s n (items.Call call target method value) h) (not (all_have_numbers (new_dirties s n (items.Call call target method value) h) h))
kept_by_limits s n p (items.Reply call status value) h = limits_only (is_too_much s n (items.Reply call status value) h) (not (all_have_numbers (new_dirties s n (items.Reply call status value) h) h))
kept_by_limits s n p (items.Settle item) h = tt
kept_by_limits s n p (items.Dirty index) h = number_only (not (has_numbers p 1 h))
kept_by_limits s n p (items.DirtyOk index) h = tt
kept_by_limits s n p (items.DirtyNo index) h = tt
kept_by_limits s n p (items.Clean index) h = tt

act_answer : (k : ℕ) (fault : Option Reason) (kept : Option Refusal) → OnlyLimits kept → is_possible (answer_of_act k fault kept) ≡ true
act_answer k (Some reason) kept only = refl
act_answer k None (Some refusal) only = only
act_answer k None None only = refl

act_item : (s n p k : ℕ) (found : Option Item) (h : History) → is_possible (act_on s n p k found h) ≡ true
unfolding act_on
act_item s n p k None h = refl
act_item s n p k (Some item) h = act_answer k (fault_of s n p item h) (act_refusal s n p item h) (kept_by_limits s n p item h)

act_front : (s n p : ℕ) (front : Option (ℕ × List ℕ)) (h : History) → is_some front ≡ is_possible (act_of s n p front h)
unfolding act_of
act_front s n p None h = refl
act_front s n p (Some front) h = sym (act_item s n p front.0 (item_spelt front.1) h)

act_step : (peer shut : Bool) (some : Bool) (rest : Result Answer Refusal) → some ≡ is_possible rest → (peer && not shut && some) ≡ is_possible (cond (not peer) (Err refusals.NoPeer) (cond shut (Err refusals.Closed) rest))
act_step false shut some rest same = refl
act_step true true some rest same = refl
act_step true false some rest same = same

pub act_law : ActLaw
unfolding right_act
act_law s n p h = act_step (is_peer s n p) (closed p h.deeds) (is_some (right_front (calls_at p h))) (act_of s n p (right_front (calls_at p h)) h) (act_front s n p (right_front (calls_at p h)) h)

-- ---- Transmit, Settle, Clean

send_step : (peer : Bool) (frames : List Frame) → (peer && is_some_of frames) ≡ gives_frame (cond (not peer) (Err refusals.NoPeer) (Ok (answers.Frames frames)))
send_step true frames = refl
send_step false frames = refl

pub send_law : SendLaw
unfolding right_frames
send_law s n p window h = send_step (is_peer s n p) (right_transmit s p window (calls_at p h))

number_step : (some : Bool) (answer : Answer) → true ≡ is_possible (cond some (Ok answer) (Err refusals.SeqEnd))
number_step true answer = refl
number_step false answer = refl

settle_found : (s n : ℕ) (found : Option Message) (h : History) → is_some found ≡ is_possible (settle_of s n found h)
unfolding settle_of
settle_found s n None h = refl
settle_found s n (Some message) h = number_step (has_numbers message.from (settle_count s n message message.item h) h) (answers.Settled message.from message.number)

pub settle_law : SettleLaw
unfolding right_settle
settle_law s n h = settle_found s n (to_settle s n h) h

clean_found : (found : Option WireRep) (h : History) → is_some found ≡ is_possible (clean_of found h)
unfolding clean_of
clean_found None h = refl
clean_found (Some rep) h = number_step (has_numbers rep.owner 1 h) (answers.Cleaned rep)

pub clean_law : CleanLaw
unfolding right_clean
clean_law s n h = clean_found (to_clean s n h) h

-- ---- Withdraw

unless_none : (refusal : Option Refusal) → is_none refusal ≡ true → unless refusal answers.Withdrawn ≡ Ok answers.Withdrawn
unless_none (Some refusal) none = cc
unless_none None none = refl

none_unless : (refusal : Option Refusal) → unless refusal answers.Withdrawn ≡ Ok answers.Withdrawn → is_none refusal ≡ true
none_unless (Some refusal) e = absurd (err_ok refusal answers.Withdrawn e)
none_unless None e = refl

pub withdraw_law : WithdrawLaw
unfolding right_withdraw
withdraw_law s index h = (unless_none (withdraw_refused s index h), none_unless (withdraw_refused s index h))

-- there is a number and it is no greater than another
abbrev pub IsAtMost : Option ℕ → ℕ → Type 0
IsAtMost None most = ⊥
IsAtMost (Some x) most = x ≤ most

min_first : (x y : ℕ) → min x y ≤ x
min_first x y = omega arith

lesser_first : (x : ℕ) (found : Option ℕ) → IsAtMost (lesser x found) x
lesser_first x None = omega arith
lesser_first x (Some y) = min_first x y

lesser_second : (x most : ℕ) (found : Option ℕ) → IsAtMost found most → IsAtMost (lesser x found) most
lesser_second x most None none = absurd none
lesser_second x most (Some y) below = let same : min x y ≤ y = omega arith in omega (arith, same, below)

lesser_passes : (test : ℕ → Bool) (x : ℕ) (found : Option ℕ) → test x ≡ true → MatchOption found ⊤ (λ y. test y ≡ true) → MatchOption (lesser x found) ⊤ (λ y. test y ≡ true)
lesser_passes test x None own rest = own
lesser_passes test x (Some y) own rest = elim (nat_le x y) as (λ (b : Bool). nat_le x y ≡ b → test (min x y) ≡ true) [
  | true ↦ λ e. let below = leb-true x y e in let same : min x y ≡ x = omega (arith, below) in ap test same ∙ own
  | false ↦ λ e. let above = leb-false x y e in let same : min x y ≡ y = omega (arith, above) in ap test same ∙ rest
] refl

passes_step : (test : ℕ → Bool) (x : ℕ) (xs : List ℕ) → MatchOption (least xs) ⊤ (λ y. test y ≡ true) → (b : Bool) → test x ≡ b → MatchOption (least (cond b (x ∷ xs) xs)) ⊤ (λ y. test y ≡ true)
passes_step test x xs rest true own = lesser_passes test x (least xs) own rest
passes_step test x xs rest false own = rest

-- the least of those that pass a test passes it
least_passes : (test : ℕ → Bool) (xs : List ℕ) → MatchOption (least (filter test xs)) ⊤ (λ x. test x ≡ true)
least_passes test [] = tt
least_passes test (x ∷ xs) = passes_step test x (filter test xs) (least_passes test xs) (test x) refl

-- whether an index stands among some
abbrev pub stands_in : ℕ → List ℕ → Bool
stands_in index xs = list_any (λ x. x == index) xs

most_step : (test : ℕ → Bool) (index x : ℕ) (kept : List ℕ) → test index ≡ true → (same : Bool) → (x == index) ≡ same → (b : Bool) → test x ≡ b → (same ≡ false → IsAtMost (least kept) index) → IsAtMost (least (cond b (x ∷ kept) kept)) index
most_step test index x kept passes true is true own rest = subst (λ (y : ℕ). IsAtMost (lesser x (least kept)) y) (eqb-true x index is) (lesser_first x (least kept))
most_step test index x kept passes true is false own rest = absurd (both_ways (test x) own (ap test (eqb-true x index is) ∙ passes))
most_step test index x kept passes false is true own rest = lesser_second x index (least kept) (rest refl)
most_step test index x kept passes false is false own rest = rest refl

or_rest : (a b : Bool) → (a || b) ≡ true → a ≡ false → b ≡ true
or_rest true b either none = cc
or_rest false b either none = either

-- the least of those that pass is no greater than any that passes
least_most : (test : ℕ → Bool) (index : ℕ) (xs : List ℕ) → test index ≡ true → stands_in index xs ≡ true → IsAtMost (least (filter test xs)) index
least_most test index [] passes there = cc
least_most test index (x ∷ xs) passes there = most_step test index x (filter test xs) passes (x == index) refl (test x) refl (λ differ. least_most test index xs passes (or_rest (x == index) (stands_in index xs) there differ))

live_step : (s index : ℕ) (rep : WireRep) (gone : ℕ → Bool) (kept : List WireRep) → gone index ≡ false → (same : Bool) → is_same (record { owner = s; index = index }) rep ≡ same → (b : Bool) → (rep.owner == s && not (gone rep.index)) ≡ b → (same ≡ false → stands_in index (map (λ (r : WireRep). r.index) kept) ≡ true) → stands_in index (map (λ (r : WireRep). r.index) (cond b (rep ∷ kept) kept)) ≡ true
live_step s index rep gone kept stays true is true own rest = or_left (rep.index == index) _ (eq-eqb rep.index index (ap (λ (r : WireRep). r.index) (sym (same_ref _ rep is))))
live_step s index rep gone kept stays true is false own rest =
    let alive : (rep.owner == s && not (gone rep.index)) ≡ true = subst (λ (r : WireRep). (r.owner == s && not (gone r.index)) ≡ true) (same_ref (record { owner = s; index = index }) rep is) (and_from (s == s) (not (gone index)) (eq-eqb s s refl) (not_from_false (gone index) stays)) in
    absurd (both_ways _ own alive)
live_step s index rep gone kept stays false is true own rest = or_right (rep.index == index) _ (rest refl)
live_step s index rep gone kept stays false is false own rest = rest refl

live_among : (s index : ℕ) (gone : ℕ → Bool) (reps : List WireRep) → gone index ≡ false → list_any (is_same (record { owner = s; index = index })) reps ≡ true → stands_in index (map (λ (r : WireRep). r.index) (filter (λ (rep : WireRep). rep.owner == s && not (gone rep.index)) reps)) ≡ true
live_among s index gone [] stays there = cc
live_among s index gone (rep ∷ reps) stays there =
    live_step s index rep gone (filter (λ (r : WireRep). r.owner == s && not (gone r.index)) reps) stays (is_same (record { owner = s; index = index }) rep) refl (rep.owner == s && not (gone rep.index)) refl
    (λ differ. live_among s index gone reps stays (or_rest (is_same (record { owner = s; index = index }) rep) _ there differ))

-- an object that Withdraw takes is no less than the one that is named
withdrawn_least : (s other : ℕ) (h : History) → right_withdraw s other h ≡ Ok answers.Withdrawn → IsAtMost (to_withdraw s h) other
withdrawn_least s other h is =
    let alive = and_parts (is_exported s other h.deeds) (not (is_withdrawn other h.deeds)) (withdraw_tells s other h is).1 in
    least_most (can_withdraw s h) other (map (λ (rep : WireRep). rep.index) (live s h.deeds)) ((withdraw_law s other h).1 is)
    (live_among s other (λ index. is_withdrawn index h.deeds) (exports h.deeds) (not-true _ alive.1) alive.0)

least_step : (s : ℕ) (h : History) (found : Option ℕ) → MatchOption found ⊤ (λ x. can_withdraw s h x ≡ true) → ((other : ℕ) → right_withdraw s other h ≡ Ok answers.Withdrawn → IsAtMost found other) → MatchOption found ((other : ℕ) → right_withdraw s other h ≢ Ok answers.Withdrawn) (λ index. (right_withdraw s index h ≡ Ok answers.Withdrawn) × ((other : ℕ) → right_withdraw s other h ≡ Ok answers.Withdrawn → index ≤ other))
least_step s h None passes most = most
least_step s h (Some index) passes most = ((withdraw_law s index h).0 passes, most)

pub least_law : LeastLaw
least_law s h = least_step s h (to_withdraw s h) (least_passes (can_withdraw s h) (map (λ (rep : WireRep). rep.index) (live s h.deeds))) (λ other is. withdrawn_least s other h is)

-- ---- TakeReply

not_ready_is : (result : Result Answer Refusal) → not (is_not_ready result) ≡ false → result ≡ Err refusals.NotReady
not_ready_is (Err refusals.NotReady) e = refl
not_ready_is _ e = cc

is_not_ready_is : (result : Result Answer Refusal) → result ≡ Err refusals.NotReady → not (is_not_ready result) ≡ false
is_not_ready_is result is = ap (λ (r : Result Answer Refusal). not (is_not_ready r)) is

pub reply_law : ReplyLaw
reply_law k h = (not_ready_is (right_take_reply k h), is_not_ready_is (right_take_reply k h))
