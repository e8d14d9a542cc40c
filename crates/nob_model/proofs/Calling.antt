-- The calls that right deeds make on the end with each peer are right calls on that end.
use Rattle.std.proofs.Common.{◌≡◌, ℕ, suc, ◌+◌, ◌≤◌, ◌<◌, ◌&&◌, not, Bool, true, false, cond, List, [], ◌∷◌, length, map, filter, Option, Some, None, Result, Ok, Err, refl, sym, ap, subst, ◌∙◌, arith, ◌⊎◌, inl, inr}
use Rattle.std.specs.Prelude.{◌==◌, ◌||◌, nat_le, nat_lt, is_some}
use Rattle.std.specs.List.{AllByRecursion, list_all}
use Rattle.std.proofs.lemmas.List.{length_push}
use Rattle.std.proofs.lemmas.Bool.{eqb-true, eq-eqb, and_parts, and_from, both_ways, not-true, not-false, leb-true, le-leb, lt-leb, lt-ltb}
use Rattle.nob_ids.specs.declared.limits.Limits.{Limits}
use Rattle.nob_ids.specs.declared.reason.Reason.{Reason}
use Rattle.nob_ids.specs.declared.reason.Reason.TheVariants.{PeerClosed, RetriesUsedUp, BadItem, Asked}
use Rattle.nob_ids.specs.declared.wire_rep.WireRep.{WireRep}
use Rattle.nob_frame.specs.Kinds.{is_close}
use Rattle.nob_item.specs.Kinds.{counted_in}
use Rattle.nob_item.specs.declared.item.Item.{Item}
use Rattle.nob_item.specs.declared.item.Item.TheVariants as items
use Rattle.nob_model_session.specs.End.{number, seen, last_session, last_item, handed, is_open, unacknowledged, transmitted, is_out, ticks}
use Rattle.nob_model_session.specs.Right as end
use Rattle.nob_model_session.specs.Right.{queue_limit, is_limited, right_send, right_transmit, is_of_pair, taken_by, right_arrive, right_front, right_tick, right_close, is_free_number, right_reopen}
use Rattle.nob_model_session.specs.Accepting.{AllCame}
use Rattle.nob_model_session.specs.declared.refusal.EndRefusal.{EndRefusal}
use Rattle.nob_model_session.specs.declared.refusal.EndRefusal.TheVariants as end_refusals
use Rattle.nob_model_session.specs.declared.entry.Kind.{Kind}
use Rattle.nob_model_session.specs.declared.entry.Kind.TheVariants.{Limited, Note}
use Rattle.nob_model_session.specs.declared.entry.Ending.{Ending}
use Rattle.nob_model_session.specs.declared.entry.Arrived.{Arrived}
use Rattle.nob_model_session.specs.declared.entry.Arrived.TheVariants as arrived
use Rattle.nob_model_session.specs.declared.entry.EndEntry.{EndEntry}
use Rattle.nob_model_session.specs.declared.entry.EndEntry.TheVariants as ends
use Rattle.nob_model_session.proofs.Arriving.{right_came}
use Rattle.nob_model_types.specs.declared.event.Outcome.{Outcome}
use Rattle.nob_model_types.specs.declared.event.Outcome.TheVariants as outcomes
use Rattle.nob_model_types.specs.declared.refusal.Refusal.{Refusal}
use Rattle.nob_model_types.specs.declared.refusal.Refusal.TheVariants as refusals
use Rattle.nob_model_types.specs.declared.deed.Deed.{Deed}
use Rattle.nob_model_types.specs.declared.deed.Deed.TheVariants as did
use Rattle.nob_model_types.specs.declared.deed.Cause.{Cause}
use Rattle.nob_model_types.specs.declared.deed.Cause.TheVariants as causes
use Rattle.nob_model_types.specs.declared.message.Message.{Message}
use Rattle.nob_model_types.specs.Sessions.{is_peer, closed, number as deed_number}
use Rattle.nob_model_types.specs.Objects.{is_live, is_exported}
use Rattle.nob_model_types.specs.Turns.{turns, wants_dirty, is_usable}
use Rattle.nob_model_types.specs.Messages.{is_lost_message}
use Rattle.nob_model_work.specs.declared.gifts.Gift.{Gift}
use Rattle.nob_model_work.specs.declared.work.Run.{Run}
use Rattle.nob_model_work.specs.Work.{work}
use Rattle.nob_model_work.specs.Gifts.{once, dirty_for, dirties_for, answer_to, gifts_of_act, lost_call_reply, gifts_of_settle, status_of, value_of, reply_to, gifts_of_finish, gifts_of, gifts}
use Rattle.nob_model_history.specs.declared.history.History.{History}
use Rattle.nob_model_history.specs.Histories.{history_of}
use Rattle.nob_model_history.specs.Ends.{kind_of, items_to, payload_of, with_sends, own_calls, call_of_closing, calls_at}
use Rattle.nob_model_history.specs.Transit.{is_idle, by_last_dirty}
use Rattle.nob_model_history.proofs.Inbox.{calls_sent, sends_front, open_calls}
use Rattle.nob_model_history.proofs.Sessions.{number_is}
use Rattle.nob_model_acting.specs.Sending.{refusal_in, send_refused, has_numbers}
use Rattle.nob_model_acting.specs.Acting.{new_dirties, has_numbers_among, all_have_numbers, is_too_much, message_refusal, act_refusal}
use Rattle.nob_model.specs.Right.{right_after, settle_count}
use Rattle.nob_model.specs.Lists.{IsRightDeed, AreRightDeeds}
use Rattle.nob_model.specs.Laws.{AreRightCalls, CallsLaw}
use Rattle.nob_model.proofs.Doing.{was_answered}
use Rattle.nob_model.proofs.Accepted.{found_passes, call_tells, finish_tells, act_tells, fault_tells, clean_tells, transmit_tells, arrive_tells, arrive_end_tells, tick_tells, tick_end_tells, close_tells}
use Rattle.nob_model.proofs.Reopening.{open_closed, open_number, open_seen, open_last}
use Rattle.nob_model.proofs.Premises.{in_turn, front_item}
use Rattle.nob_model.proofs.Waiting.{all_weaker, all_filter, settled_message}

-- ---- one send

-- a refusal is there
pub refused_none : (refusal : Refusal) → Some refusal ≡ None → ⊥
refused_none refusal e = cc

free_step : (shut full short : Bool) (number : ℕ) → refusal_in (cond shut (Err end_refusals.Closed) (cond full (Err end_refusals.QueueFull) (cond short (Err end_refusals.SeqEnd) (Ok number)))) ≡ None → Ok number ≡ cond shut (Err end_refusals.Closed) (cond full (Err end_refusals.QueueFull) (cond short (Err end_refusals.SeqEnd) (Ok number)))
free_step true full short number none = absurd (refused_none refusals.Closed none)
free_step false true short number none = absurd (refused_none refusals.QueueFull none)
free_step false false true number none = absurd (refused_none refusals.SeqEnd none)
free_step false false false number none = refl

-- a send that isn't refused is answered with the next number
free_send : (kind : Kind) (calls : List EndEntry) → refusal_in (right_send kind calls) ≡ None → Ok (length (handed calls) + 1) ≡ right_send kind calls
free_send kind calls none = free_step (not (is_open calls)) (is_limited kind && nat_le queue_limit (length (unacknowledged calls))) (nat_le last_item (length (handed calls))) (length (handed calls) + 1) none

note_step : (up short : Bool) (number : ℕ) → up ≡ true → short ≡ false → Ok number ≡ cond (not up) (Err end_refusals.Closed) (cond short (Err end_refusals.SeqEnd) (Ok number))
note_step true true number up free = cc
note_step true false number up free = refl
note_step false short number up free = cc

-- a note is sent on an open end with a free number
note_send : (calls : List EndEntry) → is_open calls ≡ true → length (handed calls) < last_item → Ok (length (handed calls) + 1) ≡ right_send Note calls
note_send calls up free = note_step (is_open calls) (nat_le last_item (length (handed calls))) (length (handed calls) + 1) up (lt-leb last_item (length (handed calls)) free)

-- ---- sends one after another

below : (a b most : ℕ) → a + suc b ≤ most → a < most
below a b most room = omega (arith, room)

one_further : (a b most next : ℕ) → a + suc b ≤ most → next ≡ a + 1 → next + b ≤ most
one_further a b most next room is = omega (arith, room, is)

-- notes for which there are free numbers are sent on an open end
notes_right : (s p : ℕ) (limits : Limits) (notes : List Item) (calls : List EndEntry) → AllByRecursion (λ (item : Item). kind_of item ≡ Note) notes → is_open calls ≡ true → length (handed calls) + length notes ≤ last_item → AreRightCalls s p limits calls → AreRightCalls s p limits (with_sends notes calls)
notes_right s p limits [] calls are up room right = right
notes_right s p limits (item ∷ notes) calls are up room right =
    let call : EndEntry = ends.Send (payload_of item) (kind_of item) (Ok (length (handed calls) + 1)) in
    let next : Ok (length (handed calls) + 1) ≡ right_send (kind_of item) calls = note_send calls up (below (length (handed calls)) (length notes) last_item room) ∙ ap (λ (kind : Kind). right_send kind calls) (sym are.0) in
    notes_right s p limits notes (call ∷ calls) are.1 up (one_further (length (handed calls)) (length notes) last_item (length (handed (call ∷ calls))) room (length_push (handed calls) (payload_of item))) (next, right)

-- ---- gifts

-- a gift is a note to a peer on a session that is open here, with free numbers for all among these that go there
abbrev pub Reaches : (s n : ℕ) → List Deed → List Gift → Gift → Type 0
Reaches s n D all gift = (kind_of gift.item ≡ Note) × (closed gift.to D ≡ false) × (has_numbers gift.to (length (items_to gift.to all)) (history_of s n D) ≡ true)

items_if : (P : Item → Type 0) (p : ℕ) (b : Bool) (gift : Gift) (more : List Gift) → P gift.item → AllByRecursion P (map (λ (one : Gift). one.item) more) → AllByRecursion P (map (λ (one : Gift). one.item) (cond b (gift ∷ more) more))
items_if P p true gift more own rest = (own, rest)
items_if P p false gift more own rest = rest

-- what each gift is, each item to p is
items_all : (P : Item → Type 0) (p : ℕ) (more : List Gift) → AllByRecursion (λ (gift : Gift). P gift.item) more → AllByRecursion P (items_to p more)
items_all P p [] all = tt
items_all P p (gift ∷ more) all = items_if P p (gift.to == p) gift (filter (λ (one : Gift). one.to == p) more) all.0 (items_all P p more all.1)

none_or_step : (C : Type 0) (p : ℕ) (b : Bool) (gift : Gift) (more : List Gift) → (b ≡ true → C) → (map (λ (one : Gift). one.item) more ≡ []) ⊎ C → (map (λ (one : Gift). one.item) (cond b (gift ∷ more) more) ≡ []) ⊎ C
none_or_step C p true gift more own rest = inr (own refl)
none_or_step C p false gift more own rest = rest

-- nothing goes to p, or what a gift to p tells
none_or : (C : Type 0) (p : ℕ) (more : List Gift) → AllByRecursion (λ (gift : Gift). (gift.to == p) ≡ true → C) more → (items_to p more ≡ []) ⊎ C
none_or C p [] all = inl refl
none_or C p (gift ∷ more) all = none_or_step C p (gift.to == p) gift (filter (λ (one : Gift). one.to == p) more) all.0 (none_or C p more all.1)

fewer_step : (p : ℕ) (kept own : Bool) (gift : Gift) (less more : List Gift) → length (items_to p less) ≤ length (items_to p more) → (gift.to == p) ≡ own → length (items_to p (cond kept (gift ∷ less) less)) ≤ length (map (λ (one : Gift). one.item) (cond own (gift ∷ filter (λ (one : Gift). one.to == p) more) (filter (λ (one : Gift). one.to == p) more)))
fewer_step p true true gift less more fewer own = subst (λ (b : Bool). length (map (λ (one : Gift). one.item) (cond b (gift ∷ filter (λ (one : Gift). one.to == p) less) (filter (λ (one : Gift). one.to == p) less))) ≤ suc (length (items_to p more))) (sym own) (let most : suc (length (items_to p less)) ≤ suc (length (items_to p more)) = omega (arith, fewer) in most)
fewer_step p true false gift less more fewer own = subst (λ (b : Bool). length (map (λ (one : Gift). one.item) (cond b (gift ∷ filter (λ (one : Gift). one.to == p) less) (filter (λ (one : Gift). one.to == p) less))) ≤ length (items_to p more)) (sym own) fewer
fewer_step p false true gift less more fewer own = omega (arith, fewer)
fewer_step p false false gift less more fewer own = fewer

-- of some gifts no more go to p than of all
fewer_items : (p : ℕ) (test : Gift → Bool) (more : List Gift) → length (items_to p (filter test more)) ≤ length (items_to p more)
fewer_items p test [] = omega arith
fewer_items p test (gift ∷ more) = fewer_step p (test gift) (gift.to == p) gift (filter test more) more (fewer_items p test more) refl

-- an end is open where the session hasn't closed
up_where : (s n p : ℕ) (D : List Deed) → closed p D ≡ false → is_open (calls_at p (history_of s n D)) ≡ true
up_where s n p D still = open_calls s n p D ∙ ap not still

-- there is room for what goes to p
abbrev pub HasRoom : (s n p : ℕ) → List Deed → List Item → Type 0
HasRoom s n p D more = (is_open (calls_at p (history_of s n D)) ≡ true) × (length (handed (calls_at p (history_of s n D))) + length more ≤ last_item)

notes_step : (s n : ℕ) (limits : Limits) (p : ℕ) (D : List Deed) (notes : List Item) → AllByRecursion (λ (item : Item). kind_of item ≡ Note) notes → (notes ≡ []) ⊎ HasRoom s n p D notes → AreRightCalls s p limits (calls_at p (history_of s n D)) → AreRightCalls s p limits (with_sends notes (calls_at p (history_of s n D)))
notes_step s n limits p D notes are (inl none) right = subst (λ (more : List Item). AreRightCalls s p limits (with_sends more (calls_at p (history_of s n D)))) (sym none) right
notes_step s n limits p D notes are (inr room) right = notes_right s p limits notes (calls_at p (history_of s n D)) are room.0 room.1 right

-- notes that reach their peers are sent to p
gifts_right : (s n : ℕ) (limits : Limits) (p : ℕ) (D : List Deed) (test : Gift → Bool) (all : List Gift) → AllByRecursion (Reaches s n D all) all → AreRightCalls s p limits (calls_at p (history_of s n D)) → AreRightCalls s p limits (with_sends (items_to p (filter test all)) (calls_at p (history_of s n D)))
gifts_right s n limits p D test all reach right =
    let room : (gift : Gift) → Reaches s n D all gift → (gift.to == p) ≡ true → HasRoom s n p D (items_to p (filter test all)) = λ gift is own.
    let same : gift.to ≡ p = eqb-true gift.to p own in
    let free : length (handed (calls_at p (history_of s n D))) + length (items_to p all) ≤ last_item = subst (λ (q : ℕ). length (handed (calls_at q (history_of s n D))) + length (items_to q all) ≤ last_item) same (leb-true _ last_item is.2) in
    let fewer = fewer_items p test all in
    (up_where s n p D (subst (λ (q : ℕ). closed q D ≡ false) same is.1), fits (length (handed (calls_at p (history_of s n D)))) (length (items_to p all)) (length (items_to p (filter test all))) last_item free fewer) in
    notes_step s n limits p D (items_to p (filter test all)) (items_all (λ (item : Item). kind_of item ≡ Note) p (filter test all) (all_filter (λ (gift : Gift). kind_of gift.item ≡ Note) test all (all_weaker (Reaches s n D all) (λ (gift : Gift). kind_of gift.item ≡ Note) (λ gift is. is.0) all reach)))
    (none_or (HasRoom s n p D (items_to p (filter test all))) p (filter test all) (all_filter (λ (gift : Gift). (gift.to == p) ≡ true → HasRoom s n p D (items_to p (filter test all))) test all (all_weaker (Reaches s n D all) (λ (gift : Gift). (gift.to == p) ≡ true → HasRoom s n p D (items_to p (filter test all))) room all reach)))
    right
  where
    fits : (a b c most : ℕ) → a + b ≤ most → c ≤ b → a + c ≤ most
    fits a b c most room less = omega (arith, room, less)

-- ---- one limited item

one_step : (s n : ℕ) (limits : Limits) (p : ℕ) (D : List Deed) (kept own : Bool) (gift : Gift) → (gift.to == p) ≡ own → kind_of gift.item ≡ Limited → send_refused gift.to Limited (history_of s n D) ≡ None → AreRightCalls s p limits (calls_at p (history_of s n D)) → AreRightCalls s p limits (with_sends (items_to p (cond kept (gift ∷ []) [])) (calls_at p (history_of s n D)))
one_step s n limits p D false own gift is kind free right = right
one_step s n limits p D true false gift is kind free right = subst (λ (b : Bool). AreRightCalls s p limits (with_sends (map (λ (one : Gift). one.item) (cond b (gift ∷ []) [])) (calls_at p (history_of s n D)))) (sym is) right
one_step s n limits p D true true gift is kind free right =
    let calls : List EndEntry = calls_at p (history_of s n D) in
    let own : Ok (length (handed calls) + 1) ≡ right_send Limited calls = free_send Limited calls (subst (λ (q : ℕ). send_refused q Limited (history_of s n D) ≡ None) (eqb-true gift.to p is) free) in
    subst (λ (b : Bool). AreRightCalls s p limits (with_sends (map (λ (one : Gift). one.item) (cond b (gift ∷ []) [])) calls)) (sym is) (own ∙ ap (λ (k : Kind). right_send k calls) (sym kind), right)

-- ---- what each deed gives

dirties_note : (reps : List WireRep) → AllByRecursion (λ (gift : Gift). kind_of gift.item ≡ Note) (map dirty_for reps)
unfolding dirty_for
dirties_note [] = tt
dirties_note (rep ∷ reps) = (refl, dirties_note reps)

open_if : (D : List Deed) (b : Bool) (rep : WireRep) (reps : List WireRep) → (b ≡ true → closed rep.owner D ≡ false) → AllByRecursion (λ (gift : Gift). closed gift.to D ≡ false) (map dirty_for reps) → AllByRecursion (λ (gift : Gift). closed gift.to D ≡ false) (map dirty_for (cond b (rep ∷ reps) reps))
unfolding dirty_for
open_if D true rep reps own rest = (own refl, rest)
open_if D false rep reps own rest = rest

dirties_open : (D : List Deed) (test : WireRep → Bool) → ((rep : WireRep) → test rep ≡ true → closed rep.owner D ≡ false) → (reps : List WireRep) → AllByRecursion (λ (gift : Gift). closed gift.to D ≡ false) (map dirty_for (filter test reps))
dirties_open D test up [] = tt
dirties_open D test up (rep ∷ reps) = open_if D (test rep) rep (filter test reps) (up rep) (dirties_open D test up reps)

all_from : {X : Type 0} (test : X → Bool) (xs : List X) → list_all test xs ≡ true → AllByRecursion (λ (x : X). test x ≡ true) xs
all_from test [] all = tt
all_from test (x ∷ xs) all = let parts = and_parts (test x) (list_all test xs) all in (parts.0, all_from test xs parts.1)

all_three : {X : Type 0} (P Q R : X → Type 0) (xs : List X) → AllByRecursion P xs → AllByRecursion Q xs → AllByRecursion R xs → AllByRecursion (λ (x : X). P x × Q x × R x) xs
all_three P Q R [] ps qs rs = tt
all_three P Q R (x ∷ xs) ps qs rs = ((ps.0, qs.0, rs.0), all_three P Q R xs ps.1 qs.1 rs.1)

kept_none : (full short : Bool) → cond full (Some refusals.Limit) (cond short (Some refusals.SeqEnd) None) ≡ None → short ≡ false
kept_none true short none = absurd (refused_none refusals.Limit none)
kept_none false true none = absurd (refused_none refusals.SeqEnd none)
kept_none false false none = refl

-- the Dirties that a Call or a Reply wants reach their owners
dirties_reach : (s n : ℕ) (item : Item) (D : List Deed) → message_refusal s n item (history_of s n D) ≡ None → AllByRecursion (Reaches s n D (dirties_for s n D (counted_in item))) (dirties_for s n D (counted_in item))
unfolding message_refusal dirties_for
dirties_reach s n item D none =
    let h : History = history_of s n D in
    let wants : WireRep → Bool = λ (rep : WireRep). wants_dirty s n rep D (turns s n rep D) in
    let free = all_from (has_numbers_among (new_dirties s n item h) h) (new_dirties s n item h) (not-false (all_have_numbers (new_dirties s n item h) h) (kept_none (is_too_much s n item h) (not (all_have_numbers (new_dirties s n item h) h)) none)) in
    all_three _ _ _ (map dirty_for (filter wants (once (counted_in item)))) (dirties_note (filter wants (once (counted_in item))))
    (dirties_open D wants (λ rep wanted. not-true _ (and_parts _ _ (and_parts _ _ wanted).0).1) (once (counted_in item)))
    free

one_to : (s n p : ℕ) (D : List Deed) (item : Item) → kind_of item ≡ Note → closed p D ≡ false → has_numbers p 1 (history_of s n D) ≡ true → AllByRecursion (Reaches s n D (record { to = p; item = item } ∷ [])) (record { to = p; item = item } ∷ [])
one_to s n p D item note up free = ((note, up, ap (λ (b : Bool). has_numbers p (length (map (λ (one : Gift). one.item) (cond b (record { to = p; item = item } ∷ []) []))) (history_of s n D)) (eq-eqb p p refl) ∙ free), tt)

answer_reach : (s n p index : ℕ) (D : List Deed) (alive known : Bool) → closed p D ≡ false → has_numbers p 1 (history_of s n D) ≡ true → AllByRecursion (Reaches s n D (cond alive (record { to = p; item = items.DirtyOk index } ∷ []) (cond known (record { to = p; item = items.DirtyNo index } ∷ []) []))) (cond alive (record { to = p; item = items.DirtyOk index } ∷ []) (cond known (record { to = p; item = items.DirtyNo index } ∷ []) []))
answer_reach s n p index D true known up free = one_to s n p D (items.DirtyOk index) refl up free
answer_reach s n p index D false true up free = one_to s n p D (items.DirtyNo index) refl up free
answer_reach s n p index D false false up free = tt

number_none : (short : Bool) → cond short (Some refusals.SeqEnd) None ≡ None → short ≡ false
number_none true none = absurd (refused_none refusals.SeqEnd none)
number_none false none = refl

-- what acting on an item gives reaches the peers
act_reach : (s n p : ℕ) (item : Item) (D : List Deed) → closed p D ≡ false → act_refusal s n p item (history_of s n D) ≡ None → AllByRecursion (Reaches s n D (gifts_of_act s n p D (Some item))) (gifts_of_act s n p D (Some item))
unfolding gifts_of_act answer_to act_refusal
act_reach s n p (items.Call call target method value) D up none = dirties_reach s n (items.Call call target method value) D none
act_reach s n p (items.Reply call status value) D up none = dirties_reach s n (items.Reply call status value) D none
act_reach s n p (items.Settle item) D up none = tt
act_reach s n p (items.Dirty index) D up none = answer_reach s n p index D (is_live s index D) (is_exported s index D) up (not-false _ (number_none (not (has_numbers p 1 (history_of s n D))) none))
act_reach s n p (items.DirtyOk index) D up none = tt
act_reach s n p (items.DirtyNo index) D up none = tt
act_reach s n p (items.Clean index) D up none = tt

two_to : (s n p : ℕ) (D : List Deed) (item other : Item) → kind_of item ≡ Note → kind_of other ≡ Note → closed p D ≡ false → has_numbers p 2 (history_of s n D) ≡ true → AllByRecursion (Reaches s n D (record { to = p; item = item } ∷ record { to = p; item = other } ∷ [])) (record { to = p; item = item } ∷ record { to = p; item = other } ∷ [])
two_to s n p D item other note also up free =
    let first : Gift = record { to = p; item = item } in
    let second : Gift = record { to = p; item = other } in
    let both : has_numbers p (length (items_to p (first ∷ second ∷ []))) (history_of s n D) ≡ true = ap (λ (b : Bool). has_numbers p (length (map (λ (one : Gift). one.item) (cond b (first ∷ cond b (second ∷ []) []) (cond b (second ∷ []) [])))) (history_of s n D)) (eq-eqb p p refl) ∙ free in
    ((note, up, both), ((also, up, both), tt))

-- what settling a message gives reaches its sender
settle_reach : (s n p k : ℕ) (message : Message) (item : Item) (lost : Bool) (D : List Deed) → is_lost_message s n D message ≡ lost → closed p D ≡ false → has_numbers p (settle_count s n message item (history_of s n D)) (history_of s n D) ≡ true → AllByRecursion (Reaches s n D (record { to = p; item = items.Settle k } ∷ lost_call_reply p item lost)) (record { to = p; item = items.Settle k } ∷ lost_call_reply p item lost)
unfolding lost_call_reply
settle_reach s n p k message (items.Call call target method value) true D is up free = two_to s n p D (items.Settle k) _ refl refl up (ap (λ (b : Bool). has_numbers p (cond b 2 1) (history_of s n D)) (sym is) ∙ free)
settle_reach s n p k message (items.Call call target method value) false D is up free = one_to s n p D (items.Settle k) refl up (ap (λ (b : Bool). has_numbers p (cond b 2 1) (history_of s n D)) (sym is) ∙ free)
settle_reach s n p k message (items.Reply call status value) lost D is up free = one_to s n p D (items.Settle k) refl up free
settle_reach s n p k message (items.Settle item) lost D is up free = one_to s n p D (items.Settle k) refl up free
settle_reach s n p k message (items.Dirty index) lost D is up free = one_to s n p D (items.Settle k) refl up free
settle_reach s n p k message (items.DirtyOk index) lost D is up free = one_to s n p D (items.Settle k) refl up free
settle_reach s n p k message (items.DirtyNo index) lost D is up free = one_to s n p D (items.Settle k) refl up free
settle_reach s n p k message (items.Clean index) lost D is up free = one_to s n p D (items.Settle k) refl up free

clean_reach : (s n : ℕ) (rep : WireRep) (D : List Deed) (asks : Bool) → closed rep.owner D ≡ false → has_numbers rep.owner 1 (history_of s n D) ≡ true → AllByRecursion (Reaches s n D (cond asks (record { to = rep.owner; item = items.Clean rep.index } ∷ []) [])) (cond asks (record { to = rep.owner; item = items.Clean rep.index } ∷ []) [])
clean_reach s n rep D true up free = one_to s n rep.owner D (items.Clean rep.index) refl up free
clean_reach s n rep D false up free = tt

outcome_kind : (call : ℕ) (outcome : Outcome) → kind_of (items.Reply call (status_of outcome) (value_of outcome)) ≡ Limited
outcome_kind call (outcomes.Answer value) = refl
outcome_kind call (outcomes.Fault value) = refl
outcome_kind call outcomes.NoMethod = refl

reply_right : (s n : ℕ) (limits : Limits) (p q : ℕ) (item : Item) (outcome : Outcome) (D : List Deed) → send_refused q Limited (history_of s n D) ≡ None → AreRightCalls s p limits (calls_at p (history_of s n D)) → AreRightCalls s p limits (with_sends (items_to p (filter (λ (gift : Gift). is_peer s n gift.to) (reply_to q item outcome))) (calls_at p (history_of s n D)))
unfolding reply_to
reply_right s n limits p q (items.Call call target method value) outcome D free right = one_step s n limits p D (is_peer s n q) (q == p) (record { to = q; item = items.Reply call (status_of outcome) (value_of outcome) }) refl (outcome_kind call outcome) free right
reply_right s n limits p q (items.Reply call status value) outcome D free right = right
reply_right s n limits p q (items.Settle item) outcome D free right = right
reply_right s n limits p q (items.Dirty index) outcome D free right = right
reply_right s n limits p q (items.DirtyOk index) outcome D free right = right
reply_right s n limits p q (items.DirtyNo index) outcome D free right = right
reply_right s n limits p q (items.Clean index) outcome D free right = right

-- the calls on the end with p, once what a right deed gave is sent, are right
sent_right : (s n : ℕ) (limits : Limits) (p : ℕ) (deed : Deed) (D : List Deed) → AreRightDeeds s n limits (deed ∷ D) → AreRightCalls s p limits (calls_at p (history_of s n D)) → AreRightCalls s p limits (calls_sent s n p deed D)
unfolding right_after gifts gifts_of gifts_of_finish gifts_of_settle
sent_right s n limits p (did.Call target method value call) D right are =
    let told = call_tells s n target value call (history_of s n D) (was_answered s n limits (did.Call target method value call) D right.0) in
    one_step s n limits p D (is_peer s n target.owner) (target.owner == p) (record { to = target.owner; item = items.Call call target.index method value }) refl refl told.6 are
sent_right s n limits p (did.Finish job outcome) D right are =
    let told = finish_tells s job outcome (history_of s n D) (was_answered s n limits (did.Finish job outcome) D right.0) in
    subst (λ (found : Option Run). AreRightCalls s p limits (with_sends (items_to p (filter (λ (gift : Gift). is_peer s n gift.to) (gifts_of_finish outcome found))) (calls_at p (history_of s n D)))) (sym told.1)
    (reply_right s n limits p told.0.message.from told.0.message.item outcome D told.4 are)
sent_right s n limits p (did.Act q k) D right are =
    let told = act_tells s n q k (history_of s n D) (was_answered s n limits (did.Act q k) D right.0) in
    let acted = told.2 in
    subst (λ (found : Option Item). AreRightCalls s p limits (with_sends (items_to p (filter (λ (gift : Gift). is_peer s n gift.to) (gifts_of_act s n q D found))) (calls_at p (history_of s n D)))) (sym (front_item s n q D (in_turn s n limits D right.1) k acted.0 acted.1 acted.2 acted.3))
    (gifts_right s n limits p D (λ (gift : Gift). is_peer s n gift.to) (gifts_of_act s n q D (Some acted.1)) (act_reach s n q acted.1 D told.1 acted.5) are)
sent_right s n limits p (did.Settle q k) D right are =
    let told = settled_message s n limits q k D right in
    subst (λ (found : Option Message). AreRightCalls s p limits (with_sends (items_to p (filter (λ (gift : Gift). is_peer s n gift.to) (gifts_of_settle s n q k D found))) (calls_at p (history_of s n D)))) (sym told.4)
    (gifts_right s n limits p D (λ (gift : Gift). is_peer s n gift.to) (gifts_of_settle s n q k D (Some told.0)) (settle_reach s n q k told.0 told.0.item (is_lost_message s n D told.0) D refl told.5 told.6) are)
sent_right s n limits p (did.Clean rep) D right are =
    let h : History = history_of s n D in
    let told = clean_tells s n rep h (was_answered s n limits (did.Clean rep) D right.0) in
    let idle = found_passes (is_idle s n h) (by_last_dirty h) rep told.0 in
    let up = not-true _ (and_parts _ _ (and_parts (is_usable s n rep D) _ (and_parts _ _ idle).0).0).1 in
    gifts_right s n limits p D (λ (gift : Gift). is_peer s n gift.to) _ (clean_reach s n rep D (turns s n rep D).asks up told.1) are
sent_right s n limits p deed D right are = are

-- ---- the call that a deed itself is

if_right : (s p : ℕ) (limits : Limits) (b : Bool) (call : EndEntry) (calls : List EndEntry) → (b ≡ true → end.IsRight s p limits call calls) → AreRightCalls s p limits calls → AreRightCalls s p limits (cond b (call ∷ calls) calls)
if_right s p limits true call calls own are = (own refl, are)
if_right s p limits false call calls own are = are

close_step : (up : Bool) (ending : Ending) → up ≡ true → Ok ending ≡ cond (not up) (Err end_refusals.Closed) (Ok ending)
close_step true ending is = refl
close_step false ending is = cc

-- the answer of an end that closes
closes_right : (p : ℕ) (reason : Reason) (calls : List EndEntry) → is_open calls ≡ true → Ok (record { peer = p; reason = reason }) ≡ right_close p reason calls
closes_right p reason calls up = close_step (is_open calls) (record { peer = p; reason = reason }) up

-- a result of a close that is no refusal
abbrev closes : Ending → Result Ending EndRefusal
closes ending = Ok ending

close_refused : (refusal : EndRefusal) (ending : Ending) → Err refusal ≡ closes ending → ⊥
close_refused refusal ending e = cc

closed_up : (up : Bool) (one ending : Ending) → cond (not up) (Err end_refusals.Closed) (Ok one) ≡ closes ending → up ≡ true
closed_up true one ending e = refl
closed_up false one ending e = absurd (close_refused end_refusals.Closed ending e)

-- a result of a tick that is no refusal
abbrev ticked : Option Ending → Result (Option Ending) EndRefusal
ticked ending = Ok ending

tick_refused : (refusal : EndRefusal) (ending : Option Ending) → Err refusal ≡ ticked ending → ⊥
tick_refused refusal ending e = cc

tick_none : (ending : Ending) → ticked None ≡ ticked (Some ending) → ⊥
tick_none ending e = cc

tick_same : (one ending : Ending) → ticked (Some one) ≡ ticked (Some ending) → one ≡ ending
tick_same one ending e = cc

tick_step : (up full : Bool) (one ending : Ending) → cond (not up) (Err end_refusals.Closed) (cond full (Ok (Some one)) (Ok None)) ≡ ticked (Some ending) → one ≡ ending
tick_step true true one ending e = tick_same one ending e
tick_step true false one ending e = absurd (tick_none ending e)
tick_step false full one ending e = absurd (tick_refused end_refusals.Closed (Some ending) e)

-- a result of an arrival that is no refusal
abbrev arrives : Arrived → Result Arrived EndRefusal
arrives arrival = Ok arrival

arrival_refused : (refusal : EndRefusal) (a : Arrived) → Err refusal ≡ arrives a → ⊥
arrival_refused refusal a e = cc

took_ended : (count : ℕ) (ending : Ending) → arrives (arrived.Took count) ≡ arrives (arrived.Closed ending) → ⊥
took_ended count ending e = cc

arrival_same : (one ending : Ending) → arrives (arrived.Closed one) ≡ arrives (arrived.Closed ending) → one ≡ ending
arrival_same one ending e = cc

arrive_step : (strange older shut ends_it behind : Bool) (count p : ℕ) (ending : Ending) → cond strange (Err end_refusals.Strange) (Ok (cond older (arrived.Took 0) (cond shut (arrived.Took 0) (cond ends_it (arrived.Closed (record { peer = p; reason = PeerClosed })) (cond behind (arrived.Closed (record { peer = p; reason = BadItem })) (arrived.Took count)))))) ≡ arrives (arrived.Closed ending) → p ≡ ending.peer
arrive_step true older shut ends_it behind count p ending e = absurd (arrival_refused end_refusals.Strange (arrived.Closed ending) e)
arrive_step false true shut ends_it behind count p ending e = absurd (took_ended 0 ending e)
arrive_step false false true ends_it behind count p ending e = absurd (took_ended 0 ending e)
arrive_step false false false true behind count p ending e = ap (λ (one : Ending). one.peer) (arrival_same (record { peer = p; reason = PeerClosed }) ending e)
arrive_step false false false false true count p ending e = ap (λ (one : Ending). one.peer) (arrival_same (record { peer = p; reason = BadItem }) ending e)
arrive_step false false false false false count p ending e = absurd (took_ended count ending e)

-- an ending is its peer and its reason
ending_of : (p : ℕ) (reason : Reason) (ending : Ending) → p ≡ ending.peer → ending.reason ≡ reason → record { peer = p; reason = reason } ≡ ending
ending_of p reason ending peer why =
    let make : ℕ → Reason → Ending = λ q r. record { peer = q; reason = r } in
    ap (λ (q : ℕ). make q reason) peer ∙ ap (λ (r : Reason). make ending.peer r) (sym why)

-- the call by which a right deed closed the session with p is right
closing_right : (s n : ℕ) (limits : Limits) (p : ℕ) (reason : Reason) (cause : Cause) (D : List Deed) → IsRightDeed s n limits (did.Closing p reason cause) D → end.IsRight s p limits (call_of_closing p reason cause) (calls_at p (history_of s n D))
unfolding right_after
closing_right s n limits p reason causes.Item D right =
    let told = fault_tells s n p reason (history_of s n D) (was_answered s n limits (did.Closing p reason causes.Item) D right) in
    closes_right p reason (calls_at p (history_of s n D)) (up_where s n p D told.1)
closing_right s n limits p reason (causes.Frame frame) D right =
    let own = was_answered s n limits (did.Closing p reason (causes.Frame frame)) D right in
    let told = (arrive_end_tells s n reason frame (history_of s n D) own.1).2 in
    let calls : List EndEntry = calls_at frame.from (history_of s n D) in
    let peer : frame.from ≡ told.0.peer = arrive_step (not (is_of_pair s frame.from frame)) (nat_lt frame.session (number calls)) (not (is_open calls)) (nat_lt (number calls) frame.session || is_close frame.kind) (nat_lt (transmitted calls + 1) frame.ack) (taken_by frame calls) frame.from told.0 told.1 in
    subst (λ (q : ℕ). Ok (arrived.Closed (record { peer = q; reason = reason })) ≡ right_arrive s q frame (calls_at q (history_of s n D))) own.0 (ap (λ (ending : Ending). Ok (arrived.Closed ending)) (ending_of frame.from reason told.0 peer told.2) ∙ sym told.1)
closing_right s n limits p reason causes.Ticks D right =
    let told = (tick_end_tells s n p limits.retry reason (history_of s n D) (was_answered s n limits (did.Closing p reason causes.Ticks) D right)).1 in
    let calls : List EndEntry = calls_at p (history_of s n D) in
    let same = tick_step (is_open calls) (is_out calls && nat_le limits.retry (ticks calls + 1)) (record { peer = p; reason = RetriesUsedUp }) told.0 told.1 in
    ap (λ (ending : Ending). Ok (Some ending)) (ending_of p reason told.0 (ap (λ (ending : Ending). ending.peer) same) told.2) ∙ sym told.1
closing_right s n limits p reason causes.Asked D right =
    let told = (close_tells s n p reason (history_of s n D) (was_answered s n limits (did.Closing p reason causes.Asked) D right)).1 in
    closes_right p reason (calls_at p (history_of s n D)) (closed_up (is_open (calls_at p (history_of s n D))) (record { peer = p; reason = Asked }) told.0 told.1)

-- a result of a reopening that is no refusal
abbrev reopens : Result Unit EndRefusal
reopens = Ok tt

reopen_step : (up free : Bool) → up ≡ false → free ≡ true → reopens ≡ cond up (Err end_refusals.StillOpen) (cond (not free) (Err end_refusals.Number) (Ok tt))
reopen_step true free shut is = absurd (both_ways true shut refl)
reopen_step false true shut is = refl
reopen_step false false shut is = absurd (both_ways false refl is)

-- the call by which a right deed opened the session with p anew is right: the end is closed, and the number is free
opening_right : (s n : ℕ) (limits : Limits) (p k : ℕ) (D : List Deed) → IsRightDeed s n limits (did.Open p k) D → reopens ≡ right_reopen k (calls_at p (history_of s n D))
opening_right s n limits p k D right =
    let calls : List EndEntry = calls_at p (history_of s n D) in
    let same : number calls ≡ deed_number p D = number_is s n p D in
    let above : deed_number p D < k = open_number s n limits p k D right in
    let free : is_free_number k calls ≡ true = and_from _ _ (and_from _ _ (lt-ltb (number calls) k (omega (arith, same, above))) (le-leb (seen calls) k (open_seen s n limits p k D right))) (le-leb k last_session (open_last s n limits p k D right)) in
    reopen_step (is_open calls) (is_free_number k calls) (open_calls s n p D ∙ ap not (open_closed s n limits p k D right)) free

-- the call that a right deed itself is, is right
own_right : (s n : ℕ) (limits : Limits) (p : ℕ) (deed : Deed) (D : List Deed) → IsRightDeed s n limits deed D → AreRightCalls s p limits (calls_sent s n p deed D) → AreRightCalls s p limits (own_calls p deed (calls_sent s n p deed D))
unfolding right_after gifts gifts_of
own_right s n limits p (did.Act q k) D right are =
    let acted = (act_tells s n q k (history_of s n D) (was_answered s n limits (did.Act q k) D right)).2 in
    if_right s p limits (q == p) ends.Take (calls_sent s n p (did.Act q k) D)
    (λ own. ap is_some (sends_front (items_to p (gifts s n (did.Act q k) D (work s n D))) (calls_at p (history_of s n D))) ∙ ap is_some (subst (λ (r : ℕ). right_front (calls_at r (history_of s n D)) ≡ Some (k, acted.0)) (eqb-true q p own) acted.2)) are
own_right s n limits p (did.Transmit q frames) D right are =
    let told = transmit_tells s n q limits.window frames (history_of s n D) (was_answered s n limits (did.Transmit q frames) D right) in
    if_right s p limits (q == p) (ends.Transmit frames) (calls_at p (history_of s n D))
    (λ own. subst (λ (r : ℕ). frames ≡ right_transmit s r limits.window (calls_at r (history_of s n D))) (eqb-true q p own) told.1) are
own_right s n limits p (did.Arrive frame count) D right are =
    let told = arrive_tells s n count frame (history_of s n D) (was_answered s n limits (did.Arrive frame count) D right) in
    if_right s p limits (frame.from == p) (ends.Arrive frame (Ok (arrived.Took count))) (calls_at p (history_of s n D))
    (λ own. subst (λ (r : ℕ). Ok (arrived.Took count) ≡ right_arrive s r frame (calls_at r (history_of s n D))) (eqb-true frame.from p own) (sym told.2)) are
own_right s n limits p (did.Tick q) D right are =
    let told = tick_tells s n q limits.retry (history_of s n D) (was_answered s n limits (did.Tick q) D right) in
    if_right s p limits (q == p) (ends.Tick (Ok None)) (calls_at p (history_of s n D))
    (λ own. subst (λ (r : ℕ). Ok None ≡ right_tick r limits.retry (calls_at r (history_of s n D))) (eqb-true q p own) (sym told.1)) are
own_right s n limits p (did.Closing q reason cause) D right are =
    if_right s p limits (q == p) (call_of_closing p reason cause) (calls_at p (history_of s n D))
    (λ own. subst (λ (r : ℕ). end.IsRight s r limits (call_of_closing r reason cause) (calls_at r (history_of s n D))) (eqb-true q p own) (closing_right s n limits q reason cause D right)) are
own_right s n limits p (did.Open q k) D right are =
    if_right s p limits (q == p) (ends.Reopen k (Ok tt)) (calls_at p (history_of s n D))
    (λ own. subst (λ (r : ℕ). reopens ≡ right_reopen k (calls_at r (history_of s n D))) (eqb-true q p own) (opening_right s n limits q k D right)) are
own_right s n limits p deed D right are = are

-- in a list of right deeds the calls on the end with each peer are right
pub calls_law : CallsLaw
calls_law s n limits [] right p = tt
calls_law s n limits (deed ∷ D) right p = own_right s n limits p deed D right.0 (sent_right s n limits p deed D right (calls_law s n limits D right.1 p))

-- right calls accepted what had come
pub calls_came : (me peer : ℕ) (limits : Limits) (calls : List EndEntry) → AreRightCalls me peer limits calls → AllCame calls
calls_came me peer limits [] right = tt
calls_came me peer limits (call ∷ calls) right = (right_came me peer limits call calls right.0, calls_came me peer limits calls right.1)
