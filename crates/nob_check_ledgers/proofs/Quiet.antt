-- A deed that makes no reference usable: only the loans of the message that it acts on are made.
use Rattle.std.proofs.Common.{◌≡◌, ◌&&◌, ◌++◌, not, ℕ, Bool, true, false, List, [], ◌∷◌, Option, Some, None, if◌then◌else◌, filter, find, map, refl, sym, ap, ◌∙◌}
use Rattle.std.specs.List.{list_all}
use Rattle.std.proofs.lemmas.Bool.{and_from}
use Rattle.nob_item.specs.declared.item.Item.{Item}
use Rattle.nob_item.specs.declared.item.Item.TheVariants as items
use Rattle.nob_model_types.specs.declared.answer.Job.{Job}
use Rattle.nob_model_types.specs.declared.deed.Deed.{Deed}
use Rattle.nob_model_types.specs.declared.deed.Deed.TheVariants.{Call, TakeReply, TakeEnd, Claim, Finish, DropReply, Settle, Closing}
use Rattle.nob_model_types.specs.declared.message.Message.{Message}
use Rattle.nob_model_types.specs.Messages.{is_of, is_job, is_not_from, is_lost_message, new_message, message_after, copy_after}
use Rattle.nob_model_work.specs.declared.work.Outstanding.{Outstanding}
use Rattle.nob_model_work.specs.Work.{after_call, after_take, after_end, after_claim, after_finish, after_settle, after_settlement, after_close, after_message, work_after, with_loans, with_calls, call_after_reply, is_none_of, is_run, is_not_reply, lost_reply, make_ready, make_reply, wait, without_first, without_waiting}
use Rattle.nob_check_ledgers.specs.Acting.{acted_on, after_acted, after_lent, after_other}
use Rattle.nob_check_ledgers.specs.Making.{is_lent, all_lent, makes_usable}
use Rattle.nob_check_ledgers.proofs.Acting.{acted_law}
use Rattle.nob_check_ledgers.proofs.Keeping.{all_filter, all_without, all_found, all_and_last, four, lent_parts, work_kept, work_later}
use Rattle.nob_check_ledgers.proofs.Usable.{lent_before}

-- ---- what is outstanding after a deed that is no Act has no loan that is due and can be made, where there was none

claim_lent : (s n : ℕ) (job : Job) (E : List Deed) (found : Option Message) (work : Outstanding) → find (is_job job) work.ready ≡ found → all_lent s n E work ≡ true → all_lent s n E (after_claim job found work) ≡ true
unfolding after_claim
claim_lent s n job E None work there lent = lent
claim_lent s n job E (Some message) work there lent =
    let (waiting, ready, running, replies) = lent_parts s n E work lent in
    four (list_all (is_lent s n E) work.waiting) (list_all (is_lent s n E) (without_first (is_job job) work.ready)) (is_lent s n E message && list_all (λ run. is_lent s n E run.message) work.running) (list_all (is_lent s n E) work.replies)
    waiting
    (all_without (is_lent s n E) (is_job job) work.ready ready)
    (and_from (is_lent s n E message) (list_all (λ run. is_lent s n E run.message) work.running) (all_found (is_lent s n E) (is_job job) work.ready message ready there) running)
    replies

finish_lent : (s n j : ℕ) (E : List Deed) (work : Outstanding) → all_lent s n E work ≡ true → all_lent s n E (after_finish j work) ≡ true
unfolding after_finish
finish_lent s n j E work lent =
    let (waiting, ready, running, replies) = lent_parts s n E work lent in
    four (list_all (is_lent s n E) work.waiting) (list_all (is_lent s n E) work.ready) (list_all (λ run. is_lent s n E run.message) (filter (λ run. not (is_run j run)) work.running)) (list_all (is_lent s n E) work.replies)
    waiting ready (all_filter (λ run. is_lent s n E run.message) (λ run. not (is_run j run)) work.running running) replies

take_lent : (s n k : ℕ) (E : List Deed) (work : Outstanding) → all_lent s n E work ≡ true → all_lent s n E (after_take k work) ≡ true
unfolding after_take
take_lent s n k E work lent =
    let (waiting, ready, running, replies) = lent_parts s n E work lent in
    four (list_all (is_lent s n E) (filter (is_not_reply k) work.waiting)) (list_all (is_lent s n E) work.ready) (list_all (λ run. is_lent s n E run.message) work.running) (list_all (is_lent s n E) (filter (is_not_reply k) work.replies))
    (all_filter (is_lent s n E) (is_not_reply k) work.waiting waiting) ready running (all_filter (is_lent s n E) (is_not_reply k) work.replies replies)

close_lent : (s n p : ℕ) (E : List Deed) (work : Outstanding) → all_lent s n E work ≡ true → all_lent s n E (after_close p work) ≡ true
unfolding after_close
close_lent s n p E work lent =
    let (waiting, ready, running, replies) = lent_parts s n E work lent in
    four (list_all (is_lent s n E) (filter (is_not_from p) work.waiting)) (list_all (is_lent s n E) (filter (is_not_from p) work.ready)) (list_all (λ run. is_lent s n E run.message) work.running) (list_all (is_lent s n E) work.replies)
    (all_filter (is_lent s n E) (is_not_from p) work.waiting waiting) (all_filter (is_lent s n E) (is_not_from p) work.ready ready) running replies

ready_lent : (s n : ℕ) (E : List Deed) (message : Message) (work : Outstanding) → all_lent s n E work ≡ true → is_lent s n E message ≡ true → all_lent s n E (make_ready message work) ≡ true
ready_lent s n E message work lent one =
    let (waiting, ready, running, replies) = lent_parts s n E work lent in
    four (list_all (is_lent s n E) work.waiting) (list_all (is_lent s n E) (work.ready ++ message ∷ [])) (list_all (λ run. is_lent s n E run.message) work.running) (list_all (is_lent s n E) work.replies)
    waiting (all_and_last (is_lent s n E) work.ready message ready one) running replies

reply_lent : (s n : ℕ) (E : List Deed) (message : Message) (work : Outstanding) → all_lent s n E work ≡ true → is_lent s n E message ≡ true → all_lent s n E (make_reply message work) ≡ true
reply_lent s n E message work lent one =
    let (waiting, ready, running, replies) = lent_parts s n E work lent in
    four (list_all (is_lent s n E) work.waiting) (list_all (is_lent s n E) work.ready) (list_all (λ run. is_lent s n E run.message) work.running) (list_all (is_lent s n E) (work.replies ++ message ∷ []))
    waiting ready running (all_and_last (is_lent s n E) work.replies message replies one)

settlement_lent : (s n : ℕ) (E : List Deed) (message : Message) (item : Item) (lost : Bool) (work : Outstanding) → all_lent s n E work ≡ true → is_lent s n E message ≡ true → all_lent s n E (after_settlement message item lost work) ≡ true
unfolding after_settlement
settlement_lent s n E message (items.Call call target method value) true work lent one = lent
settlement_lent s n E message (items.Call call target method value) false work lent one = ready_lent s n E message work lent one
settlement_lent s n E message (items.Reply call status value) true work lent one = reply_lent s n E (lost_reply message call) work lent refl
settlement_lent s n E message (items.Reply call status value) false work lent one = reply_lent s n E message work lent one
settlement_lent s n E message (items.Settle item) lost work lent one = lent
settlement_lent s n E message (items.Dirty index) lost work lent one = lent
settlement_lent s n E message (items.DirtyOk index) lost work lent one = lent
settlement_lent s n E message (items.DirtyNo index) lost work lent one = lent
settlement_lent s n E message (items.Clean index) lost work lent one = lent

settle_lent : (s n p k : ℕ) (D E : List Deed) (found : Option Message) (work : Outstanding) → find (is_of p k) work.waiting ≡ found → all_lent s n E work ≡ true → all_lent s n E (after_settle s n p k D found work) ≡ true
unfolding after_settle
settle_lent s n p k D E None work there lent = lent
settle_lent s n p k D E (Some message) work there lent =
    let (waiting, ready, running, replies) = lent_parts s n E work lent in
    settlement_lent s n E message message.item (is_lost_message s n D message) (without_waiting p k work)
    (four (list_all (is_lent s n E) (without_first (is_of p k) work.waiting)) (list_all (is_lent s n E) work.ready) (list_all (λ run. is_lent s n E run.message) work.running) (list_all (is_lent s n E) work.replies) (all_without (is_lent s n E) (is_of p k) work.waiting waiting) ready running replies)
    (all_found (is_lent s n E) (is_of p k) work.waiting message waiting there)

other_lent : (s n : ℕ) (deed : Deed) (D E : List Deed) (work : Outstanding) → all_lent s n E work ≡ true → all_lent s n E (after_other s n deed D work) ≡ true
unfolding after_other after_call after_end
other_lent s n (Call target method value call) D E work lent = lent
other_lent s n (TakeReply call status value) D E work lent = take_lent s n call E work lent
other_lent s n (TakeEnd call) D E work lent = lent
other_lent s n (Claim job) D E work lent = claim_lent s n job E (find (is_job job) work.ready) work refl lent
other_lent s n (Finish job outcome) D E work lent = finish_lent s n job E work lent
other_lent s n (DropReply job) D E work lent = finish_lent s n job E work lent
other_lent s n (Settle p k) D E work lent = settle_lent s n p k D E (find (is_of p k) work.waiting) work refl lent
other_lent s n (Closing p reason cause) D E work lent = close_lent s n p E work lent
other_lent s n (_) D E work lent = lent

-- ---- the loans of a message that is acted on

map_last : {A : Type 0} {B : Type 0} (f : A → B) (xs : List A) (x : A) → map f (xs ++ x ∷ []) ≡ map f xs ++ f x ∷ []
map_last f [] x = refl
map_last f (y ∷ xs) x = ap (λ ys. f y ∷ ys) (map_last f xs x)

none_same : {A : Type 0} {B : Type 0} (f : A → B) (xs : List A) → is_none_of (map f xs) ≡ is_none_of xs
none_same f [] = refl
none_same f (x ∷ xs) = refl

ready_loans : (s n : ℕ) (D : List Deed) (message : Message) (work : Outstanding) → with_loans s n D (make_ready message work) ≡ make_ready (message_after s n D message) (with_loans s n D work)
unfolding with_loans
ready_loans s n D message work = ap (λ ready. record { waiting = (with_loans s n D work).waiting; ready = ready; running = (with_loans s n D work).running; replies = (with_loans s n D work).replies; calls = work.calls }) (map_last (λ message. message_after s n D message) work.ready message)

reply_loans : (s n : ℕ) (D : List Deed) (message : Message) (work : Outstanding) → with_loans s n D (make_reply message work) ≡ make_reply (message_after s n D message) (with_loans s n D work)
unfolding with_loans
reply_loans s n D message work = ap (λ replies. record { waiting = (with_loans s n D work).waiting; ready = (with_loans s n D work).ready; running = (with_loans s n D work).running; replies = replies; calls = work.calls }) (map_last (λ message. message_after s n D message) work.replies message)

wait_loans : (s n : ℕ) (D : List Deed) (message : Message) (work : Outstanding) → with_loans s n D (wait message work) ≡ wait (message_after s n D message) (with_loans s n D work)
unfolding with_loans
wait_loans s n D message work = ap (λ waiting. record { waiting = waiting; ready = (with_loans s n D work).ready; running = (with_loans s n D work).running; replies = (with_loans s n D work).replies; calls = work.calls }) (map_last (λ message. message_after s n D message) work.waiting message)

call_loans : (s n : ℕ) (D : List Deed) (message : Message) (none : Bool) (work : Outstanding) → with_loans s n D (if none then make_ready message work else wait message work) ≡ (if none then make_ready (message_after s n D message) (with_loans s n D work) else wait (message_after s n D message) (with_loans s n D work))
call_loans s n D message true work = ready_loans s n D message work
call_loans s n D message false work = wait_loans s n D message work

answer_loans : (s n : ℕ) (D : List Deed) (message : Message) (none : Bool) (work : Outstanding) → with_loans s n D (if none then make_reply message work else wait message work) ≡ (if none then make_reply (message_after s n D message) (with_loans s n D work) else wait (message_after s n D message) (with_loans s n D work))
answer_loans s n D message true work = reply_loans s n D message work
answer_loans s n D message false work = wait_loans s n D message work

calls_loans : (s n : ℕ) (D : List Deed) (p k : ℕ) (work : Outstanding) → with_loans s n D (with_calls (call_after_reply p k) work) ≡ with_calls (call_after_reply p k) (with_loans s n D work)
unfolding with_loans
calls_loans s n D p k work = refl

copies_none : (s n : ℕ) (D : List Deed) (message : Message) → is_none_of (message_after s n D message).copies ≡ is_none_of message.copies
unfolding message_after
copies_none s n D message = none_same (λ copy. copy_after s n D copy) message.copies

from_same : (s n : ℕ) (D : List Deed) (message : Message) → (message_after s n D message).from ≡ message.from
unfolding message_after
from_same s n D message = refl

message_loans : (s n : ℕ) (D : List Deed) (message : Message) (item : Item) (work : Outstanding) → with_loans s n D (after_message message item work) ≡ after_message (message_after s n D message) item (with_loans s n D work)
unfolding after_message
message_loans s n D message (items.Call call target method value) work =
    call_loans s n D message (is_none_of message.copies) work
    ∙ ap (λ (none : Bool). if none then make_ready (message_after s n D message) (with_loans s n D work) else wait (message_after s n D message) (with_loans s n D work)) (sym (copies_none s n D message))
message_loans s n D message (items.Reply call status value) work =
    calls_loans s n D message.from call (if is_none_of message.copies then make_reply message work else wait message work)
    ∙ ap (with_calls (call_after_reply message.from call)) (answer_loans s n D message (is_none_of message.copies) work
    ∙ ap (λ (none : Bool). if none then make_reply (message_after s n D message) (with_loans s n D work) else wait (message_after s n D message) (with_loans s n D work)) (sym (copies_none s n D message)))
    ∙ ap (λ p. with_calls (call_after_reply p call) (if is_none_of (message_after s n D message).copies then make_reply (message_after s n D message) (with_loans s n D work) else wait (message_after s n D message) (with_loans s n D work))) (sym (from_same s n D message))
message_loans s n D message (items.Settle item) work = refl
message_loans s n D message (items.Dirty index) work = refl
message_loans s n D message (items.DirtyOk index) work = refl
message_loans s n D message (items.DirtyNo index) work = refl
message_loans s n D message (items.Clean index) work = refl

acted_loans : (s n : ℕ) (D : List Deed) (message : Option Message) (work : Outstanding) → with_loans s n D (after_acted s n D message work) ≡ after_lent s n D message (with_loans s n D work)
unfolding after_acted after_lent
acted_loans s n D None work = refl
acted_loans s n D (Some message) work = message_loans s n D (new_message s n message.from message.number message.item D) message.item work

-- a deed that makes no reference usable
pub quiet_law : (s n : ℕ) (deed : Deed) (D : List Deed) (work : Outstanding) → all_lent s n D work ≡ true → makes_usable s n deed D ≡ false → after_lent s n (deed ∷ D) (acted_on deed D) (after_other s n deed D work) ≡ with_loans s n (deed ∷ D) (work_after s n deed D work)
quiet_law s n deed D work lent quiet =
    let others = after_other s n deed D work in
    let still = other_lent s n deed D (deed ∷ D) work (work_later s n D (deed ∷ D) work (λ rep after. lent_before s n rep deed D quiet after) lent) in
    ap (after_lent s n (deed ∷ D) (acted_on deed D)) (sym (work_kept s n (deed ∷ D) others still))
    ∙ sym (acted_loans s n (deed ∷ D) (acted_on deed D) others)
    ∙ ap (with_loans s n (deed ∷ D)) (acted_law s n deed D work)
