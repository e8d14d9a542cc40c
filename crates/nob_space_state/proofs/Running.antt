-- What holds of the messages at a space on every list: they came from peers, and what they carry is counted; and of the jobs that run: they came as Calls with the number of a call.
use Rattle.std.proofs.Common.{◌≡◌, ℕ, Bool, true, false, cond, ◌==◌, List, [], ◌∷◌, ◌++◌, map, filter, find, Option, Some, None, Result, Ok, Err, IfOk, option_and_then, if◌then◌else◌, refl, sym, ap, subst, ◌∙◌}
use Rattle.std.specs.List.{AllByRecursion}
use Rattle.std.proofs.lemmas.Bool.{and_parts}
use Rattle.std.proofs.lemmas.Option.{none-some}
use Rattle.nob_ids.specs.Names.{is_counted}
use Rattle.nob_ids.specs.declared.wire_rep.WireRep.{WireRep}
use Rattle.nob_pickle.specs.Reading.{value_read}
use Rattle.nob_item.specs.Judging.{◌>>=◌, of_value, is_call_number}
use Rattle.nob_item.specs.Kinds.{counted_in, refs_carried}
use Rattle.nob_item.specs.Reading.{number_at, call_number_at, call_front, call_at, reply_front, reply_at, settle_at, index_at, note_by, item_by, item_read}
use Rattle.nob_item.specs.declared.fault.ItemFault.{ItemFault}
use Rattle.nob_item.specs.declared.fault.ItemFault.TheVariants as faults
use Rattle.nob_item.specs.declared.item.Item.{Item}
use Rattle.nob_item.specs.declared.item.Item.TheVariants as items
use Rattle.nob_model_types.specs.declared.answer.Job.{Job}
use Rattle.nob_model_types.specs.declared.deed.Deed.{Deed}
use Rattle.nob_model_types.specs.declared.deed.Deed.TheVariants.{Call, TakeReply, TakeEnd, Claim, Finish, DropReply, Act, Settle, Closing}
use Rattle.nob_model_types.specs.Sessions.{is_peer, payload_at, item_spelt, item_of, item_at}
use Rattle.nob_model_types.specs.declared.message.RefCopy.{RefCopy}
use Rattle.nob_model_types.specs.declared.message.Message.{Message}
use Rattle.nob_model_types.specs.Messages.{new_copy, new_message, copy_after, message_after, is_of, is_job, is_call_of, is_lost_message}
use Rattle.nob_model_work.specs.declared.work.Outstanding.{Outstanding}
use Rattle.nob_model_work.specs.declared.work.Run.{Run}
use Rattle.nob_model_work.specs.Work.{work, work_after, with_loans, run_after, is_none_of, make_ready, make_reply, wait, with_calls, call_after_reply, without_first, without_waiting, after_message, after_act, after_settlement, after_settle, after_claim, after_finish, after_take, after_end, after_call, after_close}
use Rattle.nob_space_state.proofs.Orderly.{ActsOnPeers}

-- ---- lists

pub all_filter : {X : Type 0} (P : X → Type 0) (test : X → Bool) (xs : List X) → AllByRecursion P xs → AllByRecursion P (filter test xs)
all_filter P test [] all = tt
all_filter P test (x ∷ xs) all = elim (test x) as (λ b. AllByRecursion P (cond b (x ∷ filter test xs) (filter test xs))) [ true ↦ (all.0, all_filter P test xs all.1) | false ↦ all_filter P test xs all.1 ]

pub all_push : {X : Type 0} (P : X → Type 0) (xs : List X) (y : X) → AllByRecursion P xs → P y → AllByRecursion P (xs ++ y ∷ [])
all_push P [] y all last = (last, tt)
all_push P (x ∷ xs) y all last = (all.0, all_push P xs y all.1 last)

pub all_map : {X Y : Type 0} (P : X → Type 0) (Q : Y → Type 0) (f : X → Y) → ((x : X) → P x → Q (f x)) → (xs : List X) → AllByRecursion P xs → AllByRecursion Q (map f xs)
all_map P Q f keeps [] all = tt
all_map P Q f keeps (x ∷ xs) all = (keeps x all.0, all_map P Q f keeps xs all.1)

all_without : {X : Type 0} (P : X → Type 0) (test : X → Bool) (xs : List X) → AllByRecursion P xs → AllByRecursion P (without_first test xs)
all_without P test [] all = tt
all_without P test (x ∷ xs) all = elim (test x) as (λ b. AllByRecursion P (if b then xs else x ∷ without_first test xs)) [ true ↦ all.1 | false ↦ (all.0, all_without P test xs all.1) ]

-- what was found is one of them, and passes the test
pub all_found : {X : Type 0} (P : X → Type 0) (test : X → Bool) (xs : List X) (found : X) → AllByRecursion P xs → find test xs ≡ Some found → P found × (test found ≡ true)
all_found P test [] found all is = absurd (none-some found is)
all_found P test (x ∷ xs) found all is = elim (test x) as (λ b. test x ≡ b → cond b (Some x) (find test xs) ≡ Some found → P found × (test found ≡ true)) [
  | true ↦ λ passes e. let same : x ≡ found = cc in (subst P same all.0, ap test (sym same) ∙ passes)
  | false ↦ λ fails e. all_found P test xs found all.1 e
] refl is

-- ---- the number of a Call that was read

-- a Call has the number of a call
abbrev pub HasCallNumber : Item → Type 0
HasCallNumber (items.Call call target method value) = is_call_number call ≡ true
HasCallNumber (_) = Unit {0}

-- a fact of what a step gives, from the fact of what came before
onward : {A B : Type 0} (P : A → Type 0) (Q : B → Type 0) (r : Result A ItemFault) (f : A → Result B ItemFault) → IfOk r P → ((x : A) → P x → IfOk (f x) Q) → IfOk (r >>= f) Q
onward P Q (Ok x) f is step = step x is
onward P Q (Err fault) f is step = tt

-- anything holds what asks nothing
nothing : {A : Type 0} (r : Result A ItemFault) → IfOk r (λ x. Unit {0})
nothing (Ok x) = tt
nothing (Err fault) = tt

number_read : (bs : List ℕ) → IfOk (call_number_at bs) (λ n. is_call_number n.0 ≡ true)
unfolding call_number_at
number_read bs = onward (λ n. Unit {0}) (λ n. is_call_number n.0 ≡ true) (number_at 8 bs) _ (nothing (number_at 8 bs))
    (λ n _. elim (is_call_number n.0) as (λ b. is_call_number n.0 ≡ b → IfOk (if b then Ok n else Err faults.Number) (λ m. is_call_number m.0 ≡ true)) [ true ↦ λ is. is | false ↦ λ _. tt ] refl)

front_read : (bs : List ℕ) → IfOk (call_front bs) (λ front. is_call_number front.0 ≡ true)
unfolding call_front
front_read bs = onward (λ n. is_call_number n.0 ≡ true) (λ front. is_call_number front.0 ≡ true) (call_number_at bs) _ (number_read bs)
    (λ call is. onward (λ n. Unit {0}) (λ front. is_call_number front.0 ≡ true) (number_at 8 call.1) _ (nothing (number_at 8 call.1))
    (λ target _. onward (λ n. Unit {0}) (λ front. is_call_number front.0 ≡ true) (number_at 2 target.1) _ (nothing (number_at 2 target.1)) (λ method _. is)))

call_read : (bs : List ℕ) → IfOk (call_at bs) HasCallNumber
unfolding call_at
call_read bs = onward (λ front. is_call_number front.0 ≡ true) HasCallNumber (call_front bs) _ (front_read bs)
    (λ front is. onward (λ value. Unit {0}) HasCallNumber (of_value (value_read front.3)) _ (nothing (of_value (value_read front.3))) (λ value _. is))

reply_read : (bs : List ℕ) → IfOk (reply_at bs) HasCallNumber
unfolding reply_at
reply_read bs = onward (λ front. Unit {0}) HasCallNumber (reply_front bs) _ (nothing (reply_front bs))
    (λ front _. onward (λ value. Unit {0}) HasCallNumber (of_value (value_read front.2)) _ (nothing (of_value (value_read front.2))) (λ value _. tt))

-- whichever is chosen
choose : (b : Bool) (one other : Result Item ItemFault) → IfOk one HasCallNumber → IfOk other HasCallNumber → IfOk (if b then one else other) HasCallNumber
choose true one other first second = first
choose false one other first second = second

-- a note has no number of a call
noted : (r : Result ℕ ItemFault) (note : ℕ → Item) → ((k : ℕ) → HasCallNumber (note k)) → IfOk (r >>= λ k. Ok (note k)) HasCallNumber
noted r note is = onward (λ n. Unit {0}) HasCallNumber r (λ k. Ok (note k)) (nothing r) (λ k _. is k)

note_read : (first : ℕ) (bs : List ℕ) → IfOk (note_by first bs) HasCallNumber
unfolding note_by
note_read first bs =
    choose (first == 3) _ _ (noted (settle_at bs) (λ k. items.Settle k) (λ k. tt))
    (choose (first == 4) _ _ (noted (index_at bs) (λ k. items.Dirty k) (λ k. tt))
    (choose (first == 5) _ _ (noted (index_at bs) (λ k. items.DirtyOk k) (λ k. tt))
    (choose (first == 6) _ _ (noted (index_at bs) (λ k. items.DirtyNo k) (λ k. tt))
    (choose (first == 7) _ _ (noted (index_at bs) (λ k. items.Clean k) (λ k. tt)) tt))))

read_numbered : (bytes : List ℕ) → IfOk (item_read bytes) HasCallNumber
unfolding item_by
read_numbered [] = tt
read_numbered (first ∷ bs) = elim (first == 1) as (λ b. IfOk (if b then call_at bs else if first == 2 then reply_at bs else note_by first bs) HasCallNumber) [
  | true ↦ call_read bs
  | false ↦ elim (first == 2) as (λ b. IfOk (if b then reply_at bs else note_by first bs) HasCallNumber) [ true ↦ reply_read bs | false ↦ note_read first bs ]
]

found_in : (read : Result Item ItemFault) (item : Item) → IfOk read HasCallNumber → item_of read ≡ Some item → HasCallNumber item
found_in (Ok other) item is found = let same : other ≡ item = cc in subst HasCallNumber same is
found_in (Err fault) item is found = absurd (none-some item found)

spelt_in : (payload : Option (List ℕ)) (item : Item) → option_and_then item_spelt payload ≡ Some item → HasCallNumber item
spelt_in (Some bytes) item found = found_in (item_read bytes) item (read_numbered bytes) found
spelt_in None item found = absurd (none-some item found)

-- ---- messages

-- a message came from a peer, a Call with the number of a call, and its copies are of counted references
pub record IsSound (s n : ℕ) (message : Message) : Type 0 where
  pub peer : is_peer s n message.from ≡ true
  pub number : HasCallNumber message.item
  pub counted : AllByRecursion (λ (copy : RefCopy). is_counted copy.rep ≡ true) message.copies

-- an item is a Call
abbrev pub IsCall : Item → Type 0
IsCall (items.Call call target method value) = Unit {0}
IsCall (_) = ⊥

-- a job that runs is such a message, and a Call
abbrev pub IsSoundRun : (s n : ℕ) → Run → Type 0
IsSoundRun s n run = IsSound s n run.message × IsCall run.message.item

-- all messages that wait, ready jobs and running jobs are such
pub record AreSound (s n : ℕ) (W : Outstanding) : Type 0 where
  pub waiting : AllByRecursion (IsSound s n) W.waiting
  pub ready : AllByRecursion (IsSound s n) W.ready
  pub running : AllByRecursion (IsSoundRun s n) W.running

pub filter_counted : (reps : List WireRep) → AllByRecursion (λ (rep : WireRep). is_counted rep ≡ true) (filter is_counted reps)
filter_counted [] = tt
filter_counted (rep ∷ reps) = elim (is_counted rep) as (λ b. is_counted rep ≡ b → AllByRecursion (λ (w : WireRep). is_counted w ≡ true) (cond b (rep ∷ filter is_counted reps) (filter is_counted reps))) [ true ↦ λ is. (is, filter_counted reps) | false ↦ λ _. filter_counted reps ] refl

new_sound : (s n p k : ℕ) (item : Item) (D : List Deed) → is_peer s n p ≡ true → HasCallNumber item → IsSound s n (new_message s n p k item D)
unfolding new_copy
new_sound s n p k item D peer number = record {
  peer = peer;
  number = number;
  counted = all_map (λ (rep : WireRep). is_counted rep ≡ true) (λ (copy : RefCopy). is_counted copy.rep ≡ true) (λ rep. new_copy s n D rep) (λ rep is. is) (counted_in item) (filter_counted (refs_carried item));
}

acted_sound : (s n : ℕ) (message : Message) (item : Item) (W : Outstanding) → IsSound s n message → AreSound s n W → AreSound s n (after_message message item W)
unfolding after_message
acted_sound s n message (items.Call call target method value) W is sound = elim (is_none_of message.copies) as (λ b. AreSound s n (if b then make_ready message W else wait message W)) [
  | true ↦ record { waiting = sound.waiting; ready = all_push (IsSound s n) W.ready message sound.ready is; running = sound.running }
  | false ↦ record { waiting = all_push (IsSound s n) W.waiting message sound.waiting is; ready = sound.ready; running = sound.running }
]
acted_sound s n message (items.Reply call status value) W is sound = elim (is_none_of message.copies) as (λ b. AreSound s n (with_calls (call_after_reply message.from call) (if b then make_reply message W else wait message W))) [
  | true ↦ record { waiting = sound.waiting; ready = sound.ready; running = sound.running }
  | false ↦ record { waiting = all_push (IsSound s n) W.waiting message sound.waiting is; ready = sound.ready; running = sound.running }
]
acted_sound s n message (items.Settle item) W is sound = sound
acted_sound s n message (items.Dirty index) W is sound = sound
acted_sound s n message (items.DirtyOk index) W is sound = sound
acted_sound s n message (items.DirtyNo index) W is sound = sound
acted_sound s n message (items.Clean index) W is sound = sound

act_sound : (s n p k : ℕ) (D : List Deed) (item : Option Item) (W : Outstanding) → is_peer s n p ≡ true → item_at p k D ≡ item → AreSound s n W → AreSound s n (after_act s n p k D item W)
unfolding after_act
act_sound s n p k D None W peer is sound = sound
act_sound s n p k D (Some item) W peer is sound = acted_sound s n (new_message s n p k item (Act p k ∷ D)) item W (new_sound s n p k item (Act p k ∷ D) peer (spelt_in (payload_at p k D) item is)) sound

settled_sound : (s n : ℕ) (message : Message) (item : Item) (lost : Bool) (W : Outstanding) → IsSound s n message → AreSound s n W → AreSound s n (after_settlement message item lost W)
unfolding after_settlement
settled_sound s n message (items.Call call target method value) true W is sound = sound
settled_sound s n message (items.Call call target method value) false W is sound = record { waiting = sound.waiting; ready = all_push (IsSound s n) W.ready message sound.ready is; running = sound.running }
settled_sound s n message (items.Reply call status value) true W is sound = record { waiting = sound.waiting; ready = sound.ready; running = sound.running }
settled_sound s n message (items.Reply call status value) false W is sound = record { waiting = sound.waiting; ready = sound.ready; running = sound.running }
settled_sound s n message (items.Settle item) lost W is sound = sound
settled_sound s n message (items.Dirty index) lost W is sound = sound
settled_sound s n message (items.DirtyOk index) lost W is sound = sound
settled_sound s n message (items.DirtyNo index) lost W is sound = sound
settled_sound s n message (items.Clean index) lost W is sound = sound

settle_sound : (s n p k : ℕ) (D : List Deed) (found : Option Message) (W : Outstanding) → find (is_of p k) W.waiting ≡ found → AreSound s n W → AreSound s n (after_settle s n p k D found W)
unfolding after_settle
settle_sound s n p k D None W is sound = sound
settle_sound s n p k D (Some message) W is sound =
    settled_sound s n message message.item (is_lost_message s n D message) (without_waiting p k W) (all_found (IsSound s n) (is_of p k) W.waiting message sound.waiting is).0
    record { waiting = all_without (IsSound s n) (is_of p k) W.waiting sound.waiting; ready = sound.ready; running = sound.running }

call_is : (job : Job) (item : Item) → is_call_of job item ≡ true → IsCall item
call_is job (items.Call call target method value) is = tt
call_is job (items.Reply call status value) is = absurd (cc)
call_is job (items.Settle item) is = absurd (cc)
call_is job (items.Dirty index) is = absurd (cc)
call_is job (items.DirtyOk index) is = absurd (cc)
call_is job (items.DirtyNo index) is = absurd (cc)
call_is job (items.Clean index) is = absurd (cc)

claim_sound : (s n : ℕ) (job : Job) (found : Option Message) (W : Outstanding) → find (is_job job) W.ready ≡ found → AreSound s n W → AreSound s n (after_claim job found W)
unfolding after_claim
claim_sound s n job None W is sound = sound
claim_sound s n job (Some message) W is sound =
    let one = all_found (IsSound s n) (is_job job) W.ready message sound.ready is in
    record { waiting = sound.waiting; ready = all_without (IsSound s n) (is_job job) W.ready sound.ready; running = ((one.0, call_is job message.item (and_parts _ _ one.1).1), sound.running) }

step_sound : (s n : ℕ) (deed : Deed) (D : List Deed) (W : Outstanding) → ActsOnPeers s n (deed ∷ D) → AreSound s n W → AreSound s n (work_after s n deed D W)
unfolding work_after after_call after_take after_end after_finish after_close
step_sound s n (Call target method value call) D W acts sound = record { waiting = sound.waiting; ready = sound.ready; running = sound.running }
step_sound s n (TakeReply call status value) D W acts sound = record { waiting = all_filter (IsSound s n) _ W.waiting sound.waiting; ready = sound.ready; running = sound.running }
step_sound s n (TakeEnd call) D W acts sound = record { waiting = sound.waiting; ready = sound.ready; running = sound.running }
step_sound s n (Claim job) D W acts sound = claim_sound s n job (find (is_job job) W.ready) W refl sound
step_sound s n (Finish job outcome) D W acts sound = record { waiting = sound.waiting; ready = sound.ready; running = all_filter (IsSoundRun s n) _ W.running sound.running }
step_sound s n (DropReply job) D W acts sound = record { waiting = sound.waiting; ready = sound.ready; running = all_filter (IsSoundRun s n) _ W.running sound.running }
step_sound s n (Act p k) D W acts sound = act_sound s n p k D (item_at p k D) W acts.0 refl sound
step_sound s n (Settle p k) D W acts sound = settle_sound s n p k D (find (is_of p k) W.waiting) W refl sound
step_sound s n (Closing p reason cause) D W acts sound = record { waiting = all_filter (IsSound s n) _ W.waiting sound.waiting; ready = all_filter (IsSound s n) _ W.ready sound.ready; running = sound.running }
step_sound s n (_) D W acts sound = sound

-- making loans changes none of it
loan_sound : (s n : ℕ) (D : List Deed) (message : Message) → IsSound s n message → IsSound s n (message_after s n D message)
unfolding message_after copy_after
loan_sound s n D message is = record {
  peer = is.peer;
  number = is.number;
  counted = all_map (λ (copy : RefCopy). is_counted copy.rep ≡ true) (λ (copy : RefCopy). is_counted copy.rep ≡ true) (λ copy. copy_after s n D copy) (λ copy counted. counted) message.copies is.counted;
}

loan_call : (s n : ℕ) (D : List Deed) (message : Message) → IsCall message.item → IsCall (message_after s n D message).item
unfolding message_after
loan_call s n D message is = is

loans_sound : (s n : ℕ) (D : List Deed) (W : Outstanding) → AreSound s n W → AreSound s n (with_loans s n D W)
unfolding with_loans run_after
loans_sound s n D W sound = record {
  waiting = all_map (IsSound s n) (IsSound s n) (λ message. message_after s n D message) (λ message is. loan_sound s n D message is) W.waiting sound.waiting;
  ready = all_map (IsSound s n) (IsSound s n) (λ message. message_after s n D message) (λ message is. loan_sound s n D message is) W.ready sound.ready;
  running = all_map (IsSoundRun s n) (IsSoundRun s n) (λ run. run_after s n D run) (λ run is. (loan_sound s n D run.message is.0, loan_call s n D run.message is.1)) W.running sound.running;
}

rest_acts : (s n : ℕ) (deed : Deed) (D : List Deed) → ActsOnPeers s n (deed ∷ D) → ActsOnPeers s n D
rest_acts s n (Act p k) D acts = acts.1
rest_acts s n (_) D acts = acts

-- so it is with all messages at a space that acts on what came from peers
pub work_sound : (s n : ℕ) (D : List Deed) → ActsOnPeers s n D → AreSound s n (work s n D)
work_sound s n [] acts = record { waiting = tt; ready = tt; running = tt }
work_sound s n (deed ∷ D) acts = loans_sound s n (deed ∷ D) (work_after s n deed D (work s n D)) (step_sound s n deed D (work s n D) acts (work_sound s n D (rest_acts s n deed D acts)))
