-- What becomes of a message that is settled: the outstanding work, and what was lent.
use Rattle.std.proofs.Common.{◌≡◌, ◌≤◌, ℕ, ◌+◌, Bool, true, false, List, [], ◌∷◌, ◌++◌, find, flat_map, Some, if◌then◌else◌, refl, sym, ap, ◌∙◌, arith, true≢false}
use Rattle.std.proofs.lemmas.Grind.{flat_map-append}
use Rattle.std.proofs.lemmas.List.{append-nil}
use Rattle.nob_ids.specs.declared.wire_rep.WireRep.{WireRep}
use Rattle.nob_item.specs.declared.item.Item.{Item}
use Rattle.nob_item.specs.declared.item.Item.TheVariants as items
use Rattle.nob_pickle.specs.declared.value.Value.{Value}
use Rattle.nob_model_types.specs.declared.message.Message.{Message}
use Rattle.nob_model_types.specs.declared.deed.Deed.{Deed}
use Rattle.nob_model_types.specs.Messages.{is_of, message_after}
use Rattle.nob_model_work.specs.declared.work.Outstanding.{Outstanding}
use Rattle.nob_model_work.specs.declared.work.OwnCall.{OwnCall}
use Rattle.nob_model_work.specs.declared.work.Run.{Run}
use Rattle.nob_model_work.specs.Work.{after_settlement, lost_reply, without_first, without_waiting, make_ready, make_reply}
use Rattle.nob_model_history.specs.Holds.{times, loans_of, lent_in}
use Rattle.nob_model.proofs.Carrying.{all_found, all_without, all_push}
use Rattle.nob_model.proofs.Made.{AreFixed}
use Rattle.nob_space_state.proofs.Firsts.{times_without}
use Rattle.nob_space_state.proofs.Counted.{times_both}
use Rattle.nob_space_items.specs.Settling.{becomes_job, loans_ended}

-- a Call without a lost reference is a ready job, and what it lent stays lent
pub job_put : (s : ℕ) (m : Message) (item : Item) (lost : Bool) (W : Outstanding) → becomes_job item lost ≡ true → (loans_ended s m item lost ≡ []) × (after_settlement m item lost W ≡ make_ready m W)
unfolding after_settlement
job_put s m (items.Call call target method value) true W is = absurd (true≢false (sym is))
job_put s m (items.Call call target method value) false W is = (refl, refl)
job_put s m (items.Reply call status value) lost W is = absurd (true≢false (sym is))
job_put s m (items.Settle item) lost W is = absurd (true≢false (sym is))
job_put s m (items.Dirty index) lost W is = absurd (true≢false (sym is))
job_put s m (items.DirtyOk index) lost W is = absurd (true≢false (sym is))
job_put s m (items.DirtyNo index) lost W is = absurd (true≢false (sym is))
job_put s m (items.Clean index) lost W is = absurd (true≢false (sym is))

-- a Reply that is settled is ready, as one of status 3 where it is lost
pub reply_put : (m : Message) (call status : ℕ) (value : Value) (lost : Bool) (W : Outstanding) (replies : List Message) (calls : List OwnCall) → m.item ≡ items.Reply call status value → replies ≡ W.replies ++ (if lost then lost_reply m call else m) ∷ [] → calls ≡ W.calls
    → record { waiting = W.waiting; ready = W.ready; running = W.running; replies = replies; calls = calls } ≡ after_settlement m m.item lost W
unfolding after_settlement
reply_put m call status value true W replies calls item is same = (λ i. record { waiting = W.waiting; ready = W.ready; running = W.running; replies = is i; calls = same i }) ∙ ap (λ (x : Item). after_settlement m x true W) (sym item)
reply_put m call status value false W replies calls item is same = (λ i. record { waiting = W.waiting; ready = W.ready; running = W.running; replies = is i; calls = same i }) ∙ ap (λ (x : Item). after_settlement m x false W) (sym item)

-- what is neither a job nor a Reply is over
pub other_put : (s : ℕ) (m : Message) (item : Item) (lost : Bool) (W : Outstanding) → becomes_job item lost ≡ false → ((call status : ℕ) (value : Value) → item ≡ items.Reply call status value → ⊥)
    → (loans_of s m ≡ loans_ended s m item lost) × (W ≡ after_settlement m item lost W)
unfolding after_settlement
other_put s m (items.Call call target method value) true W no_job no_reply = (refl, refl)
other_put s m (items.Call call target method value) false W no_job no_reply = absurd (true≢false no_job)
other_put s m (items.Reply call status value) lost W no_job no_reply = absurd (no_reply call status value refl)
other_put s m (items.Settle item) lost W no_job no_reply = (refl, refl)
other_put s m (items.Dirty index) lost W no_job no_reply = (refl, refl)
other_put s m (items.DirtyOk index) lost W no_job no_reply = (refl, refl)
other_put s m (items.DirtyNo index) lost W no_job no_reply = (refl, refl)
other_put s m (items.Clean index) lost W no_job no_reply = (refl, refl)

-- ---- what is lent

-- what waits lends at least what the first that was found lends
pub waiting_lends : (s : ℕ) (rep : WireRep) (test : Message → Bool) (m : Message) (W : Outstanding) → find test W.waiting ≡ Some m → times rep (loans_of s m) ≤ times rep (lent_in s W)
waiting_lends s rep test m W found =
    let a = times_both rep (flat_map (loans_of s) W.waiting) (flat_map (loans_of s) W.ready ++ (flat_map (λ (run : Run). loans_of s run.message) W.running ++ flat_map (loans_of s) W.replies)) in
    let b = times_without (loans_of s) test rep W.waiting m found in
    omega (arith, a, b)

-- what waits lends what the first that was found lends, and what the others do
without_lends : (s p k : ℕ) (rep : WireRep) (m : Message) (W : Outstanding) → find (is_of p k) W.waiting ≡ Some m → times rep (lent_in s W) ≡ times rep (loans_of s m) + times rep (lent_in s (without_waiting p k W))
without_lends s p k rep m W found =
    let rest : List WireRep = flat_map (loans_of s) W.ready ++ (flat_map (λ (run : Run). loans_of s run.message) W.running ++ flat_map (loans_of s) W.replies) in
    let a = times_both rep (flat_map (loans_of s) W.waiting) rest in
    let b = times_both rep (flat_map (loans_of s) (without_first (is_of p k) W.waiting)) rest in
    let c = times_without (loans_of s) (is_of p k) rep W.waiting m found in
    omega (arith, a, b, c)

-- one message more in a list lends what it lends
push_lends : (s : ℕ) (rep : WireRep) (m : Message) (ms : List Message) → times rep (flat_map (loans_of s) (ms ++ m ∷ [])) ≡ times rep (flat_map (loans_of s) ms) + times rep (loans_of s m)
push_lends s rep m ms =
    ap (times rep) (flat_map-append (loans_of s) ms (m ∷ []))
    ∙ times_both rep (flat_map (loans_of s) ms) (loans_of s m ++ [])
    ∙ ap (λ (reps : List WireRep). times rep (flat_map (loans_of s) ms) + times rep reps) (append-nil (loans_of s m))

ready_lends : (s : ℕ) (rep : WireRep) (m : Message) (W : Outstanding) → times rep (lent_in s (make_ready m W)) ≡ times rep (loans_of s m) + times rep (lent_in s W)
ready_lends s rep m W =
    let waiting : List WireRep = flat_map (loans_of s) W.waiting in
    let rest : List WireRep = flat_map (λ (run : Run). loans_of s run.message) W.running ++ flat_map (loans_of s) W.replies in
    let a = times_both rep waiting (flat_map (loans_of s) (W.ready ++ m ∷ []) ++ rest) in
    let b = times_both rep (flat_map (loans_of s) (W.ready ++ m ∷ [])) rest in
    let c = times_both rep waiting (flat_map (loans_of s) W.ready ++ rest) in
    let d = times_both rep (flat_map (loans_of s) W.ready) rest in
    let e = push_lends s rep m W.ready in
    omega (arith, a, b, c, d, e)

reply_lends : (s : ℕ) (rep : WireRep) (m : Message) (W : Outstanding) → times rep (lent_in s (make_reply m W)) ≡ times rep (loans_of s m) + times rep (lent_in s W)
reply_lends s rep m W =
    let waiting : List WireRep = flat_map (loans_of s) W.waiting in
    let ready : List WireRep = flat_map (loans_of s) W.ready in
    let running : List WireRep = flat_map (λ (run : Run). loans_of s run.message) W.running in
    let a = times_both rep waiting (ready ++ (running ++ flat_map (loans_of s) (W.replies ++ m ∷ []))) in
    let b = times_both rep ready (running ++ flat_map (loans_of s) (W.replies ++ m ∷ [])) in
    let c = times_both rep running (flat_map (loans_of s) (W.replies ++ m ∷ [])) in
    let d = times_both rep waiting (ready ++ (running ++ flat_map (loans_of s) W.replies)) in
    let e = times_both rep ready (running ++ flat_map (loans_of s) W.replies) in
    let f = times_both rep running (flat_map (loans_of s) W.replies) in
    let g = push_lends s rep m W.replies in
    omega (arith, a, b, c, d, e, f, g)

-- once a message is settled all lends what it did, less the loans that ended
pub settled_lends : (s p k : ℕ) (rep : WireRep) (m : Message) (item : Item) (lost : Bool) (W : Outstanding) → find (is_of p k) W.waiting ≡ Some m
    → times rep (lent_in s W) ≡ times rep (loans_ended s m item lost) + times rep (lent_in s (after_settlement m item lost (without_waiting p k W)))
unfolding after_settlement
settled_lends s p k rep m (items.Call call target method value) true W found = without_lends s p k rep m W found
settled_lends s p k rep m (items.Call call target method value) false W found = let before = without_lends s p k rep m W found in let after = ready_lends s rep m (without_waiting p k W) in let none : times rep [] ≡ 0 = refl in omega (arith, before, after, none)
settled_lends s p k rep m (items.Reply call status value) true W found =
    let before = without_lends s p k rep m W found in
    let after = reply_lends s rep (lost_reply m call) (without_waiting p k W) in
    let none : times rep (loans_of s (lost_reply m call)) ≡ 0 = refl in
    omega (arith, before, after, none)
settled_lends s p k rep m (items.Reply call status value) false W found = let before = without_lends s p k rep m W found in let after = reply_lends s rep m (without_waiting p k W) in let none : times rep [] ≡ 0 = refl in omega (arith, before, after, none)
settled_lends s p k rep m (items.Settle item) lost W found = without_lends s p k rep m W found
settled_lends s p k rep m (items.Dirty index) lost W found = without_lends s p k rep m W found
settled_lends s p k rep m (items.DirtyOk index) lost W found = without_lends s p k rep m W found
settled_lends s p k rep m (items.DirtyNo index) lost W found = without_lends s p k rep m W found
settled_lends s p k rep m (items.Clean index) lost W found = without_lends s p k rep m W found

-- none of what ends wasn't lent
pub ended_lent : (s : ℕ) (rep : WireRep) (m : Message) (item : Item) (lost : Bool) → times rep (loans_ended s m item lost) ≤ times rep (loans_of s m)
ended_lent s rep m (items.Call call target method value) true = omega arith
ended_lent s rep m (items.Call call target method value) false = (let none : 0 ≤ times rep (loans_of s m) = omega arith in none)
ended_lent s rep m (items.Reply call status value) true = omega arith
ended_lent s rep m (items.Reply call status value) false = (let none : 0 ≤ times rep (loans_of s m) = omega arith in none)
ended_lent s rep m (items.Settle item) lost = omega arith
ended_lent s rep m (items.Dirty index) lost = omega arith
ended_lent s rep m (items.DirtyOk index) lost = omega arith
ended_lent s rep m (items.DirtyNo index) lost = omega arith
ended_lent s rep m (items.Clean index) lost = omega arith

-- ---- what stays fixed

-- what is fixed stays so once a message of it is settled
pub settled_fixed : (s n p k : ℕ) (D : List Deed) (m : Message) (item : Item) (lost : Bool) (W : Outstanding) → find (is_of p k) W.waiting ≡ Some m → AreFixed s n D W → AreFixed s n D (after_settlement m item lost (without_waiting p k W))
unfolding after_settlement message_after
settled_fixed s n p k D m item lost W found fixed = put item lost
  where
    its : message_after s n D m ≡ m
    its = all_found (λ message. message_after s n D message ≡ message) (is_of p k) W.waiting m found fixed.waiting

    others : AreFixed s n D (without_waiting p k W)
    others = record { waiting = all_without (λ message. message_after s n D message ≡ message) (is_of p k) W.waiting fixed.waiting; ready = fixed.ready; running = fixed.running; replies = fixed.replies }

    ready : AreFixed s n D (make_ready m (without_waiting p k W))
    ready = record { waiting = others.waiting; ready = all_push (λ message. message_after s n D message ≡ message) W.ready m fixed.ready its; running = fixed.running; replies = fixed.replies }

    reply : (message : Message) → message_after s n D message ≡ message → AreFixed s n D (make_reply message (without_waiting p k W))
    reply message one = record { waiting = others.waiting; ready = fixed.ready; running = fixed.running; replies = all_push (λ x. message_after s n D x ≡ x) W.replies message fixed.replies one }

    put : (item : Item) (lost : Bool) → AreFixed s n D (after_settlement m item lost (without_waiting p k W))
    put (items.Call call target method value) true = others
    put (items.Call call target method value) false = ready
    put (items.Reply call status value) true = reply (lost_reply m call) refl
    put (items.Reply call status value) false = reply m its
    put (items.Settle item) lost = others
    put (items.Dirty index) lost = others
    put (items.DirtyOk index) lost = others
    put (items.DirtyNo index) lost = others
    put (items.Clean index) lost = others
