-- Whether the end with a peer is open, how many items were taken there, and the front of its inbox.
use Rattle.std.proofs.Common.{◌≡◌, ℕ, ◌+◌, ◌≤◌, ◌||◌, not, Bool, true, false, cond, List, [], ◌∷◌, ◌++◌, length, Option, Some, None, Ok, refl, sym, ap, subst, ◌∙◌, arith}
use Rattle.std.specs.Prelude.{◌==◌}
use Rattle.std.proofs.lemmas.List.{length_push}
use Rattle.nob_ids.specs.declared.reason.Reason.{Reason}
use Rattle.nob_item.specs.declared.item.Item.{Item}
use Rattle.nob_model_session.specs.End.{handed, takes, waiting, is_open}
use Rattle.nob_model_session.specs.Right.{right_front, first_of}
use Rattle.nob_model_session.specs.declared.entry.EndEntry.{EndEntry}
use Rattle.nob_model_session.specs.declared.entry.EndEntry.TheVariants as ends
use Rattle.nob_model_types.specs.declared.deed.Deed.{Deed}
use Rattle.nob_model_types.specs.declared.deed.Deed.TheVariants as did
use Rattle.nob_model_types.specs.declared.deed.Cause.{Cause}
use Rattle.nob_model_types.specs.declared.deed.Cause.TheVariants as causes
use Rattle.nob_model_types.specs.Sessions.{closed, acted, item_at}
use Rattle.nob_model_work.specs.Work.{work}
use Rattle.nob_model_work.specs.Gifts.{gifts}
use Rattle.nob_model_history.specs.Histories.{history_of}
use Rattle.nob_model_history.proofs.Sessions.{opens}
use Rattle.nob_model_history.specs.Ends.{items_to, payload_of, kind_of, with_sends, own_calls, call_of_closing, calls_at}

-- the calls on the end with p once the items that a deed gave are sent
abbrev pub calls_sent : (s n p : ℕ) → Deed → List Deed → List EndEntry
calls_sent s n p deed D = with_sends (items_to p (gifts s n deed D (work s n D))) (calls_at p (history_of s n D))

-- ---- sends

-- a send leaves an end open or closed
pub sends_open : (items : List Item) (calls : List EndEntry) → is_open (with_sends items calls) ≡ is_open calls
sends_open [] calls = refl
sends_open (item ∷ items) calls = sends_open items (ends.Send (payload_of item) (kind_of item) (Ok (length (handed calls) + 1)) ∷ calls)

-- a send takes nothing
pub sends_takes : (items : List Item) (calls : List EndEntry) → takes (with_sends items calls) ≡ takes calls
sends_takes [] calls = refl
sends_takes (item ∷ items) calls = sends_takes items (ends.Send (payload_of item) (kind_of item) (Ok (length (handed calls) + 1)) ∷ calls)

-- a send leaves the front of the inbox
pub sends_front : (items : List Item) (calls : List EndEntry) → right_front (with_sends items calls) ≡ right_front calls
sends_front [] calls = refl
sends_front (item ∷ items) calls = sends_front items (ends.Send (payload_of item) (kind_of item) (Ok (length (handed calls) + 1)) ∷ calls)

-- ---- open and closed

if_open : (b : Bool) (call : EndEntry) (calls : List EndEntry) (up : Bool) → is_open (call ∷ calls) ≡ is_open calls → is_open calls ≡ up → is_open (cond b (call ∷ calls) calls) ≡ up
if_open true call calls up same is = same ∙ is
if_open false call calls up same is = is

closing_open : (p : ℕ) (reason : Reason) (cause : Cause) (calls : List EndEntry) → is_open (call_of_closing p reason cause ∷ calls) ≡ false
closing_open p reason causes.Item calls = refl
closing_open p reason (causes.Frame frame) calls = refl
closing_open p reason causes.Ticks calls = refl
closing_open p reason causes.Asked calls = refl

if_closing : (b before : Bool) (p : ℕ) (reason : Reason) (cause : Cause) (calls : List EndEntry) → is_open calls ≡ not before → is_open (cond b (call_of_closing p reason cause ∷ calls) calls) ≡ not (b || before)
if_closing true before p reason cause calls is = closing_open p reason cause calls
if_closing false before p reason cause calls is = is

if_opened : (b : Bool) (k : ℕ) (calls : List EndEntry) (before : Bool) → is_open calls ≡ not before → is_open (cond b (ends.Reopen k (Ok tt) ∷ calls) calls) ≡ not (cond b false before)
if_opened true k calls before is = refl
if_opened false k calls before is = is

open_step : (p : ℕ) (deed : Deed) (D : List Deed) (calls : List EndEntry) → is_open calls ≡ not (closed p D) → is_open (own_calls p deed calls) ≡ not (closed p (deed ∷ D))
open_step p (did.Act q k) D calls is = if_open (q == p) _ calls (not (closed p D)) refl is
open_step p (did.Transmit q frames) D calls is = if_open (q == p) _ calls (not (closed p D)) refl is
open_step p (did.Arrive frame count) D calls is = if_open (frame.from == p) _ calls (not (closed p D)) refl is
open_step p (did.Tick q) D calls is = if_open (q == p) _ calls (not (closed p D)) refl is
open_step p (did.Closing q reason cause) D calls is = if_closing (q == p) (closed p D) p reason cause calls is
open_step p (did.Open q k) D calls is = if_opened (q == p) k calls (closed p D) is
open_step p deed D calls is = is

-- the end with p is open exactly where the session with p hasn't closed
pub open_calls : (s n p : ℕ) (D : List Deed) → is_open (calls_at p (history_of s n D)) ≡ not (closed p D)
open_calls s n p [] = refl
open_calls s n p (deed ∷ D) = open_step p deed D (calls_sent s n p deed D) (sends_open (items_to p (gifts s n deed D (work s n D))) (calls_at p (history_of s n D)) ∙ open_calls s n p D)

-- ---- what was taken

if_takes : (b : Bool) (call : EndEntry) (calls : List EndEntry) → takes (call ∷ calls) ≡ takes calls → takes (cond b (call ∷ calls) calls) ≡ takes calls
if_takes true call calls same = same
if_takes false call calls same = refl

closing_takes : (p : ℕ) (reason : Reason) (cause : Cause) (calls : List EndEntry) → takes (call_of_closing p reason cause ∷ calls) ≡ takes calls
closing_takes p reason causes.Item calls = refl
closing_takes p reason (causes.Frame frame) calls = refl
closing_takes p reason causes.Ticks calls = refl
closing_takes p reason causes.Asked calls = refl

if_taken : (b : Bool) (calls : List EndEntry) → takes (cond b (ends.Take ∷ calls) calls) ≡ cond b (takes calls + 1) (takes calls)
if_taken true calls = refl
if_taken false calls = refl

-- an Act takes one item from its peer
pub takes_acted : (s n p q k : ℕ) (D : List Deed) → takes (calls_at p (history_of s n (did.Act q k ∷ D))) ≡ cond (q == p) (takes (calls_at p (history_of s n D)) + 1) (takes (calls_at p (history_of s n D)))
takes_acted s n p q k D = if_taken (q == p) (calls_sent s n p (did.Act q k) D) ∙ ap (λ (m : ℕ). cond (q == p) (m + 1) m) (sends_takes (items_to p (gifts s n (did.Act q k) D (work s n D))) (calls_at p (history_of s n D)))

-- whether a deed is an Act
abbrev pub is_act : Deed → Bool
is_act (did.Act q k) = true
is_act (_) = false

own_takes : (p : ℕ) (deed : Deed) (calls : List EndEntry) → is_act deed ≡ false → opens p deed ≡ false → takes (own_calls p deed calls) ≡ takes calls
own_takes p (did.Act q k) calls none kept = cc
own_takes p (did.Transmit q frames) calls none kept = if_takes (q == p) _ calls refl
own_takes p (did.Arrive frame count) calls none kept = if_takes (frame.from == p) _ calls refl
own_takes p (did.Tick q) calls none kept = if_takes (q == p) _ calls refl
own_takes p (did.Closing q reason cause) calls none kept = if_takes (q == p) _ calls (closing_takes p reason cause calls)
own_takes p (did.Open q k) calls none kept = ap (λ (b : Bool). takes (cond b (ends.Reopen k (Ok tt) ∷ calls) calls)) kept
own_takes p deed calls none kept = refl

-- no deed but an Act takes an item, and none but an Open of p leaves fewer taken
pub takes_same : (s n p : ℕ) (deed : Deed) (D : List Deed) → is_act deed ≡ false → opens p deed ≡ false → takes (calls_at p (history_of s n (deed ∷ D))) ≡ takes (calls_at p (history_of s n D))
takes_same s n p deed D none kept = own_takes p deed (calls_sent s n p deed D) none kept ∙ sends_takes (items_to p (gifts s n deed D (work s n D))) (calls_at p (history_of s n D))

no_fewer : (b : Bool) (count : ℕ) → count ≤ cond b (count + 1) count
no_fewer true count = omega arith
no_fewer false count = omega arith

-- by one deed more no fewer items were taken, if it doesn't open the session anew
pub takes_no_fewer : (s n p : ℕ) (deed : Deed) (D : List Deed) → opens p deed ≡ false → takes (calls_at p (history_of s n D)) ≤ takes (calls_at p (history_of s n (deed ∷ D)))
takes_no_fewer s n p (did.Act q k) D kept = subst (λ (m : ℕ). takes (calls_at p (history_of s n D)) ≤ m) (sym (takes_acted s n p q k D)) (no_fewer (q == p) (takes (calls_at p (history_of s n D))))
takes_no_fewer s n p deed D kept = let same = takes_same s n p deed D refl kept in omega (arith, same)

-- an Open of p leaves none taken, another what was
takes_opened : (b : Bool) (k : ℕ) (calls : List EndEntry) → takes (cond b (ends.Reopen k (Ok tt) ∷ calls) calls) ≡ cond b 0 (takes calls)
takes_opened true k calls = refl
takes_opened false k calls = refl

none_acted : (b : Bool) (before : List (ℕ × Option Item)) (count : ℕ) → length before ≡ count → length (cond b [] before) ≡ cond b 0 count
none_acted true before count is = refl
none_acted false before count is = is

length_acted : (b : Bool) (count : ℕ) (before : List (ℕ × Option Item)) (last : ℕ × Option Item) → length before ≡ count → length (cond b (before ++ last ∷ []) before) ≡ cond b (count + 1) count
length_acted true count before last is = length_push before last ∙ ap (λ (m : ℕ). m + 1) is
length_acted false count before last is = is

-- as many items from p were acted on as were taken at the end with p
pub acted_takes : (s n p : ℕ) (D : List Deed) → length (acted p D) ≡ takes (calls_at p (history_of s n D))
acted_takes s n p [] = refl
acted_takes s n p (did.Act q k ∷ D) = length_acted (q == p) (takes (calls_at p (history_of s n D))) (acted p D) (k, item_at p k D) (acted_takes s n p D) ∙ sym (takes_acted s n p q k D)
acted_takes s n p (did.Open q k ∷ D) =
    none_acted (q == p) (acted p D) (takes (calls_at p (history_of s n D))) (acted_takes s n p D)
    ∙ ap (λ (m : ℕ). cond (q == p) 0 m) (sym (sends_takes (items_to p (gifts s n (did.Open q k) D (work s n D))) (calls_at p (history_of s n D))))
    ∙ sym (takes_opened (q == p) k (calls_sent s n p (did.Open q k) D))
acted_takes s n p (deed ∷ D) = acted_takes s n p D ∙ sym (takes_same s n p deed D refl refl)

-- ---- the front

none_some : {A : Type 0} (x : A) → None ≡ Some x → ⊥
none_some x e = cc

some_same : {A : Type 0} (x y : A) → Some x ≡ Some y → x ≡ y
some_same x y e = cc

number_of_first : (number k : ℕ) (payload : List ℕ) (payloads : List (List ℕ)) → first_of number payloads ≡ Some (k, payload) → k ≡ number
number_of_first number k payload [] e = absurd (none_some _ e)
number_of_first number k payload (first ∷ payloads) e = sym (ap (λ (pair : ℕ × List ℕ). pair.0) (some_same (number, first) (k, payload) e))

-- the front of an inbox has the number after those that were taken
pub front_number : (calls : List EndEntry) (k : ℕ) (payload : List ℕ) → right_front calls ≡ Some (k, payload) → k ≡ takes calls + 1
front_number calls k payload front = number_of_first (takes calls + 1) k payload (waiting calls) front
