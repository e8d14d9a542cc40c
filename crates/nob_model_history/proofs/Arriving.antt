-- The payload of an item from a peer is the one that came at the end with the peer, and what the end accepted under its number.
use Rattle.std.proofs.Common.{◌≡◌, ℕ, zero, suc, ◌+◌, ◌≤◌, ◌<◌, ◌&&◌, Bool, true, false, cond, List, [], ◌∷◌, ◌++◌, length, drop, Option, Some, None, Ok, refl, sym, ap, subst, ◌∙◌, arith}
use Rattle.std.specs.Prelude.{◌==◌}
use Rattle.std.specs.List.{slice_get}
use Rattle.std.specs.Option.{option_or}
use Rattle.std.proofs.lemmas.Bool.{eqb-true}
use Rattle.std.proofs.lemmas.List.{length-append}
use Rattle.std.proofs.lemmas.Option.{slice_get_within}
use Rattle.nob_ids.specs.declared.reason.Reason.{Reason}
use Rattle.nob_item.specs.declared.item.Item.{Item}
use Rattle.nob_model_session.specs.Frame.{Frame}
use Rattle.nob_model_session.specs.End.{is_present, accepted_count, brings_at, payload, accepted, handed, takes, is_open}
use Rattle.nob_model_session.specs.End as end
use Rattle.nob_model_session.specs.Right.{right_front, first_of}
use Rattle.nob_model_session.specs.Accepting.{AcceptsWhatCame, AllCame}
use Rattle.nob_model_session.specs.declared.entry.EndEntry.{EndEntry}
use Rattle.nob_model_session.specs.declared.entry.EndEntry.TheVariants as ends
use Rattle.nob_model_session.specs.declared.entry.Arrived.TheVariants as arrived
use Rattle.nob_model_session.proofs.Arriving.{accepted_length, accepted_at}
use Rattle.nob_model_types.specs.declared.deed.Deed.{Deed}
use Rattle.nob_model_types.specs.declared.deed.Deed.TheVariants as did
use Rattle.nob_model_types.specs.declared.deed.Cause.{Cause}
use Rattle.nob_model_types.specs.declared.deed.Cause.TheVariants as causes
use Rattle.nob_model_types.specs.Sessions.{number, is_from, accepted_from, payload_at}
use Rattle.nob_model_work.specs.Work.{work}
use Rattle.nob_model_work.specs.Gifts.{gifts}
use Rattle.nob_model_history.specs.Histories.{history_of}
use Rattle.nob_model_history.specs.Premises.{AcceptsNext, InTurn}
use Rattle.nob_model_history.specs.Ends.{items_to, payload_of, kind_of, with_sends, own_calls, call_of_closing, calls_at}
use Rattle.nob_model_history.proofs.Sessions.{sends_number, number_is}
use Rattle.nob_model_history.proofs.Inbox.{calls_sent}

-- ---- how many were accepted

-- a send accepts nothing
pub sends_count : (items : List Item) (calls : List EndEntry) → accepted_count (with_sends items calls) ≡ accepted_count calls
sends_count [] calls = refl
sends_count (item ∷ items) calls = sends_count items (ends.Send (payload_of item) (kind_of item) (Ok (length (handed calls) + 1)) ∷ calls)

if_count : (b : Bool) (call : EndEntry) (calls : List EndEntry) → accepted_count (call ∷ calls) ≡ accepted_count calls → accepted_count (cond b (call ∷ calls) calls) ≡ accepted_count calls
if_count true call calls same = same
if_count false call calls same = refl

closing_count : (p : ℕ) (reason : Reason) (cause : Cause) (calls : List EndEntry) → accepted_count (call_of_closing p reason cause ∷ calls) ≡ accepted_count calls
closing_count p reason causes.Item calls = refl
closing_count p reason (causes.Frame frame) calls = refl
closing_count p reason causes.Ticks calls = refl
closing_count p reason causes.Asked calls = refl

arrival_count : (b : Bool) (frame : Frame) (count : ℕ) (calls : List EndEntry) → accepted_count (cond b (ends.Arrive frame (Ok (arrived.Took count)) ∷ calls) calls) ≡ cond (b && is_present frame calls) (count + accepted_count calls) (accepted_count calls)
arrival_count true frame count calls = refl
arrival_count false frame count calls = refl

opened_count : (b : Bool) (k : ℕ) (calls : List EndEntry) (m : ℕ) → accepted_count calls ≡ m → accepted_count (cond b (ends.Reopen k (Ok tt) ∷ calls) calls) ≡ cond b 0 m
opened_count true k calls m is = refl
opened_count false k calls m is = is

own_count : (p : ℕ) (deed : Deed) (D : List Deed) (calls : List EndEntry) → end.number calls ≡ number p D → accepted_count calls ≡ accepted_from p D → accepted_count (own_calls p deed calls) ≡ accepted_from p (deed ∷ D)
own_count p (did.Act q j) D calls session is = if_count (q == p) _ calls refl ∙ is
own_count p (did.Transmit q frames) D calls session is = if_count (q == p) _ calls refl ∙ is
own_count p (did.Arrive frame count) D calls session is =
    arrival_count (frame.from == p) frame count calls
    ∙ ap (λ (k : ℕ). cond (frame.from == p && frame.session == k) (count + accepted_count calls) (accepted_count calls)) session
    ∙ ap (λ (m : ℕ). cond (is_from p frame D) (count + m) m) is
own_count p (did.Tick q) D calls session is = if_count (q == p) _ calls refl ∙ is
own_count p (did.Closing q reason cause) D calls session is = if_count (q == p) _ calls (closing_count p reason cause calls) ∙ is
own_count p (did.Open q k) D calls session is = opened_count (q == p) k calls (accepted_from p D) is
own_count p deed D calls session is = is

-- what a deed gives is sent in the session with p
sent_number : (s n p : ℕ) (deed : Deed) (D : List Deed) → end.number (calls_sent s n p deed D) ≡ number p D
sent_number s n p deed D = sends_number (items_to p (gifts s n deed D (work s n D))) (calls_at p (history_of s n D)) ∙ number_is s n p D

-- as many items from p were accepted as were at the end with p
pub count_is : (s n p : ℕ) (D : List Deed) → accepted_count (calls_at p (history_of s n D)) ≡ accepted_from p D
count_is s n p [] = refl
count_is s n p (deed ∷ D) = own_count p deed D (calls_sent s n p deed D) (sent_number s n p deed D) (sends_count (items_to p (gifts s n deed D (work s n D))) (calls_at p (history_of s n D)) ∙ count_is s n p D)

-- an arrival leaves what was accepted in front of what it accepts
pub accepts_more : (b : Bool) (before more : List (List ℕ)) → length before ≤ length (cond b (before ++ more) before)
accepts_more true before more = let longer = length-append before more in omega (arith, longer)
accepts_more false before more = omega arith

-- ---- payloads

-- a send brings no payload
pub sends_payload : (k : ℕ) (items : List Item) (calls : List EndEntry) → payload k (with_sends items calls) ≡ payload k calls
sends_payload k [] calls = refl
sends_payload k (item ∷ items) calls = sends_payload k items (ends.Send (payload_of item) (kind_of item) (Ok (length (handed calls) + 1)) ∷ calls)

if_payload : (k : ℕ) (b : Bool) (call : EndEntry) (calls : List EndEntry) → payload k (call ∷ calls) ≡ payload k calls → payload k (cond b (call ∷ calls) calls) ≡ payload k calls
if_payload k true call calls same = same
if_payload k false call calls same = refl

closing_payload : (k p : ℕ) (reason : Reason) (cause : Cause) (calls : List EndEntry) → payload k (call_of_closing p reason cause ∷ calls) ≡ payload k calls
closing_payload k p reason causes.Item calls = refl
closing_payload k p reason (causes.Frame frame) calls = refl
closing_payload k p reason causes.Ticks calls = refl
closing_payload k p reason causes.Asked calls = refl

-- nothing behind
or_none : (found : Option (List ℕ)) → option_or found None ≡ found
or_none (Some bytes) = refl
or_none None = refl

arrival_payload : (k : ℕ) (b : Bool) (frame : Frame) (count : ℕ) (calls : List EndEntry) → payload k (cond b (ends.Arrive frame (Ok (arrived.Took count)) ∷ calls) calls) ≡ option_or (payload k calls) (cond ((b && is_present frame calls) && brings_at k frame (accepted_count calls)) (Some frame.payload) None)
arrival_payload k true frame count calls = refl
arrival_payload k false frame count calls = sym (or_none (payload k calls))

opened_payload : (k : ℕ) (b : Bool) (j : ℕ) (calls : List EndEntry) (found : Option (List ℕ)) → payload k calls ≡ found → payload k (cond b (ends.Reopen j (Ok tt) ∷ calls) calls) ≡ cond b None found
opened_payload k true j calls found is = refl
opened_payload k false j calls found is = is

own_payload : (p k : ℕ) (deed : Deed) (D : List Deed) (calls : List EndEntry) → end.number calls ≡ number p D → accepted_count calls ≡ accepted_from p D → payload k calls ≡ payload_at p k D → payload k (own_calls p deed calls) ≡ payload_at p k (deed ∷ D)
own_payload p k (did.Act q j) D calls session count is = if_payload k (q == p) _ calls refl ∙ is
own_payload p k (did.Transmit q frames) D calls session count is = if_payload k (q == p) _ calls refl ∙ is
own_payload p k (did.Arrive frame took) D calls session count is =
    arrival_payload k (frame.from == p) frame took calls
    ∙ ap (λ (m : ℕ). option_or (payload k calls) (cond ((frame.from == p && frame.session == m) && brings_at k frame (accepted_count calls)) (Some frame.payload) None)) session
    ∙ ap (λ (found : Option (List ℕ)). option_or found (cond (is_from p frame D && brings_at k frame (accepted_count calls)) (Some frame.payload) None)) is
    ∙ ap (λ (m : ℕ). option_or (payload_at p k D) (cond (is_from p frame D && brings_at k frame m) (Some frame.payload) None)) count
own_payload p k (did.Tick q) D calls session count is = if_payload k (q == p) _ calls refl ∙ is
own_payload p k (did.Closing q reason cause) D calls session count is = if_payload k (q == p) _ calls (closing_payload k p reason cause calls) ∙ is
own_payload p k (did.Open q j) D calls session count is = opened_payload k (q == p) j calls (payload_at p k D) is
own_payload p k deed D calls session count is = is

-- the payload of item k from p is the one that came at the end with p, in every list
pub payload_is : (s n p k : ℕ) (D : List Deed) → payload_at p k D ≡ payload k (calls_at p (history_of s n D))
payload_is s n p k [] = refl
payload_is s n p k (deed ∷ D) =
    let given : List Item = items_to p (gifts s n deed D (work s n D)) in
    let before : List EndEntry = calls_at p (history_of s n D) in
    sym (own_payload p k deed D (calls_sent s n p deed D) (sent_number s n p deed D) (sends_count given before ∙ count_is s n p D) (sends_payload k given before ∙ sym (payload_is s n p k D)))

-- ---- what was accepted

sends_came : (items : List Item) (calls : List EndEntry) → AllCame calls → AllCame (with_sends items calls)
sends_came [] calls came = came
sends_came (item ∷ items) calls came = sends_came items (ends.Send (payload_of item) (kind_of item) (Ok (length (handed calls) + 1)) ∷ calls) (tt, came)

sends_found : (frame : Frame) (count : ℕ) (items : List Item) (calls : List EndEntry) → AcceptsWhatCame (ends.Arrive frame (Ok (arrived.Took count))) calls → AcceptsWhatCame (ends.Arrive frame (Ok (arrived.Took count))) (with_sends items calls)
sends_found frame count [] calls found = found
sends_found frame count (item ∷ items) calls found = sends_found frame count items (ends.Send (payload_of item) (kind_of item) (Ok (length (handed calls) + 1)) ∷ calls) found

if_came : (b : Bool) (call : EndEntry) (calls : List EndEntry) → (b ≡ true → AcceptsWhatCame call calls) → AllCame calls → AllCame (cond b (call ∷ calls) calls)
if_came true call calls now came = (now refl, came)
if_came false call calls now came = came

closing_came : (p : ℕ) (reason : Reason) (cause : Cause) (calls : List EndEntry) → AcceptsWhatCame (call_of_closing p reason cause) calls
closing_came p reason causes.Item calls = tt
closing_came p reason (causes.Frame frame) calls = tt
closing_came p reason causes.Ticks calls = tt
closing_came p reason causes.Asked calls = tt

came_more : (s n p : ℕ) (deed : Deed) (D : List Deed) → AcceptsNext s n deed D → AllCame (calls_sent s n p deed D) → AllCame (calls_at p (history_of s n (deed ∷ D)))
came_more s n p (did.Act q j) D next came = if_came (q == p) _ _ (λ own. tt) came
came_more s n p (did.Transmit q frames) D next came = if_came (q == p) _ _ (λ own. tt) came
came_more s n p (did.Arrive frame count) D next came =
    if_came (frame.from == p) _ _ (λ own. sends_found frame count (items_to p (gifts s n (did.Arrive frame count) D (work s n D))) (calls_at p (history_of s n D)) (subst (λ (q : ℕ). AcceptsWhatCame (ends.Arrive frame (Ok (arrived.Took count))) (calls_at q (history_of s n D))) (eqb-true frame.from p own) next)) came
came_more s n p (did.Tick q) D next came = if_came (q == p) _ _ (λ own. tt) came
came_more s n p (did.Closing q reason cause) D next came = if_came (q == p) _ _ (λ own. closing_came p reason cause (calls_sent s n p (did.Closing q reason cause) D)) came
came_more s n p (did.Open q k) D next came = if_came (q == p) _ _ (λ own. tt) came
came_more s n p deed D next came = came

-- where each deed accepted the next items or none, each call on the end with a peer accepted what had come
pub all_came : (s n p : ℕ) (D : List Deed) → InTurn s n D → AllCame (calls_at p (history_of s n D))
all_came s n p [] turn = tt
all_came s n p (deed ∷ D) turn = came_more s n p deed D turn.0 (sends_came (items_to p (gifts s n deed D (work s n D))) (calls_at p (history_of s n D)) (all_came s n p D turn.1))

-- there the payload of item k + 1 from p is the one that the end with p accepted as its item k + 1, if it accepted so many
pub payloads_are : (s n : ℕ) (D : List Deed) → InTurn s n D → (p k : ℕ) → k < length (accepted (calls_at p (history_of s n D))) → payload_at p (k + 1) D ≡ slice_get (accepted (calls_at p (history_of s n D))) k
payloads_are s n D turn p k few =
    let calls : List EndEntry = calls_at p (history_of s n D) in
    let came : AllCame calls = all_came s n p D turn in
    payload_is s n p (k + 1) D ∙ sym (accepted_at calls came k (subst (λ (m : ℕ). k < m) (accepted_length calls came) few))

-- ---- the front of an inbox

none_some : {A : Type 0} (x : A) → None ≡ Some x → ⊥
none_some x e = cc

some_same : {A : Type 0} (x y : A) → Some x ≡ Some y → x ≡ y
some_same x y e = cc

-- the first of what is left behind some payloads stands at that place, under its number
first_behind : (xs : List (List ℕ)) (m number k : ℕ) (bytes : List ℕ) → first_of number (drop m xs) ≡ Some (k, bytes) → (k ≡ number) × (slice_get xs m ≡ Some bytes)
first_behind [] zero number k bytes e = absurd (none_some _ e)
first_behind [] (suc m) number k bytes e = absurd (none_some _ e)
first_behind (x ∷ xs) zero number k bytes e = let same : (number, x) ≡ (k, bytes) = some_same _ _ e in (sym (ap (λ (pair : ℕ × List ℕ). pair.0) same), ap (λ (pair : ℕ × List ℕ). Some pair.1) same)
first_behind (x ∷ xs) (suc m) number k bytes e = first_behind xs m number k bytes e

front_where : (calls : List EndEntry) (is_up : Bool) (k : ℕ) (bytes : List ℕ) → first_of (takes calls + 1) (cond is_up (drop (takes calls) (accepted calls)) []) ≡ Some (k, bytes) → (k ≡ takes calls + 1) × (slice_get (accepted calls) (takes calls) ≡ Some bytes)
front_where calls true k bytes e = first_behind (accepted calls) (takes calls) (takes calls + 1) k bytes e
front_where calls false k bytes e = absurd (none_some _ e)

-- the front of an inbox is the first that was accepted and not taken
pub front_place : (calls : List EndEntry) (k : ℕ) (bytes : List ℕ) → right_front calls ≡ Some (k, bytes) → (k ≡ takes calls + 1) × (slice_get (accepted calls) (takes calls) ≡ Some bytes)
front_place calls k bytes front = front_where calls (is_open calls) k bytes front

-- the front of the inbox of a peer is the item of its number from that peer
pub front_payload : (s n p : ℕ) (D : List Deed) → InTurn s n D → (k : ℕ) (payload : List ℕ) → right_front (calls_at p (history_of s n D)) ≡ Some (k, payload) → payload_at p k D ≡ Some payload
front_payload s n p D turn k bytes front =
    let calls : List EndEntry = calls_at p (history_of s n D) in
    let found = front_place calls k bytes front in
    ap (λ (m : ℕ). payload_at p m D) found.0 ∙ payloads_are s n D turn p (takes calls) (slice_get_within (accepted calls) (takes calls) bytes found.1) ∙ found.1
