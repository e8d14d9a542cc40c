-- The calls on an end hand on what was sent to its peer in the present session, in order, and nothing else.
use Rattle.std.proofs.Common.{◌≡◌, ℕ, ◌+◌, ◌≤◌, ◌<◌, Bool, true, false, cond, List, [], ◌∷◌, ◌++◌, length, map, filter, Ok, refl, sym, ap, subst, ◌∙◌, append_assoc, arith}
use Rattle.std.specs.Prelude.{◌==◌, ◌&&◌}
use Rattle.std.specs.List.{AllByRecursion}
use Rattle.std.proofs.lemmas.List.{append-nil, length-map, map-append}
use Rattle.std.proofs.lemmas.List.Elements.{filter-append}
use Rattle.std.proofs.lemmas.Bool.{eqb-true, eq-eqb, and_parts, both_ways, false_from_ne_true}
use Rattle.nob_ids.specs.declared.reason.Reason.{Reason}
use Rattle.nob_item.specs.declared.item.Item.{Item}
use Rattle.nob_model_session.specs.End.{handed}
use Rattle.nob_model_session.specs.declared.entry.EndEntry.{EndEntry}
use Rattle.nob_model_session.specs.declared.entry.EndEntry.TheVariants as ends
use Rattle.nob_model_types.specs.declared.deed.Deed.{Deed}
use Rattle.nob_model_types.specs.declared.deed.Deed.TheVariants as did
use Rattle.nob_model_types.specs.declared.deed.Cause.{Cause}
use Rattle.nob_model_types.specs.declared.deed.Cause.TheVariants as causes
use Rattle.nob_model_types.specs.Sessions.{number}
use Rattle.nob_model_work.specs.declared.gifts.Gift.{Gift}
use Rattle.nob_model_work.specs.Work.{work}
use Rattle.nob_model_work.specs.Gifts.{gifts}
use Rattle.nob_model_history.specs.declared.transit.SentItem.{SentItem}
use Rattle.nob_model_history.specs.Histories.{history_of}
use Rattle.nob_model_history.specs.Ends.{items_to, payload_of, kind_of, with_sends, own_calls, call_of_closing, calls_at}
use Rattle.nob_model_history.specs.Transit.{is_sent_to, count_to, next_sent, with_gifts, sent}
use Rattle.nob_model_history.specs.Premises.{NumbersRise}
use Rattle.nob_model_history.proofs.Sessions.{opens, opened, number_kept}

-- ---- what is handed

-- a call that is no Send hands nothing, made or not
if_handed : (b : Bool) (call : EndEntry) (calls : List EndEntry) → handed (call ∷ calls) ≡ handed calls → handed (cond b (call ∷ calls) calls) ≡ handed calls
if_handed true call calls same = same
if_handed false call calls same = refl

closing_handed : (p : ℕ) (reason : Reason) (cause : Cause) (calls : List EndEntry) → handed (call_of_closing p reason cause ∷ calls) ≡ handed calls
closing_handed p reason causes.Item calls = refl
closing_handed p reason (causes.Frame frame) calls = refl
closing_handed p reason causes.Ticks calls = refl
closing_handed p reason causes.Asked calls = refl

-- the call that a deed itself is hands nothing, if it doesn't open the session anew
pub own_handed : (p : ℕ) (deed : Deed) (calls : List EndEntry) → opens p deed ≡ false → handed (own_calls p deed calls) ≡ handed calls
own_handed p (did.Act q k) calls none = if_handed (q == p) ends.Take calls refl
own_handed p (did.Transmit q frames) calls none = if_handed (q == p) (ends.Transmit frames) calls refl
own_handed p (did.Arrive frame count) calls none = if_handed (frame.from == p) _ calls refl
own_handed p (did.Tick q) calls none = if_handed (q == p) _ calls refl
own_handed p (did.Closing q reason cause) calls none = if_handed (q == p) _ calls (closing_handed p reason cause calls)
own_handed p (did.Open q k) calls none = ap (λ (b : Bool). handed (cond b (ends.Reopen k (Ok tt) ∷ calls) calls)) none
own_handed p (_) calls none = refl

-- sends hand their items on, behind what was handed before
pub sends_handed : (items : List Item) (calls : List EndEntry) → handed (with_sends items calls) ≡ handed calls ++ map payload_of items
sends_handed [] calls = sym (append-nil (handed calls))
sends_handed (item ∷ items) calls =
    sends_handed items (ends.Send (payload_of item) (kind_of item) (Ok (length (handed calls) + 1)) ∷ calls)
    ∙ append_assoc (handed calls) (payload_of item ∷ []) (map payload_of items)

-- ---- what is sent

-- the items of those that went to p
abbrev pub items_sent_to : ℕ → List SentItem → List Item
items_sent_to p sent_items = map (λ (one : SentItem). one.item) (filter (λ (one : SentItem). one.to == p) sent_items)

one_more_to : (b : Bool) (one : SentItem) (gift : Gift) (rest : List Gift) → one.item ≡ gift.item → (before : List Item) → (before ++ map (λ (x : SentItem). x.item) (cond b (one ∷ []) [])) ++ map (λ (x : Gift). x.item) rest ≡ before ++ map (λ (x : Gift). x.item) (cond b (gift ∷ rest) rest)
one_more_to true one gift rest same before = append_assoc before (one.item ∷ []) _ ∙ ap (λ (item : Item). before ++ item ∷ map (λ (x : Gift). x.item) rest) same
one_more_to false one gift rest same before = ap (λ (items : List Item). items ++ map (λ (x : Gift). x.item) rest) (append-nil before)

-- gifts to p are sent behind what was sent to it before
pub gifts_sent_to : (p : ℕ) (D : List Deed) (gifts : List Gift) (before : List SentItem) → items_sent_to p (with_gifts D before gifts) ≡ items_sent_to p before ++ items_to p gifts
gifts_sent_to p D [] before = sym (append-nil _)
gifts_sent_to p D (gift ∷ gifts) before =
    let one : SentItem = next_sent D before gift in
    gifts_sent_to p D gifts (before ++ one ∷ [])
    ∙ ap (λ (items : List Item). items ++ items_to p gifts) (ap (map (λ (x : SentItem). x.item)) (filter-append (λ (x : SentItem). x.to == p) before (one ∷ [])) ∙ map-append (λ (x : SentItem). x.item) (filter (λ (x : SentItem). x.to == p) before) _)
    ∙ one_more_to (gift.to == p) one gift (filter (λ (x : Gift). x.to == p) gifts) refl (items_sent_to p before)

-- ---- what is sent in a session

-- the items of those that went to p in session k
abbrev pub items_sent_in : (p k : ℕ) → List SentItem → List Item
items_sent_in p k sent_items = map (λ (one : SentItem). one.item) (filter (is_sent_to p k) sent_items)

-- a gift to p is sent in session k where that is the present one
next_in : (p k : ℕ) (D : List Deed) (before : List SentItem) (gift : Gift) → is_sent_to p k (next_sent D before gift) ≡ (gift.to == p && number p D == k)
next_in p k D before gift = elim (gift.to == p) as (λ (b : Bool). (gift.to == p) ≡ b → (b && number gift.to D == k) ≡ (b && number p D == k)) [
  | true ↦ λ own. ap (λ (q : ℕ). number q D == k) (eqb-true gift.to p own)
  | false ↦ λ other. refl
] refl

one_more_in : (b now : Bool) (one : SentItem) (gift : Gift) (rest : List Gift) → one.item ≡ gift.item → (before : List Item) → (before ++ map (λ (x : SentItem). x.item) (cond (b && now) (one ∷ []) [])) ++ cond now (map (λ (x : Gift). x.item) rest) [] ≡ before ++ cond now (map (λ (x : Gift). x.item) (cond b (gift ∷ rest) rest)) []
one_more_in b true one gift rest same before = ap (λ (c : Bool). (before ++ map (λ (x : SentItem). x.item) (cond c (one ∷ []) [])) ++ map (λ (x : Gift). x.item) rest) (and_true b) ∙ one_more_to b one gift rest same before
  where
    and_true : (c : Bool) → (c && true) ≡ c
    and_true true = refl
    and_true false = refl
one_more_in true false one gift rest same before = append-nil (before ++ [])
one_more_in false false one gift rest same before = append-nil (before ++ [])

none_more : (now : Bool) (items : List Item) → items ++ cond now [] [] ≡ items
none_more true items = append-nil items
none_more false items = append-nil items

-- gifts to p are sent in the present session, behind what was sent to it there before, and in no other
pub gifts_sent_in : (p k : ℕ) (D : List Deed) (gifts : List Gift) (before : List SentItem) → items_sent_in p k (with_gifts D before gifts) ≡ items_sent_in p k before ++ cond (number p D == k) (items_to p gifts) []
gifts_sent_in p k D [] before = sym (none_more (number p D == k) (items_sent_in p k before))
gifts_sent_in p k D (gift ∷ gifts) before =
    let one : SentItem = next_sent D before gift in
    gifts_sent_in p k D gifts (before ++ one ∷ [])
    ∙ ap (λ (items : List Item). items ++ cond (number p D == k) (items_to p gifts) []) (ap (map (λ (x : SentItem). x.item)) (filter-append (is_sent_to p k) before (one ∷ [])) ∙ map-append (λ (x : SentItem). x.item) (filter (is_sent_to p k) before) _)
    ∙ ap (λ (b : Bool). (items_sent_in p k before ++ map (λ (x : SentItem). x.item) (cond b (one ∷ []) [])) ++ cond (number p D == k) (items_to p gifts) []) (next_in p k D before gift)
    ∙ one_more_in (gift.to == p) (number p D == k) one gift (filter (λ (x : Gift). x.to == p) gifts) refl (items_sent_in p k before)

-- so all gifts to p stand behind what was sent to it in the present session
pub gifts_sent_now : (p : ℕ) (D : List Deed) (gifts : List Gift) (before : List SentItem) → items_sent_in p (number p D) (with_gifts D before gifts) ≡ items_sent_in p (number p D) before ++ items_to p gifts
gifts_sent_now p D gifts before =
    gifts_sent_in p (number p D) D gifts before
    ∙ ap (λ (now : Bool). items_sent_in p (number p D) before ++ cond now (items_to p gifts) []) (eq-eqb (number p D) (number p D) refl)

-- ---- numbers rise

-- no deed lowers the number of a session
pub number_rises : (p : ℕ) (deed : Deed) (D : List Deed) → NumbersRise (deed ∷ D) → number p D ≤ number p (deed ∷ D)
number_rises p (did.Open q k) D rise = elim (q == p) as (λ (b : Bool). (q == p) ≡ b → number p D ≤ cond b k (number p D)) [
  | true ↦ λ own. let above : number p D < k = subst (λ (r : ℕ). number r D < k) (eqb-true q p own) rise.0 in omega (arith, above)
  | false ↦ λ other. omega arith
] refl
number_rises p deed D rise = omega arith

-- numbers rise in the older part of a list, too
pub rise_before : (deed : Deed) (D : List Deed) → NumbersRise (deed ∷ D) → NumbersRise D
rise_before (did.Open q k) D rise = rise.1
rise_before deed D rise = rise

-- what was sent is of the present session with its receiver or of an older one
abbrev pub AreOfSessions : List Deed → List SentItem → Type 0
AreOfSessions D sent_items = AllByRecursion (λ (one : SentItem). one.session ≤ number one.to D) sent_items

sessions_append : (D : List Deed) (xs ys : List SentItem) → AreOfSessions D xs → AreOfSessions D ys → AreOfSessions D (xs ++ ys)
sessions_append D [] ys are more = more
sessions_append D (x ∷ xs) ys are more = (are.0, sessions_append D xs ys are.1 more)

sessions_later : (deed : Deed) (D : List Deed) → NumbersRise (deed ∷ D) → (xs : List SentItem) → AreOfSessions D xs → AreOfSessions (deed ∷ D) xs
sessions_later deed D rise [] are = tt
sessions_later deed D rise (x ∷ xs) are = (let most = are.0 in let rises = number_rises x.to deed D rise in omega (arith, most, rises), sessions_later deed D rise xs are.1)

gifts_sessions : (D : List Deed) (more : List Gift) (before : List SentItem) → AreOfSessions D before → AreOfSessions D (with_gifts D before more)
gifts_sessions D [] before are = are
gifts_sessions D (gift ∷ more) before are = gifts_sessions D more (before ++ next_sent D before gift ∷ []) (sessions_append D before (next_sent D before gift ∷ []) are (omega arith, tt))

-- where numbers rise all that was sent is of the present session with its receiver or of an older one
pub sent_sessions : (s n : ℕ) (D : List Deed) → NumbersRise D → AreOfSessions D (sent (history_of s n D))
sent_sessions s n [] rise = tt
sent_sessions s n (deed ∷ D) rise = sessions_later deed D rise (sent (history_of s n (deed ∷ D))) (gifts_sessions D (gifts s n deed D (work s n D)) (sent (history_of s n D)) (sent_sessions s n D (rise_before deed D rise)))

-- nor is anything of a newer one once a deed's gifts are sent
pub given_sessions : (s n : ℕ) (deed : Deed) (D : List Deed) → NumbersRise D → AreOfSessions D (sent (history_of s n (deed ∷ D)))
given_sessions s n deed D rise = gifts_sessions D (gifts s n deed D (work s n D)) (sent (history_of s n D)) (sent_sessions s n D rise)

none_newer : (p k : ℕ) (D : List Deed) (one : SentItem) → number p D < k → one.session ≤ number one.to D → is_sent_to p k one ≡ false
none_newer p k D one above most = false_from_ne_true _ (λ there.
    let parts = and_parts (one.to == p) (one.session == k) there in
    let session : one.session ≡ k = eqb-true one.session k parts.1 in
    let least : one.session ≤ number p D = subst (λ (q : ℕ). one.session ≤ number q D) (eqb-true one.to p parts.0) most in
    omega (arith, above, session, least))

-- so nothing was sent in a session with p that is newer than the present one
pub none_sent_newer : (p k : ℕ) (D : List Deed) → number p D < k → (xs : List SentItem) → AreOfSessions D xs → filter (is_sent_to p k) xs ≡ []
none_sent_newer p k D above [] are = refl
none_sent_newer p k D above (x ∷ xs) are = ap (λ (b : Bool). cond b (x ∷ filter (is_sent_to p k) xs) (filter (is_sent_to p k) xs)) (none_newer p k D x above are.0) ∙ none_sent_newer p k D above xs are.1

-- ---- both

-- one deed more leaves what is handed, and the number of the session, if it doesn't open it anew
payloads_kept : (p : ℕ) (deed : Deed) (D : List Deed) (calls : List EndEntry) (all : List SentItem) → opens p deed ≡ false → handed calls ≡ map payload_of (items_sent_in p (number p D) all) → handed (own_calls p deed calls) ≡ map payload_of (items_sent_in p (number p (deed ∷ D)) all)
payloads_kept p deed D calls all none are = own_handed p deed calls none ∙ are ∙ ap (λ (k : ℕ). map payload_of (items_sent_in p k all)) (sym (number_kept p deed D none))

-- an Open begins with nothing handed, and with nothing sent in its session
payloads_opened : (p k : ℕ) (D : List Deed) (calls : List EndEntry) (all : List SentItem) → number p D < k → AreOfSessions D all → (b : Bool) → (p == p) ≡ b → handed (cond b (ends.Reopen k (Ok tt) ∷ calls) calls) ≡ map payload_of (items_sent_in p (cond b k (number p D)) all)
payloads_opened p k D calls all above are true own = sym (ap (λ (xs : List SentItem). map payload_of (map (λ (one : SentItem). one.item) xs)) (none_sent_newer p k D above all are))
payloads_opened p k D calls all above are false own = absurd (both_ways (p == p) own (eq-eqb p p refl))

payloads_more : (p : ℕ) (deed : Deed) (D : List Deed) (calls : List EndEntry) (all : List SentItem) → NumbersRise (deed ∷ D) → AreOfSessions D all → handed calls ≡ map payload_of (items_sent_in p (number p D) all) → (b : Bool) → opens p deed ≡ b → handed (own_calls p deed calls) ≡ map payload_of (items_sent_in p (number p (deed ∷ D)) all)
payloads_more p deed D calls all rise sessions are false none = payloads_kept p deed D calls all none are
payloads_more p deed D calls all rise sessions are true own =
    let is = opened p deed own in
    let above = (subst (λ (one : Deed). NumbersRise (one ∷ D)) is.1 rise).0 in
    subst (λ (one : Deed). handed (own_calls p one calls) ≡ map payload_of (items_sent_in p (number p (one ∷ D)) all)) (sym is.1) (payloads_opened p is.0 D calls all above sessions (p == p) refl)

-- where numbers rise, what is handed on the end with p are the payloads of what was sent to p in the present session, in order
pub payloads_handed : (s n p : ℕ) (D : List Deed) → NumbersRise D → handed (calls_at p (history_of s n D)) ≡ map payload_of (items_sent_in p (number p D) (sent (history_of s n D)))
payloads_handed s n p [] rise = refl
payloads_handed s n p (deed ∷ D) rise =
    let more = gifts s n deed D (work s n D) in
    let older = rise_before deed D rise in
    payloads_more p deed D (with_sends (items_to p more) (calls_at p (history_of s n D))) (with_gifts D (sent (history_of s n D)) more) rise (given_sessions s n deed D older)
    (sends_handed (items_to p more) (calls_at p (history_of s n D))
    ∙ ap (λ (payloads : List (List ℕ)). payloads ++ map payload_of (items_to p more)) (payloads_handed s n p D older)
    ∙ sym (map-append payload_of (items_sent_in p (number p D) (sent (history_of s n D))) (items_to p more))
    ∙ ap (map payload_of) (sym (gifts_sent_now p D more (sent (history_of s n D)))))
    (opens p deed) refl

-- where numbers rise, as many items are handed on the end with p as were sent to p in the present session
pub count_handed : (s n p : ℕ) (D : List Deed) → NumbersRise D → length (handed (calls_at p (history_of s n D))) ≡ count_to p (number p D) (sent (history_of s n D))
count_handed s n p D rise =
    ap length (payloads_handed s n p D rise)
    ∙ length-map (items_sent_in p (number p D) (sent (history_of s n D))) payload_of
    ∙ length-map (filter (is_sent_to p (number p D)) (sent (history_of s n D))) (λ (x : SentItem). x.item)

-- ---- one deed more

-- the calls on the end with p once a deed more is done: what it gave to p is sent, and then the deed's own call is made
pub calls_more : (s n p : ℕ) (deed : Deed) (D : List Deed) → calls_at p (history_of s n (deed ∷ D)) ≡ own_calls p deed (with_sends (items_to p (gifts s n deed D (work s n D))) (calls_at p (history_of s n D)))
calls_more s n p deed D = refl

-- a deed that gives nothing to p and is no call on the end with p leaves the calls on that end as they were
pub calls_same : (s n p : ℕ) (deed : Deed) (D : List Deed) → items_to p (gifts s n deed D (work s n D)) ≡ [] → ((calls : List EndEntry) → own_calls p deed calls ≡ calls) → calls_at p (history_of s n (deed ∷ D)) ≡ calls_at p (history_of s n D)
calls_same s n p deed D none same =
    same (with_sends (items_to p (gifts s n deed D (work s n D))) (calls_at p (history_of s n D)))
    ∙ ap (λ (items : List Item). with_sends items (calls_at p (history_of s n D))) none
