-- How many Dirties were sent and how often a reference is lent: fewer than the table can count.
use Rattle.std.proofs.Common.{◌≡◌, ℕ, zero, suc, ◌+◌, ◌*◌, ◌≤◌, ◌<◌, Bool, true, false, not, ◌==◌, cond, List, [], ◌∷◌, length, filter, filter_map, flat_map, map, option_and_then, Option, Some, None, Ok, if◌then◌else◌, refl, sym, ap, subst, ◌∙◌, arith}
use Rattle.std.specs.List.{AllByRecursion, cons_option}
use Rattle.std.proofs.lemmas.Bool.{eq-eqb}
use Rattle.std.proofs.lemmas.Bool.Decides.{nat_tests}
use Rattle.std.proofs.lemmas.List.{length-append, length-map}
use Rattle.nob_ids.specs.Names.{is_same}
use Rattle.nob_ids.specs.declared.limits.Limits.{Limits}
use Rattle.nob_ids.specs.declared.wire_rep.WireRep.{WireRep}
use Rattle.nob_item.specs.Kinds.{counted_in}
use Rattle.nob_item.specs.declared.item.Item.{Item}
use Rattle.nob_item.specs.declared.item.Item.TheVariants as items
use Rattle.nob_model_session.specs.End.{handed}
use Rattle.nob_model_types.specs.declared.deed.Deed.{Deed}
use Rattle.nob_model_types.specs.declared.deed.Deed.TheVariants.{Act, Open}
use Rattle.nob_model_types.specs.declared.message.Message.{Message}
use Rattle.nob_model_types.specs.declared.message.RefCopy.{RefCopy}
use Rattle.nob_model_types.specs.Messages.{new_copy, message_after, copy_after}
use Rattle.nob_model_types.specs.Sessions.{number, item_spelt, payload_at}
use Rattle.nob_model_work.specs.declared.work.Outstanding.{Outstanding}
use Rattle.nob_model_work.specs.declared.work.Run.{Run}
use Rattle.nob_model_work.specs.Work.{work}
use Rattle.nob_model_work.specs.Gifts.{gifts_of, gifts}
use Rattle.nob_model_work.specs.declared.gifts.Gift.{Gift}
use Rattle.nob_model_session.specs.declared.entry.EndEntry.{EndEntry}
use Rattle.nob_model_session.specs.declared.entry.EndEntry.TheVariants as ends
use Rattle.nob_model_history.specs.declared.transit.SentItem.{SentItem}
use Rattle.nob_model_history.specs.Histories.{history_of}
use Rattle.nob_model_history.specs.Ends.{calls_at, items_to, own_calls, payload_of, with_sends}
use Rattle.nob_model_history.specs.Holds.{times, lent_in, loans_of, target_lent, copies_lent, is_lent}
use Rattle.nob_model_history.specs.Transit.{asks_for, dirties, sent, with_gifts}
use Rattle.nob_model_history.proofs.Numbered.{items_sent_to, gifts_sent_to, own_handed, sends_handed}
use Rattle.nob_model_history.proofs.Sessions.{opens, number_kept, opened}
use Rattle.nob_model_acting.specs.Acting.{messages}
use Rattle.nob_model.specs.Right.{own_ref}
use Rattle.nob_model.specs.Lists.{IsRightDeed, AreRightDeeds}
use Rattle.nob_model.proofs.Calling.{calls_law}
use Rattle.nob_model.proofs.Reopening.{open_number, open_last}
use Rattle.nob_model.proofs.Carrying.{AllOutstanding, all_outstanding}
use Rattle.nob_space_state.specs.Parts.{State}
use Rattle.nob_space_state.specs.Stands.{Stands}
use Rattle.nob_space_state.proofs.Counted.{times_both}
use Rattle.nob_space_items.specs.Messages.{owner_count}
use Rattle.nob_space_items.proofs.Spares.{CanBeAsked, all_asked as dirties_asked}
use Rattle.nob_space_items.proofs.ReadItems.{item_few}
use Rattle.nob_space_items.proofs.Received.{times_lent}
use Rattle.nob_space_items.proofs.Refused.{handed_low}

-- ---- Dirties

pub filter_short : {A : Type 0} (p : A → Bool) (xs : List A) → length (filter p xs) ≤ length xs
filter_short p [] = (let low : 0 ≤ 0 = omega arith in low)
filter_short p (x ∷ xs) = let rest = filter_short p xs in elim (p x) as (λ b. length (cond b (x ∷ filter p xs) (filter p xs)) ≤ suc (length xs)) [ true ↦ omega (arith, rest) | false ↦ omega (arith, rest) ]

-- references of spaces up to a number
abbrev AreUpTo : ℕ → List WireRep → Type 0
AreUpTo n xs = AllByRecursion (λ (x : WireRep). (1 ≤ x.owner) × (x.owner ≤ n)) xs

owned_split : (p : ℕ) (xs : List WireRep) → length xs ≡ owner_count p xs + length (filter (λ (x : WireRep). not (x.owner == p)) xs)
owned_split p [] = refl
owned_split p (x ∷ xs) = let rest = owned_split p xs in elim (x.owner == p) as (λ b. suc (length xs) ≡ length (cond b (x ∷ filter (λ (one : WireRep). one.owner == p) xs) (filter (λ (one : WireRep). one.owner == p) xs)) + length (cond (not b) (x ∷ filter (λ (one : WireRep). not (one.owner == p)) xs) (filter (λ (one : WireRep). not (one.owner == p)) xs))) [ true ↦ omega (arith, rest) | false ↦ omega (arith, rest) ]

owned_fewer : (p : ℕ) (test : WireRep → Bool) (xs : List WireRep) → owner_count p (filter test xs) ≤ owner_count p xs
owned_fewer p test [] = (let low : 0 ≤ 0 = omega arith in low)
owned_fewer p test (x ∷ xs) =
    let rest = owned_fewer p test xs in
    elim (test x) as (λ b. owner_count p (cond b (x ∷ filter test xs) (filter test xs)) ≤ owner_count p (x ∷ xs)) [
      | true ↦ elim (x.owner == p) as (λ c. length (cond c (x ∷ filter (λ (one : WireRep). one.owner == p) (filter test xs)) (filter (λ (one : WireRep). one.owner == p) (filter test xs))) ≤ length (cond c (x ∷ filter (λ (one : WireRep). one.owner == p) xs) (filter (λ (one : WireRep). one.owner == p) xs))) [ true ↦ omega (arith, rest) | false ↦ rest ]
      | false ↦ elim (x.owner == p) as (λ c. owner_count p (filter test xs) ≤ length (cond c (x ∷ filter (λ (one : WireRep). one.owner == p) xs) (filter (λ (one : WireRep). one.owner == p) xs))) [ true ↦ omega (arith, rest) | false ↦ rest ]
    ]

up_to_less : (n : ℕ) (xs : List WireRep) → AreUpTo (suc n) xs → AreUpTo n (filter (λ (x : WireRep). not (x.owner == suc n)) xs)
up_to_less n [] all = tt
up_to_less n (x ∷ xs) all = elim (x.owner == suc n) as (λ b. x.owner == suc n ≡ b → AreUpTo n (cond (not b) (x ∷ filter (λ (one : WireRep). not (one.owner == suc n)) xs) (filter (λ (one : WireRep). not (one.owner == suc n)) xs))) [
  | true ↦ λ _. up_to_less n xs all.1
  | false ↦ λ other. let low = all.0.0 in let high = all.0.1 in ((low, grind (arith, nat_tests, other, high)), up_to_less n xs all.1)
] refl

-- so many for each of so many spaces
few_for_each : (n : ℕ) (xs : List WireRep) → AreUpTo n xs → ((p : ℕ) → owner_count p xs ≤ 4722366482869645213696) → length xs ≤ n * 4722366482869645213696
few_for_each zero [] all few = omega arith
few_for_each zero (x ∷ xs) all few = absurd (let low = all.0.0 in let high = all.0.1 in omega (arith, low, high))
few_for_each (suc n) xs all few =
    let others : List WireRep = filter (λ (x : WireRep). not (x.owner == suc n)) xs in
    let rest : length others ≤ n * 4722366482869645213696 = few_for_each n others (up_to_less n xs all) (λ p. let fewer = owned_fewer p (λ (x : WireRep). not (x.owner == suc n)) xs in let most = few p in omega (arith, fewer, most)) in
    let split : length xs ≡ owner_count (suc n) xs + length others = owned_split (suc n) xs in
    let here : owner_count (suc n) xs ≤ 4722366482869645213696 = few (suc n) in
    omega (arith, rest, split, here)

-- no more references of a space were asked for than items were sent to it
one_asked : (p : ℕ) (to : ℕ) (item : Item) (rest : List WireRep) (more : ℕ) → owner_count p rest ≤ more → owner_count p (cons_option (asks_for to item) rest) ≤ cond (to == p) (suc more) more
one_asked p to (items.Dirty index) rest more few = elim (to == p) as (λ b. length (cond b (record { owner = to; index = index } ∷ filter (λ (one : WireRep). one.owner == p) rest) (filter (λ (one : WireRep). one.owner == p) rest)) ≤ cond b (suc more) more) [ true ↦ omega (arith, few) | false ↦ few ]
one_asked p to (_) rest more few = elim (to == p) as (λ b. owner_count p rest ≤ cond b (suc more) more) [ true ↦ omega (arith, few) | false ↦ few ]

-- how many of these items were sent to p
abbrev count_all : ℕ → List SentItem → ℕ
count_all p xs = length (filter (λ (x : SentItem). x.to == p) xs)

asked_sent : (p : ℕ) (xs : List SentItem) → owner_count p (filter_map (λ (one : SentItem). asks_for one.to one.item) xs) ≤ count_all p xs
asked_sent p [] = (let low : 0 ≤ 0 = omega arith in low)
asked_sent p (one ∷ xs) =
    let here = one_asked p one.to one.item (filter_map (λ (x : SentItem). asks_for x.to x.item) xs) (count_all p xs) (asked_sent p xs) in
    elim (one.to == p) as (λ b. owner_count p (cons_option (asks_for one.to one.item) (filter_map (λ (x : SentItem). asks_for x.to x.item) xs)) ≤ cond b (suc (count_all p xs)) (count_all p xs) → owner_count p (cons_option (asks_for one.to one.item) (filter_map (λ (x : SentItem). asks_for x.to x.item) xs)) ≤ length (cond b (one ∷ filter (λ (x : SentItem). x.to == p) xs) (filter (λ (x : SentItem). x.to == p) xs))) [ true ↦ λ low. low | false ↦ λ low. low ] here

-- no more was sent to p than the sessions before the present one have numbers for, and what is handed in that
abbrev IsBounded : (s n p : ℕ) → List Deed → Type 0
IsBounded s n p D = count_all p (sent (history_of s n D)) + 1099511627776 ≤ number p D * 1099511627776 + length (handed (calls_at p (history_of s n D)))

-- a deed that opens no session with p sends what it hands on
bounded_kept : (s n p : ℕ) (deed : Deed) (D : List Deed) → opens p deed ≡ false → IsBounded s n p D → IsBounded s n p (deed ∷ D)
bounded_kept s n p deed D other before =
    let more : List Gift = gifts s n deed D (work s n D) in
    let items : List Item = items_to p more in
    let sent_before : List SentItem = sent (history_of s n D) in
    let calls : List EndEntry = calls_at p (history_of s n D) in
    let to_p : SentItem → Bool = λ (x : SentItem). x.to == p in
    let sent_then : count_all p (sent (history_of s n (deed ∷ D))) ≡ count_all p sent_before + length items =
    sym (length-map (filter to_p (with_gifts D sent_before more)) (λ (x : SentItem). x.item))
    ∙ ap length (gifts_sent_to p D more sent_before)
    ∙ length-append (items_sent_to p sent_before) items
    ∙ ap (λ (k : ℕ). k + length items) (length-map (filter to_p sent_before) (λ (x : SentItem). x.item)) in
    let handed_then : length (handed (calls_at p (history_of s n (deed ∷ D)))) ≡ length (handed calls) + length items =
    ap length (own_handed p deed (with_sends items calls) other ∙ sends_handed items calls)
    ∙ length-append (handed calls) (map payload_of items)
    ∙ ap (λ (k : ℕ). length (handed calls) + k) (length-map items payload_of) in
    let same : number p (deed ∷ D) * 1099511627776 ≡ number p D * 1099511627776 = ap (λ (k : ℕ). k * 1099511627776) (number_kept p deed D other) in
    omega (arith, sent_then, handed_then, same, before)

-- an Open of p sends nothing, and begins with nothing handed
bounded_opened : (s n p k : ℕ) (limits : Limits) (D : List Deed) → number p D < k → AreRightDeeds s n limits D → IsBounded s n p D → IsBounded s n p (Open p k ∷ D)
unfolding gifts gifts_of
bounded_opened s n p k limits D above right before =
    let own : (p == p) ≡ true = eq-eqb p p refl in
    let calls : List EndEntry = calls_at p (history_of s n D) in
    let most : length (handed calls) ≤ 1099511627776 = handed_low s p limits calls (calls_law s n limits D right p) in
    let none : length (handed (calls_at p (history_of s n (Open p k ∷ D)))) ≡ 0 = ap (λ (b : Bool). length (handed (cond b (ends.Reopen k (Ok tt) ∷ calls) calls))) own in
    let now : number p (Open p k ∷ D) ≡ k = ap (λ (b : Bool). cond b k (number p D)) own in
    let same : count_all p (sent (history_of s n (Open p k ∷ D))) ≡ count_all p (sent (history_of s n D)) = refl in
    omega (arith, above, before, most, none, now, same)

-- each session handed at most what it has numbers for
all_bounded : (s n p : ℕ) (limits : Limits) (D : List Deed) → AreRightDeeds s n limits D → IsBounded s n p D
all_bounded s n p limits [] right = (let low : 0 + 1099511627776 ≤ 1 * 1099511627776 + 0 = omega arith in low)
all_bounded s n p limits (deed ∷ D) right = elim (opens p deed) as (λ b. opens p deed ≡ b → IsBounded s n p (deed ∷ D)) [
  | true ↦ λ anew.
      let is = opened p deed anew in
      let rises = open_number s n limits p is.0 D (subst (λ (d : Deed). IsRightDeed s n limits d D) is.1 right.0) in
      subst (λ (d : Deed). IsBounded s n p (d ∷ D)) (sym is.1) (bounded_opened s n p is.0 limits D rises right.1 (all_bounded s n p limits D right.1))
  | false ↦ λ other. bounded_kept s n p deed D other (all_bounded s n p limits D right.1)
] refl

-- no session has a number above the greatest
number_low : (s n p : ℕ) (limits : Limits) (D : List Deed) → AreRightDeeds s n limits D → number p D ≤ 4294967295
number_low s n p limits [] right = (let low : 1 ≤ 4294967295 = omega arith in low)
number_low s n p limits (deed ∷ D) right = elim (opens p deed) as (λ b. opens p deed ≡ b → number p (deed ∷ D) ≤ 4294967295) [
  | true ↦ λ anew.
      let is = opened p deed anew in
      let few : is.0 ≤ 4294967295 = open_last s n limits p is.0 D (subst (λ (d : Deed). IsRightDeed s n limits d D) is.1 right.0) in
      let own : (p == p) ≡ true = eq-eqb p p refl in
      let now : number p (deed ∷ D) ≡ is.0 = ap (λ (d : Deed). number p (d ∷ D)) is.1 ∙ ap (λ (b : Bool). cond b is.0 (number p D)) own in
      omega (arith, few, now)
  | false ↦ λ other. (let same = number_kept p deed D other in let before = number_low s n p limits D right.1 in omega (arith, same, before))
] refl

module _ {s n : ℕ} {limits : Limits} {st : State} {D : List Deed} (stands : Stands s n limits st D) where
  -- so many Dirties were sent and no more
  pub dirties_low : length (dirties (history_of s n D)) ≤ n * 4722366482869645213696
  dirties_low = few_for_each n (dirties (history_of s n D)) (up_to (dirties (history_of s n D)) (dirties_asked s n D)) (λ p.
      let asked = asked_sent p (sent (history_of s n D)) in
      let bounded = all_bounded s n p limits D stands.right in
      let few = number_low s n p limits D stands.right in
      let most : length (handed (calls_at p (history_of s n D))) ≤ 1099511627776 = handed_low s p limits (calls_at p (history_of s n D)) (calls_law s n limits D stands.right p) in
      omega (arith, asked, bounded, few, most))
    where
      up_to : (xs : List WireRep) → AllByRecursion (CanBeAsked s n) xs → AreUpTo n xs
      up_to [] all = tt
      up_to (x ∷ xs) all = (let peer = all.0.1 in (grind (arith, nat_tests, peer), grind (arith, nat_tests, peer)), up_to xs all.1)

-- ---- loans

-- a message has few copies
abbrev HasFew : Message → Type 0
HasFew m = length m.copies ≤ 32

spelt_there : (payload : Option (List ℕ)) (item : Item) → option_and_then item_spelt payload ≡ Some item → (bytes : List ℕ) × (item_spelt bytes ≡ Some item)
spelt_there (Some bytes) item e = (bytes, e)
spelt_there None item e = absurd (cc)

all_few : (s n : ℕ) (D : List Deed) → AllOutstanding HasFew (work s n D)
unfolding message_after
all_few s n D = all_outstanding s n HasFew
    (λ E m few. (let same = length-map m.copies (λ (copy : RefCopy). copy_after s n E copy) in omega (arith, same, few)))
    (λ p k item E is. (let bytes = spelt_there (payload_at p k E) item is in let few = item_few bytes.0 item bytes.1 in let same = length-map (counted_in item) (λ (rep : WireRep). new_copy s n (Act p k ∷ E) rep) in omega (arith, same, few)))
    (λ m call. (let low : 0 ≤ 32 = omega arith in low)) D

target_short : (s : ℕ) (item : Item) → length (target_lent s item) ≤ 1
target_short s (items.Call call target method value) = elim (target == 0) as (λ b. length (if b then [] else own_ref s target ∷ []) ≤ 1) [ true ↦ (let low : 0 ≤ 1 = omega arith in low) | false ↦ (let low : 1 ≤ 1 = omega arith in low) ]
target_short s (_) = (let low : 0 ≤ 1 = omega arith in low)

-- so it lends few
pub message_lends : (s : ℕ) (rep : WireRep) (m : Message) → length m.copies ≤ 32 → times rep (loans_of s m) ≤ 33
message_lends s rep m few =
    let short : times rep (loans_of s m) ≤ length (loans_of s m) = filter_short (is_same rep) (loans_of s m) in
    let both : length (loans_of s m) ≡ length (target_lent s m.item) + length (copies_lent m.copies) = length-append (target_lent s m.item) (copies_lent m.copies) in
    let target : length (target_lent s m.item) ≤ 1 = target_short s m.item in
    let lent : length (copies_lent m.copies) ≡ length (filter (λ (copy : RefCopy). is_lent copy.loan) m.copies) = length-map (filter (λ (copy : RefCopy). is_lent copy.loan) m.copies) (λ (copy : RefCopy). copy.rep) in
    let fewer : length (filter (λ (copy : RefCopy). is_lent copy.loan) m.copies) ≤ length m.copies = filter_short (λ (copy : RefCopy). is_lent copy.loan) m.copies in
    omega (arith, short, both, target, lent, fewer, few)

lends_few : {A : Type 0} (s : ℕ) (rep : WireRep) (message : A → Message) (xs : List A) → AllByRecursion (λ x. length (message x).copies ≤ 32) xs → times rep (flat_map (λ x. loans_of s (message x)) xs) ≤ 33 * length xs
lends_few s rep message [] all = (let low : 0 ≤ 33 * 0 = omega arith in low)
lends_few s rep message (x ∷ xs) all =
    let here : times rep (loans_of s (message x)) ≤ 33 = message_lends s rep (message x) all.0 in
    let rest : times rep (flat_map (λ y. loans_of s (message y)) xs) ≤ 33 * length xs = lends_few s rep message xs all.1 in
    let both = times_both rep (loans_of s (message x)) (flat_map (λ y. loans_of s (message y)) xs) in
    omega (arith, here, rest, both)

-- what is outstanding lends a reference so often and no more
pub lent_low : (s n : ℕ) (rep : WireRep) (D : List Deed) → times rep (lent_in s (work s n D)) ≤ 33 * messages (work s n D)
lent_low s n rep D =
    let W : Outstanding = work s n D in
    let all = all_few s n D in
    let sum = times_lent s rep W in
    let waiting : times rep (flat_map (loans_of s) W.waiting) ≤ 33 * length W.waiting = lends_few s rep (λ (m : Message). m) W.waiting all.waiting in
    let ready : times rep (flat_map (loans_of s) W.ready) ≤ 33 * length W.ready = lends_few s rep (λ (m : Message). m) W.ready all.ready in
    let running : times rep (flat_map (λ (run : Run). loans_of s run.message) W.running) ≤ 33 * length W.running = lends_few s rep (λ (run : Run). run.message) W.running all.running in
    let replies : times rep (flat_map (loans_of s) W.replies) ≤ 33 * length W.replies = lends_few s rep (λ (m : Message). m) W.replies all.replies in
    omega (arith, sum, waiting, ready, running, replies)
