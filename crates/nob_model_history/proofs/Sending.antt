-- What was sent, by one deed more: the items of each session with a peer have the numbers 1, 2, .. in order.
use Rattle.std.proofs.Common.{◌≡◌, ℕ, zero, suc, ◌+◌, ◌≤◌, ◌<◌, Bool, true, false, cond, List, [], ◌∷◌, ◌++◌, length, map, filter, refl, sym, ap, ◌∙◌, append_assoc, arith}
use Rattle.std.specs.Prelude.{◌==◌}
use Rattle.std.specs.List.{AllByRecursion}
use Rattle.std.proofs.lemmas.List.{append-nil, length-append, map-append}
use Rattle.std.proofs.lemmas.List.Elements.{filter-append}
use Rattle.std.proofs.lemmas.Bool.{eqb-true, eq-eqb, and_parts, and_from}
use Rattle.nob_model_types.specs.declared.deed.Deed.{Deed}
use Rattle.nob_model_types.specs.Sessions.{number}
use Rattle.nob_model_work.specs.declared.gifts.Gift.{Gift}
use Rattle.nob_model_work.specs.Work.{work}
use Rattle.nob_model_work.specs.Gifts.{gifts}
use Rattle.nob_model_history.specs.declared.transit.SentItem.{SentItem}
use Rattle.nob_model_history.specs.Histories.{history_of}
use Rattle.nob_model_history.specs.Transit.{is_sent_to, count_to, next_sent, with_gifts, sent, is_of_present}

-- gifts as they are sent one after the other
abbrev pub new_items : List Deed → List SentItem → List Gift → List SentItem
new_items D before [] = []
new_items D before (gift ∷ gifts) = next_sent D before gift ∷ new_items D (before ++ next_sent D before gift ∷ []) gifts

-- they stand behind what was sent before
pub with_gifts_is : (D : List Deed) (gifts : List Gift) (before : List SentItem) → with_gifts D before gifts ≡ before ++ new_items D before gifts
with_gifts_is D [] before = sym (append-nil before)
with_gifts_is D (gift ∷ gifts) before =
    with_gifts_is D gifts (before ++ next_sent D before gift ∷ [])
    ∙ append_assoc before (next_sent D before gift ∷ []) (new_items D (before ++ next_sent D before gift ∷ []) gifts)

-- what was sent once a deed more is done
pub sent_more : (s n : ℕ) (deed : Deed) (D : List Deed) → sent (history_of s n (deed ∷ D)) ≡ sent (history_of s n D) ++ new_items D (sent (history_of s n D)) (gifts s n deed D (work s n D))
sent_more s n deed D = with_gifts_is D (gifts s n deed D (work s n D)) (sent (history_of s n D))

-- what is sent is of the present session with its receiver
pub new_present : (D : List Deed) (gifts : List Gift) (before : List SentItem) → AllByRecursion (λ (one : SentItem). is_of_present D one ≡ true) (new_items D before gifts)
new_present D [] before = tt
new_present D (gift ∷ gifts) before = (eq-eqb (number gift.to D) (number gift.to D) refl, new_present D gifts (before ++ next_sent D before gift ∷ []))

-- ---- numbers

-- the numbers of what was sent to p in session k
abbrev pub numbers_to : (p k : ℕ) → List SentItem → List ℕ
numbers_to p k sent_items = map (λ (one : SentItem). one.number) (filter (is_sent_to p k) sent_items)

-- 1, 2, .. up to a number
abbrev pub up_to : ℕ → List ℕ
up_to zero = []
up_to (suc k) = up_to k ++ suc k ∷ []

-- how many went to p in session k, with one more
pub count_push : (p k : ℕ) (before : List SentItem) (one : SentItem) → count_to p k (before ++ one ∷ []) ≡ count_to p k before + cond (is_sent_to p k one) 1 0
count_push p k before one =
    ap length (filter-append (is_sent_to p k) before (one ∷ []))
    ∙ length-append (filter (is_sent_to p k) before) (cond (is_sent_to p k one) (one ∷ []) [])
    ∙ ap (λ (m : ℕ). count_to p k before + m) (elim (is_sent_to p k one) as (λ (b : Bool). length (cond b (one ∷ []) []) ≡ cond b 1 0) [ true ↦ refl | false ↦ refl ])

up_to_next : (k : ℕ) → up_to k ++ (k + 1) ∷ [] ≡ up_to (k + 1)
up_to_next k = let same : suc k ≡ k + 1 = omega arith in ap (λ (m : ℕ). up_to k ++ m ∷ []) (sym same) ∙ ap up_to same

push_number : (b : Bool) (count : ℕ) (numbers : List ℕ) (one : SentItem) → numbers ≡ up_to count → (b ≡ true → one.number ≡ count + 1) → numbers ++ map (λ (x : SentItem). x.number) (cond b (one ∷ []) []) ≡ up_to (count + cond b 1 0)
push_number true count numbers one are next = ap (λ (m : ℕ). numbers ++ m ∷ []) (next refl) ∙ ap (λ (ms : List ℕ). ms ++ (count + 1) ∷ []) are ∙ up_to_next count
push_number false count numbers one are next = append-nil numbers ∙ are ∙ ap up_to (let same : count ≡ count + 0 = omega arith in same)

-- a gift that is sent to p in session k has the next number of that session
next_number : (p k : ℕ) (D : List Deed) (before : List SentItem) (gift : Gift) → is_sent_to p k (next_sent D before gift) ≡ true → count_to gift.to (number gift.to D) before + 1 ≡ count_to p k before + 1
next_number p k D before gift own =
    let parts = and_parts (gift.to == p) (number gift.to D == k) own in
    let to : gift.to ≡ p = eqb-true gift.to p parts.0 in
    let session : number gift.to D ≡ k = eqb-true (number gift.to D) k parts.1 in
    λ i. count_to (to i) (session i) before + 1

-- one gift more keeps the numbers in order
numbers_push : (p k : ℕ) (D : List Deed) (before : List SentItem) (gift : Gift) → numbers_to p k before ≡ up_to (count_to p k before) → numbers_to p k (before ++ next_sent D before gift ∷ []) ≡ up_to (count_to p k (before ++ next_sent D before gift ∷ []))
numbers_push p k D before gift are =
    let one : SentItem = next_sent D before gift in
    let parts : numbers_to p k (before ++ one ∷ []) ≡ numbers_to p k before ++ map (λ (x : SentItem). x.number) (cond (is_sent_to p k one) (one ∷ []) []) = ap (map (λ (x : SentItem). x.number)) (filter-append (is_sent_to p k) before (one ∷ [])) ∙ map-append (λ (x : SentItem). x.number) (filter (is_sent_to p k) before) _ in
    parts
    ∙ push_number (is_sent_to p k one) (count_to p k before) (numbers_to p k before) one are (next_number p k D before gift)
    ∙ ap up_to (sym (count_push p k before one))

-- the numbers of what was sent to p in session k are 1, 2, .. in order, each once
pub numbers_in_order : (p k : ℕ) (D : List Deed) (gifts : List Gift) (before : List SentItem) → numbers_to p k before ≡ up_to (count_to p k before) → numbers_to p k (with_gifts D before gifts) ≡ up_to (count_to p k (with_gifts D before gifts))
numbers_in_order p k D [] before are = are
numbers_in_order p k D (gift ∷ gifts) before are = numbers_in_order p k D gifts (before ++ next_sent D before gift ∷ []) (numbers_push p k D before gift are)

pub numbers_sent : (s n p k : ℕ) (D : List Deed) → numbers_to p k (sent (history_of s n D)) ≡ up_to (count_to p k (sent (history_of s n D)))
numbers_sent s n p k [] = refl
numbers_sent s n p k (deed ∷ D) = numbers_in_order p k D (gifts s n deed D (work s n D)) (sent (history_of s n D)) (numbers_sent s n p k D)

-- ---- no number is greater than how many were sent

-- what was sent has a number that is no greater than how many were sent to its peer in its session
abbrev pub AreCounted : List SentItem → List SentItem → Type 0
AreCounted all sent_items = AllByRecursion (λ (one : SentItem). one.number ≤ count_to one.to one.session all) sent_items

counted_push : (all : List SentItem) (one : SentItem) (sent_items : List SentItem) → AreCounted all sent_items → AreCounted (all ++ one ∷ []) sent_items
counted_push all one [] are = tt
counted_push all one (x ∷ xs) are = (let more = count_push x.to x.session all one in let before = are.0 in omega (arith, more, before), counted_push all one xs are.1)

counted_append : (all xs ys : List SentItem) → AreCounted all xs → AreCounted all ys → AreCounted all (xs ++ ys)
counted_append all [] ys are more = more
counted_append all (x ∷ xs) ys are more = (are.0, counted_append all xs ys are.1 more)

own_count : (D : List Deed) (before : List SentItem) (gift : Gift) → count_to gift.to (number gift.to D) (before ++ next_sent D before gift ∷ []) ≡ count_to gift.to (number gift.to D) before + 1
own_count D before gift =
    count_push gift.to (number gift.to D) before (next_sent D before gift)
    ∙ ap (λ (b : Bool). count_to gift.to (number gift.to D) before + cond b 1 0) (and_from (gift.to == gift.to) (number gift.to D == number gift.to D) (eq-eqb gift.to gift.to refl) (eq-eqb (number gift.to D) (number gift.to D) refl))

counted_in_order : (D : List Deed) (gifts : List Gift) (before : List SentItem) → AreCounted before before → AreCounted (with_gifts D before gifts) (with_gifts D before gifts)
counted_in_order D [] before are = are
counted_in_order D (gift ∷ gifts) before are =
    let one : SentItem = next_sent D before gift in
    let own = own_count D before gift in
    counted_in_order D gifts (before ++ one ∷ []) (counted_append (before ++ one ∷ []) before (one ∷ []) (counted_push before one before are) (omega (arith, own), tt))

-- so it is with all that was sent
pub counted_sent : (s n : ℕ) (D : List Deed) → AreCounted (sent (history_of s n D)) (sent (history_of s n D))
counted_sent s n [] = tt
counted_sent s n (deed ∷ D) = counted_in_order D (gifts s n deed D (work s n D)) (sent (history_of s n D)) (counted_sent s n D)

above_all : (before : List SentItem) (one : SentItem) (xs : List SentItem) → AllByRecursion (λ (x : SentItem). count_to x.to x.session (before ++ one ∷ []) < x.number) xs → AllByRecursion (λ (x : SentItem). count_to x.to x.session before < x.number) xs
above_all before one [] are = tt
above_all before one (x ∷ xs) are = (let more = count_push x.to x.session before one in let above = are.0 in omega (arith, more, above), above_all before one xs are.1)

-- what is sent next has a greater number than all that was sent to its peer in its session
pub new_numbers : (D : List Deed) (gifts : List Gift) (before : List SentItem) → AllByRecursion (λ (one : SentItem). count_to one.to one.session before < one.number) (new_items D before gifts)
new_numbers D [] before = tt
new_numbers D (gift ∷ gifts) before = (omega arith, above_all before (next_sent D before gift) _ (new_numbers D gifts (before ++ next_sent D before gift ∷ [])))
