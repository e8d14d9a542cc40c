-- The bundles of pins, by one deed more.
use Rattle.std.proofs.Common.{◌≡◌, ℕ, ◌+◌, ◌≤◌, ◌<◌, ◌&&◌, ◌||◌, not, Bool, true, false, cond, List, [], ◌∷◌, ◌++◌, length, filter, Option, Some, refl, sym, ap, subst, ◌∙◌, arith}
use Rattle.std.specs.Prelude.{◌==◌}
use Rattle.std.specs.List.{AllByRecursion}
use Rattle.std.proofs.lemmas.List.{append-nil, length-append}
use Rattle.std.proofs.lemmas.List.Elements.{filter-append}
use Rattle.std.proofs.lemmas.Bool.{eqb-true, eqb-false, eq-eqb, ne_eqb, and_parts, false_from_ne_true}
use Rattle.nob_item.specs.Kinds.{counted_in}
use Rattle.nob_item.specs.declared.item.Item.{Item}
use Rattle.nob_item.specs.declared.item.Item.TheVariants as items
use Rattle.nob_ids.specs.declared.reason.Reason.{Reason}
use Rattle.nob_model_types.specs.declared.deed.Deed.{Deed}
use Rattle.nob_model_types.specs.declared.deed.Deed.TheVariants as did
use Rattle.nob_model_types.specs.declared.deed.Cause.{Cause}
use Rattle.nob_model_types.specs.Sessions.{closed, number, item_at}
use Rattle.nob_model_work.specs.declared.gifts.Gift.{Gift}
use Rattle.nob_model_work.specs.declared.work.Outstanding.{Outstanding}
use Rattle.nob_model_work.specs.Work.{work}
use Rattle.nob_model_work.specs.Gifts.{gifts, gifts_of, gifts_of_act}
use Rattle.nob_model_history.specs.declared.transit.SentItem.{SentItem}
use Rattle.nob_model_history.specs.Histories.{history_of}
use Rattle.nob_model_history.specs.Transit.{is_sent_to, count_to, sent, is_of_present, is_pinned, is_settled, is_settle_of, is_some_of, bundles, has_bundle}
use Rattle.nob_model_history.specs.Premises.{SettlesSent, NumbersRise}
use Rattle.nob_model_history.proofs.Numbered.{sent_sessions}
use Rattle.nob_model_history.proofs.Sending.{new_items, sent_more, new_present, counted_sent, new_numbers}

-- ---- filters

-- two tests one after the other
pub filter_and : {A : Type 0} (p q : A → Bool) (xs : List A) → filter (λ x. p x && q x) xs ≡ filter q (filter p xs)
filter_and p q [] = refl
filter_and p q (x ∷ xs) = one_and (p x) (q x) x (filter (λ y. p y && q y) xs) (filter p xs) q refl (filter_and p q xs)
  where
    one_and : {A : Type 0} (a b : Bool) (x : A) (both first : List A) (q : A → Bool) → q x ≡ b → both ≡ filter q first → cond (a && b) (x ∷ both) both ≡ filter q (cond a (x ∷ first) first)
    one_and true true x both first q is same = ap (λ ys. x ∷ ys) same ∙ ap (λ (c : Bool). cond c (x ∷ filter q first) (filter q first)) (sym is)
    one_and true false x both first q is same = same ∙ ap (λ (c : Bool). cond c (x ∷ filter q first) (filter q first)) (sym is)
    one_and false b x both first q is same = same

-- two tests that agree
pub filter_same : {A : Type 0} (p q : A → Bool) → ((x : A) → p x ≡ q x) → (xs : List A) → filter p xs ≡ filter q xs
filter_same p q same xs = λ i. filter (λ x. same x i) xs

flip_test : (a b : ℕ) → (a == b) ≡ (b == a)
flip_test a b =
    elim (a == b) as (λ t. (a == b) ≡ t → t ≡ (b == a)) [
      | true ↦ λ e. sym (eq-eqb b a (sym (eqb-true a b e)))
      | false ↦ λ e. sym (ne_eqb b a (λ same. eqb-false a b e (sym same)))
    ] refl

-- ---- one deed more

-- what was sent and has pins, and what is sent now and has them
pub bundles_more : (s n : ℕ) (deed : Deed) (D : List Deed) → bundles (history_of s n (deed ∷ D)) ≡ filter (is_pinned (deed ∷ D)) (sent (history_of s n D)) ++ filter (is_pinned (deed ∷ D)) (new_items D (sent (history_of s n D)) (gifts s n deed D (work s n D)))
bundles_more s n deed D =
    ap (filter (is_pinned (deed ∷ D))) (sent_more s n deed D)
    ∙ filter-append (is_pinned (deed ∷ D)) (sent (history_of s n D)) (new_items D (sent (history_of s n D)) (gifts s n deed D (work s n D)))

-- a deed that settles nothing, closes nothing and opens nothing changes no pin
pub same_pins : (deed : Deed) (D : List Deed) → ((p k : ℕ) → is_settled p k (deed ∷ D) ≡ is_settled p k D) → ((p : ℕ) → closed p (deed ∷ D) ≡ closed p D) → ((p : ℕ) → number p (deed ∷ D) ≡ number p D) → (one : SentItem) → is_pinned (deed ∷ D) one ≡ is_pinned D one
same_pins deed D settled ended same one =
    ap (λ (k : ℕ). is_some_of (counted_in one.item) && one.session == k && not (is_settled one.to one.number (deed ∷ D)) && not (closed one.to (deed ∷ D))) (same one.to)
    ∙ ap (λ (b : Bool). is_some_of (counted_in one.item) && is_of_present D one && not b && not (closed one.to (deed ∷ D))) (settled one.to one.number)
    ∙ ap (λ (b : Bool). is_some_of (counted_in one.item) && is_of_present D one && not (is_settled one.to one.number D) && not b) (ended one.to)

-- so the bundles stay, and what it gives stands behind them
pub bundles_kept : (s n : ℕ) (deed : Deed) (D : List Deed) → ((p k : ℕ) → is_settled p k (deed ∷ D) ≡ is_settled p k D) → ((p : ℕ) → closed p (deed ∷ D) ≡ closed p D) → ((p : ℕ) → number p (deed ∷ D) ≡ number p D) → bundles (history_of s n (deed ∷ D)) ≡ bundles (history_of s n D) ++ filter (is_pinned D) (new_items D (sent (history_of s n D)) (gifts s n deed D (work s n D)))
bundles_kept s n deed D settled ended same =
    bundles_more s n deed D
    ∙ ap (λ (xs : List SentItem). xs ++ filter (is_pinned (deed ∷ D)) (new_items D (sent (history_of s n D)) (gifts s n deed D (work s n D)))) (filter_same _ _ (same_pins deed D settled ended same) (sent (history_of s n D)))
    ∙ ap (λ (xs : List SentItem). bundles (history_of s n D) ++ xs) (filter_same _ _ (same_pins deed D settled ended same) (new_items D (sent (history_of s n D)) (gifts s n deed D (work s n D))))

-- acting on an item that is no Settle settles nothing
pub no_settle : (p j : ℕ) (D : List Deed) → ((k : ℕ) → is_settle_of k (item_at p j D) ≡ false) → (q k : ℕ) → is_settled q k (did.Act p j ∷ D) ≡ is_settled q k D
no_settle p j D none q k = ap (λ (b : Bool). (p == q && b) || is_settled q k D) (none k) ∙ elim (p == q) as (λ (b : Bool). ((b && false) || is_settled q k D) ≡ is_settled q k D) [ true ↦ refl | false ↦ refl ]

-- ---- a Settle

gives_nothing : (s n p k : ℕ) (D : List Deed) (item : Option Item) → item ≡ Some (items.Settle k) → gifts_of_act s n p D item ≡ []
unfolding gifts_of_act
gives_nothing s n p k D item is = ap (gifts_of_act s n p D) is

settle_gives_nothing : (s n p j k : ℕ) (D : List Deed) (W : Outstanding) → item_at p j D ≡ Some (items.Settle k) → gifts s n (did.Act p j) D W ≡ []
unfolding gifts gifts_of
settle_gives_nothing s n p j k D W is = ap (filter _) (gives_nothing s n p k D (item_at p j D) is)

without_one : (a e st c : Bool) → (a && not (e || st) && not c) ≡ ((a && not st && not c) && not e)
without_one false e st c = refl
without_one true true true c = refl
without_one true true false true = refl
without_one true true false false = refl
without_one true false true c = refl
without_one true false false true = refl
without_one true false false false = refl

-- acting on the Settle of item k from p takes the bundle of item k to p out, and no other
pub bundles_settled : (s n p j k : ℕ) (D : List Deed) → item_at p j D ≡ Some (items.Settle k) → bundles (history_of s n (did.Act p j ∷ D)) ≡ filter (λ (one : SentItem). not (one.to == p && one.number == k)) (bundles (history_of s n D))
bundles_settled s n p j k D is =
    let test : SentItem → Bool = λ (one : SentItem). one.to == p && one.number == k in
    let each : (one : SentItem) → is_pinned (did.Act p j ∷ D) one ≡ (is_pinned D one && not (test one)) = λ one.
    ap (λ (b : Bool). is_some_of (counted_in one.item) && is_of_present D one && not ((p == one.to && b) || is_settled one.to one.number D) && not (closed one.to D)) (ap (is_settle_of one.number) is ∙ flip_test k one.number)
    ∙ ap (λ (b : Bool). is_some_of (counted_in one.item) && is_of_present D one && not ((b && one.number == k) || is_settled one.to one.number D) && not (closed one.to D)) (flip_test p one.to)
    ∙ without_one (is_some_of (counted_in one.item) && is_of_present D one) (test one) (is_settled one.to one.number D) (closed one.to D) in
    bundles_more s n (did.Act p j) D
    ∙ ap (λ (more : List Gift). filter (is_pinned (did.Act p j ∷ D)) (sent (history_of s n D)) ++ filter (is_pinned (did.Act p j ∷ D)) (new_items D (sent (history_of s n D)) more)) (settle_gives_nothing s n p j k D (work s n D) is)
    ∙ append-nil (filter (is_pinned (did.Act p j ∷ D)) (sent (history_of s n D)))
    ∙ filter_same _ _ each (sent (history_of s n D))
    ∙ filter_and (is_pinned D) (λ (one : SentItem). not (test one)) (sent (history_of s n D))

-- ---- a closing

closing_gives_nothing : (s n p : ℕ) (reason : Reason) (cause : Cause) (D : List Deed) (W : Outstanding) → gifts s n (did.Closing p reason cause) D W ≡ []
unfolding gifts gifts_of
closing_gives_nothing s n p reason cause D W = refl

without_peer : (a st e c : Bool) → (a && not st && not (e || c)) ≡ ((a && not st && not c) && not e)
without_peer false st e c = refl
without_peer true true e c = refl
without_peer true false true true = refl
without_peer true false true false = refl
without_peer true false false true = refl
without_peer true false false false = refl

-- the closing of the session with p takes all bundles to p out, and no other
pub bundles_closed : (s n p : ℕ) (reason : Reason) (cause : Cause) (D : List Deed) → bundles (history_of s n (did.Closing p reason cause ∷ D)) ≡ filter (λ (one : SentItem). not (one.to == p)) (bundles (history_of s n D))
bundles_closed s n p reason cause D =
    let each : (one : SentItem) → is_pinned (did.Closing p reason cause ∷ D) one ≡ (is_pinned D one && not (one.to == p)) = λ one.
    ap (λ (b : Bool). is_some_of (counted_in one.item) && is_of_present D one && not (is_settled one.to one.number D) && not (b || closed one.to D)) (flip_test p one.to)
    ∙ without_peer (is_some_of (counted_in one.item) && is_of_present D one) (is_settled one.to one.number D) (one.to == p) (closed one.to D) in
    bundles_more s n (did.Closing p reason cause) D
    ∙ ap (λ (more : List Gift). filter (is_pinned (did.Closing p reason cause ∷ D)) (sent (history_of s n D)) ++ filter (is_pinned (did.Closing p reason cause ∷ D)) (new_items D (sent (history_of s n D)) more)) (closing_gives_nothing s n p reason cause D (work s n D))
    ∙ append-nil (filter (is_pinned (did.Closing p reason cause ∷ D)) (sent (history_of s n D)))
    ∙ filter_same _ _ each (sent (history_of s n D))
    ∙ filter_and (is_pinned D) (λ (one : SentItem). not (one.to == p)) (sent (history_of s n D))

-- ---- an Open

opening_gives_nothing : (s n p k : ℕ) (D : List Deed) (W : Outstanding) → gifts s n (did.Open p k) D W ≡ []
unfolding gifts gifts_of
opening_gives_nothing s n p k D W = refl

-- what is of another receiver has pins as before an Open, and what is of its receiver and of an older session has none
opened_pins : (p k : ℕ) (D : List Deed) → number p D < k → closed p D ≡ true → (one : SentItem) → one.session ≤ number one.to D → is_pinned (did.Open p k ∷ D) one ≡ is_pinned D one
opened_pins p k D above ended one most = elim (p == one.to) as (λ (b : Bool). (p == one.to) ≡ b → (is_some_of (counted_in one.item) && one.session == cond b k (number one.to D) && not (cond b false (is_settled one.to one.number D)) && not (cond b false (closed one.to D))) ≡ is_pinned D one) [
  | true ↦ λ own.
      let same : p ≡ one.to = eqb-true p one.to own in
      let older : (one.session == k) ≡ false = ne_eqb one.session k (λ is. let below : number one.to D < k = subst (λ (q : ℕ). number q D < k) same above in omega (arith, is, below, most)) in
      let gone : closed one.to D ≡ true = subst (λ (q : ℕ). closed q D ≡ true) same ended in
      none_pinned (is_some_of (counted_in one.item)) (one.session == k) (is_of_present D one) (not (is_settled one.to one.number D)) (closed one.to D) older gone
  | false ↦ λ other. refl
] refl
  where
    none_pinned : (a present before unsettled c : Bool) → present ≡ false → c ≡ true → (a && present && true && true) ≡ (a && before && unsettled && not c)
    none_pinned true true before unsettled c older gone = cc
    none_pinned true false before unsettled false older gone = cc
    none_pinned true false true true true older gone = refl
    none_pinned true false true false true older gone = refl
    none_pinned true false false unsettled true older gone = refl
    none_pinned false present before unsettled c older gone = refl

same_on : {A : Type 0} (p q : A → Bool) (P : A → Type 0) → ((x : A) → P x → p x ≡ q x) → (xs : List A) → AllByRecursion P xs → filter p xs ≡ filter q xs
same_on p q P same [] all = refl
same_on p q P same (x ∷ xs) all = ap (λ (b : Bool). cond b (x ∷ filter p xs) (filter p xs)) (same x all.0) ∙ ap (λ ys. cond (q x) (x ∷ ys) ys) (same_on p q P same xs all.1)

-- an Open of a session that has closed leaves the bundles, where numbers rise
pub bundles_opened : (s n p k : ℕ) (D : List Deed) → NumbersRise (did.Open p k ∷ D) → closed p D ≡ true → bundles (history_of s n (did.Open p k ∷ D)) ≡ bundles (history_of s n D)
bundles_opened s n p k D rise ended =
    bundles_more s n (did.Open p k) D
    ∙ ap (λ (more : List Gift). filter (is_pinned (did.Open p k ∷ D)) (sent (history_of s n D)) ++ filter (is_pinned (did.Open p k ∷ D)) (new_items D (sent (history_of s n D)) more)) (opening_gives_nothing s n p k D (work s n D))
    ∙ append-nil (filter (is_pinned (did.Open p k ∷ D)) (sent (history_of s n D)))
    ∙ same_on _ _ (λ (one : SentItem). one.session ≤ number one.to D) (opened_pins p k D rise.0 ended) (sent (history_of s n D)) (sent_sessions s n D rise.1)

-- ---- what is sent has pins at once

count_append : (p k : ℕ) (xs ys : List SentItem) → count_to p k (xs ++ ys) ≡ count_to p k xs + count_to p k ys
count_append p k xs ys = ap length (filter-append (is_sent_to p k) xs ys) ∙ length-append (filter (is_sent_to p k) xs) (filter (is_sent_to p k) ys)

-- by one deed more no fewer items were sent
sent_no_fewer : (s n p k : ℕ) (deed : Deed) (D : List Deed) → count_to p k (sent (history_of s n D)) ≤ count_to p k (sent (history_of s n (deed ∷ D)))
sent_no_fewer s n p k deed D = let all = ap (count_to p k) (sent_more s n deed D) ∙ count_append p k (sent (history_of s n D)) (new_items D (sent (history_of s n D)) (gifts s n deed D (work s n D))) in omega (arith, all)

-- how many items were sent to p in the present session
abbrev count_now : (s n p : ℕ) → List Deed → ℕ
count_now s n p D = count_to p (number p D) (sent (history_of s n D))

settled_now : (s n p k q j : ℕ) (D : List Deed) → ((m : ℕ) → is_settle_of m (item_at q j D) ≡ true → m ≤ count_now s n q D) → (is_settled p k D ≡ true → k ≤ count_now s n p D) → (now earlier : Bool) → (q == p && is_settle_of k (item_at q j D)) ≡ now → is_settled p k D ≡ earlier → (now || earlier) ≡ true → k ≤ count_now s n p D
settled_now s n p k q j D known before true earlier is was either =
    let parts = and_parts (q == p) (is_settle_of k (item_at q j D)) is in
    subst (λ (r : ℕ). k ≤ count_now s n r D) (eqb-true q p parts.0) (known k parts.1)
settled_now s n p k q j D known before false earlier is was either = before (was ∙ either)

-- what was settled was sent
pub settled_sent : (s n p k : ℕ) (D : List Deed) → SettlesSent s n D → is_settled p k D ≡ true → k ≤ count_to p (number p D) (sent (history_of s n D))
settled_sent s n p k [] known settled = cc
settled_sent s n p k (did.Act q j ∷ D) known settled =
    let before = settled_now s n p k q j D known.0 (settled_sent s n p k D known.1) (q == p && is_settle_of k (item_at q j D)) (is_settled p k D) refl refl settled in
    let more = sent_no_fewer s n p (number p D) (did.Act q j) D in
    omega (arith, before, more)
settled_sent s n p k (did.Open q j ∷ D) known settled =
    let more = sent_no_fewer s n p (number p D) (did.Open q j) D in
    elim (q == p) as (λ (b : Bool). cond b false (is_settled p k D) ≡ true → k ≤ count_to p (cond b j (number p D)) (sent (history_of s n (did.Open q j ∷ D)))) [
      | true ↦ λ settled. cc
      | false ↦ λ settled. let before = settled_sent s n p k D known settled in omega (arith, before, more)
    ] settled
settled_sent s n p k (deed ∷ D) known settled =
    let before = settled_sent s n p k D known settled in
    let more = sent_no_fewer s n p (number p D) deed D in
    omega (arith, before, more)

pinned_now : (a present settled c : Bool) → present ≡ true → settled ≡ false → (a && present && not settled && not c) ≡ (a && not c)
pinned_now true true false c is free = refl
pinned_now false present settled c is free = refl
pinned_now true false settled c is free = cc
pinned_now true true true c is free = cc

filter_same_on : {A : Type 0} (p q : A → Bool) (xs : List A) → AllByRecursion (λ x. p x ≡ q x) xs → filter p xs ≡ filter q xs
filter_same_on p q [] same = refl
filter_same_on p q (x ∷ xs) same = ap (λ (b : Bool). cond b (x ∷ filter p xs) (filter p xs)) same.0 ∙ ap (λ ys. cond (q x) (x ∷ ys) ys) (filter_same_on p q xs same.1)

all_both : {X : Type 0} (P Q R : X → Type 0) → ((x : X) → P x → Q x → R x) → (xs : List X) → AllByRecursion P xs → AllByRecursion Q xs → AllByRecursion R xs
all_both P Q R f [] p q = tt
all_both P Q R f (x ∷ xs) p q = (f x p.0 q.0, all_both P Q R f xs p.1 q.1)

-- whether what was sent carries counted references to a peer whose session is open here
abbrev pub takes_pins : List Deed → SentItem → Bool
takes_pins D one = is_some_of (counted_in one.item) && not (closed one.to D)

-- what is sent now has pins if it carries counted references and its session is open here
pub new_pins : (s n : ℕ) (D : List Deed) → SettlesSent s n D → (gifts : List Gift) → filter (is_pinned D) (new_items D (sent (history_of s n D)) gifts) ≡ filter (takes_pins D) (new_items D (sent (history_of s n D)) gifts)
new_pins s n D known more =
    filter_same_on (is_pinned D) (takes_pins D) (new_items D (sent (history_of s n D)) more)
    (all_both _ _ _
    (λ one above present.
    let same : count_to one.to one.session (sent (history_of s n D)) ≡ count_now s n one.to D = ap (λ (k : ℕ). count_to one.to k (sent (history_of s n D))) (eqb-true one.session (number one.to D) present) in
    pinned_now (is_some_of (counted_in one.item)) (is_of_present D one) (is_settled one.to one.number D) (closed one.to D) present
    (false_from_ne_true _ (λ settled. let before = settled_sent s n one.to one.number D known settled in omega (arith, before, above, same))))
    _ (new_numbers D more (sent (history_of s n D))) (new_present D more (sent (history_of s n D))))

-- ---- a bundle is of an item that was sent

found_step : {A : Type 0} (P : A → Type 0) (G : Type 0) (first test : A → Bool) → ((x : A) → P x → first x ≡ true → test x ≡ true → G) → (x : A) (ys : List A) → P x → (is_some_of (filter test ys) ≡ true → G) → (a b : Bool) → first x ≡ a → test x ≡ b → is_some_of (filter test (cond a (x ∷ ys) ys)) ≡ true → G
found_step P G first test found x ys holds rest true true passes is some = found x holds passes is
found_step P G first test found x ys holds rest true false passes is some = rest (ap (λ (b : Bool). is_some_of (cond b (x ∷ filter test ys) (filter test ys))) (sym is) ∙ some)
found_step P G first test found x ys holds rest false b passes is some = rest some

found_in : {A : Type 0} (P : A → Type 0) (G : Type 0) (first test : A → Bool) → ((x : A) → P x → first x ≡ true → test x ≡ true → G) → (xs : List A) → AllByRecursion P xs → is_some_of (filter test (filter first xs)) ≡ true → G
found_in P G first test found [] all some = cc
found_in P G first test found (x ∷ xs) all some = found_step P G first test found x (filter first xs) all.0 (found_in P G first test found xs all.1) (first x) (test x) refl refl some

-- what has pins was sent in the present session
pub pinned_present : (D : List Deed) (one : SentItem) → is_pinned D one ≡ true → is_of_present D one ≡ true
pinned_present D one pinned = (and_parts (is_some_of (counted_in one.item)) (is_of_present D one) (and_parts _ (not (is_settled one.to one.number D)) (and_parts _ (not (closed one.to D)) pinned).0).0).1

-- the number of a bundle is no greater than how many items were sent in the present session
pub bundle_sent : (s n p k : ℕ) (D : List Deed) → has_bundle p k (history_of s n D) ≡ true → k ≤ count_to p (number p D) (sent (history_of s n D))
bundle_sent s n p k D has =
    let S : List SentItem = sent (history_of s n D) in
    found_in (λ (one : SentItem). one.number ≤ count_to one.to one.session S) (k ≤ count_to p (number p D) S) (is_pinned D) (λ (one : SentItem). one.to == p && one.number == k)
    (λ one below pinned test.
    let parts = and_parts (one.to == p) (one.number == k) test in
    let to : one.to ≡ p = eqb-true one.to p parts.0 in
    let is : one.number ≡ k = eqb-true one.number k parts.1 in
    let session : one.session ≡ number p D = eqb-true one.session (number one.to D) (pinned_present D one pinned) ∙ ap (λ (q : ℕ). number q D) to in
    let same : count_to one.to one.session S ≡ count_to p (number p D) S = λ i. count_to (to i) (session i) S in
    omega (arith, below, is, same))
    S (counted_sent s n D) has
