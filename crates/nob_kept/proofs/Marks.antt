-- Marks of the entries whose receipts were seen.
use Rattle.std.proofs.Common.{◌≡◌, ◌≢◌, ℕ, ◌+◌, ◌-◌, ◌<◌, Bool, true, false, true≢false, ◌==◌, add-zero, List, [], ◌∷◌, ◌++◌, length, take, drop, reverse, replicate, get_or, append_assoc, refl, sym, ap, subst, ◌∙◌, arith}
use Prim.Native.Nat.{zero, suc}
use lib.ListN.{set}
use Rattle.std.specs.Prelude.{filter}
use Rattle.std.specs.List.{AllByRecursion}
use Rattle.std.proofs.lemmas.List.{append-nil, take_more, take-append-drop, length-append, length-set, length-replicate, get_or-set_same, get_or-set_other, get_or-replicate}
use Rattle.std.proofs.lemmas.List.Elements.{filter-append}
use Rattle.std.proofs.lemmas.Bool.{eqb-true}
use Rattle.std.proofs.lemmas.Bool.Decides.{nat_tests, Decides-eqb}
use Rattle.nob_trace.specs.declared.stamped.Stamped.{Stamped}
use Rattle.nob_trace.specs.Stamps.{Rise, last_stamp}
use Rattle.nob_kept.specs.declared.receipt.Receipt.{Receipt}
use Rattle.nob_kept.specs.Receipts.{Told}
use Rattle.nob_kept.specs.Closing.{is_at, receipts_of, AreOf, AreMarks, count_of}

-- of entries whose stamps rise the next one's is above that of those before
pub rise_at : (last : ℕ) (entries : List Stamped) (i : ℕ) (d : Stamped) → Rise last entries → i < length entries → last_stamp last (take i entries) < (get_or entries i d).stamp
rise_at last [] i d rise within = absurd (omega (arith, within))
rise_at last (entry ∷ entries) zero d rise within = rise.0
rise_at last (entry ∷ entries) (suc i) d rise within = rise_at entry.stamp entries i d rise.1 (omega (arith, within))

-- all of a list with one more behind it
all_next : {X : Type 0} (P : X → Type 0) (xs : List X) (x : X) → AllByRecursion P xs → P x → AllByRecursion P (xs ++ x ∷ [])
all_next P [] x all one = (one, tt)
all_next P (y ∷ xs) x all one = (all.0, all_next P xs x all.1 one)

-- so many receipts of one place with one more behind them
count_next : (place : ℕ) (receipts : List Receipt) (receipt : Receipt) → length (filter (is_at place) (receipts ++ receipt ∷ [])) ≡ length (filter (is_at place) receipts) + count_of (receipt.place == place)
count_next place receipts receipt =
    ap length (filter-append (is_at place) receipts (receipt ∷ [])) ∙ length-append (filter (is_at place) receipts) (filter (is_at place) (receipt ∷ []))
    ∙ ap (λ (k : ℕ). length (filter (is_at place) receipts) + k)
    (elim (receipt.place == place) as (λ b. receipt.place == place ≡ b → length (filter (is_at place) (receipt ∷ [])) ≡ count_of b) [
      | true ↦ λ t. rw t refl
      | false ↦ λ f. rw f refl
    ] refl)

-- the mark of the next receipt is set where it wasn't
pub marks_next : (marks : List Bool) (entries : List Stamped) (receipts : List Receipt) (receipt : Receipt)
    → AreMarks marks entries receipts → Told receipt entries → receipt.place - 1 < length marks → get_or marks (receipt.place - 1) false ≡ false
    → AreMarks (set marks (receipt.place - 1) true) entries (receipts ++ receipt ∷ [])
marks_next marks entries receipts receipt are told within unset = record {
  told = all_next (λ receipt. Told receipt entries) receipts receipt are.told told;
  marked = λ place inside.
      let its : place < length marks = subst (λ (k : ℕ). place < k) (length-set marks (receipt.place - 1) true) inside in
      count_next (place + 1) receipts receipt
      ∙ elim (place == receipt.place - 1) as (λ b. place == receipt.place - 1 ≡ b → length (filter (is_at (place + 1)) receipts) + count_of (receipt.place == place + 1) ≡ count_of (get_or (set marks (receipt.place - 1) true) place false)) [
        | true ↦ λ t.
            let here : place ≡ receipt.place - 1 = eqb-true place (receipt.place - 1) t in
            let same : receipt.place == place + 1 ≡ true = (Decides-eqb receipt.place (place + 1)).1 (omega (arith, here, told.0)) in
            let was : length (filter (is_at (place + 1)) receipts) ≡ 0 = are.marked place its ∙ ap count_of (ap (λ (k : ℕ). get_or marks k false) here ∙ unset) in
            let now : get_or (set marks (receipt.place - 1) true) place false ≡ true = ap (λ (k : ℕ). get_or (set marks (receipt.place - 1) true) k false) here ∙ get_or-set_same marks (receipt.place - 1) true false within in
            rw (was, same, now) refl
        | false ↦ λ f.
            let apart : place ≢ receipt.place - 1 = λ e. true≢false (sym ((Decides-eqb place (receipt.place - 1)).1 e) ∙ f) in
            let other : receipt.place == place + 1 ≡ false = grind (arith, nat_tests, f, told.0) in
            ap (λ (b : Bool). length (filter (is_at (place + 1)) receipts) + count_of b) other ∙ add-zero (length (filter (is_at (place + 1)) receipts)) ∙ are.marked place its
            ∙ ap count_of (sym (get_or-set_other marks (receipt.place - 1) place true false apart))
      ] refl;
}

-- the receipts of seats, and of those behind them
receipts_append : (seats others : List (List Receipt)) → receipts_of (seats ++ others) ≡ receipts_of seats ++ receipts_of others
receipts_append [] others = refl
receipts_append (first ∷ seats) others = ap (λ (rs : List Receipt). reverse first ++ rs) (receipts_append seats others) ∙ sym (append_assoc (reverse first) (receipts_of seats) (receipts_of others))

-- the receipts of seats with one more seat behind them
pub receipts_more : (seats : List (List Receipt)) (seat : List Receipt) → receipts_of (seats ++ seat ∷ []) ≡ receipts_of seats ++ reverse seat
receipts_more seats seat = receipts_append seats (seat ∷ []) ∙ ap (λ (rs : List Receipt). receipts_of seats ++ rs) (append-nil (reverse seat))

-- a list is what stands before a place, what stands there, and what stands behind it
parts_at : {X : Type 0} (xs : List X) (i : ℕ) (x : X) → i < length xs → x ≡ get_or xs i x → xs ≡ take i xs ++ x ∷ drop (i + 1) xs
parts_at xs i x within is =
    sym (take-append-drop (i + 1) xs) ∙ ap (λ (front : List _). front ++ drop (i + 1) xs) (take_more xs i x within ∙ ap (λ (y : _). take i xs ++ y ∷ []) (sym is))
    ∙ append_assoc (take i xs) (x ∷ []) (drop (i + 1) xs)

-- the same between others
pub among : (before receipts later : List Receipt) (i : ℕ) (receipt : Receipt) → i < length receipts → receipt ≡ get_or receipts i receipt
    → before ++ (receipts ++ later) ≡ (before ++ take i receipts) ++ receipt ∷ (drop (i + 1) receipts ++ later)
among before receipts later i receipt within is =
    ap (λ (rs : List Receipt). before ++ (rs ++ later)) (parts_at receipts i receipt within is)
    ∙ ap (λ (rs : List Receipt). before ++ rs) (append_assoc (take i receipts) (receipt ∷ drop (i + 1) receipts) later)
    ∙ sym (append_assoc before (take i receipts) (receipt ∷ (drop (i + 1) receipts ++ later)))

-- the receipts of one seat among those of others
pub seat_among : (before : List Receipt) (seats : List (List Receipt)) (later : List Receipt) (i : ℕ) (seat : List Receipt) → i < length seats → seat ≡ get_or seats i seat
    → before ++ (receipts_of seats ++ later) ≡ (before ++ receipts_of (take i seats)) ++ (reverse seat ++ (receipts_of (drop (i + 1) seats) ++ later))
seat_among before seats later i seat within is =
    ap (λ (rs : List Receipt). before ++ (rs ++ later)) (ap receipts_of (parts_at seats i seat within is) ∙ receipts_append (take i seats) (seat ∷ drop (i + 1) seats))
    ∙ ap (λ (rs : List Receipt). before ++ rs) (append_assoc (receipts_of (take i seats)) (receipts_of (seat ∷ drop (i + 1) seats)) later)
    ∙ sym (append_assoc before (receipts_of (take i seats)) (receipts_of (seat ∷ drop (i + 1) seats) ++ later))
    ∙ ap (λ (rs : List Receipt). (before ++ receipts_of (take i seats)) ++ rs) (append_assoc (reverse seat) (receipts_of (drop (i + 1) seats)) later)

-- what holds of all of a list holds in its midst
there : {X : Type 0} (P : X → Type 0) (xs : List X) (y : X) (zs : List X) → AllByRecursion P (xs ++ y ∷ zs) → P y
there P [] y zs all = all.0
there P (x ∷ xs) y zs all = there P xs y zs all.1

-- a receipt that isn't told is none of those of the entries
pub untold : (entries : List Stamped) (before later : List Receipt) (receipt : Receipt) → (Told receipt entries → ⊥) → AreOf entries (before ++ receipt ∷ later) → ⊥
untold entries before later receipt not are = not (there (λ receipt. Told receipt entries) before receipt later are.told)

-- nor is one at a place that is marked
pub marked_twice : (marks : List Bool) (entries : List Stamped) (before later : List Receipt) (receipt : Receipt)
    → AreMarks marks entries before → Told receipt entries → length marks ≡ length entries → receipt.place - 1 < length marks → get_or marks (receipt.place - 1) false ≡ true
    → AreOf entries (before ++ receipt ∷ later) → ⊥
marked_twice marks entries before later receipt marked told long within set are =
    let place : ℕ = receipt.place - 1 in
    let one : length (filter (is_at (place + 1)) (before ++ receipt ∷ later)) ≡ 1 = are.once place (subst (λ (k : ℕ). place < k) long within) in
    let first : length (filter (is_at (place + 1)) before) ≡ 1 = marked.marked place within ∙ ap count_of set in
    let here : (receipt.place == place + 1) ≡ true = (Decides-eqb receipt.place (place + 1)).1 (omega (arith, told.0)) in
    let second : length (filter (is_at (place + 1)) (receipt ∷ later)) ≡ length (filter (is_at (place + 1)) later) + 1 = rw here (omega arith) in
    let both : length (filter (is_at (place + 1)) (before ++ receipt ∷ later)) ≡ length (filter (is_at (place + 1)) before) + length (filter (is_at (place + 1)) (receipt ∷ later)) =
    ap length (filter-append (is_at (place + 1)) before (receipt ∷ later)) ∙ length-append (filter (is_at (place + 1)) before) (filter (is_at (place + 1)) (receipt ∷ later)) in
    omega (arith, one, first, second, both)

-- where an entry isn't marked no receipt is of it
pub unmarked_there : (marks : List Bool) (entries : List Stamped) (receipts : List Receipt) (place : ℕ) → AreMarks marks entries receipts → length marks ≡ length entries → place < length marks → get_or marks place false ≡ false → AreOf entries receipts → ⊥
unmarked_there marks entries receipts place marked long within unset are =
    let one : length (filter (is_at (place + 1)) receipts) ≡ 1 = are.once place (subst (λ (k : ℕ). place < k) long within) in
    let none : length (filter (is_at (place + 1)) receipts) ≡ 0 = marked.marked place within ∙ ap count_of unset in
    omega (arith, one, none)

-- where nothing is marked no receipt was seen
pub no_marks : (entries : List Stamped) (count : ℕ) → AreMarks (replicate count false) entries []
no_marks entries count = record {
  told = tt;
  marked = λ place inside. ap count_of (sym (get_or-replicate count place false false (subst (λ (k : ℕ). place < k) (length-replicate count false) inside)));
}

-- where all is marked the receipts are those of the entries
pub all_marks : (marks : List Bool) (entries : List Stamped) (receipts : List Receipt) → AreMarks marks entries receipts → length marks ≡ length entries → ((place : ℕ) → place < length marks → get_or marks place false ≡ true) → AreOf entries receipts
all_marks marks entries receipts are same set = record {
  told = are.told;
  once = λ place inside. let its : place < length marks = subst (λ (k : ℕ). place < k) (sym same) inside in are.marked place its ∙ ap count_of (set place its);
}
