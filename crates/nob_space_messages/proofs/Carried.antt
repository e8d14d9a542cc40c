-- How many copies of each owner's references the messages carry.
use Rattle.std.proofs.Common.{◌≡◌, ℕ, ◌+◌, ◌<◌, ◌≤◌, ◌^◌, ◌||◌, if◌then◌else◌, take, Bool, true, false, nat_lt, cond, List, [], ◌∷◌, ◌++◌, length, map, filter, get_or, Some, None, refl, sym, ap, subst, ◌∙◌, arith}
use Prim.Native.Nat.{zero, suc}
use Rattle.std.proofs.lemmas.Bool.Decides.{nat_tests}
use Rattle.std.proofs.lemmas.Option.{none-some, same_Some}
use Rattle.std.specs.List.{list_any}
use Rattle.std.specs.Map.{remove_entry}
use Rattle.nob_ids.specs.declared.wire_rep.WireRep.{WireRep}
use Rattle.nob_model_types.specs.declared.message.Message.{Message}
use Rattle.nob_model_types.specs.declared.message.RefCopy.{RefCopy}
use Rattle.nob_slots.specs.Slots.{item_at, is_number}
use Rattle.nob_space_messages.specs.declared.entry.Entry.{Entry}
use Rattle.nob_space_messages.specs.Copies.{AreCarried, AreFew, copies_in, copies_of, count_at}
use Rattle.nob_space_messages.specs.Lines.{items_of}
use Rattle.nob_space_messages.proofs.Granting.{pass_next}
use Rattle.nob_space_messages.specs.Waiting.{carries_any_of, granted_copy, granted_message, is_copy_of}

-- ---- no copies
abbrev pub zeros : ℕ → List ℕ
zeros zero = []
zeros (suc n) = 0 ∷ zeros n

pub zeros_at : (n owner : ℕ) → get_or (zeros n) owner 0 ≡ 0
zeros_at zero owner = refl
zeros_at (suc n) zero = refl
zeros_at (suc n) (suc owner) = zeros_at n owner

-- ---- whether there are any
few_all : {A : Type 0} (test : A → Bool) (xs : List A) → length (filter test xs) ≤ length xs
few_all test [] = omega arith
few_all test (x ∷ xs) =
    let rest = few_all test xs in
    elim (test x) as (λ b. length (cond b (x ∷ filter test xs) (filter test xs)) ≤ length (x ∷ xs)) [ true ↦ omega (arith, rest) | false ↦ omega (arith, rest) ]

some_more : (n : ℕ) → nat_lt 0 (suc n) ≡ true
some_more n = grind (arith, nat_tests)

any_some : {A : Type 0} (test : A → Bool) (xs : List A) → nat_lt 0 (length (filter test xs)) ≡ list_any test xs
any_some test [] = refl
any_some test (x ∷ xs) = elim (test x) as (λ b. nat_lt 0 (length (cond b (x ∷ filter test xs) (filter test xs))) ≡ (b || list_any test xs)) [ true ↦ some_more (length (filter test xs)) | false ↦ any_some test xs ]

sum_some : (a b : ℕ) → nat_lt 0 (a + b) ≡ (nat_lt 0 a || nat_lt 0 b)
sum_some a b = elim (nat_lt 0 a) as (λ v. nat_lt 0 a ≡ v → nat_lt 0 (a + b) ≡ (v || nat_lt 0 b)) [
  | true ↦ λ t. grind (arith, nat_tests)
  | false ↦ λ f. let none : a ≡ 0 = grind (arith, nat_tests) in let same : a + b ≡ b = omega (arith, none) in ap (nat_lt 0) same
] refl

pub any_copy : (owner : ℕ) (messages : List Message) → nat_lt 0 (copies_in owner messages) ≡ list_any (carries_any_of owner) messages
any_copy owner [] = refl
any_copy owner (m ∷ messages) =
    let first = any_some (is_copy_of owner) m.copies in
    let rest = any_copy owner messages in
    sum_some (copies_of owner m) (copies_in owner messages) ∙ (λ i. first i || rest i)

-- ---- one more
copies_pushed : (owner : ℕ) (messages : List Message) (m : Message) → copies_in owner (messages ++ m ∷ []) ≡ copies_in owner messages + copies_of owner m
copies_pushed owner [] m = omega arith
copies_pushed owner (x ∷ messages) m = let rest = copies_pushed owner messages m in omega (arith, rest)

items_pushed : (rows : List (ℕ × Entry)) (row : ℕ × Entry) → items_of (rows ++ row ∷ []) ≡ items_of rows ++ row.1.message ∷ []
items_pushed [] row = refl
items_pushed (x ∷ rows) row = ap (λ (ms : List Message). x.1.message ∷ ms) (items_pushed rows row)

pub small : (counts : List ℕ) (copies : List RefCopy) (next room : ℕ) → AreFew counts next → next + room ≤ 2 ^ 62 → length copies < room → (owner : ℕ) → count_at counts owner + length copies < 2 ^ 64
small counts copies next room few under less owner = omega (arith, few owner, under, less)

module _ (counts counts' : List ℕ) (copies : List RefCopy) where
  pub pushed_carried : (rows new : List (ℕ × Entry)) (stamp : ℕ) (entry : Entry) → AreCarried counts (items_of rows)
      → ((owner : ℕ) → count_at counts' owner ≡ count_at counts owner + length (filter (is_copy_of owner) copies)) → copies ≡ entry.message.copies → new ≡ rows ++ (stamp, entry) ∷ [] → AreCarried counts' (items_of new)
  pushed_carried rows new stamp entry are more its is owner =
      let was = are owner in
      let now = more owner in
      let same : length (filter (is_copy_of owner) copies) ≡ copies_of owner entry.message = ap (λ (cs : List RefCopy). length (filter (is_copy_of owner) cs)) its in
      let whole : copies_in owner (items_of new) ≡ copies_in owner (items_of rows) + copies_of owner entry.message = ap (λ (rs : List (ℕ × Entry)). copies_in owner (items_of rs)) is ∙ ap (copies_in owner) (items_pushed rows (stamp, entry)) ∙ copies_pushed owner (items_of rows) entry.message in
      omega (arith, was, now, same, whole)

  pub pushed_few : (next : ℕ) → AreFew counts next → ((owner : ℕ) → count_at counts' owner ≡ count_at counts owner + length (filter (is_copy_of owner) copies)) → AreFew counts' (next + 1 + length copies)
  pushed_few next few more owner = omega (arith, few owner, more owner, few_all (is_copy_of owner) copies)

-- ---- one less
pub copies_removed : (owner n : ℕ) (e : Entry) (rows : List (ℕ × Entry)) → item_at rows n ≡ Some e → copies_in owner (items_of rows) ≡ copies_of owner e.message + copies_in owner (items_of (remove_entry (is_number n) rows))
copies_removed owner n e [] found = absurd (none-some e found)
copies_removed owner n e (row ∷ rows) found =
    elim (is_number n row.0) as (λ b. cond b (Some row.1) (item_at rows n) ≡ Some e → copies_in owner (items_of (row ∷ rows)) ≡ copies_of owner e.message + copies_in owner (items_of (cond b rows (row ∷ remove_entry (is_number n) rows)))) [
      | true ↦ λ h. ap (λ (x : Entry). copies_of owner x.message + copies_in owner (items_of rows)) (same_Some row.1 e h)
      | false ↦ λ h. let rest = copies_removed owner n e rows h in omega (arith, rest)
    ] found

pub none_removed : (n : ℕ) (rows : List (ℕ × Entry)) → item_at rows n ≡ None → remove_entry (is_number n) rows ≡ rows
none_removed n [] none = refl
none_removed n (row ∷ rows) none =
    elim (is_number n row.0) as (λ b. cond b (Some row.1) (item_at rows n) ≡ None → cond b rows (row ∷ remove_entry (is_number n) rows) ≡ row ∷ rows) [
      | true ↦ λ h. absurd (none-some row.1 (sym h))
      | false ↦ λ h. ap (λ (rs : List (ℕ × Entry)). row ∷ rs) (none_removed n rows h)
    ] none

module _ (counts : List ℕ) (copies : List RefCopy) (rows : List (ℕ × Entry)) (n : ℕ) (e : Entry) (are : AreCarried counts (items_of rows)) (found : item_at rows n ≡ Some e) (its : copies ≡ e.message.copies) where
  same_copies : (owner : ℕ) → length (filter (is_copy_of owner) copies) ≡ copies_of owner e.message
  same_copies owner = ap (λ (cs : List RefCopy). length (filter (is_copy_of owner) cs)) its

  pub some : (owner : ℕ) → length (filter (is_copy_of owner) copies) ≤ count_at counts owner
  some owner = omega (arith, are owner, copies_removed owner n e rows found, same_copies owner)

  pub removed_carried : (counts' : List ℕ) (new : List (ℕ × Entry)) → ((owner : ℕ) → count_at counts owner ≡ count_at counts' owner + length (filter (is_copy_of owner) copies)) → new ≡ remove_entry (is_number n) rows → AreCarried counts' (items_of new)
  removed_carried counts' new less is owner =
      let now : copies_in owner (items_of new) ≡ copies_in owner (items_of (remove_entry (is_number n) rows)) = ap (λ (rs : List (ℕ × Entry)). copies_in owner (items_of rs)) is in
      omega (arith, are owner, less owner, copies_removed owner n e rows found, same_copies owner, now)

-- of the copies that are left there is one at least
take_few : {A : Type 0} (test : A → Bool) (xs : List A) (i : ℕ) → length (filter test (take i xs)) ≤ length (filter test xs)
take_few test [] zero = omega arith
take_few test [] (suc i) = omega arith
take_few test (x ∷ xs) zero = omega arith
take_few test (x ∷ xs) (suc i) =
    let rest = take_few test xs i in
    elim (test x) as (λ b. length (cond b (x ∷ filter test (take i xs)) (filter test (take i xs))) ≤ length (cond b (x ∷ filter test xs) (filter test xs))) [ true ↦ omega (arith, rest) | false ↦ omega (arith, rest) ]

pub one_left : (counts0 counts : ℕ) (test : RefCopy → Bool) (copies : List RefCopy) (i : ℕ) (copy : RefCopy) → length (filter test copies) ≤ counts0 → counts0 ≡ counts + length (filter test (take i copies)) → i < length copies → copy ≡ get_or copies i copy → (if test copy then 1 else 0) ≤ counts
one_left counts0 counts test copies i copy some is low here =
    omega (arith, some, is, pass_next test copies i copy (test copy) low here refl, take_few test copies (i + 1))

pub fewer_few : (counts counts' : List ℕ) (copies : List RefCopy) (next : ℕ) → AreFew counts next → ((owner : ℕ) → count_at counts owner ≡ count_at counts' owner + length (filter (is_copy_of owner) copies)) → AreFew counts' next
fewer_few counts counts' copies next few less owner = omega (arith, few owner, less owner)

-- ---- those kept that pass a test
kept_copies : (keeps : Message → Bool) (owner : ℕ) (messages : List Message) → copies_in owner (filter keeps messages) ≤ copies_in owner messages
kept_copies keeps owner [] = omega arith
kept_copies keeps owner (m ∷ messages) =
    let rest = kept_copies keeps owner messages in
    elim (keeps m) as (λ b. copies_in owner (cond b (m ∷ filter keeps messages) (filter keeps messages)) ≤ copies_in owner (m ∷ messages)) [ true ↦ omega (arith, rest) | false ↦ omega (arith, rest) ]

pub kept_few : (counts counts' : List ℕ) (keeps : Message → Bool) (items new : List Message) (next : ℕ) → AreCarried counts items → AreCarried counts' new → new ≡ filter keeps items → AreFew counts next → AreFew counts' next
kept_few counts counts' keeps items new next was now is few owner =
    let same : copies_in owner new ≡ copies_in owner (filter keeps items) = ap (copies_in owner) is in
    omega (arith, was owner, now owner, same, kept_copies keeps owner items, few owner)

-- ---- others of the same references
granted_one : (rep : WireRep) (owner : ℕ) (copies : List RefCopy) → length (filter (is_copy_of owner) (map (granted_copy rep) copies)) ≡ length (filter (is_copy_of owner) copies)
granted_one rep owner [] = refl
granted_one rep owner (c ∷ copies) =
    let rest = granted_one rep owner copies in
    elim (is_copy_of owner c) as (λ b. length (cond b (granted_copy rep c ∷ filter (is_copy_of owner) (map (granted_copy rep) copies)) (filter (is_copy_of owner) (map (granted_copy rep) copies))) ≡ length (cond b (c ∷ filter (is_copy_of owner) copies) (filter (is_copy_of owner) copies))) [ true ↦ ap suc rest | false ↦ rest ]

granted_copies : (rep : WireRep) (owner : ℕ) (messages : List Message) → copies_in owner (map (granted_message rep) messages) ≡ copies_in owner messages
granted_copies rep owner [] = refl
granted_copies rep owner (m ∷ messages) = omega (arith, granted_one rep owner m.copies, granted_copies rep owner messages)

pub granted_carried : (counts : List ℕ) (rep : WireRep) (items new : List Message) → AreCarried counts items → new ≡ map (granted_message rep) items → AreCarried counts new
granted_carried counts rep items new are is owner = are owner ∙ sym (ap (copies_in owner) is ∙ granted_copies rep owner items)

pub same_carried : (counts : List ℕ) (items new : List Message) → AreCarried counts items → new ≡ items → AreCarried counts new
same_carried counts items new are is = subst (λ (ms : List Message). AreCarried counts ms) (sym is) are
