-- A message behind the others.
use Rattle.std.proofs.Common.{◌≡◌, ℕ, ◌<◌, ◌≤◌, ◌+◌, ◌==◌, ◌&&◌, ◌||◌, Bool, true, false, nat_lt, cond, List, [], ◌∷◌, ◌++◌, length, filter, Some, None, IsSome, if◌then◌else◌, refl, sym, ap, subst, ◌∙◌, arith, eqb-true, true≢false}
use Prim.Native.Nat.{zero, suc}
use Rattle.std.proofs.lemmas.Bool.Decides.{nat_tests}
use Rattle.std.proofs.lemmas.Cmp.{nat_eq_equiv}
use Rattle.std.proofs.lemmas.Option.{none-some, same_Some}
use Rattle.std.specs.List.{AllByRecursion}
use Rattle.nob_ids.specs.declared.wire_rep.WireRep.{WireRep}
use Rattle.nob_model_types.specs.declared.message.Message.{Message}
use Rattle.nob_model_types.specs.declared.message.RefCopy.{RefCopy}
use Rattle.nob_slots.specs.Numbers.{NumberLists, numbers_of, Puts}
use Rattle.nob_slots.specs.Slots.{item_at, is_marked, is_number, IsAbove, IsRising, PutsMark}
use Rattle.nob_space_messages.specs.declared.entry.Entry.{Entry}
use Rattle.nob_space_messages.specs.Waiting.{due_to, due_to_all, is_awaited, is_due, is_due_in, is_due_where, waits_for}
use Rattle.nob_space_messages.specs.Lines.{LineList, AreAwaited, AreWaiting, has_line, places_for, reps_in, items_of, open_in, stamps_from, times_in}
use Rattle.nob_space_messages.proofs.Ended.{line_none, due_few, times_none}
use Rattle.nob_space_messages.proofs.Granted.{count_cons, count_same}
use Rattle.nob_space_messages.proofs.Rows.{found_below}
use Rattle.nob_space_messages.proofs.Stamps.{stamps_pushed}

-- ---- rows
above_all : (n : ℕ) (e : Entry) (k : ℕ) (rows : List (ℕ × Entry)) → k < n → AllByRecursion (λ row. k < row.0) rows → AllByRecursion (λ row. k < row.0) (rows ++ (n, e) ∷ [])
above_all n e k [] less all = (less, tt)
above_all n e k (row ∷ rows) less all = (all.0, above_all n e k rows less all.1)

pub push_rising : (n : ℕ) (e : Entry) (rows : List (ℕ × Entry)) → IsRising rows → IsAbove rows n → IsRising (rows ++ (n, e) ∷ [])
push_rising n e [] rising above = (tt, tt)
push_rising n e (row ∷ rows) rising above = (above_all n e row.0 rows above.0 rising.0, push_rising n e rows rising.1 above.1)

pub push_below : (n k : ℕ) (e : Entry) (rows : List (ℕ × Entry)) → n < k → IsAbove rows n → IsAbove (rows ++ (n, e) ∷ []) k
push_below n k e [] less above = (less, tt)
push_below n k e (row ∷ rows) less above = (omega (arith, above.0, less), push_below n k e rows less above.1)

-- what is found is the new one, or was there
pub push_found : {Q : Type 0} (n : ℕ) (e : Entry) (rows : List (ℕ × Entry)) (s : ℕ) (x : Entry) → (item_at rows s ≡ Some x → Q) → (n ≡ s → e ≡ x → Q) → item_at (rows ++ (n, e) ∷ []) s ≡ Some x → Q
push_found {Q} n e [] s x old new found =
    elim (is_number s n) as (λ b. is_number s n ≡ b → cond b (Some e) None ≡ Some x → Q) [
      | true ↦ λ t h. new (sym (eqb-true s n t)) (same_Some e x h)
      | false ↦ λ u h. absurd (none-some x h)
    ] refl found
push_found {Q} n e (row ∷ rows) s x old new found =
    elim (is_number s row.0) as (λ b. (cond b (Some row.1) (item_at rows s) ≡ Some x → Q) → cond b (Some row.1) (item_at (rows ++ (n, e) ∷ []) s) ≡ Some x → Q) [
      | true ↦ λ was h. was h
      | false ↦ λ was h. push_found n e rows s x was new h
    ] old found

pub push_there : (n : ℕ) (e : Entry) (rows : List (ℕ × Entry)) → IsAbove rows n → IsSome (item_at (rows ++ (n, e) ∷ []) n)
push_there n e [] above = subst IsSome (sym (ap (λ b. cond b (Some e) None) (nat_eq_equiv.refl n))) refl
push_there n e (row ∷ rows) above =
    elim (is_number n row.0) as (λ b. IsSome (cond b (Some row.1) (item_at (rows ++ (n, e) ∷ []) n))) [ true ↦ refl | false ↦ push_there n e rows above.1 ]

-- ---- copies
pub some_more : (n : ℕ) → 0 < n → nat_lt 0 n ≡ true
some_more n h = grind (arith, nat_tests, h)

-- tests that agree at what is due count the same
open_where : (test other : WireRep → Bool) (copies : List RefCopy) → ((r : WireRep) → 0 < length (filter (waits_for r) copies) → test r ≡ other r) → length (filter (is_due_where test) copies) ≡ length (filter (is_due_where other) copies)
open_where test other [] same = refl
open_where test other (c ∷ copies) same =
    let rest = open_where test other copies (λ r due. same r (let all = count_cons (waits_for r) c copies in omega (arith, due, all))) in
    let one : is_due_where test c ≡ is_due_where other c =
    elim (is_due c.loan) as (λ d. is_due c.loan ≡ d → (d && test c.rep) ≡ (d && other c.rep)) [
      | true ↦ λ t.
          let on : waits_for c.rep c ≡ true = (λ i. nat_eq_equiv.refl c.rep.owner i && nat_eq_equiv.refl c.rep.index i && t i) in
          let first : ◌≡◌ {A = ℕ} (if waits_for c.rep c then 1 else 0) 1 = ap (λ b. if b then 1 else 0) on in
          let all = count_cons (waits_for c.rep) c copies in
          same c.rep (omega (arith, all, first))
      | false ↦ λ u. refl
    ] refl in
    let here : ◌≡◌ {A = ℕ} (if is_due_where test c then 1 else 0) (if is_due_where other c then 1 else 0) = ap (λ b. if b then 1 else 0) one in
    let left = count_cons (is_due_where test) c copies in
    let right = count_cons (is_due_where other) c copies in
    omega (arith, rest, here, left, right)

due_count : (copies : List RefCopy) → length (filter (λ copy. is_due copy.loan) copies) ≡ length (filter (is_due_where (λ r. true)) copies)
due_count copies = count_same (λ copy. is_due copy.loan) (is_due_where (λ r. true)) copies (λ c. elim (is_due c.loan) as (λ b. b ≡ (b && true)) [ true ↦ refl | false ↦ refl ])

pub due_few_copies : (r : WireRep) (copies : List RefCopy) → length (filter (waits_for r) copies) ≤ length copies
due_few_copies r [] = omega arith
due_few_copies r (c ∷ copies) =
    let rest = due_few_copies r copies in
    let all = count_cons (waits_for r) c copies in
    let one : (if waits_for r c then 1 else 0) ≤ 1 = elim (waits_for r c) as (λ b. (if b then 1 else 0) ≤ 1) [ true ↦ omega arith | false ↦ omega arith ] in
    omega (arith, rest, all, one)

module _ {rows : List (ℕ × Entry)} {marked : List ℕ} {entries next room : ℕ} {froms : NumberLists} {lines : LineList} (are : AreWaiting rows marked entries froms lines next room) (message : Message) (new : LineList)
    (counts : (r : WireRep) → places_for new r ≡ places_for lines r + due_to r message)
    (times : (r : WireRep) (s : ℕ) → times_in new r s ≡ times_in lines r s + (if next == s then due_to r message else 0))
    (reps : AreAwaited new)
    (fits : (r : WireRep) → is_due_in (message ∷ []) r ≡ true → is_due_in (items_of rows) r ≡ true → is_awaited (reps_in lines.owners) r ≡ true) where
  others : (r : WireRep) (s : ℕ) → (next ≡ s → ⊥) → times_in new r s ≡ times_in lines r s
  others r s differs =
      let plain = times r s in
      elim (next == s) as (λ b. (next == s) ≡ b → times_in new r s ≡ times_in lines r s + (if b then due_to r message else 0) → times_in new r s ≡ times_in lines r s) [
        | true ↦ λ t e. absurd (differs (eqb-true next s t))
        | false ↦ λ u e. omega (arith, e)
      ] refl plain

  -- where it is not awaited and the new message waits for it, no other does
  none_waits : (r : WireRep) (s : ℕ) (x : Entry) → item_at rows s ≡ Some x → has_line lines r ≡ false → 0 < due_to r message → due_to r x.message ≡ 0
  none_waits r s x found off due =
      let one : is_due_in (message ∷ []) r ≡ true = some_more (due_to_all r (message ∷ [])) (omega (arith, due)) in
      elim (is_due_in (items_of rows) r) as (λ b. is_due_in (items_of rows) r ≡ b → due_to r x.message ≡ 0) [
        | true ↦ λ t. absurd (true≢false (sym (sym (are.awaited r) ∙ fits r one t) ∙ off))
        | false ↦ λ u. let few = due_few r rows s x found in let zero = none_below (due_to_all r (items_of rows)) u in omega (arith, few, zero)
      ] refl
    where
      none_below : (n : ℕ) → nat_lt 0 n ≡ false → n ≡ 0
      none_below zero h = refl
      none_below (suc n) h = let more : 0 < suc n = omega arith in absurd (grind (arith, nat_tests, more, h))

  -- a reference that an old message waits for is awaited as before
  awaited_old : (s : ℕ) (x : Entry) → item_at rows s ≡ Some x → (r : WireRep) → 0 < due_to r x.message → has_line lines r ≡ has_line new r
  awaited_old s x found r due =
      elim (has_line lines r) as (λ b. has_line lines r ≡ b → b ≡ has_line new r) [
        | true ↦ λ t.
            let was : 0 < places_for lines r = awaited_some (places_for lines r) t in
            let its = counts r in
            sym (some_more (places_for new r) (omega (arith, was, its)))
        | false ↦ λ u.
            let none = line_none lines r u in
            let its = counts r in
            let zero : due_to r message ≡ 0 = elim (due_to r message) as (λ n. due_to r message ≡ n → n ≡ 0) [
              | zero ↦ λ e. refl
              | suc n ↦ λ e. let bad = none_waits r s x found u (omega (arith, e)) in absurd (omega (arith, bad, due))
            ] refl in
            let same : places_for new r ≡ 0 = omega (arith, its, none, zero) in sym (ap (nat_lt 0) same)
      ] refl
    where
      awaited_some : (n : ℕ) → nat_lt 0 n ≡ true → 0 < n
      awaited_some zero h = absurd (true≢false (sym h))
      awaited_some (suc n) h = omega arith

  lined_old : (r : WireRep) (s : ℕ) (x : Entry) → item_at rows s ≡ Some x → has_line new r ≡ true → times_in lines r s ≡ due_to r x.message
  lined_old r s x found on =
      elim (has_line lines r) as (λ b. has_line lines r ≡ b → times_in lines r s ≡ due_to r x.message) [
        | true ↦ λ t. are.lined r t s x found
        | false ↦ λ u.
            let none = times_none lines r s u in
            elim (due_to r x.message) as (λ n. due_to r x.message ≡ n → times_in lines r s ≡ n) [
              | zero ↦ λ e. none
              | suc n ↦ λ e. let same = awaited_old s x found r (omega (arith, e)) in absurd (true≢false (sym on ∙ sym same ∙ u))
            ] refl
      ] refl

  -- the reference of a copy that is due to the message is awaited
  awaited_new : (r : WireRep) → 0 < due_to r message → true ≡ has_line new r
  awaited_new r due = let its = counts r in sym (some_more (places_for new r) (omega (arith, due, its)))

  -- which are awaited, as the contract sees it
  pub awaited_more : (r : WireRep) → is_awaited (reps_in new.owners) r ≡ (is_awaited (reps_in lines.owners) r || is_due_in (message ∷ []) r)
  awaited_more r =
      reps r ∙ ap (nat_lt 0) (counts r) ∙ more (places_for lines r) (due_to r message) ∙ ap (λ b. b || nat_lt 0 (due_to r message + 0)) (sym (are.awaited r))
    where
      more : (a b : ℕ) → nat_lt 0 (a + b) ≡ (nat_lt 0 a || nat_lt 0 (b + 0))
      more zero b = let same : b ≡ b + 0 = omega arith in ap (nat_lt 0) (omega arith)
      more (suc a) b = some_more (suc a + b) (omega arith) ∙ sym (ap (λ t. t || nat_lt 0 (b + 0)) (some_more (suc a) (omega arith)))

  -- what holds once the message is there
  pub pushed : (rows' : List (ℕ × Entry)) (marked' : List ℕ) (entries' : ℕ) (froms' : NumberLists) (next' waits : ℕ) → rows' ≡ rows ++ (next, record { message = message; waits = waits }) ∷ [] → waits ≡ length (filter (λ copy. is_due copy.loan) message.copies)
      → Puts froms froms' message.from (numbers_of froms message.from ++ next ∷ []) → PutsMark marked marked' next (waits == 0) → next' ≡ next + 1 + length message.copies → length message.copies < room → AreWaiting rows' marked' entries' froms' new next' 0
  pushed rows' marked' entries' froms' next' waits is count stamped puts more fits' =
      let e : Entry = record { message = message; waits = waits } in
      record {
        rising = subst IsRising (sym is) (push_rising next e rows are.rising are.above);
        above = subst (λ rs. IsAbove rs next') (sym is) (push_below next next' e rows (omega (arith, more)) are.above);
        marks = λ s x found. push_found next e rows s x (λ old. marks_old s x old) (λ at same. marks_new s x at same) (sym (ap (λ rs. item_at rs s) is) ∙ found);
        stamps = λ peer. stamps_pushed froms froms' rows next e are.stamps stamped peer ∙ ap (stamps_from peer) (sym is);
        waits = λ s x found. push_found next e rows s x (λ old. waits_old s x old) (λ at same. waits_new x same) (sym (ap (λ rs. item_at rs s) is) ∙ found);
        lined = λ r on s x found. push_found next e rows s x (λ old. others r s (differs s x old) ∙ lined_old r s x old on) (λ at same. lined_new r s x at same) (sym (ap (λ rs. item_at rs s) is) ∙ found);
        awaited = reps;
        fresh = λ r s past. others r s (λ at. omega (arith, at, past, more)) ∙ are.fresh r s (omega (arith, past, more));
        few = λ r. let its = counts r in let few = are.few r in let fewer = due_few_copies r message.copies in omega (arith, its, few, fewer, more);
        entry_room = λ some. absurd (omega (arith, some));
        stamp_room = λ some. absurd (omega (arith, some));
        line_room = omega arith;
        small = omega (arith, more, fits', are.small);
      }
    where
      differs : (s : ℕ) (x : Entry) → item_at rows s ≡ Some x → next ≡ s → ⊥
      differs s x old at = let less = found_below next s x rows are.above old in absurd (omega (arith, less, at))

      marks_old : (s : ℕ) (x : Entry) → item_at rows s ≡ Some x → is_marked marked' s ≡ (x.waits == 0)
      marks_old s x old = puts s ∙ elim (is_number next s) as (λ b. is_number next s ≡ b → (if b then waits == 0 else is_marked marked s) ≡ (x.waits == 0)) [
        | true ↦ λ t. absurd (differs s x old (eqb-true next s t))
        | false ↦ λ u. are.marks s x old
      ] refl

      marks_new : (s : ℕ) (x : Entry) → next ≡ s → record { message = message; waits = waits } ≡ x → is_marked marked' s ≡ (x.waits == 0)
      marks_new s x at same = puts s ∙ ap (λ (k : ℕ). if is_number next k then waits == 0 else is_marked marked s) (sym at) ∙ ap (λ b. if b then waits == 0 else is_marked marked s) (nat_eq_equiv.refl next) ∙ ap (λ (y : Entry). y.waits == 0) same

      waits_old : (s : ℕ) (x : Entry) → item_at rows s ≡ Some x → x.waits ≡ open_in (has_line new) x.message
      waits_old s x old = are.waits s x old ∙ open_where (has_line lines) (has_line new) x.message.copies (awaited_old s x old)

      waits_new : (x : Entry) → record { message = message; waits = waits } ≡ x → x.waits ≡ open_in (has_line new) x.message
      waits_new x same =
          ap (λ (y : Entry). y.waits) (sym same) ∙ count ∙ due_count message.copies ∙ open_where (λ r. true) (has_line new) message.copies awaited_new
          ∙ ap (λ (y : Entry). open_in (has_line new) y.message) same

      lined_new : (r : WireRep) (s : ℕ) (x : Entry) → next ≡ s → record { message = message; waits = waits } ≡ x → times_in new r s ≡ due_to r x.message
      lined_new r s x at same =
          let here : times_in new r next ≡ times_in lines r next + due_to r message = times r next ∙ ap (λ b. times_in lines r next + (if b then due_to r message else 0)) (nat_eq_equiv.refl next) in
          let none = are.fresh r next (omega arith) in
          let all : times_in new r next ≡ due_to r message = omega (arith, here, none) in
          ap (times_in new r) (sym at) ∙ all ∙ ap (λ (y : Entry). due_to r y.message) same
