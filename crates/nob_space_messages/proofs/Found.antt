-- The first message that may be settled, and what holds once messages are taken out.
use Rattle.std.proofs.Common.{◌≡◌, ℕ, ◌<◌, ◌==◌, ◌&&◌, Bool, true, false, not, cond, List, [], ◌∷◌, length, filter, find, Some, None, refl, sym, ap, ◌∙◌, arith, eqb-true}
use Rattle.std.proofs.lemmas.Bool.{ne_eqb}
use Rattle.std.proofs.lemmas.Cmp.{nat_eq_equiv}
use Rattle.std.proofs.lemmas.Option.{none-some, same_Some}
use Rattle.std.specs.List.{AllByRecursion, list_all}
use Rattle.std.specs.Map.{remove_entry}
use Rattle.nob_ids.specs.declared.wire_rep.WireRep.{WireRep}
use Rattle.nob_model_types.specs.declared.message.Message.{Message}
use Rattle.nob_model_types.specs.declared.message.RefCopy.{RefCopy}
use Rattle.nob_model_work.specs.Work.{without_first}
use Rattle.nob_slots.specs.Numbers.{NumberLists, numbers_of}
use Rattle.nob_slots.specs.Slots.{item_at, is_marked, is_number, IsAbove, IsFirstMarked, IsRising, NoneMarked}
use Rattle.nob_space_messages.specs.declared.entry.Entry.{Entry}
use Rattle.nob_space_messages.specs.Waiting.{is_awaited, is_due_where}
use Rattle.nob_space_messages.specs.Lines.{LineList, AreMarked, AreWaiting, has_line, items_of, reps_in, stamps_from}
use Rattle.nob_space_messages.proofs.Granted.{open_same}
use Rattle.nob_space_messages.proofs.Rows.{found_above, found_behind, lower_unlike}

-- whether none of a message's copies that are due is of a reference that is awaited
abbrev pub settles : List WireRep → Message → Bool
settles awaited message = list_all (λ copy. not (is_due_where (is_awaited awaited) copy)) message.copies

all_none : (test : RefCopy → Bool) (copies : List RefCopy) → list_all (λ copy. not (test copy)) copies ≡ (length (filter test copies) == 0)
all_none test [] = refl
all_none test (c ∷ copies) =
    elim (test c) as (λ b. (not b && list_all (λ copy. not (test copy)) copies) ≡ (length (cond b (c ∷ filter test copies) (filter test copies)) == 0)) [
      | true ↦ sym (ne_eqb (length (c ∷ filter test copies)) 0 (λ z. omega (arith, z)))
      | false ↦ all_none test copies
    ]

-- ---- the first of the messages
module _ (test : Message → Bool) where
  pub find_none : (rows : List (ℕ × Entry)) → IsRising rows → ((s : ℕ) (x : Entry) → item_at rows s ≡ Some x → test x.message ≡ false) → (find test (items_of rows) ≡ None) × (without_first test (items_of rows) ≡ items_of rows)
  find_none [] rising none = (refl, refl)
  find_none (row ∷ rows) rising none =
      let u : test row.1.message ≡ false = none row.0 row.1 (rw (nat_eq_equiv.refl row.0) refl) in
      let rest = find_none rows rising.1 (λ s x found. none s x (found_behind row rows s x rising.0 found)) in
      (rw u rest.0, rw u (ap (λ (ms : List Message). row.1.message ∷ ms) rest.1))

  pub find_first : (n : ℕ) (e : Entry) (rows : List (ℕ × Entry)) → IsRising rows → item_at rows n ≡ Some e → test e.message ≡ true → ((s : ℕ) (x : Entry) → item_at rows s ≡ Some x → s < n → test x.message ≡ false) → (find test (items_of rows) ≡ Some e.message) × (without_first test (items_of rows) ≡ items_of (remove_entry (is_number n) rows))
  find_first n e [] rising found passes none = absurd (none-some e found)
  find_first n e (row ∷ rows) rising found passes none =
      elim (is_number n row.0) as (λ b. is_number n row.0 ≡ b → cond b (Some row.1) (item_at rows n) ≡ Some e → (find test (items_of (row ∷ rows)) ≡ Some e.message) × (without_first test (items_of (row ∷ rows)) ≡ items_of (cond b rows (row ∷ remove_entry (is_number n) rows)))) [
        | true ↦ λ t h.
            let same : row.1 ≡ e = same_Some row.1 e h in
            let on : test row.1.message ≡ true = ap (λ (x : Entry). test x.message) same ∙ passes in
            (rw on (ap (λ (x : Entry). Some x.message) same), rw on refl)
        | false ↦ λ u h.
            let low : row.0 < n = found_above row.0 n e rows rising.0 h in
            let off : test row.1.message ≡ false = none row.0 row.1 (rw (nat_eq_equiv.refl row.0) refl) low in
            let rest = find_first n e rows rising.1 h passes (λ s x there less. none s x (found_behind row rows s x rising.0 there) less) in
            (rw off rest.0, rw off (ap (λ (ms : List Message). row.1.message ∷ ms) rest.1))
      ] refl found

module _ {rows : List (ℕ × Entry)} {marked : List ℕ} {entries next room : ℕ} {froms : NumberLists} {lines : LineList} (are : AreWaiting rows marked entries froms lines next room) where
  settles_marked : (s : ℕ) (x : Entry) → item_at rows s ≡ Some x → settles (reps_in lines.owners) x.message ≡ is_marked marked s
  settles_marked s x found =
      all_none (is_due_where (is_awaited (reps_in lines.owners))) x.message.copies ∙ ap (λ n. n == 0) (open_same (is_awaited (reps_in lines.owners)) (has_line lines) x.message are.awaited ∙ sym (are.waits s x found)) ∙ sym (are.marks s x found)

  pub first_none : NoneMarked marked 0 → (find (settles (reps_in lines.owners)) (items_of rows) ≡ None) × (without_first (settles (reps_in lines.owners)) (items_of rows) ≡ items_of rows)
  first_none none = find_none (settles (reps_in lines.owners)) rows are.rising (λ s x found. settles_marked s x found ∙ none s (omega arith))

  pub first_found : (n : ℕ) (e : Entry) → IsFirstMarked marked 0 n → item_at rows n ≡ Some e → (find (settles (reps_in lines.owners)) (items_of rows) ≡ Some e.message) × (without_first (settles (reps_in lines.owners)) (items_of rows) ≡ items_of (remove_entry (is_number n) rows))
  first_found n e first found =
      find_first (settles (reps_in lines.owners)) n e rows are.rising found (settles_marked n e found ∙ first.1) (λ s x there less. settles_marked s x there ∙ first.2 s (omega arith) less)

  -- what holds of fewer entries
  pub fewer : (rows' : List (ℕ × Entry)) (marked' : List ℕ) (entries' : ℕ) (froms' : NumberLists) → IsRising rows' → IsAbove rows' next → ((s : ℕ) (x : Entry) → item_at rows' s ≡ Some x → item_at rows s ≡ Some x) → AreMarked rows' marked' → ((peer : ℕ) → numbers_of froms' peer ≡ stamps_from peer rows') → entries' ≡ entries → froms'.room ≡ froms.room → AreWaiting rows' marked' entries' froms' lines next room
  fewer rows' marked' entries' froms' rising above had marks stamps same kept = record {
    rising = rising;
    above = above;
    marks = marks;
    stamps = stamps;
    waits = λ s x found. are.waits s x (had s x found);
    lined = λ r on s x found. are.lined r on s x (had s x found);
    awaited = are.awaited;
    fresh = are.fresh;
    few = are.few;
    entry_room = λ some. let more = are.entry_room some in omega (arith, more, same);
    stamp_room = λ some. let more = are.stamp_room some in omega (arith, more, kept);
    line_room = are.line_room;
    small = are.small;
  }

-- ---- one taken out
module _ (n : ℕ) where
  removed_over : (k : ℕ) (rows : List (ℕ × Entry)) → AllByRecursion (λ row. k < row.0) rows → AllByRecursion (λ row. k < row.0) (remove_entry (is_number n) rows)
  removed_over k [] all = tt
  removed_over k (row ∷ rows) all = elim (is_number n row.0) as (λ b. AllByRecursion (λ r. k < r.0) (cond b rows (row ∷ remove_entry (is_number n) rows))) [ true ↦ all.1 | false ↦ (all.0, removed_over k rows all.1) ]

  pub removed_below : (k : ℕ) (rows : List (ℕ × Entry)) → IsAbove rows k → IsAbove (remove_entry (is_number n) rows) k
  removed_below k [] all = tt
  removed_below k (row ∷ rows) all = elim (is_number n row.0) as (λ b. IsAbove (cond b rows (row ∷ remove_entry (is_number n) rows)) k) [ true ↦ all.1 | false ↦ (all.0, removed_below k rows all.1) ]

  pub removed_rising : (rows : List (ℕ × Entry)) → IsRising rows → IsRising (remove_entry (is_number n) rows)
  removed_rising [] rising = tt
  removed_rising (row ∷ rows) rising = elim (is_number n row.0) as (λ b. IsRising (cond b rows (row ∷ remove_entry (is_number n) rows))) [ true ↦ rising.1 | false ↦ (removed_over row.0 rows rising.0, removed_rising rows rising.1) ]

  pub removed_found : (rows : List (ℕ × Entry)) → IsRising rows → (s : ℕ) (x : Entry) → item_at (remove_entry (is_number n) rows) s ≡ Some x → (item_at rows s ≡ Some x) × (is_number n s ≡ false)
  removed_found [] rising s x found = absurd (none-some x found)
  removed_found (row ∷ rows) rising s x found =
      elim (is_number n row.0) as (λ b. is_number n row.0 ≡ b → item_at (cond b rows (row ∷ remove_entry (is_number n) rows)) s ≡ Some x → (item_at (row ∷ rows) s ≡ Some x) × (is_number n s ≡ false)) [
        | true ↦ λ t h.
            let same : n ≡ row.0 = eqb-true n row.0 t in
            let low : row.0 < s = found_above row.0 s x rows rising.0 h in
            (found_behind row rows s x rising.0 h, lower_unlike n s (omega (arith, same, low)))
        | false ↦ λ u h.
            elim (is_number s row.0) as (λ b. is_number s row.0 ≡ b → cond b (Some row.1) (item_at (remove_entry (is_number n) rows) s) ≡ Some x → (cond b (Some row.1) (item_at rows s) ≡ Some x) × (is_number n s ≡ false)) [
              | true ↦ λ t g. (g, ap (is_number n) (eqb-true s row.0 t) ∙ u)
              | false ↦ λ v g. removed_found rows rising.1 s x g
            ] refl h
      ] refl found

-- ---- those kept that pass a test
module _ (keeps : Message → Bool) where
  abbrev pub kept : List (ℕ × Entry) → List (ℕ × Entry)
  kept rows = filter (λ row. keeps row.1.message) rows

  kept_over : (k : ℕ) (rows : List (ℕ × Entry)) → AllByRecursion (λ row. k < row.0) rows → AllByRecursion (λ row. k < row.0) (kept rows)
  kept_over k [] all = tt
  kept_over k (row ∷ rows) all = elim (keeps row.1.message) as (λ b. AllByRecursion (λ r. k < r.0) (cond b (row ∷ kept rows) (kept rows))) [ true ↦ (all.0, kept_over k rows all.1) | false ↦ kept_over k rows all.1 ]

  pub kept_below : (k : ℕ) (rows : List (ℕ × Entry)) → IsAbove rows k → IsAbove (kept rows) k
  kept_below k [] all = tt
  kept_below k (row ∷ rows) all = elim (keeps row.1.message) as (λ b. IsAbove (cond b (row ∷ kept rows) (kept rows)) k) [ true ↦ (all.0, kept_below k rows all.1) | false ↦ kept_below k rows all.1 ]

  pub kept_rising : (rows : List (ℕ × Entry)) → IsRising rows → IsRising (kept rows)
  kept_rising [] rising = tt
  kept_rising (row ∷ rows) rising = elim (keeps row.1.message) as (λ b. IsRising (cond b (row ∷ kept rows) (kept rows))) [ true ↦ (kept_over row.0 rows rising.0, kept_rising rows rising.1) | false ↦ kept_rising rows rising.1 ]

  pub kept_found : (rows : List (ℕ × Entry)) → IsRising rows → (s : ℕ) (x : Entry) → item_at (kept rows) s ≡ Some x → item_at rows s ≡ Some x
  kept_found [] rising s x found = found
  kept_found (row ∷ rows) rising s x found =
      elim (keeps row.1.message) as (λ b. item_at (cond b (row ∷ kept rows) (kept rows)) s ≡ Some x → item_at (row ∷ rows) s ≡ Some x) [
        | true ↦ λ h. elim (is_number s row.0) as (λ b. cond b (Some row.1) (item_at (kept rows) s) ≡ Some x → cond b (Some row.1) (item_at rows s) ≡ Some x) [ true ↦ λ g. g | false ↦ λ g. kept_found rows rising.1 s x g ] h
        | false ↦ λ h. found_behind row rows s x rising.0 (kept_found rows rising.1 s x h)
      ] found

  pub kept_items : (rows : List (ℕ × Entry)) → items_of (kept rows) ≡ filter keeps (items_of rows)
  kept_items [] = refl
  kept_items (row ∷ rows) =
      elim (keeps row.1.message) as (λ b. items_of (cond b (row ∷ kept rows) (kept rows)) ≡ cond b (row.1.message ∷ filter keeps (items_of rows)) (filter keeps (items_of rows))) [
        | true ↦ ap (λ (ms : List Message). row.1.message ∷ ms) (kept_items rows)
        | false ↦ kept_items rows
      ]
