-- What holds once lines have ended.
use Rattle.std.proofs.Common.{◌≡◌, ℕ, ◌<◌, ◌≤◌, ◌+◌, ◌-◌, ◌^◌, ◌==◌, ◌&&◌, Bool, true, false, not, nat_lt, cond, List, [], ◌∷◌, Some, if◌then◌else◌, refl, sym, ap, subst, ◌∙◌, arith, true≢false}
use Prim.Native.Nat.{zero, suc}
use Rattle.std.proofs.lemmas.Bool.Decides.{nat_tests}
use Rattle.std.proofs.lemmas.Option.{none-some, same_Some}
use Rattle.nob_ids.specs.declared.wire_rep.WireRep.{WireRep}
use Rattle.nob_slots.specs.Numbers.{NumberLists, numbers_of}
use Rattle.nob_slots.specs.Slots.{item_at, IsRising, IsAbove}
use Rattle.nob_space_messages.specs.declared.entry.Entry.{Entry}
use Rattle.nob_space_messages.specs.Waiting.{due_to, due_to_all, is_awaited, is_due_in}
use Rattle.nob_space_messages.specs.Lines.{LineList, LineMap, AreAwaited, count_of, lines_of, stamp_at, AreMarked, AreWaiting, IsLined, changed, has_line, items_of, places_for, reps_in, lent_entry, link_at, open_in, stamps_from, stands, times_in}
use Rattle.nob_space_messages.proofs.Counting.{stands_below}
use Rattle.nob_space_messages.proofs.Granted.{but, open_but, open_granted, open_less, open_same}
use Rattle.nob_space_messages.proofs.Stamps.{stamps_changed}
use Rattle.nob_space_messages.proofs.Rows.{changed_below, changed_found, changed_rising}

pub line_none : (lines : LineList) (rep : WireRep) → has_line lines rep ≡ false → places_for lines rep ≡ 0
line_none lines rep off = none (places_for lines rep) off
  where
    none : (n : ℕ) → nat_lt 0 n ≡ false → n ≡ 0
    none zero h = refl
    none (suc n) h = let more : 0 < suc n = omega arith in absurd (grind (arith, nat_tests, more, h))

pub times_none : (lines : LineList) (rep : WireRep) (s : ℕ) → has_line lines rep ≡ false → times_in lines rep s ≡ 0
times_none lines rep s off = ap (λ n. stands lines rep n s) (line_none lines rep off)

pub due_few : (rep : WireRep) (rs : List (ℕ × Entry)) (s : ℕ) (e : Entry) → item_at rs s ≡ Some e → due_to rep e.message ≤ due_to_all rep (items_of rs)
due_few rep [] s e found = absurd (none-some e found)
due_few rep (row ∷ rs) s e found =
    elim (s == row.0) as (λ b. cond b (Some row.1) (item_at rs s) ≡ Some e → due_to rep e.message ≤ due_to rep row.1.message + due_to_all rep (items_of rs)) [
      | true ↦ λ h. let same : due_to rep row.1.message ≡ due_to rep e.message = ap (λ (y : Entry). due_to rep y.message) (same_Some row.1 e h) in omega (arith, same)
      | false ↦ λ h. let rest = due_few rep rs s e h in omega (arith, rest)
    ] found

module _ {rows : List (ℕ × Entry)} {marked : List ℕ} {entries next room : ℕ} {froms : NumberLists} {lines : LineList} (are : AreWaiting rows marked entries froms lines next room) (gone : WireRep → Bool) (new : LineList)
    (counts : (r : WireRep) → places_for new r ≡ (if gone r then 0 else places_for lines r))
    (links : (r : WireRep) (place : ℕ) → gone r ≡ false → link_at new r place ≡ link_at lines r place)
    (reps : AreAwaited new) (kept : lines.room ≤ new.room) where
  -- which are awaited still
  pub lines_but : (r : WireRep) → has_line new r ≡ (has_line lines r && not (gone r))
  lines_but r = ap (nat_lt 0) (counts r) ∙ elim (gone r) as (λ b. nat_lt 0 (if b then 0 else places_for lines r) ≡ (has_line lines r && not b)) [
    | true ↦ elim (has_line lines r) as (λ a. false ≡ (a && false)) [ true ↦ refl | false ↦ refl ]
    | false ↦ elim (has_line lines r) as (λ a. a ≡ (a && true)) [ true ↦ refl | false ↦ refl ]
  ]

  -- and so of what the contract sees
  pub awaited_but : (r : WireRep) → is_awaited (reps_in new.owners) r ≡ (not (gone r) && is_awaited (reps_in lines.owners) r)
  awaited_but r = reps r ∙ lines_but r ∙ turned (has_line lines r) (gone r) ∙ ap (λ b. not (gone r) && b) (sym (are.awaited r))
    where
      turned : (a b : Bool) → (a && not b) ≡ (not b && a)
      turned true true = refl
      turned true false = refl
      turned false true = refl
      turned false false = refl

  still : (r : WireRep) → has_line new r ≡ true → (gone r ≡ false) × (has_line lines r ≡ true)
  still r on = elim (gone r) as (λ b. gone r ≡ b → (has_line lines r && not b) ≡ true → (b ≡ false) × (has_line lines r ≡ true)) [
    | true ↦ λ t h. absurd (elim (has_line lines r) as (λ a. (a && false) ≡ true → ⊥) [ true ↦ λ e. true≢false (sym e) | false ↦ λ e. true≢false (sym e) ] h)
    | false ↦ λ u h. (refl, elim (has_line lines r) as (λ a. (a && true) ≡ true → a ≡ true) [ true ↦ λ e. refl | false ↦ λ e. e ] h)
  ] refl (sym (lines_but r) ∙ on)

  times_still : (r : WireRep) (s : ℕ) → gone r ≡ false → times_in new r s ≡ times_in lines r s
  times_still r s off =
      let same : places_for new r ≡ places_for lines r = counts r ∙ ap (λ b. if b then 0 else places_for lines r) off in
      ap (λ n. stands new r n s) same ∙ stands_below lines new r (places_for lines r) s (λ place less. links r place off)

  times_fewer : (r : WireRep) (s : ℕ) → next ≤ s → times_in new r s ≡ 0
  times_fewer r s past = elim (gone r) as (λ b. gone r ≡ b → times_in new r s ≡ 0) [
    | true ↦ λ t. ap (λ n. stands new r n s) (counts r ∙ ap (λ b. if b then 0 else places_for lines r) t)
    | false ↦ λ u. times_still r s u ∙ are.fresh r s past
  ] refl

  few_still : (r : WireRep) → places_for new r ≤ next
  few_still r =
      let few = are.few r in
      subst (λ n. n ≤ next) (sym (counts r)) (elim (gone r) as (λ b. (if b then 0 else places_for lines r) ≤ next) [ true ↦ omega arith | false ↦ few ])

  -- what holds once the lines of these references have ended
  pub ended : (g : ℕ → Entry → Entry) (rows' : List (ℕ × Entry)) (marked' : List ℕ) (entries' : ℕ) → rows' ≡ changed g rows → AreMarked rows' marked' → entries' ≡ entries
      → ((s : ℕ) (e : Entry) → item_at rows s ≡ Some e → (g s e).waits ≡ open_in (λ r. has_line lines r && not (gone r)) (g s e).message)
      → ((s : ℕ) (e : Entry) (r : WireRep) → gone r ≡ false → due_to r (g s e).message ≡ due_to r e.message)
      → ((s : ℕ) (e : Entry) → (g s e).message.from ≡ e.message.from)
      → AreWaiting rows' marked' entries' froms new next room
  ended g rows' marked' entries' is marks same waits dues senders =
      record {
        rising = subst IsRising (sym is) (changed_rising g rows are.rising);
        above = subst (λ rs. IsAbove rs next) (sym is) (changed_below g next rows are.above);
        marks = marks;
        stamps = λ peer. are.stamps peer ∙ sym (ap (stamps_from peer) is ∙ stamps_changed peer g rows senders);
        waits = λ s e found.
            let was = changed_found g rows s e (sym (ap (λ rs. item_at rs s) is) ∙ found) in
            ap (λ (x : Entry). x.waits) was.2 ∙ waits s was.0 was.1
            ∙ open_same (λ r. has_line lines r && not (gone r)) (has_line new) (g s was.0).message (λ r. sym (lines_but r))
            ∙ ap (λ (x : Entry). open_in (has_line new) x.message) (sym was.2);
        lined = λ r on s e found.
            let was = changed_found g rows s e (sym (ap (λ rs. item_at rs s) is) ∙ found) in
            let both = still r on in
            times_still r s both.0 ∙ are.lined r both.1 s was.0 was.1 ∙ sym (dues s was.0 r both.0) ∙ ap (λ (x : Entry). due_to r x.message) (sym was.2);
        awaited = reps;
        fresh = times_fewer;
        few = few_still;
        entry_room = λ some. let more = are.entry_room some in omega (arith, more, same);
        stamp_room = are.stamp_room;
        line_room = omega (arith, are.line_room, kept);
        small = are.small;
      }

module _ {rows : List (ℕ × Entry)} {marked : List ℕ} {entries next room : ℕ} {froms : NumberLists} {lines : LineList} (are : AreWaiting rows marked entries froms lines next room) (rep : WireRep) where
  -- a message waits for the copies of the reference no longer
  pub lowered_open : (s : ℕ) (e : Entry) → item_at rows s ≡ Some e → e.waits - times_in lines rep s ≡ open_in (but rep (has_line lines)) e.message
  lowered_open s e found =
      let waits = are.waits s e found in
      elim (has_line lines rep) as (λ b. has_line lines rep ≡ b → e.waits - times_in lines rep s ≡ open_in (but rep (has_line lines)) e.message) [
        | true ↦ λ t.
            let less = open_less rep (has_line lines) e.message t in
            let lined = are.lined rep t s e found in omega (arith, waits, less, lined)
        | false ↦ λ u.
            let same = open_but rep (has_line lines) e.message u in
            let none = times_none lines rep s u in omega (arith, waits, same, none)
      ] refl

  -- where no messages wait for it in vain
  pub lined_all : (is_due_in (items_of rows) rep ≡ true → has_line lines rep ≡ true) → IsLined lines rows rep
  lined_all new s e found =
      elim (has_line lines rep) as (λ b. has_line lines rep ≡ b → times_in lines rep s ≡ due_to rep e.message) [
        | true ↦ λ t. are.lined rep t s e found
        | false ↦ λ u.
            let none = times_none lines rep s u in
            elim (is_due_in (items_of rows) rep) as (λ b. is_due_in (items_of rows) rep ≡ b → times_in lines rep s ≡ due_to rep e.message) [
              | true ↦ λ due. absurd (true≢false (sym (new due) ∙ u))
              | false ↦ λ due. let zero = no_due (due_to_all rep (items_of rows)) due in let few = due_few rep rows s e found in omega (arith, none, zero, few)
            ] refl
      ] refl
    where
      no_due : (n : ℕ) → nat_lt 0 n ≡ false → n ≡ 0
      no_due zero h = refl
      no_due (suc n) h = let more : 0 < suc n = omega arith in absurd (grind (arith, nat_tests, more, h))

  pub lent_open : IsLined lines rows rep → (s : ℕ) (e : Entry) → item_at rows s ≡ Some e → (lent_entry rep e).waits ≡ open_in (but rep (has_line lines)) (lent_entry rep e).message
  lent_open lined s e found =
      let less = lowered_open s e found in
      let its = lined s e found in
      let same = open_granted rep (has_line lines) e.message in
      omega (arith, less, its, same)

changed_same : (rows : List (ℕ × Entry)) → rows ≡ changed (λ s e. e) rows
changed_same [] = refl
changed_same (row ∷ rows) = ap (λ (rs : List (ℕ × Entry)). row ∷ rs) (changed_same rows)

-- what holds where there is more room
pub widened : {rows : List (ℕ × Entry)} {marked : List ℕ} {entries next room : ℕ} {froms : NumberLists} {lines : LineList} (are : AreWaiting rows marked entries froms lines next room) (new : LineList)
    → ((owner : ℕ) → lines_of new owner ≡ lines_of lines owner) → reps_in new.owners ≡ reps_in lines.owners → lines.room ≤ new.room
    → (entries' room' : ℕ) (froms' : NumberLists) → ((peer : ℕ) → numbers_of froms' peer ≡ numbers_of froms peer)
    → (0 < room' → 0 < entries') → (0 < room' → 0 < froms'.room) → room' ≤ new.room + 1 → next + room' ≤ 2 ^ 62
    → AreWaiting rows marked entries' froms' new next room'
widened {rows} {marked} {entries} {next} {room} {froms} {lines} are new same reps kept entries' room' froms' numbers entry stamp line small =
    let counts : (r : WireRep) → places_for new r ≡ places_for lines r = λ r. ap (λ (l : LineMap). count_of l.rows r) (same r.owner) in
    let links : (r : WireRep) (place : ℕ) → link_at new r place ≡ link_at lines r place = λ r place. ap (λ (l : LineMap). stamp_at l r place) (same r.owner) in
    let awaited : AreAwaited new = λ r. ap (λ rs. is_awaited rs r) reps ∙ are.awaited r ∙ ap (nat_lt 0) (sym (counts r)) in
    let it : AreWaiting rows marked entries froms new next room =
    ended are (λ r. false) new counts (λ r place off. links r place) awaited kept (λ s e. e) rows marked entries (changed_same rows) are.marks refl
    (λ s e found. are.waits s e found ∙ open_same (has_line lines) (λ r. has_line lines r && not false) e.message (λ r. elim (has_line lines r) as (λ b. b ≡ (b && true)) [ true ↦ refl | false ↦ refl ]))
    (λ s e r off. refl) (λ s e. refl) in
    record {
      rising = are.rising;
      above = are.above;
      marks = are.marks;
      stamps = λ peer. numbers peer ∙ are.stamps peer;
      waits = it.waits;
      lined = it.lined;
      awaited = awaited;
      fresh = it.fresh;
      few = it.few;
      entry_room = entry;
      stamp_room = stamp;
      line_room = line;
      small = small;
    }
