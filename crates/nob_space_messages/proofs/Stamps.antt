-- The stamps of the messages from a space.
use Rattle.std.proofs.Common.{◌≡◌, ℕ, ◌<◌, ◌≤◌, ◌==◌, true, false, not, cond, List, [], ◌∷◌, ◌++◌, length, filter, map, Some, None, if◌then◌else◌, refl, sym, ap, subst, ◌∙◌, arith, eqb-true}
use Rattle.std.proofs.lemmas.Cmp.{nat_eq_equiv}
use Rattle.std.proofs.lemmas.Option.{none-some, same_Some}
use Rattle.std.specs.List.{AllByRecursion}
use Rattle.std.specs.Map.{remove_entry}
use Rattle.nob_model_types.specs.declared.message.Message.{Message}
use Rattle.nob_model_types.specs.Messages.{is_not_from}
use Rattle.nob_slots.specs.Numbers.{NumberLists, numbers_of, IsAboveAll, Puts}
use Rattle.nob_slots.specs.Slots.{item_at, is_marked, is_number, IsAbove, IsRising, PutsMark}
use Rattle.nob_space_messages.specs.declared.entry.Entry.{Entry}
use Rattle.nob_space_messages.specs.Lines.{AreMarked, AreThere, changed, items_of, messages_at, stamps_from, with_message, without}
use Rattle.nob_space_messages.proofs.Found.{kept, removed_found}
use Rattle.nob_space_messages.proofs.Rows.{lower_unlike}

unlike : (n s : ℕ) → n < s → is_number s n ≡ false
unlike n s less = nat_eq_equiv.symm s n ∙ lower_unlike n s less

module _ (p : ℕ) where
  abbrev from_it : List (ℕ × Entry) → List (ℕ × Entry)
  from_it rows = filter (λ row. row.1.message.from == p) rows

  abbrev stamps : List (ℕ × Entry) → List ℕ
  stamps rows = map (λ row. row.0) rows

  stamps_over : (k : ℕ) (rows : List (ℕ × Entry)) → AllByRecursion (λ row. k < row.0) rows → AllByRecursion (λ s. k < s) (stamps_from p rows)
  stamps_over k [] all = tt
  stamps_over k (row ∷ rows) all = elim (row.1.message.from == p) as (λ b. AllByRecursion (λ s. k < s) (stamps (cond b (row ∷ from_it rows) (from_it rows)))) [
    | true ↦ (all.0, stamps_over k rows all.1)
    | false ↦ stamps_over k rows all.1
  ]

  pub stamps_below : (n : ℕ) (rows : List (ℕ × Entry)) → IsAbove rows n → IsAboveAll (stamps_from p rows) n
  stamps_below n [] all = tt
  stamps_below n (row ∷ rows) all = elim (row.1.message.from == p) as (λ b. IsAboveAll (stamps (cond b (row ∷ from_it rows) (from_it rows))) n) [
    | true ↦ (all.0, stamps_below n rows all.1)
    | false ↦ stamps_below n rows all.1
  ]

  -- changes that leave it who sent a message
  pub stamps_changed : (g : ℕ → Entry → Entry) (rows : List (ℕ × Entry)) → ((s : ℕ) (e : Entry) → (g s e).message.from ≡ e.message.from) → stamps_from p (changed g rows) ≡ stamps_from p rows
  stamps_changed g [] same = refl
  stamps_changed g (row ∷ rows) same =
      let rest = stamps_changed g rows same in
      let this : ((g row.0 row.1).message.from == p) ≡ (row.1.message.from == p) = ap (λ k. k == p) (same row.0 row.1) in
      ap (λ b. stamps (cond b ((row.0, g row.0 row.1) ∷ from_it (changed g rows)) (from_it (changed g rows)))) this
      ∙ elim (row.1.message.from == p) as (λ b. stamps (cond b ((row.0, g row.0 row.1) ∷ from_it (changed g rows)) (from_it (changed g rows))) ≡ stamps (cond b (row ∷ from_it rows) (from_it rows))) [
        | true ↦ ap (λ (ss : List ℕ). row.0 ∷ ss) rest
        | false ↦ rest
      ]

  stamps_behind : (n : ℕ) (e : Entry) (rows : List (ℕ × Entry)) → stamps_from p (rows ++ (n, e) ∷ []) ≡ (if e.message.from == p then stamps_from p rows ++ n ∷ [] else stamps_from p rows)
  stamps_behind n e [] = elim (e.message.from == p) as (λ b. stamps (cond b ((n, e) ∷ []) []) ≡ (if b then n ∷ [] else [])) [ true ↦ refl | false ↦ refl ]
  stamps_behind n e (row ∷ rows) =
      let rest = stamps_behind n e rows in
      elim (row.1.message.from == p) as (λ b. stamps (cond b (row ∷ from_it (rows ++ (n, e) ∷ [])) (from_it (rows ++ (n, e) ∷ []))) ≡ (if e.message.from == p then stamps (cond b (row ∷ from_it rows) (from_it rows)) ++ n ∷ [] else stamps (cond b (row ∷ from_it rows) (from_it rows)))) [
        | true ↦ ap (λ (ss : List ℕ). row.0 ∷ ss) rest ∙ elim (e.message.from == p) as (λ b. row.0 ∷ (if b then stamps (from_it rows) ++ n ∷ [] else stamps (from_it rows)) ≡ (if b then row.0 ∷ stamps (from_it rows) ++ n ∷ [] else row.0 ∷ stamps (from_it rows))) [ true ↦ refl | false ↦ refl ]
        | false ↦ rest
      ]

  filter_over : (n : ℕ) (ss : List ℕ) → AllByRecursion (λ s. n < s) ss → filter (λ other. not (n == other)) ss ≡ ss
  filter_over n [] all = refl
  filter_over n (s ∷ ss) all = rw (lower_unlike n s all.0) (ap (λ (ss : List ℕ). s ∷ ss) (filter_over n ss all.1))

  stamps_removed : (n : ℕ) (e : Entry) (rows : List (ℕ × Entry)) → IsRising rows → item_at rows n ≡ Some e → stamps_from p (remove_entry (is_number n) rows) ≡ (if e.message.from == p then filter (λ other. not (n == other)) (stamps_from p rows) else stamps_from p rows)
  stamps_removed n e [] rising found = absurd (none-some e found)
  stamps_removed n e (row ∷ rows) rising found =
      elim (is_number n row.0) as (λ b. is_number n row.0 ≡ b → cond b (Some row.1) (item_at rows n) ≡ Some e → stamps_from p (cond b rows (row ∷ remove_entry (is_number n) rows)) ≡ (if e.message.from == p then filter (λ other. not (n == other)) (stamps_from p (row ∷ rows)) else stamps_from p (row ∷ rows))) [
        | true ↦ λ t h.
            let same : n ≡ row.0 = eqb-true n row.0 t in
            let it : row.1.message.from ≡ e.message.from = ap (λ (x : Entry). x.message.from) (same_Some row.1 e h) in
            let over : filter (λ other. not (n == other)) (stamps_from p rows) ≡ stamps_from p rows = filter_over n (stamps_from p rows) (stamps_over n rows (subst (λ (k : ℕ). AllByRecursion (λ other. k < other.0) rows) (sym same) rising.0)) in
            subst (λ (from : ℕ). stamps_from p rows ≡ (if from == p then filter (λ other. not (n == other)) (stamps_from p (row ∷ rows)) else stamps_from p (row ∷ rows))) it
            (elim (row.1.message.from == p) as (λ b. stamps_from p rows ≡ (if b then filter (λ other. not (n == other)) (stamps (cond b (row ∷ from_it rows) (from_it rows))) else stamps (cond b (row ∷ from_it rows) (from_it rows)))) [
              | true ↦ rw t (sym over)
              | false ↦ refl
            ])
        | false ↦ λ u h.
            let rest = stamps_removed n e rows rising.1 h in
            elim (row.1.message.from == p) as (λ b. stamps (cond b (row ∷ from_it (remove_entry (is_number n) rows)) (from_it (remove_entry (is_number n) rows))) ≡ (if e.message.from == p then filter (λ other. not (n == other)) (stamps (cond b (row ∷ from_it rows) (from_it rows))) else stamps (cond b (row ∷ from_it rows) (from_it rows)))) [
              | true ↦ ap (λ (ss : List ℕ). row.0 ∷ ss) rest ∙ rw u (elim (e.message.from == p) as (λ b. row.0 ∷ (if b then filter (λ other. not (n == other)) (stamps (from_it rows)) else stamps (from_it rows)) ≡ (if b then row.0 ∷ filter (λ other. not (n == other)) (stamps (from_it rows)) else row.0 ∷ stamps (from_it rows))) [ true ↦ refl | false ↦ refl ])
              | false ↦ rest
            ]
      ] refl found

  -- those from the space are gone
  pub stamps_gone : (rows : List (ℕ × Entry)) → stamps_from p (kept (is_not_from p) rows) ≡ []
  stamps_gone [] = refl
  stamps_gone (row ∷ rows) =
      elim (row.1.message.from == p) as (λ b. (row.1.message.from == p) ≡ b → stamps_from p (cond (not b) (row ∷ kept (is_not_from p) rows) (kept (is_not_from p) rows)) ≡ []) [
        | true ↦ λ t. stamps_gone rows
        | false ↦ λ u. rw u (stamps_gone rows)
      ] refl

  -- those from another space stay
  pub stamps_left : (q : ℕ) (rows : List (ℕ × Entry)) → (p == q) ≡ false → stamps_from p (kept (is_not_from q) rows) ≡ stamps_from p rows
  stamps_left q [] differs = refl
  stamps_left q (row ∷ rows) differs =
      let rest = stamps_left q rows differs in
      elim (row.1.message.from == q) as (λ b. (row.1.message.from == q) ≡ b → stamps_from p (cond (not b) (row ∷ kept (is_not_from q) rows) (kept (is_not_from q) rows)) ≡ stamps_from p (row ∷ rows)) [
        | true ↦ λ t.
            let off : (row.1.message.from == p) ≡ false = ap (λ k. k == p) (eqb-true row.1.message.from q t) ∙ nat_eq_equiv.symm q p ∙ differs in
            rw off rest
        | false ↦ λ u. elim (row.1.message.from == p) as (λ b. stamps (cond b (row ∷ from_it (kept (is_not_from q) rows)) (from_it (kept (is_not_from q) rows))) ≡ stamps (cond b (row ∷ from_it rows) (from_it rows))) [
          | true ↦ ap (λ (ss : List ℕ). row.0 ∷ ss) rest
          | false ↦ rest
        ]
      ] refl

  -- ---- what stands under the stamps
  without_behind : (row : ℕ × Entry) (ss : List ℕ) (rows : List (ℕ × Entry)) → AllByRecursion (λ s. row.0 < s) ss → without ss (row ∷ rows) ≡ row ∷ without ss rows
  without_behind row [] rows all = refl
  without_behind row (s ∷ ss) rows all = rw (unlike row.0 s all.0) (without_behind row ss (remove_entry (is_number s) rows) all.1)

  pub without_from : (rows : List (ℕ × Entry)) → IsRising rows → without (stamps_from p rows) rows ≡ kept (is_not_from p) rows
  without_from [] rising = refl
  without_from (row ∷ rows) rising =
      let rest = without_from rows rising.1 in
      elim (row.1.message.from == p) as (λ b. without (stamps (cond b (row ∷ from_it rows) (from_it rows))) (row ∷ rows) ≡ cond (not b) (row ∷ kept (is_not_from p) rows) (kept (is_not_from p) rows)) [
        | true ↦ subst (λ b. without (stamps_from p rows) (cond b rows (row ∷ remove_entry (is_number row.0) rows)) ≡ kept (is_not_from p) rows) (sym (nat_eq_equiv.refl row.0)) rest
        | false ↦ without_behind row (stamps_from p rows) rows (stamps_over row.0 rows rising.0) ∙ ap (λ (rs : List (ℕ × Entry)). row ∷ rs) rest
      ]

  messages_behind : (row : ℕ × Entry) (ss : List ℕ) (rows : List (ℕ × Entry)) → AllByRecursion (λ s. row.0 < s) ss → messages_at (row ∷ rows) ss ≡ messages_at rows ss
  messages_behind row [] rows all = refl
  messages_behind row (s ∷ ss) rows all = rw (unlike row.0 s all.0) (ap (with_message (item_at rows s)) (messages_behind row ss rows all.1))

  pub messages_from : (rows : List (ℕ × Entry)) → IsRising rows → messages_at rows (stamps_from p rows) ≡ filter (λ message. message.from == p) (items_of rows)
  messages_from [] rising = refl
  messages_from (row ∷ rows) rising =
      let rest = messages_behind row (stamps_from p rows) rows (stamps_over row.0 rows rising.0) ∙ messages_from rows rising.1 in
      elim (row.1.message.from == p) as (λ b. messages_at (row ∷ rows) (stamps (cond b (row ∷ from_it rows) (from_it rows))) ≡ cond b (row.1.message ∷ filter (λ message. message.from == p) (items_of rows)) (filter (λ message. message.from == p) (items_of rows))) [
        | true ↦ rw (nat_eq_equiv.refl row.0) (ap (λ (ms : List Message). row.1.message ∷ ms) rest)
        | false ↦ rest
      ]

  there_behind : (row : ℕ × Entry) (ss : List ℕ) (rows : List (ℕ × Entry)) → AllByRecursion (λ s. row.0 < s) ss → AreThere rows ss → AreThere (row ∷ rows) ss
  there_behind row [] rows all there = tt
  there_behind row (s ∷ ss) rows all there = (rw (unlike row.0 s all.0) there.0, there_behind row ss rows all.1 there.1)

  pub there_from : (rows : List (ℕ × Entry)) → IsRising rows → AreThere rows (stamps_from p rows)
  there_from [] rising = tt
  there_from (row ∷ rows) rising =
      let rest = there_behind row (stamps_from p rows) rows (stamps_over row.0 rows rising.0) (there_from rows rising.1) in
      elim (row.1.message.from == p) as (λ b. AreThere (row ∷ rows) (stamps (cond b (row ∷ from_it rows) (from_it rows)))) [
        | true ↦ (rw (nat_eq_equiv.refl row.0) refl, rest)
        | false ↦ rest
      ]

pub messages_few : (rows : List (ℕ × Entry)) (ss : List ℕ) → length (messages_at rows ss) ≤ length ss
messages_few rows [] = omega arith
messages_few rows (s ∷ ss) =
    let rest = messages_few rows ss in
    elim (item_at rows s) as (λ o. length (with_message o (messages_at rows ss)) ≤ length (s ∷ ss)) [
      | None ↦ omega (arith, rest)
      | Some e ↦ omega (arith, rest)
    ]

-- ---- the stamps of each space
abbrev pub AreStamps : NumberLists → List (ℕ × Entry) → Type 0
AreStamps froms rows = (peer : ℕ) → numbers_of froms peer ≡ stamps_from peer rows

pub stamps_pushed : (froms new : NumberLists) (rows : List (ℕ × Entry)) (n : ℕ) (e : Entry) → AreStamps froms rows → Puts froms new e.message.from (numbers_of froms e.message.from ++ n ∷ []) → AreStamps new (rows ++ (n, e) ∷ [])
stamps_pushed froms new rows n e are puts p =
    puts p ∙ elim (p == e.message.from) as (λ b. (p == e.message.from) ≡ b → (if b then numbers_of froms e.message.from ++ n ∷ [] else numbers_of froms p) ≡ stamps_from p (rows ++ (n, e) ∷ [])) [
      | true ↦ λ t.
          let same : p ≡ e.message.from = eqb-true p e.message.from t in
          ap (λ (ss : List ℕ). ss ++ n ∷ []) (ap (numbers_of froms) (sym same) ∙ are p) ∙ sym (stamps_behind p n e rows ∙ ap (λ b. if b then stamps_from p rows ++ n ∷ [] else stamps_from p rows) (nat_eq_equiv.symm e.message.from p ∙ t))
      | false ↦ λ u. are p ∙ sym (stamps_behind p n e rows ∙ ap (λ b. if b then stamps_from p rows ++ n ∷ [] else stamps_from p rows) (nat_eq_equiv.symm e.message.from p ∙ u))
    ] refl

pub stamps_taken : (froms new : NumberLists) (rows : List (ℕ × Entry)) (n : ℕ) (e : Entry) → AreStamps froms rows → IsRising rows → item_at rows n ≡ Some e → Puts froms new e.message.from (filter (λ other. not (n == other)) (numbers_of froms e.message.from)) → AreStamps new (remove_entry (is_number n) rows)
stamps_taken froms new rows n e are rising found puts p =
    puts p ∙ elim (p == e.message.from) as (λ b. (p == e.message.from) ≡ b → (if b then filter (λ other. not (n == other)) (numbers_of froms e.message.from) else numbers_of froms p) ≡ stamps_from p (remove_entry (is_number n) rows)) [
      | true ↦ λ t.
          let same : p ≡ e.message.from = eqb-true p e.message.from t in
          ap (filter (λ other. not (n == other))) (ap (numbers_of froms) (sym same) ∙ are p) ∙ sym (stamps_removed p n e rows rising found ∙ ap (λ b. if b then filter (λ other. not (n == other)) (stamps_from p rows) else stamps_from p rows) (nat_eq_equiv.symm e.message.from p ∙ t))
      | false ↦ λ u. are p ∙ sym (stamps_removed p n e rows rising found ∙ ap (λ b. if b then filter (λ other. not (n == other)) (stamps_from p rows) else stamps_from p rows) (nat_eq_equiv.symm e.message.from p ∙ u))
    ] refl

pub stamps_dropped : (froms new : NumberLists) (rows : List (ℕ × Entry)) (q : ℕ) → AreStamps froms rows → Puts froms new q [] → AreStamps new (kept (is_not_from q) rows)
stamps_dropped froms new rows q are puts p =
    puts p ∙ elim (p == q) as (λ b. (p == q) ≡ b → (if b then [] else numbers_of froms p) ≡ stamps_from p (kept (is_not_from q) rows)) [
      | true ↦ λ t. let same : p ≡ q = eqb-true p q t in subst (λ (k : ℕ). [] ≡ stamps_from p (kept (is_not_from k) rows)) same (sym (stamps_gone p rows))
      | false ↦ λ u. are p ∙ sym (stamps_left p q rows u)
    ] refl

-- ---- marks
pub marked_removed : (n : ℕ) (rows : List (ℕ × Entry)) (marked marks : List ℕ) → IsRising rows → AreMarked rows marked → PutsMark marked marks n false → AreMarked (remove_entry (is_number n) rows) marks
marked_removed n rows marked marks rising are puts s x found =
    let had = removed_found n rows rising s x found in
    puts s ∙ ap (λ b. if b then false else is_marked marked s) had.1 ∙ are s x had.0
