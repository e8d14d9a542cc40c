-- The jobs that run, the newest first, by the rows in which they stand.
use Rattle.std.proofs.Common.{Bor, option_copied, ◌≡◌, ℕ, suc, ◌+◌, ◌<◌, ◌==◌, Bool, true, false, not, cond, List, [], ◌∷◌, ◌++◌, length, filter, find, Option, Some, None, MatchOption, refl, sym, ap, subst, ◌∙◌, arith, if◌then◌else◌, eqb-true, true≢false}
use Rattle.std.specs.Option.{option_map, option_to_list}
use Rattle.std.proofs.lemmas.Bool.Decides.{nat_tests}
use Rattle.std.specs.List.{AllByRecursion}
use Rattle.std.specs.Map.{remove_entry}
use Rattle.nob_model_types.specs.declared.message.Message.{Message}
use Rattle.nob_model_work.specs.declared.work.Run.{Run}
use Rattle.nob_model_work.specs.Work.{is_run}
use Rattle.nob_slots.specs.Slots as slots
use Rattle.nob_slots.specs.Slots.{IsRising, is_number, item_at}
use Rattle.nob_space_messages.specs.Jobs.{IsAbove}
use Rattle.nob_space_messages.specs.declared.entry.Entry.{Entry}
use Rattle.nob_space_messages.specs.Rows.{newest_first, run_of}

-- one more in front
pub one_newer : (rows : List (ℕ × Entry)) (row : ℕ × Entry) → newest_first (rows ++ row ∷ []) ≡ run_of row ∷ newest_first rows
one_newer [] row = refl
one_newer (first ∷ rows) row = ap (λ (runs : List Run). runs ++ run_of first ∷ []) (one_newer rows row)

length_last : (runs : List Run) (run : Run) → length (runs ++ run ∷ []) ≡ suc (length runs)
length_last [] run = refl
length_last (first ∷ runs) run = ap suc (length_last runs run)

pub as_many : (rows : List (ℕ × Entry)) → length (newest_first rows) ≡ length rows
as_many [] = refl
as_many (row ∷ rows) = length_last (newest_first rows) (run_of row) ∙ ap suc (as_many rows)

all_front : (P : Run → Type 0) (runs : List Run) (run : Run) → AllByRecursion P (runs ++ run ∷ []) → AllByRecursion P runs × P run
all_front P [] run all = (tt, all.0)
all_front P (first ∷ runs) run all = let rest = all_front P runs run all.1 in ((all.0, rest.0), rest.1)

-- above all jobs is above all rows
pub above_rows : (number : ℕ) (rows : List (ℕ × Entry)) → IsAbove (newest_first rows) number → slots.IsAbove rows number
above_rows number [] above = tt
above_rows number (row ∷ rows) above =
    let parts = all_front (λ run. run.job < number) (newest_first rows) (run_of row) above in
    (parts.1, above_rows number rows parts.0)

no_cons : (run : Run) (runs : List Run) → run ∷ runs ≡ [] → ⊥
no_cons run runs e = true≢false (ap (λ (xs : List Run). elim xs as (λ _. Bool) [ [] ↦ false | x ∷ rest ↦ true ]) e)

head_is : (run : Run) (runs : List Run) (found : Option Run) → run ∷ runs ≡ option_to_list found → Some run ≡ found
head_is run runs None e = absurd (no_cons run runs e)
head_is run runs (Some other) e = ap (λ (xs : List Run). elim xs as (λ _. Option Run) [ [] ↦ None | x ∷ rest ↦ Some x ]) e

module _ (job : ℕ) where
  filter_last : (test : Run → Bool) (runs : List Run) (run : Run) → filter test (runs ++ run ∷ []) ≡ filter test runs ++ (if test run then run ∷ [] else [])
  filter_last test [] run = elim (test run) as (λ b. cond b (run ∷ []) [] ≡ (if b then run ∷ [] else [])) [ true ↦ refl | false ↦ refl ]
  filter_last test (first ∷ runs) run = elim (test first) as (λ b. cond b (first ∷ filter test (runs ++ run ∷ [])) (filter test (runs ++ run ∷ [])) ≡ cond b (first ∷ filter test runs) (filter test runs) ++ (if test run then run ∷ [] else [])) [
    | true ↦ ap (λ (rest : List Run). first ∷ rest) (filter_last test runs run)
    | false ↦ filter_last test runs run
  ]

  -- none of the jobs has the number, where all rows are above it
  none_is : (rows : List (ℕ × Entry)) → AllByRecursion (λ (row : ℕ × Entry). job < row.0) rows → filter (is_run job) (newest_first rows) ≡ []
  none_is [] above = refl
  none_is (row ∷ rows) above =
      let other : is_run job (run_of row) ≡ false = grind (arith, nat_tests, above.0) in
      filter_last (is_run job) (newest_first rows) (run_of row) ∙ rw other (ap (λ (runs : List Run). runs ++ []) (none_is rows above.1))

  append_none : (runs : List Run) → runs ++ [] ≡ runs
  append_none [] = refl
  append_none (first ∷ runs) = ap (λ (rest : List Run). first ∷ rest) (append_none runs)

  -- where none passes a test, all are left
  pub all_left : (runs : List Run) → filter (is_run job) runs ≡ [] → filter (λ run. not (is_run job run)) runs ≡ runs
  all_left [] none = refl
  all_left (run ∷ runs) none = elim (is_run job run) as (λ b. cond b (run ∷ filter (is_run job) runs) (filter (is_run job) runs) ≡ [] → cond (not b) (run ∷ filter (λ r. not (is_run job r)) runs) (filter (λ r. not (is_run job r)) runs) ≡ run ∷ runs) [
    | true ↦ λ e. absurd (no_cons run (filter (is_run job) runs) e)
    | false ↦ λ e. ap (λ (rest : List Run). run ∷ rest) (all_left runs e)
  ] none

  -- the job of the number, with a message that stands under it
  abbrev pub as_run : Entry → Run
  as_run entry = record { job = job; message = entry.message }

  -- the job of the number among some rows
  abbrev pub run_at : List (ℕ × Entry) → Option Run
  run_at rows = option_map as_run (item_at rows job)

  -- the rows with a number are one at most
  pub alone : (rows : List (ℕ × Entry)) → IsRising rows → filter (is_run job) (newest_first rows) ≡ option_to_list (run_at rows)
  alone [] rising = refl
  alone (row ∷ rows) rising =
      filter_last (is_run job) (newest_first rows) (run_of row)
      ∙ elim (job == row.0) as (λ b. (job == row.0) ≡ b → filter (is_run job) (newest_first rows) ++ (if is_run job (run_of row) then run_of row ∷ [] else []) ≡ option_to_list (option_map as_run (cond b (Some row.1) (item_at rows job)))) [
        | true ↦ λ t.
            let is : is_run job (run_of row) ≡ true = grind (arith, nat_tests, t) in
            let same : job ≡ row.0 = eqb-true job row.0 t in
            let above : AllByRecursion (λ (other : ℕ × Entry). job < other.0) rows = subst (λ (n : ℕ). AllByRecursion (λ (other : ℕ × Entry). n < other.0) rows) (sym (eqb-true job row.0 t)) rising.0 in
            rw (is, none_is rows above) (ap (λ (n : ℕ). record { job = n; message = row.1.message } ∷ []) (sym same))
        | false ↦ λ f.
            let other : is_run job (run_of row) ≡ false = grind (arith, nat_tests, f) in
            rw other (append_none (filter (is_run job) (newest_first rows)) ∙ alone rows rising.1)
      ] refl

  -- the row of a number taken out
  pub taken : (rows : List (ℕ × Entry)) → IsRising rows → newest_first (remove_entry (is_number job) rows) ≡ filter (λ run. not (is_run job run)) (newest_first rows)
  taken [] rising = refl
  taken (row ∷ rows) rising =
      elim (job == row.0) as (λ b. (job == row.0) ≡ b → newest_first (cond b rows (row ∷ remove_entry (is_number job) rows)) ≡ filter (λ run. not (is_run job run)) (newest_first rows) ++ (if not (is_run job (run_of row)) then run_of row ∷ [] else [])) [
        | true ↦ λ t.
            let is : is_run job (run_of row) ≡ true = grind (arith, nat_tests, t) in
            let above : AllByRecursion (λ (other : ℕ × Entry). job < other.0) rows = subst (λ (n : ℕ). AllByRecursion (λ (other : ℕ × Entry). n < other.0) rows) (sym (eqb-true job row.0 t)) rising.0 in
            rw is (sym (append_none (filter (λ run. not (is_run job run)) (newest_first rows)) ∙ all_left (newest_first rows) (none_is rows above)))
        | false ↦ λ f.
            let other : is_run job (run_of row) ≡ false = grind (arith, nat_tests, f) in
            rw other (ap (λ (runs : List Run). runs ++ run_of row ∷ []) (taken rows rising.1))
      ] refl
      ∙ sym (filter_last (λ run. not (is_run job run)) (newest_first rows) (run_of row))

  -- what is found is the first that passes
  pub first_of : (runs : List Run) (found : Option Run) → filter (is_run job) runs ≡ option_to_list found → find (is_run job) runs ≡ found
  first_of [] None e = refl
  first_of [] (Some run) e = absurd (no_cons run [] (sym e))
  first_of (run ∷ runs) found e = elim (is_run job run) as (λ b. cond b (run ∷ filter (is_run job) runs) (filter (is_run job) runs) ≡ option_to_list found → cond b (Some run) (find (is_run job) runs) ≡ found) [
    | true ↦ λ e. head_is run (filter (is_run job) runs) found e
    | false ↦ λ e. first_of runs found e
  ] e

  -- as a clause says it
  pub by_cases : (runs : List Run) (found : Option Run) → filter (is_run job) runs ≡ option_to_list found → MatchOption found (filter (is_run job) runs ≡ []) (λ run. filter (is_run job) runs ≡ run ∷ [])
  by_cases runs None e = e
  by_cases runs (Some run) e = e

  -- the same of a message that is lent
  pub lent_cases : (runs : List Run) (found : Option (Bor Message)) → filter (is_run job) runs ≡ option_to_list (option_map (λ (message : Bor Message). record { job = job; message = message.now }) found) → MatchOption found (filter (is_run job) runs ≡ []) (λ message. filter (is_run job) runs ≡ record { job = job; message = message.now } ∷ [])
  lent_cases runs None e = e
  lent_cases runs (Some message) e = e
