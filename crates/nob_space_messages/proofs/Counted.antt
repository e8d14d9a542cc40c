-- How many jobs of a target run.
use Rattle.std.proofs.Common.{◌≡◌, ℕ, zero, suc, ◌+◌, ◌<◌, ◌≤◌, ◌==◌, Bool, true, false, not, ◌||◌, List, [], ◌∷◌, cond, filter, length, refl, sym, ap, ◌∙◌, arith, if◌then◌else◌}
use Rattle.std.proofs.lemmas.Bool.{ne_eqb}
use Rattle.std.proofs.lemmas.Cmp.{nat_eq_equiv}
use Rattle.nob_model_work.specs.declared.work.Run.{Run}
use Rattle.nob_model_acting.specs.Candidates.{target_of}
use Rattle.nob_space_messages.specs.Jobs.{is_running}
use Rattle.nob_space_messages.specs.Rows.{runs_with}
use Rattle.nob_space_messages.specs.Lanes.{is_target}

-- a target runs if its jobs that run aren't 0
pub running_runs : (runs : List Run) (t : ℕ) → is_running runs t ≡ not (runs_with runs t == 0)
running_runs [] t = refl
running_runs (run ∷ runs) t =
    elim (target_of run.message.item == t) as (λ b. (b || is_running runs t) ≡ not ((if b then 1 + runs_with runs t else runs_with runs t) == 0)) [
      | true ↦
          let more : (1 + runs_with runs t == 0) ≡ false = ne_eqb (1 + runs_with runs t) 0 (λ z. omega (arith, z)) in sym (ap not more)
      | false ↦ running_runs runs t
    ]

-- as many as there are at most
pub runs_few : (runs : List Run) (t : ℕ) → runs_with runs t ≤ length runs
runs_few [] t = omega arith
runs_few (run ∷ runs) t =
    let rest : runs_with runs t ≤ length runs = runs_few runs t in
    elim (target_of run.message.item == t) as (λ b. (if b then 1 + runs_with runs t else runs_with runs t) ≤ suc (length runs)) [ true ↦ omega (arith, rest) | false ↦ omega (arith, rest) ]

-- those that pass a test and the others
parted : (test : Run → Bool) (runs : List Run) (t : ℕ) → runs_with runs t ≡ runs_with (filter test runs) t + runs_with (filter (λ run. not (test run)) runs) t
parted test [] t = refl
parted test (run ∷ runs) t =
    let rest = parted test runs t in
    elim (test run) as (λ b. (if target_of run.message.item == t then 1 + runs_with runs t else runs_with runs t) ≡ runs_with (cond b (run ∷ filter test runs) (filter test runs)) t + runs_with (cond (not b) (run ∷ filter (λ r. not (test r)) runs) (filter (λ r. not (test r)) runs)) t) [
      | true ↦ elim (target_of run.message.item == t) as (λ b. (if b then 1 + runs_with runs t else runs_with runs t) ≡ (if b then 1 + runs_with (filter test runs) t else runs_with (filter test runs) t) + runs_with (filter (λ r. not (test r)) runs) t) [ true ↦ omega (arith, rest) | false ↦ rest ]
      | false ↦ elim (target_of run.message.item == t) as (λ b. (if b then 1 + runs_with runs t else runs_with runs t) ≡ runs_with (filter test runs) t + (if b then 1 + runs_with (filter (λ r. not (test r)) runs) t else runs_with (filter (λ r. not (test r)) runs) t)) [ true ↦ omega (arith, rest) | false ↦ rest ]
    ]

-- one alone passes a test, and is taken out
pub runs_parted : (test : Run → Bool) (runs : List Run) (run : Run) → filter test runs ≡ run ∷ [] → (t : ℕ)
    → runs_with runs t ≡ (if is_target (target_of run.message.item) t then 1 + runs_with (filter (λ r. not (test r)) runs) t else runs_with (filter (λ r. not (test r)) runs) t)
runs_parted test runs run alone t =
    parted test runs t ∙ rw alone (elim (target_of run.message.item == t) as (λ b. (if b then 1 else 0) + runs_with (filter (λ r. not (test r)) runs) t ≡ (if b then 1 + runs_with (filter (λ r. not (test r)) runs) t else runs_with (filter (λ r. not (test r)) runs) t)) [ true ↦ refl | false ↦ omega arith ])

-- its target has one at least
pub runs_some : (test : Run → Bool) (runs : List Run) (run : Run) → filter test runs ≡ run ∷ [] → 0 < runs_with runs (target_of run.message.item)
runs_some test runs run alone =
    let one : runs_with runs (target_of run.message.item) ≡ 1 + runs_with (filter (λ r. not (test r)) runs) (target_of run.message.item) = runs_parted test runs run alone (target_of run.message.item) ∙ rw (nat_eq_equiv.refl (target_of run.message.item)) refl in
    omega (arith, one)

-- what is one more in both is the same in both
pub counted_less : (b : Bool) (k n : ℕ) → (if b then 1 + k else k) ≡ (if b then 1 + n else n) → k ≡ n
counted_less true k n e = omega (arith, e)
counted_less false k n e = e
