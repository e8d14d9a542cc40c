-- Why a value has no spelling: the first reason in writing order.
use Rattle.std.specs.Prelude.{◌≡◌, ℕ, ◌-◌, ◌==◌, List, length, nat_lt, Result, Ok, Err, if◌then◌else◌}
use Rattle.nob_pickle.specs.Trees.{Tree, unit, int, bytes, list, ref, Trees, none, more, count}
use Rattle.nob_pickle.specs.Shape.{tree}
use Rattle.nob_pickle.specs.Spelling.{spelling}
use Rattle.nob_pickle.specs.Limits.{most_levels, most_bytes, most_elements, most_references, most_in_all}
use Rattle.nob_pickle.specs.declared.value.Value.{Value}
use Rattle.nob_pickle.specs.declared.fault.PickleFault.{PickleFault}
use Rattle.nob_pickle.specs.declared.fault.PickleFault.TheVariants as faults
use Rattle.nob_pickle.specs.declared.fault.PickleError.{PickleError}
use Rattle.nob_pickle.specs.declared.fault.PickleError.TheVariants as errors

-- a step after one that did not fail
infixl 10 ◌>>=◌
abbrev pub ◌>>=◌ : {A B : Type 0} → Result A PickleFault → (A → Result B PickleFault) → Result B PickleFault
(Ok x) >>= f = f x
(Err e) >>= f = Err e

-- this error is the one that was to come, unless memory ran out
abbrev pub Fails : {Y : Type 0} → PickleError → Result Y PickleFault → Type 0
Fails errors.OutOfMemory wanted = Unit {0}
Fails (errors.Fault fault) wanted = wanted ≡ Err fault

-- what was answered, seen by view, is what was to come, unless memory ran out
abbrev pub Gives : {X Y : Type 0} → (X → Y) → Result X PickleError → Result Y PickleFault → Type 0
Gives view (Ok x) wanted = wanted ≡ Ok (view x)
Gives view (Err e) wanted = Fails e wanted

-- one level down, where there is one
abbrev pub within : {A : Type 0} → ℕ → Result A PickleFault → Result A PickleFault
within levels inner = if levels == 0 then Err faults.Depth else inner

abbrev mutual
  -- a tree that is written with so many levels and references left: how many references are left after it, or the first reason against it
  pub references_left : Tree → ℕ → ℕ → Result ℕ PickleFault
  references_left unit levels left = within levels (Ok left)
  references_left (int n) levels left = within levels (Ok left)
  references_left (bytes bs) levels left = within levels (if nat_lt most_bytes (length bs) then Err faults.Bytes else Ok left)
  references_left (list ts) levels left = within levels (if nat_lt most_elements (count ts) then Err faults.Count else left_after_all ts (levels - 1) left)
  references_left (ref r) levels left = within levels (if left == 0 then Err faults.TooBig else Ok (left - 1))

  -- the same of trees one after another
  pub left_after_all : Trees → ℕ → ℕ → Result ℕ PickleFault
  left_after_all none levels left = Ok left
  left_after_all (more t ts) levels left = references_left t levels left >>= left_after_all ts levels

-- the same of a list whose elements have so many levels
abbrev pub list_left : Trees → ℕ → ℕ → Result ℕ PickleFault
list_left ts levels left = if nat_lt most_elements (count ts) then Err faults.Count else left_after_all ts levels left

-- the pickle of a value: none of more than 16,000 bytes; else the first reason in writing order, with 16 levels and 32 references
unfoldable pub pickle_of : Value → Result (List ℕ) PickleFault
pickle_of value =
    if nat_lt most_in_all (length (spelling value)) then Err faults.TooBig
    else (references_left (tree value) most_levels most_references >>= λ left. Ok (spelling value))
