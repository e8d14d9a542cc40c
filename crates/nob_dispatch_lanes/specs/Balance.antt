-- The rule of a lane: each errand that was given was got or is queued, as often as it was given. Many give, and many get.
use Rattle.std.specs.Prelude.{◌≡◌, ℕ, ◌+◌, ◌^◌, ◌≤◌, List, [], ◌∷◌, length, nat_eq, if◌then◌else◌}
use mathlib.Core.Option.{some}
use lib.ListN.{get_elem?}
use Rattle.nob_dispatch_lanes.specs.declared.rule.Knowledge.{Knowledge}

-- so many parts there are of the right to know the whole
abbrev pub all_parts : ℕ
all_parts = 2 ^ 127

module _ {X : Type 0} where
  -- what an end knows: how many parts it has of the right to know the whole, the errands that it gave, and those that it got
  abbrev pub knowing : ℕ → List X → List X → Knowledge X
  knowing parts given got = record { parts = parts; given = given; got = got }

  -- the weights of errands, added up: lists that weigh the same, however errands are weighed, have each as often
  abbrev pub weigh : (X → ℕ) → List X → ℕ
  weigh weight [] = 0
  weigh weight (errand ∷ errands) = weight errand + weigh weight errands

  -- how many there are
  abbrev pub count : List X → ℕ
  count errands = weigh (λ errand. 1) errands

  -- what each end has of something, added up
  abbrev pub total : (Knowledge X → ℕ) → List (Knowledge X) → ℕ
  total amount [] = 0
  total amount (view ∷ views) = amount view + total amount views

  -- an end without a part has given and got nothing
  abbrev pub IdleIsEmpty : List (Knowledge X) → Type 0
  IdleIsEmpty views = (end : ℕ) (view : Knowledge X) → get_elem? views end ≡ some view → view.parts ≡ 0 → (view.given ≡ []) × (view.got ≡ [])

  -- these errands are queued, at most 1,024; however errands are weighed, what was given weighs what was got and what is queued
  pub record IsBalanced (queued : List X) (views : List (Knowledge X)) : Type 0 where
    pub whole : total (λ view. view.parts) views ≡ all_parts
    pub weighs : (weight : X → ℕ) → total (λ view. weigh weight view.given) views ≡ total (λ view. weigh weight view.got) views + weigh weight queued
    pub idle : IdleIsEmpty views
    pub few : length queued ≤ 1024

-- how often a number stands in a list
abbrev pub times : ℕ → List ℕ → ℕ
times number numbers = weigh (λ other. if nat_eq other number then 1 else 0) numbers
