-- Each step keeps the rule of a lane.
use Rattle.std.proofs.Common.{◌≡◌, ◌≢◌, ℕ, ◌+◌, ◌-◌, ◌<◌, ◌≤◌, zero, suc, List, [], ◌∷◌, ◌++◌, length, set, sym, refl, ap, ◌∙◌, subst, ⊎_elim, length-append, arith}
use mathlib.Core.Option.{some, some-injective, some-ne-none}
use lib.ListN.{get_elem?}
use Rattle.crossbeam_channel.specs.Fifo.{Pushes, Pops, Forks, Merges, Learns}
use Rattle.atomic_table.proofs.Lists.{at_set, at_snoc}
use Rattle.nob_dispatch_lanes.specs.declared.rule.Knowledge.{Knowledge}
use Rattle.nob_dispatch_lanes.specs.Balance.{knowing, all_parts, weigh, count, total, IdleIsEmpty, IsBalanced}

pub weigh_append : {X : Type 0} (h : X → ℕ) (xs ys : List X) → weigh h (xs ++ ys) ≡ weigh h xs + weigh h ys
weigh_append h [] ys = omega arith
weigh_append h (x ∷ xs) ys = omega (arith, weigh_append h xs ys)

-- a total after a change of one view
total_set : {X : Type 0} (f : Knowledge X → ℕ) (views : List (Knowledge X)) (end : ℕ) (v w : Knowledge X) → get_elem? views end ≡ some v → total f (set views end w) + f v ≡ total f views + f w
total_set f [] end v w e = absurd (some-ne-none v (sym e))
total_set f (x ∷ xs) zero v w e = omega (arith, ap f (some-injective x v e))
total_set f (x ∷ xs) (suc end) v w e = omega (arith, total_set f xs end v w e)

-- a total with one view more
total_snoc : {X : Type 0} (f : Knowledge X → ℕ) (views : List (Knowledge X)) (w : Knowledge X) → total f (views ++ w ∷ []) ≡ total f views + f w
total_snoc f [] w = omega arith
total_snoc f (x ∷ xs) w = omega (arith, total_snoc f xs w)

-- one view has no more than all have
at_most : {X : Type 0} (f : Knowledge X → ℕ) (views : List (Knowledge X)) (end : ℕ) (v : Knowledge X) → get_elem? views end ≡ some v → f v ≤ total f views
at_most f [] end v e = absurd (some-ne-none v (sym e))
at_most f (x ∷ xs) zero v e = omega (arith, ap f (some-injective x v e))
at_most f (x ∷ xs) (suc end) v e = omega (arith, at_most f xs end v e)

-- where no view has a part, none has anything
none_has : {X : Type 0} (f : Knowledge X → ℕ) (views : List (Knowledge X)) → total (λ u. u.parts) views ≡ 0 → ((end : ℕ) (u : Knowledge X) → get_elem? views end ≡ some u → u.parts ≡ 0 → f u ≡ 0) → total f views ≡ 0
none_has f [] none zeros = refl
none_has f (x ∷ xs) none zeros =
    let here : f x ≡ 0 = zeros zero x refl (omega (arith, none)) in
    let rest : total f xs ≡ 0 = none_has f xs (omega (arith, none)) (λ end u e. zeros (suc end) u e) in omega (arith, here, rest)

-- where one view has every part, it has all
one_has : {X : Type 0} (f : Knowledge X → ℕ) (views : List (Knowledge X)) (end : ℕ) (v : Knowledge X) → get_elem? views end ≡ some v → total (λ u. u.parts) views ≡ v.parts → ((end : ℕ) (u : Knowledge X) → get_elem? views end ≡ some u → u.parts ≡ 0 → f u ≡ 0) → total f views ≡ f v
one_has f [] end v e whole zeros = absurd (some-ne-none v (sym e))
one_has f (x ∷ xs) zero v e whole zeros =
    let is : x ≡ v = some-injective x v e in
    let rest : total f xs ≡ 0 = none_has f xs (omega (arith, whole, ap (λ (u : Knowledge _). u.parts) is)) (λ end u e. zeros (suc end) u e) in omega (arith, rest, ap f is)
one_has f (x ∷ xs) (suc end) v e whole zeros =
    let most = at_most (λ u. u.parts) xs end v e in
    let here : f x ≡ 0 = zeros zero x refl (omega (arith, whole, most)) in
    let rest : total f xs ≡ f v = one_has f xs end v e (omega (arith, whole, most)) (λ end u e. zeros (suc end) u e) in omega (arith, here, rest)

-- ends without a part have nothing, after a change of one view
idle_set : {X : Type 0} (views : List (Knowledge X)) (end : ℕ) (w : Knowledge X) → (w.parts ≡ 0 → (w.given ≡ []) × (w.got ≡ [])) → IdleIsEmpty views → IdleIsEmpty (set views end w)
idle_set views end w mine idle j u e none =
    ⊎_elim (λ (x : (j ≡ end) × (w ≡ u)). subst (λ (y : Knowledge _). (y.given ≡ []) × (y.got ≡ [])) x.1 (mine (ap (λ (y : Knowledge _). y.parts) x.1 ∙ none)))
    (λ (x : (j ≢ end) × (get_elem? views j ≡ some u)). idle j u x.1 none) (at_set views end j w u e)

module _ {X : Type 0} where
  -- a giving keeps the rule where the lane holds fewer than 1,024 errands
  pub gives : (n end : ℕ) (v : Knowledge X) (x : X) → n ≤ 1024 → 0 < v.parts → Pushes IsBalanced n end v x (λ w. w ≡ knowing v.parts (v.given ++ x ∷ []) v.got)
  gives n end v x most some_part queued views room b at =
      let w : Knowledge X = knowing v.parts (v.given ++ x ∷ []) v.got in (
        w,
        record {
          whole = (let s = total_set (λ u. u.parts) views end v w at in omega (arith, s, b.whole));
          weighs = λ h.
              let s = total_set (λ u. weigh h u.given) views end v w at in let t = total_set (λ u. weigh h u.got) views end v w at in
              omega (arith, s, t, b.weighs h, weigh_append h v.given (x ∷ []), weigh_append h queued (x ∷ []));
          idle = idle_set views end w (λ none. absurd (omega arith)) b.idle;
          few = omega (arith, room, length-append queued (x ∷ []));
        },
        refl,
      )

  -- a getting keeps the rule
  pub gets : (end : ℕ) (v : Knowledge X) → 0 < v.parts → Pops IsBalanced end v (λ x w. w ≡ knowing v.parts v.given (v.got ++ x ∷ []))
  gets end v some_part x queued views b at =
      let w : Knowledge X = knowing v.parts v.given (v.got ++ x ∷ []) in (
        w,
        record {
          whole = (let s = total_set (λ u. u.parts) views end v w at in omega (arith, s, b.whole));
          weighs = λ h.
              let s = total_set (λ u. weigh h u.given) views end v w at in let t = total_set (λ u. weigh h u.got) views end v w at in
              omega (arith, s, t, b.weighs h, weigh_append h v.got (x ∷ []));
          idle = idle_set views end w (λ none. absurd (omega arith)) b.idle;
          few = omega (arith, b.few);
        },
        refl,
      )

  -- a view with more than one part may be cut
  pub forks : (end : ℕ) (v : Knowledge X) → 1 < v.parts → Forks IsBalanced end v (knowing (v.parts - 1) v.given v.got) (knowing 1 [] [])
  forks end v some_parts queued views b at =
      let l : Knowledge X = knowing (v.parts - 1) v.given v.got in let r : Knowledge X = knowing 1 [] [] in let vs : List (Knowledge X) = set views end l in
      record {
        whole = (let s = total_set (λ u. u.parts) views end v l at in omega (arith, s, b.whole, total_snoc (λ u. u.parts) vs r));
        weighs = λ h.
            let s = total_set (λ u. weigh h u.given) views end v l at in let t = total_set (λ u. weigh h u.got) views end v l at in
            omega (arith, s, t, b.weighs h, total_snoc (λ u. weigh h u.given) vs r, total_snoc (λ u. weigh h u.got) vs r);
        idle = λ j u e none.
            ⊎_elim (λ (x : get_elem? vs j ≡ some u). idle_set views end l (λ no. absurd (omega arith)) b.idle j u x none)
            (λ (x : r ≡ u). absurd (let one : 1 ≡ u.parts = ap (λ (y : Knowledge X). y.parts) x in omega arith)) (at_snoc vs r u j e);
        few = b.few;
      }

  -- two views may be put together
  pub merges : (end : ℕ) (v : Knowledge X) (other : ℕ) (u : Knowledge X) → 0 < v.parts → Merges IsBalanced end v other u (knowing (v.parts + u.parts) (v.given ++ u.given) (v.got ++ u.got)) (knowing 0 [] [])
  merges end v other u some_part queued views b at two at' =
      let both : Knowledge X = knowing (v.parts + u.parts) (v.given ++ u.given) (v.got ++ u.got) in let spent : Knowledge X = knowing 0 [] [] in let vs : List (Knowledge X) = set views end both in
      record {
        whole = (let s = total_set (λ y. y.parts) views end v both at in let t = total_set (λ y. y.parts) vs other u spent at' in omega (arith, s, t, b.whole));
        weighs = λ h.
            let s = total_set (λ y. weigh h y.given) views end v both at in let s' = total_set (λ y. weigh h y.given) vs other u spent at' in
            let t = total_set (λ y. weigh h y.got) views end v both at in let t' = total_set (λ y. weigh h y.got) vs other u spent at' in
            omega (arith, s, s', t, t', b.weighs h, weigh_append h v.given u.given, weigh_append h v.got u.got);
        idle = idle_set vs other spent (λ none. (refl, refl)) (idle_set views end both (λ none. absurd (omega arith)) b.idle);
        few = b.few;
      }

  -- the view with every part knows what is left
  pub learns : (end : ℕ) (v : Knowledge X) → v.parts ≡ all_parts → Learns IsBalanced end v (λ queued. ((h : X → ℕ) → weigh h v.given ≡ weigh h v.got + weigh h queued) × (length queued ≤ 1024))
  learns end v every queued views b at =
      let whole : total (λ u. u.parts) views ≡ v.parts = b.whole ∙ sym every in (
        (λ h.
            let s = one_has (λ u. weigh h u.given) views end v at whole (λ j u e none. ap (weigh h) (b.idle j u e none).0) in
            let t = one_has (λ u. weigh h u.got) views end v at whole (λ j u e none. ap (weigh h) (b.idle j u e none).1) in omega (arith, s, t, b.weighs h)),
        b.few,
      )

  -- a getting by the view with every part: fewer were got than given
  pub gets_rest : (end : ℕ) (v : Knowledge X) → v.parts ≡ all_parts → Pops IsBalanced end v (λ x w. (w ≡ knowing v.parts v.given (v.got ++ x ∷ [])) × (count v.got < count v.given))
  gets_rest end v every x queued views b at =
      let step = gets end v (omega (arith, every)) x queued views b at in
      let left = (learns end v every (x ∷ queued) views b at).0 (λ n. 1) in (step.0, step.1, (step.2, omega (arith, left)))

-- a new lane is balanced
pub begins : {X : Type 0} → IsBalanced {X = X} [] (knowing all_parts [] [] ∷ [])
begins = record {
  whole = omega arith;
  weighs = λ h. refl;
  idle = λ end u e none. idle_one end u e none;
  few = omega arith;
}
  where
    idle_one : {X : Type 0} → IdleIsEmpty {X = X} (knowing all_parts [] [] ∷ [])
    idle_one zero u e none = absurd (let every : all_parts ≡ u.parts = ap (λ (y : Knowledge _). y.parts) (some-injective (knowing all_parts [] []) u e) in omega arith)
    idle_one (suc end) u e none = absurd (some-ne-none u (sym e))

-- errands are as many as the list has
pub count_is_length : {X : Type 0} (xs : List X) → count xs ≡ length xs
count_is_length [] = refl
count_is_length (x ∷ xs) = omega (arith, count_is_length xs)

-- no errands weigh nothing
pub weigh_none : {X : Type 0} (h : X → ℕ) (xs : List X) → length xs ≡ 0 → weigh h xs ≡ 0
weigh_none h [] none = refl
weigh_none h (x ∷ xs) none = absurd (omega (arith, none))
