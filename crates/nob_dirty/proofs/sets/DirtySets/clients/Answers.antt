use Rattle.std.proofs.Common.{◌==◌}
use Rattle.std.proofs.lemmas.List.Sorted.{Contains-permutation, IsPermutation-sym, IsNonDecreasingBy-from_sort}
use Rattle.std.proofs.lemmas.Map.Keys.{IsDistinct-IsPermutation, IsStrictlyIncreasing-from_distinct}
use Rattle.std.proofs.lemmas.Cmp.{nat_eq_equiv}
use Rattle.nob_dirty.proofs.Listed.{clients_there, clients_distinct}
use Rattle.nob_dirty.proofs.sets.DirtySets.clients.Goals as goal

pub returns-clause-clients : goal.returns-clause-clients
returns-clause-clients c client =
    let moved = c.sort_unstable.ensures.permutation in
    let found = clients_there c.args.index c.self.inside.rows.items _ (rw c.deref.ensures.value at c.in_ok-found.ensures) client in (
      λ there. rw (← c.self.view_is) (found.0 (Contains-permutation _ _ client (IsPermutation-sym _ _ moved) there)),
      λ listed. Contains-permutation _ _ client moved (found.1 (rw (← c.self.view_is) at listed)),
    )

pub returns-clause-rising : goal.returns-clause-rising
returns-clause-rising c =
    let is = rw c.deref.ensures.value at c.in_ok-found.ensures in
    let distinct = clients_distinct c.args.index c.self.inside.rows.items c.self.invariant in
    IsStrictlyIncreasing-from_distinct _ (IsNonDecreasingBy-from_sort (λ n. n) _ c.sort_unstable.ensures.sorted)
    (IsDistinct-IsPermutation (λ c d. c == d) nat_eq_equiv.symm _ _ c.sort_unstable.ensures.permutation (rw is distinct))
