use Rattle.std.proofs.Common.{◌≡◌, ℕ, ◌≤◌, ◌-◌, sym, subst, arith}
use Rattle.nob_demo.proofs.WrittenDrawings.{few_drawn}
use Rattle.nob_demo.proofs.drawn.page_of.Goals as goal

-- src/drawn.rt:35:15
pub overflow_add-result : goal.overflow_add-result
overflow_add-result c =
    let few : c.count_drawn.result ≤ c.max-first.result - 1 = subst (λ (k : ℕ). k ≤ c.max-first.result - 1) (sym c.count_drawn.ensures) (few_drawn (c.max-first.result - 1) c.args.places.now) in
    omega (arith, few, c.max-first.type_inv)
