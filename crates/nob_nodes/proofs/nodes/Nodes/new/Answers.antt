use Rattle.std.proofs.Common.{rules, arith, ◌≡◌, ◌+◌, List, [], ◌∷◌, ◌++◌, length, sym, subst}
use Rattle.nob_node.specs.Config.{Config}
use Rattle.nob_nodes.specs.Layouts.{IsLaidOut}
use Rattle.nob_nodes.proofs.Laid.{laid_out_next}
use Rattle.nob_nodes.proofs.nodes.Nodes.new.Goals as goal

-- the node of the next space runs as the layout says, as those before it do
pub loop-before-preserved : goal.loop-before-preserved
loop-before-preserved c =
    let items : c.push.new.self.items ≡ c.loop-before.launches.items ++ c.new-in-loop-before.result ∷ [] = search rules in
    let number : c.in_ok-space.space ≡ 1 + length c.loop-before.launches.items = omega (arith, c.in_ok-space.ensures.value, c.loop-before.invariant.0) in
    let one : IsLaidOut c.args.layout c.in_ok-space.space c.args.count c.new-in-loop-before.result.config = subst (λ (config : Config). IsLaidOut c.args.layout c.in_ok-space.space c.args.count config) (sym c.new-in-loop-before.ensures) c.in_ok-config.ensures in
    (search rules, laid_out_next c.args.layout 1 c.args.count c.in_ok-space.space c.loop-before.launches.items c.push.new.self.items c.new-in-loop-before.result c.loop-before.invariant.1 number one items)
