use Rattle.std.proofs.Common.{◌≡◌, ℕ, IfSome, map, length, subst, arith}
use Rattle.nob_nodes.specs.Layouts.{AreLaidOut}
use Rattle.nob_nodes.specs.declared.layout.Layout.{Layout}
use Rattle.nob_nodes.proofs.running.run_nodes.Goals as goal

-- there are as many spaces as players
pub returns-clause-each : goal.returns-clause-each
returns-clause-each g c =
    let same : c.in-Ok.count ≡ length c.args.players.items = omega (arith, c.in-Ok.ensures, c.len.ensures) in
    let counted = subst (λ (count : ℕ). IfSome c.played_from.result (λ all. AreLaidOut c.layout-layout.result 1 count (map (λ played. played.config) all.items))) same c.played_from.ensures.each in
    subst (λ (layout : Layout). IfSome c.played_from.result (λ all. AreLaidOut layout 1 (length c.args.players.items) (map (λ played. played.config) all.items))) c.layout-layout.ensures counted
