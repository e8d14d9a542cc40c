use Rattle.std.proofs.Common.{◌≡◌, ℕ, length, replicate, ap, ◌∙◌, arith}
use Rattle.std.specs.Vec.{vec_len}
use Rattle.nob_recall.specs.Dues.{no_head}
use Rattle.nob_watch.specs.Reruns.{Following}
use Rattle.nob_watch.proofs.Watches.{watching_none}
use Rattle.nob_watch.proofs.watch.Watch.new.Goals as goal

pub invariant_of-result : goal.invariant_of-result
invariant_of-result c =
    let begun = c.in_ok-new.ensures in
    let own = c.args.limits.ok.0 in
    let long : vec_len c.args.limits ≡ length c.args.limits.items = omega (arith, own) in
    watching_none c.in_ok-new.field-0 (length c.args.limits.items) c.in_ok-heads.heads (ap (λ (f : Following). f.passed) begun) (ap (λ (f : Following). f.n) begun) c.requires.some
    (c.in_ok-heads.ensures ∙ ap (λ (m : ℕ). replicate m no_head) (c.len.ensures ∙ long))
