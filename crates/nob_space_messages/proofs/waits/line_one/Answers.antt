use Rattle.std.proofs.Common.{◌≡◌, ◌+◌, ◌==◌, ◌&&◌, Bool, ap, sym, true, false, rules, refl, ◌∙◌, if◌then◌else◌}
use Rattle.nob_ids.specs.Names.{is_same}
use Rattle.nob_space_messages.specs.Waiting.{is_due, waits_for}
use Rattle.nob_space_messages.specs.Lines.{times_in}
use Rattle.nob_space_messages.proofs.Counting.{same_turned, times_push}
use Rattle.nob_space_messages.proofs.waits.line_one.Goals as goal

and_true : (b : Bool) → b ≡ (b && true)
and_true true = refl
and_true false = refl

pub returns-clause-times : goal.returns-clause-times
returns-clause-times c rep other =
    let due : is_due c.args.copy.now.loan ≡ true = search rules in
    let same : is_same c.args.copy.now.rep rep ≡ waits_for rep c.args.copy.now = same_turned c.args.copy.now.rep rep ∙ and_true (is_same rep c.args.copy.now.rep) ∙ ap (λ b. is_same rep c.args.copy.now.rep && b) (sym due) in
    times_push c.args.lines.now c.push.new.self c.args.copy.now.rep c.args.stamp c.push.ensures.counts c.push.ensures.links rep other
    ∙ ap (λ b. times_in c.args.lines.now rep other + (if c.args.stamp == other then (if b then 1 else 0) else 0)) same
