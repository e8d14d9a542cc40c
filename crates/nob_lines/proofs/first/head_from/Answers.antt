use Rattle.std.proofs.Common.{Some, sym, ap, ◌∙◌}
use Rattle.nob_trace.proofs.OneTrace.{same_limits}
use Rattle.nob_chain.specs.declared.head.ChainHead.{ChainHead}
use Rattle.nob_chain.proofs.OneLine.{same_head}
use Rattle.nob_lines.proofs.first.head_from.Goals as goal

pub returns-in-Some-new-clause-only : goal.returns-in-Some-new-clause-only
returns-in-Some-new-clause-only c head is space n window retry count =
    let made : ChainHead = record { space = c.in-Some.space; n = c.in-Some-space_of.n; limits = c.in-Some-new.limits; count = c.args.count } in
    let limits = same_limits c.in-Some-new.limits head.limits (c.in-Some-new.ensures.window ∙ sym window) (c.in-Some-new.ensures.retry ∙ sym retry) in
    ap Some (same_head made head (c.in-Some.ensures.value ∙ sym space) (c.in-Some-space_of.ensures.value ∙ sym n) limits (sym count))
