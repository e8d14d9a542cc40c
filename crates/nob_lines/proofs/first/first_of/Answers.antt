use Rattle.nob_lines.proofs.Firsts.{only_trace}
use Rattle.nob_lines.proofs.first.first_of.Goals as goal

pub returns-clause-only : goal.returns-clause-only
returns-clause-only c =
    only_trace c.args.line.now c.version_in.result c.trace_first.result (c.begins_as_chain.ensures.no c.if-begins_as_chain.false) (c.version_in.ensures.one, c.version_in.ensures.two) c.trace_first.ensures.only
