use Rattle.std.proofs.Common.{sym, ◌∙◌}
use Rattle.std.specs.Fmt.{decimal}
use Rattle.test_worlds.proofs.Bringing.{bringing_mark, bringing_from, bringing_to, tail_same}
use Rattle.test_worlds.proofs.script.bringing_of.Goals as goal

pub returns-in_default-clause-none : goal.returns-in_default-clause-none
returns-in_default-clause-none c = λ none from to is. let there = sym c.in_default.is ∙ c.mark_of.ensures ∙ bringing_mark c.args.line.now from to is in absurd cc

pub returns-in_default-behind_mark-clause-none : goal.returns-in_default-behind_mark-clause-none
returns-in_default-behind_mark-clause-none c =
    λ none from to is.
    let at = sym c.mark_of.ensures ∙ c.in-Some.is in
    let back = c.split_at.ensures.back ∙ bringing_to c.args.line.now from to c.in-Some.mark is at in
    c.in_default-behind_mark.ensures (decimal to) back

pub returns-in_default-2-clause-none : goal.returns-in_default-2-clause-none
returns-in_default-2-clause-none c =
    λ none from to is.
    let at = sym c.mark_of.ensures ∙ c.in-Some.is in
    let front = c.split_at.ensures.front ∙ bringing_from c.args.line.now from to c.in-Some.mark is at in
    let read = (c.in_ok-from.ensures {u = tt}).only from is.0 front in
    let gone = sym c.in_default-2.is ∙ read in
    absurd cc

pub returns-in_default-3-clause-none : goal.returns-in_default-3-clause-none
returns-in_default-3-clause-none c =
    λ none from to is.
    let at = sym c.mark_of.ensures ∙ c.in-Some.is in
    let back = c.split_at.ensures.back ∙ bringing_to c.args.line.now from to c.in-Some.mark is at in
    let behind = tail_same 62 c.in-Some-behind_mark.to.now (decimal to) (sym (c.in-Some-behind_mark.ensures {u = tt}) ∙ back) in
    let read = (c.in_ok-to.ensures {u = tt}).only to is.1 behind in
    let gone = sym c.in_default-3.is ∙ read in
    absurd cc
