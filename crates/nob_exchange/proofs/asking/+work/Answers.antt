use Rattle.std.proofs.Common.{rules, ◌≡◌, ◌-◌, suc, sym, ◌∙◌}
use Rattle.std.proofs.lemmas.Result.{on_ok_weaker}
use Rattle.nob_exchange.specs.Exchanges.{cleaned}
use Rattle.nob_exchange.proofs.Pasts.{worked_idle, worked_on}
use Rattle.nob_exchange.proofs.asking.+work.Goals as goal

pub returns-then-not-branch-clause-has : goal.returns-then-not-branch-clause-has
returns-then-not-branch-clause-has t c past has =
    let counted : c.args.most ≡ suc (c.args.most - 1) = search rules in
    worked_idle (c.args.most - 1) c.args.most c.args.peer c.work_once.new.space past counted (sym (c.in_ok-work_once.ensures.busy past has) ∙ c.if-not-branch.true) (c.in_ok-work_once.ensures.has past has)

pub returns-clause-has : goal.returns-clause-has
returns-clause-has t c =
    let counted : c.args.most ≡ suc (c.args.most - 1) = search rules in
    on_ok_weaker c.work.result (λ rest past has. worked_on (c.args.most - 1) c.args.most c.args.peer c.work.new.space past counted (sym (c.in_ok-work_once.ensures.busy past has) ∙ c.if-not-branch.false) (rest (cleaned c.args.peer past) (c.in_ok-work_once.ensures.has past has))) c.work.ensures.has
