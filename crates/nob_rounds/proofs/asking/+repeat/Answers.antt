use Rattle.std.proofs.Common.{rules, ◌≡◌, ◌-◌, suc, subst}
use Rattle.nob_model_types.specs.declared.event.Event.{Event}
use Rattle.nob_rounds.specs.Rounds.{Asked}
use Rattle.nob_rounds.proofs.Repeats.{stopped, gone_on_ok}
use Rattle.nob_rounds.proofs.asking.+repeat.Goals as goal

pub returns-then-not-branch-clause-entries : goal.returns-then-not-branch-clause-entries
returns-then-not-branch-clause-entries t c =
    let counted : c.args.most ≡ suc (c.args.most - 1) = search rules in
    let asked : Asked c.args.space c.args.event.now c.in_ok-ask.field-0 c.args.world.now.entries c.ask.new.world.entries = subst (λ (e : Event). Asked c.args.space e c.in_ok-ask.field-0 c.args.world.now.entries c.ask.new.world.entries) c.in_ok-copy.ensures c.in_ok-ask.ensures.entry in
    stopped (c.args.most - 1) c.args.most c.args.space c.args.event.now c.in_ok-ask.field-0 c.args.world.now.entries c.ask.new.world.entries counted c.if-not-branch.true asked

pub returns-clause-entries : goal.returns-clause-entries
returns-clause-entries t c =
    let counted : c.args.most ≡ suc (c.args.most - 1) = search rules in
    let asked : Asked c.args.space c.args.event.now c.in_ok-ask.field-0 c.args.world.now.entries c.ask.new.world.entries = subst (λ (e : Event). Asked c.args.space e c.in_ok-ask.field-0 c.args.world.now.entries c.ask.new.world.entries) c.in_ok-copy.ensures c.in_ok-ask.ensures.entry in
    gone_on_ok c.repeat.result (c.args.most - 1) c.args.most c.args.space c.args.event.now c.in_ok-ask.field-0 c.args.world.now.entries c.ask.new.world.entries c.repeat.new.world.entries counted c.if-not-branch.false asked c.repeat.ensures.entries
