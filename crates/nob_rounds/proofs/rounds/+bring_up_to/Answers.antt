use Rattle.std.proofs.Common.{rules, ◌≡◌, ◌-◌, suc}
use Rattle.std.proofs.lemmas.Result.{on_ok_weaker}
use Rattle.nob_rounds.proofs.Turns.{brought_to_one_more}
use Rattle.nob_rounds.proofs.rounds.+bring_up_to.Goals as goal

pub returns-clause-entries : goal.returns-clause-entries
returns-clause-entries t c =
    let counted : c.args.last ≡ suc (c.args.last - 1) = search rules in
    on_ok_weaker c.bring.result (brought_to_one_more (c.args.last - 1) c.args.last c.args.from c.in-Some.to c.args.world.now.entries c.bring_up_to.new.world.entries c.bring.new.world.entries counted (c.in-Some.ensures {u = tt}).value c.in_ok-bring_up_to.ensures.entries) c.bring.ensures.entries
