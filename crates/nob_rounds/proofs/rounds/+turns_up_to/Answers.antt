use Rattle.std.proofs.Common.{rules, ◌≡◌, ◌-◌, suc}
use Rattle.std.proofs.lemmas.Result.{on_ok_weaker}
use Rattle.nob_rounds.proofs.Turns.{one_more_took_turn}
use Rattle.nob_rounds.proofs.rounds.+turns_up_to.Goals as goal

pub returns-clause-entries : goal.returns-clause-entries
returns-clause-entries t c =
    let counted : c.args.last ≡ suc (c.args.last - 1) = search rules in
    on_ok_weaker c.take_turn.result (one_more_took_turn c.args.world.now.n c.turns_up_to.new.world.n (c.args.last - 1) c.args.last c.in-Some.space c.args.world.now.entries c.turns_up_to.new.world.entries c.take_turn.new.world.entries counted (c.in-Some.ensures {u = tt}).value c.turns_up_to.ensures.n c.in_ok-turns_up_to.ensures.entries) c.take_turn.ensures.entries
