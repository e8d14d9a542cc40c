use Rattle.std.proofs.Common.{◌≡◌, ℕ, subst}
use Rattle.std.proofs.lemmas.Result.{on_ok_weaker}
use Rattle.nob_rounds.specs.Rounds.{BroughtUpTo}
use Rattle.nob_rounds.proofs.rounds.take_turn.Goals as goal

pub returns-clause-entries : goal.returns-clause-entries
returns-clause-entries c =
    let brought = subst (λ (k : ℕ). BroughtUpTo c.args.space k c.args.world.now.entries c.bring_up_to.new.world.entries) c.spaces_in-count.ensures.count c.in_ok-bring_up_to.ensures.entries in
    on_ok_weaker c.repeat-2.result (λ cleans. record { sent = c.bring_up_to.new.world.entries; brought = brought; settled = c.repeat.new.world.entries; settles = c.in_ok-repeat.ensures.entries; cleans = cleans }) c.repeat-2.ensures.entries
