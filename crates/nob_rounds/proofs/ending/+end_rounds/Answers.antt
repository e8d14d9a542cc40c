use Rattle.std.proofs.Common.{rules, ◌≡◌, ◌-◌, suc}
use Rattle.nob_rounds.proofs.Ends.{was_quiet, went_on}
use Rattle.nob_rounds.proofs.ending.+end_rounds.Goals as goal

pub returns-then-news_of-before-clause-entries : goal.returns-then-news_of-before-clause-entries
returns-then-news_of-before-clause-entries t c =
    let counted : c.args.most ≡ suc (c.args.most - 1) = search rules in
    was_quiet (c.args.most - 1) c.args.most c.args.world.now.n c.news_of-before.result c.news_of.result c.args.world.now.entries c.end_round.new.world.entries counted c.news_of-before.ensures c.news_of.ensures c.if-news_of-before.true c.in_ok-end_round.ensures.entries

pub returns-clause-entries : goal.returns-clause-entries
returns-clause-entries t c =
    let counted : c.args.most ≡ suc (c.args.most - 1) = search rules in
    went_on c.end_rounds.result (c.args.most - 1) c.args.most c.args.world.now.n c.end_round.new.world.n c.news_of-before.result c.news_of.result c.args.world.now.entries c.end_round.new.world.entries c.end_rounds.new.world.entries counted c.news_of-before.ensures c.news_of.ensures c.if-news_of-before.false c.end_round.ensures.n c.in_ok-end_round.ensures.entries c.end_rounds.ensures.entries
