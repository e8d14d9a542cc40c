use Rattle.std.proofs.Common.{sym, ◌∙◌}
use Rattle.std.proofs.lemmas.Option.{none-some}
use Rattle.nob_space_items.proofs.Lends.{one_lendable, lends_one}
use Rattle.nob_space_items.proofs.loans.lend.Goals as goal

pub unreachable-requires : goal.unreachable-requires
unreachable-requires c = none-some _ (sym (one_lendable c.args.table.now c.args.rep c.requires) ∙ (c.in-Err.ensures {u = tt}).answer)

pub returns : goal.returns
returns c = lends_one c.args.table.now c.hold.new.self c.args.rep (c.in-Ok.ensures {u = tt}).answer (c.in-Ok.ensures {u = tt}).held c.hold.ensures.left
