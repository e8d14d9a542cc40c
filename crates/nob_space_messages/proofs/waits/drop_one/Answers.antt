use Rattle.std.proofs.Common.{ap, sym, ◌∙◌}
use Rattle.nob_space_messages.specs.Lines.{items_of}
use Rattle.nob_space_messages.proofs.Carried.{none_removed, removed_carried, same_carried, some}
use Rattle.nob_queues.specs.Queues.{KeepsBut, marked_at, rows_at}
use Rattle.nob_space_messages.proofs.waits.drop_one.Goals as goal

pub returns-in_default-clause-carried : goal.returns-in_default-clause-carried
returns-in_default-clause-carried c =
    let rows = (rows_at c.args.queues.now 0) in
    same_carried c.args.counts.now (items_of rows) _ c.requires.carried (ap items_of (c.take.ensures.rows ∙ none_removed c.args.stamp rows (sym c.take.ensures.item ∙ c.in_default.is)))

pub uncount_all-requires : goal.uncount_all-requires
uncount_all-requires c = record {
  some = some c.args.counts.now c.as_slice.result.now (rows_at c.args.queues.now 0) c.args.stamp c.in-Some.entry c.requires.carried (sym c.take.ensures.item ∙ c.in-Some.is) c.as_slice.ensures;
}

pub returns-clause-carried : goal.returns-clause-carried
returns-clause-carried c =
    removed_carried c.args.counts.now c.as_slice.result.now (rows_at c.args.queues.now 0) c.args.stamp c.in-Some.entry c.requires.carried (sym c.take.ensures.item ∙ c.in-Some.is) c.as_slice.ensures c.uncount_all.new.counts (rows_at c.take.new.self 0) c.uncount_all.ensures c.take.ensures.rows
