use Rattle.std.proofs.Common.{rules, tests}
use Rattle.std.proofs.lemmas.Iterator.{YieldsList-from_slice}
use Rattle.std.proofs.lemmas.Iterator.Consumers.{count_from_yields_List, YieldsList-from_filter}
use Rattle.nob_model_types.specs.declared.entry.Entry.{Entry}
use Rattle.nob_rounds.specs.Notes.{is_of}
use Rattle.nob_rounds.proofs.results.count_of.Goals as goal

pub returns : goal.returns
returns c = count_from_yields_List c.filter.result c.count.result c.count.ensures.ran (YieldsList-from_filter _ (λ (entry : Entry). is_of c.args.kind entry.result) (YieldsList-from_slice c.args.entries.now cc) c.filter.ensures.closure (λ x b q k. search (rules, tests)))
