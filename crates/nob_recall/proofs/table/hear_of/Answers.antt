use Rattle.std.proofs.Common.{◌≡◌, ◌<◌, ◌∷◌, List, length, Some, slice_get, sym, subst, arith}
use Rattle.std.proofs.lemmas.Bool.Decides.{nat_tests}
use lib.ListN.{set}
use Rattle.nob_model_traces.proofs.Entering.{read}
use Rattle.nob_recall.specs.declared.heard.Heard.{Heard}
use Rattle.nob_recall.specs.Tables.{TableStands}
use Rattle.nob_recall.proofs.Hearings.{stands_heard}
use Rattle.nob_recall.proofs.table.hear_of.Goals as goal

pub returns-then-row-len : goal.returns-then-row-len
returns-then-row-len c J about stands =
    let table : List Heard = c.args.table.now.items in
    let row = c.row_of-row.result in
    let old : Heard = c.index.result.now in
    let test = c.if-row-len.true in
    let count = c.len.ensures in
    let less : row < length table = grind (arith, nat_tests, test, count) in
    let there : slice_get table row ≡ Some old = read table row old less c.index.ensures in
    subst (λ (h : Heard). TableStands (set table row h) (c.args.entry.now ∷ J)) (sym c.heard_by.ensures)
    (stands_heard table J c.args.entry.now c.args.from row old c.row_of-row.ensures.from c.row_of-row.ensures.to c.row_of-row.ensures.value there about stands)
