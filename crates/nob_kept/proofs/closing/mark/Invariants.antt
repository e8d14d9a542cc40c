use Rattle.std.proofs.Common.{◌≡◌, ◌++◌, List, length, take}
use Rattle.nob_kept.specs.Closing as closing
use Rattle.nob_kept.specs.declared.receipt.Receipt.{Receipt as ReceiptOf}
use Rattle.nob_kept.proofs.closing.mark.Given as goal

abbrev pub invariant-loop-receipt : goal.invariant-loop-receipt
invariant-loop-receipt l =
    (length l.marks.items ≡ length l.kept.entries)
    × ((before : List ReceiptOf) → closing.AreMarks l.fn.marks.items l.kept.entries before → closing.AreMarks l.marks.items l.kept.entries (before ++ take l.receipt-index l.receipts))
