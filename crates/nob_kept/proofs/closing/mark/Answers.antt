use Rattle.std.proofs.Common.{◌≡◌, ℕ, ◌+◌, ◌-◌, ◌<◌, false, Bool, ◌++◌, ◌∷◌, [], List, length, take, drop, get_or, append_assoc, true, true≢false, refl, sym, ap, subst, ◌∙◌, arith}
use Rattle.std.proofs.lemmas.List.{take_more, length-set, take_all, get_or_read}
use Rattle.std.proofs.lemmas.Option.{slice_get_within}
use Rattle.nob_kept.specs.Closing as closing
use Rattle.nob_kept.specs.Receipts.{Told, entry_of}
use Rattle.nob_kept.specs.declared.receipt.Receipt.{Receipt as ReceiptOf}
use Rattle.nob_kept.proofs.Marks.{marks_next, among, untold, marked_twice}
use Rattle.nob_kept.proofs.closing.mark.Goals as goal

pub loop-receipt-preserved : goal.loop-receipt-preserved
loop-receipt-preserved c =
    let receipts = c.args.receipts.now in
    let i = c.loop-receipt.receipt-index in
    let receipt = c.receipt-item.result in
    let marks = c.loop-receipt.marks.items in
    let more : take (i + 1) receipts ≡ take i receipts ++ receipt ∷ [] = take_more receipts i receipt c.loop-receipt-test.true ∙ ap (λ (x : ReceiptOf). take i receipts ++ x ∷ []) (sym c.receipt-item.is) in
    let told : Told receipt c.args.kept.now.entries = (c.if-not-is_told.ensures {u = tt}).0 refl in
    let unset : get_or marks (receipt.place - 1) false ≡ false = sym (subst (λ (b : Bool). b ≡ get_or marks (receipt.place - 1) b) c.if-index.false c.index.ensures) in
    let within : receipt.place - 1 < length marks = subst (λ (k : ℕ). receipt.place - 1 < k) (sym c.loop-receipt.invariant.0) (slice_get_within c.args.kept.now.entries (receipt.place - 1) (entry_of receipt) told.1) in (
      length-set marks (receipt.place - 1) _ ∙ c.loop-receipt.invariant.0,
      λ before are. subst (closing.AreMarks _ c.args.kept.now.entries) (append_assoc before (take i receipts) (receipt ∷ []) ∙ ap (λ (rs : List ReceiptOf). before ++ rs) (sym more))
          (marks_next marks c.args.kept.now.entries (before ++ take i receipts) receipt (c.loop-receipt.invariant.1 before are) told within unset),
    )

pub returns-clause-marks : goal.returns-clause-marks
returns-clause-marks c before done are =
    subst (λ (rs : List ReceiptOf). closing.AreMarks c.loop-receipt.marks.items c.args.kept.now.entries (before ++ rs)) (take_all c.loop-receipt.receipt-index c.args.receipts.now c.loop-receipt-test.false) (c.loop-receipt.invariant.1 before are)

pub returns-then-not-is_told-clause-fault : goal.returns-then-not-is_told-clause-fault
returns-then-not-is_told-clause-fault c before later is are whole =
    let receipts = c.args.receipts.now in
    let i = c.loop-receipt.receipt-index in
    untold c.args.kept.now.entries (before ++ take i receipts) (drop (i + 1) receipts ++ later) c.receipt-item.result
    (λ told. true≢false (sym ((c.if-not-is_told.ensures {u = tt}).1 told)))
    (subst (closing.AreOf c.args.kept.now.entries) (among before receipts later i c.receipt-item.result c.loop-receipt-test.true c.receipt-item.is) whole)

pub index-requires : goal.index-requires
index-requires c =
    let within : c.receipt-item.result.place - 1 < length c.args.kept.now.entries = slice_get_within c.args.kept.now.entries (c.receipt-item.result.place - 1) (entry_of c.receipt-item.result) ((c.if-not-is_told.ensures {u = tt}).0 refl).1 in
    omega (arith, within, c.loop-receipt.invariant.0, c.loop-receipt.marks.ok.0)

pub returns-then-index-clause-fault : goal.returns-then-index-clause-fault
returns-then-index-clause-fault c before later is are whole =
    let receipts = c.args.receipts.now in
    let i = c.loop-receipt.receipt-index in
    let receipt = c.receipt-item.result in
    let marks = c.loop-receipt.marks.items in
    let told : Told receipt c.args.kept.now.entries = (c.if-not-is_told.ensures {u = tt}).0 refl in
    let within : receipt.place - 1 < length marks = subst (λ (k : ℕ). receipt.place - 1 < k) (sym c.loop-receipt.invariant.0) (slice_get_within c.args.kept.now.entries (receipt.place - 1) (entry_of receipt) told.1) in
    let set : get_or marks (receipt.place - 1) false ≡ true = sym (get_or_read marks (receipt.place - 1) c.index.result.now within c.index.ensures false) ∙ c.if-index.true in
    marked_twice marks c.args.kept.now.entries (before ++ take i receipts) (drop (i + 1) receipts ++ later) receipt (c.loop-receipt.invariant.1 before are) told c.loop-receipt.invariant.0 within set
    (subst (closing.AreOf c.args.kept.now.entries) (among before receipts later i receipt c.loop-receipt-test.true c.receipt-item.is) whole)

pub index_mut-requires : goal.index_mut-requires
index_mut-requires c =
    let within : c.receipt-item.result.place - 1 < length c.args.kept.now.entries = slice_get_within c.args.kept.now.entries (c.receipt-item.result.place - 1) (entry_of c.receipt-item.result) ((c.if-not-is_told.ensures {u = tt}).0 refl).1 in
    omega (arith, within, c.loop-receipt.invariant.0, c.loop-receipt.marks.ok.0)
