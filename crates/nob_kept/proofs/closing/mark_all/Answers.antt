use Rattle.std.proofs.Common.{◌≡◌, ◌+◌, ◌++◌, ◌∷◌, [], List, take, drop, reverse, append_assoc, refl, sym, ap, subst, ◌∙◌}
use Rattle.std.proofs.lemmas.List.{take_more, take_all}
use Rattle.nob_kept.specs.Closing as closing
use Rattle.nob_kept.specs.declared.receipt.Receipt.{Receipt as ReceiptOf}
use Rattle.nob_kept.proofs.Marks.{receipts_more, seat_among}
use Rattle.nob_kept.proofs.closing.mark_all.Goals as goal

pub loop-seat-preserved : goal.loop-seat-preserved
loop-seat-preserved c =
    let seats = c.args.seats.now in
    let i = c.loop-seat.seat-index in
    let seat = c.seat-item.result in
    let marked = c.if-not-mark.ensures {u = tt} in
    let more : closing.receipts_of (take (i + 1) seats) ≡ closing.receipts_of (take i seats) ++ reverse seat =
    ap closing.receipts_of (take_more seats i seat c.loop-seat-test.true ∙ ap (λ (x : List ReceiptOf). take i seats ++ x ∷ []) (sym c.seat-item.is)) ∙ receipts_more (take i seats) seat in (
      marked.len ∙ c.loop-seat.invariant.0,
      λ before are. subst (closing.AreMarks c.mark.new.marks.items c.args.kept.now.entries)
          (append_assoc before (closing.receipts_of (take i seats)) c.in-Some.receipts.now ∙ ap (λ (rs : List ReceiptOf). before ++ rs) (ap (λ (rs : List ReceiptOf). closing.receipts_of (take i seats) ++ rs) c.in-Some.ensures ∙ sym more))
          (marked.marks (before ++ closing.receipts_of (take i seats)) refl (c.loop-seat.invariant.1 before are)),
    )

pub returns-clause-marks : goal.returns-clause-marks
returns-clause-marks c before are =
    subst (λ (seats : List (List ReceiptOf)). closing.AreMarks c.loop-seat.marks.items c.args.kept.now.entries (before ++ closing.receipts_of seats)) (take_all c.loop-seat.seat-index c.args.seats.now c.loop-seat-test.false) (c.loop-seat.invariant.1 before are)

pub returns-then-not-mark-clause-fault : goal.returns-then-not-mark-clause-fault
returns-then-not-mark-clause-fault c before later is are whole =
    let seats = c.args.seats.now in
    let i = c.loop-seat.seat-index in
    let front : List ReceiptOf = before ++ closing.receipts_of (take i seats) in
    let back : List ReceiptOf = closing.receipts_of (drop (i + 1) seats) ++ later in
    (c.if-not-mark.ensures {u = tt}).fault front back refl (c.loop-seat.invariant.1 before are)
    (subst (closing.AreOf c.args.kept.now.entries) (seat_among before seats later i c.seat-item.result c.loop-seat-test.true c.seat-item.is ∙ ap (λ (rs : List ReceiptOf). front ++ (rs ++ back)) (sym c.in-Some.ensures)) whole)
