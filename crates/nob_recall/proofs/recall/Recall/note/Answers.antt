use Rattle.std.proofs.Common.{◌-◌, ◌<◌, ◌≤◌, ◌∷◌, List, length, sym, subst, refl, arith}
use Rattle.std.proofs.lemmas.Bool.Decides.{nat_tests}
use Rattle.nob_frame.specs.declared.frame.Frame.{Frame}
use Rattle.nob_recall.specs.declared.heard.Heard.{Heard}
use Rattle.nob_recall.specs.Remembering.{is_past_in}
use Rattle.nob_recall.specs.Tables.{TableStands}
use Rattle.nob_recall.specs.Recalls.{Recalls}
use Rattle.nob_recall.proofs.Recalling.{recalls_more, turned_now, still_now}
use Rattle.nob_recall.proofs.recall.Recall.note.Goals as goal

pub returns-then-self-saturating_sub-clause-recalls : goal.returns-then-self-saturating_sub-clause-recalls
returns-then-self-saturating_sub-clause-recalls c J are recalls =
    let its = c.self.inside in
    let all : List Frame = c.put_frames.new.frames.items in
    let entry = c.args.entry.now in
    let own = subst (Recalls J) (sym c.self.view_is) recalls in
    let heard : TableStands c.hear.new.table.items (entry ∷ J) = c.hear.ensures J own.table in
    let read = subst (λ (t : List Heard). TableStands t (entry ∷ J)) (sym c.as_slice.ensures.value) heard in
    let test = c.if-self-saturating_sub.true in
    let left = c.saturating_sub.ensures in
    let count = c.len.ensures in
    let low : its.span ≤ length all - its.kept = grind (arith, nat_tests, test, left, count) in
    recalls_more J entry c.args.frames.items _ _ are own
    (turned_now (is_past_in (entry ∷ J)) its.span its.kept c.turn-self-inside.result c.args.frames.items its.older.items its.newer.items all c.turn-self-inside.new.older.items c.turn-self-inside.new.newer.items
    c.put_frames.ensures low c.turn-self-inside.ensures.older (c.turn-self-inside.ensures.newer (entry ∷ J) read) c.turn-self-inside.ensures.kept)
    heard refl

pub returns-else-self-saturating_sub-clause-recalls : goal.returns-else-self-saturating_sub-clause-recalls
returns-else-self-saturating_sub-clause-recalls c J are recalls =
    let its = c.self.inside in
    let all : List Frame = c.put_frames.new.frames.items in
    let entry = c.args.entry.now in
    let own = subst (Recalls J) (sym c.self.view_is) recalls in
    let heard : TableStands c.hear.new.table.items (entry ∷ J) = c.hear.ensures J own.table in
    let test = c.if-self-saturating_sub.false in
    let left = c.saturating_sub.ensures in
    let count = c.len.ensures in
    let low : length all - its.kept < its.span = grind (arith, nat_tests, test, left, count) in
    recalls_more J entry c.args.frames.items _ _ are own
    (still_now (is_past_in (entry ∷ J)) its.span its.kept c.args.frames.items its.older.items its.newer.items all c.put_frames.ensures low)
    heard refl
