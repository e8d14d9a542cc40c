use Rattle.std.proofs.Common.{ℕ, List, ◌&&◌, sym, ap, subst, ◌∙◌}
use Rattle.nob_model.specs.Next.{reply_ready}
use Rattle.nob_keeper.specs.declared.waking.Wakes.{Wakes}
use Rattle.nob_kept.specs.Accounts.{history_in}
use Rattle.nob_keeper.specs.Desks as desks
use Rattle.nob_keeper.specs.Waking.{AreProspects}
use Rattle.nob_keeper.proofs.Desks.{notice_full, notice_some}
use Rattle.nob_keeper.proofs.held.notice_of.Goals as goal

pub returns-then-is_full : goal.returns-then-is_full
returns-then-is_full c =
    let told = c.notice_to_all.ensures in
    notice_full c.args.kept.now c.args.desk.now c.args.receipt.now c.notice_to_all.result (sym c.is_full.ensures ∙ c.if-is_full.true) told.prospects told.send told.replies

pub returns : goal.returns
returns c =
    let kept = c.args.kept.now in
    let desk = c.args.desk.now in
    let h = history_in kept in
    let is = c.wakes_by-wakes.ensures in
    notice_some kept desk c.args.receipt.now _ (sym c.is_full.ensures ∙ c.if-is_full.false)
    (subst (λ (wakes : Wakes). AreProspects kept wakes c.prospects_of.result) is (record { send = c.prospects_of.ensures.send; care = c.prospects_of.ensures.care; claim = c.prospects_of.ensures.claim }))
    (c.wakes_sender.ensures ∙ ap (λ (wakes : Wakes). wakes.send && desks.is_parked desk) is)
    (subst (λ (wakes : Wakes). desks.AreMarked (λ call. wakes.reply && reply_ready call h) c.replies_of.result desk.waiting.items) is
    (subst (λ (calls : List ℕ). desks.AreMarked (λ call. c.wakes_by-wakes.result.reply && reply_ready call h) c.replies_of.result calls) c.waiting.ensures c.replies_of.ensures))
