-- Whom an entry wakes, and what there is behind it, whatever entries stay.
use Rattle.std.proofs.Common.{◌≡◌, ℕ, Bool, true, false, ◌||◌, ◌&&◌, List, replicate, if◌then◌else◌, sym, ap, subst, ◌∙◌}
use Rattle.nob_model.specs.Next.{reply_ready}
use Rattle.nob_keeper.specs.declared.desk.Desk.{Desk}
use Rattle.nob_keeper.specs.declared.held.Notice.{Notice}
use Rattle.nob_kept.specs.declared.receipt.Receipt.{Receipt}
use Rattle.nob_keeper.specs.declared.waking.Prospects.{Prospects}
use Rattle.nob_keeper.specs.declared.waking.Wakes.{Wakes}
use Rattle.nob_kept.specs.Accounts.{Account, history_in, is_full, with_noted}
use Rattle.nob_keeper.specs.Desks.{AreMarked, IsNotice, is_parked}
use Rattle.nob_keeper.specs.Waking.{AreProspects, AreProspectsBehind, all_wakes, wakes_by}
use Rattle.nob_keeper.proofs.Marked.{all_marked}

-- what there is behind an entry doesn't depend on which entries stay
pub prospects_noted : (noted : List ℕ) (account : Account) (receipt : Receipt) (prospects : Prospects) → AreProspectsBehind (with_noted noted account) receipt prospects → AreProspectsBehind account receipt prospects
prospects_noted noted account receipt prospects are = record { send = are.send; care = are.care; claim = are.claim }

-- where the account is full all are woken
pub notice_full : (account : Account) (desk : Desk) (receipt : Receipt) (notice : Notice) → is_full account ≡ true
    → AreProspects account (all_wakes true) notice.prospects → notice.send ≡ true → notice.replies ≡ replicate 32 true
    → IsNotice account desk receipt notice
notice_full account desk receipt notice full prospects send replies =
    let wakes = wakes_by receipt.event receipt.result in
    record {
      prospects = subst (λ (w : Wakes). AreProspects account w notice.prospects) (sym (ap (λ (b : Bool). if b then all_wakes true else wakes) full)) prospects;
      send = send ∙ sym (ap (λ (b : Bool). b || (wakes.send && is_parked desk)) full);
      replies = subst (λ (places : List Bool). AreMarked (λ call. is_full account || (wakes.reply && reply_ready call (history_in account))) places desk.waiting.items) (sym replies) (all_marked _ desk.waiting.items);
    }

-- and else who waits for what the entry may have made possible and is there
pub notice_some : (account : Account) (desk : Desk) (receipt : Receipt) (notice : Notice) → is_full account ≡ false
    → AreProspects account (wakes_by receipt.event receipt.result) notice.prospects
    → notice.send ≡ ((wakes_by receipt.event receipt.result).send && is_parked desk)
    → AreMarked (λ call. (wakes_by receipt.event receipt.result).reply && reply_ready call (history_in account)) notice.replies desk.waiting.items
    → IsNotice account desk receipt notice
notice_some account desk receipt notice short prospects send replies =
    let wakes = wakes_by receipt.event receipt.result in
    record {
      prospects = subst (λ (w : Wakes). AreProspects account w notice.prospects) (sym (ap (λ (b : Bool). if b then all_wakes true else wakes) short)) prospects;
      send = send ∙ sym (ap (λ (b : Bool). b || (wakes.send && is_parked desk)) short);
      replies = subst (λ (b : Bool). AreMarked (λ call. b || (wakes.reply && reply_ready call (history_in account))) notice.replies desk.waiting.items) (sym short) replies;
    }
