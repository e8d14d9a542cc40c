use Rattle.std.proofs.Common.{◌≡◌, ℕ, ◌∷◌, ◌++◌, ◌+◌, [], List, length, sym, ap, subst, ◌∙◌}
use Rattle.nob_ids.specs.declared.wire_rep.WireRep.{WireRep}
use Rattle.nob_item.specs.Kinds.{counted_in}
use Rattle.nob_model_types.specs.Sessions.{number}
use Rattle.nob_model_history.specs.Transit.{count_to, next_sent}
use Rattle.nob_model_history.specs.declared.transit.SentItem.{SentItem}
use Rattle.nob_check_ledgers.specs.Sent.{count_in, with_count, with_all, item_by, name_of, with_standing, Tell}
use Rattle.nob_check_ledgers.specs.declared.sent.Place.{Place}
use Rattle.nob_check_ledgers.specs.declared.standing.ItemName.{ItemName}
use Rattle.nob_check_ledgers.proofs.Sending.{tell_more}
use Rattle.nob_check_ledgers.proofs.sent.SentItems.with_gift.Goals as goal

pub invariant_of-result : goal.invariant_of-result
invariant_of-result c =
    let D = c.args.past.now.deeds in
    let gift = c.args.gift.now in
    let old = c.self.inside in
    let items : List SentItem = old.sent_items.items in
    let count : ℕ = c.in-Some.count in
    let session : c.number-session.result ≡ number gift.to D = c.number-session.ensures in
    let one : count ≡ count_in gift.to (number gift.to D) old.counts + 1 = c.in-Some.ensures.1 ∙ ap (λ (n : ℕ). n + 1) (c.count.ensures ∙ ap (λ (k : ℕ). count_in gift.to k old.counts) session) in
    let is : count ≡ count_to gift.to (number gift.to D) items + 1 = one ∙ ap (λ (n : ℕ). n + 1) (c.self.invariant.counted gift.to (number gift.to D)) in
    let counts : c.in_ok-counts.counts ≡ with_count gift.to (number gift.to D) count old.counts = c.in_ok-counts.ensures ∙ ap (λ (k : ℕ). with_count gift.to k count old.counts) session in
    let place : length c.as_slice-place.result.now ≡ length items = ap (λ (xs : List SentItem). length xs) c.as_slice-place.ensures.value in
    let standings : c.in_ok-standings.standings ≡ with_standing (name_of gift.to (number gift.to D) count) (length items) old.standings = c.in_ok-standings.ensures ∙ (λ i. with_standing (name_of gift.to (session i) count) (place i) old.standings) in
    let item : c.in_ok-item.item ≡ next_sent D items gift = c.in_ok-item.ensures ∙ ap (item_by D gift) is in
    let all : c.push.new.self.items ≡ items ++ next_sent D items gift ∷ [] = c.in_ok-push.ensures.items ∙ ap (λ (x : SentItem). items ++ x ∷ []) item in
    let told = tell_more D old.counts old.carriers old.standings items gift count c.self.invariant one in
    subst (λ (xs : List SentItem). Tell c.in_ok-counts.counts c.in_ok-carriers.carriers c.in_ok-standings.standings xs) (sym all)
    (subst (λ (ys : List (ItemName × ℕ)). Tell c.in_ok-counts.counts c.in_ok-carriers.carriers ys (items ++ next_sent D items gift ∷ [])) (sym standings)
    (subst (λ (rows : List (WireRep × List Place)). Tell c.in_ok-counts.counts rows (with_standing (name_of gift.to (number gift.to D) count) (length items) old.standings) (items ++ next_sent D items gift ∷ [])) (sym c.in_ok-carriers.ensures)
    (subst (λ (sums : List ((ℕ × ℕ) × ℕ)). Tell sums (with_all D gift.to count (counted_in gift.item) old.carriers) (with_standing (name_of gift.to (number gift.to D) count) (length items) old.standings) (items ++ next_sent D items gift ∷ [])) (sym counts) told)))
