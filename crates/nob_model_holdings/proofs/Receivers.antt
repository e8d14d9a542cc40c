-- All that a space sent went to its peers.
use Rattle.std.proofs.Common.{◌≡◌, ℕ, true, List, [], ◌∷◌, ◌++◌, sym, subst}
use Rattle.std.specs.List.{AllByRecursion}
use Rattle.nob_model_types.specs.declared.deed.Deed.{Deed}
use Rattle.nob_model_types.specs.Sessions.{is_peer}
use Rattle.nob_model_work.specs.declared.gifts.Gift.{Gift}
use Rattle.nob_model_work.specs.Work.{work}
use Rattle.nob_model_work.specs.Gifts.{gifts, gifts_of}
use Rattle.nob_model_history.specs.declared.transit.SentItem.{SentItem}
use Rattle.nob_model_history.specs.Histories.{history_of}
use Rattle.nob_model_history.specs.Transit.{next_sent, sent}
use Rattle.nob_model_history.proofs.Sending.{new_items, sent_more}
use Rattle.nob_model_holdings.proofs.Lists.{all_append, all_pass}

new_to_peers : (s n : ℕ) (D : List Deed) (more : List Gift) (before : List SentItem) → AllByRecursion (λ (gift : Gift). is_peer s n gift.to ≡ true) more → AllByRecursion (λ (one : SentItem). is_peer s n one.to ≡ true) (new_items D before more)
new_to_peers s n D [] before all = tt
new_to_peers s n D (gift ∷ more) before all = (all.0, new_to_peers s n D more (before ++ next_sent D before gift ∷ []) all.1)

-- all that was sent went to peers
pub sent_to_peers : (s n : ℕ) (D : List Deed) → AllByRecursion (λ (one : SentItem). is_peer s n one.to ≡ true) (sent (history_of s n D))
unfolding gifts
sent_to_peers s n [] = tt
sent_to_peers s n (deed ∷ D) =
    subst (AllByRecursion (λ (one : SentItem). is_peer s n one.to ≡ true)) (sym (sent_more s n deed D))
    (all_append (λ (one : SentItem). is_peer s n one.to ≡ true) (sent (history_of s n D)) (new_items D (sent (history_of s n D)) (gifts s n deed D (work s n D))) (sent_to_peers s n D)
    (new_to_peers s n D (gifts s n deed D (work s n D)) (sent (history_of s n D)) (all_pass (λ (gift : Gift). is_peer s n gift.to) (gifts_of s n deed D (work s n D)))))
