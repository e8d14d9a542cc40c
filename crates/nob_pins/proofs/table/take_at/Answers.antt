use Rattle.std.proofs.Common.{◌≡◌, List, Some, None, slice_get, length, refl, sym, ap, subst, ◌∙◌, arith}
use lib.ListN.{set}
use Rattle.std.proofs.lemmas.Option.{slice_get_read, slice_get_past}
use Rattle.nob_pins.specs.Bundles.{Pinned, has_bundle}
use Rattle.nob_pins.specs.Peers.{all_pinned, has_item, pinned_at, AreOfPeer, AreByPeer}
use Rattle.nob_pins.proofs.Rows.{has_at, pinned_there, pinned_past, same_at, taken_at, by_peer_set, of_peer_taken, rooms_set, get_set_same, in_both, either}
use Rattle.nob_pins.proofs.table.take_at.Goals as goal

pub returns-then-at-len-clause-taken : goal.returns-then-at-len-clause-taken
returns-then-at-len-clause-taken c =
    let none : slice_get c.args.peers.now.items c.args.peer ≡ None = slice_get_past c.args.peers.now.items c.args.peer (omega (arith, c.if-at-len.true, c.len.ensures, c.number_of-at.ensures.value)) in
    (has_at c.args.peers.now.items c.requires c.args.peer c.args.item ∙ ap (has_item c.args.item) (pinned_past c.args.peers.now.items c.args.peer none), refl)

got : (c : goal.After-peers-1) → slice_get c.args.peers.now.items c.number_of-at.result ≡ Some c.index_mut.result.now
got c = slice_get_read c.args.peers.now.items (length c.args.peers.now.items) c.number_of-at.result c.index_mut.result.now refl (omega (arith, c.if-at-len.false, c.len.ensures)) c.index_mut.ensures.value

-- all that is left at the peer is the peer's
left : (c : goal.After-peers-1) → AreOfPeer c.number_of-at.result c.take.new.self.pinned
left c =
    let at = c.number_of-at.result in
    let row = c.index_mut.result.now in
    let are = c.requires at row (got c) in
    either c.take.result _ _ c.take.ensures.taken (AreOfPeer at c.take.new.self.pinned)
    (λ none. subst (λ (bs : List Pinned). AreOfPeer at bs) (sym none.1) are)
    (λ bundle some. (of_peer_taken at bundle row.pinned c.take.new.self.pinned are some.1).1)

peers : (c : goal.After-peers-1) → AreByPeer (set c.args.peers.now.items c.number_of-at.result c.take.new.self)
peers c = by_peer_set c.args.peers.now.items c.number_of-at.result c.index_mut.result.now c.take.new.self c.requires (got c) (left c)

pub returns-clause-taken : goal.returns-clause-taken
returns-clause-taken c =
    let at = c.number_of-at.result in
    let rows = c.args.peers.now.items in
    let row = c.index_mut.result.now in
    let new = c.take.new.self in
    let before : has_bundle (all_pinned rows) c.args.peer c.args.item ≡ has_item c.args.item row.pinned =
    has_at rows c.requires c.args.peer c.args.item ∙ ap (λ k. has_item c.args.item (pinned_at rows k)) (sym c.number_of-at.ensures.value) ∙ ap (has_item c.args.item) (pinned_there rows at row (got c)) in
    let after : has_bundle (all_pinned (set rows at new)) c.args.peer c.args.item ≡ has_item c.args.item new.pinned =
    has_at (set rows at new) (peers c) c.args.peer c.args.item ∙ ap (λ k. has_item c.args.item (pinned_at (set rows at new) k)) (sym c.number_of-at.ensures.value) ∙ ap (has_item c.args.item) (pinned_there (set rows at new) at new (get_set_same rows at row new (got c))) in
    in_both c.take.result _ _ _ _ c.take.ensures.taken
    (λ none. (before ∙ none.0, same_at rows at row new (got c) none.1))
    (λ bundle some. ((of_peer_taken at bundle row.pinned new.pinned (c.requires at row (got c)) some.1).0 ∙ c.number_of-at.ensures.value, some.0, taken_at rows at row new bundle (got c) some.1, after ∙ some.2))

pub returns-clause-peers : goal.returns-clause-peers
returns-clause-peers c = peers c

pub returns-clause-kept : goal.returns-clause-kept
returns-clause-kept c = rooms_set c.args.peers.now.items c.number_of-at.result c.index_mut.result.now c.take.new.self (got c) c.take.ensures.kept
