use Rattle.std.proofs.Common.{◌≡◌, ◌∷◌, ◌++◌, [], List, Some, None, slice_get, length, refl, sym, ap, subst, ◌∙◌, arith}
use lib.ListN.{set}
use Rattle.std.proofs.lemmas.List.Elements.{All-nil}
use Rattle.std.proofs.lemmas.List.Sorted.{IsPermutation-refl, IsPermutation-sym, IsPermutation-to_front}
use Rattle.std.proofs.lemmas.Option.{slice_get_read, slice_get_past}
use Rattle.std.specs.List.Sorted.{IsPermutation}
use Rattle.nob_pins.specs.Bundles.{Pinned, of_peer, of_others}
use Rattle.nob_pins.specs.Peers.{all_pinned, pinned_at, AreOfPeer}
use Rattle.nob_pins.proofs.Rows.{of_peer_at, pinned_there, pinned_past, same_at, taken_at, others_at, by_peer_set, of_peer_taken, rooms_set, in_both, either}
use Rattle.nob_pins.proofs.table.pop_at.Goals as goal

pub returns-then-at-len-clause-popped : goal.returns-then-at-len-clause-popped
returns-then-at-len-clause-popped c =
    let none : slice_get c.args.peers.now.items c.args.peer ≡ None = slice_get_past c.args.peers.now.items c.args.peer (omega (arith, c.if-at-len.true, c.len.ensures, c.number_of-at.ensures.value)) in
    (of_peer_at c.args.peers.now.items c.requires c.args.peer ∙ pinned_past c.args.peers.now.items c.args.peer none, refl)

got : (c : goal.After-peers-1) → slice_get c.args.peers.now.items c.number_of-at.result ≡ Some c.index_mut.result.now
got c = slice_get_read c.args.peers.now.items (length c.args.peers.now.items) c.number_of-at.result c.index_mut.result.now refl (omega (arith, c.if-at-len.false, c.len.ensures)) c.index_mut.ensures.value

-- the last of the peer's bundles, and those before it
out : (old new : List Pinned) (b : Pinned) → old ≡ new ++ b ∷ [] → IsPermutation (b ∷ new) old
out old new b is = subst (λ (bs : List Pinned). IsPermutation (b ∷ new) bs) (sym is) (IsPermutation-sym _ _ (IsPermutation-to_front new b))

-- all that is left at the peer is the peer's
left : (c : goal.After-peers-1) → AreOfPeer c.number_of-at.result c.pop.new.self.pinned
left c =
    let at = c.number_of-at.result in
    let row = c.index_mut.result.now in
    either c.pop.result _ _ c.pop.ensures.pops (AreOfPeer at c.pop.new.self.pinned)
    (λ none. subst (λ (bs : List Pinned). AreOfPeer at bs) (sym none.1) (All-nil (λ (b : Pinned). b.peer ≡ at)))
    (λ bundle is. (of_peer_taken at bundle row.pinned c.pop.new.self.pinned (c.requires at row (got c)) (out row.pinned c.pop.new.self.pinned bundle is)).1)

pub returns-clause-popped : goal.returns-clause-popped
returns-clause-popped c =
    let at = c.number_of-at.result in
    let rows = c.args.peers.now.items in
    let row = c.index_mut.result.now in
    let new = c.pop.new.self in
    let there : of_peer c.args.peer (all_pinned rows) ≡ row.pinned =
    of_peer_at rows c.requires c.args.peer ∙ ap (pinned_at rows) (sym c.number_of-at.ensures.value) ∙ pinned_there rows at row (got c) in
    in_both c.pop.result _ _ _ _ c.pop.ensures.pops
    (λ none. (there ∙ none.0, same_at rows at row new (got c) (none.1 ∙ sym none.0)))
    (λ bundle is.
    let adds = out row.pinned new.pinned bundle is in
    ((of_peer_taken at bundle row.pinned new.pinned (c.requires at row (got c)) adds).0 ∙ c.number_of-at.ensures.value, taken_at rows at row new bundle (got c) adds))

pub returns-clause-others : goal.returns-clause-others
returns-clause-others c =
    let at = c.number_of-at.result in
    let rows = c.args.peers.now.items in
    let same : of_others at (all_pinned rows) ≡ of_others at (all_pinned (set rows at c.pop.new.self)) =
    others_at rows c.requires at c.index_mut.result.now c.pop.new.self (got c) (left c) in
    rw (← c.number_of-at.ensures.value) (subst (λ (bs : List Pinned). IsPermutation (of_others at (all_pinned rows)) bs) same (IsPermutation-refl (of_others at (all_pinned rows))))

pub returns-clause-peers : goal.returns-clause-peers
returns-clause-peers c = by_peer_set c.args.peers.now.items c.number_of-at.result c.index_mut.result.now c.pop.new.self c.requires (got c) (left c)

pub returns-clause-kept : goal.returns-clause-kept
returns-clause-kept c = rooms_set c.args.peers.now.items c.number_of-at.result c.index_mut.result.now c.pop.new.self (got c) c.pop.ensures.kept
