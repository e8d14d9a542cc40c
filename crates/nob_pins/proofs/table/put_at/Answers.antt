use Rattle.std.proofs.Common.{◌≡◌, ◌<◌, ◌∷◌, [], List, Some, slice_get, length, refl, sym, ap, subst, ◌∙◌, arith}
use Rattle.std.proofs.lemmas.List.Elements.{All-nil, All-cons, All-append}
use Rattle.std.proofs.lemmas.List.Sorted.{IsPermutation-sym, IsPermutation-to_front}
use Rattle.std.proofs.lemmas.Option.{slice_get_read}
use Rattle.std.specs.List.Sorted.{IsPermutation}
use Rattle.nob_pins.specs.Bundles.{Pinned}
use Rattle.nob_pins.specs.Peers.{has_item, pinned_at, AreOfPeer}
use Rattle.nob_pins.proofs.Rows.{has_at, pinned_there, added_at, by_peer_set, room_within}
use Rattle.nob_pins.proofs.table.put_at.Goals as goal

before : (c : goal.After-index_mut) → slice_get c.args.peers.now.items c.number_of-at.result ≡ Some c.index_mut.result.now
before c =
    let low : c.args.peer < length c.args.peers.now.items = room_within c.args.peers.now.items c.args.peer c.requires.room in
    slice_get_read c.args.peers.now.items (length c.args.peers.now.items) c.number_of-at.result c.index_mut.result.now refl (omega (arith, low, c.number_of-at.ensures.value)) c.index_mut.ensures.value

got : (c : goal.After-peers-1) → slice_get c.args.peers.now.items c.number_of-at.result ≡ Some c.index_mut.result.now
got c =
    let low : c.args.peer < length c.args.peers.now.items = room_within c.args.peers.now.items c.args.peer c.requires.room in
    slice_get_read c.args.peers.now.items (length c.args.peers.now.items) c.number_of-at.result c.index_mut.result.now refl (omega (arith, low, c.number_of-at.ensures.value)) c.index_mut.ensures.value

pub put-requires-clause-new : goal.put-requires-clause-new
put-requires-clause-new c =
    ap (has_item c.args.bundle.item) (sym (ap (λ k. pinned_at c.args.peers.now.items k) (sym c.number_of-at.ensures.value) ∙ pinned_there c.args.peers.now.items c.number_of-at.result c.index_mut.result.now (before c)))
    ∙ sym (has_at c.args.peers.now.items c.requires.peers c.args.peer c.args.bundle.item) ∙ c.requires.new

pub returns-clause-adds : goal.returns-clause-adds
returns-clause-adds c =
    added_at c.args.peers.now.items c.number_of-at.result c.index_mut.result.now c.put.new.self c.args.bundle (got c)
    (subst (λ (bs : List Pinned). IsPermutation (c.args.bundle ∷ c.index_mut.result.now.pinned) bs) (sym c.put.ensures) (IsPermutation-sym _ _ (IsPermutation-to_front c.index_mut.result.now.pinned c.args.bundle)))

pub returns-clause-peers : goal.returns-clause-peers
returns-clause-peers c =
    let P = λ (b : Pinned). b.peer ≡ c.number_of-at.result in
    let one : AreOfPeer c.number_of-at.result (c.args.bundle ∷ []) = All-cons P c.args.bundle [] (c.requires.peer ∙ sym c.number_of-at.ensures.value) (All-nil P) in
    by_peer_set c.args.peers.now.items c.number_of-at.result c.index_mut.result.now c.put.new.self c.requires.peers (got c)
    (subst (λ (bs : List Pinned). AreOfPeer c.number_of-at.result bs) (sym c.put.ensures) (All-append P c.index_mut.result.now.pinned (c.args.bundle ∷ []) (c.requires.peers c.number_of-at.result c.index_mut.result.now (got c)) one))
