use Rattle.std.proofs.Common.{◌≡◌, ◌<◌, List, Some, slice_get, length, get_or, refl, sym, ap, subst, ◌∙◌, arith}
use lib.ListN.{set}
use Rattle.std.proofs.lemmas.Option.{slice_get_read}
use Rattle.nob_pins.specs.Bundles.{Pinned}
use Rattle.nob_pins.specs.Peers.{rooms_of, AreOfPeer}
use Rattle.nob_pins.proofs.Rows.{same_at, by_peer_set, rooms_set, room_at, get_set_same, on_ok}
use Rattle.nob_pins.proofs.table.make_room.Goals as goal

got : (c : goal.After-peers-1) → slice_get c.fill.new.peers.items c.number_of-at.result ≡ Some c.index_mut.result.now
got c = slice_get_read c.fill.new.peers.items (length c.fill.new.peers.items) c.number_of-at.result c.index_mut.result.now refl (omega (arith, c.in_ok-fill.ensures.made)) c.index_mut.ensures.value

pub returns-clause-pinned : goal.returns-clause-pinned
returns-clause-pinned c = same_at c.fill.new.peers.items c.number_of-at.result c.index_mut.result.now c.reserve.new.self (got c) c.reserve.ensures.pinned ∙ c.fill.ensures.pinned

pub returns-clause-peers : goal.returns-clause-peers
returns-clause-peers c = λ owned.
    by_peer_set c.fill.new.peers.items c.number_of-at.result c.index_mut.result.now c.reserve.new.self (c.fill.ensures.peers owned) (got c)
    (subst (λ (bs : List Pinned). AreOfPeer c.number_of-at.result bs) (sym c.reserve.ensures.pinned) (c.fill.ensures.peers owned c.number_of-at.result c.index_mut.result.now (got c)))

pub returns-clause-kept : goal.returns-clause-kept
returns-clause-kept c = λ other some. rooms_set c.fill.new.peers.items c.number_of-at.result c.index_mut.result.now c.reserve.new.self (got c) c.reserve.ensures.kept other (c.fill.ensures.kept other some)

pub returns-clause-room : goal.returns-clause-room
returns-clause-room c =
    let rows = set c.fill.new.peers.items c.number_of-at.result c.reserve.new.self in
    let read : get_or (rooms_of rows) c.number_of-at.result 0 ≡ c.reserve.new.self.room =
    room_at rows c.number_of-at.result c.reserve.new.self (get_set_same c.fill.new.peers.items c.number_of-at.result c.index_mut.result.now c.reserve.new.self (got c)) in
    let here : get_or (rooms_of rows) c.args.peer 0 ≡ c.reserve.new.self.room = ap (λ k. get_or (rooms_of rows) k 0) (sym c.number_of-at.ensures.value) ∙ read in
    on_ok c.reserve.result (0 < c.reserve.new.self.room) (0 < get_or (rooms_of rows) c.args.peer 0) c.reserve.ensures.room (λ some. omega (arith, here, some))
