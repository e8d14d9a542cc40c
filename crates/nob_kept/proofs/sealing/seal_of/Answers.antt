use Rattle.std.proofs.Common.{◌≡◌, ◌-◌, ℕ, ◌++◌, ◌∷◌, [], List, length, sym, ap, ◌∙◌, arith}
use Rattle.nob_model_history.specs.Histories.{history}
use Rattle.nob_chain.specs.declared.seal.PeerSeal.{PeerSeal}
use Rattle.nob_chain.specs.declared.seal.Seal.{Seal}
use Rattle.nob_kept.specs.Segments as segments
use Rattle.nob_kept.proofs.Segments.{peers_next}
use Rattle.nob_kept.proofs.sealing.seal_of.Goals as goal

pub add_peer-requires-clause-room : goal.add_peer-requires-clause-room
add_peer-requires-clause-room c =
    let few = c.loop-number.invariant.1.0 in
    let room = c.loop-number.invariant.1.1 in
    omega (arith, few, room, c.loop-number-test.true, c.get-end.ensures.value)

pub loop-number-init : goal.loop-number-init
loop-number-init c =
    let none : length c.args.places.items ≡ 0 = ap length c.requires.places.0 in
    (λ L stands. c.requires.places.0, (omega (arith, none, c.args.places.ok.0), c.requires.places.1))

pub loop-number-preserved : goal.loop-number-preserved
loop-number-preserved c =
    let s = c.args.space.now in
    let few = c.loop-number.invariant.1.0 in
    let room = c.loop-number.invariant.1.1 in
    let more = c.add_peer.ensures.len in
    let same = c.add_peer.ensures.room in (
      λ L stands. c.add_peer.ensures.peers L stands
          ∙ ap (λ (peers : List PeerSeal). peers ++ segments.peers_among s.id s.n (history s.id s.n L) (c.loop-number.number ∷ [])) (c.loop-number.invariant.0 L stands)
          ∙ sym (peers_next s.id s.n (history s.id s.n L) c.loop-number.number c.loop-number.auto.number),
      (omega (arith, few, more), omega (arith, room, same)),
    )

pub returns : goal.returns
returns c L stands =
    let s = c.args.space.now in
    let stamp = c.args.stamp in
    let last : c.loop-number.number - 1 ≡ s.n = omega (arith, c.loop-number-test.false, c.loop-number.auto.number-end, c.get-end.ensures.value, c.requires.n) in
    let peers = c.from_vec.ensures ∙ c.loop-number.invariant.0 L stands ∙ ap (λ (n : ℕ). segments.peers_among s.id s.n (history s.id s.n L) (segments.spaces_to n)) last in
    ap (λ (live : ℕ). record { stamp = stamp; live = live; peers = c.from_vec.result }) (c.live.ensures L stands)
    ∙ ap (λ (peers : List PeerSeal). record { stamp = stamp; live = (segments.seal_in s.id s.n stamp L).live; peers = peers }) peers
