use Rattle.std.proofs.Common.{◌≡◌, ◌<◌, ◌++◌, ◌∷◌, [], List, length, get_or, sym, ap, subst, ◌∙◌, arith}
use Rattle.nob_pins.specs.Peers.{Row, all_pinned, rooms_of, AreByPeer}
use Rattle.nob_pins.proofs.Rows.{all_pushed, by_peer_pushed, rooms_pushed}
use Rattle.nob_pins.proofs.table.fill.Goals as goal

pub loop-alloc-preserved : goal.loop-alloc-preserved
loop-alloc-preserved c =
    let rows = c.loop-alloc.peers.items in
    let pushed : c.push.new.peers.items ≡ rows ++ c.new.result ∷ [] = c.in-Ok.ensures.ok in (
      ap all_pinned pushed ∙ all_pushed rows c.new.result c.new.ensures ∙ c.loop-alloc.invariant.0,
      λ owned. subst (λ (xs : List Row). AreByPeer xs) (sym pushed) (by_peer_pushed rows c.new.result c.new.ensures (c.loop-alloc.invariant.1 owned)),
      λ m some. subst (λ (xs : List Row). 0 < get_or (rooms_of xs) m 0) (sym pushed) (rooms_pushed rows c.new.result m (c.loop-alloc.invariant.2 m some)),
      λ low. let same = c.loop-alloc.invariant.3 low in absurd (omega (arith, low, ap length same, c.len.ensures, c.loop-alloc.peers.ok.0, c.loop-alloc-test.true)),
    )
