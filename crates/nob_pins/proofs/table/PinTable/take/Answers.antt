use Rattle.std.proofs.Common.{◌≡◌, ◌+◌, ap, arith, ◌∙◌}
use Rattle.nob_pins.specs.Evidence.{reps_of}
use Rattle.nob_pins.specs.Bundles.{times}
use Rattle.nob_pins.specs.Peers.{all_pinned, count_in}
use Rattle.nob_pins.proofs.Counting.{counted_below, counted_less}
use Rattle.nob_pins.proofs.table.PinTable.take.Goals as goal

pub take_all-requires : goal.take_all-requires
take_all-requires c = record {
  some = λ rep.
      let same : times rep (reps_of c.pins.result.now) ≡ times rep c.in-Some.bundle.reps = ap (times rep) c.pins.ensures in
      omega (arith, same, counted_below c.self.inside.counts.rows (all_pinned c.self.inside.peers.items) (all_pinned c.take_at.new.peers.items) c.in-Some.bundle c.self.invariant.1 c.in-Some.ensures.taken.2 rep);
}

pub invariant_of-self-2 : goal.invariant_of-self-2
invariant_of-self-2 c = (
  c.take_at.ensures.peers,
  counted_less c.self.inside.counts.rows c.take_all.new.counts.rows (all_pinned c.self.inside.peers.items) (all_pinned c.take_at.new.peers.items) c.in-Some.bundle c.self.invariant.1 c.in-Some.ensures.taken.2
      (λ rep. c.take_all.ensures.count rep ∙ ap (λ n. count_in c.take_all.new.counts.rows rep + n) (ap (times rep) c.pins.ensures)),
)
