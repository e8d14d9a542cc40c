use Rattle.std.proofs.Common.{◌≡◌, ◌+◌, ◌∷◌, sym, ap, subst, ◌∙◌, arith}
use Rattle.std.specs.List.Sorted.{IsPermutation}
use Rattle.nob_pins.specs.Evidence.{AreOf, reps_of}
use Rattle.nob_pins.specs.Bundles.{Pinned, bundle_of, times, Adds}
use Rattle.nob_pins.specs.Peers.{all_pinned, count_in}
use Rattle.nob_pins.proofs.Counting.{counted_below, counted_less}
use Rattle.nob_pins.proofs.Callers.{one_fewer}
use Rattle.nob_pins.proofs.table.PinTable.pop.Goals as goal

pub take_all-requires : goal.take_all-requires
take_all-requires c = record {
  some = λ rep.
      let same : times rep (reps_of c.pins.result.now) ≡ times rep c.in_ok-last.last.reps = ap (times rep) c.pins.ensures in
      omega (arith, same, counted_below c.self.inside.counts.rows (all_pinned c.self.inside.peers.items) (all_pinned c.pop_at.new.peers.items) c.in_ok-last.last c.self.invariant.1 c.in_ok-last.ensures.popped.1 rep);
}

pub invariant_of-self-2 : goal.invariant_of-self-2
invariant_of-self-2 c = (
  c.pop_at.ensures.peers,
  counted_less c.self.inside.counts.rows c.take_all.new.counts.rows (all_pinned c.self.inside.peers.items) (all_pinned c.pop_at.new.peers.items) c.in_ok-last.last c.self.invariant.1 c.in_ok-last.ensures.popped.1
      (λ rep. c.take_all.ensures.count rep ∙ ap (λ n. count_in c.take_all.new.counts.rows rep + n) (ap (times rep) c.pins.ensures)),
)

pub returns-clause-answer : goal.returns-clause-answer
returns-clause-answer c =
    let old = all_pinned c.self.inside.peers.items in
    let new = all_pinned c.pop_at.new.peers.items in
    let bundle = c.in_ok-last.last in
    let pins = c.into_pins.result.items in
    let peer : bundle.peer ≡ c.args.peer = c.in_ok-last.ensures.popped.0 in
    let adds : Adds new old bundle = c.in_ok-last.ensures.popped.1 in
    let is : bundle ≡ bundle_of c.args.peer bundle.item (reps_of pins) = λ i. record { peer = peer i; item = bundle.item; reps = sym c.into_pins.ensures.reps i } in
    rw (← c.self.view_is) (
      (
        bundle.item,
        subst (λ p. AreOf p bundle.item pins) peer c.into_pins.ensures.pins,
        subst (λ (b : Pinned). IsPermutation (b ∷ new) old) is adds,
      ),
      one_fewer c.args.peer old new bundle peer adds,
    )
