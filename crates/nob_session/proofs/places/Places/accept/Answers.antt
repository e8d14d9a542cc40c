use Rattle.std.proofs.Common.{◌≡◌, ◌+◌, ◌-◌, ◌∷◌, [], take, sym, ap, ◌∙◌, arith, append_assoc}
use Rattle.nob_model_session.specs.End.{filled}
use Rattle.nob_session.specs.Keeping.{first_filled, moved_up}
use Rattle.nob_session.proofs.Moving.{accepts_one}
use Rattle.nob_session.proofs.places.Places.accept.Goals as goal

pub loop-taken-preserved : goal.loop-taken-preserved
loop-taken-preserved c =
    let its = c.loop-taken.invariant in
    let count = c.loop-taken.taken in
    let places = c.args.self.now in
    let left = c.args.most - count in
    let one = accepts_one count left c.in-Some.payload places (omega arith) (sym (c.in-Some.ensures.first ∙ ap first_filled its.moved)) in
    record {
      moved = c.in-Some.ensures.rest ∙ ap (moved_up 1) its.moved ∙ one.moved;
      waiting = rw (c.push_back_reserved.ensures.items, its.waiting, one.waits) (append_assoc c.args.waiting.now.items (filled (take count places)) (c.in-Some.payload ∷ []));
      count =
          let row = one.row in
          let less : c.args.most - (count + 1) ≡ left - 1 = omega arith in
          its.count ∙ ap (λ n. count + n) row ∙ rw less (omega arith);
      len = omega arith;
      capacity = omega arith;
    }
