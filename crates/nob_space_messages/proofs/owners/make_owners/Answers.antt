use Rattle.std.proofs.Common.{◌≡◌, ◌+◌, List, length, ◌∙◌, arith, ap}
use Rattle.nob_slots.proofs.Flat.{length_push}
use Rattle.nob_space_messages.specs.Lines.{OwnerList, reps_in}
use Rattle.nob_space_messages.proofs.Kept.{all_lines, lines_at, one_more, reps_more}
use Rattle.nob_space_messages.proofs.owners.make_owners.Goals as goal

pub returns-in_err-push-clause-lines : goal.returns-in_err-push-clause-lines
returns-in_err-push-clause-lines c room owner = ap (λ (owners : List OwnerList). lines_at owners owner) c.in_err-push.ensures.items ∙ c.loop-made.invariant.0 owner

pub loop-made-preserved : goal.loop-made-preserved
loop-made-preserved c =
    let more = c.in_ok-push.ensures.items in
    let longer : length c.push.new.self.items ≡ length c.loop-made.owners.items + 1 = ap length more ∙ length_push c.loop-made.owners.items c.new.result ∙ (omega arith) in (
      λ owner. ap (λ (owners : List OwnerList). lines_at owners owner) more ∙ one_more c.loop-made.owners.items c.new.result c.new.ensures.rows c.new.ensures.links owner ∙ c.loop-made.invariant.0 owner,
      ap (λ (owners : List OwnerList). reps_in (all_lines owners)) more ∙ reps_more c.loop-made.owners.items c.new.result c.new.ensures.rows ∙ c.loop-made.invariant.1,
      omega (arith, c.loop-made.invariant.2),
      omega (arith, c.loop-made.invariant.3, longer),
      λ all. absurd (omega (arith, all, c.loop-made.invariant.2, c.loop-made-test.true)),
    )
