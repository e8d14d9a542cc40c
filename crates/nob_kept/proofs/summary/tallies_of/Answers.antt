use Rattle.std.proofs.Common.{◌≡◌, ◌-◌, ◌++◌, ◌∷◌, [], ℕ, List, sym, ap, ◌∙◌, arith}
use Rattle.nob_kept.specs.Segments as segments
use Rattle.nob_kept.specs.Summaries as summaries
use Rattle.nob_kept.specs.declared.summary.PeerTally.{PeerTally}
use Rattle.nob_kept.proofs.Summaries.{tallies_next}
use Rattle.nob_kept.proofs.summary.tallies_of.Goals as goal

pub loop-number-preserved : goal.loop-number-preserved
loop-number-preserved c =
    (c.in_ok-add_tally.ensures {u = tt}) ∙ ap (λ (tallies : List PeerTally). tallies ++ summaries.tallies_among c.args.kept.now (c.loop-number.number ∷ [])) c.loop-number.invariant
    ∙ sym (tallies_next c.args.kept.now c.loop-number.number c.loop-number.auto.number)

pub returns : goal.returns
returns c =
    let last : c.loop-number.number - 1 ≡ c.args.kept.now.n = omega (arith, c.loop-number-test.false, c.loop-number.auto.number-end, c.get-end.ensures.value, c.n.ensures) in
    c.loop-number.invariant ∙ ap (λ (n : ℕ). summaries.tallies_among c.args.kept.now (segments.spaces_to n)) last
