use Rattle.std.proofs.Common.{ℕ, reverse, Some, None, true, false, ap, subst, ◌∙◌}
use Rattle.nob_demo.specs.Judging.{IsJudged}
use Rattle.nob_demo.specs.Draws.{row_of, svg_of}
use Rattle.nob_demo.proofs.WrittenDrawings.{drawn_written, wrong_written}
use Rattle.nob_demo.proofs.drawing.bytes_of_entries.Goals as goal

pub returns-in_ok-bytes-in-Some : goal.returns-in_ok-bytes-in-Some
returns-in_ok-bytes-in-Some c = λ input chains spelt judged n_is.
    let J = reverse c.args.merged.items in
    let entry = c.in-Some.entry in
    wrong_written input c.args.part chains entry c.args.merged.items _ spelt (subst (IsJudged chains c.args.merged.items) c.in-Some.is judged)
    (c.in_ok-bytes-in-Some.ensures ∙ ap (λ (n : ℕ). svg_of n c.args.part false (row_of entry.space entry.place J) J) n_is)

pub returns-in_ok-drawn-in-None : goal.returns-in_ok-drawn-in-None
returns-in_ok-drawn-in-None c = λ input chains spelt judged n_is.
    drawn_written input c.args.part chains c.args.merged.items _ spelt (subst (IsJudged chains c.args.merged.items) c.in-None.is judged)
    (c.in_ok-drawn-in-None.ensures ∙ ap (λ (n : ℕ). svg_of n c.args.part true None (reverse c.args.merged.items)) n_is)
