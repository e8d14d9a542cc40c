use Rattle.std.proofs.Common.{◌∙◌, ap}
use Rattle.nob_fault.specs.Words.{next_draw}
use Rattle.nob_fault.proofs.Draws.{draw_none, words_none, draw_more, words_more}
use Rattle.nob_fault.proofs.generator.words_between.Goals as goal

pub loop-init : goal.loop-init
loop-init c = (c.start_between-drawn.ensures ∙ draw_none _, c.in_ok-words.ensures.items ∙ words_none _ _)

pub loop-preserved : goal.loop-preserved
loop-preserved c =
    let drawn = c.draw_after-drawn.ensures ∙ ap next_draw c.loop.invariant.0 in
    (drawn ∙ draw_more _ _, rw (c.in_ok-push.ensures.items, c.word_for.ensures, drawn, c.loop.invariant.1) (words_more _ _ _))
