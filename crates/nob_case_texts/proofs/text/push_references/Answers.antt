use Rattle.nob_case_texts.specs.Words.{reference_word}
use Rattle.nob_case_texts.proofs.Listed.{written_behind}
use Rattle.nob_case_texts.proofs.text.push_references.Goals as goal

pub loop-rep-preserved : goal.loop-rep-preserved
loop-rep-preserved c =
    written_behind reference_word c.in-Some.others.now c.loop-rep.rep-index c.rep-item.result _ _ _ _ c.loop-rep-test.true c.rep-item.is c.in_ok-push_str.ensures.bytes c.in_ok-push_reference-2.ensures c.loop-rep.invariant
