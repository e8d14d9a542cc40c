use Rattle.std.proofs.Common.{not, rules}
use Rattle.std.proofs.lemmas.Fn.{filter_same}
use Rattle.nob_frame.specs.declared.frame.Frame.{Frame}
use Rattle.nob_recall.specs.Remembering.{is_past_in}
use Rattle.nob_recall.proofs.recall.forget.Goals as goal

pub returns : goal.returns
returns c J stands = filter_same _ (λ (frame : Frame). not (is_past_in J frame)) _ (λ x b f call. search (rules, stands)) _ _ c.retain.ensures.filtered
