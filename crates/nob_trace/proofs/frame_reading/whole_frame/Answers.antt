use Rattle.std.proofs.Common.{sym, ◌∙◌, []}
use Rattle.std.proofs.lemmas.List.{append-nil}
use Rattle.nob_model_text.proofs.Read.{not_empty}
use Rattle.nob_trace.specs.Frames.{frame_text}
use Rattle.nob_trace.proofs.frame_reading.whole_frame.Goals as goal

pub returns-then-not-is_empty-clause-only : goal.returns-then-not-is_empty-clause-only
returns-then-not-is_empty-clause-only c frame framed spelt =
    not_empty c.in_ok-frame.rest.now c.is_empty.result (c.in_ok-frame.ensures.only frame [] framed tt (spelt ∙ sym (append-nil (frame_text c.args.version frame)))).1 c.is_empty.ensures c.if-not-is_empty.true
