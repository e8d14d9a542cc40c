use Rattle.std.proofs.Common.{◌∙◌}
use Rattle.nob_frame.specs.Spelling.{spelling}
use Rattle.nob_model_text.proofs.Read.{by_error, passed}
use Rattle.nob_trace.proofs.FrameBytes.{spelling_bytes}
use Rattle.nob_trace.proofs.frame_reading.frame_at.Goals as goal

pub returns-in_err-bytes-clause-only : goal.returns-in_err-bytes-clause-only
returns-in_err-bytes-clause-only c frame rest framed stops spelt =
    passed _ c.from_residual.result c.in_err-bytes.field-0.0 c.from_residual.ensures.1
    (by_error _ (c.in_err-bytes.ensures.only (spelling c.args.version frame) rest (spelling_bytes c.args.version frame framed) stops spelt))

pub returns-in_err-frame-clause-only : goal.returns-in_err-frame-clause-only
returns-in_err-frame-clause-only c frame rest framed stops spelt =
    let bytes = c.in_ok-bytes.ensures.only (spelling c.args.version frame) rest (spelling_bytes c.args.version frame framed) stops spelt in
    passed _ c.from_residual-in_err-frame.result c.in_err-frame.field-0.0 c.from_residual-in_err-frame.ensures.1
    (by_error _ (c.in_err-frame.ensures.only frame (framed.0, c.as_slice.ensures.value ∙ bytes.0)))

pub returns-clause-only : goal.returns-clause-only
returns-clause-only c frame rest framed stops spelt =
    let bytes = c.in_ok-bytes.ensures.only (spelling c.args.version frame) rest (spelling_bytes c.args.version frame framed) stops spelt in
    (c.in_ok-frame.ensures.only frame (framed.0, c.as_slice.ensures.value ∙ bytes.0), bytes.1)
