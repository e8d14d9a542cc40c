use Rattle.std.proofs.Common.{◌++◌, List, ℕ, sym, ap, ◌∙◌}
use Rattle.std.proofs.lemmas.Bool.Decides.{Decides-eqb}
use Rattle.std.proofs.lemmas.Slice.Eq.{slice_eq-Decides}
use Rattle.nob_model_text.proofs.Read.{by_error, passed}
use Rattle.nob_trace.specs.Frames.{spaced_text}
use Rattle.nob_trace.proofs.Spaced.{none_alone, some_alone}
use Rattle.nob_trace.proofs.frame_reading.whole_frames.Goals as goal

pub returns-then-eq-clause-only : goal.returns-then-eq-clause-only
returns-then-eq-clause-only c frames framed spelt =
    let same = (slice_eq-Decides Decides-eqb c.args.text.now c.as_slice.result.now c.eq.result c.eq.ensures).0 c.if-eq.true in
    c.from_vec.ensures ∙ c.new.ensures.items ∙ none_alone c.args.version c.args.text.now frames (same ∙ c.as_slice.ensures) spelt

pub returns-in_err-after-clause-only : goal.returns-in_err-after-clause-only
returns-in_err-after-clause-only c frames framed spelt =
    let test = (slice_eq-Decides Decides-eqb c.args.text.now c.as_slice.result.now c.eq.result c.eq.ensures).1 in
    let some = some_alone c.args.version c.args.text.now frames (λ e. let t = test (e ∙ sym c.as_slice.ensures) in let f = c.if-eq.false in cc) spelt in
    passed _ c.from_residual.result c.in_err-after.field-0.0 c.from_residual.ensures.1
    (by_error _ (c.in_err-after.ensures.only (spaced_text c.args.version frames) (some.0 ∙ ap (λ (w : List ℕ). w ++ spaced_text c.args.version frames) (sym c.as_slice-2.ensures))))
