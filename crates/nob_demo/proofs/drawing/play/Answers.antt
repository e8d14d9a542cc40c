use Rattle.std.proofs.Common.{ℕ, List, ◌++◌, ap, ◌∙◌}
use Rattle.nob_demo.proofs.WrittenDrawings.{behind_nothing}
use Rattle.nob_demo.proofs.drawing.play.Goals as goal

pub returns-in-Ok-extend_from_slice : goal.returns-in-Ok-extend_from_slice
returns-in-Ok-extend_from_slice c = behind_nothing c.args.input.now c.args.part c.in-Ok.bytes.items _ _ c.in-Ok.ending c.requires (c.in-Ok-extend_from_slice.ensures.items ∙ ap (λ (text : List ℕ). c.args.text.now.items ++ text) c.as_slice.ensures.value) c.in-Ok.ensures
