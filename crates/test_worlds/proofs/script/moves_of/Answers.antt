use Rattle.std.proofs.Common.{ℕ, List, [], ◌++◌, Some, refl, subst}
use Rattle.std.proofs.lemmas.List.{append-nil}
use Rattle.test_worlds.specs.declared.script.Move.{Move}
use Rattle.nob_model_text.specs.Lines.{lines_of}
use Rattle.test_worlds.specs.Scripts.{SayAll}
use Rattle.test_worlds.proofs.script.moves_of.Goals as goal

pub returns : goal.returns
returns c =
    let all = lines_of c.args.text.now in
    let moves = c.loop-line.moves.items in
    let spelt = subst (λ (left : List ℕ). (rest : List Move) → SayAll (lines_of left) (Some rest) → SayAll all (Some (moves ++ rest))) c.in_default.ensures.lines c.loop-line.invariant.0 in
    subst (λ (xs : List Move). SayAll all (Some xs)) (append-nil moves) (spelt [] refl)
