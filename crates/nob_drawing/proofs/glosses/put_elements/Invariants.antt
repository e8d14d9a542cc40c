use Rattle.std.proofs.Common.{◌≡◌, ◌++◌, drop}
use Rattle.nob_pickle.specs.Shape.{forest}
use Rattle.nob_drawing.specs.Glosses.{elements_gloss}
use Rattle.nob_drawing.proofs.glosses.put_elements.Given as goal

-- what is written and what is left are all
abbrev pub invariant-loop-value : goal.invariant-loop-value
invariant-loop-value l = l.words.items ++ elements_gloss (forest (drop l.value-index l.values)) ≡ l.initial.words.items ++ elements_gloss (forest l.values)
