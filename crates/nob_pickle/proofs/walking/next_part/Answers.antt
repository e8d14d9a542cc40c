use Rattle.std.proofs.Common.{◌∙◌, sym, ap, List, [], ◌∷◌, ◌++◌, Bor}
use Rattle.nob_pickle.specs.declared.value.Value.{Value}
use Rattle.nob_pickle.specs.Shape.{tree}
use Rattle.nob_pickle.specs.Parts.{parts_ahead}
use Rattle.nob_pickle.proofs.Parts.{parts_ahead-first, parts_ahead-empty}
use Rattle.nob_pickle.proofs.walking.next_part.Goals as goal

pub returns-in-Some-split_first : goal.returns-in-Some-split_first
returns-in-Some-split_first c =
    sym c.loop-values.invariant ∙ ap parts_ahead c.in-Some.ensures.items
    ∙ parts_ahead-first c.pop.new.self.items c.in-Some.values c.in-Some-split_first.rest c.elements.result c.in-Some-split_first.first.now c.in-Some-split_first.ensures.cases.0 c.elements.ensures.parts
    ∙ sym (ap (λ (ss : List (Bor (List Value))). tree c.in-Some-split_first.first.now ∷ parts_ahead ss) (c.in_ok-push-2.ensures.items ∙ ap (λ (ss : List (Bor (List Value))). ss ++ c.elements.result ∷ []) c.in_ok-push.ensures.items))

pub loop-values-preserved : goal.loop-values-preserved
loop-values-preserved c =
    sym (ap parts_ahead c.in-Some.ensures.items ∙ parts_ahead-empty c.pop.new.self.items c.in-Some.values c.in_default-split_first.ensures.cases) ∙ c.loop-values.invariant
