use Rattle.std.proofs.Common.{ℕ, List, ◌∷◌, ◌++◌, arith, refl, ap, ◌∙◌, inl, inr}
use Rattle.std.proofs.lemmas.Str.Pattern.{split_parts}
use Rattle.nob_case_texts.proofs.tokens.repeated.Goals as goal

pub returns-in-None-clause-found : goal.returns-in-None-clause-found
returns-in-None-clause-found c = (rw c.in-None.is at (split_parts 42 c.args.word.now c.split_once.result c.split_once.ensures.cases (omega arith)), inl (refl, refl))

pub returns-in_ok-times-in-Some-clause-found : goal.returns-in_ok-times-in-Some-clause-found
returns-in_ok-times-in-Some-clause-found c =
    let parts = rw c.in-Some.is at (split_parts 42 c.args.word.now c.split_once.result c.split_once.ensures.cases (omega arith)) in
    (parts.1, inr (parts.0 ∙ ap (λ (digits : List ℕ). c.in-Some.part.now ++ 42 ∷ digits) c.in_ok-times-in-Some.ensures.found))
