use Rattle.std.proofs.Common.{◌∙◌, ap, ap₂, Bool, ◌||◌}
use Rattle.std.proofs.lemmas.Result.{IfOk-weaker}
use Rattle.clap.specs.Words.{App, rule_of, with_rule}
use Rattle.clap.specs.declared.builder.arg.Arg.{Arg}
use Rattle.nob_demo_spaces.proofs.options.with_excerpt.Goals as goal

abbrev is_global : Arg → Bool
is_global a = a.global

pub returns-clause-shape : goal.returns-clause-shape
returns-clause-shape c =
    let first = c.in_ok-arg.ensures.shape (ap is_global c.help.ensures ∙ c.number.ensures.local) ∙ ap₂ with_rule c.requires.new (ap rule_of c.help.ensures ∙ c.number.ensures.rule) in
    let second = c.in_ok-arg-2.ensures.shape (ap is_global c.help-2.ensures ∙ c.number-2.ensures.local) ∙ ap₂ with_rule first (ap rule_of c.help-2.ensures ∙ c.number-2.ensures.rule) in
    let third = c.in_ok-arg-3.ensures.shape (ap is_global c.help-3.ensures ∙ c.number-3.ensures.local) ∙ ap₂ with_rule second (ap rule_of c.help-3.ensures ∙ c.number-3.ensures.rule) in
    let fourth = c.in_ok-arg-4.ensures.shape (ap is_global c.help-4.ensures ∙ c.number-4.ensures.local) ∙ ap₂ with_rule third (ap rule_of c.help-4.ensures ∙ c.number-4.ensures.rule) in
    let fifth = c.in_ok-arg-5.ensures.shape (ap is_global c.help-5.ensures ∙ c.number-5.ensures.local) ∙ ap₂ with_rule fourth (ap rule_of c.help-5.ensures ∙ c.number-5.ensures.rule) in
    IfOk-weaker c.arg-6.result _ _ (λ command adds. ap (λ (a : App). a.top) (adds.shape (ap is_global c.help-6.ensures ∙ c.flag.ensures.local) ∙ ap₂ with_rule fifth (ap rule_of c.help-6.ensures ∙ c.flag.ensures.rule))) c.arg-6.ensures

pub returns-clause-local : goal.returns-clause-local
returns-clause-local c =
    let first = c.in_ok-arg.ensures.globals ∙ ap₂ ◌||◌ c.requires.local (ap is_global c.help.ensures ∙ c.number.ensures.local) in
    let second = c.in_ok-arg-2.ensures.globals ∙ ap₂ ◌||◌ first (ap is_global c.help-2.ensures ∙ c.number-2.ensures.local) in
    let third = c.in_ok-arg-3.ensures.globals ∙ ap₂ ◌||◌ second (ap is_global c.help-3.ensures ∙ c.number-3.ensures.local) in
    let fourth = c.in_ok-arg-4.ensures.globals ∙ ap₂ ◌||◌ third (ap is_global c.help-4.ensures ∙ c.number-4.ensures.local) in
    let fifth = c.in_ok-arg-5.ensures.globals ∙ ap₂ ◌||◌ fourth (ap is_global c.help-5.ensures ∙ c.number-5.ensures.local) in
    IfOk-weaker c.arg-6.result _ _ (λ command adds. adds.globals ∙ ap₂ ◌||◌ fifth (ap is_global c.help-6.ensures ∙ c.flag.ensures.local)) c.arg-6.ensures
