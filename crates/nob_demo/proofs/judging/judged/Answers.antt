use Rattle.std.proofs.Common.{◌≡◌, true, List, map, Some, None, sym, ap, subst, ◌∙◌}
use Rattle.nob_model_types.specs.declared.entry.Entry.{Entry}
use Rattle.nob_chain.specs.declared.chain.ChainParts.{ChainParts}
use Rattle.nob_demo.specs.Judging.{IsJudged}
use Rattle.nob_demo.proofs.Judged.{Found, Said, origin_judged, right_judged}
use Rattle.nob_demo.proofs.judging.judged.Goals as goal

pub returns-in-Some : goal.returns-in-Some
returns-in-Some c =
    let found = subst (λ (cs : List ChainParts). Found cs (Some c.in-Some.entry)) c.as_slice.ensures.value (subst (Found c.as_slice.result.now) c.in-Some.is c.in_ok-wrong.ensures) in
    (c.in_ok-merged.ensures, found)

pub returns-in-Some-2 : goal.returns-in-Some-2
returns-in-Some-2 c =
    let chains = c.args.chains.items in
    let merged = c.in_ok-merged.merged.items in
    let right = subst (λ (cs : List ChainParts). Found cs None) c.as_slice.ensures.value (subst (Found c.as_slice.result.now) c.in_default.is c.in_ok-wrong.ensures) in
    let said = subst (λ (es : List Entry). Said es (Some c.in-Some-2.fault)) c.as_slice-2.ensures.value (subst (Said c.as_slice-2.result.now) c.in-Some-2.is c.in_ok-fault.ensures) in
    subst (IsJudged chains merged) (sym c.entry_of.ensures) (origin_judged chains merged c.in-Some-2.fault c.requires right c.in_ok-merged.ensures said)

pub returns-in-None : goal.returns-in-None
returns-in-None c =
    let chains = c.args.chains.items in
    let merged = c.in_ok-merged.merged.items in
    let right = subst (λ (cs : List ChainParts). Found cs None) c.as_slice.ensures.value (subst (Found c.as_slice.result.now) c.in_default.is c.in_ok-wrong.ensures) in
    let said = subst (λ (es : List Entry). Said es None) c.as_slice-2.ensures.value (subst (Said c.as_slice-2.result.now) c.in-None.is c.in_ok-fault.ensures) in
    right_judged chains merged c.requires right c.in_ok-merged.ensures said
