use Rattle.std.proofs.Common.{◌≡◌, true, List, map, Option, Some, None, MatchOption, sym, ap, subst, ◌∙◌}
use Rattle.nob_model_types.specs.declared.entry.Entry.{Entry}
use Rattle.nob_trace.specs.declared.trace.Trace.{Trace}
use Rattle.nob_model_traces.specs.declared.fault.CheckFault.{CheckFault}
use Rattle.nob_model_traces.specs.Merged.{IsMerged}
use Rattle.nob_model_traces.specs.Origins.{HaveOrigins, IsOriginFault}
use Rattle.nob_model_traces.specs.Traces.{are_one_each}
use Rattle.nob_chain.specs.declared.chain.ChainParts.{ChainParts}
use Rattle.nob_chain.specs.Chains.{joined}
use Rattle.nob_model_chains.specs.Lowest.{IsLowest}
use Rattle.nob_model_chains.specs.Faults.{IsFault}
use Rattle.nob_model_chains.proofs.Faulting.{accepted_of, lost_of, part_fault}
use Rattle.nob_chain_check.specs.Running.{IsRightAndSealed}
use Rattle.nob_chain_check.proofs.Accepting.{is_right}
use Rattle.nob_chain_check.proofs.checking.merged_of.Goals as goal

-- what is said of the arrivals among merged entries
abbrev Said : List Entry → Option CheckFault → Type 0
Said merged found = MatchOption found (HaveOrigins merged) (λ fault. IsOriginFault merged fault)

pub returns-in-Some-clause-checked : goal.returns-in-Some-clause-checked
returns-in-Some-clause-checked c =
    let chains = c.args.chains.items in
    let ones : are_one_each (map joined chains) ≡ true = ap (λ (cs : List ChainParts). are_one_each (map joined cs)) (sym c.as_slice.ensures.value) ∙ sym c.are_one_each.ensures ∙ c.if-not-are_one_each.false in
    let found = subst (λ (cs : List ChainParts). IsLowest IsRightAndSealed cs (Some c.in-Some.wrong)) c.as_slice-2.ensures.value (subst (IsLowest IsRightAndSealed c.as_slice-2.result.now) c.in-Some.is c.in_ok-wrong.ensures) in
    subst (IsFault chains) (sym c.fault_of.ensures) (part_fault chains c.in-Some.wrong.space c.in-Some.wrong.part ones found)

pub returns-in-Some-2-clause-checked : goal.returns-in-Some-2-clause-checked
returns-in-Some-2-clause-checked c =
    let chains = c.args.chains.items in
    let ones : are_one_each (map joined chains) ≡ true = ap (λ (cs : List ChainParts). are_one_each (map joined cs)) (sym c.as_slice.ensures.value) ∙ sym c.are_one_each.ensures ∙ c.if-not-are_one_each.false in
    let right = subst (λ (cs : List ChainParts). IsLowest IsRightAndSealed cs None) c.as_slice-2.ensures.value (subst (IsLowest IsRightAndSealed c.as_slice-2.result.now) c.in_default.is c.in_ok-wrong.ensures) in
    let is = subst (λ (ts : List Trace). IsMerged ts c.in_ok-merged.merged.items) (c.as_slice-4.ensures.value ∙ c.in_ok-traces.ensures) c.in_ok-merged.ensures in
    let said : Said c.in_ok-merged.merged.items (Some c.in-Some-2.fault) = subst (λ (es : List Entry). Said es (Some c.in-Some-2.fault)) c.as_slice-5.ensures.value (subst (Said c.as_slice-5.result.now) c.in-Some-2.is c.in_ok-fault.ensures) in
    lost_of IsRightAndSealed is_right chains c.in_ok-merged.merged.items c.in-Some-2.fault ones right is said

pub returns-clause-checked : goal.returns-clause-checked
returns-clause-checked c =
    let chains = c.args.chains.items in
    let ones : are_one_each (map joined chains) ≡ true = ap (λ (cs : List ChainParts). are_one_each (map joined cs)) (sym c.as_slice.ensures.value) ∙ sym c.are_one_each.ensures ∙ c.if-not-are_one_each.false in
    let right = subst (λ (cs : List ChainParts). IsLowest IsRightAndSealed cs None) c.as_slice-2.ensures.value (subst (IsLowest IsRightAndSealed c.as_slice-2.result.now) c.in_default.is c.in_ok-wrong.ensures) in
    let is = subst (λ (ts : List Trace). IsMerged ts c.in_ok-merged.merged.items) (c.as_slice-4.ensures.value ∙ c.in_ok-traces.ensures) c.in_ok-merged.ensures in
    let said : Said c.in_ok-merged.merged.items None = subst (λ (es : List Entry). Said es None) c.as_slice-5.ensures.value (subst (Said c.as_slice-5.result.now) c.in_default-2.is c.in_ok-fault.ensures) in
    accepted_of IsRightAndSealed is_right chains c.in_ok-merged.merged.items ones right is said
