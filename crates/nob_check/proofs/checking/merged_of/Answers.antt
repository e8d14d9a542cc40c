use Rattle.std.proofs.Common.{List, Option, Some, None, MatchOption, sym, subst, ◌∙◌}
use Rattle.nob_model_types.specs.declared.entry.Entry.{Entry}
use Rattle.nob_model_traces.specs.declared.fault.CheckFault.{CheckFault}
use Rattle.nob_model_traces.specs.Traces.{IsRightTrace}
use Rattle.nob_model_traces.specs.Lowest.{IsLowest}
use Rattle.nob_model_traces.specs.Origins.{HaveOrigins, IsOriginFault}
use Rattle.nob_model_traces.proofs.Choosing.{all_map}
use Rattle.nob_model_traces.proofs.Faulting.{lost}
use Rattle.nob_check.specs.Running.{IsRightAndTyped}
use Rattle.nob_check.proofs.checking.merged_of.Goals as goal

-- what is said of the arrivals among merged entries
abbrev Said : List Entry → Option CheckFault → Type 0
Said merged found = MatchOption found (HaveOrigins merged) (λ fault. IsOriginFault merged fault)

pub returns-in-Some-2-clause-checked : goal.returns-in-Some-2-clause-checked
returns-in-Some-2-clause-checked c =
    let said : Said c.in_ok-merged.merged.items (Some c.in-Some-2.fault) = subst (λ (es : List Entry). Said es (Some c.in-Some-2.fault)) c.as_slice.ensures.value (subst (Said c.as_slice.result.now) c.in-Some-2.is c.in_ok-fault.ensures) in
    lost c.args.traces.now c.in_ok-merged.merged.items c.in-Some-2.fault
    (record { one_each = sym c.are_one_each.ensures ∙ c.if-not-are_one_each.false; right = all_map IsRightAndTyped IsRightTrace c.args.traces.now (λ t is. is.right) (subst (IsLowest IsRightAndTyped c.args.traces.now) c.in_default.is c.in_ok-wrong.ensures) })
    c.in_ok-merged.ensures said

pub returns-clause-checked : goal.returns-clause-checked
returns-clause-checked c =
    let said : Said c.in_ok-merged.merged.items None = subst (λ (es : List Entry). Said es None) c.as_slice.ensures.value (subst (Said c.as_slice.result.now) c.in_default-2.is c.in_ok-fault.ensures) in
    record {
      runs = record { one_each = sym c.are_one_each.ensures ∙ c.if-not-are_one_each.false; right = all_map IsRightAndTyped IsRightTrace c.args.traces.now (λ t is. is.right) (subst (IsLowest IsRightAndTyped c.args.traces.now) c.in_default.is c.in_ok-wrong.ensures) };
      is_merged = c.in_ok-merged.ensures;
      origins = said;
    }
