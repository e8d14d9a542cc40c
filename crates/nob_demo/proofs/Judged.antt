-- Which entry of chains is wrong, by what is found in each chain and among the merged entries.
use Rattle.std.proofs.Common.{◌≡◌, ℕ, true, List, map, length, take, Option, Some, None, MatchOption, ◌≤◌, sym, ap, subst, ◌∙◌, arith}
use Rattle.std.specs.List.{AllByRecursion}
use Rattle.std.proofs.lemmas.List.{take_all}
use Rattle.nob_model_types.specs.declared.entry.Entry.{Entry}
use Rattle.nob_model_traces.specs.declared.fault.CheckFault.{CheckFault}
use Rattle.nob_model_traces.specs.declared.fault.WrongEntry.{WrongEntry}
use Rattle.nob_model_traces.specs.Merged.{IsMerged}
use Rattle.nob_model_traces.specs.Origins.{HaveOrigins, IsOriginFault, IsRefusedFor}
use Rattle.nob_model_traces.specs.Traces.{are_one_each}
use Rattle.nob_chain.specs.declared.segment.Segment.{Segment}
use Rattle.nob_chain.specs.declared.chain.ChainParts.{ChainParts}
use Rattle.nob_chain.specs.Chains.{entries_of, joined}
use Rattle.nob_model_chains.specs.declared.fault.SetFault.TheVariants.{Traces}
use Rattle.nob_model_chains.specs.declared.fault.WrongChain.{WrongChain}
use Rattle.nob_model_chains.specs.Lowest.{IsLowest, fault_of}
use Rattle.nob_model_chains.specs.Faults.{IsFault}
use Rattle.nob_model_chains.proofs.Faulting.{accepted_of, lost_of, part_fault}
use Rattle.nob_chain_check.specs.Running.{IsRightAndSealed}
use Rattle.nob_chain_check.proofs.Accepting.{is_right}
use Rattle.nob_demo.specs.Judging.{count_within, entry_of, wrong_entry, IsWrongEntry, IsJudged}

-- what is found in the chains: each is right, or this entry is wrong
abbrev pub Found : List ChainParts → Option WrongEntry → Type 0
Found chains found = MatchOption found (AllByRecursion IsRightAndSealed chains) (λ entry. IsWrongEntry chains entry)

-- what is found among the merged entries
abbrev pub Said : List Entry → Option CheckFault → Type 0
Said merged found = MatchOption found (HaveOrigins merged) (λ fault. IsOriginFault merged fault)

-- what is wrong in a chain is of this entry
pub chain_wrong : (chains : List ChainParts) (wrong : WrongChain) (entry : WrongEntry) → are_one_each (map joined chains) ≡ true → IsLowest IsRightAndSealed chains (Some wrong) → wrong_entry chains (fault_of wrong) ≡ Some entry → IsWrongEntry chains entry
chain_wrong chains wrong entry ones found is = (fault_of wrong, part_fault chains wrong.space wrong.part ones found, is)

-- an arrival without an origin is wrong
pub origin_judged : (chains : List ChainParts) (merged : List Entry) (fault : CheckFault) → are_one_each (map joined chains) ≡ true → AllByRecursion IsRightAndSealed chains → IsMerged (map joined chains) merged → IsOriginFault merged fault → IsJudged chains merged (entry_of fault)
origin_judged chains merged fault ones right is (space, place, frame, alone, refused) = by_kind refused
  where
    wrong : IsFault chains (Traces fault)
    wrong = lost_of IsRightAndSealed is_right chains merged fault ones right is (space, place, frame, alone, refused)

    of_entry : entry_of fault ≡ Some (record { space = space; place = place }) → IsJudged chains merged (entry_of fault)
    of_entry at = subst (IsJudged chains merged) (sym at) (is, (Traces fault, wrong, at))

    by_kind : IsRefusedFor merged space place frame fault → IsJudged chains merged (entry_of fault)
    by_kind (IsRefusedFor.nowhere none same) = of_entry (ap entry_of same)
    by_kind (IsRefusedFor.later some same) = of_entry (ap entry_of same)

-- right chains whose frames have origins are accepted
pub right_judged : (chains : List ChainParts) (merged : List Entry) → are_one_each (map joined chains) ≡ true → AllByRecursion IsRightAndSealed chains → IsMerged (map joined chains) merged → HaveOrigins merged → IsJudged chains merged None
right_judged chains merged ones right is origins = accepted_of IsRightAndSealed is_right chains merged ones right is origins

-- where there are no more segments, all that are asked for are counted
pub counted_all : (chain : ChainParts) (number count : ℕ) → count ≤ number → length chain.segments ≤ count → count_within count chain ≡ count_within number chain
counted_all chain number count few all =
    ap (λ (segments : List Segment). length (entries_of segments)) (take_all count chain.segments all ∙ sym (take_all number chain.segments (omega (arith, few, all))))
