use Rattle.std.proofs.Common.{◌++◌, ◌∷◌, [], ℕ, List, codes, ap, subst, ◌∙◌}
use Rattle.std.specs.List.{AllByRecursion}
use Rattle.std.specs.Fmt.{decimal}
use Rattle.std.specs.String.{string_bytes}
use Rattle.nob_frame.specs.declared.version.Version.TheVariants.{Two}
use Rattle.nob_trace.specs.declared.stamped.Stamped.{Stamped}
use Rattle.nob_trace.specs.Entries.{HasSpelling}
use Rattle.nob_chain.specs.Chains.{entry_lines, lines_text}
use Rattle.nob_chain.proofs.Written.{sealed_put, segment_put}
use Rattle.nob_chain.proofs.writing.put_segment.Goals as goal

pub returns : goal.returns
returns c =
    let opened = string_bytes c.push_str.new.self in
    let opening = c.as_str.ensures.value ∙ c.in_ok-opening.ensures ∙ ap (λ (n : ℕ). codes "segment " ++ (decimal c.args.number ++ (codes " entries " ++ (decimal n ++ 10 ∷ [])))) c.len.ensures in
    let entered = c.in_ok-put_entries.ensures.1 ∙ ap (λ (es : List Stamped). opened ++ lines_text (entry_lines es)) c.as_slice.ensures in
    sealed_put c.args.segment.now _ _ c.put_seal.result (subst (AllByRecursion (HasSpelling Two)) c.as_slice.ensures c.in_ok-put_entries.ensures.0) (λ x wrote. segment_put c.args.number c.args.segment.now _ opened _ _ _ opening c.in_ok-push_str.ensures.bytes entered wrote) c.put_seal.ensures
