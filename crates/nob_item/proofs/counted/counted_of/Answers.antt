use Rattle.std.proofs.Common.{rules, subst, ◌≡◌, List, filter}
use Rattle.std.proofs.lemmas.List.Elements.{filter_from_retain}
use Rattle.nob_ids.specs.Names.{is_counted}
use Rattle.nob_ids.specs.declared.wire_rep.WireRep.{WireRep}
use Rattle.nob_item.proofs.counted.counted_of.Goals as goal

pub returns : goal.returns
returns c =
    let left = filter_from_retain _ is_counted (λ p x b q call. search rules) _ _ _ c.retain.ensures.filtered in
    subst (λ (refs : List WireRep). c.retain.new.self.items ≡ filter is_counted refs) c.in_ok-refs.ensures left
