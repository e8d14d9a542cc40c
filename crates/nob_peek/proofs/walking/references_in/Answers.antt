use Rattle.std.proofs.Common.{◌≡◌, [], Some, sym, ap, ◌∙◌, arith}
use Rattle.std.specs.Option.{option_map}
use Rattle.nob_pickle.specs.Reading.{tree_at}
use Rattle.nob_peek.specs.Walking.{behind}
use Rattle.nob_peek.specs.declared.walking.Rest.{Rest}
use Rattle.nob_peek.proofs.Counted.{empty_by, left_few, passed_whole}
use Rattle.nob_peek.proofs.walking.references_in.Goals as goal

pub overflow_sub-result : goal.overflow_sub-result
overflow_sub-result c =
    let passed : Some (c.in-Some.rest.references, c.in-Some.rest.bytes.now) ≡ behind (tree_at 16 32 c.args.bytes.now) = sym (ap (option_map (λ (x : Rest). (x.references, x.bytes.now))) c.in-Some.is) ∙ c.pass.ensures in
    left_few c.args.bytes.now _ _ (λ i. omega (arith, c.type_inv.bytes i)) passed

pub returns : goal.returns
returns c =
    let passed : Some (c.in-Some.rest.references, c.in-Some.rest.bytes.now) ≡ behind (tree_at 16 32 c.args.bytes.now) = sym (ap (option_map (λ (x : Rest). (x.references, x.bytes.now))) c.in-Some.is) ∙ c.pass.ensures in
    let empty : c.in-Some.rest.bytes.now ≡ [] = empty_by c.is_empty.result c.in-Some.rest.bytes.now c.is_empty.ensures c.if-not-is_empty.false in
    passed_whole c.args.bytes.now _ _ (λ i. omega (arith, c.type_inv.bytes i)) c.if-bytes-gt-MOST_IN_ALL.false passed empty
