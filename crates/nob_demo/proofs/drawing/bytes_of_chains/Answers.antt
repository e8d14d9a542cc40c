use Rattle.std.proofs.Common.{◌≡◌, false, List, map, sym, ap, ◌∙◌}
use Rattle.nob_chain.specs.declared.chain.ChainParts.{ChainParts}
use Rattle.nob_chain.specs.Chains.{joined}
use Rattle.nob_model_traces.specs.Traces.{are_one_each}
use Rattle.nob_demo.specs.Draws.{spaces_of}
use Rattle.nob_demo.proofs.WrittenDrawings.{apart_written}
use Rattle.nob_demo.proofs.drawing.bytes_of_chains.Goals as goal

pub returns-then-not-are_one_each : goal.returns-then-not-are_one_each
returns-then-not-are_one_each c = λ input spelt.
    let apart : are_one_each (map joined c.args.chains.items) ≡ false = ap (λ (cs : List ChainParts). are_one_each (map joined cs)) (sym c.as_slice.ensures.value) ∙ sym c.are_one_each.ensures ∙ c.if-not-are_one_each.true in
    apart_written input c.args.part c.args.chains.items _ spelt apart (c.in_ok-to_vec.ensures.items_if_clones_equal (λ x y same. same) ∙ c.as_slice-then-not-are_one_each.ensures)

pub returns : goal.returns
returns c = λ input spelt. c.bytes_of_entries.ensures input c.args.chains.items spelt c.in_ok-merged.ensures (c.spaces_of-n.ensures ∙ ap spaces_of c.as_slice-2.ensures.value)
