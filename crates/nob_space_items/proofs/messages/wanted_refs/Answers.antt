use Rattle.std.proofs.Common.{◌≡◌, ◌+◌, ◌<◌, true, false, not, ◌&&◌, List, [], ◌∷◌, ◌++◌, length, sym, ap, ◌∙◌, arith}
use Rattle.std.proofs.lemmas.List.{length-append}
use Rattle.std.proofs.lemmas.Option.{slice_get_within}
use Rattle.std.specs.List.{list_any}
use Rattle.nob_ids.specs.Names.{is_same}
use Rattle.nob_ids.specs.declared.wire_rep.WireRep.{WireRep}
use Rattle.nob_item.specs.Kinds.{counted_in}
use Rattle.nob_space_state.specs.Parts.{state_of}
use Rattle.nob_space_items.specs.Messages.{is_wanted, wanted_refs}
use Rattle.nob_space_items.proofs.Wanted.{wanted_more, past_last}
use Rattle.nob_space_items.proofs.messages.wanted_refs.Goals.{then-is_next, else-is_next}
use Rattle.nob_space_items.proofs.messages.wanted_refs.Goals as goal

pub loop-rep-preserved : goal.loop-rep-preserved
loop-rep-preserved c =
    let there = sym (c.in-Some.ensures {u = tt}) in
    let within : c.loop-rep.number < length (counted_in c.args.item.now) = slice_get_within (counted_in c.args.item.now) c.loop-rep.number c.in-Some.rep there in
    elim c.if-is_next.branch [
      | then-is_next w ↦
          let is : c.if-is_next.wanted ≡ c.loop-rep.wanted ++ c.in-Some.rep ∷ [] = w.wanted-is ∙ w.push.ensures in
          let longer : length c.if-is_next.wanted ≡ length c.loop-rep.wanted + 1 = ap length is ∙ length-append c.loop-rep.wanted (c.in-Some.rep ∷ []) in
          let before = c.loop-rep.invariant.fewer in
          record {
            few = omega (arith, within);
            fewer = omega (arith, longer, before);
            so_far = is ∙ wanted_more c.args.parts.now.here.space c.args.parts.now.here.n (state_of c.args.parts.now) c.loop-rep.wanted (counted_in c.args.item.now) c.loop-rep.number c.in-Some.rep true there c.loop-rep.invariant.so_far (sym w.if-is_next.true ∙ c.is_next.ensures ∙ ap (λ (rs : List WireRep). is_wanted c.args.parts.now.here.space c.args.parts.now.here.n (state_of c.args.parts.now) c.in-Some.rep && not (list_any (is_same c.in-Some.rep) rs)) c.as_slice.ensures);
          }
      | else-is_next w ↦
          let before = c.loop-rep.invariant.fewer in
          let same : length c.if-is_next.wanted ≡ length c.loop-rep.wanted = ap length w.wanted-is in
          record {
            few = omega (arith, within);
            fewer = omega (arith, same, before);
            so_far = w.wanted-is ∙ wanted_more c.args.parts.now.here.space c.args.parts.now.here.n (state_of c.args.parts.now) c.loop-rep.wanted (counted_in c.args.item.now) c.loop-rep.number c.in-Some.rep false there c.loop-rep.invariant.so_far (sym w.if-is_next.false ∙ c.is_next.ensures ∙ ap (λ (rs : List WireRep). is_wanted c.args.parts.now.here.space c.args.parts.now.here.n (state_of c.args.parts.now) c.in-Some.rep && not (list_any (is_same c.in-Some.rep) rs)) c.as_slice.ensures);
          }
    ]

pub returns : goal.returns
returns c = c.loop-rep.invariant.so_far ∙ ap (wanted_refs c.args.parts.now.here.space c.args.parts.now.here.n (state_of c.args.parts.now)) (past_last (counted_in c.args.item.now) c.loop-rep.number (sym (c.in_default.ensures {u = tt})))
