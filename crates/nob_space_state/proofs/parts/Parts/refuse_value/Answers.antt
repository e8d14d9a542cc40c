use Rattle.std.proofs.Common.{◌<◌, length, filter, sym, ◌∙◌, refl, arith}
use Rattle.std.proofs.lemmas.Option.{slice_get_within}
use Rattle.nob_ids.specs.Names.{is_counted}
use Rattle.nob_pickle.specs.Spelling.{refs_in}
use Rattle.nob_space_state.specs.Parts.{state_of}
use Rattle.nob_space_state.proofs.Passing.{refusal_on}
use Rattle.nob_space_state.proofs.Calling.{few_refs, value_is, refs_next, refs_first, refs_last}
use Rattle.nob_space_state.proofs.parts.Parts.refuse_value.Goals as goal

pub returns-in_err-refuse_ref : goal.returns-in_err-refuse_ref
returns-in_err-refuse_ref c =
    refusal_on _ c.from_residual.result c.in_err-refuse_ref.field-0.0 c.from_residual.ensures.1
    (value_is c.args.self.now.here.space (state_of c.args.self.now) c.args.value.now ((c.in-Ok.ensures {u = tt}).fits.0 refl)
    ∙ c.loop-rep.invariant.so_far
    ∙ refs_first c.args.self.now.here.space (state_of c.args.self.now) (filter is_counted (refs_in c.args.value.now)) c.loop-rep.number c.in-Some.rep c.in_err-refuse_ref.field-0.0 (sym (c.in-Some.ensures {u = tt})) c.in_err-refuse_ref.ensures)

pub overflow_add-number : goal.overflow_add-number
overflow_add-number c =
    let few = few_refs c.args.value.now ((c.in-Ok.ensures {u = tt}).fits.0 refl) in
    let within : c.loop-rep.number < length (filter is_counted (refs_in c.args.value.now)) = slice_get_within (filter is_counted (refs_in c.args.value.now)) c.loop-rep.number c.in-Some.rep (sym (c.in-Some.ensures {u = tt})) in
    omega (arith, few, within)

pub loop-rep-smaller : goal.loop-rep-smaller
loop-rep-smaller c =
    let within : c.loop-rep.number < length (filter is_counted (refs_in c.args.value.now)) = slice_get_within (filter is_counted (refs_in c.args.value.now)) c.loop-rep.number c.in-Some.rep (sym (c.in-Some.ensures {u = tt})) in
    omega (arith, within)

pub loop-rep-preserved : goal.loop-rep-preserved
loop-rep-preserved c =
    let within : c.loop-rep.number < length (filter is_counted (refs_in c.args.value.now)) = slice_get_within (filter is_counted (refs_in c.args.value.now)) c.loop-rep.number c.in-Some.rep (sym (c.in-Some.ensures {u = tt})) in
    record {
      few = omega (arith, within);
      so_far = c.loop-rep.invariant.so_far
          ∙ refs_next c.args.self.now.here.space (state_of c.args.self.now) (filter is_counted (refs_in c.args.value.now)) c.loop-rep.number c.in-Some.rep (sym (c.in-Some.ensures {u = tt})) c.in_ok-refuse_ref.ensures;
    }

pub returns : goal.returns
returns c =
    value_is c.args.self.now.here.space (state_of c.args.self.now) c.args.value.now ((c.in-Ok.ensures {u = tt}).fits.0 refl)
    ∙ c.loop-rep.invariant.so_far
    ∙ refs_last c.args.self.now.here.space (state_of c.args.self.now) (filter is_counted (refs_in c.args.value.now)) c.loop-rep.number (sym (c.in_default-counted_ref.ensures {u = tt}))
