use Rattle.std.proofs.Common.{◌≡◌, ◌≤◌, ◌++◌, ◌∷◌, [], List, Ok, Err, refl, sym, ap, subst, ◌∙◌, arith}
use Rattle.std.proofs.lemmas.List.{append-nil}
use Rattle.nob_model_types.specs.declared.answer.Answer.{Answer}
use Rattle.nob_model_types.specs.declared.entry.Entry.{Entry}
use Rattle.nob_frame.specs.declared.frame.Frame.{Frame}
use Rattle.nob_model_history.specs.Histories.{history}
use Rattle.nob_model.specs.Right.{right}
use Rattle.nob_space_state.specs.declared.error.SpaceError.{SpaceError}
use Rattle.nob_space.specs.Spaces.{StandsFor, with_entry}
use Rattle.nob_space.specs.Steps.{AnswersRight, HandsOnFitting, front_for}
use Rattle.nob_world.specs.Worlds.{entry_of}
use Rattle.nob_world.proofs.Typed.{entry_typed, entry_refused}
use Rattle.nob_world.proofs.Worlds.{Asked, world_made, world_kept, gives_of, looked_space, goes_of}
use Rattle.nob_world.proofs.making.make.Goals as goal

pub returns-in-Ok-step_twice-clause-world : goal.returns-in-Ok-step_twice-clause-world
returns-in-Ok-step_twice-clause-world c n limits world arrives =
    let asked : Asked n limits c.args.spaces.now.items c.args.entries.now.items c.args.frames.now.items c.args.space c.place-place.result c.args.event c.index_mut.result.now c.step_twice.new.self c.index.result.now = record {
      world = world;
      number = c.place-place.ensures.value;
      low = omega (arith, c.place-place.ensures.next);
      high = c.requires;
      old_is = c.index_mut.ensures.value;
      looked_is = c.index.ensures;
      same = c.step_twice.ensures.same;
      arrives = arrives;
    } in
    let told = c.in-Ok-step_twice.ensures {u = tt} in
    let due = c.in-Ok-frames_due.ensures {u = tt} in
    let answered : (L : List Entry) → StandsFor c.index_mut.result.now L → right c.index_mut.result.now.id c.index_mut.result.now.n c.index_mut.result.now.limits L c.args.event ≡ Ok c.in-Ok-step_twice.copy = λ L stands. told.answer L stands ∙ ap Ok (sym told.equal) in
    world_made asked (Ok c.in-Ok-step_twice.copy) c.in-Ok-frames_due.more.items c.put_entry.new.entries.items c.put_frames.new.frames.items
    answered
    (λ L stands. subst (λ (answer : Answer). StandsFor c.step_twice.new.self (entry_of c.index_mut.result.now.id c.args.event (Ok answer) ∷ L)) (sym told.equal) (told.stands L stands))
    (gives_of asked c.in-Ok-frames_due.more.items c.in-Ok-step_twice.copy due.frames answered)
    (due.spelt (looked_space asked))
    (goes_of asked c.in-Ok-frames_due.more.items due.to)
    (entry_typed c.args.space c.args.event c.in-Ok-step_twice.copy (subst (λ (answer : Answer). HandsOnFitting c.args.event (Ok answer)) (sym told.equal) told.fits))
    (c.put_entry.ensures ∙ ap (λ (es : List Entry). es ++ entry_of c.args.space c.args.event (Ok c.in-Ok-step_twice.copy) ∷ []) c.reserve.ensures.items)
    (c.put_frames.ensures ∙ ap (λ (fs : List Frame). fs ++ c.in-Ok-frames_due.more.items) c.reserve-2.ensures.items)

pub returns-in-Err-Refused-clause-world : goal.returns-in-Err-Refused-clause-world
returns-in-Err-Refused-clause-world c n limits world arrives =
    let asked : Asked n limits c.args.spaces.now.items c.args.entries.now.items c.args.frames.now.items c.args.space c.place-place.result c.args.event c.index_mut.result.now c.step_twice.new.self c.index.result.now = record {
      world = world;
      number = c.place-place.ensures.value;
      low = omega (arith, c.place-place.ensures.next);
      high = c.requires;
      old_is = c.index_mut.ensures.value;
      looked_is = c.index.ensures;
      same = c.step_twice.ensures.same;
      arrives = arrives;
    } in
    let told = c.in-Err-Refused.ensures {u = tt} in
    world_made asked (Err c.in-Err-Refused.refusal) [] c.put_entry-in-Err-Refused.new.entries.items c.reserve-2.new.self.items
    (λ L stands. subst (λ (error : SpaceError). AnswersRight (front_for c.args.event (history c.index_mut.result.now.id c.index_mut.result.now.n L)) (Err error) (right c.index_mut.result.now.id c.index_mut.result.now.n c.index_mut.result.now.limits L c.args.event)) c.in-Err-Refused.field-0-is (told.answer L stands))
    (λ L stands. subst (λ (error : SpaceError). StandsFor c.step_twice.new.self (with_entry c.index_mut.result.now.id c.args.event (Err error) L)) c.in-Err-Refused.field-0-is (told.stands L stands))
    refl
    tt
    tt
    (entry_refused c.args.space c.args.event c.in-Err-Refused.refusal)
    (c.put_entry-in-Err-Refused.ensures ∙ ap (λ (es : List Entry). es ++ entry_of c.args.space c.args.event (Err c.in-Err-Refused.refusal) ∷ []) c.reserve.ensures.items)
    (c.reserve-2.ensures.items ∙ sym (append-nil c.args.frames.now.items))

pub returns-in-Err-OutOfMemory-clause-world : goal.returns-in-Err-OutOfMemory-clause-world
returns-in-Err-OutOfMemory-clause-world c n limits world arrives =
    let asked : Asked n limits c.args.spaces.now.items c.args.entries.now.items c.args.frames.now.items c.args.space c.place-place.result c.args.event c.index_mut.result.now c.step_twice.new.self c.index.result.now = record {
      world = world;
      number = c.place-place.ensures.value;
      low = omega (arith, c.place-place.ensures.next);
      high = c.requires;
      old_is = c.index_mut.ensures.value;
      looked_is = c.index.ensures;
      same = c.step_twice.ensures.same;
      arrives = arrives;
    } in
    world_kept asked c.reserve.new.self.items c.reserve-2.new.self.items ((c.in-Err-OutOfMemory.ensures {u = tt}).err) c.reserve.ensures.items c.reserve-2.ensures.items
