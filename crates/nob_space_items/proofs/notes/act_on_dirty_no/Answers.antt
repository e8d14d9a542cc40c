use Rattle.std.proofs.Common.{false, Some, None, if◌then◌else◌, sym, ap, ◌∙◌, refl, ◌∷◌, subst}
use lib.ListN.{set}
use Rattle.std.proofs.lemmas.Option.{none-some}
use Rattle.nob_table_rows.specs.declared.fault.TableFault.TheVariants.{Absent}
use Rattle.nob_model_types.specs.declared.deed.Deed.TheVariants as did
use Rattle.nob_space_messages.specs.Jobs.{JobLists}
use Rattle.nob_space_state.specs.Stands.{Stands}
use Rattle.nob_space_items.proofs.Owners.{pending_known, refused_stands}
use Rattle.nob_space_items.proofs.Taken.{waits_there}
use Rattle.nob_space_items.proofs.notes.act_on_dirty_no.Goals as goal

pub unreachable-requires : goal.unreachable-requires
unreachable-requires c =
    let stands = c.requires.state.2 in
    let known = pending_known stands false c.args.index (c.requires.front c.requires.state.0 c.requires.state.1 stands) in
    none-some _ (sym (ap (λ b. if b then None else Some Absent) known.1) ∙ (c.in-Err.ensures {u = tt}).answer)

pub take-requires : goal.take-requires
take-requires c = waits_there c.requires.state.2 (c.requires.front c.requires.state.0 c.requires.state.1 c.requires.state.2) c.place.result c.place.ensures.value c.index_mut.result.now c.index_mut.ensures.value

pub returns : goal.returns
returns c = record {
  stands = λ limits D stands. subst (λ (jobs : JobLists). Stands c.args.parts.now.here.space c.args.parts.now.here.n limits (record {
    sessions = set c.args.parts.now.sessions.items c.place.result c.take.new.self;
    table = c.refuse.new.self;
    dirty = c.args.parts.now.dirty;
    pins = c.args.parts.now.pins;
    work = record { waiting = c.lose.new.self.waiting.items; ready = jobs.ready; running = jobs.running; replies = c.args.parts.now.calls.replies; calls = c.args.parts.now.calls.calls };
    awaited = c.lose.new.self.waiting.awaited;
    calls = c.args.parts.now.calls_made;
    jobs = c.args.parts.now.jobs_made;
  }) (did.Act c.args.peer c.args.number ∷ D)) (sym c.lose.ensures.jobs)
      (refused_stands stands c.place.result c.place.ensures.value c.index_mut.result.now c.take.new.self c.index_mut.ensures.value (λ me peer limits L before. (c.take.ensures.answer me peer limits L before).1)
      c.args.index (c.requires.front limits D stands) c.refuse.new.self c.refuse.ensures.left (c.in-Ok.ensures {u = tt}).refused c.lose.new.self.waiting.items c.lose.ensures.items c.lose.new.self.waiting.awaited c.lose.ensures.awaited);
  here = refl;
}
