use Rattle.std.proofs.Common.{ℕ, true, Some, None, if◌then◌else◌, sym, ap, subst, ◌∙◌, refl, ◌∷◌}
use lib.ListN.{replicate, set}
use Rattle.std.proofs.lemmas.Option.{none-some}
use Rattle.nob_table_rows.specs.declared.fault.TableFault.TheVariants.{Absent}
use Rattle.nob_model.specs.Right.{own_ref}
use Rattle.nob_model_types.specs.declared.deed.Deed.TheVariants as did
use Rattle.nob_space_messages.specs.Jobs.{JobLists}
use Rattle.nob_space_state.specs.Stands.{Stands}
use Rattle.nob_space_items.specs.Lending.{CanLend}
use Rattle.nob_space_items.proofs.Obtained.{due_awaited, due_low, can_lend, granted_stands}
use Rattle.nob_space_items.proofs.Owners.{pending_known}
use Rattle.nob_space_items.proofs.Taken.{waits_there}
use Rattle.nob_space_items.proofs.notes.act_on_dirty_ok.Goals as goal

pub unreachable-requires : goal.unreachable-requires
unreachable-requires c =
    let stands = c.requires.state.2 in
    let known = pending_known stands true c.args.index (c.requires.front c.requires.state.0 c.requires.state.1 stands) in
    none-some _ (sym (ap (λ b. if b then None else Some Absent) known.1) ∙ (c.in-Err.ensures {u = tt}).answer)

pub lend-due-requires-clause-open : goal.lend-due-requires-clause-open
lend-due-requires-clause-open c = due_awaited c.requires.state.2 c.args.index (c.requires.front c.requires.state.0 c.requires.state.1 c.requires.state.2)

pub lend-due-requires-clause-count : goal.lend-due-requires-clause-count
lend-due-requires-clause-count c = due_low c.requires.state.2 c.args.index (c.requires.front c.requires.state.0 c.requires.state.1 c.requires.state.2)

pub lend_times-requires : goal.lend_times-requires
lend_times-requires c =
    subst (λ (count : ℕ). CanLend c.grant.new.self (replicate count (own_ref c.args.peer c.args.index))) (sym c.lend-due.ensures.count)
    (can_lend c.requires.state.2 c.args.index (c.requires.front c.requires.state.0 c.requires.state.1 c.requires.state.2) c.grant.new.self c.grant.ensures.left (c.in-Ok.ensures {u = tt}).granted)

pub take-requires : goal.take-requires
take-requires c = waits_there c.requires.state.2 (c.requires.front c.requires.state.0 c.requires.state.1 c.requires.state.2) c.place.result c.place.ensures.value c.index_mut.result.now c.index_mut.ensures.value

pub returns : goal.returns
returns c = record {
  stands = λ limits D stands. subst (λ (jobs : JobLists). Stands c.args.parts.now.here.space c.args.parts.now.here.n limits (record {
    sessions = set c.args.parts.now.sessions.items c.place.result c.take.new.self;
    table = c.lend_times.new.table;
    dirty = c.args.parts.now.dirty;
    pins = c.args.parts.now.pins;
    work = record { waiting = c.lend-due.new.self.waiting.items; ready = jobs.ready; running = jobs.running; replies = c.args.parts.now.calls.replies; calls = c.args.parts.now.calls.calls };
    awaited = c.lend-due.new.self.waiting.awaited;
    calls = c.args.parts.now.calls_made;
    jobs = c.args.parts.now.jobs_made;
  }) (did.Act c.args.peer c.args.number ∷ D)) (sym c.lend-due.ensures.jobs)
      (granted_stands stands c.place.result c.place.ensures.value c.index_mut.result.now c.take.new.self c.index_mut.ensures.value (λ me peer limits L before. (c.take.ensures.answer me peer limits L before).1)
      c.args.index (c.requires.front limits D stands) c.grant.new.self c.lend_times.new.table c.grant.ensures.left (c.in-Ok.ensures {u = tt}).granted c.lend-due.result c.lend-due.ensures.count c.lend_times.ensures c.lend-due.new.self.waiting.items c.lend-due.ensures.items c.lend-due.new.self.waiting.awaited c.lend-due.ensures.awaited);
  here = refl;
}
