use Rattle.std.proofs.Common.{ℕ, ◌&&◌, ◌==◌, not, filter, refl, sym, ap, subst, ◌∙◌}
use Rattle.nob_pins.specs.Bundles.{TakesOutAll}
use Rattle.nob_model_types.specs.Messages.{is_not_from}
use Rattle.nob_space_messages.specs.Jobs.{JobLists}
use Rattle.nob_space_messages.specs.Waiting.{WaitingList, is_awaited}
use Rattle.nob_space_state.specs.Returns.{HasLent, GivesBack, lent_from}
use Rattle.nob_space_state.specs.Closing.{ClosesDown, lent_in_vain}
use Rattle.nob_space_state.specs.Parts.{state_of}
use Rattle.nob_space_state.proofs.Closings.{thrown_work}
use Rattle.nob_space_state.proofs.Exported.{kept_before}
use Rattle.nob_table.specs.Table.{is_kept, is_of}
use Rattle.nob_table_rows.specs.Order.{place_in}
use Rattle.nob_space_state.proofs.Marked.{same_standing}
use Rattle.nob_space_state.proofs.Returned.{back_then, lent_then}
use Rattle.nob_space_state.proofs.parts.Parts.close_down.Goals as goal

pub throw_ready_away-requires : goal.throw_ready_away-requires
throw_ready_away-requires c =
    let me = c.args.self.now.here.space in
    let had : HasLent c.args.self.now.table (lent_in_vain me c.peer-peer.result (state_of c.args.self.now).work) =
    subst (λ (p : ℕ). HasLent c.args.self.now.table (lent_in_vain me p (state_of c.args.self.now).work)) (sym c.peer-peer.ensures) c.requires in
    let left = lent_then c.args.self.now.table c.throw_waiting_away.new.table (lent_from me c.peer-peer.result c.args.self.now.messages.waiting.items) (lent_from me c.peer-peer.result c.args.self.now.messages.jobs.ready) had c.throw_waiting_away.ensures.back in
    subst (λ (jobs : JobLists). HasLent c.throw_waiting_away.new.table (lent_from me c.peer-peer.result jobs.ready)) (sym (c.lose_of.ensures.jobs ∙ c.throw_waiting_away.ensures.jobs)) left

pub returns-clause-closes : goal.returns-clause-closes
returns-clause-closes c =
    subst (λ (p : ℕ). ClosesDown c.args.self.now.here.space p (state_of c.args.self.now) (state_of record {
      here = c.args.self.now.here;
      sessions = c.args.self.now.sessions;
      table = c.close_pins.new.table;
      dirty = c.unlist_all.new.dirty;
      pins = c.close_pins.new.pins;
      messages = c.throw_ready_away.new.messages;
      calls = c.close-2.new.self;
      calls_made = c.args.self.now.calls_made;
      jobs_made = c.args.self.now.jobs_made;
    })) c.peer-peer.ensures record {
      sessions = refl;
      table = record {
        back = c.throw_ready_away.new.table;
        gives = back_then c.args.self.now.table c.throw_waiting_away.new.table c.throw_ready_away.new.table (lent_from c.args.self.now.here.space c.peer-peer.result c.args.self.now.messages.waiting.items) (lent_from c.args.self.now.here.space c.peer-peer.result c.args.self.now.messages.jobs.ready) c.throw_waiting_away.ensures.back
            (subst (λ (jobs : JobLists). GivesBack c.throw_waiting_away.new.table c.throw_ready_away.new.table (lent_from c.args.self.now.here.space c.peer-peer.result jobs.ready)) (c.lose_of.ensures.jobs ∙ c.throw_waiting_away.ensures.jobs) c.throw_ready_away.ensures.back);
        loses = record {
          closed = λ rep. same_standing c.close_pins.ensures.table.items rep ∙ same_standing c.unlist_all.ensures.table.items rep ∙ c.close.ensures.closed rep;
          places = λ rep. (λ i. place_in (c.close_pins.ensures.table.items.surrogates i) rep) ∙ (λ i. place_in (c.unlist_all.ensures.table.items.surrogates i) rep) ∙ c.close.ensures.places rep;
          me = c.close_pins.ensures.table.items.me ∙ c.unlist_all.ensures.table.items.me ∙ c.close.ensures.left.objects.me;
          exported = c.close_pins.ensures.table.items.exported ∙ c.unlist_all.ensures.table.items.exported ∙ c.close.ensures.left.objects.exported;
          dirties = c.close_pins.ensures.table.items.dirties ∙ c.unlist_all.ensures.table.items.dirties ∙ c.close.ensures.left.dirties;
        };
        kept = λ have. c.close_pins.ensures.kept (c.unlist_all.ensures.kept (λ rep kept. have rep (kept_before (is_of c.throw_ready_away.new.table c.peer-peer.result rep) (is_kept c.throw_ready_away.new.table rep) (sym (c.close.ensures.kept rep) ∙ kept))));
      };
      listed = c.unlist_all.ensures.listed;
      pins = subst (λ (p : ℕ). TakesOutAll c.args.self.now.pins.bundles c.close_pins.new.pins.bundles p) (sym c.peer-peer.ensures) c.close_pins.ensures.pins;
      work = thrown_work c.peer-peer.result (state_of c.args.self.now).work _ c.throw_ready_away.new.messages.jobs.ready c.throw_ready_away.new.messages.jobs.running c.close-2.new.self.replies c.close-2.new.self.calls (ap (λ (w : WaitingList). w.items) c.throw_ready_away.ensures.waiting ∙ c.lose_of.ensures.items ∙ c.throw_waiting_away.ensures.left) (c.throw_ready_away.ensures.left ∙ ap (λ (jobs : JobLists). filter (is_not_from c.peer-peer.result) jobs.ready) (c.lose_of.ensures.jobs ∙ c.throw_waiting_away.ensures.jobs)) (c.throw_ready_away.ensures.running ∙ ap (λ (jobs : JobLists). jobs.running) (c.lose_of.ensures.jobs ∙ c.throw_waiting_away.ensures.jobs)) c.close-2.ensures.replies c.close-2.ensures.calls;
      awaited = λ rep. ap (λ (w : WaitingList). is_awaited w.awaited rep) c.throw_ready_away.ensures.waiting ∙ c.lose_of.ensures.awaited rep ∙ (λ i. not (rep.owner == c.peer-peer.result) && is_awaited (c.throw_waiting_away.ensures.awaited i) rep);
      calls = refl;
      jobs = refl;
    }
