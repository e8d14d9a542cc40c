use Rattle.std.proofs.Common.{◌≡◌, ◌++◌, find, Option, Some, true, false, option_copied, refl, sym, ap, subst, ◌∙◌}
use Rattle.std.proofs.lemmas.Option.{none-some}
use Rattle.nob_model_types.specs.declared.message.Message.{Message}
use Rattle.nob_model_work.specs.Work.{after_settlement}
use Rattle.nob_space_state.specs.Returns.{HasLent, GivesBack}
use Rattle.nob_space_state.proofs.Returned.{back_none}
use Rattle.nob_space_messages.specs.Messages.{if_any}
use Rattle.nob_space_messages.specs.Waiting.{is_settleable_in}
use Rattle.nob_space_state.specs.Parts.{state_of}
use Rattle.nob_space_state.proofs.Firsts.{some_same}
use Rattle.nob_space_items.specs.Settling.{becomes_job, loans_ended, without_settled}
use Rattle.nob_space_items.proofs.Placed.{job_put}
use Rattle.nob_space_items.proofs.settling.put_first.Goals as goal

pub returns-in_default : goal.returns-in_default
returns-in_default c = record {
  back = λ message found. absurd (none-some message (ap option_copied (sym c.in_default.is) ∙ c.first_settleable.ensures ∙ found));
  put = λ message found. absurd (none-some message (ap option_copied (sym c.in_default.is) ∙ c.first_settleable.ensures ∙ found));
  here = refl;
}

pub returns-then-becomes_job : goal.returns-then-becomes_job
returns-then-becomes_job c = record {
  back = λ message found.
      let one : c.in-Some.message.now ≡ message = some_same (ap option_copied (sym c.in-Some.is) ∙ c.first_settleable.ensures ∙ found) in
      let is : becomes_job message.item c.args.lost ≡ true = subst (λ (m : Message). becomes_job m.item c.args.lost ≡ true) one (sym c.becomes_job.ensures ∙ c.if-becomes_job.true) in
      let job = job_put c.args.parts.now.here.space message message.item c.args.lost (without_settled c.args.parts.now.messages.waiting (state_of c.args.parts.now).work) is in
      subst (GivesBack c.args.parts.now.table c.args.parts.now.table) (sym job.0) (back_none c.args.parts.now.table);
  put = λ message found.
      let one : c.in-Some.message.now ≡ message = some_same (ap option_copied (sym c.in-Some.is) ∙ c.first_settleable.ensures ∙ found) in
      let is : becomes_job message.item c.args.lost ≡ true = subst (λ (m : Message). becomes_job m.item c.args.lost ≡ true) one (sym c.becomes_job.ensures ∙ c.if-becomes_job.true) in
      let job = job_put c.args.parts.now.here.space message message.item c.args.lost (without_settled c.args.parts.now.messages.waiting (state_of c.args.parts.now).work) is in
      let ready = c.settle.ensures.ready ∙ ap (λ (o : Option Message). c.args.parts.now.messages.jobs.ready ++ if_any o) found in
      (λ i. record {
        sessions = c.args.parts.now.sessions.items;
        table = c.args.parts.now.table;
        dirty = c.args.parts.now.dirty;
        pins = c.args.parts.now.pins;
        work = record { waiting = c.settle.ensures.items i; ready = ready i; running = c.settle.ensures.running i; replies = c.args.parts.now.calls.replies; calls = c.args.parts.now.calls.calls };
        awaited = c.settle.ensures.awaited i;
        calls = c.args.parts.now.calls_made;
        jobs = c.args.parts.now.jobs_made;
      }) ∙ (λ i. record {
        sessions = c.args.parts.now.sessions.items;
        table = c.args.parts.now.table;
        dirty = c.args.parts.now.dirty;
        pins = c.args.parts.now.pins;
        work = sym job.1 i;
        awaited = c.args.parts.now.messages.waiting.awaited;
        calls = c.args.parts.now.calls_made;
        jobs = c.args.parts.now.jobs_made;
      });
  here = refl;
}

pub put_settled-requires-clause-other : goal.put_settled-requires-clause-other
put_settled-requires-clause-other c =
    let one : c.in-Some.message.now ≡ c.in-Some-take_settleable.message = some_same (ap option_copied (sym c.in-Some.is) ∙ c.first_settleable.ensures ∙ sym c.take_settleable.ensures.message ∙ c.in-Some-take_settleable.is) in
    subst (λ (m : Message). becomes_job m.item c.args.lost ≡ false) one (sym c.becomes_job.ensures ∙ c.if-becomes_job.false)

pub put_settled-requires-clause-lent : goal.put_settled-requires-clause-lent
put_settled-requires-clause-lent c = c.requires.lent c.in-Some-take_settleable.message (sym c.take_settleable.ensures.message ∙ c.in-Some-take_settleable.is)

pub returns : goal.returns
returns c = record {
  back = λ message found.
      let one : c.in-Some-take_settleable.message ≡ message = some_same (sym c.in-Some-take_settleable.is ∙ c.take_settleable.ensures.message ∙ found) in
      subst (λ (m : Message). GivesBack c.args.parts.now.table c.put_settled.new.parts.table (loans_ended c.args.parts.now.here.space m m.item c.args.lost)) one c.put_settled.ensures.back;
  put = λ message found.
      let one : c.in-Some-take_settleable.message ≡ message = some_same (sym c.in-Some-take_settleable.is ∙ c.take_settleable.ensures.message ∙ found) in
      c.put_settled.ensures.put ∙ (λ i. record {
        sessions = c.args.parts.now.sessions.items;
        table = c.put_settled.new.parts.table;
        dirty = c.args.parts.now.dirty;
        pins = c.args.parts.now.pins;
        work = after_settlement (one i) (one i).item c.args.lost (record { waiting = c.take_settleable.ensures.items i; ready = (c.take_settleable.ensures.jobs i).ready; running = (c.take_settleable.ensures.jobs i).running; replies = c.args.parts.now.calls.replies; calls = c.args.parts.now.calls.calls });
        awaited = c.take_settleable.ensures.awaited i;
        calls = c.args.parts.now.calls_made;
        jobs = c.args.parts.now.jobs_made;
      });
  here = c.put_settled.ensures.here;
}
