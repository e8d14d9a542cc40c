use Rattle.std.proofs.Common.{flat_map, ap, sym, subst}
use Rattle.nob_model_history.specs.Holds.{loans_of}
use Rattle.nob_model_work.specs.declared.work.Run.{Run}
use Rattle.nob_space_state.specs.Returns.{HasLent, GivesBack}
use Rattle.nob_space_state.proofs.Returned.{back_none, run_lends}
use Rattle.nob_space_state.proofs.returns.give_back_job.Goals as goal

pub returns-in_default : goal.returns-in_default
returns-in_default c = subst (GivesBack c.args.table.now c.args.table.now) (sym (ap (flat_map (λ (run : Run). loans_of c.args.me run.message)) c.in_default.ensures.alone)) (back_none c.args.table.now)

pub give_back_message-requires : goal.give_back_message-requires
give_back_message-requires c = subst (HasLent c.args.table.now) (run_lends c.args.me c.args.job c.args.messages.now.jobs.running (record { job = c.args.job; message = c.in-Some.message.now }) c.in-Some.ensures.alone) c.requires

pub returns : goal.returns
returns c = subst (GivesBack c.args.table.now c.give_back_message.new.table) (sym (run_lends c.args.me c.args.job c.args.messages.now.jobs.running (record { job = c.args.job; message = c.in-Some.message.now }) c.in-Some.ensures.alone)) c.give_back_message.ensures
