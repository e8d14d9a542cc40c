use Rattle.std.proofs.Common.{◌==◌, filter, map, ap, ◌++◌, ◌∙◌}
use Rattle.nob_space_state.proofs.Returned.{next_lent, next_back, seen_more}
use Rattle.nob_space_state.proofs.returns.give_back_ready.Goals as goal

pub give_back_message-requires : goal.give_back_message-requires
give_back_message-requires c =
    next_lent c.args.me c.args.table.now c.loop-message.table (filter (λ message. message.from == c.args.peer) c.args.messages.now.jobs.ready) (map (λ m. m.now) c.loop-message.yielded) c.next.new.self c.in-Some.message.now
    (c.loop-message.invariant.1 ∙ ap (λ ms. map (λ m. m.now) c.loop-message.yielded ++ ms) (c.in-Some.ensures {u = tt}).steps) c.requires c.loop-message.invariant.0

pub loop-message-preserved : goal.loop-message-preserved
loop-message-preserved c = (
  next_back c.args.me c.args.table.now c.loop-message.table c.give_back_message.new.table c.loop-message.yielded c.in-Some.message c.loop-message.invariant.0 c.give_back_message.ensures,
  seen_more (filter (λ message. message.from == c.args.peer) c.args.messages.now.jobs.ready) c.loop-message.message-iterator c.next.new.self c.loop-message.yielded c.in-Some.message c.loop-message.invariant.1 (c.in-Some.ensures {u = tt}).steps,
)
