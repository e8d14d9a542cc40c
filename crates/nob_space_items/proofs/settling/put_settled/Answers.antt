use Rattle.std.proofs.Common.{refl, ap, subst, sym}
use Rattle.nob_space_state.specs.Parts.{state_of, with_table, with_work}
use Rattle.nob_space_state.specs.Returns.{HasLent, GivesBack}
use Rattle.nob_space_items.proofs.Placed.{reply_put, other_put}
use Rattle.nob_space_items.proofs.settling.put_settled.Goals as goal

pub returns-in-Reply-clause-put : goal.returns-in-Reply-clause-put
returns-in-Reply-clause-put c =
    ap (λ W. with_work W c.args.parts.now.calls_made c.args.parts.now.jobs_made (with_table c.put_reply.new.table (state_of c.args.parts.now)))
    (reply_put c.args.message c.in-Reply.call c.in-Reply.status c.in-Reply.value c.args.lost (state_of c.args.parts.now).work c.put_reply.new.calls.replies c.put_reply.new.calls.calls c.in-Reply.is c.put_reply.ensures.replies c.put_reply.ensures.calls)

pub give_back_message-requires : goal.give_back_message-requires
give_back_message-requires c =
    let other = other_put c.args.parts.now.here.space c.args.message c.args.message.item c.args.lost (state_of c.args.parts.now).work c.requires.other c.in_default.not-Reply in
    subst (HasLent c.args.parts.now.table) (sym other.0) c.requires.lent

pub returns-in_default : goal.returns-in_default
returns-in_default c =
    let other = other_put c.args.parts.now.here.space c.args.message c.args.message.item c.args.lost (state_of c.args.parts.now).work c.requires.other c.in_default.not-Reply in
    record {
      back = subst (GivesBack c.args.parts.now.table c.give_back_message.new.table) other.0 c.give_back_message.ensures;
      put = ap (λ W. with_work W c.args.parts.now.calls_made c.args.parts.now.jobs_made (with_table c.give_back_message.new.table (state_of c.args.parts.now))) other.1;
      here = refl;
    }
