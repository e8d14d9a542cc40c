use Rattle.nob_kept.proofs.Fitting.{added_kind}
use Rattle.nob_keeper.proofs.keeper.Keeper.ask.Goals as goal

pub answer-requires : goal.answer-requires
answer-requires g c =
    let adds = (c.in_ok-call.ensures {u = tt}).adds in
    record { kind = added_kind g.A.AnswerKind.is_one c.args.event.now c.args.seat.now c.call.new.seat adds.0 adds.1 adds.2 c.requires.kind }
