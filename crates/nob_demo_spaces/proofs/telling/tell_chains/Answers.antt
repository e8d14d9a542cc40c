use Rattle.std.proofs.lemmas.Result.{IfOk-weaker}
use Rattle.nob_demo_spaces.proofs.Told.{accepted_told, refused_told}
use Rattle.nob_demo_spaces.proofs.telling.tell_chains.Goals as goal

pub returns-in-Ok : goal.returns-in-Ok
returns-in-Ok c =
    IfOk-weaker c.tell_accepted.result _ _ (λ told counts. accepted_told c.args.prints c.args.score c.args.chains.items c.in-Ok.merged told.0.items told.1 c.if-prints.false c.in-Ok.ensures.checked c.in-Ok.ensures.safe counts) c.tell_accepted.ensures

pub returns-in_ok-lines-in-Err-Fault : goal.returns-in_ok-lines-in-Err-Fault
returns-in_ok-lines-in-Err-Fault c = refused_told c.args.prints c.args.score c.args.chains.items c.in-Err-Fault.field-0-0 _ c.if-prints.false c.in-Err-Fault.field-0 c.in-Err-Fault.field-0-is c.in-Err-Fault.ensures.checked c.in_ok-lines-in-Err-Fault.ensures
