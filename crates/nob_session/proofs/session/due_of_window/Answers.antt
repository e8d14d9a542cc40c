use Rattle.std.proofs.Common.{◌∙◌, arith}
use Rattle.nob_session.proofs.Given.{due_of_some}
use Rattle.nob_session.proofs.session.due_of_window.Goals as goal

pub returns-then-count-gt0 : goal.returns-then-count-gt0
returns-then-count-gt0 c = λ me peer session ack payloads same.
    c.due_of_items.ensures
    ∙ due_of_some me peer session ack c.args.lowest c.args.transmitted c.args.count c.args.data_arrived payloads same (omega (arith, c.if-count-gt0.true))
