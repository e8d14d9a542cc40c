use Rattle.std.proofs.Common.{sym, subst}
use Rattle.nob_session.specs.Stands.{End, end_of}
use Rattle.nob_session.specs.Stands as ends
use Rattle.nob_space_items.proofs.cleaning.send_note.Goals as goal

pub returns-clause-answer : goal.returns-clause-answer
returns-clause-answer c me peer limits L stands = c.send_reserved.ensures.answer me peer limits L (subst (λ (end : End). ends.Stands me peer limits end L) (sym c.reserve.ensures.same) stands)
