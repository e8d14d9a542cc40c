use Rattle.std.proofs.Common.{sym, subst}
use Rattle.nob_recall.specs.Tables.{IsAbout}
use Rattle.nob_recall.proofs.Hearings.{about_arrive, about_open}
use Rattle.nob_recall.proofs.table.hear.Goals as goal

pub returns-in-Arrive : goal.returns-in-Arrive
returns-in-Arrive c J stands = c.hear_of.ensures J (subst (IsAbout c.in-Arrive.frame.from) (sym c.in-Arrive.is) (about_arrive c.in-Arrive.frame)) stands

pub returns-in-Open : goal.returns-in-Open
returns-in-Open c J stands = c.hear_of-in-Open.ensures J (subst (IsAbout c.in-Open.peer) (sym c.in-Open.is) (about_open c.in-Open.peer)) stands
