use Rattle.std.proofs.Common.{arith}
use Rattle.nob_watch.proofs.Spaces.{asked_by}
use Rattle.nob_watch.proofs.members.is_answered.Goals as goal

pub returns-clause-asked : goal.returns-clause-asked
returns-clause-asked c n list J are =
    let next = c.place-at.ensures.next in
    asked_by (record {
      members = are;
      number = c.place-at.ensures.value;
      low = omega (arith, next);
      high = c.requires.here;
      old_is = c.index_mut.ensures.value;
      same = c.answers.ensures.same;
    }) c.answers.result c.answers.ensures.right c.answers.ensures.stands c.answers.ensures.typed c.answers.ensures.err
