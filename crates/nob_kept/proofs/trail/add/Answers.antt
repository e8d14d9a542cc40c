use Rattle.std.proofs.Common.{List, sym, ap, subst, ◌∙◌}
use Rattle.nob_trace.specs.Stamps.{last_stamp}
use Rattle.nob_trace.proofs.Rising.{last_push}
use Rattle.nob_kept.specs.Accounts.{StandsRight}
use Rattle.nob_kept.proofs.Trails.{none_kept, bytes_none}
use Rattle.nob_kept.proofs.trail.add.Goals as goal

pub returns-in-Nothing-clause-trail : goal.returns-in-Nothing-clause-trail
returns-in-Nothing-clause-trail c =
    let space = c.args.space.now in
    let trail = c.args.trail.now in
    let next = c.requires.next in
    let items = c.pass.ensures.items in
    record {
      n = next.0;
      size = next.1.0;
      stands = subst (StandsRight space) (sym items) next.1.1.0;
      last = sym (ap (last_stamp 0) items ∙ last_push 0 trail.entries.items c.args.entry);
      bytes = bytes_none trail.keep space.id space.n trail.size c.pass.new.self trail.sealed.items c.in-Nothing.is c.pass.ensures.gone
          (none_kept trail.keep space.id space.n trail.size trail.entries trail.sealed.items c.in-Nothing.is next.1.1.1).1;
    }
