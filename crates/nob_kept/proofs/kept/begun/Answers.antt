use Rattle.std.proofs.Common.{◌≡◌, ◌≤◌, List, [], sym, ap, subst, ◌∙◌, rules}
use Rattle.nob_trace.specs.declared.stamped.Stamped.{Stamped}
use Rattle.nob_trace.specs.Stamps.{last_stamp}
use Rattle.nob_kept.specs.Accounts.{StandsRight}
use Rattle.nob_kept.specs.Segments.{IsSize}
use Rattle.nob_kept.proofs.Spots.{staying_new}
use Rattle.nob_kept.proofs.Trails.{bytes_new}
use Rattle.nob_kept.proofs.kept.begun.Goals as goal

pub invariant_of-result : goal.invariant_of-result
invariant_of-result c =
    let space = c.args.space in
    let trail = c.new_trail.result in
    let its = c.new_trail.ensures in
    let number : c.in-Some.n ≡ space.n = search rules in
    let size : IsSize trail.size = subst IsSize (sym its.size) c.requires.size in (
      record {
        n = its.n ∙ number;
        size = size;
        stands = subst (StandsRight space) (sym its.entries) (record { stands = c.requires.new; is_account = record { right = tt; rise = tt } });
        last = its.last ∙ sym (ap (last_stamp 0) its.entries);
        bytes = bytes_new trail.keep space.id space.n trail.size trail.entries trail.sealed.items size.0 its.entries its.gone its.sealed;
      },
      staying_new trail.keep trail.entries.items c.new-2.result.items c.new-2.ensures.items,
    )
