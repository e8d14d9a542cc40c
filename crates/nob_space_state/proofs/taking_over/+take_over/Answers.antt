use Rattle.std.proofs.Common.{rules, ◌-◌, List, length, take, drop, sym, subst}
use Rattle.nob_ids.specs.declared.wire_rep.WireRep.{WireRep}
use Rattle.nob_space_state.specs.Shows.{TableShows}
use Rattle.nob_space_state.specs.TakingOver.{reps_of, CanTake, with_more, with_fewer}
use Rattle.nob_space_state.proofs.Taking.{can_rest, shows_all, first_rep}
use Rattle.nob_space_state.proofs.taking_over.+take_over.Goals as goal

pub take_over-requires : goal.take_over-requires
take_over-requires t c =
    let split = first_rep c.args.copies.now c.copy-item.result c.in-len1-up.len_at_least c.copy-item.is in
    let can : CanTake c.args.table.now (reps_of c.args.copies.now) = c.requires in (
      search rules,
      can_rest c.args.table.now c.copy-item.result.rep (reps_of (take (length c.args.copies.now - 1) (drop 1 c.args.copies.now))) (subst (CanTake c.args.table.now) split can)
          c.hold.new.self (c.in-Ok.ensures {u = tt}).held c.release.new.self (c.in-Ok-release.ensures {u = tt}).released,
    )

pub returns-in-Ok-release : goal.returns-in-Ok-release
returns-in-Ok-release t c s n h H L shows =
    let split = first_rep c.args.copies.now c.copy-item.result c.in-len1-up.len_at_least c.copy-item.is in
    let can : CanTake c.args.table.now (reps_of c.args.copies.now) = c.requires in
    subst (λ (reps : List WireRep). TableShows s n c.take_over.new.table h (with_more reps H) (with_fewer reps L)) (sym split)
    (shows_all c.copy-item.result.rep (reps_of (take (length c.args.copies.now - 1) (drop 1 c.args.copies.now))) (subst (CanTake c.args.table.now) split can) shows
    c.hold.ensures.left (c.in-Ok.ensures {u = tt}).held c.release.ensures.left (c.in-Ok-release.ensures {u = tt}).released
    (λ M N shown. c.take_over.ensures s n h M N shown))
