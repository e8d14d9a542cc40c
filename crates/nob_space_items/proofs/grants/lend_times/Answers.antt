use Rattle.std.proofs.Common.{◌≡◌, ◌+◌, ◌-◌, ◌++◌, ◌∷◌, [], ap, sym, subst, ◌∙◌, arith}
use lib.ListN.{replicate}
use Rattle.std.proofs.lemmas.List.{replicate-append-replicate}
use Rattle.nob_space_items.specs.Lending.{CanLend, Lends}
use Rattle.nob_space_items.proofs.Granted.{replicate_next}
use Rattle.nob_space_items.proofs.Lends.{first_lendable, then_lendable, lends_then}
use Rattle.nob_space_items.proofs.grants.lend_times.Goals as goal

pub lend-requires : goal.lend-requires
lend-requires c =
    let test = c.loop-done-test.true in
    let all : c.loop-done.done + 1 + (c.args.times - (c.loop-done.done + 1)) ≡ c.args.times = omega (arith, test) in
    let parts : replicate c.args.times c.args.rep.now ≡ replicate (c.loop-done.done + 1) c.args.rep.now ++ replicate (c.args.times - (c.loop-done.done + 1)) c.args.rep.now = ap (λ n. replicate n c.args.rep.now) (sym all) ∙ sym (replicate-append-replicate (c.loop-done.done + 1) (c.args.times - (c.loop-done.done + 1)) c.args.rep.now) in
    let first : CanLend c.args.table.now (replicate (c.loop-done.done + 1) c.args.rep.now) = first_lendable c.args.table.now (replicate (c.loop-done.done + 1) c.args.rep.now) (replicate (c.args.times - (c.loop-done.done + 1)) c.args.rep.now) (subst (CanLend c.args.table.now) parts c.requires) in
    then_lendable c.args.table.now c.loop-done.table (replicate c.loop-done.done c.args.rep.now) (c.args.rep.now ∷ []) (subst (CanLend c.args.table.now) (replicate_next c.loop-done.done c.args.rep.now) first) c.loop-done.invariant.lent

pub loop-done-preserved : goal.loop-done-preserved
loop-done-preserved c =
    let test = c.loop-done-test.true in
    record {
      under = omega (arith, test);
      lent = subst (Lends c.args.table.now c.lend.new.table) (sym (replicate_next c.loop-done.done c.args.rep.now)) (lends_then c.args.table.now c.loop-done.table c.lend.new.table (replicate c.loop-done.done c.args.rep.now) (c.args.rep.now ∷ []) c.loop-done.invariant.lent c.lend.ensures);
    }
