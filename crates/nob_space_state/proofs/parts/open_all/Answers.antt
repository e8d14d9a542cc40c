use Rattle.std.proofs.Common.{◌+◌, ◌≤◌, ◌∷◌, [], length, rules, sym, ap, subst, ◌∙◌, arith}
use Rattle.std.proofs.lemmas.List.{length-append}
use Rattle.nob_session.specs.Calls.{beginning}
use Rattle.nob_session.specs.Stands.{end_of}
use Rattle.nob_space_state.specs.Births.{life_of}
use Rattle.nob_space_state.specs.Stands.{AreBegun}
use Rattle.nob_space_state.proofs.Begins.{begun_push, first_low}
use Rattle.nob_space_state.proofs.parts.open_all.Goals as goal

pub open_at-requires : goal.open_at-requires
open_at-requires c =
    let is = (c.in-Some.ensures {u = tt}).value in
    let low : 1 ≤ c.in-Some.peer = omega (arith, is, c.loop-p.invariant.count) in
    let high : c.in-Some.peer ≤ c.args.n = omega (arith, is, c.loop-p-test.true) in
    subst (λ k. 1 ≤ k) (sym c.number.ensures) (first_low c.args.me c.args.n c.in-Some.peer (life_of c.args.birth.now).session c.requires.numbers low high)

pub loop-p-preserved : goal.loop-p-preserved
loop-p-preserved c =
    let before = c.loop-p.sessions.items in
    let items = (c.in_ok-push.ensures {u = tt}).items in
    record {
      count = ap (λ xs. length xs + 1) items ∙ ap (λ k. k + 1) (length-append before (c.in_ok-open_at.field-0 ∷ []) ∙ c.loop-p.invariant.count);
      few = omega (arith, c.loop-p-test.true, c.loop-p.auto.p-fits);
      begun = subst (AreBegun c.args.me (life_of c.args.birth.now).session 1 c.args.limits) (sym items)
          (begun_push c.args.me 1 (life_of c.args.birth.now).session c.args.limits before c.in_ok-open_at.field-0 c.in-Some.peer ((c.in-Some.ensures {u = tt}).value ∙ sym c.loop-p.invariant.count ∙ omega arith) c.loop-p.invariant.begun
          (c.in_ok-open_at.ensures {u = tt} ∙ ap (λ k. beginning k (end_of c.args.me c.in-Some.peer c.args.limits [])) c.number.ensures));
    }
