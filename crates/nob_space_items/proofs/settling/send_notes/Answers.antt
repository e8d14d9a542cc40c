use Rattle.std.proofs.Common.{◌≡◌, ℕ, ◌+◌, ◌∷◌, Ok, sym, ap, subst, ◌∙◌, arith}
use Rattle.nob_model_session.specs.declared.entry.EndEntry.TheVariants.{Send}
use Rattle.nob_model_session.specs.declared.entry.Kind.TheVariants.{Note}
use Rattle.nob_session.specs.Stands.{End}
use Rattle.nob_session.specs.Stands as ends
use Rattle.nob_space_items.proofs.settling.send_notes.Goals as goal

pub returns-in-Some-clause-answer : goal.returns-in-Some-clause-answer
returns-in-Some-clause-answer c me peer limits L stands =
    let first : c.send_reserved.result ≡ c.args.session.now.end.handed + 1 = c.send_reserved.ensures.number ∙ ap (λ (end : End). end.handed + 1) c.reserve.ensures.same in
    let settle : ends.Stands me peer limits c.send_reserved.new.session.end (Send c.args.settle.items Note (Ok (c.args.session.now.end.handed + 1)) ∷ L) =
    subst (λ (k : ℕ). ends.Stands me peer limits c.send_reserved.new.session.end (Send c.args.settle.items Note (Ok k) ∷ L)) first (c.send_reserved.ensures.answer me peer limits L (subst (λ (end : End). ends.Stands me peer limits end L) (sym c.reserve.ensures.same) stands)) in
    let count : c.send_reserved.new.session.end.handed ≡ c.args.session.now.end.handed + 1 = ap (λ (end : End). end.handed) c.send_reserved.ensures.sent ∙ ap (λ (end : End). end.handed + 1) c.reserve.ensures.same in
    let next = c.send_reserved-in-Some.ensures.number in
    let second : c.send_reserved-in-Some.result ≡ c.args.session.now.end.handed + 2 = omega (arith, next, count) in
    rw c.in-Some.is (subst (λ (k : ℕ). ends.Stands me peer limits c.send_reserved-in-Some.new.session.end (Send c.in-Some.payload.items Note (Ok k) ∷ Send c.args.settle.items Note (Ok (c.args.session.now.end.handed + 1)) ∷ L)) second
    (c.send_reserved-in-Some.ensures.answer me peer limits (Send c.args.settle.items Note (Ok (c.args.session.now.end.handed + 1)) ∷ L) settle))

pub returns-in_default-clause-answer : goal.returns-in_default-clause-answer
returns-in_default-clause-answer c me peer limits L stands =
    let first : c.send_reserved.result ≡ c.args.session.now.end.handed + 1 = c.send_reserved.ensures.number ∙ ap (λ (end : End). end.handed + 1) c.reserve.ensures.same in
    rw c.in_default.is (subst (λ (k : ℕ). ends.Stands me peer limits c.send_reserved.new.session.end (Send c.args.settle.items Note (Ok k) ∷ L)) first (c.send_reserved.ensures.answer me peer limits L (subst (λ (end : End). ends.Stands me peer limits end L) (sym c.reserve.ensures.same) stands)))
