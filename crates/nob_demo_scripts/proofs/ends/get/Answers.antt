use Rattle.std.proofs.Common.{◌≡◌, ℕ, ◌+◌, Bool, true, false, cond, List, [], ◌∷◌, ◌++◌, Option, Some, None, refl, ap, subst, sym, ◌∙◌, codes}
use Rattle.nob_model_session.specs.declared.entry.EndEntry.TheVariants.{Front}
use Rattle.nob_model_session.specs.End.{is_open, takes, waiting}
use Rattle.nob_model_session.specs.Right.{right_front}
use Rattle.nob_session.specs.Stands.{End, Stands}
use Rattle.nob_demo_scripts.specs.Fronts.{is_front}
use Rattle.nob_demo_scripts.specs.Run.{answer_text, got_text, got}
use Rattle.nob_demo_scripts.proofs.Looks.{front_none, front_some, stands_look}
use Rattle.nob_demo_scripts.proofs.ends.get.Goals as goal

pub returns-then-not-is_open-clause-answer : goal.returns-then-not-is_open-clause-answer
returns-then-not-is_open-clause-answer c me peer before limits L st =
    let closed : is_open L ≡ false = sym (c.is_open.ensures.answer me peer limits L st) ∙ c.if-not-is_open.true in
    subst (λ (b : Bool). (codes "N1" ≡ cond b (got_text (right_front L)) (codes "N1")) × Stands me peer limits c.args.session.now.end (cond b (got (right_front L)) [] ++ L)) (sym closed) (refl, st)

pub returns-in_default-clause-answer : goal.returns-in_default-clause-answer
returns-in_default-clause-answer c me peer before limits L st =
    let opened : is_open L ≡ true = sym (c.is_open.ensures.answer me peer limits L st) ∙ c.if-not-is_open.false in
    let seen : is_front (takes L + 1) (waiting L) ≡ None = sym (ap (λ (e : End). is_front (e.taken + 1) e.waiting) st) ∙ sym c.in_ok-answer.ensures.front ∙ c.in_default.is in
    let front : right_front L ≡ None = front_none (takes L + 1) (waiting L) seen in
    subst (λ (b : Bool). (codes "none" ≡ cond b (got_text (right_front L)) (codes "N1")) × Stands me peer limits c.args.session.now.end (cond b (got (right_front L)) [] ++ L)) (sym opened)
    (subst (λ (r : Option (ℕ × List ℕ)). (codes "none" ≡ got_text r) × Stands me peer limits c.args.session.now.end (got r ++ L)) (sym front) (refl, stands_look me peer limits None c.args.session.now.end L st))

pub returns-clause-answer : goal.returns-clause-answer
returns-clause-answer c me peer before limits L st =
    let opened : is_open L ≡ true = sym (c.is_open.ensures.answer me peer limits L st) ∙ c.if-not-is_open.false in
    let seen : is_front (takes L + 1) (waiting L) ≡ Some c.in-Some.answer = sym (ap (λ (e : End). is_front (e.taken + 1) e.waiting) st) ∙ sym c.in_ok-answer.ensures.front ∙ c.in-Some.is in
    let f = front_some (takes L + 1) (waiting L) c.in-Some.answer seen in
    let front : right_front L ≡ Some (takes L + 1, f.0) = f.1 in
    let taken = c.take.ensures.answer me peer limits (Front (Some (takes L + 1, f.0)) ∷ L) (stands_look me peer limits (Some (takes L + 1, f.0)) c.args.session.now.end L st) in
    subst (λ (b : Bool). (answer_text c.in-Some.answer ≡ cond b (got_text (right_front L)) (codes "N1")) × Stands me peer limits c.take.new.self.end (cond b (got (right_front L)) [] ++ L)) (sym opened)
    (subst (λ (r : Option (ℕ × List ℕ)). (answer_text c.in-Some.answer ≡ got_text r) × Stands me peer limits c.take.new.self.end (got r ++ L)) (sym front) (ap answer_text f.2, taken.1))
