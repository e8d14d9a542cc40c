use Rattle.std.proofs.Common.{◌≡◌, ◌∷◌, IfOk, subst}
use Rattle.nob_frame.specs.declared.frame.Frame.{Frame}
use Rattle.nob_model_session.specs.declared.entry.EndEntry.TheVariants.{Arrive}
use Rattle.nob_model_session.specs.Right.{right_arrive}
use Rattle.nob_session.specs.Stands.{Stands}
use Rattle.nob_demo_scripts.specs.Run.{answer_text, arrive_text}
use Rattle.nob_demo_scripts.proofs.ends.arrive.Goals as goal

pub returns-clause-answer : goal.returns-clause-answer
returns-clause-answer c frame me peer limits L spelt st =
    subst (λ (f : Frame). IfOk c.hear.result (λ a. (answer_text a ≡ arrive_text (right_arrive me peer f L)) × Stands me peer limits c.hear.new.session.end (Arrive f (right_arrive me peer f L) ∷ L)))
    (c.in_ok-frame.ensures frame spelt) (c.hear.ensures.answer me peer limits L st)
