use Rattle.std.proofs.Common.{◌≡◌, ℕ, List, ◌∷◌, ◌++◌, ◌∙◌, Result, Ok, refl, subst, codes}
use Rattle.std.specs.Fmt.{decimal}
use Rattle.nob_model_session.specs.declared.refusal.EndRefusal.{EndRefusal}
use Rattle.nob_model_session.specs.declared.entry.Kind.TheVariants.{Limited}
use Rattle.nob_model_session.specs.declared.entry.EndEntry.TheVariants.{Send}
use Rattle.nob_session.specs.Stands.{Stands}
use Rattle.nob_demo_scripts.specs.Run.{put_text}
use Rattle.nob_demo_scripts.proofs.ends.hand.Goals as goal

pub returns-clause-answer : goal.returns-clause-answer
returns-clause-answer c me peer before limits L st =
    let h = c.in-Ok-send.ensures.answer me peer limits L (c.reserve.ensures.same ∙ st) in
    let item : c.in_ok-payload.payload.items ≡ c.args.item = c.in_ok-payload.ensures.items ∙ c.as_slice.ensures in
    subst (λ (r : Result ℕ EndRefusal). (codes "item " ++ decimal c.in-Ok-send.number ≡ put_text r) × Stands me peer limits c.send.new.self.end (Send c.args.item Limited r ∷ L)) h.0
    (refl, subst (λ (p : List ℕ). Stands me peer limits c.send.new.self.end (Send p Limited (Ok c.in-Ok-send.number) ∷ L)) item h.1)
