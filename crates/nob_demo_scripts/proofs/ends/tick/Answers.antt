use Rattle.std.proofs.Common.{◌≡◌, ◌∷◌, Result, Ok, Option, sym, ◌∙◌, refl, ap, subst, codes}
use Rattle.nob_model_session.specs.declared.entry.Ending.{Ending}
use Rattle.nob_model_session.specs.declared.refusal.EndRefusal.{EndRefusal}
use Rattle.nob_model_session.specs.declared.entry.EndEntry.TheVariants.{Tick}
use Rattle.nob_session.specs.Stands.{Stands}
use Rattle.nob_demo_scripts.specs.Run.{closed_text, refusal_text, tick_text}
use Rattle.nob_demo_scripts.proofs.ends.tick.Goals as goal

pub returns-in-Ok-None : goal.returns-in-Ok-None
returns-in-Ok-None c = record {
  answer = λ me peer before limits L st.
      let h = c.in-Ok-None.ensures.answer me peer limits L st in
      subst (λ (r : Result (Option Ending) EndRefusal). (codes "ok" ≡ tick_text r) × Stands me peer limits c.tick.new.self.end (Tick r ∷ L)) h.0
      (ap (λ (o : Option Ending). tick_text (Ok o)) (sym c.in-Ok-None.field-0-is), h.1);
}

pub returns-in-Ok-Some : goal.returns-in-Ok-Some
returns-in-Ok-Some c = record {
  answer = λ me peer before limits L st.
      let h = c.in-Ok-Some.ensures.answer me peer limits L st in
      subst (λ (r : Result (Option Ending) EndRefusal). (closed_text c.reason.result ≡ tick_text r) × Stands me peer limits c.tick.new.self.end (Tick r ∷ L)) h.0
      (ap closed_text c.reason.ensures ∙ ap (λ (o : Option Ending). tick_text (Ok o)) (sym c.in-Ok-Some.field-0-is), h.1);
}

pub returns-in-Err : goal.returns-in-Err
returns-in-Err c = record {
  answer = λ me peer before limits L st.
      let h = c.in-Err.ensures.answer me peer limits L st in
      subst (λ (r : Result (Option Ending) EndRefusal). (refusal_text c.in-Err.refusal ≡ tick_text r) × Stands me peer limits c.tick.new.self.end (Tick r ∷ L)) h.0 (refl, h.1);
}
