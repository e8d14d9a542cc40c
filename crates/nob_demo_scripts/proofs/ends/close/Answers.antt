use Rattle.std.proofs.Common.{◌≡◌, ◌∷◌, Result, refl, ap, subst}
use Rattle.nob_ids.specs.declared.reason.Reason.TheVariants.{Asked}
use Rattle.nob_model_session.specs.declared.entry.Ending.{Ending}
use Rattle.nob_model_session.specs.declared.refusal.EndRefusal.{EndRefusal}
use Rattle.nob_model_session.specs.declared.entry.EndEntry.TheVariants.{Close}
use Rattle.nob_session.specs.Stands.{Stands}
use Rattle.nob_demo_scripts.specs.Run.{closed_text, refusal_text, close_text}
use Rattle.nob_demo_scripts.proofs.ends.close.Goals as goal

pub returns-in-Ok : goal.returns-in-Ok
returns-in-Ok c = record {
  answer = λ me peer before limits L st.
      let h = c.in-Ok.ensures.answer me peer limits L st in
      subst (λ (r : Result Ending EndRefusal). (closed_text c.reason.result ≡ close_text r) × Stands me peer limits c.close.new.self.end (Close Asked r ∷ L)) h.0 (ap closed_text c.reason.ensures, h.1);
}

pub returns-in-Err : goal.returns-in-Err
returns-in-Err c = record {
  answer = λ me peer before limits L st.
      let h = c.in-Err.ensures.answer me peer limits L st in
      subst (λ (r : Result Ending EndRefusal). (refusal_text c.in-Err.refusal ≡ close_text r) × Stands me peer limits c.close.new.self.end (Close Asked r ∷ L)) h.0 (refl, h.1);
}
