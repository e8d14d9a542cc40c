use Rattle.std.proofs.Common.{◌≡◌, ℕ, ◌+◌, List, ◌∷◌, ◌++◌, Result, min, max, refl, ap, subst, ◌∙◌, codes}
use Rattle.std.specs.Fmt.{decimal}
use Rattle.nob_model_session.specs.declared.refusal.EndRefusal.{EndRefusal}
use Rattle.nob_model_session.specs.declared.entry.EndEntry.TheVariants.{Reopen}
use Rattle.nob_model_session.specs.End.{last_session}
use Rattle.nob_model_session.specs.Right.{right_reopen}
use Rattle.nob_session.specs.Stands.{End, Stands}
use Rattle.nob_demo_scripts.specs.Run.{next_number, open_text, refusal_text}
use Rattle.nob_demo_scripts.proofs.ends.open.Goals as goal

pub returns-in-Ok : goal.returns-in-Ok
returns-in-Ok c = record {
  answer = λ me peer before limits L st.
      let number : c.next_number-number.result ≡ next_number L = c.next_number-number.ensures ∙ ap (λ (e : End). max (min (e.number + 1) last_session) e.seen) st in
      let h = c.in-Ok.ensures.answer me peer limits L st in
      subst (λ (n : ℕ). (codes "opened " ++ decimal c.next_number-number.result ≡ open_text n (right_reopen n L)) × Stands me peer limits c.reopen.new.self.end (Reopen n (right_reopen n L) ∷ L)) number
      (subst (λ (r : Result (Unit {0}) EndRefusal). (codes "opened " ++ decimal c.next_number-number.result ≡ open_text c.next_number-number.result r) × Stands me peer limits c.reopen.new.self.end (Reopen c.next_number-number.result r ∷ L)) h.0 (refl, h.1));
}

pub returns-in-Err : goal.returns-in-Err
returns-in-Err c = record {
  answer = λ me peer before limits L st.
      let number : c.next_number-number.result ≡ next_number L = c.next_number-number.ensures ∙ ap (λ (e : End). max (min (e.number + 1) last_session) e.seen) st in
      let h = c.in-Err.ensures.answer me peer limits L st in
      subst (λ (n : ℕ). (refusal_text c.in-Err.refusal ≡ open_text n (right_reopen n L)) × Stands me peer limits c.reopen.new.self.end (Reopen n (right_reopen n L) ∷ L)) number
      (subst (λ (r : Result (Unit {0}) EndRefusal). (refusal_text c.in-Err.refusal ≡ open_text c.next_number-number.result r) × Stands me peer limits c.reopen.new.self.end (Reopen c.next_number-number.result r ∷ L)) h.0 (refl, h.1));
}
