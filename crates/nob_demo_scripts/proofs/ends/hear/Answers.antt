use Rattle.std.proofs.Common.{◌≡◌, ℕ, List, ◌∷◌, Result, Ok, Err, refl, ap, subst, codes, ◌++◌}
use Rattle.std.specs.Fmt.{decimal}
use Rattle.nob_ids.specs.declared.limits.Limits.{Limits}
use Rattle.nob_model_session.specs.declared.refusal.EndRefusal.{EndRefusal}
use Rattle.nob_model_session.specs.declared.entry.Arrived.{Arrived}
use Rattle.nob_model_session.specs.declared.entry.EndEntry.{EndEntry}
use Rattle.nob_model_session.specs.declared.entry.EndEntry.TheVariants.{Arrive}
use Rattle.nob_frame.specs.declared.frame.Frame.{Frame}
use Rattle.nob_model_session.specs.Right.{right_arrive}
use Rattle.nob_session.specs.Answers.{Answered, arrived_of}
use Rattle.nob_session.specs.declared.closed.Arrival.{Arrival}
use Rattle.nob_session.specs.declared.error.SessionError.{SessionError}
use Rattle.nob_session.specs.Stands.{End, Stands}
use Rattle.nob_demo_scripts.specs.Run.{refusal_text, closed_text, arrive_text}
use Rattle.nob_demo_scripts.proofs.ends.hear.Goals as goal

-- the right answer, and the end after it
P : (me peer : ℕ) → Limits → Frame → List EndEntry → End → Result Arrived EndRefusal → Type 0
P me peer limits frame L new a = (a ≡ right_arrive me peer frame L) × Stands me peer limits new (Arrive frame a ∷ L)

pub returns-in-Ok-Took-clause-answer : goal.returns-in-Ok-Took-clause-answer
unfolding P
returns-in-Ok-Took-clause-answer c me peer limits L st =
    let h = subst (λ (x : Arrival). Answered arrived_of (Ok x) (P me peer limits c.args.frame.now L c.arrive.new.self.end)) c.in-Ok-Took.field-0-is (c.in-Ok-Took.ensures.answer me peer limits L st) in
    subst (λ (r : Result Arrived EndRefusal). (codes "took " ++ decimal c.in-Ok-Took.count ≡ arrive_text r) × Stands me peer limits c.arrive.new.self.end (Arrive c.args.frame.now r ∷ L)) h.0 (refl, h.1)

pub returns-in-Ok-Closed-clause-answer : goal.returns-in-Ok-Closed-clause-answer
unfolding P
returns-in-Ok-Closed-clause-answer c me peer limits L st =
    let h = subst (λ (x : Arrival). Answered arrived_of (Ok x) (P me peer limits c.args.frame.now L c.arrive.new.self.end)) c.in-Ok-Closed.field-0-is (c.in-Ok-Closed.ensures.answer me peer limits L st) in
    subst (λ (r : Result Arrived EndRefusal). (closed_text c.reason.result ≡ arrive_text r) × Stands me peer limits c.arrive.new.self.end (Arrive c.args.frame.now r ∷ L)) h.0 (ap closed_text c.reason.ensures, h.1)

pub returns-in-Err-Refused-clause-answer : goal.returns-in-Err-Refused-clause-answer
unfolding P
returns-in-Err-Refused-clause-answer c me peer limits L st =
    let h = subst (λ (e : SessionError). Answered arrived_of (Err e) (P me peer limits c.args.frame.now L c.arrive.new.self.end)) c.in-Err-Refused.field-0-is (c.in-Err-Refused.ensures.answer me peer limits L st) in
    subst (λ (r : Result Arrived EndRefusal). (refusal_text c.in-Err-Refused.refusal ≡ arrive_text r) × Stands me peer limits c.arrive.new.self.end (Arrive c.args.frame.now r ∷ L)) h.0 (refl, h.1)
