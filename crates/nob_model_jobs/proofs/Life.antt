-- The right entries of a life are right with raised job numbers, too, and the two lists stay alike.
use Rattle.std.proofs.Common.{◌≡◌, ℕ, ◌+◌, ◌≤◌, ◌<◌, List, [], ◌∷◌, ◌++◌, map, Option, Some, None, Result, Ok, Err, refl, sym, ap, subst, ◌∙◌, arith}
use Rattle.std.specs.List.{cons_option}
use Rattle.nob_ids.specs.declared.limits.Limits.{Limits}
use Rattle.nob_model_types.specs.declared.event.Event.{Event}
use Rattle.nob_model_types.specs.declared.event.Event.TheVariants as events
use Rattle.nob_model_types.specs.declared.answer.Answer.{Answer}
use Rattle.nob_model_types.specs.declared.answer.Answer.TheVariants as answers
use Rattle.nob_model_types.specs.declared.answer.Job.{Job}
use Rattle.nob_model_types.specs.declared.refusal.Refusal.{Refusal}
use Rattle.nob_model_types.specs.declared.entry.Entry.{Entry}
use Rattle.nob_model_types.specs.declared.deed.Deed.{Deed}
use Rattle.nob_model_types.specs.declared.deed.Deed.TheVariants as did
use Rattle.nob_model_types.specs.Deeds.{deed_of, deed_by, deed_in, deeds}
use Rattle.nob_model_history.specs.Histories.{history_of, history}
use Rattle.nob_model.specs.Right.{last_number, jobs_made, right_claim, right_after, IsRight}
use Rattle.nob_model.specs.Lists.{AreRight, AreRightDeeds}
use Rattle.nob_model.proofs.Claiming.{ready_calls}
use Rattle.nob_model.proofs.Doing.{right_deeds}
use Rattle.nob_model_lives.specs.Births.{Birth, IsBorn}
use Rattle.nob_model_jobs.specs.Raised.{raised_job, raised_event, raised_answer, raised_result, raised_entry}
use Rattle.nob_model_jobs.specs.Alike.{with_more_jobs, AreAlikeButJobs, LifeLaw, StayAlikeLaw}
use Rattle.nob_model_jobs.proofs.Answers.{claims_where, answers_where}
use Rattle.nob_model_jobs.proofs.InStep.{AreInStep, in_step_alike}
use Rattle.nob_model_jobs.proofs.Steps.{raised_deed}
use Rattle.nob_model_jobs.proofs.Sending.{step}
use Rattle.nob_model_jobs.proofs.BornInStep.{born_in_step}

-- what was done, raised
abbrev raised_did : ℕ → Option Deed → Option Deed
raised_did more None = None
raised_did more (Some deed) = Some (raised_deed more deed)

-- a raised event with a raised answer did the raised deed
raised_of : (more : ℕ) (event : Event) (answer : Answer) → deed_of (raised_event more event) (raised_answer more answer) ≡ raised_did more (deed_of event answer)
raised_of more events.Export (answers.Exported rep) = refl
raised_of more (events.Dup rep) answers.Done = refl
raised_of more (events.Release rep) answers.Done = refl
raised_of more (events.Call target method value) (answers.Called call) = refl
raised_of more (events.TakeReply call) (answers.Replied status value) = refl
raised_of more (events.TakeReply call) answers.Ended = refl
raised_of more events.Claim (answers.Job job) = refl
raised_of more (events.Finish job outcome) answers.Finished = refl
raised_of more (events.Finish job outcome) answers.Dropped = refl
raised_of more (events.Act peer) (answers.Acted item) = refl
raised_of more (events.Act peer) (answers.Closed reason) = refl
raised_of more events.Settle (answers.Settled peer item) = refl
raised_of more events.Clean (answers.Cleaned rep) = refl
raised_of more (events.Withdraw index) answers.Withdrawn = refl
raised_of more (events.Transmit peer) (answers.Frames frames) = refl
raised_of more (events.Arrive frame) (answers.Took count) = refl
raised_of more (events.Arrive frame) (answers.Closed reason) = refl
raised_of more (events.Tick peer) answers.Done = refl
raised_of more (events.Tick peer) (answers.Closed reason) = refl
raised_of more (events.Close peer) (answers.Closed reason) = refl
raised_of more (events.Open peer) (answers.Opened number) = refl
raised_of more _ _ = refl

raised_by : (more : ℕ) (event : Event) (result : Result Answer Refusal) → deed_by (raised_event more event) (raised_result more result) ≡ raised_did more (deed_by event result)
raised_by more event (Ok answer) = raised_of more event answer
raised_by more event (Err refusal) = refl

-- jobs are never made fewer
more_jobs : (found : Option Deed) (D : List Deed) → jobs_made D ≤ jobs_made (cons_option found D)
more_jobs None D = omega arith
more_jobs (Some (did.Claim job)) D = omega arith
more_jobs (Some deed) D = omega arith

-- what was done after two lists in step, once and raised: the lists stay in step
did_step : (s n : ℕ) (limits : Limits) (more : ℕ) (D E : List Deed) → AreInStep s n more D E → AreRightDeeds s n limits D → AreRightDeeds s n limits E → (event : Event) → right_after s n limits (history_of s n E) (raised_event more event) ≡ raised_result more (right_after s n limits (history_of s n D) event) → (found : Option Deed) → deed_by event (right_after s n limits (history_of s n D) event) ≡ found → AreInStep s n more (cons_option found D) (cons_option (raised_did more found) E)
did_step s n limits more D E its one two event same None is = its
did_step s n limits more D E its one two event same (Some deed) is =
    step s n limits more D E its one two deed (event, is) (raised_event more event, ap (deed_by (raised_event more event)) same ∙ raised_by more event (right_after s n limits (history_of s n D) event) ∙ ap (raised_did more) is)

-- whether a life goes on in step, and is right
record GoesOn (s n more : ℕ) (limits : Limits) (L M : List Entry) : Type 0 where
  in_step : AreInStep s n more (deeds L) (deeds M)
  right : AreRight s n limits M

-- where an entry claims a job, one more could be claimed before
claim_room : (s n more : ℕ) (limits : Limits) (entry : Entry) (L M : List Entry) → IsRight s n limits entry L → entry.event ≡ events.Claim → (job : Job) → right_claim (history s n L) ≡ Ok (answers.Job job) → jobs_made (deeds (raised_entry more entry ∷ M)) ≤ last_number → jobs_made (deeds M) < last_number
unfolding right_after
claim_room s n more limits entry L M right claim job got room =
    let claims : deed_in entry ≡ Some (did.Claim job) = (λ i. deed_by (claim i) entry.result) ∙ ap (deed_by events.Claim) (right ∙ ap (right_after s n limits (history s n L)) claim ∙ got) in
    let claims_raised : deed_in (raised_entry more entry) ≡ Some (did.Claim (raised_job more job)) = raised_by more entry.event entry.result ∙ ap (raised_did more) claims in
    let count : jobs_made (deeds (raised_entry more entry ∷ M)) ≡ jobs_made (deeds M) + 1 = ap (λ (found : Option Deed). jobs_made (cons_option found (deeds M))) claims_raised in
    omega (arith, count, room)

on_entry : (s n more : ℕ) (limits : Limits) (entry : Entry) (L M : List Entry) → AreRight s n limits (entry ∷ L) → GoesOn s n more limits L M → jobs_made (deeds (raised_entry more entry ∷ M)) ≤ last_number → GoesOn s n more limits (entry ∷ L) (raised_entry more entry ∷ M)
on_entry s n more limits entry L M right its room =
    let alike : AreAlikeButJobs s n more (history s n L) (history s n M) = in_step_alike s n more (deeds L) (deeds M) its.in_step in
    let same : right_after s n limits (history_of s n (deeds M)) (raised_event more entry.event) ≡ raised_result more (right_after s n limits (history_of s n (deeds L)) entry.event) = answers_where s n more limits (history s n L) (history s n M) alike entry.event (λ claim. claims_where s n more limits (history s n L) (history s n M) alike (ready_calls s n (deeds L)) (λ job got. claim_room s n more limits entry L M right.0 claim job got room)) in
    let found : deed_in (raised_entry more entry) ≡ raised_did more (deed_in entry) = raised_by more entry.event entry.result in
    record {
      in_step = subst (λ (o : Option Deed). AreInStep s n more (cons_option (deed_in entry) (deeds L)) (cons_option o (deeds M))) (sym found)
          (did_step s n limits more (deeds L) (deeds M) its.in_step (right_deeds s n limits L right.1) (right_deeds s n limits M its.right) entry.event same (deed_in entry) (ap (deed_by entry.event) (sym right.0)));
      right = (ap (raised_result more) right.0 ∙ sym same, its.right);
    }

goes_on : (s n : ℕ) (limits : Limits) (more : ℕ) (birth : Birth) (L M life : List Entry) → IsBorn s n limits birth L → IsBorn s n limits (with_more_jobs more birth) M → AreRight s n limits (life ++ L) → jobs_made (deeds (map (raised_entry more) life ++ M)) ≤ last_number → GoesOn s n more limits (life ++ L) (map (raised_entry more) life ++ M)
goes_on s n limits more birth L M [] one two right room = record { in_step = born_in_step s n limits more birth L M one two; right = two.right }
goes_on s n limits more birth L M (entry ∷ life) one two right room =
    on_entry s n more limits entry (life ++ L) (map (raised_entry more) life ++ M) right
    (goes_on s n limits more birth L M life one two right.1 (let below = more_jobs (deed_in (raised_entry more entry)) (deeds (map (raised_entry more) life ++ M)) in omega (arith, below, room)))
    room

-- the right entries of a life are right with raised job numbers
pub life_law : LifeLaw
life_law s n limits more birth L M life one two right room = (goes_on s n limits more birth L M life one two right room).right

-- the two lists stay alike
pub stay_law : StayAlikeLaw
stay_law s n limits more birth L M life one two right room = in_step_alike s n more (deeds (life ++ L)) (deeds (map (raised_entry more) life ++ M)) (goes_on s n limits more birth L M life one two right room).in_step
