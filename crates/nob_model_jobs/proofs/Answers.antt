-- After two lists that are alike the right answers are the same, with raised job numbers.
use Rattle.std.proofs.Common.{◌≡◌, ℕ, suc, ◌+◌, ◌<◌, ◌&&◌, ◌||◌, not, Bool, true, false, cond, List, [], ◌∷◌, length, map, filter, find, flat_map, Option, Some, None, Result, Ok, Err, refl, sym, ap, ◌∙◌, arith}
use Rattle.std.specs.Prelude.{◌==◌, nat_le, nat_lt}
use Rattle.std.specs.List.{list_any, list_all, AllByRecursion}
use Rattle.std.proofs.lemmas.Bool.{eqb-true, eq-eqb, eqb-false, ne_eqb, leb-true, le-leb, false_from_ne_true, not_from_false}
use Rattle.nob_ids.specs.Names.{is_counted}
use Rattle.nob_ids.specs.declared.limits.Limits.{Limits}
use Rattle.nob_ids.specs.declared.reason.Reason.{Reason}
use Rattle.nob_ids.specs.declared.reason.Reason.TheVariants.{Asked, BadReference, OutOfPlace}
use Rattle.nob_ids.specs.declared.wire_rep.WireRep.{WireRep}
use Rattle.nob_frame.specs.declared.frame.Frame.{Frame}
use Rattle.nob_pickle.specs.Spelling.{refs_in}
use Rattle.nob_pickle.specs.Writing.{pickle_of}
use Rattle.nob_pickle.specs.declared.value.Value.{Value}
use Rattle.nob_item.specs.Kinds.{counted_in}
use Rattle.nob_item.specs.declared.item.Item.{Item}
use Rattle.nob_item.specs.declared.item.Item.TheVariants as items
use Rattle.nob_model_session.specs.End.{last_item, last_session}
use Rattle.nob_model_session.specs.Right.{right_transmit, right_arrive, right_front, right_tick, right_close}
use Rattle.nob_model_session.specs.declared.refusal.EndRefusal.{EndRefusal}
use Rattle.nob_model_session.specs.declared.entry.Ending.{Ending}
use Rattle.nob_model_session.specs.declared.entry.Arrived.{Arrived}
use Rattle.nob_model_session.specs.declared.entry.Arrived.TheVariants as arrived
use Rattle.nob_model_session.specs.declared.entry.Kind.TheVariants.{Limited}
use Rattle.nob_model_types.specs.declared.event.Event.{Event}
use Rattle.nob_model_types.specs.declared.event.Event.TheVariants as events
use Rattle.nob_model_types.specs.declared.event.Outcome.{Outcome}
use Rattle.nob_model_types.specs.declared.answer.Answer.{Answer}
use Rattle.nob_model_types.specs.declared.answer.Answer.TheVariants as answers
use Rattle.nob_model_types.specs.declared.answer.Job.{Job}
use Rattle.nob_model_types.specs.declared.refusal.Refusal.{Refusal}
use Rattle.nob_model_types.specs.declared.refusal.Refusal.TheVariants as refusals
use Rattle.nob_model_types.specs.declared.refusal.Use.TheVariants as uses
use Rattle.nob_model_types.specs.declared.message.Message.{Message}
use Rattle.nob_model_types.specs.declared.message.RefCopy.{RefCopy}
use Rattle.nob_model_types.specs.Messages.{is_lost_message, replies_to}
use Rattle.nob_model_types.specs.Sessions.{is_peer, closed, item_spelt}
use Rattle.nob_model_types.specs.Objects.{exports, is_live, live}
use Rattle.nob_model_types.specs.Turns.{is_standing, is_own, is_usable, is_granted, is_refused, is_pending, is_lost, is_resolved}
use Rattle.nob_model_work.specs.declared.gifts.Gift.{Gift}
use Rattle.nob_model_work.specs.declared.work.Outstanding.{Outstanding}
use Rattle.nob_model_work.specs.declared.work.OwnCall.{OwnCall}
use Rattle.nob_model_work.specs.declared.work.Run.{Run}
use Rattle.nob_model_work.specs.declared.work.Stage.{Stage}
use Rattle.nob_model_work.specs.declared.work.Stage.TheVariants as stages
use Rattle.nob_model_work.specs.Work.{is_call, is_run}
use Rattle.nob_model_work.specs.Gifts.{once, dirty_for, dirties_for, value_of}
use Rattle.nob_model_history.specs.declared.history.History.{History}
use Rattle.nob_model_history.specs.declared.transit.SentItem.{SentItem}
use Rattle.nob_model_history.specs.Histories.{history}
use Rattle.nob_model_history.specs.Ends.{items_to, calls_at}
use Rattle.nob_model_history.specs.Holds.{times, hand, is_held}
use Rattle.nob_model_history.specs.Transit.{pinned, pins, is_some_of, first_idle}
use Rattle.nob_model_history.specs.Listing.{is_any_listed}
use Rattle.nob_model_acting.specs.Sending.{◌or_else◌, refuse_if, is_gone, is_faulty, refs_refused, value_refused, refusal_in, send_refused, has_numbers, unless}
use Rattle.nob_model_acting.specs.Acting.{fault_if, first_fault, names_not_live, awaits_reply, is_unknown, awaits_answer, fault_of, messages, most_messages, most_surrogates, new_dirties, is_too_much, all_have_numbers, message_refusal, act_refusal, answer_of_act, act_on}
use Rattle.nob_model_acting.specs.Candidates.{to_settle, target_of, is_free, to_claim}
use Rattle.nob_model_holdings.proofs.Lists.{all_pass}
use Rattle.nob_model.proofs.Carrying.{all_found}
use Rattle.nob_model.proofs.Claiming.{is_a_call, AreCalls}
use Rattle.nob_model.specs.Opening.{is_owned_by, carries_any_of, next_number, open_refused, right_open}
use Rattle.nob_model.specs.Right.{most_objects, last_number, right_export, right_dup, greatest_hand, right_release, calls_made, most_calls, right_call, is_handful, answer_of_reply, answer_of_stage, answer_of_call, take_of, right_take_reply, jobs_made, job_of, claim_of, right_claim, has_ended, finish_of, right_finish, act_of, right_act, settle_count, settle_of, right_settle, clean_of, right_clean, own_ref, withdraw_refused, right_withdraw, right_frames, arrival_of, right_arrival, tick_of, right_ticks, closing_of, right_closing, right_after}
use Rattle.nob_model_jobs.specs.Raised.{raised_event, raised_answer, raised_result, raised_run}
use Rattle.nob_model_jobs.specs.Alike.{AreAlikeButJobs, RaisedLaw}
use Rattle.nob_model_jobs.proofs.Ends.{same_send, same_transmit, same_front, same_tick, same_close, same_handed, same_arrive}

-- ---- results without a job

raised_unless : (more : ℕ) (refused : Option Refusal) (answer : Answer) → raised_result more (unless refused answer) ≡ unless refused (raised_answer more answer)
raised_unless more (Some refusal) answer = refl
raised_unless more None answer = refl

raised_arrival : (more : ℕ) (took : Result Arrived EndRefusal) → raised_result more (arrival_of took) ≡ arrival_of took
raised_arrival more (Ok (arrived.Took count)) = refl
raised_arrival more (Ok (arrived.Closed ending)) = refl
raised_arrival more (Err refusal) = refl

raised_tick : (more : ℕ) (done : Result (Option Ending) EndRefusal) → raised_result more (tick_of done) ≡ tick_of done
raised_tick more (Ok None) = refl
raised_tick more (Ok (Some ending)) = refl
raised_tick more (Err refusal) = refl

raised_closing : (more : ℕ) (done : Result Ending EndRefusal) → raised_result more (closing_of done) ≡ closing_of done
raised_closing more (Ok ending) = refl
raised_closing more (Err refusal) = refl

raised_if : (more : ℕ) (test : Bool) (refusal : Refusal) (result : Result Answer Refusal) → raised_result more result ≡ result → raised_result more (cond test (Err refusal) result) ≡ cond test (Err refusal) result
raised_if more true refusal result same = refl
raised_if more false refusal result same = same

raised_act : (more k : ℕ) (fault : Option Reason) (kept : Option Refusal) → raised_result more (answer_of_act k fault kept) ≡ answer_of_act k fault kept
raised_act more k (Some reason) kept = refl
raised_act more k None (Some refusal) = refl
raised_act more k None None = refl

-- ---- lists

any_alike : {X : Type 0} (f g : X → Bool) (xs : List X) → AllByRecursion (λ x. f x ≡ g x) xs → list_any f xs ≡ list_any g xs
any_alike f g [] all = refl
any_alike f g (x ∷ xs) all = λ i. all.0 i || any_alike f g xs all.1 i

all_weaker : {X : Type 0} (P Q : X → Type 0) → ((x : X) → P x → Q x) → (xs : List X) → AllByRecursion P xs → AllByRecursion Q xs
all_weaker P Q step [] all = tt
all_weaker P Q step (x ∷ xs) all = (step x all.0, all_weaker P Q step xs all.1)

any_mapped : (more : ℕ) (test : Run → Bool) (runs : List Run) → ((run : Run) → test (raised_run more run) ≡ test run) → list_any test (map (raised_run more) runs) ≡ list_any test runs
any_mapped more test [] same = refl
any_mapped more test (run ∷ runs) same = λ i. same run i || any_mapped more test runs same i

length_mapped : (more : ℕ) (runs : List Run) → length (map (raised_run more) runs) ≡ length runs
length_mapped more [] = refl
length_mapped more (run ∷ runs) = ap suc (length_mapped more runs)

-- what was found, raised
abbrev pub raised_found : ℕ → Option Run → Option Run
raised_found more None = None
raised_found more (Some run) = Some (raised_run more run)

pub same_numbers : (j k more : ℕ) → (j + more == k + more) ≡ (j == k)
same_numbers j k more = elim (j == k) as (λ (b : Bool). (j == k) ≡ b → (j + more == k + more) ≡ b) [
  | true ↦ λ e. (let same = eqb-true j k e in eq-eqb (j + more) (k + more) (omega (arith, same)))
  | false ↦ λ e. ne_eqb (j + more) (k + more) (λ same. eqb-false j k e (omega (arith, same)))
] refl

found_if : (more : ℕ) (b : Bool) (run : Run) (found found' : Option Run) → found' ≡ raised_found more found → cond b (Some (raised_run more run)) found' ≡ raised_found more (cond b (Some run) found)
found_if more true run found found' same = refl
found_if more false run found found' same = same

pub found_mapped : (more job : ℕ) (runs : List Run) → find (is_run (job + more)) (map (raised_run more) runs) ≡ raised_found more (find (is_run job) runs)
found_mapped more job [] = refl
found_mapped more job (run ∷ runs) =
    ap (λ (b : Bool). cond b (Some (raised_run more run)) (find (is_run (job + more)) (map (raised_run more) runs))) (same_numbers run.job job more)
    ∙ found_if more (run.job == job) run (find (is_run job) runs) (find (is_run (job + more)) (map (raised_run more) runs)) (found_mapped more job runs)

-- ---- tests that matter of counted references alone

and_alike : (counted x y : Bool) → (counted ≡ true → x ≡ y) → (counted && not x) ≡ (counted && not y)
and_alike true x y same = ap not (same refl)
and_alike false x y same = refl

dup_alike : (counted gone held held' shut full full' : Bool) → (counted ≡ true → held ≡ held') → (counted ≡ true → full ≡ full') → unless (refuse_if (counted && gone) refusals.NoObject or_else refuse_if (not counted || not held) refusals.NotHeld or_else refuse_if shut refusals.Closed or_else refuse_if full refusals.Limit) answers.Done ≡ unless (refuse_if (counted && gone) refusals.NoObject or_else refuse_if (not counted || not held') refusals.NotHeld or_else refuse_if shut refusals.Closed or_else refuse_if full' refusals.Limit) answers.Done
dup_alike true gone held held' shut full full' a b = λ i. unless (refuse_if gone refusals.NoObject or_else refuse_if (not (a refl i)) refusals.NotHeld or_else refuse_if shut refusals.Closed or_else refuse_if (b refl i) refusals.Limit) answers.Done
dup_alike false gone held held' shut full full' a b = refl

release_alike : (counted gone empty empty' : Bool) → (counted ≡ true → empty ≡ empty') → unless (refuse_if (counted && gone) refusals.NoObject or_else refuse_if (not counted || empty) refusals.NotHeld) answers.Done ≡ unless (refuse_if (counted && gone) refusals.NoObject or_else refuse_if (not counted || empty') refusals.NotHeld) answers.Done
release_alike true gone empty empty' a = λ i. unless (refuse_if gone refusals.NoObject or_else refuse_if (a refl i) refusals.NotHeld) answers.Done
release_alike false gone empty empty' a = refl

withdraw_alike : (agent dead held held' pinned listed : Bool) → (agent ≡ false → held ≡ held') → (refuse_if agent (refusals.StillUsed uses.Agent) or_else refuse_if dead refusals.NoObject or_else refuse_if held (refusals.StillUsed uses.Held) or_else refuse_if pinned (refusals.StillUsed uses.InTransit) or_else refuse_if listed (refusals.StillUsed uses.Listed)) ≡ (refuse_if agent (refusals.StillUsed uses.Agent) or_else refuse_if dead refusals.NoObject or_else refuse_if held' (refusals.StillUsed uses.Held) or_else refuse_if pinned (refusals.StillUsed uses.InTransit) or_else refuse_if listed (refusals.StillUsed uses.Listed))
withdraw_alike true dead held held' pinned listed a = refl
withdraw_alike false dead held held' pinned listed a = λ i. refuse_if dead refusals.NoObject or_else refuse_if (a refl i) (refusals.StillUsed uses.Held) or_else refuse_if pinned (refusals.StillUsed uses.InTransit) or_else refuse_if listed (refusals.StillUsed uses.Listed)

module _ (s n more : ℕ) (limits : Limits) (h k : History) (its : AreAlikeButJobs s n more h k) where
  -- what is outstanding beside the jobs that run is the same
  waits_alike : k.work.waiting ≡ h.work.waiting
  waits_alike = ap (λ (W : Outstanding). W.waiting) its.outstanding

  ready_alike : k.work.ready ≡ h.work.ready
  ready_alike = ap (λ (W : Outstanding). W.ready) its.outstanding

  replies_alike : k.work.replies ≡ h.work.replies
  replies_alike = ap (λ (W : Outstanding). W.replies) its.outstanding

  calls_alike : k.work.calls ≡ h.work.calls
  calls_alike = ap (λ (W : Outstanding). W.calls) its.outstanding

  runs_alike : k.work.running ≡ map (raised_run more) h.work.running
  runs_alike = ap (λ (W : Outstanding). W.running) its.outstanding

  gone_alike : (rep : WireRep) → is_gone s rep h ≡ is_gone s rep k
  gone_alike rep = λ i. is_own s rep && not (its.alive rep.index i)

  -- ---- what may be sent

  refs_alike : (reps : List WireRep) → AllByRecursion (λ rep. is_counted rep ≡ true) reps → refs_refused s h reps ≡ refs_refused s k reps
  refs_alike [] all = refl
  refs_alike (rep ∷ reps) all = λ i. (refuse_if (gone_alike rep i) refusals.NoObject or_else refuse_if (not (its.held rep all.0 i)) refusals.NotHeld or_else refuse_if (not (is_own s rep) && its.shut rep.owner i) refusals.Closed) or_else refs_alike reps all.1 i

  value_alike : (value : Value) → value_refused s h value ≡ value_refused s k value
  value_alike value = λ i. refuse_if (is_faulty (pickle_of value)) refusals.TooBig or_else refs_alike (filter is_counted (refs_in value)) (all_pass is_counted (refs_in value)) i

  send_alike : (p : ℕ) → send_refused p Limited h ≡ send_refused p Limited k
  send_alike p = ap refusal_in (same_send (calls_at p h) (calls_at p k) (its.ends p) Limited)

  numbers_alike : (p count : ℕ) → has_numbers p count h ≡ has_numbers p count k
  numbers_alike p count = ap (λ (m : ℕ). nat_le (m + count) last_item) (same_handed (calls_at p h) (calls_at p k) (its.ends p))

  -- ---- events of the user

  export_alike : right_export s h ≡ right_export s k
  unfolding right_export
  export_alike = λ i. unless (refuse_if (nat_le most_objects (its.live_count i) || nat_le last_number (its.given i)) refusals.Limit) (answers.Exported (record { owner = s; index = its.given i + 1 }))

  dups_alike : (rep : WireRep) → right_dup s rep h ≡ right_dup s rep k
  unfolding right_dup
  dups_alike rep =
      (λ i. unless (refuse_if (is_counted rep && gone_alike rep i) refusals.NoObject or_else refuse_if (not (is_counted rep) || not (is_held s rep h)) refusals.NotHeld or_else refuse_if (not (is_own s rep) && its.shut rep.owner i) refusals.Closed or_else refuse_if (nat_le greatest_hand (hand rep h.deeds)) refusals.Limit) answers.Done)
      ∙ dup_alike (is_counted rep) (is_gone s rep k) (is_held s rep h) (is_held s rep k) (not (is_own s rep) && closed rep.owner k.deeds) (nat_le greatest_hand (hand rep h.deeds)) (nat_le greatest_hand (hand rep k.deeds)) (its.held rep) (λ counted. ap (nat_le greatest_hand) (its.hands rep counted))

  releases_alike : (rep : WireRep) → right_release s rep h ≡ right_release s rep k
  unfolding right_release
  releases_alike rep =
      (λ i. unless (refuse_if (is_counted rep && gone_alike rep i) refusals.NoObject or_else refuse_if (not (is_counted rep) || hand rep h.deeds == 0) refusals.NotHeld) answers.Done)
      ∙ release_alike (is_counted rep) (is_gone s rep k) (hand rep h.deeds == 0) (hand rep k.deeds == 0) (λ counted. ap (λ (m : ℕ). m == 0) (its.hands rep counted))

  call_alike : (target : WireRep) (value : Value) → right_call s n target value h ≡ right_call s n target value k
  unfolding right_call
  call_alike target value = λ i. unless (refuse_if (not (is_peer s n target.owner)) refusals.NoPeer or_else refuse_if (its.shut target.owner i) refusals.Closed or_else refuse_if (and_alike (is_counted target) (is_held s target h) (is_held s target k) (its.held target) i) refusals.NotHeld or_else value_alike value i or_else refuse_if (nat_le most_calls (length (sym calls_alike i)) || nat_le last_number (its.called i)) refusals.Limit or_else send_alike target.owner i) (answers.Called (its.called i + 1))

  handful_alike : (value : Value) → is_handful value h ≡ is_handful value k
  handful_alike value =
      any_alike (λ rep. nat_lt greatest_hand (hand rep h.deeds + times rep (filter is_counted (refs_in value)))) (λ rep. nat_lt greatest_hand (hand rep k.deeds + times rep (filter is_counted (refs_in value)))) (filter is_counted (refs_in value))
      (all_weaker (λ rep. is_counted rep ≡ true) (λ rep. nat_lt greatest_hand (hand rep h.deeds + times rep (filter is_counted (refs_in value))) ≡ nat_lt greatest_hand (hand rep k.deeds + times rep (filter is_counted (refs_in value)))) (λ rep counted. ap (λ (m : ℕ). nat_lt greatest_hand (m + times rep (filter is_counted (refs_in value)))) (its.hands rep counted)) (filter is_counted (refs_in value)) (all_pass is_counted (refs_in value)))

  reply_alike : (item : Item) → answer_of_reply item k ≡ raised_result more (answer_of_reply item h)
  unfolding answer_of_reply
  reply_alike (items.Reply call status value) = ap (λ (b : Bool). unless (refuse_if b refusals.Limit) (answers.Replied status value)) (sym (handful_alike value)) ∙ sym (raised_unless more (refuse_if (is_handful value h) refusals.Limit) (answers.Replied status value))
  reply_alike (items.Call call target method value) = refl
  reply_alike (items.Settle item) = refl
  reply_alike (items.Dirty index) = refl
  reply_alike (items.DirtyOk index) = refl
  reply_alike (items.DirtyNo index) = refl
  reply_alike (items.Clean index) = refl

  stage_alike : (stage : Stage) → answer_of_stage stage ≡ raised_result more (answer_of_stage stage)
  stage_alike stages.Sent = refl
  stage_alike stages.Answered = refl
  stage_alike stages.Ended = refl

  answered_alike : (own : OwnCall) (found : Option Message) → answer_of_call own found k ≡ raised_result more (answer_of_call own found h)
  unfolding answer_of_call
  answered_alike own (Some message) = reply_alike message.item
  answered_alike own None = stage_alike own.stage

  taken_alike : (call : ℕ) (found : Option OwnCall) → take_of call found k ≡ raised_result more (take_of call found h)
  unfolding take_of
  taken_alike call None = refl
  taken_alike call (Some own) =
      ap (λ (ms : List Message). answer_of_call own (find (λ message. replies_to call message.item) ms) k) replies_alike
      ∙ answered_alike own (find (λ message. replies_to call message.item) h.work.replies)

  takes_alike : (call : ℕ) → right_take_reply call k ≡ raised_result more (right_take_reply call h)
  unfolding right_take_reply
  takes_alike call = ap (λ (own : List OwnCall). take_of call (find (is_call call) own) k) calls_alike ∙ taken_alike call (find (is_call call) h.work.calls)

  -- ---- jobs

  free_alike : (message : Message) → is_free k.work message ≡ is_free h.work message
  free_alike message =
      ap (λ (runs : List Run). not (list_any (λ run. target_of run.message.item == target_of message.item) runs)) runs_alike
      ∙ ap not (any_mapped more (λ run. target_of run.message.item == target_of message.item) h.work.running (λ run. refl))

  next_alike : to_claim k ≡ to_claim h
  next_alike = λ i. find (λ message. free_alike message i) (ready_alike i)

  job_alike : (p : ℕ) (item : Item) → job_of (jobs_made k.deeds + 1) p item ≡ raised_result more (job_of (jobs_made h.deeds + 1) p item)
  unfolding job_of
  job_alike p (items.Call call target method value) = (let claimed = its.claimed in ap (λ (j : ℕ). Ok (answers.Job (record { job = j; call = call; target = target; client = p; method = method; value = value }))) (omega (arith, claimed)))
  job_alike p (items.Reply call status value) = refl
  job_alike p (items.Settle item) = refl
  job_alike p (items.Dirty index) = refl
  job_alike p (items.DirtyOk index) = refl
  job_alike p (items.DirtyNo index) = refl
  job_alike p (items.Clean index) = refl

  raised_job_if : (b c : Bool) (x y : Result Answer Refusal) → b ≡ false → c ≡ false → x ≡ raised_result more y → cond b (Err refusals.Limit) x ≡ raised_result more (cond c (Err refusals.Limit) y)
  raised_job_if true c x y a b same = cc
  raised_job_if false true x y a b same = cc
  raised_job_if false false x y a b same = same

  not_last : (made : ℕ) → made < last_number → nat_le last_number made ≡ false
  not_last made low = false_from_ne_true (nat_le last_number made) (λ over. let above = leb-true last_number made over in omega (arith, above, low))

  claimed_alike : (found : Option Message) → jobs_made k.deeds < last_number → claim_of (jobs_made k.deeds) found ≡ raised_result more (claim_of (jobs_made h.deeds) found)
  unfolding claim_of
  claimed_alike None room = refl
  claimed_alike (Some message) room = (let claimed = its.claimed in
      raised_job_if (nat_le last_number (jobs_made k.deeds)) (nat_le last_number (jobs_made h.deeds)) _ _ (not_last (jobs_made k.deeds) room) (not_last (jobs_made h.deeds) (omega (arith, claimed, room))) (job_alike message.from message.item))

  claims_alike : jobs_made k.deeds < last_number → right_claim k ≡ raised_result more (right_claim h)
  unfolding right_claim
  claims_alike room = ap (claim_of (jobs_made k.deeds)) next_alike ∙ claimed_alike (to_claim h) room

  raised_limits : (b c : Bool) (x y : Result Answer Refusal) → b ≡ true → c ≡ true → cond b (Err refusals.Limit) x ≡ raised_result more (cond c (Err refusals.Limit) y)
  raised_limits true true x y a b = refl
  raised_limits true false x y a b = cc
  raised_limits false c x y a b = cc

  a_job : (j p : ℕ) (item : Item) → is_a_call item ≡ true → (job : Job) × (job_of j p item ≡ Ok (answers.Job job))
  unfolding job_of
  a_job j p (items.Call call target method value) is = (record { job = j; call = call; target = target; client = p; method = method; value = value }, refl)
  a_job j p (items.Reply call status value) is = cc
  a_job j p (items.Settle item) is = cc
  a_job j p (items.Dirty index) is = cc
  a_job j p (items.DirtyOk index) is = cc
  a_job j p (items.DirtyNo index) is = cc
  a_job j p (items.Clean index) is = cc

  claimed_where : (found : Option Message) → ((message : Message) → found ≡ Some message → is_a_call message.item ≡ true) → ((job : Job) → claim_of (jobs_made h.deeds) found ≡ Ok (answers.Job job) → jobs_made k.deeds < last_number) → claim_of (jobs_made k.deeds) found ≡ raised_result more (claim_of (jobs_made h.deeds) found)
  unfolding claim_of
  claimed_where None calls room = refl
  claimed_where (Some message) calls room = claimed_if (nat_le last_number (jobs_made h.deeds)) refl
    where
      claimed_if : (full : Bool) → nat_le last_number (jobs_made h.deeds) ≡ full → claim_of (jobs_made k.deeds) (Some message) ≡ raised_result more (claim_of (jobs_made h.deeds) (Some message))
      claimed_if true full = (let claimed = its.claimed in let above = leb-true last_number (jobs_made h.deeds) full in
          raised_limits (nat_le last_number (jobs_made k.deeds)) (nat_le last_number (jobs_made h.deeds)) _ _ (le-leb last_number (jobs_made k.deeds) (omega (arith, claimed, above))) full)
      claimed_if false full = (let job = a_job (jobs_made h.deeds + 1) message.from message.item (calls message refl) in
          claimed_alike (Some message) (room job.0 (ap (λ (b : Bool). cond b (Err refusals.Limit) (job_of (jobs_made h.deeds + 1) message.from message.item)) full ∙ job.1)))

  -- as far as a job is claimed it is enough that one more may be
  pub claims_where : AreCalls h.work.ready → ((job : Job) → right_claim h ≡ Ok (answers.Job job) → jobs_made k.deeds < last_number) → right_claim k ≡ raised_result more (right_claim h)
  unfolding right_claim
  claims_where calls room = ap (claim_of (jobs_made k.deeds)) next_alike ∙ claimed_where (to_claim h) (λ message found. all_found (λ (one : Message). is_a_call one.item ≡ true) (is_free h.work) h.work.ready message found calls) room

  ended_alike : (message : Message) → has_ended message h ≡ has_ended message k
  ended_alike message = λ i. its.shut message.from i || not (message.session == its.numbered message.from i)

  raised_finish : (ended : Bool) (refused : Option Refusal) → cond ended (Ok answers.Dropped) (unless refused answers.Finished) ≡ raised_result more (cond ended (Ok answers.Dropped) (unless refused answers.Finished))
  raised_finish true refused = refl
  raised_finish false (Some refusal) = refl
  raised_finish false None = refl

  finished_alike : (outcome : Outcome) (found : Option Run) → finish_of s outcome (raised_found more found) k ≡ raised_result more (finish_of s outcome found h)
  unfolding finish_of
  finished_alike outcome None = refl
  finished_alike outcome (Some run) =
      (λ i. cond (sym (ended_alike run.message) i) (Ok answers.Dropped) (unless (sym (value_alike (value_of outcome)) i or_else sym (send_alike run.message.from) i) answers.Finished))
      ∙ raised_finish (has_ended run.message h) (value_refused s h (value_of outcome) or_else send_refused run.message.from Limited h)

  finishes_alike : (job : ℕ) (outcome : Outcome) → right_finish s (job + more) outcome k ≡ raised_result more (right_finish s job outcome h)
  unfolding right_finish
  finishes_alike job outcome =
      ap (λ (runs : List Run). finish_of s outcome (find (is_run (job + more)) runs) k) runs_alike
      ∙ ap (λ (found : Option Run). finish_of s outcome found k) (found_mapped more job h.work.running)
      ∙ finished_alike outcome (find (is_run job) h.work.running)

  -- ---- acting

  not_live_alike : (item : Item) → names_not_live s item h ≡ names_not_live s item k
  not_live_alike item = λ i. list_any (λ rep. gone_alike rep i) (counted_in item)

  unknown_alike : (index : ℕ) → is_unknown s index h ≡ is_unknown s index k
  unknown_alike index = λ i. index == 0 || not (its.exported index i)

  awaits_alike : (p index : ℕ) → awaits_answer s n p index h ≡ awaits_answer s n p index k
  awaits_alike p index = ap is_pending (its.asked (record { owner = p; index = index }))

  fault_alike : (p : ℕ) (item : Item) → fault_of s n p item h ≡ fault_of s n p item k
  unfolding fault_of
  fault_alike p (items.Call call target method value) = λ i. first_fault (fault_if (not (target == 0) && not (its.alive target i)) BadReference) (fault_if (not_live_alike (items.Call call target method value) i) BadReference)
  fault_alike p (items.Reply call status value) = λ i. first_fault (fault_if (not (list_any (awaits_reply p call) (sym calls_alike i))) OutOfPlace) (fault_if (not_live_alike (items.Reply call status value) i) BadReference)
  fault_alike p (items.Settle item) = λ i. fault_if (not (is_some_of (filter (λ (one : SentItem). one.to == p && one.number == item) (its.bundled i)))) OutOfPlace
  fault_alike p (items.Dirty index) = λ i. fault_if (unknown_alike index i) BadReference
  fault_alike p (items.DirtyOk index) = λ i. fault_if (not (awaits_alike p index i)) OutOfPlace
  fault_alike p (items.DirtyNo index) = λ i. fault_if (not (awaits_alike p index i)) OutOfPlace
  fault_alike p (items.Clean index) = λ i. fault_if (unknown_alike index i) BadReference

  dirties_alike : (item : Item) → new_dirties s n item h ≡ new_dirties s n item k
  unfolding dirties_for
  dirties_alike item = λ i. map dirty_for (filter (λ rep. is_peer s n rep.owner && not (its.shut rep.owner i) && not (is_standing (its.asked rep i))) (once (counted_in item)))

  messages_alike : messages h.work ≡ messages k.work
  messages_alike = sym (ap messages its.outstanding ∙ ap (λ (m : ℕ). length h.work.waiting + length h.work.ready + m + length h.work.replies) (length_mapped more h.work.running))

  all_numbers_alike : (gifts : List Gift) → all_have_numbers gifts h ≡ all_have_numbers gifts k
  all_numbers_alike gifts = λ i. list_all (λ (gift : Gift). numbers_alike gift.to (length (items_to gift.to gifts)) i) gifts

  message_alike : (item : Item) → message_refusal s n item h ≡ message_refusal s n item k
  unfolding message_refusal is_too_much
  message_alike item =
      (λ i. cond (nat_le most_messages (messages_alike i) || nat_lt most_surrogates (length (its.standing i) + length (dirties_alike item i))) (Some refusals.Limit) (cond (not (all_numbers_alike (dirties_alike item i) i)) (Some refusals.SeqEnd) None))

  kept_alike : (p : ℕ) (item : Item) → act_refusal s n p item h ≡ act_refusal s n p item k
  unfolding act_refusal
  kept_alike p (items.Call call target method value) = message_alike (items.Call call target method value)
  kept_alike p (items.Reply call status value) = message_alike (items.Reply call status value)
  kept_alike p (items.Settle item) = refl
  kept_alike p (items.Dirty index) = λ i. cond (not (numbers_alike p 1 i)) (Some refusals.SeqEnd) None
  kept_alike p (items.DirtyOk index) = refl
  kept_alike p (items.DirtyNo index) = refl
  kept_alike p (items.Clean index) = refl

  on_alike : (p j : ℕ) (found : Option Item) → act_on s n p j found k ≡ raised_result more (act_on s n p j found h)
  unfolding act_on
  on_alike p j None = refl
  on_alike p j (Some item) = (λ i. answer_of_act j (sym (fault_alike p item) i) (sym (kept_alike p item) i)) ∙ sym (raised_act more j (fault_of s n p item h) (act_refusal s n p item h))

  front_alike : (p : ℕ) (front : Option (ℕ × List ℕ)) → act_of s n p front k ≡ raised_result more (act_of s n p front h)
  unfolding act_of
  front_alike p None = refl
  front_alike p (Some front) = on_alike p front.0 (item_spelt front.1)

  raised_acts : (stranger shut : Bool) (x y : Result Answer Refusal) → x ≡ raised_result more y → cond stranger (Err refusals.NoPeer) (cond shut (Err refusals.Closed) x) ≡ raised_result more (cond stranger (Err refusals.NoPeer) (cond shut (Err refusals.Closed) y))
  raised_acts true shut x y same = refl
  raised_acts false true x y same = refl
  raised_acts false false x y same = same

  acts_alike : (p : ℕ) → right_act s n p k ≡ raised_result more (right_act s n p h)
  unfolding right_act
  acts_alike p =
      (λ i. cond (not (is_peer s n p)) (Err refusals.NoPeer) (cond (sym (its.shut p) i) (Err refusals.Closed) (act_of s n p (sym (same_front (calls_at p h) (calls_at p k) (its.ends p)) i) k)))
      ∙ raised_acts (not (is_peer s n p)) (closed p h.deeds) _ _ (front_alike p (right_front (calls_at p h)))

  -- ---- events of the space

  usable_alike : (rep : WireRep) → is_usable s n rep h.deeds ≡ is_usable s n rep k.deeds
  usable_alike rep = λ i. is_granted (its.asked rep i) && not (its.shut rep.owner i)

  lost_alike : (rep : WireRep) → is_lost s n rep h.deeds ≡ is_lost s n rep k.deeds
  lost_alike rep = λ i. not (is_own s rep) && (not (is_peer s n rep.owner) || its.shut rep.owner i || is_refused (its.asked rep i))

  resolved_alike : (rep : WireRep) → is_resolved s n rep h.deeds ≡ is_resolved s n rep k.deeds
  resolved_alike rep = λ i. is_own s rep || usable_alike rep i || lost_alike rep i

  to_settle_alike : to_settle s n k ≡ to_settle s n h
  to_settle_alike = λ i. find (λ message. list_all (λ (copy : RefCopy). sym (resolved_alike copy.rep) i) message.copies) (waits_alike i)

  lost_message_alike : (message : Message) → is_lost_message s n h.deeds message ≡ is_lost_message s n k.deeds message
  lost_message_alike message = λ i. list_any (λ (copy : RefCopy). lost_alike copy.rep i) message.copies

  settle_count_alike : (message : Message) (item : Item) → settle_count s n message item h ≡ settle_count s n message item k
  settle_count_alike message (items.Call call target method value) = λ i. cond (lost_message_alike message i) 2 1
  settle_count_alike message (items.Reply call status value) = refl
  settle_count_alike message (items.Settle item) = refl
  settle_count_alike message (items.Dirty index) = refl
  settle_count_alike message (items.DirtyOk index) = refl
  settle_count_alike message (items.DirtyNo index) = refl
  settle_count_alike message (items.Clean index) = refl

  raised_ok : (b : Bool) (answer : Answer) → raised_answer more answer ≡ answer → cond b (Ok answer) (Err refusals.SeqEnd) ≡ raised_result more (cond b (Ok answer) (Err refusals.SeqEnd))
  raised_ok true answer same = ap (λ (one : Answer). Ok one) (sym same)
  raised_ok false answer same = refl

  settled_alike : (found : Option Message) → settle_of s n found k ≡ raised_result more (settle_of s n found h)
  unfolding settle_of
  settled_alike None = refl
  settled_alike (Some message) =
      ap (λ (m : ℕ). cond (has_numbers message.from m k) (Ok (answers.Settled message.from message.number)) (Err refusals.SeqEnd)) (sym (settle_count_alike message message.item))
      ∙ ap (λ (b : Bool). cond b (Ok (answers.Settled message.from message.number)) (Err refusals.SeqEnd)) (sym (numbers_alike message.from (settle_count s n message message.item h)))
      ∙ raised_ok (has_numbers message.from (settle_count s n message message.item h) h) (answers.Settled message.from message.number) refl

  settles_alike : right_settle s n k ≡ raised_result more (right_settle s n h)
  unfolding right_settle
  settles_alike = ap (λ (found : Option Message). settle_of s n found k) to_settle_alike ∙ settled_alike (to_settle s n h)

  cleaned_alike : (found : Option WireRep) → clean_of found k ≡ raised_result more (clean_of found h)
  unfolding clean_of
  cleaned_alike None = refl
  cleaned_alike (Some rep) =
      ap (λ (b : Bool). cond b (Ok (answers.Cleaned rep)) (Err refusals.SeqEnd)) (sym (numbers_alike rep.owner 1))
      ∙ raised_ok (has_numbers rep.owner 1 h) (answers.Cleaned rep) refl

  cleans_alike : right_clean s n k ≡ raised_result more (right_clean s n h)
  unfolding right_clean
  cleans_alike = ap (λ (found : Option WireRep). clean_of found k) (sym its.idle) ∙ cleaned_alike (first_idle s n h)

  withdraws_alike : (index : ℕ) → right_withdraw s index h ≡ right_withdraw s index k
  unfolding right_withdraw withdraw_refused
  withdraws_alike index = ap (λ (refused : Option Refusal). unless refused answers.Withdrawn) (
      (λ i. refuse_if (index == 0) (refusals.StillUsed uses.Agent) or_else refuse_if (not (its.alive index i)) refusals.NoObject or_else refuse_if (is_held s (own_ref s index) h) (refusals.StillUsed uses.Held) or_else refuse_if (not (times (own_ref s index) (flat_map (λ (one : SentItem). counted_in one.item) (its.bundled i)) == 0)) (refusals.StillUsed uses.InTransit) or_else refuse_if (its.listed index i) (refusals.StillUsed uses.Listed))
      ∙ withdraw_alike (index == 0) (not (is_live s index k.deeds)) (is_held s (own_ref s index) h) (is_held s (own_ref s index) k) (not (pins (own_ref s index) k == 0)) (is_any_listed s index k.deeds) (λ some. its.held (own_ref s index) (not_from_false (index == 0) some)))

  frames_alike : (p : ℕ) → right_frames s n p limits.window k ≡ raised_result more (right_frames s n p limits.window h)
  unfolding right_frames
  frames_alike p =
      ap (λ (frames : List Frame). cond (not (is_peer s n p)) (Err refusals.NoPeer) (Ok (answers.Frames frames))) (sym (same_transmit (calls_at p h) (calls_at p k) (its.ends p) s p limits.window))
      ∙ sym (raised_if more (not (is_peer s n p)) refusals.NoPeer (Ok (answers.Frames (right_transmit s p limits.window (calls_at p h)))) refl)

  arrivals_alike : (frame : Frame) → right_arrival s n frame k ≡ raised_result more (right_arrival s n frame h)
  unfolding right_arrival
  arrivals_alike frame =
      ap (λ (took : Result Arrived EndRefusal). cond (not (frame.to == s) || not (is_peer s n frame.from)) (Err refusals.NoPeer) (arrival_of took)) (sym (same_arrive (calls_at frame.from h) (calls_at frame.from k) (its.ends frame.from) s frame.from frame))
      ∙ sym (raised_if more (not (frame.to == s) || not (is_peer s n frame.from)) refusals.NoPeer (arrival_of (right_arrive s frame.from frame (calls_at frame.from h))) (raised_arrival more (right_arrive s frame.from frame (calls_at frame.from h))))

  ticks_alike : (p : ℕ) → right_ticks s n p limits.retry k ≡ raised_result more (right_ticks s n p limits.retry h)
  unfolding right_ticks
  ticks_alike p =
      ap (λ (done : Result (Option Ending) EndRefusal). cond (not (is_peer s n p)) (Err refusals.NoPeer) (tick_of done)) (sym (same_tick (calls_at p h) (calls_at p k) (its.ends p) p limits.retry))
      ∙ sym (raised_if more (not (is_peer s n p)) refusals.NoPeer (tick_of (right_tick p limits.retry (calls_at p h))) (raised_tick more (right_tick p limits.retry (calls_at p h))))

  closes_alike : (p : ℕ) → right_closing s n p k ≡ raised_result more (right_closing s n p h)
  unfolding right_closing
  closes_alike p =
      ap (λ (done : Result Ending EndRefusal). cond (not (is_peer s n p)) (Err refusals.NoPeer) (closing_of done)) (sym (same_close (calls_at p h) (calls_at p k) (its.ends p) p Asked))
      ∙ sym (raised_if more (not (is_peer s n p)) refusals.NoPeer (closing_of (right_close p Asked (calls_at p h))) (raised_closing more (right_close p Asked (calls_at p h))))

  opens_alike : (p : ℕ) → right_open s n p h ≡ right_open s n p k
  unfolding right_open
  opens_alike p = λ i. unless (refuse_if (not (is_peer s n p)) refusals.NoPeer or_else refuse_if (not (its.shut p i)) refusals.StillOpen or_else refuse_if (its.held_of p i || list_any (is_owned_by p) (flat_map (λ (one : SentItem). counted_in one.item) (its.bundled i)) || list_any (carries_any_of p) (sym waits_alike i)) refusals.StillHeld or_else refuse_if (nat_lt last_session (its.next p i)) refusals.Limit) (answers.Opened (its.next p i))

  -- ---- all events

  pub answers_where : (event : Event) → (event ≡ events.Claim → right_claim k ≡ raised_result more (right_claim h)) → right_after s n limits k (raised_event more event) ≡ raised_result more (right_after s n limits h event)
  unfolding right_after right_export right_dup right_release right_call right_withdraw right_open
  answers_where events.Export claims = sym export_alike ∙ sym (raised_unless more (refuse_if (nat_le most_objects (length (live s h.deeds)) || nat_le last_number (length (exports h.deeds))) refusals.Limit) _)
  answers_where (events.Dup rep) claims = sym (dups_alike rep) ∙ sym (raised_unless more _ answers.Done)
  answers_where (events.Release rep) claims = sym (releases_alike rep) ∙ sym (raised_unless more _ answers.Done)
  answers_where (events.Call target method value) claims = sym (call_alike target value) ∙ sym (raised_unless more _ (answers.Called (calls_made h.deeds + 1)))
  answers_where (events.TakeReply call) claims = takes_alike call
  answers_where events.Claim claims = claims refl
  answers_where (events.Finish job outcome) claims = finishes_alike job outcome
  answers_where (events.Act p) claims = acts_alike p
  answers_where events.Settle claims = settles_alike
  answers_where events.Clean claims = cleans_alike
  answers_where (events.Withdraw index) claims = sym (withdraws_alike index) ∙ sym (raised_unless more (withdraw_refused s index h) answers.Withdrawn)
  answers_where (events.Transmit p) claims = frames_alike p
  answers_where (events.Arrive frame) claims = arrivals_alike frame
  answers_where (events.Tick p) claims = ticks_alike p
  answers_where (events.Close p) claims = closes_alike p
  answers_where (events.Open p) claims = sym (opens_alike p) ∙ sym (raised_unless more (open_refused s n p h) (answers.Opened (next_number p h)))

-- after two lists that are alike the right answers are the same, with raised job numbers
pub raised_law : RaisedLaw
raised_law s n limits more L M alike room event = answers_where s n more limits (history s n L) (history s n M) alike event (λ claim. claims_alike s n more limits (history s n L) (history s n M) alike room)
