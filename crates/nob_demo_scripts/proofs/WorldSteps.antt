-- What a step of a world gave, as the definitions of scripts have it.
use Rattle.std.proofs.Common.{◌≡◌, ◌≢◌, ℕ, ◌≤◌, Bool, true, false, not, ◌&&◌, List, [], ◌∷◌, ◌++◌, length, reverse, Option, Some, None, Result, Ok, Err, IfOk, OnOk, OnErr, refl, sym, ap, subst, ◌∙◌, arith, codes}
use Rattle.std.specs.Prelude.{IfErr, nat_lt, nat_le, is_some, if◌then◌else◌}
use Rattle.std.proofs.lemmas.List.{reverse-append}
use Rattle.std.proofs.lemmas.Bool.Decides.{nat_tests}
use Rattle.nob_ids.specs.Names.{IsSpace}
use Rattle.nob_ids.specs.declared.limits.Limits.{Limits}
use Rattle.nob_frame.specs.declared.frame.Frame.{Frame}
use Rattle.nob_model_types.specs.declared.event.Event.{Event}
use Rattle.nob_model_types.specs.declared.event.Event.TheVariants as events
use Rattle.nob_model_types.specs.declared.answer.Answer.{Answer}
use Rattle.nob_model_types.specs.declared.refusal.Refusal.{Refusal}
use Rattle.nob_model_types.specs.declared.entry.Entry.{Entry}
use Rattle.nob_model_types.specs.declared.entry.WorldStep.{WorldStep}
use Rattle.nob_model_types.specs.declared.entry.WorldStep.TheVariants.{Do, Deliver}
use Rattle.nob_model_types.specs.Deeds.{deed_in}
use Rattle.nob_model.specs.Right.{right}
use Rattle.nob_model_journal.specs.Journals.{at, transmitted_frames, frames_of}
use Rattle.nob_model_journal.specs.Runs.{IsMadeBy, IsOfWorld, WorldRun, frame_of}
use Rattle.nob_model_text.specs.Events.{IsSpoken}
use Rattle.nob_model_reading.specs.Scripts.{IsStep}
use Rattle.nob_model_text.specs.Lines.{answered_text}
use Rattle.nob_script_text.specs.Scripts.{Grows, StepMade, IsStepLine}
use Rattle.nob_script_text.specs.Worlds as scripts
use Rattle.nob_script_text.specs.Worlds.{delivers, does, entry_in, makes_entry, outcome_of, result_text, with_entry}
use Rattle.nob_world.specs.Worlds.{World, journal, AddsTo, entry_of, is_arrival, is_there, outcome, step_fault}
use Rattle.nob_world.specs.declared.error.WorldError.{WorldError}
use Rattle.nob_world.specs.declared.error.WorldError.TheVariants.{Refused, NoSpace, NoFrame, OutOfMemory}
use Rattle.nob_demo_scripts.specs.WorldScripts.{script_world, step_result_text}

-- an entry is that of its parts
entry_is : (e : Entry) (space : ℕ) (event : Event) (result : Result Answer Refusal) → e.space ≡ space → e.event ≡ event → e.result ≡ result → e ≡ entry_of space event result
entry_is e space event result s ev r = ap (λ (x : ℕ). entry_of x e.event e.result) s ∙ ap (λ (x : Event). entry_of space x e.result) ev ∙ ap (λ (x : Result Answer Refusal). entry_of space event x) r

-- the world of its parts
abbrev world_by : ℕ → Limits → List Entry → List Frame → scripts.World
world_by n limits J frames = record { n = n; limits = limits; journal = J; frames = frames }

same_world : (n n' : ℕ) (limits limits' : Limits) (J J' : List Entry) (frames frames' : List Frame) → n ≡ n' → limits ≡ limits' → J ≡ J' → frames ≡ frames' → world_by n limits J frames ≡ world_by n' limits' J' frames'
same_world n n' limits limits' J J' frames frames' same_n same_limits same_journal same_frames =
    ap (λ (x : ℕ). world_by x limits J frames) same_n ∙ ap (λ (x : Limits). world_by n' x J frames) same_limits ∙ ap (λ (x : List Entry). world_by n' limits' x frames) same_journal ∙ ap (λ (x : List Frame). world_by n' limits' J' x) same_frames

-- what is known of a world before and after a step that made an entry
pub record Makes (w v : World) (e : Entry) : Type 0 where
  pub added : v.entries ≡ w.entries ++ e ∷ []
  pub same_n : v.n ≡ w.n
  pub same_limits : v.limits ≡ w.limits
  pub run : WorldRun v.n (λ _. v.limits) (journal v)
  pub before : w.frames ≡ transmitted_frames (journal w)
  pub after : v.frames ≡ transmitted_frames (journal v)

module _ (w v : World) (e : Entry) (makes : Makes w v e) where
  newest : journal v ≡ e ∷ journal w
  newest = ap reverse makes.added ∙ reverse-append w.entries (e ∷ [])

  of_world : IsOfWorld v.n (λ _. v.limits) e (journal w)
  of_world = let run = subst (WorldRun v.n (λ _. v.limits)) newest makes.run in run.0

  is_right : e.result ≡ right e.space w.n w.limits (at e.space (journal w)) e.event
  is_right = of_world.is_right ∙ ap (λ (x : ℕ). right e.space x v.limits (at e.space (journal w)) e.event) makes.same_n ∙ ap (λ (x : Limits). right e.space w.n x (at e.space (journal w)) e.event) makes.same_limits

  -- the space's right answer, and the world with that entry
  pub does_this : (space : ℕ) (event : Event) → e.space ≡ space → e.event ≡ event → (e.result ≡ scripts.right_in (script_world w) space event) × (script_world v ≡ with_entry (script_world w) (entry_in (script_world w) space event))
  does_this space event s ev =
      let right_there : e.result ≡ scripts.right_in (script_world w) space event = is_right ∙ ap (λ (x : ℕ). right x w.n w.limits (at x (journal w)) e.event) s ∙ ap (λ (x : Event). right space w.n w.limits (at space (journal w)) x) ev in
      let entry : e ≡ entry_in (script_world w) space event = entry_is e space event (scripts.right_in (script_world w) space event) s ev right_there in
      let frames : v.frames ≡ w.frames ++ frames_of (deed_in (entry_in (script_world w) space event)) = makes.after ∙ ap transmitted_frames newest ∙ ap (λ (fs : List Frame). fs ++ frames_of (deed_in e)) (sym makes.before) ∙ ap (λ (x : Entry). w.frames ++ frames_of (deed_in x)) entry in
      (right_there, same_world v.n w.n v.limits w.limits (journal v) (entry_in (script_world w) space event ∷ journal w) v.frames (w.frames ++ frames_of (deed_in (entry_in (script_world w) space event))) makes.same_n makes.same_limits (newest ∙ ap (λ (x : Entry). x ∷ journal w) entry) frames)

  -- what a step that made this entry is answered by, and the world after it
  pub made_right : (step : WorldStep) (answer : Result Answer Refusal) → e.result ≡ answer → IsMadeBy step e (journal w) → (result_text (length w.frames) answer ≡ (outcome_of (script_world w) step).0) × (script_world v ≡ (outcome_of (script_world w) step).1)
  made_right (Do space event) answer is made =
      let there : nat_lt w.n space ≡ false = let low = of_world.last in let same = makes.same_n in let s = made.1 in grind (arith, nat_tests, low, same, s) in
      let does_it = does_this space event made.1 made.2 in
      let chosen : outcome_of (script_world w) (Do space event) ≡ does (script_world w) space event = ap (λ (b : Bool). if b then (codes "X1", script_world w) else does (script_world w) space event) there in (
        ap (result_text (length w.frames)) (sym is ∙ does_it.0) ∙ sym (ap (λ (o : scripts.Outcome). o.0) chosen),
        does_it.1 ∙ sym (ap (λ (o : scripts.Outcome). o.1) chosen),
      )
  made_right (Deliver number) answer is made =
      let frame = made.0 in
      let there : frame_of number w.frames ≡ Some frame = ap (frame_of number) makes.before ∙ made.1 in
      let does_it = does_this frame.to (events.Arrive frame) made.2 made.3 in
      let chosen : outcome_of (script_world w) (Deliver number) ≡ does (script_world w) frame.to (events.Arrive frame) = ap (delivers (script_world w)) there in (
        ap (result_text (length w.frames)) (sym is ∙ does_it.0) ∙ sym (ap (λ (o : scripts.Outcome). o.0) chosen),
        does_it.1 ∙ sym (ap (λ (o : scripts.Outcome). o.1) chosen),
      )

-- a world that is as it was is seen as it was
same_seen : (w v : World) → v.entries ≡ w.entries → v.frames ≡ w.frames → v.n ≡ w.n → v.limits ≡ w.limits → script_world v ≡ script_world w
same_seen w v entries frames same_n same_limits = same_world v.n w.n v.limits w.limits (journal v) (journal w) v.frames w.frames same_n same_limits (ap reverse entries) frames

-- a spoken event is no arrival
no_arrival : (event : Event) → IsSpoken event → is_arrival event ≡ false
no_arrival (events.Arrive frame) is = absurd is
no_arrival events.Export is = refl
no_arrival (events.Dup rep) is = refl
no_arrival (events.Release rep) is = refl
no_arrival (events.Call target method value) is = refl
no_arrival (events.TakeReply call) is = refl
no_arrival events.Claim is = refl
no_arrival (events.Finish job outcome) is = refl
no_arrival (events.Act peer) is = refl
no_arrival events.Settle is = refl
no_arrival events.Clean is = refl
no_arrival (events.Withdraw index) is = refl
no_arrival (events.Transmit peer) is = refl
no_arrival (events.Tick peer) is = refl
no_arrival (events.Close peer) is = refl
no_arrival (events.Open peer) is = refl

-- whether there is a space of a number is one test
beyond : (n space : ℕ) → IsSpace space → not (nat_le 1 space && nat_le space n) ≡ nat_lt n space
beyond n space is = let low = is.0 in grind (arith, nat_tests, low)

-- what is wrong with the step of a line
fault_of_do : (w : World) (space : ℕ) (event : Event) → IsSpace space → IsSpoken event → step_fault w.n w.frames (Do space event) ≡ (if nat_lt w.n space then Some NoSpace else None)
fault_of_do w space event is spoken =
    ap (λ (b : Bool). if b then Some NoSpace else (if is_arrival event then Some NoFrame else None)) (beyond w.n space is)
    ∙ ap (λ (b : Bool). if nat_lt w.n space then Some NoSpace else (if b then Some NoFrame else None)) (no_arrival event spoken)

-- a step that there is no space for
no_space : (w : World) (step : WorldStep) → IsStep step → step_fault w.n w.frames step ≡ Some NoSpace → (codes "X1" ≡ (outcome_of (script_world w) step).0) × (script_world w ≡ (outcome_of (script_world w) step).1)
no_space w (Do space event) is fault =
    let known = sym (fault_of_do w space event is.0 is.1) ∙ fault in
    elim (nat_lt w.n space) as (λ b. nat_lt w.n space ≡ b → (codes "X1" ≡ (if b then (codes "X1", script_world w) else does (script_world w) space event).0) × (script_world w ≡ (if b then (codes "X1", script_world w) else does (script_world w) space event).1)) [ true ↦ λ t. (refl, refl) | false ↦ λ f. let none = subst (λ (b : Bool). (if b then Some NoSpace else None) ≡ Some NoSpace) f known in absurd cc ] refl
no_space w (Deliver number) is fault =
    elim (frame_of number w.frames) as (λ found. (if is_there found then None else Some NoFrame) ≡ Some NoSpace → (codes "X1" ≡ (delivers (script_world w) found).0) × (script_world w ≡ (delivers (script_world w) found).1)) [ Some frame ↦ λ known. absurd cc | None ↦ λ known. absurd cc ] fault

-- a step that there is no frame for
no_frame : (w : World) (step : WorldStep) → IsStep step → step_fault w.n w.frames step ≡ Some NoFrame → (codes "X2" ≡ (outcome_of (script_world w) step).0) × (script_world w ≡ (outcome_of (script_world w) step).1)
no_frame w (Do space event) is fault =
    let known = sym (fault_of_do w space event is.0 is.1) ∙ fault in
    elim (nat_lt w.n space) as (λ b. (if b then Some NoSpace else None) ≡ Some NoFrame → (codes "X2" ≡ (if b then (codes "X1", script_world w) else does (script_world w) space event).0) × (script_world w ≡ (if b then (codes "X1", script_world w) else does (script_world w) space event).1)) [ true ↦ λ known. absurd cc | false ↦ λ known. absurd cc ] known
no_frame w (Deliver number) is fault =
    elim (frame_of number w.frames) as (λ found. (if is_there found then None else Some NoFrame) ≡ Some NoFrame → (codes "X2" ≡ (delivers (script_world w) found).0) × (script_world w ≡ (delivers (script_world w) found).1)) [ Some frame ↦ λ known. absurd cc | None ↦ λ known. (refl, refl) ] fault

-- a step that nothing is wrong with makes an entry where there is memory
may_make : (w : World) (step : WorldStep) → IsStep step → ((fault : WorldError) → step_fault w.n w.frames step ≡ Some fault → fault ≡ OutOfMemory) → makes_entry (script_world w) step ≡ true
may_make w (Do space event) is none =
    elim (nat_lt w.n space) as (λ b. nat_lt w.n space ≡ b → not b ≡ true) [ true ↦ λ t. let wrong = none NoSpace (fault_of_do w space event is.0 is.1 ∙ ap (λ (b : Bool). if b then Some NoSpace else None) t) in absurd cc | false ↦ λ f. refl ] refl
may_make w (Deliver number) is none =
    elim (frame_of number w.frames) as (λ found. frame_of number w.frames ≡ found → is_some found ≡ true) [ Some frame ↦ λ s. refl | None ↦ λ gone. let wrong = none NoFrame (ap (λ (found : Option Frame). if is_there found then None else Some NoFrame) gone) in absurd cc ] refl

-- a line with its answer was written
pub line_written : {A E : Type 0} (r : Result A E) (old new line answer : List ℕ) (P : List ℕ → Type 0) → OnOk r (new ≡ old ++ answered_text line answer) → P (answered_text line answer) → OnOk r (Grows old new P)
line_written (Ok a) old new line answer P is so = (answered_text line answer, is, so)
line_written (Err e) old new line answer P is so = tt

-- what a step of a line gave is written as the definitions have it
pub step_made : (w v : World) (line written : List ℕ) (step : WorldStep) (r : Result Answer WorldError) → IsStepLine line step
    → IfOk (outcome r) (λ answer. AddsTo step answer w.entries v.entries)
    → ((fault : WorldError) → step_fault w.n w.frames step ≡ Some fault → r ≡ Err fault)
    → IfErr (outcome r) (λ error. error ≢ OutOfMemory → step_fault w.n w.frames step ≡ Some error)
    → OnErr (outcome r) (v.entries ≡ w.entries) → OnErr (outcome r) (v.frames ≡ w.frames) → v.n ≡ w.n → v.limits ≡ w.limits
    → WorldRun v.n (λ _. v.limits) (journal v) → w.frames ≡ transmitted_frames (journal w) → v.frames ≡ transmitted_frames (journal v)
    → written ≡ answered_text line (step_result_text (length w.frames) r) → StepMade true (script_world w) line (script_world v) written
step_made w v line written step (Ok answer) is adds fault only kept kept_frames same_n same_limits run before after text =
    let makes : Makes w v adds.entry = record { added = adds.added; same_n = same_n; same_limits = same_limits; run = run; before = before; after = after } in
    let right_there = made_right w v adds.entry makes step (Ok answer) adds.result_is adds.made in
    StepMade.answered step is (text ∙ ap (answered_text line) right_there.0) right_there.1
step_made w v line written step (Err (Refused refusal)) is adds fault only kept kept_frames same_n same_limits run before after text =
    let makes : Makes w v adds.entry = record { added = adds.added; same_n = same_n; same_limits = same_limits; run = run; before = before; after = after } in
    let right_there = made_right w v adds.entry makes step (Err refusal) adds.result_is adds.made in
    StepMade.answered step is (text ∙ ap (answered_text line) right_there.0) right_there.1
step_made w v line written step (Err NoSpace) is adds fault only kept kept_frames same_n same_limits run before after text =
    let there = no_space w step is.0 (only (λ e. absurd cc)) in
    StepMade.answered step is (text ∙ ap (answered_text line) there.0) (same_seen w v kept kept_frames same_n same_limits ∙ there.1)
step_made w v line written step (Err NoFrame) is adds fault only kept kept_frames same_n same_limits run before after text =
    let there = no_frame w step is.0 (only (λ e. absurd cc)) in
    StepMade.answered step is (text ∙ ap (answered_text line) there.0) (same_seen w v kept kept_frames same_n same_limits ∙ there.1)
step_made w v line written step (Err OutOfMemory) is adds fault only kept kept_frames same_n same_limits run before after text =
    StepMade.refused step is refl (may_make w step is.0 (λ f known. let same = fault f known in cc)) text (same_seen w v kept kept_frames same_n same_limits)
