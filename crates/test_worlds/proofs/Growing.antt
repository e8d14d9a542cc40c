-- What a world's entries came from, once it has made more steps.
use Rattle.std.proofs.Common.{◌≡◌, ◌≢◌, ℕ, ◌<◌, ◌+◌, List, [], ◌∷◌, ◌++◌, length, take, get_or, slice_get, reverse, Some, None, Result, Ok, Err, inl, inr, refl, sym, ap, subst, ◌∙◌, append_assoc}
use Rattle.std.proofs.lemmas.List.{append-nil, reverse-append, take_more}
use Rattle.std.specs.Prelude.{IfOk}
use Rattle.std.specs.Global.{Vec}
use Rattle.std.proofs.lemmas.Option.{same_Some, slice_get_within, get_or_from_slice_get}
use Rattle.nob_ids.specs.declared.limits.Limits.{Limits}
use Rattle.nob_frame.specs.declared.frame.Frame.{Frame}
use Rattle.nob_model_types.specs.declared.event.Event.{Event}
use Rattle.nob_model_types.specs.declared.event.Event.TheVariants.{Arrive}
use Rattle.nob_model_types.specs.declared.answer.Answer.{Answer}
use Rattle.nob_model_types.specs.declared.refusal.Refusal.{Refusal}
use Rattle.nob_model_types.specs.declared.entry.Entry.{Entry}
use Rattle.nob_model_types.specs.declared.entry.WorldStep.{WorldStep}
use Rattle.nob_model_types.specs.declared.entry.WorldStep.TheVariants.{Do, Deliver}
use Rattle.nob_model.specs.Right.{right}
use Rattle.nob_model_journal.specs.Journals.{at, transmitted_frames}
use Rattle.nob_model_journal.specs.Runs.{WorldRun, IsOfWorld, IsMadeBy, From}
use Rattle.nob_world.specs.Worlds.{World, journal, AddsTo, step_fault, why_stopped}
use Rattle.nob_world.specs.declared.error.WorldError.{WorldError}
use Rattle.nob_world.specs.declared.error.WorldError.TheVariants.{OutOfMemory}
use Rattle.test_worlds.specs.Makings.{CameFrom, Makes}

-- of the steps some made all entries
made_by : (n : ℕ) (steps : List WorldStep) (J : List Entry) → CameFrom n steps J → (made : List WorldStep) × From made J
made_by n [] J none = ([], subst (From []) (sym none) tt)
made_by n (step ∷ steps) J (inr came) = made_by n steps J came.1
made_by n (step ∷ steps) [] (inl came) = absurd came
made_by n (step ∷ steps) (entry ∷ J) (inl came) = let earlier = made_by n steps J came.1 in (step ∷ earlier.0, (came.0, earlier.1))

-- an entry is that of its parts
abbrev entry_by : ℕ → Event → Result Answer Refusal → Entry
entry_by space event result = record { space = space; event = event; result = result }

same_parts : (a b : Entry) → a.space ≡ b.space → a.event ≡ b.event → a.result ≡ b.result → a ≡ b
same_parts a b space event result = ap (λ (x : ℕ). entry_by x a.event a.result) space ∙ ap (λ (x : Event). entry_by b.space x a.result) event ∙ ap (λ (x : Result Answer Refusal). entry_by b.space b.event x) result

-- a space answers the same event right in one way
same_right : (n : ℕ) (limits : ℕ → Limits) (a b : Entry) (J : List Entry) → IsOfWorld n limits a J → IsOfWorld n limits b J → a.space ≡ b.space → a.event ≡ b.event → a ≡ b
same_right n limits a b J of_a of_b space event =
    same_parts a b space event
    (of_a.is_right ∙ ap (λ (x : ℕ). right x n (limits x) (at x J) a.event) space ∙ ap (λ (x : Event). right b.space n (limits b.space) (at b.space J) x) event ∙ sym of_b.is_right)

-- so a step makes one entry
same_made : (n : ℕ) (limits : ℕ → Limits) (step : WorldStep) (a b : Entry) (J : List Entry) → IsOfWorld n limits a J → IsOfWorld n limits b J → IsMadeBy step a J → IsMadeBy step b J → a ≡ b
same_made n limits (Do space event) a b J of_a of_b made_a made_b = same_right n limits a b J of_a of_b (made_a.1 ∙ sym made_b.1) (made_a.2 ∙ sym made_b.2)
same_made n limits (Deliver number) a b J of_a of_b made_a made_b =
    let same : made_a.0 ≡ made_b.0 = same_Some made_a.0 made_b.0 (sym made_a.1 ∙ made_b.1) in
    same_right n limits a b J of_a of_b (made_a.2 ∙ ap (λ (frame : Frame). frame.to) same ∙ sym made_b.2) (made_a.3 ∙ ap (λ (frame : Frame). Arrive frame) same ∙ sym made_b.3)

-- and steps that each made one entry made these
same_journal : (n : ℕ) (limits : ℕ → Limits) (made : List WorldStep) (J K : List Entry) → WorldRun n limits J → WorldRun n limits K → From made J → From made K → J ≡ K
same_journal n limits [] [] [] run_j run_k from_j from_k = refl
same_journal n limits [] [] (b ∷ K) run_j run_k from_j from_k = absurd from_k
same_journal n limits [] (a ∷ J) K run_j run_k from_j from_k = absurd from_j
same_journal n limits (step ∷ made) [] K run_j run_k from_j from_k = absurd from_j
same_journal n limits (step ∷ made) (a ∷ J) [] run_j run_k from_j from_k = absurd from_k
same_journal n limits (step ∷ made) (a ∷ J) (b ∷ K) run_j run_k from_j from_k =
    let before : J ≡ K = same_journal n limits made J K run_j.1 run_k.1 from_j.1 from_k.1 in
    let newest : a ≡ b = same_made n limits step a b K (subst (IsOfWorld n limits a) before run_j.0) run_k.0 (subst (IsMadeBy step a) before from_j.0) from_k.0 in
    ap (λ (x : Entry). x ∷ J) newest ∙ ap (λ (xs : List Entry). b ∷ xs) before

-- steps that each made an entry behind others
made_more : (n : ℕ) (limits : ℕ → Limits) (steps made more : List WorldStep) (J K : List Entry) → CameFrom n steps J → From made J → WorldRun n limits J → WorldRun n limits K → From (more ++ made) K → CameFrom n (more ++ steps) K
made_more n limits steps made [] J K came from run_j run_k from_k = subst (CameFrom n steps) (same_journal n limits made J K run_j run_k from from_k) came
made_more n limits steps made (step ∷ more) J [] came from run_j run_k from_k = absurd from_k
made_more n limits steps made (step ∷ more) J (entry ∷ K) came from run_j run_k from_k = inl (from_k.0, made_more n limits steps made more J K came from run_j run_k.1 from_k.1)

-- a world that ran steps made those that each made an entry
pub ran : (old new : World) (steps : List WorldStep) → WorldRun old.n (λ _. old.limits) (journal old) → WorldRun new.n (λ _. new.limits) (journal new) → new.n ≡ old.n → new.limits ≡ old.limits
    → ((before : List WorldStep) → From before (journal old) → From (steps ++ before) (journal new)) → Makes steps old new
ran old new steps run_old run_new same_n same_limits from before came =
    let made = made_by old.n before (journal old) came in
    let run : WorldRun old.n (λ _. old.limits) (journal new) = subst (λ (n : ℕ). WorldRun n (λ _. old.limits) (journal new)) same_n (subst (λ (limits : Limits). WorldRun new.n (λ _. limits) (journal new)) same_limits run_new) in
    made_more old.n (λ _. old.limits) before made.0 steps (journal old) (journal new) came made.1 run_old run (from made.0 made.1)

-- steps behind others
pub makes_more : (steps more : List WorldStep) (a b c : World) → b.n ≡ a.n → Makes steps a b → Makes more b c → Makes (more ++ steps) a c
makes_more steps more a b c same first second before came =
    subst (λ (all : List WorldStep). CameFrom a.n all (journal c)) (sym (append_assoc more steps before))
    (subst (λ (n : ℕ). CameFrom n (more ++ (steps ++ before)) (journal c)) same (second (steps ++ before) (subst (λ (n : ℕ). CameFrom n (steps ++ before) (journal b)) (sym same) (first before came))))

-- no steps
pub makes_none : (world : World) → Makes [] world world
makes_none world before came = came

-- a step that made an entry
pub made_one : (step : WorldStep) (answer : Result Answer Refusal) (old new : World) → AddsTo step answer old.entries new.entries → Makes (step ∷ []) old new
made_one step answer old new adds before came =
    subst (CameFrom old.n (step ∷ before)) (sym (ap reverse adds.added ∙ reverse-append old.entries (adds.entry ∷ []))) (inl (adds.made, came))

-- one that there was no space or no frame for
pub left_out : (step : WorldStep) (fault : WorldError) (old new : World) → old.frames ≡ transmitted_frames (journal old) → new.entries ≡ old.entries → step_fault old.n old.frames step ≡ Some fault → Makes (step ∷ []) old new
left_out step fault old new frames same amiss before came =
    subst (CameFrom old.n (step ∷ before)) (sym (ap reverse same)) (inr ((fault, ap (λ (fs : List Frame). step_fault old.n fs step) (sym frames) ∙ amiss), came))

-- the same where a try had changed nothing
pub makes_again : (steps : List WorldStep) (a b c : World) → b.n ≡ a.n → b.entries ≡ a.entries → Makes steps b c → Makes steps a c
makes_again steps a b c same_n same makes before came =
    subst (λ (n : ℕ). CameFrom n (steps ++ before) (journal c)) same_n (makes before (subst (CameFrom b.n before) (sym (ap reverse same)) (subst (λ (n : ℕ). CameFrom n before (journal a)) (sym same_n) came)))

-- a step at which a run stopped, other than for want of memory, was left out
pub stopped_at : (step : WorldStep) (error : WorldError) (world : World) → world.frames ≡ transmitted_frames (journal world) → error ≢ OutOfMemory → error ≡ why_stopped (step_fault world.n world.frames step) → Makes (step ∷ []) world world
stopped_at step error world frames other why =
    elim (step_fault world.n world.frames step) as (λ found. step_fault world.n world.frames step ≡ found → error ≡ why_stopped found → Makes (step ∷ []) world world) [
      | Some fault ↦ λ amiss same. left_out step fault world world frames refl amiss
      | None ↦ λ none same. absurd (other same)
    ] refl why

-- a step more of a list
pub reverse_more : (steps : List WorldStep) (place : ℕ) (step : WorldStep) → place < length steps → step ≡ get_or steps place step → reverse (take (place + 1) steps) ≡ step ∷ reverse (take place steps)
reverse_more steps place step within is = ap reverse (take_more steps place step within ∙ ap (λ (x : WorldStep). take place steps ++ x ∷ []) (sym is)) ∙ reverse-append (take place steps) (step ∷ [])

-- past a step that was left out
pub ran_past : (old new : World) (steps : List WorldStep) (place : ℕ) (step : WorldStep) → slice_get steps place ≡ Some step → new.n ≡ old.n → Makes (reverse (take place steps)) old new → Makes (step ∷ []) new new → Makes (reverse (take (place + 1) steps)) old new
ran_past old new steps place step there same made past =
    subst (λ (all : List WorldStep). Makes all old new) (sym (reverse_more steps place step (slice_get_within steps place step there) (sym (get_or_from_slice_get steps place step step there))))
    (makes_more (reverse (take place steps)) (step ∷ []) old new new same made past)

-- the entries of a world that had none came from the steps that it made
pub entries_came : {E : Type 0} (copied : Result (Vec Entry) E) (old new : World) (steps : List WorldStep) → IfOk copied (λ entries. entries.items ≡ new.entries) → Makes steps old new
    → IfOk copied (λ entries. old.entries ≡ [] → CameFrom old.n steps (reverse entries.items))
entries_came (Ok entries) old new steps same makes =
    λ none. subst (λ (made : List Entry). CameFrom old.n steps (reverse made)) (sym same)
    (subst (λ (all : List WorldStep). CameFrom old.n all (journal new)) (append-nil steps) (makes [] (ap reverse none)))
entries_came (Err error) old new steps same makes = tt

-- a world that is new had none
pub from_new : {E : Type 0} (copied : Result (Vec Entry) E) (world : World) (n : ℕ) (steps : List WorldStep) → IfOk copied (λ entries. world.entries ≡ [] → CameFrom world.n steps (reverse entries.items)) → world.entries ≡ [] → world.n ≡ n
    → IfOk copied (λ entries. CameFrom n steps (reverse entries.items))
from_new (Ok entries) world n steps came none same = subst (λ (k : ℕ). CameFrom k steps (reverse entries.items)) same (came none)
from_new (Err error) world n steps came none same = tt
