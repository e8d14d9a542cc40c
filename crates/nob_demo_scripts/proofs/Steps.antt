-- A pair once a step is made stands for the run with the step's calls.
use Rattle.std.proofs.Common.{◌≡◌, ℕ, Bool, true, false, cond, List, [], ◌∷◌, ◌++◌, Option, Some, None, IsSome, inl, inr, refl, sym, ap, subst, ◌∙◌, map, length, Result, Ok, Err, IfOk, OnOk, arith}
use Rattle.nob_ids.specs.declared.limits.Limits.{Limits}
use Rattle.nob_frame.specs.declared.frame.Frame.{Frame}
use Rattle.nob_model_session.specs.declared.entry.EndEntry.TheVariants.{Arrive}
use Rattle.nob_model_session.specs.declared.entry.PairEntry.{PairEntry}
use Rattle.nob_model_session.specs.End.{is_open}
use Rattle.nob_model_session.specs.Right.{right_transmit, right_front, right_arrive}
use Rattle.nob_model_session.specs.Pair.{first_calls, second_calls, transmitted_frames, PairRun}
use Rattle.nob_session.specs.Stands.{End, Stands}
use Rattle.nob_demo_scripts.specs.declared.step.Side.{Side}
use Rattle.nob_demo_scripts.specs.declared.step.Side.TheVariants.{First, Second}
use Rattle.nob_demo_scripts.specs.declared.step.Call.{Call}
use Rattle.nob_demo_scripts.specs.declared.step.Call.TheVariants.{Put, Send, Get, Tick, Close, Open}
use Rattle.nob_demo_scripts.specs.declared.step.Step.TheVariants.{At}
use Rattle.std.specs.Prelude.{◌==◌, ◌≢◌}
use Rattle.std.proofs.lemmas.Bool.Decides.{nat_tests}
use Rattle.std.specs.List.{Contains}
use Rattle.nob_demo_scripts.specs.declared.answer.Answer.{Answer}
use Rattle.nob_demo_scripts.specs.Run.{got, calls_of, calls_at, call_answer, entries_of, entry_at, space_of, peer_of, all_given, arrival_of, arrive_text, answer_text, delivery_answer, step_answer, side_to, frame_numbered}
use Rattle.nob_demo_scripts.specs.Pairs.{Ends, PairStands, ends_of, frames_after}
use Rattle.nob_demo_scripts.proofs.Runs.{from_other, numbered_among}

first_got : (limits : Limits) (ends : Ends) (J : List PairEntry) (new : End) (frames : List Frame) (r : Option (ℕ × List ℕ)) → right_front (first_calls J) ≡ r
    → PairStands limits ends J → Stands 1 2 limits new (got r ++ first_calls J) → frames ≡ ends.frames
    → PairStands limits (record { first = new; second = ends.second; frames = frames }) (map (entry_at First) (got r) ++ J)
first_got limits ends J new frames None is h st fr = record { first = st; second = h.second; frames = fr ∙ h.frames; run = (h.run, sym is, tt) }
first_got limits ends J new frames (Some item) is h st fr = record { first = st; second = h.second; frames = fr ∙ h.frames; run = ((h.run, sym is, tt), subst IsSome (sym is) refl, tt) }

first_look : (limits : Limits) (ends : Ends) (J : List PairEntry) (new : End) (frames : List Frame) (b : Bool)
    → PairStands limits ends J → Stands 1 2 limits new (cond b (got (right_front (first_calls J))) [] ++ first_calls J) → frames ≡ ends.frames
    → PairStands limits (record { first = new; second = ends.second; frames = frames }) (map (entry_at First) (cond b (got (right_front (first_calls J))) []) ++ J)
first_look limits ends J new frames true h st fr = first_got limits ends J new frames (right_front (first_calls J)) refl h st fr
first_look limits ends J new frames false h st fr = record { first = st; second = h.second; frames = fr ∙ h.frames; run = h.run }

pub first_called : (limits : Limits) (ends : Ends) (J : List PairEntry) (call : Call) (new : End) (frames : List Frame)
    → PairStands limits ends J → Stands 1 2 limits new (calls_of limits 1 2 call (first_calls J) ++ first_calls J) → frames ≡ frames_after limits 1 2 call (first_calls J) ends.frames
    → PairStands limits (record { first = new; second = ends.second; frames = frames }) (entries_of limits (At First call) J ++ J)
first_called limits ends J (Put item) new frames h st fr = record { first = st; second = h.second; frames = fr ∙ h.frames; run = (h.run, refl, tt) }
first_called limits ends J Send new frames h st fr = record { first = st; second = h.second; frames = fr ∙ ap (λ (xs : List Frame). xs ++ right_transmit 1 2 limits.window (first_calls J)) h.frames; run = (h.run, refl, tt) }
first_called limits ends J Get new frames h st fr = first_look limits ends J new frames (is_open (first_calls J)) h st fr
first_called limits ends J Tick new frames h st fr = record { first = st; second = h.second; frames = fr ∙ h.frames; run = (h.run, refl, tt) }
first_called limits ends J Close new frames h st fr = record { first = st; second = h.second; frames = fr ∙ h.frames; run = (h.run, refl, tt) }
first_called limits ends J Open new frames h st fr = record { first = st; second = h.second; frames = fr ∙ h.frames; run = (h.run, refl, tt) }

second_got : (limits : Limits) (ends : Ends) (J : List PairEntry) (new : End) (frames : List Frame) (r : Option (ℕ × List ℕ)) → right_front (second_calls J) ≡ r
    → PairStands limits ends J → Stands 2 1 limits new (got r ++ second_calls J) → frames ≡ ends.frames
    → PairStands limits (record { first = ends.first; second = new; frames = frames }) (map (entry_at Second) (got r) ++ J)
second_got limits ends J new frames None is h st fr = record { first = h.first; second = st; frames = fr ∙ h.frames; run = (h.run, sym is, tt) }
second_got limits ends J new frames (Some item) is h st fr = record { first = h.first; second = st; frames = fr ∙ h.frames; run = ((h.run, sym is, tt), subst IsSome (sym is) refl, tt) }

second_look : (limits : Limits) (ends : Ends) (J : List PairEntry) (new : End) (frames : List Frame) (b : Bool)
    → PairStands limits ends J → Stands 2 1 limits new (cond b (got (right_front (second_calls J))) [] ++ second_calls J) → frames ≡ ends.frames
    → PairStands limits (record { first = ends.first; second = new; frames = frames }) (map (entry_at Second) (cond b (got (right_front (second_calls J))) []) ++ J)
second_look limits ends J new frames true h st fr = second_got limits ends J new frames (right_front (second_calls J)) refl h st fr
second_look limits ends J new frames false h st fr = record { first = h.first; second = st; frames = fr ∙ h.frames; run = h.run }

pub second_called : (limits : Limits) (ends : Ends) (J : List PairEntry) (call : Call) (new : End) (frames : List Frame)
    → PairStands limits ends J → Stands 2 1 limits new (calls_of limits 2 1 call (second_calls J) ++ second_calls J) → frames ≡ frames_after limits 2 1 call (second_calls J) ends.frames
    → PairStands limits (record { first = ends.first; second = new; frames = frames }) (entries_of limits (At Second call) J ++ J)
second_called limits ends J (Put item) new frames h st fr = record { first = h.first; second = st; frames = fr ∙ h.frames; run = (h.run, refl, tt) }
second_called limits ends J Send new frames h st fr = record { first = h.first; second = st; frames = fr ∙ ap (λ (xs : List Frame). xs ++ right_transmit 2 1 limits.window (second_calls J)) h.frames; run = (h.run, refl, tt) }
second_called limits ends J Get new frames h st fr = second_look limits ends J new frames (is_open (second_calls J)) h st fr
second_called limits ends J Tick new frames h st fr = record { first = h.first; second = st; frames = fr ∙ h.frames; run = (h.run, refl, tt) }
second_called limits ends J Close new frames h st fr = record { first = h.first; second = st; frames = fr ∙ h.frames; run = (h.run, refl, tt) }
second_called limits ends J Open new frames h st fr = record { first = h.first; second = st; frames = fr ∙ h.frames; run = (h.run, refl, tt) }

pub first_made : {E : Type 0} (limits : Limits) (ends : Ends) (J : List PairEntry) (call : Call) (new : End) (frames : List Frame) (r : Result Answer E)
    → PairStands limits ends J
    → IfOk r (λ a. (answer_text a ≡ call_answer limits 1 2 call (length ends.frames) (first_calls J)) × Stands 1 2 limits new (calls_of limits 1 2 call (first_calls J) ++ first_calls J))
    → OnOk r (frames ≡ frames_after limits 1 2 call (first_calls J) ends.frames)
    → IfOk r (λ a. (answer_text a ≡ step_answer limits (At First call) J) × PairStands limits (ends_of new ends.second frames) (entries_of limits (At First call) J ++ J))
first_made limits ends J call new frames (Ok a) h ok fr = (ok.0 ∙ ap (λ (xs : List Frame). call_answer limits 1 2 call (length xs) (first_calls J)) h.frames, first_called limits ends J call new frames h ok.1 fr)
first_made limits ends J call new frames (Err e) h ok fr = tt

pub second_made : {E : Type 0} (limits : Limits) (ends : Ends) (J : List PairEntry) (call : Call) (new : End) (frames : List Frame) (r : Result Answer E)
    → PairStands limits ends J
    → IfOk r (λ a. (answer_text a ≡ call_answer limits 2 1 call (length ends.frames) (second_calls J)) × Stands 2 1 limits new (calls_of limits 2 1 call (second_calls J) ++ second_calls J))
    → OnOk r (frames ≡ frames_after limits 2 1 call (second_calls J) ends.frames)
    → IfOk r (λ a. (answer_text a ≡ step_answer limits (At Second call) J) × PairStands limits (ends_of ends.first new frames) (entries_of limits (At Second call) J ++ J))
second_made limits ends J call new frames (Ok a) h ok fr = (ok.0 ∙ ap (λ (xs : List Frame). call_answer limits 2 1 call (length xs) (second_calls J)) h.frames, second_called limits ends J call new frames h ok.1 fr)
second_made limits ends J call new frames (Err e) h ok fr = tt

-- ---- arrivals

abbrev arrived_at : Limits → Ends → List PairEntry → Frame → Answer → Side → Ends → Type 0
arrived_at limits ends J f a side new = (answer_text a ≡ arrive_text (right_arrive (space_of side) (peer_of side) f (calls_at side J))) × PairStands limits new (entry_at side (Arrive f (right_arrive (space_of side) (peer_of side) f (calls_at side J))) ∷ J)

to_first : (f : Frame) → f.to ≡ 1 → side_to f ≡ First
to_first f is = rw (is) refl

to_second : (f : Frame) → f.to ≢ 1 → side_to f ≡ Second
to_second f is = let no : (f.to == 1) ≡ false = grind (arith, nat_tests, is) in rw (no) refl

from_second : (limits : Limits) (J : List PairEntry) (k : ℕ) (f : Frame) → PairRun 1 2 limits limits J → frame_numbered k (all_given J) ≡ Some f → f.to ≡ 1 → Contains (transmitted_frames (second_calls J)) f
from_second limits J k f run numbered is = elim (from_other limits J run f (numbered_among k (all_given J) f numbered)) [
  | inl h ↦ h.1
  | inr h ↦ absurd (omega (arith, h.0, is))
]

from_first : (limits : Limits) (J : List PairEntry) (k : ℕ) (f : Frame) → PairRun 1 2 limits limits J → frame_numbered k (all_given J) ≡ Some f → f.to ≢ 1 → Contains (transmitted_frames (first_calls J)) f
from_first limits J k f run numbered is = elim (from_other limits J run f (numbered_among k (all_given J) f numbered)) [
  | inl h ↦ absurd (is h.0)
  | inr h ↦ h.1
]

pub first_arrived : {E : Type 0} (limits : Limits) (ends : Ends) (J : List PairEntry) (k : ℕ) (f : Frame) (new : End) (r : Result Answer E)
    → PairStands limits ends J → frame_numbered k (all_given J) ≡ Some f → f.to ≡ 1
    → IfOk r (λ a. (answer_text a ≡ arrive_text (right_arrive 1 2 f (first_calls J))) × Stands 1 2 limits new (Arrive f (right_arrive 1 2 f (first_calls J)) ∷ first_calls J))
    → IfOk r (λ a. (answer_text a ≡ delivery_answer (frame_numbered k (all_given J)) J) × PairStands limits (ends_of new ends.second ends.frames) (arrival_of (frame_numbered k (all_given J)) J ++ J))
first_arrived limits ends J k f new (Err e) h numbered is ok = tt
first_arrived limits ends J k f new (Ok a) h numbered is ok =
    subst (λ (o : Option Frame). (answer_text a ≡ delivery_answer o J) × PairStands limits (ends_of new ends.second ends.frames) (arrival_of o J ++ J)) (sym numbered)
    (subst (λ (side : Side). arrived_at limits ends J f a side (ends_of new ends.second ends.frames)) (sym (to_first f is))
    (ok.0, record { first = ok.1; second = h.second; frames = h.frames; run = (h.run, refl, from_second limits J k f h.run numbered is) }))

pub second_arrived : {E : Type 0} (limits : Limits) (ends : Ends) (J : List PairEntry) (k : ℕ) (f : Frame) (new : End) (r : Result Answer E)
    → PairStands limits ends J → frame_numbered k (all_given J) ≡ Some f → f.to ≢ 1
    → IfOk r (λ a. (answer_text a ≡ arrive_text (right_arrive 2 1 f (second_calls J))) × Stands 2 1 limits new (Arrive f (right_arrive 2 1 f (second_calls J)) ∷ second_calls J))
    → IfOk r (λ a. (answer_text a ≡ delivery_answer (frame_numbered k (all_given J)) J) × PairStands limits (ends_of ends.first new ends.frames) (arrival_of (frame_numbered k (all_given J)) J ++ J))
second_arrived limits ends J k f new (Err e) h numbered is ok = tt
second_arrived limits ends J k f new (Ok a) h numbered is ok =
    subst (λ (o : Option Frame). (answer_text a ≡ delivery_answer o J) × PairStands limits (ends_of ends.first new ends.frames) (arrival_of o J ++ J)) (sym numbered)
    (subst (λ (side : Side). arrived_at limits ends J f a side (ends_of ends.first new ends.frames)) (sym (to_second f is))
    (ok.0, record { first = h.first; second = ok.1; frames = h.frames; run = (h.run, refl, from_first limits J k f h.run numbered is) }))
