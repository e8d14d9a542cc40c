-- Every frame that was given is as its sender's end gave it: what it acknowledges, its number and its payload.
use Rattle.std.proofs.Common.{◌≡◌, ℕ, zero, suc, ◌+◌, ◌-◌, ◌≤◌, ◌&&◌, not, Bool, true, false, cond, max, List, [], ◌∷◌, ◌++◌, length, take, drop, Option, Some, None, Ok, refl, sym, ap, subst, ◌∙◌, append_assoc, arith}
use Rattle.std.specs.Prelude.{◌==◌, ◌<◌}
use Rattle.std.specs.List.{AllByRecursion, Contains, slice_get}
use Rattle.std.proofs.lemmas.Bool.{eqb-true}
use Rattle.std.proofs.lemmas.List.{append-nil, length-take, length-drop, length_push, take-append-drop}
use Rattle.std.proofs.lemmas.List.Elements.{All-from_recursion, All-contains}
use Rattle.nob_ids.specs.declared.limits.Limits.{Limits}
use Rattle.nob_ids.specs.declared.reason.Reason.{Reason}
use Rattle.nob_frame.specs.declared.frame.Frame.{Frame}
use Rattle.nob_frame.specs.Kinds.{is_data, is_close}
use Rattle.nob_model_session.specs.End.{number, up_to, is_present, is_open, ending, handed, lowest, greatest_seq, accepted_count, places, filled, accepted, transmitted, data_arrived, owes_close}
use Rattle.nob_model_session.specs.Right.{data_frames, open_frames, closed_frames, right_transmit}
use Rattle.nob_model_session.specs.Pair as pair
use Rattle.nob_model_session.specs.Accepting.{AllCame}
use Rattle.nob_model_session.specs.declared.entry.Arrived.TheVariants as arrived
use Rattle.nob_model_session.specs.declared.entry.EndEntry.{EndEntry}
use Rattle.nob_model_session.specs.declared.entry.EndEntry.TheVariants as ends
use Rattle.nob_model_session.proofs.Arriving.{right_came, accepted_length}
use Rattle.nob_model_session.proofs.Sessions.{Rises, right_rises, number_rises, up_to_present, none_above}
use Rattle.nob_model_types.specs.declared.entry.Entry.{Entry}
use Rattle.nob_model_history.specs.Ends.{calls_at}
use Rattle.nob_model_history.proofs.Arriving.{accepts_more}
use Rattle.nob_model.specs.Laws.{AreRightCalls}
use Rattle.nob_model.proofs.Waiting.{all_weaker}
use Rattle.nob_model.proofs.Calling.{calls_law}
use Rattle.nob_model_journal.specs.Journals.{deeds_at, history_at, transmitted_frames}
use Rattle.nob_model_journal.specs.Runs.{WorldRun}
use Rattle.nob_model_invariant.specs.SafetyInvariant.{IsCarried, calls_in}
use Rattle.nob_model_holdings.proofs.Lists.{all_append, place_in_whole}
use Rattle.nob_model_invariant.proofs.Entries.{right_deeds_at}
use Rattle.nob_model_invariant.proofs.Frames.{given_there}

-- ---- what a Transmit gives

-- a frame by the session of its end, the payloads that were handed and the count that were accepted, its transmission aside
abbrev pub IsGood : ℕ → List (List ℕ) → ℕ → Frame → Type 0
IsGood session payloads count frame = (frame.session ≡ session) × (frame.ack ≤ count + 1) × (is_data frame.kind ≡ true → (1 ≤ frame.seq) × (slice_get payloads (frame.seq - 1) ≡ Some frame.payload))

behind_front : (front rest : List (List ℕ)) (payload : List ℕ) → slice_get (front ++ payload ∷ rest) (length front) ≡ Some payload
behind_front [] rest payload = refl
behind_front (first ∷ front) rest payload = behind_front front rest payload

data_good : (me peer session count k : ℕ) (front ps rest payloads : List (List ℕ)) → k ≡ length front + 1 → front ++ (ps ++ rest) ≡ payloads → AllByRecursion (IsGood session payloads count) (data_frames me peer session (count + 1) k ps)
data_good me peer session count k front [] rest payloads place whole = tt
data_good me peer session count k front (p ∷ ps) rest payloads place whole =
    let longer = length_push front p in
    let here : slice_get payloads (k - 1) ≡ Some p = ap (slice_get payloads) (let at : k - 1 ≡ length front = omega (arith, place) in at) ∙ subst (λ hs. slice_get hs (length front) ≡ Some p) whole (behind_front front (ps ++ rest) p) in
    ((refl, omega arith, λ d. (omega (arith, place), here)), data_good me peer session count (k + 1) (front ++ p ∷ []) ps rest payloads (omega (arith, place, longer)) (append_assoc front (p ∷ []) (ps ++ rest) ∙ whole))

-- Data frames for the payloads behind so many that are left out
behind_good : (me peer session count k gap : ℕ) (front ps rest payloads : List (List ℕ)) → k ≡ length front + 1 → front ++ (ps ++ rest) ≡ payloads → AllByRecursion (IsGood session payloads count) (data_frames me peer session (count + 1) (k + gap) (drop gap ps))
behind_good me peer session count k zero front ps rest payloads place whole = data_good me peer session count (k + 0) front ps rest payloads (omega (arith, place)) whole
behind_good me peer session count k (suc gap) front [] rest payloads place whole = tt
behind_good me peer session count k (suc gap) front (p ∷ ps) rest payloads place whole =
    let longer = length_push front p in
    subst (λ (m : ℕ). AllByRecursion (IsGood session payloads count) (data_frames me peer session (count + 1) m (drop gap ps))) (let same : (k + 1) + gap ≡ k + suc gap = omega arith in same)
    (behind_good me peer session count (k + 1) gap (front ++ p ∷ []) ps rest payloads (omega (arith, place, longer)) (append_assoc front (p ∷ []) (ps ++ rest) ∙ whole))

not_data : false ≡ true → ⊥
not_data e = cc

-- the window of what isn't acknowledged stands behind what is
window_whole : (w k : ℕ) (payloads : List (List ℕ)) → take k payloads ++ (take w (drop k payloads) ++ drop w (drop k payloads)) ≡ payloads
window_whole w k payloads = ap (λ ps. take k payloads ++ ps) (take-append-drop w (drop k payloads)) ∙ take-append-drop k payloads

-- the first of the payloads behind others, and those above the highest number given before
first_good : (me peer session count k given : ℕ) (front ps rest payloads : List (List ℕ)) (p : List ℕ) → k ≡ length front + 1 → front ++ (p ∷ (ps ++ rest)) ≡ payloads → AllByRecursion (IsGood session payloads count) (data_frames me peer session (count + 1) k (p ∷ []) ++ data_frames me peer session (count + 1) (max k given + 1) (drop (given - k) ps))
first_good me peer session count k given front ps rest payloads p place whole =
    let longer = length_push front p in
    let number : (k + 1) + (given - k) ≡ max k given + 1 = omega arith in (
      (data_good me peer session count k front (p ∷ []) (ps ++ rest) payloads place whole).0,
      subst (λ (m : ℕ). AllByRecursion (IsGood session payloads count) (data_frames me peer session (count + 1) m (drop (given - k) ps))) number
          (behind_good me peer session count (k + 1) (given - k) (front ++ p ∷ []) ps rest payloads (omega (arith, place, longer)) (append_assoc front (p ∷ []) (ps ++ rest) ∙ whole)),
    )

open_good : (me peer session count k given w : ℕ) (due : Bool) (payloads ps : List (List ℕ)) → 1 ≤ k → ps ≡ take w (drop (k - 1) payloads) → AllByRecursion (IsGood session payloads count) (open_frames me peer session (count + 1) k given due ps)
open_good me peer session count k given w true payloads [] low is = ((refl, omega arith, λ d. absurd (not_data d)), tt)
open_good me peer session count k given w false payloads [] low is = tt
open_good me peer session count k given w due payloads (p ∷ ps) low is =
    let size : length (p ∷ ps) ≡ length (take w (drop (k - 1) payloads)) = ap length is in
    let short : length (take (k - 1) payloads) ≡ k - 1 = omega (arith, size, length-take w (drop (k - 1) payloads), length-drop (k - 1) payloads, length-take (k - 1) payloads) in
    first_good me peer session count k given (take (k - 1) payloads) ps (drop w (drop (k - 1) payloads)) payloads p (omega (arith, short, low))
    (ap (λ xs. take (k - 1) payloads ++ (xs ++ drop w (drop (k - 1) payloads))) is ∙ window_whole w (k - 1) payloads)

closed_good : (me peer session count : ℕ) (owes : Bool) (reason : Option Reason) (payloads : List (List ℕ)) → AllByRecursion (IsGood session payloads count) (closed_frames me peer session (count + 1) owes reason)
closed_good me peer session count owes None payloads = tt
closed_good me peer session count true (Some reason) payloads = ((refl, omega arith, λ d. absurd (not_data d)), tt)
closed_good me peer session count false (Some reason) payloads = tt

frames_good : (up : Bool) (me peer session count k given w : ℕ) (due owes : Bool) (reason : Option Reason) (payloads : List (List ℕ)) → 1 ≤ k → AllByRecursion (IsGood session payloads count) (cond up (open_frames me peer session (count + 1) k given due (take w (cond up (drop (k - 1) payloads) []))) (closed_frames me peer session (count + 1) owes reason))
frames_good true me peer session count k given w due owes reason payloads low = open_good me peer session count k given w due payloads (take w (drop (k - 1) payloads)) low refl
frames_good false me peer session count k given w due owes reason payloads low = closed_good me peer session count owes reason payloads

lowest_max : (b : Bool) (m k : ℕ) → 1 ≤ m → 1 ≤ cond b (max m k) m
lowest_max true m k low = omega arith
lowest_max false m k low = low

lowest_positive : (calls : List EndEntry) → 1 ≤ lowest calls
lowest_positive [] = omega arith
lowest_positive (ends.Reopen k (Ok done) ∷ calls) = omega arith
lowest_positive (ends.Arrive frame (Ok (arrived.Took k)) ∷ calls) = lowest_max (is_present frame calls && is_open calls && not (is_close frame.kind)) (lowest calls) frame.ack (lowest_positive calls)
lowest_positive (_ ∷ calls) = lowest_positive calls

transmit_good : (me peer w : ℕ) (calls : List EndEntry) → AllByRecursion (IsGood (number calls) (handed calls) (accepted_count calls)) (right_transmit me peer w calls)
transmit_good me peer w calls = frames_good (is_open calls) me peer (number calls) (accepted_count calls) (lowest calls) (transmitted calls) w (data_arrived calls) (owes_close calls) (ending calls) (handed calls) (lowest_positive calls)

-- ---- what was transmitted

seq_at : (frame : Frame) (b : Bool) → b ≡ true → frame.seq ≤ cond b frame.seq 0
seq_at frame true e = omega arith
seq_at frame false e = absurd (not_data e)

-- good frames by which the greatest number was transmitted are carried
now_carried : (payloads : List (List ℕ)) (count : ℕ) (calls : List EndEntry) (frames : List Frame) → handed calls ≡ payloads → length (accepted calls) ≡ count → greatest_seq frames ≤ transmitted calls → AllByRecursion (IsGood (number calls) payloads count) frames → AllByRecursion (IsCarried calls) frames
now_carried payloads count calls [] same also most good = tt
now_carried payloads count calls (frame ∷ frames) same also most good = (
  record {
    is_of_session = good.0.0;
    acknowledges = let ack = good.0.1 in omega (arith, ack, also);
    is_transmitted = λ d. omega (arith, most, seq_at frame (is_data frame.kind) d);
    is_numbered = λ d. (good.0.2 d).0;
    carries = λ d. ap (λ ps. slice_get ps (frame.seq - 1)) same ∙ (good.0.2 d).1;
  },
  now_carried payloads count calls frames same also (omega (arith, most)) good.1,
)

-- ---- one call more

-- by a call more in the same session no fewer payloads are handed and accepted, and no less is transmitted
pub record IsLonger (before after : List EndEntry) : Type 0 where
  pub same_session : number before ≡ number after
  pub more : List (List ℕ)
  pub handed_more : handed before ++ more ≡ handed after
  pub accepted_more : length (accepted before) ≤ length (accepted after)
  pub transmitted_more : transmitted before ≤ transmitted after

carried_later : (before after : List EndEntry) → IsLonger before after → (frame : Frame) → IsCarried before frame → IsCarried after frame
carried_later before after longer frame carried = record {
  is_of_session = carried.is_of_session ∙ longer.same_session;
  acknowledges = let one = carried.acknowledges in let two = longer.accepted_more in omega (arith, one, two);
  is_transmitted = λ d. let one = carried.is_transmitted d in let two = longer.transmitted_more in omega (arith, one, two);
  is_numbered = carried.is_numbered;
  carries = λ d. place_in_whole (handed before) longer.more (handed after) (frame.seq - 1) frame.payload longer.handed_more (carried.carries d);
}

-- whether a call opened a session anew
abbrev reopens : EndEntry → Bool
reopens (ends.Reopen k (Ok done)) = true
reopens (_) = false

call_longer : (call : EndEntry) (calls : List EndEntry) → reopens call ≡ false → IsLonger calls (call ∷ calls)
call_longer (ends.Reopen k (Ok done)) calls never = let opened : true ≡ false = never in absurd (cc)
call_longer (ends.Send payload kind (Ok n)) calls never = record { same_session = refl; more = payload ∷ []; handed_more = refl; accepted_more = omega arith; transmitted_more = omega arith }
call_longer (ends.Arrive frame (Ok (arrived.Took k))) calls never = record { same_session = refl; more = []; handed_more = append-nil (handed calls); accepted_more = accepts_more (is_present frame calls) (accepted calls) (filled (places (accepted_count calls + 1) k (ends.Arrive frame (Ok (arrived.Took k)) ∷ calls))); transmitted_more = omega arith }
call_longer (ends.Transmit frames) calls never = record { same_session = refl; more = []; handed_more = append-nil (handed calls); accepted_more = omega arith; transmitted_more = omega arith }
call_longer call calls never = record { same_session = refl; more = []; handed_more = append-nil (handed calls); accepted_more = omega arith; transmitted_more = omega arith }

-- the numbers of sessions are 1 and above
number_positive : (calls : List EndEntry) → Rises calls → 1 ≤ number calls
number_positive [] rises = omega arith
number_positive (call ∷ calls) rises = let before = number_positive calls rises.1 in let more = number_rises call calls rises.0 in omega (arith, before, more)

opened_one : (m k : ℕ) (frame : Frame) (calls : List EndEntry) → Rises calls → number calls < k → k ≡ m → frame.session ≡ m → IsCarried (up_to m calls) frame → ⊥
opened_one m k frame calls rises above same session carried =
    let first : frame.session ≡ 1 = (subst (λ before. IsCarried before frame) (none_above m calls rises (subst (λ (j : ℕ). number calls < j) same above)) carried).is_of_session in
    let low = number_positive calls rises in
    omega (arith, above, low, first, same, session)

-- a call that begins no session leaves the frames of the present one carried
present_later : (m : ℕ) (call : EndEntry) (calls : List EndEntry) (frame : Frame) → reopens call ≡ false → number calls ≡ m → IsCarried (up_to m calls) frame → IsCarried (call ∷ calls) frame
present_later m call calls frame none is carried = carried_later calls (call ∷ calls) (call_longer call calls none) frame (subst (λ before. IsCarried before frame) (up_to_present m calls is) carried)

in_present : (m : ℕ) (call : EndEntry) (calls : List EndEntry) (frame : Frame) → Rises (call ∷ calls) → number (call ∷ calls) ≡ m → frame.session ≡ m → IsCarried (up_to m calls) frame → IsCarried (call ∷ calls) frame
in_present m (ends.Reopen k (Ok done)) calls frame rises is session carried = absurd (opened_one m k frame calls rises.1 rises.0 is session carried)
in_present m (ends.Send payload kind result) calls frame rises is session carried = present_later m (ends.Send payload kind result) calls frame refl is carried
in_present m call calls frame rises is session carried = present_later m call calls frame refl is carried

-- a frame is as its sender gave it in its session, by a call more
frame_later : (m : ℕ) (call : EndEntry) (calls : List EndEntry) (frame : Frame) → Rises (call ∷ calls) → frame.session ≡ m → IsCarried (up_to m calls) frame → IsCarried (up_to m (call ∷ calls)) frame
frame_later m call calls frame rises session carried = by (number (call ∷ calls) == m) refl
  where
    by : (b : Bool) → (number (call ∷ calls) == m) ≡ b → IsCarried (cond b (call ∷ calls) (up_to m calls)) frame
    by true is = in_present m call calls frame rises (eqb-true (number (call ∷ calls)) m is) session carried
    by false other = carried

-- a frame as its sender gave it in its session
abbrev IsThere : List EndEntry → Frame → Type 0
IsThere calls frame = IsCarried (up_to frame.session calls) frame

later_all : (call : EndEntry) (calls : List EndEntry) (frames : List Frame) → Rises (call ∷ calls) → AllByRecursion (IsThere calls) frames → AllByRecursion (IsThere (call ∷ calls)) frames
later_all call calls frames rises all = all_weaker (IsThere calls) (IsThere (call ∷ calls)) (λ frame there. frame_later frame.session call calls frame rises refl there) frames all

-- what an end gives is of its present session
now_there : (calls : List EndEntry) (frame : Frame) → IsCarried calls frame → IsThere calls frame
now_there calls frame carried = subst (λ whole. IsCarried whole frame) (sym (up_to_present frame.session calls (sym carried.is_of_session))) carried

-- by right calls all that they accepted had come
all_came : (me peer : ℕ) (limits : Limits) (calls : List EndEntry) → AreRightCalls me peer limits calls → AllCame calls
all_came me peer limits [] right = tt
all_came me peer limits (call ∷ calls) right = (right_came me peer limits call calls right.0, all_came me peer limits calls right.1)

-- and their numbers rise
pub all_rise : (me peer : ℕ) (limits : Limits) (calls : List EndEntry) → AreRightCalls me peer limits calls → Rises calls
all_rise me peer limits [] right = tt
all_rise me peer limits (call ∷ calls) right = (right_rises me peer limits call calls right.0, all_rise me peer limits calls right.1)

-- each frame that right calls gave is as they gave it in its session
all_carried : (me peer : ℕ) (limits : Limits) (calls : List EndEntry) → AreRightCalls me peer limits calls → AllByRecursion (IsThere calls) (pair.transmitted_frames calls)
all_carried me peer limits [] right = tt
all_carried me peer limits (ends.Transmit frames ∷ calls) right =
    all_append (IsThere (ends.Transmit frames ∷ calls)) (pair.transmitted_frames calls) frames
    (later_all (ends.Transmit frames) calls (pair.transmitted_frames calls) (all_rise me peer limits (ends.Transmit frames ∷ calls) right) (all_carried me peer limits calls right.1))
    (all_weaker (IsCarried (ends.Transmit frames ∷ calls)) (IsThere (ends.Transmit frames ∷ calls)) (now_there (ends.Transmit frames ∷ calls)) frames
    (now_carried (handed calls) (accepted_count calls) (ends.Transmit frames ∷ calls) frames refl (accepted_length calls (all_came me peer limits calls right.1)) (omega arith) (subst (AllByRecursion (IsGood (number calls) (handed calls) (accepted_count calls))) (sym right.0) (transmit_good me peer limits.window calls))))
all_carried me peer limits (call ∷ calls) right = later_all call calls (pair.transmitted_frames calls) (all_rise me peer limits (call ∷ calls) right) (all_carried me peer limits calls right.1)

-- ---- in a run

-- each frame that was ever given is as its sender's end gave it in the session of the frame
pub frames_carried : (n : ℕ) (limits : ℕ → Limits) (J : List Entry) → WorldRun n limits J → (frame : Frame) → Contains (transmitted_frames J) frame → IsCarried (calls_in n frame.from frame.to frame.session J) frame
frames_carried n limits J run frame from =
    let calls : List EndEntry = calls_at frame.to (history_at frame.from n J) in
    All-contains (IsThere calls) (pair.transmitted_frames calls) frame
    (All-from_recursion (IsThere calls) (pair.transmitted_frames calls) (all_carried frame.from frame.to (limits frame.from) calls (calls_law frame.from n (limits frame.from) (deeds_at frame.from J) (right_deeds_at n limits J run frame.from) frame.to)))
    (given_there n limits J frame run from)
