-- What the steps of a pair script add to a run of the pair, and what they answer.
use Rattle.std.specs.Prelude.{ℕ, zero, suc, ◌+◌, min, max, List, [], ◌∷◌, ◌++◌, length, map, Option, Some, None, Result, Ok, Err, codes, slice_get, is_some, is_ok, Bool, true, false, ◌==◌, ◌&&◌, if◌then◌else◌}
use Rattle.std.specs.Fmt.{decimal}
use Rattle.hex.specs.Hex.{encode_lower}
use Rattle.nob_ids.specs.Reasons.{reason_number}
use Rattle.nob_ids.specs.declared.limits.Limits.{Limits}
use Rattle.nob_ids.specs.declared.reason.Reason.{Reason}
use Rattle.nob_ids.specs.declared.reason.Reason.TheVariants.{Asked}
use Rattle.nob_frame.specs.declared.frame.Frame.{Frame}
use Rattle.nob_model_session.specs.declared.refusal.EndRefusal.{EndRefusal}
use Rattle.nob_model_session.specs.declared.refusal.EndRefusal.TheVariants as refusal
use Rattle.nob_model_session.specs.declared.entry.Kind.TheVariants.{Limited}
use Rattle.nob_model_session.specs.declared.entry.Ending.{Ending}
use Rattle.nob_model_session.specs.declared.entry.Arrived.{Arrived}
use Rattle.nob_model_session.specs.declared.entry.Arrived.TheVariants as arrived
use Rattle.nob_model_session.specs.declared.entry.EndEntry.{EndEntry}
use Rattle.nob_model_session.specs.declared.entry.EndEntry.TheVariants as entry
use Rattle.nob_model_session.specs.declared.entry.PairEntry.{PairEntry}
use Rattle.nob_model_session.specs.declared.entry.PairEntry.TheVariants as pair
use Rattle.nob_model_session.specs.End.{number, seen, last_session, is_open}
use Rattle.nob_model_session.specs.Right.{right_send, right_transmit, right_arrive, right_front, right_tick, right_close, right_reopen}
use Rattle.nob_model_session.specs.Pair.{first_calls, second_calls}
use Rattle.nob_demo_scripts.specs.declared.answer.Answer.{Answer}
use Rattle.nob_demo_scripts.specs.declared.answer.Answer.TheVariants as answer
use Rattle.nob_demo_scripts.specs.declared.step.Side.{Side}
use Rattle.nob_demo_scripts.specs.declared.step.Side.TheVariants.{First, Second}
use Rattle.nob_demo_scripts.specs.declared.step.Call.{Call}
use Rattle.nob_demo_scripts.specs.declared.step.Call.TheVariants.{Put, Send, Get, Tick, Close, Open}
use Rattle.nob_demo_scripts.specs.declared.step.Step.{Step}
use Rattle.nob_demo_scripts.specs.declared.step.Step.TheVariants.{At, Deliver}

-- the space of an end
abbrev pub space_of : Side → ℕ
space_of First = 1
space_of Second = 2

-- the space at the other end
abbrev pub peer_of : Side → ℕ
peer_of First = 2
peer_of Second = 1

-- the calls on an end
abbrev pub calls_at : Side → List PairEntry → List EndEntry
calls_at First J = first_calls J
calls_at Second J = second_calls J

-- a call on an end
abbrev pub entry_at : Side → EndEntry → PairEntry
entry_at First e = pair.First e
entry_at Second e = pair.Second e

-- all frames that were ever transmitted, in the order of their transmits
abbrev pub all_given : List PairEntry → List Frame
all_given [] = []
all_given (pair.First (entry.Transmit frames) ∷ J) = all_given J ++ frames
all_given (pair.Second (entry.Transmit frames) ∷ J) = all_given J ++ frames
all_given (_ ∷ J) = all_given J

-- the frame of this number, counted from 1
abbrev pub frame_numbered : ℕ → List Frame → Option Frame
frame_numbered zero frames = None
frame_numbered (suc k) frames = slice_get frames k

-- the end at which a frame arrives
abbrev pub side_to : Frame → Side
side_to frame = if frame.to == 1 then First else Second

-- a get is a look at the front, and, if something waits there, a take
abbrev pub got : Option (ℕ × List ℕ) → List EndEntry
got None = entry.Front None ∷ []
got (Some item) = entry.Take ∷ entry.Front (Some item) ∷ []

-- the number of an end's next session: the greater of its session's and one, if there is such a number, and the highest that arrived
abbrev pub next_number : List EndEntry → ℕ
next_number L = max (min (number L + 1) last_session) (seen L)

-- what a call adds to the calls of its end, the newest first: a get at a closed end adds nothing
abbrev pub calls_of : Limits → (me peer : ℕ) → Call → List EndEntry → List EndEntry
calls_of limits me peer (Put item) L = entry.Send item Limited (right_send Limited L) ∷ []
calls_of limits me peer Send L = entry.Transmit (right_transmit me peer limits.window L) ∷ []
calls_of limits me peer Get L = if is_open L then got (right_front L) else []
calls_of limits me peer Tick L = entry.Tick (right_tick peer limits.retry L) ∷ []
calls_of limits me peer Close L = entry.Close Asked (right_close peer Asked L) ∷ []
calls_of limits me peer Open L = entry.Reopen (next_number L) (right_reopen (next_number L) L) ∷ []

-- what the arrival of a frame adds, if there is one
abbrev pub arrival_of : Option Frame → List PairEntry → List PairEntry
arrival_of None J = []
arrival_of (Some frame) J = entry_at (side_to frame) (entry.Arrive frame (right_arrive (space_of (side_to frame)) (peer_of (side_to frame)) frame (calls_at (side_to frame) J))) ∷ []

-- what a step adds to the run, the newest first
abbrev pub entries_of : Limits → Step → List PairEntry → List PairEntry
entries_of limits (At side call) J = map (entry_at side) (calls_of limits (space_of side) (peer_of side) call (calls_at side J))
entries_of limits (Deliver k) J = arrival_of (frame_numbered k (all_given J)) J

-- ---- texts of answers

abbrev pub refusal_text : EndRefusal → List ℕ
refusal_text refusal.Closed = codes "N1"
refusal_text refusal.QueueFull = codes "N2"
refusal_text refusal.SeqEnd = codes "N3"
refusal_text refusal.Strange = codes "N4"
refusal_text refusal.StillOpen = codes "N5"
refusal_text refusal.Number = codes "N6"

-- that an end closed, with the number of the reason
abbrev pub closed_text : Reason → List ℕ
closed_text reason = codes "closed " ++ decimal (reason_number reason)

-- the number that a put item got
abbrev pub put_text : Result ℕ EndRefusal → List ℕ
put_text (Ok n) = codes "item " ++ decimal n
put_text (Err r) = refusal_text r

-- so many numbers from n on, each after a space
abbrev pub numbers_text : (n count : ℕ) → List ℕ
numbers_text n zero = []
numbers_text n (suc count) = (32 ∷ decimal n) ++ numbers_text (n + 1) count

-- the numbers of so many frames that a transmit gave, after so many frames before
abbrev pub sent_text : (before count : ℕ) → List ℕ
sent_text before zero = codes "frames none"
sent_text before (suc count) = codes "frames" ++ numbers_text (before + 1) (suc count)

-- the item that was taken
abbrev pub got_text : Option (ℕ × List ℕ) → List ℕ
got_text None = codes "none"
got_text (Some item) = codes "item " ++ decimal item.0 ++ 32 ∷ encode_lower item.1

-- what a tick did
abbrev pub tick_text : Result (Option Ending) EndRefusal → List ℕ
tick_text (Ok None) = codes "ok"
tick_text (Ok (Some e)) = closed_text e.reason
tick_text (Err r) = refusal_text r

-- what a close did
abbrev pub close_text : Result Ending EndRefusal → List ℕ
close_text (Ok e) = closed_text e.reason
close_text (Err r) = refusal_text r

-- the number of the session in which an end opened
abbrev pub open_text : ℕ → Result (Unit {0}) EndRefusal → List ℕ
open_text number (Ok done) = codes "opened " ++ decimal number
open_text number (Err r) = refusal_text r

-- what an arriving frame did
abbrev pub arrive_text : Result Arrived EndRefusal → List ℕ
arrive_text (Ok (arrived.Took n)) = codes "took " ++ decimal n
arrive_text (Ok (arrived.Closed e)) = closed_text e.reason
arrive_text (Err r) = refusal_text r

-- the answer to a call on an end, after so many frames were transmitted
abbrev pub call_answer : Limits → (me peer : ℕ) → Call → ℕ → List EndEntry → List ℕ
call_answer limits me peer (Put item) before L = put_text (right_send Limited L)
call_answer limits me peer Send before L = sent_text before (length (right_transmit me peer limits.window L))
call_answer limits me peer Get before L = if is_open L then got_text (right_front L) else codes "N1"
call_answer limits me peer Tick before L = tick_text (right_tick peer limits.retry L)
call_answer limits me peer Close before L = close_text (right_close peer Asked L)
call_answer limits me peer Open before L = open_text (next_number L) (right_reopen (next_number L) L)

-- the answer to a delivery: `X2` where the frame was never transmitted
abbrev pub delivery_answer : Option Frame → List PairEntry → List ℕ
delivery_answer None J = codes "X2"
delivery_answer (Some frame) J = arrive_text (right_arrive (space_of (side_to frame)) (peer_of (side_to frame)) frame (calls_at (side_to frame) J))

-- the answer to a step, after the run of the steps before it
abbrev pub step_answer : Limits → Step → List PairEntry → List ℕ
step_answer limits (At side call) J = call_answer limits (space_of side) (peer_of side) call (length (all_given J)) (calls_at side J)
step_answer limits (Deliver k) J = delivery_answer (frame_numbered k (all_given J)) J

-- ---- want of memory

-- whether a call on an end takes memory: a put that the end accepts, a send, and a get where an item waits at an open end
abbrev pub call_takes_memory : Call → List EndEntry → Bool
call_takes_memory (Put item) L = is_ok (right_send Limited L)
call_takes_memory Send L = true
call_takes_memory Get L = is_open L && is_some (right_front L)
call_takes_memory Tick L = false
call_takes_memory Close L = false
call_takes_memory Open L = false

-- whether a step takes memory, after the run of the steps before it: a delivery does where the frame was transmitted
abbrev pub takes_memory : Step → List PairEntry → Bool
takes_memory (At side call) J = call_takes_memory call (calls_at side J)
takes_memory (Deliver k) J = is_some (frame_numbered k (all_given J))

-- ---- answers as the runner gives them

-- the text of an answer
abbrev pub answer_text : Answer → List ℕ
answer_text (answer.Item n) = codes "item " ++ decimal n
answer_text (answer.Sent sent) = sent_text sent.before sent.count
answer_text answer.SentNothing = codes "frames none"
answer_text (answer.Got n item) = codes "item " ++ decimal n ++ 32 ∷ encode_lower item
answer_text answer.Nothing = codes "none"
answer_text answer.Done = codes "ok"
answer_text (answer.Took n) = codes "took " ++ decimal n
answer_text (answer.Closed reason) = closed_text reason
answer_text (answer.Opened number) = codes "opened " ++ decimal number
answer_text (answer.Refused r) = refusal_text r
answer_text answer.NoFrame = codes "X2"
