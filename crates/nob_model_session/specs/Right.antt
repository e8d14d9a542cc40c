-- The one right answer to each call on an end of a session, from the list of the calls before it (newest first).
use Rattle.std.specs.Prelude.{◌≡◌, ℕ, zero, suc, ◌+◌, ◌-◌, max, Bool, true, false, not, ◌&&◌, ◌||◌, ◌==◌, nat_lt, nat_le, List, [], ◌∷◌, ◌++◌, length, take, drop, Option, Some, None, IsSome, Result, Ok, Err, if◌then◌else◌}
use Rattle.nob_ids.specs.Reasons.{reason_number}
use Rattle.nob_ids.specs.declared.limits.Limits.{Limits}
use Rattle.nob_ids.specs.declared.reason.Reason.{Reason}
use Rattle.nob_ids.specs.declared.reason.Reason.TheVariants.{PeerClosed, RetriesUsedUp, BadItem}
use Rattle.nob_frame.specs.declared.frame.Frame.{Frame}
use Rattle.nob_frame.specs.declared.frame.FrameKind.TheVariants as kind
use Rattle.nob_frame.specs.Kinds.{is_data, is_close}
use Rattle.nob_model_session.specs.declared.refusal.EndRefusal.{EndRefusal}
use Rattle.nob_model_session.specs.declared.refusal.EndRefusal.TheVariants as refusal
use Rattle.nob_model_session.specs.declared.entry.Kind.{Kind}
use Rattle.nob_model_session.specs.declared.entry.Kind.TheVariants.{Limited, Note}
use Rattle.nob_model_session.specs.declared.entry.Ending.{Ending}
use Rattle.nob_model_session.specs.declared.entry.Arrived.{Arrived}
use Rattle.nob_model_session.specs.declared.entry.Arrived.TheVariants as arrived
use Rattle.nob_model_session.specs.declared.entry.EndEntry.{EndEntry}
use Rattle.nob_model_session.specs.declared.entry.EndEntry.TheVariants.{Send, Transmit, Arrive, Front, Take, IsOpen, Tick, Close, Reopen}
use Rattle.nob_model_session.specs.End.{last_item, last_session, number, seen, ending, is_open, handed, lowest, unacknowledged, accepted_count, early, takes, waiting, transmitted, data_arrived, is_out, ticks, owes_close}

-- so many unacknowledged items and no more before a limited one is refused
abbrev pub queue_limit : ℕ
queue_limit = 4096

-- so many accepted items wait at most
abbrev pub inbox_limit : ℕ
inbox_limit = 256

-- whether `send` refuses it while too many are unacknowledged
abbrev pub is_limited : Kind → Bool
is_limited Limited = true
is_limited Note = false

-- `send`: the next number, unless the end is closed, or too many limited items are unacknowledged, or the numbers are used up
abbrev pub right_send : Kind → List EndEntry → Result ℕ EndRefusal
right_send kind L =
    if not (is_open L) then Err refusal.Closed
    else (if is_limited kind && nat_le queue_limit (length (unacknowledged L)) then Err refusal.QueueFull
    else (if nat_le last_item (length (handed L)) then Err refusal.SeqEnd
    else Ok (length (handed L) + 1)))

-- a Data frame for each of these payloads, numbered from n
abbrev pub data_frames : (me peer session ack n : ℕ) → List (List ℕ) → List Frame
data_frames me peer session ack n [] = []
data_frames me peer session ack n (payload ∷ payloads) = record { kind = kind.Data; from = me; to = peer; session = session; seq = n; ack = ack; payload = payload } ∷ data_frames me peer session ack (n + 1) payloads

-- an Ack frame
abbrev pub ack_frame : (me peer session ack : ℕ) → Frame
ack_frame me peer session ack = record { kind = kind.Ack; from = me; to = peer; session = session; seq = 0; ack = ack; payload = [] }

-- a Close frame with a reason
abbrev pub close_frame : (me peer session ack : ℕ) → Reason → Frame
close_frame me peer session ack reason = record { kind = kind.Close; from = me; to = peer; session = session; seq = 0; ack = ack; payload = reason_number reason ∷ [] }

-- what an open end gives of the payloads from number n on: Data frames for the first of them and for those above the highest number given before, else an Ack frame if one is due
abbrev pub open_frames : (me peer session ack n transmitted : ℕ) → Bool → List (List ℕ) → List Frame
open_frames me peer session ack n transmitted due [] = if due then ack_frame me peer session ack ∷ [] else []
open_frames me peer session ack n transmitted due (payload ∷ payloads) = data_frames me peer session ack n (payload ∷ []) ++ data_frames me peer session ack (max n transmitted + 1) (drop (transmitted - n) payloads)

-- what an end gives that has closed for a reason (or, with none, hasn't): the Close frame that it owes
abbrev pub closed_frames : (me peer session ack : ℕ) → Bool → Option Reason → List Frame
closed_frames me peer session ack owes None = []
closed_frames me peer session ack owes (Some reason) = if owes then close_frame me peer session ack reason ∷ [] else []

-- `transmit`: an open end gives of a window of unacknowledged items the lowest and those that it never gave, or an Ack if Data arrived since the last; a closed end the Close that it owes
abbrev pub right_transmit : (me peer window : ℕ) → List EndEntry → List Frame
right_transmit me peer window L =
    if is_open L then open_frames me peer (number L) (accepted_count L + 1) (lowest L) (transmitted L) (data_arrived L) (take window (unacknowledged L))
    else closed_frames me peer (number L) (accepted_count L + 1) (owes_close L) (ending L)

-- whether a frame is for this end of this pair
abbrev pub is_of_pair : (me peer : ℕ) → Frame → Bool
is_of_pair me peer frame = (frame.from == peer) && (frame.to == me)

-- how many of these places are filled in a row from the first on, none counted beyond the most that are asked for
abbrev pub in_a_row : {A : Type 0} → (most : ℕ) → List (Option A) → ℕ
in_a_row zero places = 0
in_a_row (suc most) [] = 0
in_a_row (suc most) (None ∷ more) = 0
in_a_row (suc most) (Some x ∷ more) = suc (in_a_row most more)

-- how many items an open end accepts when it hears a frame: where that is a Data frame, all that are kept in a row from the next one on, its own among them, while the inbox has room
abbrev pub taken_by : Frame → List EndEntry → ℕ
taken_by frame L = if is_data frame.kind then in_a_row (inbox_limit - length (waiting L)) (early (Arrive frame (Ok (arrived.Took 0)) ∷ L)) else 0

-- what a frame of the pair does: one of an older session brings nothing; a closed end takes nothing; one of a newer session, a Close or a wrong `ack` closes; else the end accepts what is kept in a row
abbrev pub arrived_by : (peer : ℕ) → Frame → List EndEntry → Arrived
arrived_by peer frame L =
    if nat_lt frame.session (number L) then arrived.Took 0
    else (if not (is_open L) then arrived.Took 0
    else (if nat_lt (number L) frame.session || is_close frame.kind then arrived.Closed (record { peer = peer; reason = PeerClosed })
    else (if nat_lt (transmitted L + 1) frame.ack then arrived.Closed (record { peer = peer; reason = BadItem })
    else arrived.Took (taken_by frame L))))

-- `arrive`: another pair's frame is refused
abbrev pub right_arrive : (me peer : ℕ) → Frame → List EndEntry → Result Arrived EndRefusal
right_arrive me peer frame L = if not (is_of_pair me peer frame) then Err refusal.Strange else Ok (arrived_by peer frame L)

-- the first of these payloads, with its number
abbrev pub first_of : ℕ → List (List ℕ) → Option (ℕ × List ℕ)
first_of n [] = None
first_of n (payload ∷ payloads) = Some (n, payload)

-- `front`: the first item that waits, with its number
abbrev pub right_front : List EndEntry → Option (ℕ × List ℕ)
right_front L = first_of (takes L + 1) (waiting L)

-- `tick`: refused at a closed end; the tick that makes the count reach the retry limit closes with reason 3
abbrev pub right_tick : (peer retry : ℕ) → List EndEntry → Result (Option Ending) EndRefusal
right_tick peer retry L =
    if not (is_open L) then Err refusal.Closed
    else (if is_out L && nat_le retry (ticks L + 1) then Ok (Some (record { peer = peer; reason = RetriesUsedUp }))
    else Ok None)

-- `close`: refused at a closed end
abbrev pub right_close : (peer : ℕ) → Reason → List EndEntry → Result Ending EndRefusal
right_close peer reason L =
    if not (is_open L) then Err refusal.Closed
    else Ok (record { peer = peer; reason = reason })

-- whether a closed end may be opened again under this number: one above that of its session, not below the highest that arrived, and a session's number
abbrev pub is_free_number : ℕ → List EndEntry → Bool
is_free_number k L = nat_lt (number L) k && nat_le (seen L) k && nat_le k last_session

-- `reopen`: refused at an open end, and for a number that isn't free
abbrev pub right_reopen : ℕ → List EndEntry → Result Unit EndRefusal
right_reopen k L =
    if is_open L then Err refusal.StillOpen
    else (if not (is_free_number k L) then Err refusal.Number
    else Ok tt)

-- an entry's answer is the right one after the calls before; `take` is made only where something waits
abbrev pub IsRight : (me peer : ℕ) → Limits → EndEntry → List EndEntry → Type 0
IsRight me peer limits (Send payload kind answer) L = answer ≡ right_send kind L
IsRight me peer limits (Transmit frames) L = frames ≡ right_transmit me peer limits.window L
IsRight me peer limits (Arrive frame answer) L = answer ≡ right_arrive me peer frame L
IsRight me peer limits (Front answer) L = answer ≡ right_front L
IsRight me peer limits Take L = IsSome (right_front L)
IsRight me peer limits (IsOpen answer) L = answer ≡ is_open L
IsRight me peer limits (Tick answer) L = answer ≡ right_tick peer limits.retry L
IsRight me peer limits (Close reason answer) L = answer ≡ right_close peer reason L
IsRight me peer limits (Reopen k answer) L = answer ≡ right_reopen k L
