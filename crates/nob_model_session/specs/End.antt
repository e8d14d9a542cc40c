-- The words of one end, read off the whole list of its calls. The newest call stands FIRST, so that each word of a
-- list with one call more is computed from that call and the words before. An entry with a refusal changes no word.
-- A `reopen` that was answered begins a new session: each word but `number` and `seen` is then as at first.
use Rattle.std.specs.Prelude.{ℕ, zero, suc, ◌+◌, ◌-◌, ◌^◌, max, Bool, true, false, not, ◌&&◌, ◌||◌, ◌==◌, nat_lt, nat_le, List, [], ◌∷◌, ◌++◌, drop, Option, Some, None, is_none, Ok, if◌then◌else◌}
use Rattle.std.specs.Option.{option_or}
use Rattle.nob_ids.specs.declared.reason.Reason.{Reason}
use Rattle.nob_ids.specs.declared.reason.Reason.TheVariants.{PeerClosed, Asked, RetriesUsedUp, BadItem, BadReference, OutOfPlace}
use Rattle.nob_frame.specs.declared.frame.Frame.{Frame}
use Rattle.nob_frame.specs.Kinds.{is_data, is_close}
use Rattle.nob_model_session.specs.declared.entry.Arrived.TheVariants as arrived
use Rattle.nob_model_session.specs.declared.entry.EndEntry.{EndEntry}
use Rattle.nob_model_session.specs.declared.entry.EndEntry.TheVariants.{Send, Transmit, Arrive, Take, Tick, Close, Reopen}

-- the number of the session that the end is in: that of its last `reopen`, and 1 before the first
abbrev pub number : List EndEntry → ℕ
number [] = 1
number (Reopen k (Ok done) ∷ L) = k
number (_ ∷ L) = number L

-- the highest number in a frame of the pair that arrived, 0 if none did: a `reopen` leaves it
abbrev pub seen : List EndEntry → ℕ
seen [] = 0
seen (Arrive frame (Ok answer) ∷ L) = max (seen L) frame.session
seen (_ ∷ L) = seen L

-- the calls up to the moment at which the end left session k (all of them, if it is in it), none if it was never in it
abbrev pub up_to : ℕ → List EndEntry → List EndEntry
up_to k [] = []
up_to k (entry ∷ L) = if number (entry ∷ L) == k then entry ∷ L else up_to k L

-- whether a frame is of the session that the end is in
abbrev pub is_present : Frame → List EndEntry → Bool
is_present frame L = frame.session == number L

-- whether a frame is of that session or of an older one
abbrev pub is_known : Frame → List EndEntry → Bool
is_known frame L = nat_le frame.session (number L)

-- why this end closed, if it has
abbrev pub ending : List EndEntry → Option Reason
ending [] = None
ending (Reopen k (Ok done) ∷ L) = None
ending (Arrive frame (Ok (arrived.Closed e)) ∷ L) = Some e.reason
ending (Tick (Ok (Some e)) ∷ L) = Some e.reason
ending (Close reason (Ok e) ∷ L) = Some e.reason
ending (_ ∷ L) = ending L

-- whether this end is open
abbrev pub is_open : List EndEntry → Bool
is_open L = is_none (ending L)

-- the payloads that were handed to `send` and taken by it, the first first: their numbers are 1, 2, ..
abbrev pub handed : List EndEntry → List (List ℕ)
handed [] = []
handed (Reopen k (Ok done) ∷ L) = []
handed (Send payload kind (Ok n) ∷ L) = handed L ++ payload ∷ []
handed (_ ∷ L) = handed L

-- the lowest number that the peer hasn't acknowledged: the greatest `ack` of a Data or Ack frame of this session that arrived at the open end, at least 1
abbrev pub lowest : List EndEntry → ℕ
lowest [] = 1
lowest (Reopen k (Ok done) ∷ L) = 1
lowest (Arrive frame (Ok (arrived.Took k)) ∷ L) = if is_present frame L && is_open L && not (is_close frame.kind) then max (lowest L) frame.ack else lowest L
lowest (_ ∷ L) = lowest L

-- the payloads that are handed and not acknowledged: a close throws them away
abbrev pub unacknowledged : List EndEntry → List (List ℕ)
unacknowledged L = if is_open L then drop (lowest L - 1) (handed L) else []

-- the greatest number of an item in Data frames, 0 if there are none
abbrev pub greatest_seq : List Frame → ℕ
greatest_seq [] = 0
greatest_seq (frame ∷ frames) = max (if is_data frame.kind then frame.seq else 0) (greatest_seq frames)

-- the highest number that was transmitted
abbrev pub transmitted : List EndEntry → ℕ
transmitted [] = 0
transmitted (Reopen k (Ok done) ∷ L) = 0
transmitted (Transmit frames ∷ L) = max (transmitted L) (greatest_seq frames)
transmitted (_ ∷ L) = transmitted L

-- the greatest number of an item
abbrev pub last_item : ℕ
last_item = 2 ^ 40

-- the greatest number of a session
abbrev pub last_session : ℕ
last_session = 2 ^ 32 - 1

-- how many numbers, from the next one on, are in reach: what comes there is kept
abbrev pub reach : ℕ
reach = 64

-- how many items were accepted: the sum of what the arrivals of this session's frames took
abbrev pub accepted_count : List EndEntry → ℕ
accepted_count [] = 0
accepted_count (Reopen k (Ok done) ∷ L) = 0
accepted_count (Arrive frame (Ok (arrived.Took k)) ∷ L) = if is_present frame L then k + accepted_count L else accepted_count L
accepted_count (_ ∷ L) = accepted_count L

-- whether number n is in reach of an end that has accepted this many items: it is the next, or one of the 63 behind it, and at most 2^40
abbrev pub is_in_reach : (accepted n : ℕ) → Bool
is_in_reach accepted n = nat_lt accepted n && nat_le n (accepted + reach) && nat_le n last_item

-- whether a frame brings the payload of item n to an end that has accepted this many: it is a Data frame with this number, which is in reach
abbrev pub brings_at : ℕ → Frame → (accepted : ℕ) → Bool
brings_at n frame accepted = is_data frame.kind && (frame.seq == n) && is_in_reach accepted n

-- the payload of item n, where it came: that of the first frame of this session that brought it
abbrev pub payload : ℕ → List EndEntry → Option (List ℕ)
payload n [] = None
payload n (Reopen k (Ok done) ∷ L) = None
payload n (Arrive frame (Ok (arrived.Took k)) ∷ L) = option_or (payload n L) (if is_present frame L && brings_at n frame (accepted_count L) then Some frame.payload else None)
payload n (_ ∷ L) = payload n L

-- the places of the numbers from n on, as many as are asked for, each with the payload that came there, if one did
unfoldable pub places : (n count : ℕ) → List EndEntry → List (Option (List ℕ))
places n zero L = []
places n (suc count) L = payload n L ∷ places (n + 1) count L

-- what stands in these places, in order
abbrev pub filled : {A : Type 0} → List (Option A) → List A
filled [] = []
filled (None ∷ more) = filled more
filled (Some x ∷ more) = x ∷ filled more

-- the payloads that were accepted, the first first: their numbers are 1, 2, ..
abbrev pub accepted : List EndEntry → List (List ℕ)
accepted [] = []
accepted (Reopen k (Ok done) ∷ L) = []
accepted (Arrive frame (Ok (arrived.Took k)) ∷ L) = if is_present frame L then accepted L ++ filled (places (accepted_count L + 1) k (Arrive frame (Ok (arrived.Took k)) ∷ L)) else accepted L
accepted (_ ∷ L) = accepted L

-- what is kept of the numbers in reach, the next first: a close throws it away
abbrev pub early : List EndEntry → List (Option (List ℕ))
early L = if is_open L then places (accepted_count L + 1) reach L else []

-- how many items were taken
abbrev pub takes : List EndEntry → ℕ
takes [] = 0
takes (Reopen k (Ok done) ∷ L) = 0
takes (Take ∷ L) = takes L + 1
takes (_ ∷ L) = takes L

-- the payloads that were accepted and wait to be taken: a close throws them away
abbrev pub waiting : List EndEntry → List (List ℕ)
waiting L = if is_open L then drop (takes L) (accepted L) else []

-- whether a Data frame of this session or an older one arrived at the open end since the last transmit
abbrev pub data_arrived : List EndEntry → Bool
data_arrived [] = false
data_arrived (Reopen k (Ok done) ∷ L) = false
data_arrived (Arrive frame (Ok (arrived.Took k)) ∷ L) = data_arrived L || (is_known frame L && is_open L && is_data frame.kind)
data_arrived (Transmit frames ∷ L) = false
data_arrived (_ ∷ L) = data_arrived L

-- whether something is transmitted and not acknowledged
abbrev pub is_out : List EndEntry → Bool
is_out L = nat_le (lowest L) (transmitted L)

-- the counted ticks: those with something out, since an arrival last acknowledged something new
abbrev pub ticks : List EndEntry → ℕ
ticks [] = 0
ticks (Reopen k (Ok done) ∷ L) = 0
ticks (Tick (Ok None) ∷ L) = if is_out L then ticks L + 1 else ticks L
ticks (Arrive frame (Ok (arrived.Took k)) ∷ L) = if is_present frame L && is_open L && not (is_close frame.kind) && nat_lt (lowest L) frame.ack then 0 else ticks L
ticks (_ ∷ L) = ticks L

-- whether an end that closes for this reason owes its peer a Close frame
abbrev pub owes_after : Reason → Bool
owes_after PeerClosed = false
owes_after Asked = true
owes_after RetriesUsedUp = true
owes_after BadItem = true
owes_after BadReference = true
owes_after OutOfPlace = true

-- whether a Close is owed: from a close that is not for the peer's, or a non-Close of this session or an older one that arrived at the closed end, to the next transmit
abbrev pub owes_close : List EndEntry → Bool
owes_close [] = false
owes_close (Reopen k (Ok done) ∷ L) = false
owes_close (Arrive frame (Ok (arrived.Took k)) ∷ L) = owes_close L || (is_known frame L && not (is_open L) && not (is_close frame.kind))
owes_close (Arrive frame (Ok (arrived.Closed e)) ∷ L) = owes_after e.reason
owes_close (Tick (Ok (Some e)) ∷ L) = owes_after e.reason
owes_close (Close reason (Ok e) ∷ L) = owes_after e.reason
owes_close (Transmit frames ∷ L) = false
owes_close (_ ∷ L) = owes_close L
