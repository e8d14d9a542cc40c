-- What the calls on an end answer and leave, by the end alone: for callers who know no list of calls.
use Rattle.std.specs.Prelude.{◌≡◌, ℕ, ◌+◌, ◌-◌, true, false, not, ◌&&◌, nat_lt, nat_le, max, List, [], ◌∷◌, ◌++◌, length, take, drop, replicate, Option, Some, None, Result, Ok, Err, if◌then◌else◌}
use Rattle.nob_frame.specs.declared.frame.Frame.{Frame}
use Rattle.nob_model_session.specs.declared.refusal.EndRefusal.{EndRefusal}
use Rattle.nob_model_session.specs.declared.refusal.EndRefusal.TheVariants as refusal
use Rattle.nob_model_session.specs.declared.entry.Kind.{Kind}
use Rattle.nob_model_session.specs.declared.entry.Ending.{Ending}
use Rattle.nob_model_session.specs.End.{greatest_seq, last_item, last_session, reach, is_in_reach, filled}
use Rattle.nob_model_session.specs.Right.{queue_limit, inbox_limit, is_limited, open_frames, closed_frames, in_a_row}
use Rattle.nob_session.specs.Keeping.{put_at, moved_up}
use Rattle.nob_session.specs.declared.closed.Arrival.{Arrival}
use Rattle.nob_session.specs.declared.closed.Arrival.TheVariants as arrival
use Rattle.nob_session.specs.Stands.{End, is_open_end, closed_end}

-- what `send` answers: the next number, unless the end is closed, or too many limited items are unacknowledged, or the numbers are used up
abbrev pub next_of : Kind → End → Result ℕ EndRefusal
next_of kind e =
    if not (is_open_end e) then Err refusal.Closed
    else (if is_limited kind && nat_le queue_limit (length e.unacknowledged) then Err refusal.QueueFull
    else (if nat_le last_item e.handed then Err refusal.SeqEnd
    else Ok (e.handed + 1)))

-- an open end with one more item handed to it
abbrev pub with_item : End → List ℕ → End
with_item e payload = record e { handed = e.handed + 1; unacknowledged = e.unacknowledged ++ payload ∷ [] }

-- what a transmit gives: of an open end, of a window of unacknowledged items, the lowest and those that it never gave, or an Ack if one is due; of a closed end the Close that it owes
abbrev pub frames_of : End → List Frame
frames_of e =
    if is_open_end e then open_frames e.me e.peer e.number (e.accepted + 1) e.lowest e.transmitted e.data_arrived (take e.limits.window e.unacknowledged)
    else closed_frames e.me e.peer e.number (e.accepted + 1) e.owes_close e.ending

-- an end once it has transmitted
abbrev pub after_transmit : End → End
after_transmit e = record e { transmitted = max e.transmitted (greatest_seq (frames_of e)); data_arrived = false; owes_close = false }

-- an open end that keeps what a Data frame brings: its payload is kept in the place of its number, if that is in reach and empty
abbrev pub keeping : End → Frame → End
keeping e frame = record e { early = if is_in_reach e.accepted frame.seq then put_at (frame.seq - (e.accepted + 1)) frame.payload e.early else e.early }

-- how many items an open end can accept: those that are kept in a row from the next on, while its inbox has room
abbrev pub acceptable : End → ℕ
acceptable e = in_a_row (inbox_limit - length e.waiting) e.early

-- an open end once it has accepted so many of the items that it kept: they wait
abbrev pub accepting : ℕ → End → End
accepting count e = record e { accepted = e.accepted + count; came = e.came + count; waiting = e.waiting ++ filled (take count e.early); early = moved_up count e.early }

-- an end without the first item that waited
abbrev pub without_front : End → End
without_front e = record e { taken = e.taken + 1; waiting = drop 1 e.waiting }

-- what `reopen` answers: an open end refuses it, and so does each a number that isn't above its session's, is below the highest that arrived, or is no session's
abbrev pub reopening_of : ℕ → End → Result Unit EndRefusal
reopening_of number e =
    if is_open_end e then Err refusal.StillOpen
    else (if not (nat_lt e.number number && nat_le e.seen number && nat_le number last_session) then Err refusal.Number
    else Ok tt)

-- an end that begins the session of this number: it is as a new one, but for the highest number that arrived
abbrev pub beginning : ℕ → End → End
beginning number e =
    record {
      me = e.me;
      peer = e.peer;
      limits = e.limits;
      number = number;
      seen = e.seen;
      handed = 0;
      lowest = 1;
      unacknowledged = [];
      transmitted = 0;
      accepted = 0;
      came = 0;
      taken = 0;
      waiting = [];
      early = replicate reach None;
      data_arrived = false;
      ticks = 0;
      ending = None;
      owes_close = false;
    }

-- new is the end of the same session, with the same limits, and as many items were handed to it
pub record SameHanded (old new : End) : Type 0 where
  pub me : new.me ≡ old.me
  pub peer : new.peer ≡ old.peer
  pub number : new.number ≡ old.number
  pub limits : new.limits ≡ old.limits
  pub handed : new.handed ≡ old.handed

-- whether a call closed the end: it is as open as before, or it was open and has closed as the evidence says, which names its peer
abbrev pub EndsBy : End → End → Option Ending → Type 0
EndsBy old new None = new.ending ≡ old.ending
EndsBy old new (Some ending) = (is_open_end old ≡ true) × (ending.peer ≡ old.peer) × (new ≡ closed_end old ending.reason)

-- the evidence that an arriving frame gave, if it closed the end
abbrev pub evidence_of : Arrival → Option Ending
evidence_of (arrival.Took n) = None
evidence_of (arrival.Closed ending) = Some ending
