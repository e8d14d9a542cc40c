-- What a caller may know of an end of a session, and for which lists of calls an end stands.
use Rattle.std.specs.Prelude.{◌≡◌, ℕ, ◌≤◌, Bool, true, not, ◌-◌, ◌&&◌, ◌||◌, max, nat_lt, nat_le, if◌then◌else◌, List, [], length, drop, Option, Some, is_none}
use Rattle.nob_frame.specs.declared.frame.Frame.{Frame}
use Rattle.nob_frame.specs.Kinds.{is_data, is_close}
use Rattle.nob_ids.specs.declared.limits.Limits.{Limits}
use Rattle.nob_ids.specs.declared.reason.Reason.{Reason}
use Rattle.nob_model_session.specs.declared.entry.EndEntry.{EndEntry}
use Rattle.nob_model_session.specs.End as word

-- an end as its callers see it: the number of its session and the highest that arrived, what is unacknowledged, what waits and what is kept early, how far each count has come, and whether it is closed; `came` counts the payloads of the accepted items: each has one
pub record End : Type 0 where
  pub me : ℕ
  pub peer : ℕ
  pub limits : Limits
  pub number : ℕ
  pub seen : ℕ
  pub handed : ℕ
  pub lowest : ℕ
  pub unacknowledged : List (List ℕ)
  pub transmitted : ℕ
  pub accepted : ℕ
  pub came : ℕ
  pub taken : ℕ
  pub waiting : List (List ℕ)
  pub early : List (Option (List ℕ))
  pub data_arrived : Bool
  pub ticks : ℕ
  pub ending : Option Reason
  pub owes_close : Bool

-- an end with room for so many further payloads: what is said of it as unchanged doesn't speak of the room
pub record Roomy : Type 0 where
  pub end : End
  pub room : ℕ

-- whether an end is open
abbrev pub is_open_end : End → Bool
is_open_end e = is_none e.ending

-- an end that is still open has the room that it had: one that closes may free it
abbrev pub KeepsRoom : Roomy → Roomy → Type 0
KeepsRoom old new = is_open_end new.end ≡ true → old.room ≤ new.room

-- the end that these calls, the newest first, leave
abbrev pub end_of : (me peer : ℕ) → Limits → List EndEntry → End
end_of me peer limits L =
    record {
      me = me;
      peer = peer;
      limits = limits;
      number = word.number L;
      seen = word.seen L;
      handed = length (word.handed L);
      lowest = word.lowest L;
      unacknowledged = word.unacknowledged L;
      transmitted = word.transmitted L;
      accepted = word.accepted_count L;
      came = length (word.accepted L);
      taken = word.takes L;
      waiting = word.waiting L;
      early = word.early L;
      data_arrived = word.data_arrived L;
      ticks = word.ticks L;
      ending = word.ending L;
      owes_close = word.owes_close L;
    }

-- an end at which a frame of this session has arrived
abbrev pub seeing : ℕ → End → End
seeing session e = record e { seen = max e.seen session }

-- an open end once it is closed for a reason: what is unacknowledged, what waits and what is kept early is thrown away, and a Close is owed unless the peer has closed
abbrev pub closed_end : End → Reason → End
closed_end e reason = record e { unacknowledged = []; waiting = []; early = []; ending = Some reason; owes_close = word.owes_after reason }

-- an end that has passed over a frame of an older session, or, once it is closed, of any: it takes nothing, and a frame of its session or an older one is answered by an Ack if it is Data and the end is open, by a Close if it is none and the end is closed
abbrev pub passed_over : End → Frame → End
passed_over e frame =
    record e {
      seen = max e.seen frame.session;
      data_arrived = e.data_arrived || (nat_le frame.session e.number && is_open_end e && is_data frame.kind);
      owes_close = e.owes_close || (nat_le frame.session e.number && not (is_open_end e) && not (is_close frame.kind));
    }

-- an open end that has heard a Data or Ack frame: it keeps what is not yet acknowledged, and its ticks start anew if some newly is
abbrev pub heard : End → Frame → End
heard e frame =
    record e {
      seen = max e.seen frame.session;
      lowest = max e.lowest frame.ack;
      unacknowledged = drop (frame.ack - e.lowest) e.unacknowledged;
      data_arrived = e.data_arrived || is_data frame.kind;
      ticks = if nat_lt e.lowest frame.ack then 0 else e.ticks;
    }

-- an end of the sessions between these spaces, with these limits, stands for a list of calls if it is the end that they leave
abbrev pub Stands : (me peer : ℕ) → Limits → End → List EndEntry → Type 0
Stands me peer limits e L = e ≡ end_of me peer limits L
