-- What holds of the fields of every session end.
use Rattle.std.specs.Prelude.{◌≡◌, ◌+◌, ◌-◌, ◌^◌, ◌<◌, ◌≤◌, true, false, [], length, is_none}
use Rattle.std.specs.List.{AllByRecursion}
use Rattle.std.specs.VecDeque.{deque_len, deque_capacity}
use Rattle.nob_session.specs.declared.session.Session.TheInside.{Inside}
use Rattle.nob_session.specs.Items.{IsItem}
use Rattle.nob_session.specs.Keeping.{AreLow}
use Rattle.nob_session.specs.Stands.{Roomy}

-- a session's fields as callers see them
abbrev pub as_seen : Inside → Roomy
as_seen s =
    record {
      end = record {
        me = s.me;
        peer = s.peer;
        limits = s.limits;
        number = s.number;
        seen = s.seen;
        handed = s.handed;
        lowest = s.lowest;
        unacknowledged = s.unacknowledged.items;
        transmitted = s.transmitted;
        accepted = s.accepted;
        came = s.accepted;
        taken = s.taken;
        waiting = s.waiting.items;
        early = s.early;
        data_arrived = s.data_arrived;
        ticks = s.ticks;
        ending = s.ending;
        owes_close = s.owes_close;
      };
      room = deque_capacity s.unacknowledged - deque_len s.unacknowledged;
    }

-- the session has a number, and the counts are in order; an open end holds each unacknowledged payload, each that waits and each that is kept in one of 64 places, a closed one none, and the ring has 256 places
pub record IsSound (s : Inside) : Type 0 where
  pub number_positive : 1 ≤ s.number
  pub number_limit : s.number < 2 ^ 32
  pub unacknowledged_open : is_none s.ending ≡ true → length s.unacknowledged.items + s.lowest ≡ s.handed + 1
  pub unacknowledged_closed : is_none s.ending ≡ false → s.unacknowledged.items ≡ []
  pub sizes : AllByRecursion IsItem s.unacknowledged.items
  pub waiting_open : is_none s.ending ≡ true → length s.waiting.items + s.taken ≡ s.accepted
  pub waiting_closed : is_none s.ending ≡ false → s.waiting.items ≡ []
  pub places : deque_capacity s.waiting ≡ 256
  pub early_open : is_none s.ending ≡ true → length s.early ≡ 64
  pub early_closed : is_none s.ending ≡ false → s.early ≡ []
  pub early_low : AreLow (s.accepted + 1) s.early
  pub owes_nothing : is_none s.ending ≡ true → s.owes_close ≡ false
  pub lowest_positive : 1 ≤ s.lowest
  pub lowest_out : s.lowest ≤ s.transmitted + 1
  pub transmitted_handed : s.transmitted ≤ s.handed
  pub handed_limit : s.handed ≤ 2 ^ 40
  pub taken_accepted : s.taken ≤ s.accepted
  pub inbox : s.accepted ≤ s.taken + 256
  pub accepted_limit : s.accepted ≤ 2 ^ 40
  pub few_ticks : s.ticks < s.limits.retry
