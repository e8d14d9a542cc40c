-- When an agent that sends transmits to whom.
use Rattle.std.specs.Prelude.{◌≡◌, ℕ, ◌+◌, ◌*◌, ◌-◌, ◌/◌, ◌^◌, min, Bool, true, false, nat_le, List, Option, Some, None, slice_get, position}
use Rattle.nob_session.specs.declared.due.Due.{Due}
use Rattle.nob_session.specs.declared.due.Due.TheVariants as dues
use Rattle.nob_model_types.specs.declared.event.Event.{Event}
use Rattle.nob_model_types.specs.declared.event.Event.TheVariants as events
use Rattle.nob_keeper.specs.Waking.{is_new}

-- so many pauses pass before what is out is transmitted once more: twice as many after each sixteen repeats, up to 32
abbrev pub pauses_after : (repeats : ℕ) → ℕ
pauses_after repeats = 2 ^ min (repeats / 16) 5

-- whether it is time, so many turns after the last Transmit: an Ack waits for two turns, or for a pause where that is shorter; what is out waits for its pauses
abbrev pub is_time : (pause turns repeats : ℕ) → Due → Bool
is_time pause turns repeats dues.Nothing = false
is_time pause turns repeats dues.Ack = nat_le (min pause 2) turns
is_time pause turns repeats dues.Again = nat_le (min (pause * pauses_after repeats) (2 ^ 32 - 1)) turns
is_time pause turns repeats dues.New = false
is_time pause turns repeats dues.Close = false

-- a Transmit to the peer at a place, if there is one
abbrev pub transmit_at : Option ℕ → Option Event
transmit_at None = None
transmit_at (Some place) = Some (events.Transmit (place + 1))

-- what is to be asked at once, where a Transmit to each peer would give this: a Transmit to the first for which something is new
abbrev pub next_new : List Due → Option Event
next_new all = transmit_at (position is_new all)

-- whether a Transmit would give something
abbrev pub is_some : Due → Bool
is_some dues.Nothing = false
is_some _ = true

-- the same of what may be there
abbrev pub is_some_in : Option Due → Bool
is_some_in None = false
is_some_in (Some due) = is_some due

-- whether a Transmit to the peer at a place would give something
abbrev pub is_due_at : List Due → (place : ℕ) → Bool
is_due_at all place = is_some_in (slice_get all place)

-- what may be asked next: the tick that is due, or a Transmit to a peer that would give something
abbrev pub IsNext : (tick : Option ℕ) → List Due → Event → Type 0
IsNext tick all (events.Tick peer) = tick ≡ Some peer
IsNext tick all (events.Transmit peer) = is_due_at all (peer - 1) ≡ true
IsNext tick all _ = ⊥
