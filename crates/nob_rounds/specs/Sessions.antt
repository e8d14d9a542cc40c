-- How the ends of the sessions in a world stand after the entries of all its spaces, the first first.
use Prim.Native.Nat.{zero}
use Rattle.std.specs.Prelude.{ℕ, suc, ◌==◌, ◌&&◌, Bool, true, false, not, List, [], ◌∷◌, ◌++◌, map, filter_map, Option, Some, None, Result, Ok, if◌then◌else◌}
use Rattle.std.specs.List.{fold}
use Rattle.nob_model_types.specs.declared.answer.Answer.{Answer}
use Rattle.nob_model_types.specs.declared.answer.Answer.TheVariants as answers
use Rattle.nob_model_types.specs.declared.refusal.Refusal.{Refusal}
use Rattle.nob_model_types.specs.declared.event.Event.{Event}
use Rattle.nob_model_types.specs.declared.event.Event.TheVariants as events
use Rattle.nob_model_types.specs.declared.entry.Entry.{Entry}
use Rattle.nob_rounds.specs.Rounds.{spaces_in}
use Rattle.nob_rounds.specs.declared.sessions.SessionEnd.{SessionEnd}
use Rattle.nob_rounds.specs.declared.sessions.SessionState.{SessionState}

-- the peer whose session an event may close or open anew
abbrev pub peer_of : Event → Option ℕ
peer_of (events.Act peer) = Some peer
peer_of (events.Tick peer) = Some peer
peer_of (events.Close peer) = Some peer
peer_of (events.Open peer) = Some peer
peer_of (events.Arrive frame) = Some frame.from
peer_of _ = None

-- whether there is a peer and it is this one
abbrev pub is_peer : ℕ → Option ℕ → Bool
is_peer peer (Some other) = other == peer
is_peer peer None = false

-- whether an entry is one of this end
abbrev pub is_of : SessionEnd → Entry → Bool
is_of end entry = entry.space == end.space && is_peer end.peer (peer_of entry.event)

-- how the result of an entry of an end leaves it
abbrev pub after : SessionState → Result Answer Refusal → SessionState
after standing (Ok (answers.Closed reason)) = record { number = standing.number; is_closed = true }
after standing (Ok (answers.Opened number)) = record { number = number; is_closed = false }
after standing _ = standing

-- how an entry of any space leaves an end
abbrev pub after_any : SessionEnd → SessionState → Entry → SessionState
after_any end standing entry = if is_of end entry then after standing entry.result else standing

-- how an end stands after these entries: it begins open, in session 1
abbrev pub standing_of : SessionEnd → List Entry → SessionState
standing_of end entries = fold (after_any end) (record { number = 1; is_closed = false }) entries

-- the end of the same session that the peer has
abbrev pub other_end : SessionEnd → SessionEnd
other_end end = record { space = end.peer; peer = end.space }

-- whether two ends are in one number and neither has closed
abbrev pub are_open : SessionState → SessionState → Bool
are_open here there = (here.number == there.number && not here.is_closed) && not there.is_closed

-- whether a session is open at both ends
abbrev pub is_open : SessionEnd → List Entry → Bool
is_open end entries = are_open (standing_of end entries) (standing_of (other_end end) entries)

-- an end, if it has closed
abbrev pub if_closed : List Entry → SessionEnd → Option SessionEnd
if_closed entries end = if (standing_of end entries).is_closed then Some end else None

-- an end, if its session isn't open
abbrev pub unless_open : List Entry → SessionEnd → Option SessionEnd
unless_open entries end = if is_open end entries then None else Some end

-- the numbers from 1 to this one
abbrev pub numbers_up_to : ℕ → List ℕ
numbers_up_to zero = []
numbers_up_to (suc before) = numbers_up_to before ++ suc before ∷ []

-- the spaces of a world of n
abbrev pub spaces_of : ℕ → List ℕ
spaces_of n = numbers_up_to (spaces_in n)

-- the ends that a space has with these peers
abbrev pub ends_at : ℕ → List ℕ → List SessionEnd
ends_at space peers = map (λ (peer : ℕ). record { space = space; peer = peer }) peers

-- the ends that each of these spaces has with these peers
abbrev pub ends_between : (spaces peers : List ℕ) → List SessionEnd
ends_between [] peers = []
ends_between (space ∷ rest) peers = ends_at space peers ++ ends_between rest peers

-- the ends that each space of a world of n has with each: nothing closes the one with itself
abbrev pub all_ends : ℕ → List SessionEnd
all_ends n = ends_between (spaces_of n) (spaces_of n)

-- those of these ends that have closed
abbrev pub closed_among : List SessionEnd → List Entry → List SessionEnd
closed_among ends entries = filter_map (if_closed entries) ends

-- those of these ends whose session isn't open
abbrev pub unopen_among : List SessionEnd → List Entry → List SessionEnd
unopen_among ends entries = filter_map (unless_open entries) ends

-- the ends that have closed in a world of n
abbrev pub closed_ends : ℕ → List Entry → List SessionEnd
closed_ends n entries = closed_among (all_ends n) entries

-- both ends of each session that isn't open in a world of n
abbrev pub unopen_ends : ℕ → List Entry → List SessionEnd
unopen_ends n entries = unopen_among (all_ends n) entries
