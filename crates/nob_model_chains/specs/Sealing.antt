-- What a space says of itself behind its entries, and which seals of a chain say just that.
use Rattle.std.specs.Prelude.{ℕ, ◌+◌, Bool, true, false, ◌&&◌, ◌==◌, List, [], ◌∷◌, ◌++◌, Option, Some, None, if◌then◌else◌}
use Rattle.std.specs.List.{list_all}
use Rattle.std.specs.Option.{option_or}
use Rattle.nob_ids.specs.Reasons.{reason_number}
use Rattle.nob_ids.specs.declared.reason.Reason.{Reason}
use Rattle.nob_model_types.specs.declared.entry.Entry.{Entry}
use Rattle.nob_model_history.specs.Histories.{history}
use Rattle.nob_model_history.specs.declared.history.History.{History}
use Rattle.nob_model.specs.Tallies.{tally, live_count}
use Rattle.nob_trace.specs.declared.stamped.Stamped.{Stamped}
use Rattle.nob_trace.specs.Stamps.{last_stamp}
use Rattle.nob_model_traces.specs.Traces.{journal_at}
use Rattle.nob_chain.specs.declared.seal.PeerSeal.{PeerSeal}
use Rattle.nob_chain.specs.declared.seal.Seal.{Seal}
use Rattle.nob_chain.specs.declared.segment.Segment.{Segment}
use Rattle.nob_chain.specs.declared.chain.ChainParts.{ChainParts}

-- whether two say the same of an end: that it is open, or for which reason it was closed
abbrev pub same_ending : Option Reason → Option Reason → Bool
same_ending None None = true
same_ending (Some reason) (Some other) = reason_number reason == reason_number other
same_ending _ _ = false

-- whether it is said of a peer what the space's history says: the session's number, how many items were handed to the peer and how many of its were acted on in that session, and how this end stands
abbrev pub is_said : History → PeerSeal → Bool
is_said h peer =
    peer.session == (tally peer.peer h).session && peer.sent == (tally peer.peer h).sent && peer.acted == (tally peer.peer h).acted && same_ending peer.closed (tally peer.peer h).closed

-- whether a seal says what space s among n says of itself after these entries, the newest of which stands FIRST and has this stamp: how many of its objects are live, and what is said of each peer
abbrev pub is_right_seal : (s n stamp : ℕ) → List Entry → Seal → Bool
is_right_seal s n stamp L seal = seal.stamp == stamp && seal.live == live_count s (history s n L) && list_all (is_said (history s n L)) seal.peers

-- the same of a seal where there is one
abbrev pub is_right_or_none : (s n stamp : ℕ) → List Entry → Option Seal → Bool
is_right_or_none s n stamp L None = true
is_right_or_none s n stamp L (Some seal) = is_right_seal s n stamp L seal

-- this number, where the seal behind all these entries is wrong
abbrev pub wrong_behind : (s n : ℕ) → List Stamped → ℕ → Option Seal → Option ℕ
wrong_behind s n entries number seal = if is_right_or_none s n (last_stamp 0 entries) (journal_at s entries) seal then None else Some number

-- the number of the first of these segments whose seal is wrong: they stand behind entries, and are numbered from this number on
abbrev pub wrong_among : (s n : ℕ) → List Stamped → ℕ → List Segment → Option ℕ
wrong_among s n before number [] = None
wrong_among s n before number (segment ∷ segments) =
    option_or (wrong_behind s n (before ++ segment.entries) number segment.seal) (wrong_among s n (before ++ segment.entries) (number + 1) segments)

-- the number of the first segment of a chain, counted from 1, whose seal isn't that of all entries up to it
abbrev pub first_wrong_seal : ChainParts → Option ℕ
first_wrong_seal chain = wrong_among chain.space chain.n [] 1 chain.segments
