-- What who runs a space sees of it beside its sessions: what it has, how much of that is with a peer, and what came from one.
use Rattle.std.specs.Prelude.{ℕ, ◌&&◌, ◌==◌, not, List, length, filter, Option, Some, None, if◌then◌else◌}
use Rattle.nob_model_session.specs.End.{unacknowledged, waiting}
use Rattle.nob_model_session.specs.Right.{right_front}
use Rattle.nob_ids.specs.declared.wire_rep.WireRep.{WireRep}
use Rattle.nob_model_types.specs.declared.message.Message.{Message}
use Rattle.nob_model_types.specs.Sessions.{is_peer, closed}
use Rattle.nob_model_history.specs.declared.history.History.{History}
use Rattle.nob_model_history.specs.declared.transit.SentItem.{SentItem}
use Rattle.nob_model_history.specs.Ends.{calls_at}
use Rattle.nob_model_history.specs.Transit.{bundles, surrogates}
use Rattle.nob_model.specs.Tallies.{live_count}
use Rattle.nob_session.specs.Stands.{Roomy}
use Rattle.nob_space_calls.specs.Calls.{first_call}
use Rattle.nob_space.specs.declared.counts.SpaceCounts.{SpaceCounts}
use Rattle.nob_space.specs.declared.counts.PeerCounts.{PeerCounts}

-- how much space s among n has: live objects, surrogates on open sessions, own calls that aren't taken, and messages: those that wait, ready and running jobs, ready replies
abbrev pub counts : (s n : ℕ) → History → SpaceCounts
counts s n h =
    record {
      live = live_count s h;
      surrogates = length (surrogates s n h);
      calls = length h.work.calls;
      waiting = length h.work.waiting;
      ready = length h.work.ready;
      running = length h.work.running;
      replies = length h.work.replies;
    }

-- the items to p that have pins here
abbrev pub pinned_to : ℕ → History → List SentItem
pinned_to p h = filter (λ sent_item. sent_item.to == p) (bundles h)

-- those of some messages that came from p
abbrev pub messages_from : ℕ → List Message → List Message
messages_from p messages = filter (λ message. message.from == p) messages

-- the surrogates of p's objects, on an open session
abbrev pub surrogates_of : (s n p : ℕ) → History → List WireRep
surrogates_of s n p h = filter (λ rep. rep.owner == p) (surrogates s n h)

-- how much of what space s among n has is with p: the items to p that have pins, those that p hasn't acknowledged, those from p that wait to be acted on, p's messages that wait for their references or are ready jobs, and the surrogates of p's objects
abbrev pub peer_counts : (s n p : ℕ) → History → PeerCounts
peer_counts s n p h =
    record {
      pinned = length (pinned_to p h);
      unacknowledged = length (unacknowledged (calls_at p h));
      inbox = length (waiting (calls_at p h));
      waiting = length (messages_from p h.work.waiting);
      ready = length (messages_from p h.work.ready);
      surrogates = length (surrogates_of s n p h);
    }

-- the item that an Act on p would act on, with its number: the front of the inbox from p, on an open session
abbrev pub front : (s n p : ℕ) → History → Option (ℕ × List ℕ)
front s n p h = if is_peer s n p && not (closed p h.deeds) then right_front (calls_at p h) else None

-- the call of the reply that became ready first, of those that weren't taken
abbrev pub next_reply : History → Option ℕ
next_reply h = first_call h.work.replies

-- how many payloads an end holds, where there is one: what is unacknowledged, and what waits
abbrev pub held_by : Option Roomy → ℕ × ℕ
held_by None = (0, 0)
held_by (Some end) = (length end.end.unacknowledged, length end.end.waiting)
