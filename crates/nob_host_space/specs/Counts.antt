-- What a space has and what came from a peer, in numbers.
use Rattle.std.specs.Prelude.{ℕ, List, Option, Some, None}
use Rattle.nob_item.specs.Reading.{item_read}
use Rattle.nob_peek.specs.Seeing.{seen_in}
use Rattle.nob_peek.specs.declared.seeing.Seen.{Seen}
use Rattle.nob_peek.specs.declared.seeing.Seen.TheVariants as sights
use Rattle.nob_space.specs.declared.counts.PeerCounts.{PeerCounts}
use Rattle.nob_space.specs.declared.counts.SpaceCounts.{SpaceCounts}
use Rattle.nob_host_space.specs.declared.counts.Front.{Front}

-- the counts of no space
abbrev pub no_space_counts : SpaceCounts
no_space_counts = record { live = 0; surrogates = 0; calls = 0; waiting = 0; ready = 0; running = 0; replies = 0 }

-- the counts of no peer
abbrev pub no_counts : PeerCounts
no_counts = record { pinned = 0; unacknowledged = 0; inbox = 0; waiting = 0; ready = 0; surrogates = 0 }

-- there is nothing at the front
abbrev pub no_front : Front
no_front = record { kind = 0; references = 0; method = 0; item = 0; number = 0; index = 0 }

-- a note of a kind stands at the front
abbrev pub note_shown : (kind item number index : ℕ) → Front
note_shown kind item number index = record { kind = kind; references = 0; method = 0; item = item; number = number; index = index }

-- an item stands at the front, of which this is seen: nothing of bytes that are no item's
abbrev pub front_shown : ℕ → Option Seen → Front
front_shown item None = note_shown 8 item 0 0
front_shown item (Some (sights.Call call target method references)) = record { kind = 1; references = references; method = method; item = item; number = call; index = target }
front_shown item (Some (sights.Reply call status references)) = record { kind = 2; references = references; method = status; item = item; number = call; index = 0 }
front_shown item (Some (sights.Settle settled)) = note_shown 3 item settled 0
front_shown item (Some (sights.Dirty index)) = note_shown 4 item 0 index
front_shown item (Some (sights.DirtyOk index)) = note_shown 5 item 0 index
front_shown item (Some (sights.DirtyNo index)) = note_shown 6 item 0 index
front_shown item (Some (sights.Clean index)) = note_shown 7 item 0 index

-- what stands at the front of an inbox, by its number and its bytes
abbrev pub shown : Option (ℕ × List ℕ) → Front
shown None = no_front
shown (Some front) = front_shown front.0 (seen_in (item_read front.1))
