-- The streams of frames that a space takes from its peers.
use Rattle.std.specs.Prelude.{◌≡◌, ◌≢◌, ℕ, ◌-◌, List, [], Ok, replicate, slice_index_or}
use Rattle.nob_ids.specs.Names.{IsSpace}
use Rattle.nob_frame.specs.Streams.{Kept}

-- what is kept of the stream from a peer
abbrev pub feed_at : List Kept → ℕ → Kept
feed_at feeds peer = slice_index_or feeds (peer - 1) (Ok [])

-- new keeps what old kept of every stream but the one from a peer
abbrev pub SameButOf : ℕ → (old new : List Kept) → Type 0
SameButOf peer old new = (other : ℕ) → IsSpace other → other ≢ peer → feed_at new other ≡ feed_at old other

-- nothing came yet of any stream
abbrev pub fresh_feeds : List Kept
fresh_feeds = replicate 32 (Ok [])
