-- What is sealed of a space's entries, and what isn't yet.
use Rattle.std.specs.Prelude.{◌≡◌, ◌≤◌, ◌<◌, ◌⊎◌, ℕ, ◌+◌, ◌-◌, ◌^◌, ◌==◌, nat_lt, Bool, true, false, ◌&&◌, List, [], ◌∷◌, ◌++◌, length, map, filter, Option, Some, None, vec_len, vec_capacity}
use Prim.Native.Nat.{zero, suc}
use Rattle.std.specs.Global.{Vec}
use Rattle.std.specs.List.{AllByRecursion}
use Rattle.nob_model_types.specs.Sessions.{is_peer}
use Rattle.nob_model_types.specs.declared.entry.Entry.{Entry}
use Rattle.nob_model_history.specs.Histories.{history}
use Rattle.nob_model_history.specs.declared.history.History.{History}
use Rattle.nob_model.specs.Tallies.{tally, live_count}
use Rattle.nob_space.specs.Spaces.{Owner}
use Rattle.nob_past.specs.Lists.{Listed}
use Rattle.nob_trace.specs.declared.stamped.Stamped.{Stamped}
use Rattle.nob_trace.specs.Stamps.{last_stamp}
use Rattle.nob_chain.specs.declared.seal.PeerSeal.{PeerSeal}
use Rattle.nob_chain.specs.declared.seal.Seal.{Seal}
use Rattle.nob_chain.specs.declared.segment.Segment.{Segment}
use Rattle.nob_chain.specs.declared.chain.ChainParts.{ChainParts}
use Rattle.nob_chain.specs.Chains.{entries_of, HasDue, IsPart}
use Rattle.nob_chain.specs.Writing.{HasSeal}
use Rattle.nob_model_chains.specs.Sealing.{wrong_among, first_wrong_seal}
use Rattle.nob_kept.specs.declared.keep.Keep.{Keep}
use Rattle.nob_kept.specs.declared.keep.Keep.TheVariants as keeps
use Rattle.nob_kept.specs.declared.trail.Trail.{Trail}
use Rattle.nob_kept.specs.declared.error.KeeperError.{KeeperError}
use Rattle.nob_kept.specs.declared.error.KeeperError.TheVariants as errors
use Rattle.nob_kept.specs.Accounts.{StandsRight, AreEntries, keeps_all, largest_size}

-- a segment may have so many entries
abbrev pub IsSize : ℕ → Type 0
IsSize size = (1 ≤ size) × (size ≤ largest_size)

-- this refuses segments of a size: that no segment may have so many, or else want of memory
abbrev pub RefusesSize : ℕ → KeeperError → Type 0
RefusesSize size error = ((error ≡ errors.Size) × (IsSize size → ⊥)) ⊎ ((error ≡ errors.OutOfMemory) × IsSize size)

-- the spaces from 1 to n
abbrev pub spaces_to : ℕ → List ℕ
spaces_to zero = []
spaces_to (suc n) = spaces_to n ++ (n + 1) ∷ []

-- what a space's history says of the session with a peer
abbrev pub peer_in : History → ℕ → PeerSeal
peer_in h peer = record { peer = peer; session = (tally peer h).session; sent = (tally peer h).sent; acted = (tally peer h).acted; closed = (tally peer h).closed }

-- the same of the peers among some spaces, in their order
abbrev pub peers_among : (id n : ℕ) → History → List ℕ → List PeerSeal
peers_among id n h spaces = map (peer_in h) (filter (is_peer id n) spaces)

-- what a space says of itself behind these entries, the newest of which stands FIRST and has this stamp
abbrev pub seal_in : (id n stamp : ℕ) → List Entry → Seal
seal_in id n stamp L = record { stamp = stamp; live = live_count id (history id n L); peers = peers_among id n (history id n L) (spaces_to n) }

-- entries as a segment of a space that is sealed behind this list, the newest entry of which has this stamp
abbrev pub sealed_by : (id n stamp : ℕ) → List Entry → List Stamped → Segment
sealed_by id n stamp L entries = record { entries = entries; seal = Some (seal_in id n stamp L) }

-- a full segment of a space among n: it has so many entries, and is sealed, and the seal has the peers that are due
pub record IsFull (id n size : ℕ) (segment : Segment) : Type 0 where
  pub len : length segment.entries ≡ size
  pub sealed : HasSeal segment.seal
  pub due : HasDue id n segment.seal

-- segments of a space's entries are full, and each seal is that of the entries up to it
pub record AreFull (id n size : ℕ) (segments : List Segment) : Type 0 where
  pub full : AllByRecursion (IsFull id n size) segments
  pub right : wrong_among id n [] 1 segments ≡ None

-- a space's entries are those of full segments, and behind them some that aren't sealed, fewer than fill a segment
pub record IsCut (id n size : ℕ) (entries : List Stamped) (sealed : List Segment) (unsealed : List Stamped) : Type 0 where
  pub joined : entries ≡ entries_of sealed ++ unsealed
  pub few : length unsealed < size
  pub are_full : AreFull id n size sealed

-- what has bytes where all is kept: the sealed segments, and of the list of entries those that aren't sealed
pub record IsAllKept (id n size : ℕ) (entries : Listed Stamped) (sealed : List Segment) : Type 0 where
  pub unsealed : List Stamped
  pub cut : IsCut id n size entries.items sealed unsealed
  pub gone : entries.gone ≡ length (entries_of sealed)

-- what has bytes: all entries, or none
abbrev pub HasBytes : Keep → (id n size : ℕ) → Listed Stamped → List Segment → Type 0
HasBytes keeps.All id n size entries sealed = IsAllKept id n size entries sealed
HasBytes keeps.Nothing id n size entries sealed = (entries.gone ≡ length entries.items) × (sealed ≡ [])

-- what is kept of the entries of a space
pub record IsTrail (space : Owner) (trail : Trail) : Type 0 where
  pub n : trail.n ≡ space.n
  pub size : IsSize trail.size
  -- the space stands for the entries, which are right
  pub stands : StandsRight space trail.entries.items
  -- the last stamp is remembered
  pub last : trail.last ≡ last_stamp 0 trail.entries.items
  pub bytes : HasBytes trail.keep space.id space.n trail.size trail.entries trail.sealed.items

-- a trail is that of a space, but for its last stamp, once this entry is there
abbrev pub IsNextOf : Owner → Trail → Stamped → Type 0
IsNextOf space trail entry =
    (trail.n ≡ space.n) × (IsSize trail.size × (StandsRight space (trail.entries.items ++ entry ∷ []) × HasBytes trail.keep space.id space.n trail.size trail.entries trail.sealed.items))

-- two trails say the same of as many spaces, of what is kept, and of the size of segments
abbrev pub IsAlike : Trail → Trail → Type 0
IsAlike old new = (new.n ≡ old.n) × ((new.keep ≡ old.keep) × (new.size ≡ old.size))

-- a trail is as it was, whatever room there is
abbrev pub IsSame : Trail → Trail → Type 0
IsSame old new = IsAlike old new × ((new.entries.items ≡ old.entries.items) × ((new.entries.gone ≡ old.entries.gone) × ((new.sealed.items ≡ old.sealed.items) × (new.last ≡ old.last))))

-- a trail has this entry more
abbrev pub HasMore : Trail → Trail → Stamped → Type 0
HasMore old new entry = IsAlike old new × (new.entries.items ≡ old.entries.items ++ entry ∷ [])

-- whether one entry more fills a segment
abbrev pub fills : Trail → Bool
fills trail = keeps_all trail.keep && length trail.entries.items - trail.entries.gone + 1 == trail.size

-- places for what a seal says of the peers among n spaces
abbrev pub ArePlaces : ℕ → Vec PeerSeal → Type 0
ArePlaces n places = (places.items ≡ []) × (n ≤ vec_capacity places)

-- there is room for a segment more and for its seal, if one is due
abbrev pub HasSealRoom : Trail → Bool → Option (Vec PeerSeal) → Type 0
HasSealRoom trail due None = due ≡ false
HasSealRoom trail due (Some places) = (due ≡ true) × (ArePlaces trail.n places × (vec_len trail.sealed < vec_capacity trail.sealed))

-- there is room for one entry more, and for the seal of the segment that it fills, if it fills one
abbrev pub HasRoom : Trail → Option (Vec PeerSeal) → Type 0
HasRoom trail room = (0 < trail.entries.room) × ((length trail.entries.items < 2 ^ 62) × HasSealRoom trail (fills trail) room)

-- there is room for the seal of what isn't sealed, if there is such
abbrev pub HasRoomToEnd : Trail → Option (Vec PeerSeal) → Type 0
HasRoomToEnd trail room = HasSealRoom trail (nat_lt trail.entries.gone (length trail.entries.items)) room

-- segments of just so many entries, but the last, which has some and no more than so many
abbrev pub AreFilled : ℕ → List Segment → Type 0
AreFilled size [] = Unit {0}
AreFilled size (segment ∷ []) = (1 ≤ length segment.entries) × (length segment.entries ≤ size)
AreFilled size (segment ∷ other ∷ segments) = (length segment.entries ≡ size) × AreFilled size (other ∷ segments)

-- segments of some size that segments may have, but the last, which has no more
abbrev pub AreSomeFilled : List Segment → Type 0
AreSomeFilled segments = (size : ℕ) × IsSize size × AreFilled size segments

-- segments are all of a space's entries, each sealed, each seal is that of the entries up to it, and all but the last are full
pub record AreAllSealed (id n size : ℕ) (entries : List Stamped) (segments : List Segment) : Type 0 where
  pub joined : entries_of segments ≡ entries
  pub parts : AllByRecursion (IsPart id n) segments
  pub sealed : AllByRecursion (λ segment. HasSeal segment.seal) segments
  pub right : wrong_among id n [] 1 segments ≡ None
  pub filled : AreFilled size segments

-- a chain that a keeper leaves: its entries are right, each segment is sealed, and each seal is that of the entries up to it
pub record IsSealedChain (chain : ChainParts) : Type 0 where
  pub entries : AreEntries chain.space chain.n chain.limits (entries_of chain.segments)
  pub sealed : AllByRecursion (λ segment. HasSeal segment.seal) chain.segments
  pub right : first_wrong_seal chain ≡ None
