-- Pins and their evidence as plain data: what a pin says, and what an item of a peer shows.
use Rattle.std.specs.Prelude.{◌≡◌, ℕ, Option, Some, None, List, map}
use Rattle.std.specs.List.{All}
use Rattle.nob_ids.specs.declared.wire_rep.WireRep.{WireRep}
use Rattle.nob_item.specs.declared.item.Item.{Item}
use Rattle.nob_item.specs.declared.item.Item.TheVariants as items

-- this reference is in transit to a peer in an item
pub record Pin : Type 0 where
  pub rep : WireRep
  pub peer : ℕ
  pub item : ℕ

-- this peer has dealt with the references that came with an item
pub record Settlement : Type 0 where
  pub peer : ℕ
  pub item : ℕ

-- the pin of a reference
abbrev pub pin_of : ℕ → ℕ → WireRep → Pin
pin_of peer item rep = record { rep = rep; peer = peer; item = item }

-- what an item that a peer sent shows: a Settle shows that its item is settled, nothing else shows that
abbrev pub settled_by : ℕ → Item → Option Settlement
settled_by peer (items.Settle item) = Some (record { peer = peer; item = item })
settled_by peer (items.Call call target method value) = None
settled_by peer (items.Reply call status value) = None
settled_by peer (items.Dirty index) = None
settled_by peer (items.DirtyOk index) = None
settled_by peer (items.DirtyNo index) = None
settled_by peer (items.Clean index) = None

-- the pin is of this peer and item
abbrev pub IsPinOf : ℕ → ℕ → Pin → Type 0
IsPinOf peer item pin = (pin.peer ≡ peer) × (pin.item ≡ item)

-- all these pins are of this peer and item
abbrev pub AreOf : ℕ → ℕ → List Pin → Type 0
AreOf peer item pins = All (IsPinOf peer item) pins

-- all these pins are to this peer
abbrev pub AreTo : ℕ → List Pin → Type 0
AreTo peer pins = All (λ pin. pin.peer ≡ peer) pins

-- the references of the pins
abbrev pub reps_of : List Pin → List WireRep
reps_of pins = map (λ pin. pin.rep) pins
