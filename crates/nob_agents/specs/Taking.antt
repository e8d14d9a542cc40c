-- What an agent that takes has done: the parcels that it took, and what it asked of its space.
use Rattle.std.specs.Prelude.{◌≡◌, ◌<◌, ℕ, List, [], ◌∷◌, reverse, Option, Some, None}
use Rattle.std.specs.List.{AllZip, AllByRecursion}
use Rattle.nob_frame.specs.declared.frame.Frame.{Frame}
use Rattle.nob_model_types.specs.declared.event.Event.{Event}
use Rattle.nob_model_types.specs.declared.event.Event.TheVariants as events
use Rattle.nob_link.specs.declared.parcel.Parcel.{Parcel}
use Rattle.nob_link.specs.declared.parcel.Parcel.TheVariants as parcels
use Rattle.nob_keeper.specs.Receipt.{Receipt}
use Rattle.nob_agents.specs.declared.due_event.DueEvent.{DueEvent}

-- an agent that takes, as contracts see it: whom it takes from; the parcels that it took, the first first; its receipts, the newest FIRST; and what it is to ask
pub record Taking : Type 0 where
  pub peer : ℕ
  pub taken : List Parcel
  pub receipts : List Receipt
  pub due : Option DueEvent

-- a frame and a stamp
pub record Dated : Type 0 where
  pub stamp : ℕ
  pub frame : Frame

-- the frame of a parcel in front of others, with the stamp of its parcel
abbrev pub with_parcel : Parcel → List Dated → List Dated
with_parcel (parcels.Frame stamp frame) others = record { stamp = stamp; frame = frame } ∷ others
with_parcel parcels.End others = others

-- the frames of parcels, with the stamps of the parcels
abbrev pub frames_in : List Parcel → List Dated
frames_in [] = []
frames_in (parcel ∷ others) = with_parcel parcel (frames_in others)

-- the frame that arrived by an event in front of others, with the stamp of its entry
abbrev pub with_arrival : Event → ℕ → List Dated → List Dated
with_arrival (events.Arrive frame) stamp others = record { stamp = stamp; frame = frame } ∷ others
with_arrival _ stamp others = others

-- the frames that arrived by receipts, with the stamps of their entries
abbrev pub arrivals : List Receipt → List Dated
arrivals [] = []
arrivals (receipt ∷ others) = with_arrival receipt.event receipt.stamp (arrivals others)

-- the frame that is to arrive, with the stamp of its parcel, if one is
abbrev pub kept_of : Option DueEvent → Option Dated
kept_of None = None
kept_of (Some due) = kept_in due.event due.seen
  where
    kept_in : Event → ℕ → Option Dated
    kept_in (events.Arrive frame) seen = Some (record { stamp = seen; frame = frame })
    kept_in _ seen = None

-- a frame that was taken is the one that arrived, by an entry with a greater stamp
abbrev pub ArrivedAbove : Dated → Dated → Type 0
ArrivedAbove taken arrived = (taken.frame ≡ arrived.frame) × (taken.stamp < arrived.stamp)

-- the frames that were taken, but for the one that is kept, are those that arrived. The newest stands FIRST
abbrev pub Follow : List Dated → List Dated → Option Dated → Type 0
Follow taken arrived None = AllZip ArrivedAbove taken arrived
Follow [] arrived (Some kept) = ⊥
Follow (newest ∷ taken) arrived (Some kept) = (newest ≡ kept) × AllZip ArrivedAbove taken arrived

-- what an agent that takes from this peer asks: that a frame arrives, to act on an item of the peer, or to close the session with it
abbrev pub IsAbout : ℕ → Event → Type 0
IsAbout peer (events.Arrive frame) = Unit {0}
IsAbout peer (events.Act other) = other ≡ peer
IsAbout peer (events.Close other) = other ≡ peer
IsAbout peer _ = ⊥

-- the same of what it is to ask, if it is to ask something
abbrev pub IsDueAbout : ℕ → Option DueEvent → Type 0
IsDueAbout peer None = Unit {0}
IsDueAbout peer (Some due) = IsAbout peer due.event

-- the frames that an agent took are, in order, those that arrived by its receipts, each stamped above its parcel, and at most one that it keeps
abbrev pub HasArrived : Taking → Type 0
HasArrived t = Follow (frames_in (reverse t.taken)) (arrivals t.receipts) (kept_of t.due)

-- so it is, and what the agent asked and is to ask is about its peer
abbrev pub IsTied : Taking → Type 0
IsTied t = HasArrived t × AllByRecursion (λ receipt. IsAbout t.peer receipt.event) t.receipts × IsDueAbout t.peer t.due
