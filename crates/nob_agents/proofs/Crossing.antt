-- Where the ends of its links may go to another thread, an agent may.
use mathlib.Core.List.{[], ◌∷◌}
use denote.RattleType.{RattleType}
use denote.Param.Send.{IsSend, sendable, recorded_send, struct_send, view_send}
use denote.Struct.Declared.{shape}
use denote.Struct.Struct.{Struct}
use Rattle.std.proofs.Crossing.{crosses, Vec-send}
use Rattle.nob_bytes.proofs.owned.Bytes.TheSendSync as bytes
pub use Rattle.nob_keeper.proofs.Crossing.{seat_send}
use Rattle.nob_fault.proofs.shim.Shim.TheSendSync as shim
use Rattle.nob_link.specs.contracts.parcel.Parcel as Parcel
use Rattle.nob_model_types.specs.contracts.event.Event as Event
use Rattle.nob_pickle.proofs.value.Values.TheLaws.TheKnot as values
use Rattle.nob_agents.specs.declared.parcels.PutParcel as PutParcel
use Rattle.nob_agents.specs.declared.parcels.TakeParcel as TakeParcel
use Rattle.nob_agents.specs.contracts.carer.Carer as Carer
use Rattle.nob_agents.specs.contracts.carer.Carer.TheInside as CarerInside
use Rattle.nob_agents.specs.contracts.due_event.DueEvent as DueEvent
use Rattle.nob_agents.specs.contracts.prober.Prober as Prober
use Rattle.nob_agents.specs.contracts.prober.Prober.TheInside as ProberInside
use Rattle.nob_agents.specs.contracts.timing.Timing as Timing
use Rattle.nob_agents.specs.contracts.sender.Sender as Sender
use Rattle.nob_agents.specs.contracts.sender.Sender.TheInside as SenderInside
use Rattle.nob_agents.specs.contracts.taker.Taker as Taker
use Rattle.nob_agents.specs.contracts.taker.Taker.TheInside as TakerInside
use Rattle.nob_agents.specs.contracts.way.Way as Way
use Rattle.nob_agents.specs.contracts.way.Way.TheInside as WayInside

event_send : IsSend (Event.the_field).row
event_send = search (bytes.the_send, crosses, values.crosses, sendable) depth 60 fits 20000

due_event_field_send : IsSend (DueEvent.the_field).row
due_event_field_send = struct_send (shape DueEvent.the_type) (search sendable, (event_send, tt))

due_event_send : IsSend DueEvent.the_row
due_event_send = let T = DueEvent.the_type in recorded_send (Struct (shape T)) T.D T.to T.to_one due_event_field_send

parcel_send : IsSend Parcel.the_row
parcel_send = search (bytes.the_send, crosses, sendable) depth 60 fits 20000

timing_send : IsSend (Timing.the_field).row
timing_send = search (crosses, sendable) depth 60 fits 20000

pub carer_send : IsSend Carer.the_row
carer_send =
    let T = CarerInside.the_type in
    view_send CarerInside.the_row _ _ _ _ (recorded_send (Struct (shape T)) T.D T.to T.to_one (struct_send (shape T) (seat_send, tt)))

pub prober_send : IsSend Prober.the_row
prober_send =
    let T = ProberInside.the_type in
    view_send ProberInside.the_row _ _ _ _ (recorded_send (Struct (shape T)) T.D T.to T.to_one (struct_send (shape T)
    (seat_send, (search sendable, (search sendable, (search (crosses, sendable) depth 60 fits 20000, (search (crosses, sendable) depth 60 fits 20000, (search sendable, tt))))))))

-- what takes, where the end of the link may cross
module _ (E : RattleType) (g : TakeParcel.Ghosts E.Denot) (crossing : IsSend E) where
  pub taker_send : IsSend (Taker.the_row E g)
  taker_send =
      let T = TakerInside.the_type E g in
      view_send (TakerInside.the_row E g) _ _ _ _ (recorded_send (Struct (shape T)) T.D T.to T.to_one (struct_send (shape T)
      (seat_send, (search sendable, (search (crossing, sendable), (search (due_event_send, crosses, sendable) depth 60 fits 20000, (search sendable, (search sendable, tt))))))))

-- what transmits, where the ends of the links may cross
module _ (E : RattleType) (g : PutParcel.Ghosts E.Denot) (crossing : IsSend E) where
  pub way_send : IsSend (Way.the_row E g)
  way_send =
      let T = WayInside.the_type E g in
      view_send (WayInside.the_row E g) _ _ _ _ (recorded_send (Struct (shape T)) T.D T.to T.to_one (struct_send (shape T)
      (search sendable, (shim.the_send, (search (crossing, sendable), (Vec-send Parcel.the_row parcel_send, tt))))))

  pub sender_send : IsSend (Sender.the_row E g)
  sender_send =
      let T = SenderInside.the_type E g in
      view_send (SenderInside.the_row E g) _ _ _ _ (recorded_send (Struct (shape T)) T.D T.to T.to_one (struct_send (shape T)
      (seat_send, (Vec-send (Way.the_row E g) way_send, (search sendable, (timing_send, (search (crosses, sendable) depth 60 fits 20000, (search (crosses, sendable) depth 60 fits 20000, tt))))))))
