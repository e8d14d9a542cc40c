-- Where its objects may go to another thread, a worker and a dispatcher may, and so may a hand and a desk.
use denote.RattleType.{RattleType}
use denote.Param.Send.{IsSend, sendable, recorded_send, struct_send, view_send}
use denote.Struct.Declared.{shape}
use denote.Struct.Struct.{Struct}
use Rattle.std.proofs.Crossing.{crosses, Vec-send}
use Rattle.nob_bytes.proofs.owned.Bytes.TheSendSync as bytes
use Rattle.nob_keeper.proofs.Crossing.{seat_send}
use Rattle.nob_model_types.specs.contracts.answer.Job as Job
use Rattle.nob_model_types.specs.contracts.event.Event as Event
use Rattle.nob_model_types.specs.contracts.event.Outcome as Ending
use Rattle.nob_pickle.proofs.value.Values.TheLaws.TheKnot as values
use Rattle.nob_dispatch.proofs.shelf.Shelf.TheSendSync as shelf
use Rattle.nob_dispatch.specs.contracts.dispatcher.Dispatcher as Dispatcher
use Rattle.nob_dispatch.specs.contracts.dispatcher.Dispatcher.TheInside as DispatcherInside
use Rattle.nob_dispatch.specs.contracts.errand.Errand as Errand
use Rattle.nob_dispatch.specs.contracts.stage.Finish as Finish
use Rattle.nob_dispatch.specs.contracts.stage.Keeping as Keeping
use Rattle.nob_dispatch.specs.contracts.stage.Request as Request
use Rattle.nob_dispatch.specs.contracts.stage.Stage as Stage
use Rattle.nob_dispatch.specs.contracts.worker.Worker as Worker
use Rattle.nob_dispatch.specs.contracts.worker.Worker.TheInside as WorkerInside
use Rattle.nob_dispatch.proofs.errand.Return.TheSendSync as back
use Rattle.nob_dispatch.specs.contracts.errand.Return as Return
use Rattle.nob_dispatch_lanes.proofs.ends.LanePut.TheSendSync as lane_put
use Rattle.nob_dispatch_lanes.proofs.ends.LaneTake.TheSendSync as lane_take
use Rattle.nob_dispatch.specs.contracts.desk.Desk as Desk
use Rattle.nob_dispatch.specs.contracts.desk.Desk.TheInside as DeskInside
use Rattle.nob_dispatch.specs.contracts.hand.Hand as Hand
use Rattle.nob_dispatch.specs.contracts.hand.Hand.TheInside as HandInside

pub job_send : IsSend Job.the_row
job_send = search (bytes.the_send, crosses, values.crosses, sendable) depth 60 fits 20000

job_field_send : IsSend (Job.the_field).row
job_field_send = search (bytes.the_send, crosses, values.crosses, sendable) depth 60 fits 20000

event_send : IsSend (Event.the_field).row
event_send = search (bytes.the_send, crosses, values.crosses, sendable) depth 60 fits 20000

ending_send : IsSend (Ending.the_field).row
ending_send = search (bytes.the_send, crosses, values.crosses, sendable) depth 60 fits 20000

request_send : IsSend (Request.the_field).row
request_send = struct_send (shape Request.the_type) (event_send, tt)

finish_field_send : IsSend (Finish.the_field).row
finish_field_send = struct_send (shape Finish.the_type) (search sendable, (event_send, tt))

stage_send : IsSend (Stage.the_field).row
stage_send = search (request_send, ending_send, crosses, sendable) depth 60 fits 20000

-- what a worker and a dispatcher have, where the object may cross
module _ (O : RattleType) (crossing : IsSend O) where
  errand_field_send : IsSend (Errand.the_field O).row
  errand_field_send = struct_send (shape (Errand.the_type O)) (job_field_send, (search (crossing, sendable), tt))

  pub errand_send : IsSend (Errand.the_row O)
  errand_send = let T = Errand.the_type O in recorded_send (Struct (shape T)) T.D T.to T.to_one errand_field_send

  keeping_send : IsSend (Keeping.the_field O).row
  keeping_send = search (errand_field_send, stage_send, finish_field_send, sendable) depth 60 fits 20000

  worker_inside_send : IsSend (WorkerInside.the_row O)
  worker_inside_send =
      let T = WorkerInside.the_type O in
      recorded_send (Struct (shape T)) T.D T.to T.to_one (struct_send (shape T) (seat_send, (keeping_send, tt)))

  pub worker_send : IsSend (Worker.the_row O)
  worker_send = view_send (WorkerInside.the_row O) _ _ _ _ worker_inside_send

  pub dispatcher_send : IsSend (Dispatcher.the_row O)
  dispatcher_send =
      let T = DispatcherInside.the_type O in
      view_send (DispatcherInside.the_row O) _ _ _ _ (recorded_send (Struct (shape T)) T.D T.to T.to_one (struct_send (shape T)
      (seat_send, (shelf.the_send O crossing, (search (crosses, sendable) depth 60, (Vec-send Job.the_row job_send, (search (crosses, sendable) depth 60, tt)))))))

-- what a hand and a desk have, where the object may cross
module _ (O : RattleType) (crossing : IsSend O) where
  pub hand_send : IsSend (Hand.the_row O)
  hand_send =
      let T = HandInside.the_type O in
      let takes = lane_take.the_field_send (Errand.the_row O) (errand_send O crossing) in
      let puts = lane_put.the_field_send (Return.the_row O) (back.the_send O crossing) in
      view_send (HandInside.the_row O) _ _ _ _ (recorded_send (Struct (shape T)) T.D T.to T.to_one (struct_send (shape T)
      (worker_send O crossing, (takes, (puts, (search (crosses, sendable) depth 60, tt))))))

  pub desk_send : IsSend (Desk.the_row O)
  desk_send =
      let T = DeskInside.the_type O in
      let puts = lane_put.the_field_send (Errand.the_row O) (errand_send O crossing) in
      let takes = lane_take.the_field_send (Return.the_row O) (back.the_send O crossing) in
      view_send (DeskInside.the_row O) _ _ _ _ (recorded_send (Struct (shape T)) T.D T.to T.to_one (struct_send (shape T)
      (dispatcher_send O crossing, (puts, (takes, (search sendable, (search (job_send, crosses, sendable) depth 60, (search sendable, tt))))))))
