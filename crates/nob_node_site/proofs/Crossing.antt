-- Where the application's objects may go to another thread, the threads of a node may share its site.
use mathlib.Core.List.{[], ◌∷◌}
use denote.RattleType.{RattleType}
use denote.Param.Send.{IsSend, IsSync, sendable, recorded_send, recorded_sync, struct_send, struct_sync}
use denote.Struct.Declared.{shape}
use denote.Struct.Struct.{Struct}
use Rattle.std.proofs.Crossing.{crosses, Vec-send}
use Rattle.nob_keeper.proofs.Crossing.{keeper_field_sync, seat_send}
use Rattle.nob_node_parts.proofs.Crossing.{prober_send}
use Rattle.nob_node_parts.proofs.JobsCrossing.{hand_of_node_send, jobs_sync}
use Rattle.nob_node_parts.proofs.object.LeftObject.TheSendSync as left
use Rattle.nob_node_parts.specs.contracts.object.LeftObject as LeftObject
use Rattle.nob_node_parts.proofs.Crossing.{start_sync, failure_sync, transmitting_sync, collecting_sync, inboxes_sync, replies_sync, idlers_sync}
use Rattle.nob_node_site.specs.contracts.crew.Crew as Crew
use Rattle.nob_node_site.specs.contracts.probing.Probing as Probing
use Rattle.nob_node_site.specs.contracts.site.Site as Site

-- what a node probes its peers with
probing_field_send : IsSend (Probing.the_field).row
probing_field_send = struct_send (shape Probing.the_type) (search (prober_send, crosses, sendable) depth 60 fits 20000, tt)

pub probing_send : IsSend Probing.the_row
probing_send = let T = Probing.the_type in recorded_send (Struct (shape T)) T.D T.to T.to_one probing_field_send

-- what the threads of a node share and have, where the object may cross
module _ (B : RattleType) (crossing : IsSend B) where
  pub left_send : IsSend (LeftObject.the_row B)
  left_send = left.the_send B crossing

  pub site_sync : IsSync (Site.the_row B)
  site_sync =
      let T = Site.the_type B in
      recorded_sync (Struct (shape T)) T.D T.to T.to_one (struct_sync (shape T)
      (keeper_field_sync, (start_sync, (failure_sync, (jobs_sync B crossing, (transmitting_sync, (collecting_sync, (inboxes_sync, (replies_sync, (idlers_sync, tt))))))))))

  pub crew_send : IsSend (Crew.the_row B)
  crew_send =
      let T = Crew.the_type B in
      recorded_send (Struct (shape T)) T.D T.to T.to_one (struct_send (shape T)
      (search (hand_of_node_send B crossing, crosses, sendable) depth 60 fits 20000, (probing_field_send, (Vec-send _ seat_send, tt))))
