-- Where the application's objects may go to another thread, the threads of a node may share its jobs.
use mathlib.Core.List.{[], ◌∷◌}
use denote.RattleType.{RattleType}
use denote.Param.Send.{IsSend, IsSync, sendable, struct_sync}
use denote.Struct.Declared.{shape}
use Rattle.std.proofs.Crossing.{crosses}
use Rattle.nob_dispatch.proofs.Crossing.{desk_send, hand_send}
use Rattle.nob_dispatch.specs.contracts.desk.Desk as Desk
use Rattle.nob_dispatch.specs.contracts.hand.Hand as Hand
use Rattle.nob_node_parts.specs.contracts.jobs.NodeJobs as NodeJobs
use Rattle.nob_node_parts.proofs.Crossing.{condvar_sync}
use Rattle.nob_node_parts.proofs.object.Kept.TheSendSync as kept
use Rattle.nob_node_parts.specs.contracts.object.Kept as Kept

-- what the threads share and have of the jobs, where the object may cross
module _ (B : RattleType) (crossing : IsSend B) where
  kept_send : IsSend (Kept.the_row B)
  kept_send = kept.the_send B crossing

  pub hand_of_node_send : IsSend (Hand.the_row (Kept.the_row B))
  hand_of_node_send = hand_send (Kept.the_row B) kept_send

  desk_of_node_send : IsSend (Desk.the_row (Kept.the_row B))
  desk_of_node_send = desk_send (Kept.the_row B) kept_send

  pub jobs_sync : IsSync (NodeJobs.the_field B).row
  jobs_sync =
      struct_sync (shape (NodeJobs.the_type B))
      (search (desk_of_node_send, crosses, sendable) depth 60 fits 20000, (condvar_sync, (search (crosses, sendable) depth 60 fits 20000, (search (crosses, sendable) depth 60 fits 20000, (search (crosses, sendable) depth 60 fits 20000, tt)))))
