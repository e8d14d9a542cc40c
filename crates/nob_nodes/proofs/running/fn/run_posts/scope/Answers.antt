use denote.Param.Send.{sendable}
use Rattle.std.proofs.Crossing.{crosses}
use Rattle.nob_nodes.proofs.Crossing.{post_sync}
use Rattle.nob_nodes.proofs.meeting.Meeting.TheSendSync as meeting
use Rattle.nob_nodes.proofs.running.fn.run_posts.scope.Goals as goal

-- a node's thread shares its place, the meeting and the gate
pub spawn-requires-send-F : goal.spawn-requires-send-F
spawn-requires-send-F g c κs within = search (post_sync, meeting.the_sync, sendable, crosses) depth 60 fits 20000
