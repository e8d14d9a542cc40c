use denote.Param.Send.{sendable}
use Rattle.std.proofs.Crossing.{crosses}
use Rattle.nob_node_site.proofs.Crossing.{site_sync, crew_send}
use Rattle.nob_node.proofs.running.fn.run_threads.scope.Goals as goal

-- the thread of the crew shares the site and the gate, and has the crew
pub spawn-requires-send-F : goal.spawn-requires-send-F
spawn-requires-send-F g c κs within = search (site_sync, crew_send, sendable, crosses) depth 60 fits 20000

-- it gives the crew back
pub spawn-requires-send-T : goal.spawn-requires-send-T
spawn-requires-send-T g c κs within = search (crew_send, sendable, crosses) depth 60 fits 20000
