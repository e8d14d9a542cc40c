use denote.Param.Send.{sendable}
use Rattle.std.proofs.Crossing.{crosses}
use Rattle.nob_node_parts.proofs.JobsCrossing.{hand_of_node_send}
use Rattle.nob_node_site.proofs.Crossing.{site_sync, probing_send}
use Rattle.nob_node_site.proofs.crew.fn.run_crew.scope.Goals as goal

-- a thread that takes shares the site
pub spawn-requires-send-F : goal.spawn-requires-send-F
spawn-requires-send-F g c κs within = search (site_sync, sendable, crosses) depth 60 fits 20000

-- a worker's thread shares the site and the gate, and has its hand
pub spawn-requires-in-loop-hand-send-F : goal.spawn-requires-in-loop-hand-send-F
spawn-requires-in-loop-hand-send-F g c κs within = search (site_sync, hand_of_node_send, sendable, crosses) depth 60 fits 20000

-- the thread that transmits again shares the site, and has what probes
pub spawn-requires-2-send-F : goal.spawn-requires-2-send-F
spawn-requires-2-send-F g c κs within = search (site_sync, probing_send, sendable, crosses) depth 60 fits 20000
