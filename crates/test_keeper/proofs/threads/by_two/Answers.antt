use denote.Param.Send.{sendable}
use Rattle.std.proofs.Crossing.{crosses}
use Rattle.nob_keeper.proofs.Crossing.{keeper_sync, seat_send}
use Rattle.test_keeper.proofs.threads.by_two.Goals as goal

-- the new thread shares the keeper
pub join-requires-send-F : goal.join-requires-send-F
join-requires-send-F g c κs within = search (keeper_sync, sendable, crosses) depth 60 fits 20000

-- it gives its seat back
pub join-requires-send-A : goal.join-requires-send-A
join-requires-send-A g c κs within = search (seat_send, sendable, crosses) depth 60 fits 20000
