use denote.Param.Send.{sendable}
use Rattle.std.proofs.Crossing.{crosses}
use Rattle.nob_keeper.proofs.Crossing.{keeper_sync}
use Rattle.bench_parts.proofs.keeper.calls.by_two.Goals as goal

-- the new thread shares the keeper
pub join-counts-requires-send-F : goal.join-counts-requires-send-F
join-counts-requires-send-F g c κs within = search (keeper_sync, sendable, crosses) depth 60 fits 20000
