use Rattle.std.proofs.Common.{sym, subst, arith}
use Rattle.nob_watch.specs.Sealing.{ArePeers}
use Rattle.nob_watch.proofs.Peers.{due_peers}
use Rattle.nob_watch.proofs.sealing.says_so.Goals as goal

pub are_said-requires : goal.are_said-requires
are_said-requires c =
    let space = c.args.space.now in
    subst (ArePeers space.id space.n) (sym c.as_slice.ensures) (due_peers space.id space.n 1 c.args.seal.now.peers (omega arith) c.requires)
