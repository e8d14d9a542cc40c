use Rattle.nob_space.proofs.Counted.{peer_counts_there}
use Rattle.nob_space.proofs.counts.counts_with.Goals as goal

pub returns : goal.returns
returns c limits D stands =
    peer_counts_there stands c.args.peer c.requires c.surrogate_count_of-surrogates.ensures.once c.surrogate_count_of-surrogates.ensures.placed c.bundles-pinned.ensures c.held_with-held.ensures c.waiting_from-waiting.ensures c.ready_from-ready.ensures
    c.surrogate_count_of-surrogates.ensures.count
