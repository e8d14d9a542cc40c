use Rattle.nob_space.proofs.Counted.{counts_there}
use Rattle.nob_space.proofs.counts.counts_of.Goals as goal

pub returns : goal.returns
returns c limits D stands =
    counts_there stands c.surrogate_count-surrogates.ensures.once c.surrogate_count-surrogates.ensures.placed (c.live-live.ensures limits D stands) c.surrogate_count-surrogates.ensures.count
    c.calls_len-calls.ensures c.waiting_len-waiting.ensures c.ready_len-ready.ensures c.running_len-running.ensures c.replies_len-replies.ensures.count
