-- `fresh` makes one less where it calls itself.
use Rattle.nob_host_space.proofs.feeds.+fresh.Given as goal

abbrev pub decreases-fresh : goal.decreases-fresh
decreases-fresh l = l.count
