-- What a node leaves.
use Rattle.std.specs.Prelude.{◌≡◌, List}
use Rattle.nob_keeper.specs.Identity.{Identity}
use Rattle.nob_keeper.specs.Receipt.{Receipt}
use Rattle.nob_keeper.specs.Record.{Record}
use Rattle.nob_keeper.specs.Record.TheVariants as records
use Rattle.nob_keeper.specs.Summaries.{IsRecordOf}
use Rattle.nob_node_site.specs.declared.config.Config.{Config}

-- a record is that of a space and of some seats: their receipts are those of its chain, in which each entry is right and all is sealed, or their newest are told of the entries of its summary
abbrev pub IsRecorded : Record → Type 0
IsRecorded left = (identity : Identity) × (seats : List (List Receipt)) × IsRecordOf identity seats left

-- a record is of the space that a node was made of, one of as many spaces, with its limits where it says some
abbrev pub IsOwn : Config → Record → Type 0
IsOwn config (records.Chain chain) = (chain.space ≡ config.space) × (chain.n ≡ config.n) × (chain.limits ≡ config.limits)
IsOwn config (records.Summary summary) = (summary.space ≡ config.space) × (summary.n ≡ config.n)
