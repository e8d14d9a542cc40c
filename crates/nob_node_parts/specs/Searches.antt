-- How a thread looks for what it waits for before it sleeps.
use Rattle.std.specs.Prelude.{ℕ, ◌+◌, ◌*◌, ◌-◌, ◌%◌, Bool, ◌&&◌, ◌||◌, ◌==◌, nat_lt, nat_le, if◌then◌else◌}
use Rattle.nob_node_parts.specs.declared.search.Manner.{Manner}
use Rattle.nob_node_parts.specs.declared.search.Search.{Search}
use Rattle.nob_node_parts.specs.declared.search.LookStep.{LookStep}
use Rattle.nob_node_parts.specs.declared.search.LookStep.TheVariants as steps

-- no look was made yet
abbrev pub begun : Manner → Search
begun manner = record { manner = manner; looks = 0; rests = 0 }

-- whether it looks once more before it rests
abbrev pub looks_on : Search → Bool
looks_on search = nat_lt search.looks search.manner.looks

-- whether it rests once more before it sleeps
abbrev pub rests_on : Search → Bool
rests_on search = nat_lt search.rests search.manner.rests

-- for how many microseconds it rests: twelve more each time
abbrev pub rest_of : Search → ℕ
rest_of search = 8 + 12 * search.rests

-- whether the next look ends a stretch, behind which the processor is yielded
abbrev pub ends_stretch : Search → Bool
ends_stretch search = nat_lt 0 search.manner.stretch && ((search.looks + 1) % search.manner.stretch == 0)

-- what a thread does after a look that found nothing
abbrev pub step_after : Search → LookStep
step_after search =
    if looks_on search then (if ends_stretch search then steps.Yield else steps.Look)
    else (if rests_on search then steps.Rest (rest_of search) else steps.Sleep)

-- the search after such a look; between two rests there are two looks
abbrev pub later : Search → Search
later search =
    if looks_on search then record { manner = search.manner; looks = search.looks + 1; rests = search.rests }
    else (if rests_on search then record { manner = search.manner; looks = search.looks - 2; rests = search.rests + 1 } else search)

-- whether it rested, or looked more often than this
abbrev pub is_past : Search → ℕ → Bool
is_past search looks = nat_lt 0 search.rests || nat_lt looks search.looks

-- whether it rested more than once
abbrev pub has_rested_twice : Search → Bool
has_rested_twice search = nat_lt 1 search.rests

-- whether there are too few processors for threads that keep theirs while they look
abbrev pub are_few : ℕ → Bool
are_few processors = nat_le processors 2

-- four hundred looks, with the processor yielded after every second
abbrev pub yielding : Manner
yielding = record { looks = 400; stretch = 2; rests = 0 }

-- a thousand looks, with the processor yielded five times, and three rests
abbrev pub patient : Manner
patient = record { looks = 1000; stretch = 200; rests = 3 }

-- how a thread looks, where it yields its processor to others or needn't
abbrev pub manner_on : Bool → Manner
manner_on yields = if yields then yielding else patient
