-- How wary callers are of replies that take long.
use Rattle.std.specs.Prelude.{ℕ, ◌+◌, ◌*◌, ◌-◌, ◌/◌, min, Bool, true, false, nat_lt, if◌then◌else◌, Option, Some, None}
use Rattle.nob_node_parts.specs.declared.patience.Wariness.{Wariness}
use Rattle.nob_node_parts.specs.declared.search.Manner.{Manner}
use Rattle.nob_node_parts.specs.declared.search.Search.{Search}
use Rattle.nob_node_parts.specs.Searches.{yielding, is_past, has_rested_twice}

-- whether they are wary of the next reply
abbrev pub is_wary : Wariness → Bool
is_wary wariness = nat_lt 0 wariness.left

-- whether a reply took long that a search found, or none did: who is wary rests once in any case
abbrev pub is_long : Wariness → Option Search → Bool
is_long wariness None = true
is_long wariness (Some search) = if is_wary wariness then has_rested_twice search else is_past search 350

-- of twice as many replies as last, and two, are they wary where one took long: of 64 at most
abbrev pub warier : Wariness → Wariness
warier wariness = record { left = min wariness.last 31 * 2 + 2; last = min wariness.last 31 * 2 + 2 }

-- after a reply that was waited for warily
abbrev pub after_wary : Wariness → Bool → Wariness
after_wary wariness long = if long then wariness else record { left = wariness.left - 1; last = wariness.last }

-- after a reply that wasn't
abbrev pub after_trusting : Wariness → Bool → Wariness
after_trusting wariness long = if long then warier wariness else record { left = 0; last = wariness.last / 2 }

-- how wary they are after a reply that a search found, or none did
abbrev pub after : Wariness → Option Search → Wariness
after wariness found =
    if is_wary wariness then after_wary wariness (is_long wariness found) else after_trusting wariness (is_long wariness found)

-- five hundred looks, with the processor yielded twice, and three rests
abbrev pub brisk : Manner
brisk = record { looks = 500; stretch = 200; rests = 3 }

-- ten looks, and eight rests
abbrev pub wary : Manner
wary = record { looks = 10; stretch = 200; rests = 8 }

-- how a thread looks for a reply, where it yields its processor to others or needn't
abbrev pub manner_on : Bool → Wariness → Manner
manner_on yields wariness = if yields then yielding else (if is_wary wariness then wary else brisk)
