-- Counts of holds: how many there are, and what one more and one less makes of them.
use Rattle.std.specs.Prelude.{ℕ, ◌+◌, ◌-◌, ◌==◌, ◌&&◌, Bool, not, Option, Some, None, if◌then◌else◌}
use Rattle.nob_table_rows.specs.declared.counts.Counts.{Counts}
use Rattle.nob_table_rows.specs.declared.counts.Part.{Part}
use Rattle.nob_table_rows.specs.declared.counts.Part.TheVariants.{Hand, Lent}
use Rattle.nob_table_rows.specs.declared.object.Object.{Object}
use Rattle.nob_table_rows.specs.declared.fault.TableFault.{TableFault}
use Rattle.nob_table_rows.specs.declared.fault.TableFault.TheVariants.{Limit, NotHeld}

-- held by nobody
abbrev pub no_counts : Counts
no_counts = record { hand = 0; lent = 0 }

-- whether anything holds the reference
abbrev pub is_held : Counts → Bool
is_held counts = not (counts.hand == 0 && counts.lent == 0)

-- whether nothing holds the object
abbrev pub is_unheld_object : Object → Bool
is_unheld_object object = not (is_held object.counts)

-- whether nothing holds the object, and it isn't kept from outside
abbrev pub is_spare_object : Object → Bool
is_spare_object object = not (is_held object.counts) && not object.kept

-- the count of one part
abbrev pub count_of : Part → Counts → ℕ
count_of Hand counts = counts.hand
count_of Lent counts = counts.lent

-- the greatest count of a part: 2^32 - 1 in the hand, and lent as many as 64 bits can say
abbrev pub most_of : Part → ℕ
most_of Hand = 4294967295
most_of Lent = 18446744073709551615

-- the counts with another number in one part
abbrev pub with_count : Part → ℕ → Counts → Counts
with_count Hand n counts = record { hand = n; lent = counts.lent }
with_count Lent n counts = record { hand = counts.hand; lent = n }

-- one hold more in a part
abbrev pub more : Part → Counts → Counts
more part counts = with_count part (count_of part counts + 1) counts

-- one hold less in a part
abbrev pub fewer : Part → Counts → Counts
fewer part counts = with_count part (count_of part counts - 1) counts

-- one hold more is refused where the part is at its greatest count
abbrev pub hold_limit : Part → Counts → Option TableFault
hold_limit part counts = if count_of part counts == most_of part then Some Limit else None

-- one hold less is refused where there is none in the part
abbrev pub release_fault : Part → Counts → Option TableFault
release_fault part counts = if count_of part counts == 0 then Some NotHeld else None
