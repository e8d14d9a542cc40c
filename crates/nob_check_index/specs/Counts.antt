-- How often references came into the hand, and how often they were released.
use Rattle.std.specs.Prelude.{ℕ, ◌+◌, List, [], ◌∷◌, Option, Some, None}
use Rattle.std.specs.Map.{lookup}
use Rattle.indexmap.specs.IndexMap.{insert_entry}
use Rattle.nob_ids.specs.Names.{is_same}
use Rattle.nob_ids.specs.declared.wire_rep.WireRep.{WireRep}
use Rattle.nob_pickle.specs.Spelling.{refs_in}
use Rattle.nob_model_types.specs.declared.deed.Deed.{Deed}
use Rattle.nob_model_types.specs.declared.deed.Deed.TheVariants.{Export, Dup, Release, TakeReply}

-- the count that was found, 0 where there is none
abbrev pub found_count : Option ℕ → ℕ
found_count None = 0
found_count (Some count) = count

-- the count of a reference
abbrev pub count_in : WireRep → List (WireRep × ℕ) → ℕ
count_in rep counts = found_count (lookup (is_same rep) counts)

-- the counts with another one of a reference
abbrev pub with_count : WireRep → ℕ → List (WireRep × ℕ) → List (WireRep × ℕ)
with_count rep count counts = insert_entry is_same counts rep count

-- the counts with a reference once more
abbrev pub with_one : WireRep → List (WireRep × ℕ) → List (WireRep × ℕ)
with_one rep counts = with_count rep (count_in rep counts + 1) counts

-- the counts with each of some references once more
abbrev pub with_all : List WireRep → List (WireRep × ℕ) → List (WireRep × ℕ)
with_all [] counts = counts
with_all (rep ∷ reps) counts = with_all reps (with_one rep counts)

-- how often references came into the hand, after a deed: by an Export, a Dup, and in the value of a reply that was taken
abbrev pub gains_after : Deed → List (WireRep × ℕ) → List (WireRep × ℕ)
gains_after (Export rep) counts = with_one rep counts
gains_after (Dup rep) counts = with_one rep counts
gains_after (TakeReply call status value) counts = with_all (refs_in value) counts
gains_after (_) counts = counts

-- how often references came into the hand
abbrev pub gains_of : List Deed → List (WireRep × ℕ)
gains_of [] = []
gains_of (deed ∷ D) = gains_after deed (gains_of D)

-- how often references were released, after a deed
abbrev pub releases_after : Deed → List (WireRep × ℕ) → List (WireRep × ℕ)
releases_after (Release rep) counts = with_one rep counts
releases_after (_) counts = counts

-- how often references were released
abbrev pub releases_of : List Deed → List (WireRep × ℕ)
releases_of [] = []
releases_of (deed ∷ D) = releases_after deed (releases_of D)
