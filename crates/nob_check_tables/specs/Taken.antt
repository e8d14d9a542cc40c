-- How many items of each peer were accepted in the session with it.
use Rattle.std.specs.Prelude.{ℕ, ◌+◌, ◌==◌, Bool, not, List, filter, Option, Some, None, if◌then◌else◌}
use Rattle.std.specs.Map.{lookup}
use Rattle.indexmap.specs.IndexMap.{insert_entry}
use Rattle.nob_frame.specs.declared.frame.Frame.{Frame}
use Rattle.nob_model_types.specs.declared.deed.Deed.{Deed}
use Rattle.nob_model_types.specs.declared.deed.Deed.TheVariants.{Arrive, Open}
use Rattle.nob_check_tables.specs.Numbers.{number_in}

-- the count that was found, 0 where there is none
abbrev pub found_count : Option ℕ → ℕ
found_count None = 0
found_count (Some count) = count

-- how many items of p were accepted
abbrev pub taken_from : ℕ → List (ℕ × ℕ) → ℕ
taken_from p taken = found_count (lookup (λ other. p == other) taken)

-- whether a frame is of the session with its sender, by the numbers of the sessions
abbrev pub is_present : Frame → (numbers : List (ℕ × ℕ)) → Bool
is_present frame numbers = frame.session == number_in frame.from numbers

-- the counts once a frame took so many items
abbrev pub with_taken : Frame → ℕ → List (ℕ × ℕ) → List (ℕ × ℕ)
with_taken frame count taken = insert_entry (λ q other. q == other) taken frame.from (count + taken_from frame.from taken)

-- the counts without that of p
abbrev pub without_count : ℕ → List (ℕ × ℕ) → List (ℕ × ℕ)
without_count p taken = filter (λ count. not (p == count.0)) taken

-- the counts, after a deed: a frame of another session counts for nothing
abbrev pub taken_after : Deed → (numbers : List (ℕ × ℕ)) → List (ℕ × ℕ) → List (ℕ × ℕ)
taken_after (Arrive frame count) numbers taken = if is_present frame numbers then with_taken frame count taken else taken
taken_after (Open p k) numbers taken = without_count p taken
taken_after (_) numbers taken = taken
