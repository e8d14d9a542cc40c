-- A space that begins is one of a list of entries.
use Rattle.std.proofs.Common.{◌≡◌, ◌≤◌, ℕ, List}
use Rattle.nob_ids.specs.declared.limits.Limits.{Limits}
use Rattle.nob_model_types.specs.declared.entry.Entry.{Entry}
use Rattle.nob_model_types.specs.Deeds.{deeds}
use Rattle.nob_model_births.specs.Births.{Birth, IsBorn, IsInRange}
use Rattle.nob_model_births.proofs.Reached.{reached_law}
use Rattle.nob_space_state.specs.Parts.{State}
use Rattle.nob_space_state.specs.Stands.{Stands}

-- what stands for every list after which a space is born so is a space's, where the birth is in range
pub birth_reached : (s n : ℕ) (limits : Limits) (birth : Birth) (state : State) → n ≤ 32 → 1 ≤ limits.window → IsInRange s n birth → ((L : List Entry) → IsBorn s n limits birth L → Stands s n limits state (deeds L))
    → (n ≤ 32) × (L : List Entry) × Stands s n limits state (deeds L)
birth_reached s n limits birth state few window within stands =
    let reached = reached_law s n limits birth window within in
    (few, reached.0, stands reached.0 reached.1)
