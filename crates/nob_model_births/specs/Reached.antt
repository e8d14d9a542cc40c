-- That births in range are reached.
use Rattle.std.specs.Prelude.{◌≤◌, ℕ, List}
use Rattle.nob_ids.specs.declared.limits.Limits.{Limits}
use Rattle.nob_model_types.specs.declared.entry.Entry.{Entry}
use Rattle.nob_model_lives.specs.Births.{Birth, IsBorn, IsInRange}

-- for each birth that is in range there are entries after which a space is born so
abbrev pub ReachedLaw : Type 0
ReachedLaw = (s n : ℕ) (limits : Limits) (birth : Birth) → 1 ≤ limits.window → IsInRange s n birth → (L : List Entry) × IsBorn s n limits birth L
