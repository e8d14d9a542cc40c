-- The history of a space: what it did, the newest first, with what it has outstanding and what each deed gave.
use Rattle.std.specs.Prelude.{ℕ, List}
use Rattle.nob_model_types.specs.declared.entry.Entry.{Entry}
use Rattle.nob_model_types.specs.Deeds.{deeds}
use Rattle.nob_model_types.specs.declared.deed.Deed.{Deed}
use Rattle.nob_model_work.specs.Work.{work}
use Rattle.nob_model_work.specs.Gifts.{all_gifts}
use Rattle.nob_model_history.specs.declared.history.History.{History}

-- the history of deeds
abbrev pub history_of : (s n : ℕ) → List Deed → History
history_of s n D = record { deeds = D; work = work s n D; all_gifts = all_gifts s n D }

-- the history of a space's list of entries
abbrev pub history : (s n : ℕ) → List Entry → History
history s n L = history_of s n (deeds L)
