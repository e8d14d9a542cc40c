-- What is kept of the frames that were transmitted, as contracts see it.
use Rattle.std.specs.Prelude.{◌≡◌, ℕ, List}
use Rattle.nob_model_types.specs.declared.entry.Entry.{Entry}
use Rattle.nob_recall.specs.declared.heard.Heard.{Heard}
use Rattle.nob_recall.specs.declared.memory.Memory.{Memory}
use Rattle.nob_recall.specs.Remembering.{memory}
use Rattle.nob_recall.specs.Tables.{TableStands}

-- after how many noted frames a turn comes; the frames that are remembered; what each space has heard of each other; and for how many frames more there is room
pub record Recalled : Type 0 where
  pub span : ℕ
  pub memory : Memory
  pub table : List Heard
  pub room : ℕ

-- what is kept stands for a journal: the frames are those that are remembered of it, and its spaces have heard so much of each other
pub record Recalls (J : List Entry) (recalled : Recalled) : Type 0 where
  pub memory_is : recalled.memory ≡ memory recalled.span J
  pub table : TableStands recalled.table J

-- the same is kept, whatever the room
pub record IsSame (old new : Recalled) : Type 0 where
  pub span : new.span ≡ old.span
  pub memory_is : new.memory ≡ old.memory
  pub table : new.table ≡ old.table
