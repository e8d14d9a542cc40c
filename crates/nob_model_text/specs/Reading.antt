-- What a reader answers.
use Rattle.std.specs.Prelude.{Result, Ok, Err}
use Rattle.nob_model_text.specs.declared.unread.Unread.{Unread}
use Rattle.nob_model_text.specs.declared.unread.Unread.TheVariants.{NoText, OutOfMemory}

-- something is read of which P holds, unless memory runs out
abbrev pub Reads : {X : Type 0} → (X → Type 0) → Result X Unread → Type 0
Reads P (Ok x) = P x
Reads P (Err OutOfMemory) = Unit {0}
Reads P (Err NoText) = ⊥
