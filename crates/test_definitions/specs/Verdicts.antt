-- What is said of a trace: whether each result in it is the right one.
use Rattle.std.specs.Prelude.{◌≡◌, ℕ, List, [], ◌∷◌, ◌++◌, length, map, reverse, Result}
use Rattle.nob_model_types.specs.declared.event.Event.{Event}
use Rattle.nob_model_types.specs.declared.answer.Answer.{Answer}
use Rattle.nob_model_types.specs.declared.refusal.Refusal.{Refusal}
use Rattle.nob_model_types.specs.declared.entry.Entry.{Entry}
use Rattle.nob_model.specs.Right.{right}
use Rattle.nob_trace.specs.declared.stamped.Stamped.{Stamped}
use Rattle.nob_trace.specs.declared.trace.Trace.{Trace}
use Rattle.nob_trace.specs.Texts.{HaveOneText, right_line, wrong_line}

-- an entry of a trace as an entry of its space
abbrev pub entry_at : ℕ → Stamped → Entry
entry_at space entry = record { space = space; event = entry.event; result = entry.result }

-- the right answer to an event of a trace after these entries of it, the newest of which stands first
abbrev pub right_after : Trace → List Stamped → Event → Result Answer Refusal
right_after trace before event = right trace.space trace.n trace.limits (map (entry_at trace.space) before) event

-- an entry's result is the right one after these entries, the newest of which stands first: they have one text in the trace's version
abbrev pub IsRight : Trace → List Stamped → Stamped → Type 0
IsRight trace before entry = HaveOneText trace.version entry.result (right_after trace before entry.event)

-- of these entries, the newest of which stands first, each has the right result after those before it
abbrev pub AreRight : Trace → List Stamped → Type 0
AreRight trace [] = Unit {0}
AreRight trace (entry ∷ before) = IsRight trace before entry × AreRight trace before

-- what is said of a trace
pub data IsVerdict (trace : Trace) (text : List ℕ) : Type 0 where
  -- each result is right
  all_right : AreRight trace (reverse trace.entries) → text ≡ right_line (length trace.entries) → IsVerdict trace text
  -- the results of these entries are right, and that of the next one isn't
  one_wrong : (before : List Stamped) (entry : Stamped) (rest : List Stamped) → trace.entries ≡ before ++ entry ∷ rest → AreRight trace (reverse before) → (IsRight trace (reverse before) entry → ⊥) → text ≡ wrong_line (length before) → IsVerdict trace text
