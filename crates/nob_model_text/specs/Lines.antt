-- Lines of a text.
use Rattle.std.specs.Prelude.{ℕ, Bool, List, [], ◌∷◌, ◌++◌, ◌==◌, codes}
use Rattle.std.specs.List.{slice_split}
use Rattle.std.specs.Fmt.{decimal}

-- whether a byte is a newline
abbrev pub is_newline : ℕ → Bool
is_newline byte = byte == 10

-- a line, unless it is empty
abbrev pub unless_empty : List ℕ → List (List ℕ)
unless_empty [] = []
unless_empty (byte ∷ bytes) = (byte ∷ bytes) ∷ []

-- the parts between newlines but an empty last one, which stands behind the newline at the end of a text
abbrev pub without_empty_end : List (List ℕ) → List (List ℕ)
without_empty_end [] = []
without_empty_end (line ∷ []) = unless_empty line
without_empty_end (line ∷ next ∷ lines) = line ∷ without_empty_end (next ∷ lines)

-- the lines of a text, without their newlines: the last one may lack its own, and an empty text has none
abbrev pub lines_of : List ℕ → List (List ℕ)
lines_of text = without_empty_end (slice_split is_newline text)

-- a line as it came
abbrev pub line_text : List ℕ → List ℕ
line_text line = line ++ 10 ∷ []

-- a step's line as it came, with its answer
abbrev pub answered_text : List ℕ → List ℕ → List ℕ
answered_text line answer = (line ++ codes " = " ++ answer) ++ 10 ∷ []

-- what is written where line n of a script is no spelling
abbrev pub bad_step_text : ℕ → List ℕ
bad_step_text n = codes "line " ++ decimal n ++ codes ": bad step\n"
