-- The script that a text spells. A line may also say that one space brings another what it has.
use Rattle.std.specs.Prelude.{◌≡◌, ◌⊎◌, ⊤, ℕ, ◌==◌, Bool, List, [], ◌∷◌, ◌++◌, Option, Some, None}
use Rattle.std.specs.Fmt.{decimal}
use Rattle.nob_ids.specs.Names.{IsSpace}
use Rattle.nob_ids.specs.declared.limits.Limits.{Limits}
use Rattle.nob_model_types.specs.declared.entry.WorldStep.{WorldStep}
use Rattle.nob_model_reading.specs.declared.opening.Opening.{Opening}
use Rattle.nob_script_text.specs.Scripts.{AreLimitsOf, IsStepLine, IsOpeningLine, IsNoOpening}
use Rattle.test_worlds.specs.declared.script.Move.{Move}
use Rattle.test_worlds.specs.declared.script.Move.TheVariants as moves

-- whether a byte is the mark of a bringing
abbrev pub is_mark : ℕ → Bool
is_mark byte = byte == 62

-- a line says that one space brings another what it has: the number of the one, the mark, and the number of the other
abbrev pub IsBringing : List ℕ → (from to : ℕ) → Type 0
IsBringing line from to = IsSpace from × IsSpace to × (line ≡ decimal from ++ 62 ∷ decimal to)

-- a line says this
abbrev pub Says : List ℕ → Move → Type 0
Says line (moves.Make step) = IsStepLine line step
Says line (moves.Bring from to) = IsBringing line from to

-- a line says nothing
abbrev pub SaysNothing : List ℕ → Type 0
SaysNothing line = (next : Move) → Says line next → ⊥

-- what lines say: this, each line one thing; or nothing, where one of them says nothing
abbrev pub SayAll : List (List ℕ) → Option (List Move) → Type 0
SayAll [] None = ⊥
SayAll [] (Some all) = all ≡ []
SayAll (line ∷ lines) None = SaysNothing line ⊎ SayAll lines None
SayAll (line ∷ lines) (Some []) = ⊥
SayAll (line ∷ lines) (Some (next ∷ rest)) = Says line next × SayAll lines (Some rest)

-- lines spell a script of so many spaces, with these limits and moves: the first says how many and which limits, each other is a move
abbrev pub SpellScript : List (List ℕ) → ℕ → Limits → List Move → Type 0
SpellScript [] n limits all = ⊥
SpellScript (line ∷ lines) n limits all = (opening : Opening) × IsOpeningLine line opening × (n ≡ opening.n) × AreLimitsOf opening.limits limits × SayAll lines (Some all)

-- lines spell no script: there is none, the first isn't a script's, or another says nothing
abbrev pub SpellNoScript : List (List ℕ) → Type 0
SpellNoScript [] = ⊤
SpellNoScript (line ∷ lines) = IsNoOpening line ⊎ SayAll lines None

-- moves are these steps; or no steps alone, where by one of them one space brings another what it has
abbrev pub AreSteps : List Move → Option (List WorldStep) → Type 0
AreSteps [] None = ⊥
AreSteps [] (Some steps) = steps ≡ []
AreSteps (moves.Bring from to ∷ rest) None = ⊤
AreSteps (moves.Bring from to ∷ rest) (Some steps) = ⊥
AreSteps (moves.Make step ∷ rest) None = AreSteps rest None
AreSteps (moves.Make step ∷ rest) (Some []) = ⊥
AreSteps (moves.Make step ∷ rest) (Some (other ∷ steps)) = (other ≡ step) × AreSteps rest (Some steps)

-- lines spell a script of so many spaces, with these limits, whose moves are these steps
abbrev pub SpellSteps : List (List ℕ) → ℕ → Limits → List WorldStep → Type 0
SpellSteps lines n limits steps = (all : List Move) × SpellScript lines n limits all × AreSteps all (Some steps)

-- lines spell no script of steps: they spell no script, or one by which a space brings another what it has
abbrev pub SpellNoSteps : List (List ℕ) → Type 0
SpellNoSteps lines = SpellNoScript lines ⊎ ((n : ℕ) × (limits : Limits) × (all : List Move) × SpellScript lines n limits all × AreSteps all None)
