-- How runs of scripts end before their last line.
use Rattle.std.proofs.Common.{◌≡◌, ℕ, true, List, [], ◌∷◌, ◌++◌, ◌+◌, refl, sym, ap, subst, ◌∙◌, codes}
use Rattle.std.proofs.lemmas.List.{append-nil}
use Rattle.nob_model_text.specs.Lines.{bad_step_text}
use Rattle.nob_script_text.specs.declared.ending.Ending.{Ending}
use Rattle.nob_script_text.specs.declared.ending.Ending.TheVariants.{Judged, BadStep, OutOfMemory}
use Rattle.nob_script_text.specs.Scripts.{AtEnd, FromLine, FromLines, FromOpening, FromNothing, FromScript, Grows, IsNoOpening, IsNoStep, last_line}
use Rattle.nob_script_text.specs.Worlds.{World}
use Rattle.nob_script_text.proofs.Playing.{Completes}
use Rattle.nob_demo_scripts.specs.WorldScripts.{EndsBadly, IsSafelyYes}

-- it was written which line is none
pub bad_written : (n : ℕ) (old new : List ℕ) → new ≡ old ++ bad_step_text n → Grows old (new ++ []) (λ written. EndsBadly n written BadStep)
bad_written n old new is = (bad_step_text n, append-nil new ∙ is, EndsBadly.bad refl refl)

-- memory ran out before that
pub bad_unwritten : (n : ℕ) (old new : List ℕ) → new ≡ old → Grows old (new ++ codes "memory\n") (λ written. EndsBadly n written OutOfMemory)
bad_unwritten n old new same = (codes "memory\n", ap (λ (xs : List ℕ). xs ++ codes "memory\n") same, EndsBadly.stopped (refl, refl, refl))

-- a line that is no step ends the run
pub bad_line : (n : ℕ) (world : World) (line : List ℕ) (from_next : World → List ℕ → Type 0) (written : List ℕ) (ending : Ending) → IsNoStep line → EndsBadly n written ending → FromLine true n world line from_next written ending
bad_line n world line from_next written ending none (EndsBadly.bad is how) = FromLine.bad none is how
bad_line n world line from_next written ending none (EndsBadly.stopped out) = FromLine.stopped out

-- and all lines with it
pub line_ends : (n : ℕ) (line : List ℕ) (left all : List (List ℕ)) (first world : World) (old text new : List ℕ) (ending : Ending) → Completes true IsSafelyYes n (line ∷ left) all first world old text → IsNoStep line
    → Grows text new (λ written. EndsBadly n written ending) → Grows old new (λ written. FromLines true IsSafelyYes 2 first all written ending)
line_ends n line left all first world old text new ending before none g =
    let h = before g.0 ending (bad_line n world line (λ next rest. FromLines true IsSafelyYes (n + 1) next left rest ending) g.0 ending none g.2) in
    (h.0, g.1 ∙ h.1, h.2)

-- so does a first line that is none
pub bad_opening : (line : List ℕ) (lines : List (List ℕ)) (written : List ℕ) (ending : Ending) → IsNoOpening line → EndsBadly 1 written ending → FromOpening true IsSafelyYes line lines written ending
bad_opening line lines written ending none (EndsBadly.bad is how) = FromOpening.bad none is how
bad_opening line lines written ending none (EndsBadly.stopped out) = FromOpening.stopped out

-- and a script without a line
pub no_line : (written : List ℕ) (ending : Ending) → EndsBadly 1 written ending → FromScript true IsSafelyYes [] written ending
no_line written ending (EndsBadly.bad is how) = FromNothing.bad is how
no_line written ending (EndsBadly.stopped out) = FromNothing.stopped out

-- where memory ran out and nothing more was written
pub stopped : (old text : List ℕ) (P : List ℕ → Type 0) → text ≡ old → P (codes "memory\n") → Grows old (text ++ codes "memory\n") P
stopped old text P same out = (codes "memory\n", ap (λ (xs : List ℕ). xs ++ codes "memory\n") same, out)

-- what was written by one of another kind
pub grows_by : (old new : List ℕ) (P Q : List ℕ → Type 0) → ((written : List ℕ) → P written → Q written) → Grows old new P → Grows old new Q
grows_by old new P Q so g = (g.0, g.1, so g.0 g.2)
