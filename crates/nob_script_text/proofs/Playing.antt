-- What is written so far for a script, and what completes it.
use Rattle.std.proofs.Common.{◌≡◌, ℕ, ◌+◌, Bool, true, List, [], ◌∷◌, ◌++◌, Option, Some, None, Result, Ok, Err, OnOk, refl, sym, ap, subst, ◌∙◌, codes, append_assoc}
use Rattle.std.proofs.lemmas.List.{append-nil}
use Rattle.nob_ids.specs.declared.limits.Limits.{Limits}
use Rattle.nob_model_types.specs.declared.entry.WorldStep.{WorldStep}
use Rattle.nob_model_reading.specs.declared.opening.Opening.{Opening}
use Rattle.nob_model_reading.specs.Scripts.{opening_text, step_text, IsOpening, IsStep}
use Rattle.nob_model_journal.specs.declared.verdict.Verdict.{Verdict}
use Rattle.nob_model_text.specs.Lines.{line_text, bad_step_text}
use Rattle.nob_script_text.specs.declared.ending.Ending.{Ending}
use Rattle.nob_script_text.specs.declared.ending.Ending.TheVariants.{Judged, BadStep, OutOfMemory}
use Rattle.nob_script_text.specs.Verdicts.{verdict_line}
use Rattle.nob_script_text.specs.Worlds.{World, new_world}
use Rattle.nob_script_text.specs.Scripts.{FromLines, FromLine, FromOpening, FromNothing, FromScript, AtEnd, StepMade, RanOut, Grows, IsNoStep, IsNoOpening, IsOpeningLine, AreLimitsOf}

-- whatever completes the lines that are left in one world completes all lines in the first one
abbrev pub Completes : (may_lack : Bool) → (judges : World → Verdict → Type 0) → ℕ → (left all : List (List ℕ)) → (first world : World) → (old text : List ℕ) → Type 0
Completes may_lack judges n left all first world old text = (rest : List ℕ) (ending : Ending) → FromLines may_lack judges n world left rest ending → Grows old (text ++ rest) (λ written. FromLines may_lack judges 2 first all written ending)

pub begun : (may_lack : Bool) (judges : World → Verdict → Type 0) (all : List (List ℕ)) (first : World) (old : List ℕ) → Completes may_lack judges 2 all all first first old old
begun may_lack judges all first old rest ending from = (rest, refl, from)

-- one line more
pub line_more : (may_lack : Bool) (judges : World → Verdict → Type 0) (n : ℕ) (line : List ℕ) (left all : List (List ℕ)) (first world next : World) (old text new written : List ℕ)
    → Completes may_lack judges n (line ∷ left) all first world old text → StepMade may_lack world line next written → new ≡ text ++ written → Completes may_lack judges (n + 1) left all first next old new
line_more may_lack judges n line left all first world next old text new written before step is rest ending from =
    let h = before (written ++ rest) ending (FromLine.made next written rest step refl from) in
    (h.0, ap (λ (xs : List ℕ). xs ++ rest) is ∙ append_assoc text written rest ∙ h.1, h.2)

-- the run ends at a line that is no step
pub line_bad : (may_lack : Bool) (judges : World → Verdict → Type 0) (n : ℕ) (line : List ℕ) (left all : List (List ℕ)) (first world : World) (old text : List ℕ) → Completes may_lack judges n (line ∷ left) all first world old text → IsNoStep line
    → Grows old (text ++ bad_step_text n) (λ written. FromLines may_lack judges 2 first all written BadStep)
line_bad may_lack judges n line left all first world old text before none = before (bad_step_text n) BadStep (FromLine.bad none refl refl)

-- the run ends where all lines are made
pub lines_done : (may_lack : Bool) (judges : World → Verdict → Type 0) (n : ℕ) (all : List (List ℕ)) (first world : World) (old text new : List ℕ) (ending : Ending) → Completes may_lack judges n [] all first world old text → Grows text new (λ written. AtEnd may_lack judges world written ending)
    → Grows old new (λ written. FromLines may_lack judges 2 first all written ending)
lines_done may_lack judges n all first world old text new ending before end =
    let h = before end.0 ending end.2 in (h.0, end.1 ∙ h.1, h.2)

-- memory may run out anywhere
pub lines_stopped : (judges : World → Verdict → Type 0) (n : ℕ) (left : List (List ℕ)) (world : World) → FromLines true judges n world left (codes "memory\n") OutOfMemory
lines_stopped judges n [] world = AtEnd.stopped (refl, refl, refl)
lines_stopped judges n (line ∷ left) world = FromLine.stopped (refl, refl, refl)

pub run_stopped : (judges : World → Verdict → Type 0) (n : ℕ) (left all : List (List ℕ)) (first world : World) (old text : List ℕ) → Completes true judges n left all first world old text → Grows old (text ++ codes "memory\n") (λ written. FromLines true judges 2 first all written OutOfMemory)
run_stopped judges n left all first world old text before = before (codes "memory\n") OutOfMemory (lines_stopped judges n left world)

-- a text grew by the same where it is the same
pub grown : (old a b : List ℕ) (P : List ℕ → Type 0) → a ≡ b → Grows old b P → Grows old a P
grown old a b P e h = (h.0, e ∙ h.1, h.2)

-- a line that is read as no step is none
pub no_step : (line : List ℕ) (found : Option WorldStep) → found ≡ None → ((step : WorldStep) → IsStep step → line ≡ step_text step → found ≡ Some step) → IsNoStep line
no_step line found none only step is spelt = let some = only step is spelt in absurd cc

-- and one that is read as no first line
pub no_opening : (line : List ℕ) (found : Option Opening) → found ≡ None → ((opening : Opening) → IsOpening opening → line ≡ opening_text opening → found ≡ Some opening) → IsNoOpening line
no_opening line found none only opening is spelt = let some = only opening is spelt in absurd cc

-- the steps after the first line
pub opening_done : (may_lack : Bool) (judges : World → Verdict → Type 0) (line : List ℕ) (lines : List (List ℕ)) (opening : Opening) (limits : Limits) (world : World) (old text new : List ℕ) (ending : Ending)
    → IsOpeningLine line opening → AreLimitsOf opening.limits limits → world ≡ new_world opening.n limits → text ≡ old ++ (((line ++ []) ++ []) ++ 10 ∷ [])
    → Grows text new (λ written. FromLines may_lack judges 2 world lines written ending) → Grows old new (λ written. FromOpening may_lack judges line lines written ending)
opening_done may_lack judges line lines opening limits world old text new ending is are empty at g =
    let begun : text ≡ old ++ line_text line = at ∙ ap (λ (xs : List ℕ). old ++ (xs ++ 10 ∷ [])) (append-nil (line ++ []) ∙ append-nil line) in
    (line_text line ++ g.0, g.1 ∙ ap (λ (xs : List ℕ). xs ++ g.0) begun ∙ append_assoc old (line_text line) g.0, FromOpening.opened opening limits g.0 is are refl (subst (λ (w : World). FromLines may_lack judges 2 w lines g.0 ending) empty g.2))

-- the whole script, of which this is the first line
pub script_done : (may_lack : Bool) (judges : World → Verdict → Type 0) (lines all : List (List ℕ)) (line : List ℕ) (old new : List ℕ) (ending : Ending) → lines ≡ line ∷ all → old ≡ []
    → Grows old new (λ written. FromOpening may_lack judges line all written ending) → FromScript may_lack judges lines new ending
script_done may_lack judges lines all line old new ending split empty g =
    subst (λ (ls : List (List ℕ)). FromScript may_lack judges ls new ending) (sym split) (subst (λ (xs : List ℕ). FromOpening may_lack judges line all xs ending) (sym (g.1 ∙ ap (λ (xs : List ℕ). xs ++ g.0) empty)) g.2)

-- a run that ended at a line that is no step
pub bad_made : {A E : Type 0} (r : Result A E) (old text new : List ℕ) (n : ℕ) (P : List ℕ → Ending → Type 0) → OnOk r (new ≡ text ++ bad_step_text n) → Grows old (text ++ bad_step_text n) (λ written. P written BadStep) → OnOk r ((ending : Ending) × Grows old new (λ written. P written ending))
bad_made (Ok a) old text new n P is g = (BadStep, grown old new (text ++ bad_step_text n) (λ written. P written BadStep) is g)
bad_made (Err e) old text new n P is g = tt
