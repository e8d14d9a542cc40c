-- What is written so far, and what completes it.
use Rattle.std.proofs.Common.{◌≡◌, ℕ, ◌+◌, List, [], ◌∷◌, ◌++◌, Result, Ok, Err, IfOk, OnErr, Option, None, IsSome, refl, sym, ap, subst, ◌∙◌, codes, append_assoc}
use Rattle.std.specs.declared.alloc.AllocError.{AllocError}
use Rattle.std.proofs.lemmas.List.{append-nil}
use Rattle.nob_demo_scripts.specs.Grammar.{header_text, IsLimits}
use Rattle.nob_model_text.specs.Lines.{lines_of, bad_step_text, line_text}
use Rattle.nob_ids.specs.declared.limits.Limits.{Limits}
use Rattle.nob_model_session.specs.declared.entry.PairEntry.{PairEntry}
use Rattle.nob_model_session.specs.Pair.{PairFronts}
use Rattle.nob_demo_scripts.specs.declared.pair_script.PairEnding.{PairEnding}
use Rattle.nob_demo_scripts.specs.declared.pair_script.PairEnding.TheVariants.{Fronts, BadStep, OutOfMemory}
use Rattle.nob_demo_scripts.specs.PairScripts.{FromLines, FromLine, FromHeader, FromScript, AtEnd, FromNothing, StepMade, Grows, IsNoStep, IsNoHeader, Plays, last_line}

-- whatever completes these lines after the run K completes all lines after the run J
abbrev pub Completes : Limits → ℕ → (left all : List (List ℕ)) → (J K : List PairEntry) → (old text : List ℕ) → Type 0
Completes limits n left all J K old text = (rest : List ℕ) (outcome : PairEnding) → FromLines limits n left K rest outcome → Grows old (text ++ rest) (λ written. FromLines limits 2 all J written outcome)

pub begun : (limits : Limits) (all : List (List ℕ)) (J : List PairEntry) (old : List ℕ) → Completes limits 2 all all J J old old
begun limits all J old rest outcome from = (rest, refl, from)

-- one line more
pub line_more : (limits : Limits) (n : ℕ) (line : List ℕ) (left all : List (List ℕ)) (J K M : List PairEntry) (old text new written : List ℕ)
    → Completes limits n (line ∷ left) all J K old text → StepMade limits line K M written → new ≡ text ++ written → Completes limits (n + 1) left all J M old new
line_more limits n line left all J K M old text new written before step is rest outcome from =
    let h = before (written ++ rest) outcome (FromLine.made M written rest step refl from) in
    (h.0, ap (λ (xs : List ℕ). xs ++ rest) is ∙ append_assoc text written rest ∙ h.1, h.2)

-- the run ends where all lines are made
pub lines_done : (limits : Limits) (n : ℕ) (all : List (List ℕ)) (J K : List PairEntry) (old text : List ℕ) → Completes limits n [] all J K old text → PairFronts K
    → Grows old (text ++ codes "fronts yes\n") (λ written. FromLines limits 2 all J written Fronts)
lines_done limits n all J K old text before fronts = before (codes "fronts yes\n") Fronts (AtEnd.finished fronts refl refl)

-- the run ends at a line that is no step
pub line_bad : (limits : Limits) (n : ℕ) (line : List ℕ) (left all : List (List ℕ)) (J K : List PairEntry) (old text : List ℕ) → Completes limits n (line ∷ left) all J K old text → IsNoStep line
    → Grows old (text ++ bad_step_text n) (λ written. FromLines limits 2 all J written BadStep)
line_bad limits n line left all J K old text before none = before (bad_step_text n) BadStep (FromLine.bad none refl refl)

-- memory may run out anywhere
pub lines_stopped : (limits : Limits) (n : ℕ) (left : List (List ℕ)) (K : List PairEntry) → FromLines limits n left K (codes "memory\n") OutOfMemory
lines_stopped limits n [] K = AtEnd.stopped refl refl
lines_stopped limits n (line ∷ left) K = FromLine.stopped refl refl

pub run_stopped : (limits : Limits) (n : ℕ) (left all : List (List ℕ)) (J K : List PairEntry) (old text : List ℕ) → Completes limits n left all J K old text
    → Grows old (text ++ codes "memory\n") (λ written. FromLines limits 2 all J written OutOfMemory)
run_stopped limits n left all J K old text before = before (codes "memory\n") OutOfMemory (lines_stopped limits n left K)

pub script_stopped : (lines : List (List ℕ)) → FromScript lines (codes "memory\n") OutOfMemory
script_stopped [] = FromNothing.stopped refl refl
script_stopped (header ∷ steps) = FromHeader.stopped refl refl

-- ---- forms

pub grown : (old a b : List ℕ) (P : List ℕ → Type 0) → a ≡ b → Grows old b P → Grows old a P
grown old a b P e h = (h.0, e ∙ h.1, h.2)

pub on_err : {A E P : Type 0} (r : Result A E) → P → OnErr r P
on_err (Ok a) p = tt
on_err (Err e) p = p

-- a run that ended at a line that is no step, or for want of memory
pub bad_ended : (r : Result PairEnding AllocError) (old text new : List ℕ) (n : ℕ) (P : List ℕ → PairEnding → Type 0) → IfOk r (λ o. (o ≡ BadStep) × (new ≡ text ++ bad_step_text n))
    → Grows old (text ++ bad_step_text n) (λ w. P w BadStep) → IfOk r (λ o. Grows old (new ++ last_line o) (λ w. P w o))
bad_ended (Ok o) old text new n P h g = subst (λ (x : PairEnding). Grows old (new ++ last_line x) (λ w. P w x)) (sym h.0) (grown old (new ++ []) (text ++ bad_step_text n) (λ w. P w BadStep) (append-nil new ∙ h.1) g)
bad_ended (Err e) old text new n P h g = tt

pub memory_ended : (r : Result PairEnding AllocError) (old text new : List ℕ) (P : List ℕ → Type 0) → OnErr r (new ≡ text) → Grows old (text ++ codes "memory\n") P → OnErr r (Grows old (new ++ codes "memory\n") P)
memory_ended (Ok o) old text new P h g = tt
memory_ended (Err e) old text new P h g = grown old (new ++ codes "memory\n") (text ++ codes "memory\n") P (ap (λ (xs : List ℕ). xs ++ codes "memory\n") h) g

-- the steps after the header
pub header_done : (limits : Limits) (header : List ℕ) (steps : List (List ℕ)) (old text new : List ℕ) (o : PairEnding) → IsLimits limits.window limits.retry → header ≡ header_text limits.window limits.retry → text ≡ old ++ (((header ++ []) ++ []) ++ 10 ∷ [])
    → Grows text new (λ w. FromLines limits 2 steps [] w o) → Grows old new (λ w. FromHeader header steps w o)
header_done limits header steps old text new o fit is at g =
    let line : text ≡ old ++ line_text header = at ∙ ap (λ (xs : List ℕ). old ++ (xs ++ 10 ∷ [])) (append-nil (header ++ []) ∙ append-nil header) in
    (line_text header ++ g.0, g.1 ∙ ap (λ (xs : List ℕ). xs ++ g.0) line ∙ append_assoc old (line_text header) g.0, FromHeader.opened limits g.0 fit is refl g.2)

-- the whole script, of which this is the first line
pub script_done : (script header : List ℕ) (steps : List (List ℕ)) (old new : List ℕ) (o : PairEnding) → lines_of script ≡ header ∷ steps → old ≡ []
    → Grows old new (λ w. FromHeader header steps w o) → Plays script new o
script_done script header steps old new o split empty g =
    subst (λ (ls : List (List ℕ)). FromScript ls new o) (sym split) (subst (λ (xs : List ℕ). FromHeader header steps xs o) (sym (g.1 ∙ ap (λ (xs : List ℕ). xs ++ g.0) empty)) g.2)

pub no_header : (line : List ℕ) (r : Option Limits) → r ≡ None → ((window retry : ℕ) → IsLimits window retry → line ≡ header_text window retry → IsSome r) → IsNoHeader line
no_header line r none only window retry fits spelt = let some = subst (λ (x : Option Limits). IsSome x) none (only window retry fits spelt) in absurd (cc some)
