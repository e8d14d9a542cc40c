-- A text goes on in one way, and for one fault at most it doesn't.
use Rattle.std.proofs.Common.{◌≡◌, ◌⊎◌, inl, inr, ℕ, List, [], ◌∷◌, ◌++◌, refl, sym, ap, subst, ◌∙◌, append_assoc, arith}
use Rattle.nob_trace.specs.Reading.{BeginsWithLine, Lacks}
use Rattle.nob_trace.proofs.Parting.{has_one, one_parting}
use Rattle.nob_chain.specs.declared.head.ChainHead.{ChainHead}
use Rattle.nob_chain.specs.declared.fault.ChainFault.{ChainFault}
use Rattle.nob_chain.specs.declared.fault.ChainFault.TheVariants as faults
use Rattle.nob_chain.specs.Chains.{ChainLine, begins, has, line_text, lines_text}
use Rattle.nob_chain.specs.Reading.{Stage, between, within, Waits, CanStand, Passes, IsFaultOf, next, after, Go, IsRefused, LineFault}
use Rattle.nob_chain.proofs.Signs as signs
use Rattle.nob_chain.proofs.OneLine.{line_is}

-- the first lines of one text
same_line : (h : ChainHead) (stage : Stage) (l m : ChainLine) (rest more : List ℕ) → CanStand h stage l → CanStand h stage m → line_text l ++ 10 ∷ rest ≡ line_text m ++ 10 ∷ more → (l ≡ m) × (rest ≡ more)
same_line h stage l m rest more is was same =
    let parts = one_parting 10 (line_text l) (line_text m) rest more (signs.line h stage l is) (signs.line h stage m was) same in
    (line_is h stage l m is was parts.0, parts.1)

-- the first line of a text is that of the thing with which it begins
line_of : (h : ChainHead) (stage : Stage) (l : ChainLine) (text line rest more : List ℕ) → CanStand h stage l → BeginsWithLine text line rest → text ≡ line_text l ++ 10 ∷ more → line ≡ line_text l
line_of h stage l text line rest more is starts spelt = (one_parting 10 line (line_text l) rest more starts.0 (signs.line h stage l is) (sym starts.1 ∙ spelt)).0

-- what passes isn't refused
refuted : (stage : Stage) (l : ChainLine) (f : ChainFault) → IsFaultOf stage l f → Passes stage l → ⊥
refuted (between behind last) (begins n c) faults.Segment fault passes = fault passes
refuted (within n last missing) (has e) faults.Stamp fault passes = omega (arith, fault, passes)
refuted stage l f fault passes = fault

refused_line : (h : ChainHead) (stage : Stage) (left : List ℕ) (f : ChainFault) (l : ChainLine) (rest : List ℕ) → IsRefused h stage left f → CanStand h stage l → Passes stage l → left ≡ line_text l ++ 10 ∷ rest → ⊥
refused_line h stage left f l rest fault can passes is =
    let same = (same_line h stage fault.0 l fault.1 rest fault.2 can (sym fault.3 ∙ is)).0 in
    refuted stage l f (subst (λ (x : ChainLine). IsFaultOf stage x f) same fault.4) passes

-- a fault doesn't stand where a line goes on
no_fault : (h : ChainHead) (stage : Stage) (left : List ℕ) (f : ChainFault) (l : ChainLine) (rest : List ℕ) → LineFault h stage left f → CanStand h stage l → Passes stage l → left ≡ line_text l ++ 10 ∷ rest → ⊥
no_fault h stage left faults.Short l rest fault can passes is = has_one 10 left (line_text l) rest fault is
no_fault h stage left faults.Entry l rest fault can passes is = fault.3 l can (line_of h stage l left fault.0 fault.1 rest can fault.2 is)
no_fault h stage left faults.Stamp l rest fault can passes is = refused_line h stage left faults.Stamp l rest fault can passes is
no_fault h stage left faults.Trailing l rest fault can passes is = refused_line h stage left faults.Trailing l rest fault can passes is
no_fault h stage left faults.Segment l rest fault can passes is = refused_line h stage left faults.Segment l rest fault can passes is

-- no line is due any more, or what stands there has a fault
abbrev pub Halts : ChainHead → Stage → List ℕ → Type 0
Halts h stage left = (Waits h stage → ⊥) ⊎ ((f : ChainFault) × LineFault h stage left f)

halted : (h : ChainHead) (stage : Stage) (left : List ℕ) (l : ChainLine) (rest : List ℕ) → Halts h stage left → Waits h stage → CanStand h stage l → Passes stage l → left ≡ line_text l ++ 10 ∷ rest → ⊥
halted h stage left l rest (inl over) waits can passes is = over waits
halted h stage left l rest (inr fault) waits can passes is = no_fault h stage left fault.0 l rest fault.1 can passes is

-- a text goes on in one way
pub one_run : (h : ChainHead) (ls ms : List ChainLine) (stage : Stage) (left right : List ℕ) → Go h stage ls → Go h stage ms → lines_text ls ++ left ≡ lines_text ms ++ right
    → Halts h (after stage ls) left → Halts h (after stage ms) right → (ls ≡ ms) × (left ≡ right)
one_run h [] [] stage left right go went same here there = (refl, same)
one_run h [] (m ∷ ms) stage left right go went same here there = absurd (halted h stage left m (lines_text ms ++ right) here went.0 went.1 went.2 (same ∙ append_assoc (line_text m) (10 ∷ lines_text ms) right))
one_run h (l ∷ ls) [] stage left right go went same here there = absurd (halted h stage right l (lines_text ls ++ left) there go.0 go.1 go.2 (sym same ∙ append_assoc (line_text l) (10 ∷ lines_text ls) left))
one_run h (l ∷ ls) (m ∷ ms) stage left right go went same here there =
    let first = same_line h stage l m (lines_text ls ++ left) (lines_text ms ++ right) go.1 went.1 (sym (append_assoc (line_text l) (10 ∷ lines_text ls) left) ∙ same ∙ append_assoc (line_text m) (10 ∷ lines_text ms) right) in
    let others = one_run h ls ms (next stage l) left right go.3 (subst (λ (x : ChainLine). Go h (next stage x) ms) (sym first.0) went.3) first.1 here (subst (λ (x : ChainLine). Halts h (after (next stage x) ms) right) (sym first.0) there) in
    (ap (λ (x : ChainLine). x ∷ ls) first.0 ∙ ap (λ (xs : List ChainLine). m ∷ xs) others.0, others.1)

-- ---- one fault

one_refusal : (stage : Stage) (l : ChainLine) (f g : ChainFault) → IsFaultOf stage l f → IsFaultOf stage l g → f ≡ g
one_refusal (between behind last) (begins n c) faults.Segment faults.Segment is was = refl
one_refusal (within n last missing) (has e) faults.Stamp faults.Stamp is was = refl
one_refusal (between behind last) (begins n c) faults.Segment g is was = absurd was
one_refusal (within n last missing) (has e) faults.Stamp g is was = absurd was
one_refusal stage l f g is was = absurd is

both_refused : (h : ChainHead) (stage : Stage) (left : List ℕ) (f g : ChainFault) → IsRefused h stage left f → IsRefused h stage left g → f ≡ g
both_refused h stage left f g is was =
    let same = (same_line h stage is.0 was.0 is.1 was.1 is.2 was.2 (sym is.3 ∙ was.3)).0 in
    one_refusal stage was.0 f g (subst (λ (x : ChainLine). IsFaultOf stage x f) same is.4) was.4

cut_refused : (h : ChainHead) (stage : Stage) (left : List ℕ) (f : ChainFault) → Lacks 10 left → IsRefused h stage left f → ⊥
cut_refused h stage left f lacks is = has_one 10 left (line_text is.0) is.1 lacks is.3

no_line_refused : (h : ChainHead) (stage : Stage) (left : List ℕ) (f : ChainFault) → LineFault h stage left faults.Entry → IsRefused h stage left f → ⊥
no_line_refused h stage left f none is = none.3 is.0 is.2 (line_of h stage is.0 left none.0 none.1 is.1 is.2 none.2 is.3)

cut_no_line : (h : ChainHead) (stage : Stage) (left : List ℕ) → Lacks 10 left → LineFault h stage left faults.Entry → ⊥
cut_no_line h stage left lacks none = has_one 10 left none.0 none.1 lacks none.2.1

refused_end : (h : ChainHead) (stage : Stage) (left : List ℕ) (f g : ChainFault) → IsRefused h stage left f → LineFault h stage left g → f ≡ g
refused_end h stage left f faults.Short is was = absurd (cut_refused h stage left f was is)
refused_end h stage left f faults.Entry is was = absurd (no_line_refused h stage left f was is)
refused_end h stage left f faults.Stamp is was = both_refused h stage left f faults.Stamp is was
refused_end h stage left f faults.Trailing is was = both_refused h stage left f faults.Trailing is was
refused_end h stage left f faults.Segment is was = both_refused h stage left f faults.Segment is was

cut_end : (h : ChainHead) (stage : Stage) (left : List ℕ) (g : ChainFault) → Lacks 10 left → LineFault h stage left g → faults.Short ≡ g
cut_end h stage left faults.Short is was = refl
cut_end h stage left faults.Entry is was = absurd (cut_no_line h stage left is was)
cut_end h stage left faults.Stamp is was = absurd (cut_refused h stage left faults.Stamp is was)
cut_end h stage left faults.Trailing is was = absurd (cut_refused h stage left faults.Trailing is was)
cut_end h stage left faults.Segment is was = absurd (cut_refused h stage left faults.Segment is was)

no_line_end : (h : ChainHead) (stage : Stage) (left : List ℕ) (g : ChainFault) → LineFault h stage left faults.Entry → LineFault h stage left g → faults.Entry ≡ g
no_line_end h stage left faults.Short is was = absurd (cut_no_line h stage left was is)
no_line_end h stage left faults.Entry is was = refl
no_line_end h stage left faults.Stamp is was = absurd (no_line_refused h stage left faults.Stamp is was)
no_line_end h stage left faults.Trailing is was = absurd (no_line_refused h stage left faults.Trailing is was)
no_line_end h stage left faults.Segment is was = absurd (no_line_refused h stage left faults.Segment is was)

-- what stands there has one fault at most
pub one_end : (h : ChainHead) (stage : Stage) (left : List ℕ) (f g : ChainFault) → LineFault h stage left f → LineFault h stage left g → f ≡ g
one_end h stage left faults.Short g is was = cut_end h stage left g is was
one_end h stage left faults.Entry g is was = no_line_end h stage left g is was
one_end h stage left faults.Stamp g is was = refused_end h stage left faults.Stamp g is was
one_end h stage left faults.Trailing g is was = refused_end h stage left faults.Trailing g is was
one_end h stage left faults.Segment g is was = refused_end h stage left faults.Segment g is was
