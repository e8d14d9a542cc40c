-- Runs of pushes to a Feed.
use Rattle.std.proofs.Common.{◌≡◌, ℕ, List, [], ◌∷◌, ◌++◌, Result, Ok, Err, refl, sym, ap, subst, ◌∙◌, arith}
use Rattle.std.proofs.lemmas.List.{append-nil}
use Rattle.nob_frame.specs.declared.fault.FrameFault.{FrameFault}
use Rattle.nob_frame.specs.declared.fault.FrameFault.TheVariants as faults
use Rattle.nob_frame.specs.declared.frame.Frame.{Frame}
use Rattle.nob_frame.specs.declared.version.Version.TheVariants.{Two}
use Rattle.nob_frame.specs.Reading.{front_at, frame_at}
use Rattle.nob_frame.specs.Laws.{AllGiven, FaultStands, AnyCut}
use Rattle.nob_frame.specs.Streams.{Splits, Kept, IsCut, IsBroken, Pushes, stream_of, given_by, wanted_by, Fed}
use Rattle.nob_frame.proofs.Fronts.{begins_none, first_fault, front_fault, front_fault_stays, front_short}
use Rattle.nob_frame.proofs.Splitting.{one_split, splits_on, broken_more}

abbrev keeps : List ℕ → Kept
keeps kept = Ok kept

abbrev met : FrameFault → Kept
met fault = Err fault

kept_is : (kept rest : List ℕ) → keeps kept ≡ keeps rest → kept ≡ rest
kept_is kept rest e = cc

-- ---- without a fault

nothing : Splits [] [] [] × IsCut []
nothing =
    let short : front_at Two [] ≡ Err faults.Short = front_short [] (omega arith) in
    (record { whole = refl; each = tt; none = begins_none [] faults.Short short }, first_fault [] faults.Short short)

-- nothing at all is cut off, and wants a header
pub begins_cut : IsCut [] × (32 ≡ wanted_by [])
begins_cut = (nothing.1, refl)

step_ok : (stream piece : List ℕ) (earlier : List Frame) (old : Kept) (answer : Result (List Frame) FrameFault) (rest : List ℕ)
    → ((kept : List ℕ) → old ≡ Ok kept → Splits stream earlier kept × IsCut kept) → Pushes old piece answer (Ok rest) → Splits (stream ++ piece) (earlier ++ given_by answer) rest × IsCut rest
step_ok stream piece earlier (Ok kept) (Ok frames) rest before p = (splits_on stream piece earlier frames kept rest (before kept refl).0 p.0, p.1)
step_ok stream piece earlier (Ok kept) (Err fault) rest before p = absurd p
step_ok stream piece earlier (Err fault) (Ok frames) rest before p = absurd p
step_ok stream piece earlier (Err fault) (Err again) rest before p = absurd p

pub fed_ok : (pieces : List (List ℕ)) (given : List Frame) (kept : List ℕ) → Fed pieces given (Ok kept) → Splits (stream_of pieces) given kept × IsCut kept
fed_ok [] given kept f =
    let empty : [] ≡ kept = sym (kept_is kept [] f.1) in
    subst (λ (k : List ℕ). Splits [] given k × IsCut k) empty (subst (λ (g : List Frame). Splits [] g [] × IsCut []) (sym f.0) nothing)
fed_ok (piece ∷ before) given kept f =
    let step = step_ok (stream_of before) piece f.0 f.1 f.2 kept (λ old e. fed_ok before f.0 old (subst (Fed before f.0) e f.3)) f.4 in
    subst (λ (g : List Frame). Splits (stream_of before ++ piece) g kept × IsCut kept) (sym f.5) step

-- ---- with a fault

-- the stream has frames that begin with those given, and then a rest with this fault
abbrev Breaks : List ℕ → List Frame → FrameFault → Type 0
Breaks stream given fault = (more : List Frame) × (rest : List ℕ) × Splits stream (given ++ more) rest × IsBroken rest fault

broken_stays : (rest piece : List ℕ) (fault : FrameFault) → IsBroken rest fault → IsBroken (rest ++ piece) fault
broken_stays rest piece fault b = (first_fault (rest ++ piece) fault (front_fault_stays rest piece fault (front_fault rest fault b.0 b.2) b.1), b.1, b.2)

step_err : (stream piece : List ℕ) (earlier : List Frame) (old : Kept) (answer : Result (List Frame) FrameFault) (fault : FrameFault)
    → ((kept : List ℕ) → old ≡ Ok kept → Splits stream earlier kept × IsCut kept) → ((first : FrameFault) → old ≡ Err first → Breaks stream earlier first)
    → Pushes old piece answer (Err fault) → Breaks (stream ++ piece) (earlier ++ given_by answer) fault
step_err stream piece earlier (Ok kept) (Ok frames) fault before broke p = absurd p
step_err stream piece earlier (Ok kept) (Err again) fault before broke p =
    let frames = p.1 in
    let rest = p.2 in
    let whole : Splits (stream ++ piece) (earlier ++ frames) rest = splits_on stream piece earlier frames kept rest (before kept refl).0 p.3 in
    let same : (earlier ++ []) ++ frames ≡ earlier ++ frames = ap (λ (e : List Frame). e ++ frames) (append-nil earlier) in
    (frames, rest, subst (λ (fs : List Frame). Splits (stream ++ piece) fs rest) (sym same) whole, subst (IsBroken rest) (sym p.0) p.4)
step_err stream piece earlier (Err first) (Ok frames) fault before broke p = absurd p
step_err stream piece earlier (Err first) (Err again) fault before broke p =
    let b = broke first refl in
    let more = b.0 in
    let rest = b.1 in
    let broken = b.3 in
    let whole : Splits (stream ++ piece) (earlier ++ more) (rest ++ piece) = broken_more stream piece (earlier ++ more) rest first b.2 (front_fault rest first broken.0 broken.2) broken.1 in
    let same : (earlier ++ []) ++ more ≡ earlier ++ more = ap (λ (e : List Frame). e ++ more) (append-nil earlier) in
    (more, rest ++ piece, subst (λ (fs : List Frame). Splits (stream ++ piece) fs (rest ++ piece)) (sym same) whole, subst (IsBroken (rest ++ piece)) (sym p.1) (broken_stays rest piece first broken))

pub fed_err : (pieces : List (List ℕ)) (given : List Frame) (fault : FrameFault) → Fed pieces given (Err fault) → Breaks (stream_of pieces) given fault
fed_err [] given fault f = let wrong : met fault ≡ keeps [] = f.1 in absurd cc
fed_err (piece ∷ before) given fault f =
    let step = step_err (stream_of before) piece f.0 f.1 f.2 fault (λ old e. fed_ok before f.0 old (subst (Fed before f.0) e f.3)) (λ first e. fed_err before f.0 first (subst (Fed before f.0) e f.3)) f.4 in
    subst (λ (g : List Frame). Breaks (stream_of before ++ piece) g fault) (sym f.5) step

-- ---- the laws

pub all_given : AllGiven
all_given pieces given kept f = (fed_ok pieces given kept f).0

pub fault_stands : FaultStands
fault_stands pieces given fault f = fed_err pieces given fault f

abbrev refuses : FrameFault → Result Frame FrameFault
refuses fault = Err fault

-- one rest has one first fault
one_fault : (rest left : List ℕ) (f g : FrameFault) → rest ≡ left → frame_at Two rest ≡ Err f → frame_at Two left ≡ Err g → f ≡ g
one_fault rest left f g same a b = let e : refuses f ≡ refuses g = sym a ∙ ap (frame_at Two) same ∙ b in cc

pub any_cut : AnyCut
any_cut pieces others given got (Ok kept) (Ok left) e a b =
    let p = fed_ok pieces given kept a in
    let q = fed_ok others got left b in
    let one = one_split (stream_of others) given got kept left (subst (λ (s : List ℕ). Splits s given kept) e p.0) q.0 in
    (ap keeps one.1, λ ok. one.0)
any_cut pieces others given got (Ok kept) (Err fault) e a b =
    let p = fed_ok pieces given kept a in
    let q = fed_err others got fault b in
    let one = one_split (stream_of others) given (got ++ q.0) kept q.1 (subst (λ (s : List ℕ). Splits s given kept) e p.0) q.2 in
    absurd (q.3.1 (sym (one_fault kept q.1 faults.Short fault one.1 p.1 q.3.0)))
any_cut pieces others given got (Err fault) (Ok left) e a b =
    let p = fed_err pieces given fault a in
    let q = fed_ok others got left b in
    let one = one_split (stream_of others) (given ++ p.0) got p.1 left (subst (λ (s : List ℕ). Splits s (given ++ p.0) p.1) e p.2) q.0 in
    absurd (p.3.1 (one_fault p.1 left fault faults.Short one.1 p.3.0 q.1))
any_cut pieces others given got (Err fault) (Err other) e a b =
    let p = fed_err pieces given fault a in
    let q = fed_err others got other b in
    let one = one_split (stream_of others) (given ++ p.0) (got ++ q.0) p.1 q.1 (subst (λ (s : List ℕ). Splits s (given ++ p.0) p.1) e p.2) q.2 in
    (ap met (one_fault p.1 q.1 fault other one.1 p.3.0 q.3.0), λ ok. absurd cc)
