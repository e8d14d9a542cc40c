-- What a push leaves.
use Rattle.std.proofs.Common.{◌≡◌, ℕ, ◌<◌, List, [], ◌++◌, length, Option, Some, None, Ok, Err, refl, sym, ap, subst, ◌∙◌, inl, inr}
use Rattle.std.specs.Prelude.{IfOk, ◌==◌, true}
use Rattle.std.proofs.lemmas.Bool.{eqb-true}
use Rattle.std.proofs.lemmas.List.{append-nil, nil_from_length}
use Rattle.nob_frame.specs.declared.fault.FrameFault.{FrameFault}
use Rattle.nob_frame.specs.declared.fault.FrameFault.TheVariants as faults
use Rattle.nob_frame.specs.declared.frame.Frame.{Frame}
use Rattle.nob_frame.specs.declared.version.Version.TheVariants.{Two}
use Rattle.nob_frame.specs.Reading.{front_at, frame_at}
use Rattle.nob_frame.specs.Streams.{Splits, Kept, IsCut, Pushes, kept_of, wanted_by, IsSound}
use Rattle.nob_frame.proofs.Fronts.{begins_none, first_fault, front_fault, front_stands, wants_on, waits}
use Rattle.nob_frame.proofs.Splitting.{one_split}

-- a Feed that brings too few bytes to say anything keeps them
pub still_waits : (fault : Option FrameFault) (kept piece next : List ℕ) (wanted : ℕ) → fault ≡ None → IsSound fault kept wanted → next ≡ kept ++ piece → length next < wanted
    → IsSound fault next wanted
still_waits (Some fault) kept piece next wanted none sound next_is less = absurd cc
still_waits None kept piece next wanted none sound next_is less =
    let few : length (kept ++ piece) < wanted_by kept = subst (λ (n : ℕ). length (kept ++ piece) < n) sound.1 (subst (λ (x : List ℕ). length x < wanted) next_is less) in
    let short : front_at Two (kept ++ piece) ≡ Err faults.Short = waits kept (front_fault kept faults.Short sound.0 (λ h. cc)) piece few in
    (ap (frame_at Two) next_is ∙ first_fault (kept ++ piece) faults.Short short, sound.1 ∙ wants_on kept piece few ∙ ap wanted_by (sym next_is))

pub waits_on : (old : Kept) (fault : Option FrameFault) (kept piece next : List ℕ) (wanted : ℕ) (frames : List Frame) → kept_of fault kept ≡ old → fault ≡ None → IsSound fault kept wanted
    → next ≡ kept ++ piece → length next < wanted → frames ≡ [] → Pushes old piece (Ok frames) (kept_of fault next)
waits_on old (Some fault) kept piece next wanted frames is none sound next_is less empty = absurd cc
waits_on old None kept piece next wanted frames is none sound next_is less empty =
    let cut : IsCut next = (still_waits None kept piece next wanted refl sound next_is less).0 in
    let short : front_at Two next ≡ Err faults.Short = front_fault next faults.Short cut (λ h. cc) in
    let whole : Splits (kept ++ piece) [] next = record { whole = sym next_is; each = tt; none = begins_none next faults.Short short } in
    subst (λ (o : Kept). Pushes o piece (Ok frames) (Ok next)) is (subst (λ (fs : List Frame). Splits (kept ++ piece) fs next × IsCut next) (sym empty) (whole, cut))

-- an empty piece completes nothing
pub stays : (old : Kept) (fault : Option FrameFault) (kept piece : List ℕ) (wanted : ℕ) (frames : List Frame) → kept_of fault kept ≡ old → fault ≡ None → IsSound fault kept wanted
    → true ≡ (length piece == 0) → frames ≡ [] → Pushes old piece (Ok frames) old
stays old (Some fault) kept piece wanted frames is none sound empty no_frames = absurd cc
stays old None kept piece wanted frames is none sound empty no_frames =
    let short : front_at Two kept ≡ Err faults.Short = front_fault kept faults.Short sound.0 (λ h. cc) in
    let alone : kept ++ piece ≡ kept = ap (λ (p : List ℕ). kept ++ p) (nil_from_length piece (eqb-true (length piece) 0 (sym empty))) ∙ append-nil kept in
    let whole : Splits (kept ++ piece) [] kept = record { whole = alone; each = tt; none = begins_none kept faults.Short short } in
    subst (λ (o : Kept). Pushes o piece (Ok frames) o) is (subst (λ (fs : List Frame). Splits (kept ++ piece) fs kept × IsCut kept) (sym no_frames) (whole, sound.0))

-- a rest that is cut off waits for the bytes that it wants
pub waits_again : (fault : Option FrameFault) (rest : List ℕ) (wanted : ℕ) → fault ≡ None → IsCut rest → wanted ≡ wanted_by rest → IsSound fault rest wanted
waits_again (Some fault) rest wanted none cut is = absurd cc
waits_again None rest wanted none cut is = (cut, is)

-- a push that gives frames
pub gives : (old : Kept) (fault : Option FrameFault) (kept piece next rest : List ℕ) (frames : List Frame) → kept_of fault kept ≡ old → fault ≡ None → next ≡ kept ++ piece
    → Splits next frames rest → IsCut rest → Pushes old piece (Ok frames) (kept_of fault rest)
gives old (Some fault) kept piece next rest frames is none next_is s cut = absurd cc
gives old None kept piece next rest frames is none next_is s cut =
    subst (λ (o : Kept). Pushes o piece (Ok frames) (Ok rest)) is (subst (λ (x : List ℕ). Splits x frames rest) next_is s, cut)

abbrev keeps : List ℕ → Kept
keeps kept = Ok kept

-- the frames that a push gives are the only ones
pub only_those : (old new : Kept) (piece : List ℕ) (given : List Frame) → Pushes old piece (Ok given) new → (kept : List ℕ) (frames : List Frame) (rest : List ℕ) → old ≡ Ok kept
    → Splits (kept ++ piece) frames rest → given ≡ frames
only_those (Ok had) (Ok left) piece given p kept frames rest is s =
    let same : had ≡ kept = (let e : keeps had ≡ keeps kept = is in cc) in
    (one_split (kept ++ piece) given frames left rest (subst (λ (k : List ℕ). Splits (k ++ piece) given left) same p.0) s).0
only_those (Ok had) (Err fault) piece given p kept frames rest is s = absurd p
only_those (Err fault) new piece given p kept frames rest is s = absurd p

-- a rest that is cut off is short
pub cut_short : (rest : List ℕ) → IsCut rest → length rest < 16416
cut_short rest cut = elim (front_stands rest faults.Short (front_fault rest faults.Short cut (λ h. cc))) [ inl inner ↦ absurd (inner.0 refl) | inr short ↦ short.1 ]

-- little is kept
pub few_kept : (now : Kept) (fault : Option FrameFault) (kept : List ℕ) (wanted : ℕ) → kept_of fault kept ≡ now → IsSound fault kept wanted → IfOk now (λ k. length k < 16416)
few_kept now None kept wanted is sound = subst (λ (k : Kept). IfOk k (λ few. length few < 16416)) is (cut_short kept sound.0)
few_kept now (Some fault) kept wanted is sound = subst (λ (k : Kept). IfOk k (λ few. length few < 16416)) is tt

-- and little is left
pub little_kept : (old new : Kept) (piece : List ℕ) (given : List Frame) → Pushes old piece (Ok given) new → IfOk new (λ kept. length kept < 16416)
little_kept (Ok had) (Ok left) piece given p = cut_short left p.1
little_kept (Ok had) (Err fault) piece given p = absurd p
little_kept (Err fault) new piece given p = absurd p
