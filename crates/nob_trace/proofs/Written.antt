-- Frames and entries that were written so far, and those that are left.
use Rattle.std.proofs.Common.{◌≡◌, ℕ, ◌+◌, ◌<◌, List, [], ◌∷◌, ◌++◌, length, drop, get_or, sym, ap, subst, ◌∙◌, append_assoc, Result, Ok, Err}
use Rattle.std.specs.Prelude.{IsErrAnd}
use Rattle.std.specs.List.{AllByRecursion}
use Rattle.nob_model_text.proofs.Ahead.{first_ahead}
use Rattle.nob_frame.specs.declared.frame.Frame.{Frame}
use Rattle.nob_frame.specs.declared.version.Version.{Version}
use Rattle.nob_trace.specs.declared.stamped.Stamped.{Stamped}
use Rattle.nob_trace.specs.declared.fault.TraceError.{TraceError}
use Rattle.nob_trace.specs.declared.fault.TraceError.TheVariants.{Fault, OutOfMemory}
use Rattle.nob_trace.specs.Writing.{Refuses, Writes}
use Rattle.nob_trace.specs.Frames.{frame_text, spaced_text}
use Rattle.nob_trace.specs.Entries.{entry_text}
use Rattle.nob_trace.specs.Traces.{entries_text}

-- all of them, where all that are left and the others are
abbrev pub SameAll : {A : Type 0} → (A → Type 0) → List A → ℕ → Type 0
SameAll P xs i = (AllByRecursion P xs → AllByRecursion P (drop i xs)) × (AllByRecursion P (drop i xs) → AllByRecursion P xs)

pub all_next : {A : Type 0} (P : A → Type 0) (xs : List A) (i : ℕ) (x : A) → i < length xs → x ≡ get_or xs i x → P x → SameAll P xs i → SameAll P xs (i + 1)
all_next P xs i x lt same one so_far =
    let ahead = first_ahead xs i x lt same in
    (λ all. (subst (AllByRecursion P) ahead (so_far.0 all)).1, λ left. so_far.1 (subst (AllByRecursion P) (sym ahead) (one, left)))

pub frame_next : (version : Version) (fs : List Frame) (i : ℕ) (f : Frame) (now space next all : List ℕ) → i < length fs → f ≡ get_or fs i f → space ≡ now ++ 32 ∷ [] → next ≡ space ++ frame_text version f → now ++ spaced_text version (drop i fs) ≡ all → next ++ spaced_text version (drop (i + 1) fs) ≡ all
frame_next version fs i f now space next all lt same first one so_far =
    let left : List ℕ = spaced_text version (drop (i + 1) fs) in
    ap (λ (bs : List ℕ). bs ++ left) (one ∙ ap (λ (bs : List ℕ). bs ++ frame_text version f) first)
    ∙ append_assoc (now ++ 32 ∷ []) (frame_text version f) left
    ∙ append_assoc now (32 ∷ []) (frame_text version f ++ left)
    ∙ ap (λ (gs : List Frame). now ++ spaced_text version gs) (sym (first_ahead fs i f lt same))
    ∙ so_far

pub entry_next : (version : Version) (es : List Stamped) (i : ℕ) (e : Stamped) (now line next all : List ℕ) → i < length es → e ≡ get_or es i e → line ≡ now ++ entry_text version e → next ≡ line ++ 10 ∷ [] → now ++ entries_text version (drop i es) ≡ all → next ++ entries_text version (drop (i + 1) es) ≡ all
entry_next version es i e now line next all lt same first one so_far =
    let left : List ℕ = entries_text version (drop (i + 1) es) in
    ap (λ (bs : List ℕ). bs ++ left) (one ∙ ap (λ (bs : List ℕ). bs ++ 10 ∷ []) first)
    ∙ append_assoc (now ++ entry_text version e) (10 ∷ []) left
    ∙ append_assoc now (entry_text version e) (10 ∷ left)
    ∙ ap (λ (gs : List Stamped). now ++ entries_text version gs) (sym (first_ahead es i e lt same))
    ∙ so_far

pub this_one : {A : Type 0} (P : A → Type 0) (xs : List A) (i : ℕ) (x : A) → i < length xs → x ≡ get_or xs i x → SameAll P xs i → AllByRecursion P xs → P x
this_one P xs i x lt same so_far all = (subst (AllByRecursion P) (first_ahead xs i x lt same) (so_far.0 all)).0

-- what isn't written for a part's fault isn't written for the whole's
part_fault : (All One : Type 0) (e : TraceError) → Refuses One e → (All → One) → Refuses All e
part_fault All One (Fault fault) refuses of = (refuses.0, λ all. refuses.1 (of all))
part_fault All One OutOfMemory refuses of = tt

pub passed : {X : Type 0} (whole : X → Type 0) (All One : Type 0) (r : Result X TraceError) (e : TraceError) → IsErrAnd r (λ f. f ≡ e) → Refuses One e → (All → One) → Writes whole All r
passed whole All One (Ok x) e is refuses of = absurd is
passed whole All One (Err f) e is refuses of = subst (Refuses All) (sym is) (part_fault All One e refuses of)
