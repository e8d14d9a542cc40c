-- Walking back along what was given, the newest of a frame comes first; and along a journal, the oldest entry.
use Rattle.std.proofs.Common.{◌≡◌, ℕ, ◌<◌, ◌+◌, ◌-◌, Bool, true, false, List, [], ◌∷◌, ◌++◌, length, take, drop, get_or, Option, Some, None, if◌then◌else◌, refl, sym, ap, ◌∙◌, arith}
use Rattle.std.proofs.lemmas.List.{take_more}
use Rattle.std.specs.Option.{option_or}
use Rattle.nob_frame.specs.declared.frame.Frame.{Frame}
use Rattle.nob_model_types.specs.declared.entry.Entry.{Entry}
use Rattle.nob_drawing_plan.specs.declared.flight.Departure.{Departure}
use Rattle.nob_drawing_plan.specs.declared.flight.Arrow.{Arrow}
use Rattle.nob_drawing_plan.specs.declared.flight.Stray.{Stray}
use Rattle.nob_model_types.specs.Deeds.{deed_in}
use Rattle.nob_model_journal.specs.Journals.{frames_of}
use Rattle.nob_drawing_plan.specs.Bars.{row_after}
use Rattle.nob_drawing_plan.specs.Flights as spec

-- one departure more behind the others
last_behind : (frame : Frame) (x : Departure) (older : List Departure) → spec.last_of frame (older ++ x ∷ []) ≡ (if spec.is_of frame x then Some x else spec.last_of frame older)
last_behind frame x [] = refl
last_behind frame x (d ∷ older) =
    ap (λ (found : Option Departure). option_or found (if spec.is_of frame d then Some d else None)) (last_behind frame x older)
    ∙ by (spec.is_of frame x)
  where
    by : (b : Bool) → option_or (if b then Some x else spec.last_of frame older) (if spec.is_of frame d then Some d else None) ≡ (if b then Some x else option_or (spec.last_of frame older) (if spec.is_of frame d then Some d else None))
    by true = refl
    by false = refl

-- so many of the first, and the one behind them
taken_back : (xs : List Departure) (back : ℕ) (x : Departure) → back < length xs → x ≡ get_or xs (length xs - 1 - back) x → take (length xs - back) xs ≡ take (length xs - (back + 1)) xs ++ x ∷ []
taken_back xs back x less is =
    let upper : length xs - back ≡ length xs - 1 - back + 1 = omega (arith, less) in
    let lower : length xs - 1 - back ≡ length xs - (back + 1) = omega (arith, less) in
    let inside : length xs - 1 - back < length xs = omega (arith, less) in
    ap (λ (k : ℕ). take k xs) upper
    ∙ take_more xs (length xs - 1 - back) x inside
    ∙ ap (λ (y : Departure). take (length xs - 1 - back) xs ++ y ∷ []) (sym is)
    ∙ ap (λ (k : ℕ). take k xs ++ x ∷ []) lower

-- where the one behind is of the frame it is the newest
pub found_back : (frame : Frame) (xs : List Departure) (back : ℕ) (x : Departure) → back < length xs → x ≡ get_or xs (length xs - 1 - back) x → spec.last_of frame (take (length xs - back) xs) ≡ spec.last_of frame xs → spec.is_of frame x ≡ true → Some x ≡ spec.last_of frame xs
found_back frame xs back x less is so_far of =
    sym (ap (λ (b : Bool). if b then Some x else spec.last_of frame (take (length xs - (back + 1)) xs)) of)
    ∙ sym (last_behind frame x (take (length xs - (back + 1)) xs))
    ∙ ap (spec.last_of frame) (sym (taken_back xs back x less is))
    ∙ so_far

-- else it stands before it
pub passed_back : (frame : Frame) (xs : List Departure) (back : ℕ) (x : Departure) → back < length xs → x ≡ get_or xs (length xs - 1 - back) x → spec.last_of frame (take (length xs - back) xs) ≡ spec.last_of frame xs → spec.is_of frame x ≡ false → spec.last_of frame (take (length xs - (back + 1)) xs) ≡ spec.last_of frame xs
passed_back frame xs back x less is so_far other =
    sym (ap (λ (b : Bool). if b then Some x else spec.last_of frame (take (length xs - (back + 1)) xs)) other)
    ∙ sym (last_behind frame x (take (length xs - (back + 1)) xs))
    ∙ ap (spec.last_of frame) (sym (taken_back xs back x less is))
    ∙ so_far

-- the departures, the arrows and the arrivals without an origin with those of one entry more
pub flights_next : (entry : Entry) (J more : List Entry) (at : ℕ) (D : List Departure) (A all : List Arrow) (S others : List Stray) (after : List Departure) → more ≡ entry ∷ J → at ≡ row_after J
    → (D ≡ spec.departures J) × (A ≡ spec.arrows J) × (S ≡ spec.strays J)
    → all ≡ A ++ spec.arrow_of entry.space at entry.event entry.result D → others ≡ S ++ spec.stray_of entry.space at entry.event D
    → after ≡ spec.with_departures entry.space at 0 (frames_of (deed_in entry)) D → (after ≡ spec.departures more) × (all ≡ spec.arrows more) × (others ≡ spec.strays more)
flights_next entry J more at D A all S others after is place (given_are, arrows_are, strays_are) with_arrow with_stray with_given = rw (is, with_given, with_arrow, with_stray, place, given_are, arrows_are, strays_are) (refl, refl, refl)
