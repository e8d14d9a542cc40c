-- Both ends of a frame that is part of a choice are part of it, and so are the rows at which the bars of a life begin and end.
use Rattle.std.proofs.Common.{◌≡◌, ◌∙◌, ℕ, ◌<◌, Bool, true, false, cond, ◌||◌, List, [], ◌∷◌, ◌++◌, flat_map, Result, Ok, refl, sym, ap, subst, arith, true≢false}
use Prim.Native.Nat.{zero, suc}
use Rattle.std.specs.List.{list_any, Contains}
use Rattle.nob_frame.specs.declared.frame.Frame.{Frame}
use Rattle.nob_model_types.specs.declared.event.Event.{Event}
use Rattle.nob_model_types.specs.declared.event.Event.TheVariants.{Arrive}
use Rattle.nob_model_types.specs.declared.answer.Answer.{Answer}
use Rattle.nob_model_types.specs.declared.answer.Answer.TheVariants.{Frames}
use Rattle.nob_model_types.specs.declared.refusal.Refusal.{Refusal}
use Rattle.nob_model_types.specs.declared.entry.Entry.{Entry}
use Rattle.nob_drawing_plan.specs.declared.bar.Bar.{Bar}
use Rattle.nob_drawing_choice.specs.declared.choice.Choice.{Choice}
use Rattle.nob_drawing_choice.specs.Naming.{names_of_frame, names_of_event, names_of_result, names_in}
use Rattle.nob_drawing_choice.specs.Lives.{subject_of, turns_at, turned_by, lives_at}
use Rattle.nob_drawing_choice.specs.Choices.{is_subject, is_in_life, is_with, brings, gives}
use Rattle.nob_drawing_choice.specs.Laws.{IsOfChoice, IsIn, BothEndsAreIn, TurnsAreIn, LifeIsOfRows}

-- ---- tests

or_left : (a b : Bool) → a ≡ true → (a || b) ≡ true
or_left true b e = refl
or_left false b e = absurd (true≢false (sym e))

or_right : (a b : Bool) → b ≡ true → (a || b) ≡ true
or_right true b e = refl
or_right false b e = e

any_left : {X : Type 0} (p : X → Bool) (xs ys : List X) → list_any p xs ≡ true → list_any p (xs ++ ys) ≡ true
any_left p [] ys e = absurd (true≢false (sym e))
any_left p (x ∷ xs) ys e = by (p x) (any_left p xs ys) e
  where
    by : (b : Bool) → (list_any p xs ≡ true → list_any p (xs ++ ys) ≡ true) → (b || list_any p xs) ≡ true → (b || list_any p (xs ++ ys)) ≡ true
    by true rest e = refl
    by false rest e = rest e

any_right : {X : Type 0} (p : X → Bool) (xs ys : List X) → list_any p ys ≡ true → list_any p (xs ++ ys) ≡ true
any_right p [] ys e = e
any_right p (x ∷ xs) ys e = or_right (p x) _ (any_right p xs ys e)

any_of : {X : Type 0} (p : X → Bool) (xs : List X) (x : X) → Contains xs x → p x ≡ true → list_any p xs ≡ true
any_of p [] x there e = let none : there.0 < 0 = there.1 in absurd (omega arith)
any_of p (y ∷ xs) x (zero, less, is) e = or_left (p y) _ (ap p is ∙ e)
any_of p (y ∷ xs) x (suc k, less, is) e = or_right (p y) _ (any_of p xs x (k, omega (arith, less), is) e)

any_flat : {X Y : Type 0} (p : Y → Bool) (f : X → List Y) (xs : List X) (x : X) → Contains xs x → list_any p (f x) ≡ true → list_any p (flat_map f xs) ≡ true
any_flat p f [] x there e = let none : there.0 < 0 = there.1 in absurd (omega arith)
any_flat p f (y ∷ xs) x (zero, less, is) e = any_left p (f y) (flat_map f xs) (ap (λ y. list_any p (f y)) is ∙ e)
any_flat p f (y ∷ xs) x (suc k, less, is) e = any_right p (f y) (flat_map f xs) (any_flat p f xs x (k, omega (arith, less), is) e)

-- ---- the laws

-- the names of an entry are among those of its row
named_in : (choice : Choice) (bars : List Bar) (row : ℕ) (entry : Entry) → list_any (is_subject choice) (names_in entry) ≡ true → is_in_life choice (lives_at bars row entry) ≡ true
named_in choice bars row entry e = any_left (is_subject choice) (names_in entry) (flat_map (turned_by row) bars) e

-- and so are the references of the bars that begin or end there
turned_in : (choice : Choice) (bar : Bar) (row : ℕ) → is_subject choice (subject_of bar.mark) ≡ true → turns_at row bar ≡ true → list_any (is_subject choice) (turned_by row bar) ≡ true
turned_in choice bar row own turns = ap (λ (here : Bool). list_any (is_subject choice) (cond here (subject_of bar.mark ∷ []) [])) turns ∙ or_left _ _ own

pub turns_are_in : TurnsAreIn
turns_are_in choice bars bar row entry there own turns =
    any_right (is_subject choice) (names_in entry) (flat_map (turned_by row) bars)
    (any_flat (is_subject choice) (turned_by row) bars bar there (turned_in choice bar row own turns))

arrives_in : (choice : Choice) (bars : List Bar) (row : ℕ) (entry : Entry) (frame : Frame) → IsOfChoice choice frame → entry.event ≡ Arrive frame → IsIn choice bars row entry
arrives_in choice bars row entry frame of is = record {
  life = named_in choice bars row entry (any_left (is_subject choice) (names_of_event entry.space entry.event) (names_of_result entry.space entry.result)
      (subst (λ (event : Event). list_any (is_subject choice) (names_of_event entry.space event) ≡ true) (sym is) of.named));
  part = or_right _ _ (or_left _ _ (subst (λ (event : Event). brings choice event ≡ true) (sym is) of.goes));
}

given_in : (choice : Choice) (bars : List Bar) (row : ℕ) (entry : Entry) (frame : Frame) (frames : List Frame) → IsOfChoice choice frame → entry.result ≡ Ok (Frames frames) → Contains frames frame → IsIn choice bars row entry
given_in choice bars row entry frame frames of is there = record {
  life = named_in choice bars row entry (any_right (is_subject choice) (names_of_event entry.space entry.event) (names_of_result entry.space entry.result)
      (subst (λ (result : Result Answer Refusal). list_any (is_subject choice) (names_of_result entry.space result) ≡ true) (sym is)
      (any_flat (is_subject choice) names_of_frame frames frame there of.named)));
  part = or_right _ _ (or_right _ _ (subst (λ (result : Result Answer Refusal). gives choice result ≡ true) (sym is) (any_of (is_with choice) frames frame there of.goes)));
}

pub both_ends_are_in : BothEndsAreIn
both_ends_are_in = record { arrives = arrives_in; given = given_in }

pub life_is_of_rows : LifeIsOfRows
life_is_of_rows owner index lives row entry = refl
