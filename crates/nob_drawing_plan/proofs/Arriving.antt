-- Each arrival has its arrow.
use Rattle.std.proofs.Common.{◌≡◌, ℕ, ◌+◌, ◌<◌, ◌⊎◌, inl, inr, Bool, true, false, cond, List, [], ◌∷◌, ◌++◌, Option, Some, None, refl, sym, ap, subst, ◌∙◌, arith}
use Prim.Native.Nat.{zero, suc}
use Rattle.std.specs.List.{Contains}
use Rattle.std.proofs.lemmas.List.Elements.{Contains-append_left, Contains-append_right, Contains-append_cases}
use Rattle.std.specs.Option.{option_or}
use Rattle.nob_frame.specs.declared.frame.Frame.{Frame}
use Rattle.nob_model_types.specs.declared.entry.Entry.{Entry}
use Rattle.nob_model_types.specs.declared.event.Event.{Event}
use Rattle.nob_model_types.specs.declared.event.Event.TheVariants.{Arrive}
use Rattle.nob_model_types.specs.Deeds.{deed_in}
use Rattle.nob_model_journal.specs.Journals.{frames_of, transmitted_frames}
use Rattle.nob_model_journal.specs.Runs.{ArrivesGiven}
use Rattle.nob_drawing_plan.specs.declared.flight.Departure.{Departure}
use Rattle.nob_drawing_plan.specs.declared.flight.Arrow.{Arrow}
use Rattle.nob_drawing_plan.specs.declared.flight.Stray.{Stray}
use Rattle.nob_drawing_plan.specs.Bars.{row_after}
use Rattle.nob_drawing_plan.specs.Flights.{same_frame, departure_of, with_departures, departures, last_of, takes_nothing, arrow_from, arrow_of, arrows, stray_from, stray_of, strays}
use Rattle.nob_drawing_plan.specs.Laws.{IsArrowOf, IsStrayOf, IsDrawn, AreGiven, HaveArrows, EachIsDrawn}
use Rattle.nob_drawing_plan.proofs.Frames.{frame_is, frame_self}

-- ---- lists

contains_none : {X : Type 0} (x : X) → Contains [] x → ⊥
contains_none x there = let none : there.0 < 0 = there.1 in omega (arith, none)

contains_here : {X : Type 0} (x y : X) (xs : List X) → y ≡ x → Contains (y ∷ xs) x
contains_here x y xs is = (zero, omega arith, is)

contains_there : {X : Type 0} (x y : X) (xs : List X) → Contains xs x → Contains (y ∷ xs) x
contains_there x y xs there = Contains-append_right (y ∷ []) xs x there

contains_lone : {X : Type 0} (x y : X) → Contains (y ∷ []) x → y ≡ x
contains_lone x y (zero, less, is) = is
contains_lone x y (suc k, less, is) = absurd (omega (arith, less))

-- ---- departures

-- a departure is of one of these frames, which space s gives at a row
abbrev IsNew : (s row : ℕ) → List Frame → Departure → Type 0
IsNew s row frames d = Contains frames d.frame × (d.space ≡ s) × (d.row ≡ row)

one_more : (s row place : ℕ) (frame : Frame) (frames : List Frame) (D : List Departure) (d : Departure) → Contains (departure_of s row place frame D ∷ []) d → IsNew s row (frame ∷ frames) d
one_more s row place frame frames D d there =
    subst (IsNew s row (frame ∷ frames)) (contains_lone d (departure_of s row place frame D) there) (contains_here frame frame frames refl, refl, refl)

more_given : (s row place : ℕ) (frames : List Frame) (D : List Departure) (d : Departure) → Contains (with_departures s row place frames D) d → Contains D d ⊎ IsNew s row frames d
more_given s row place [] D d there = inl there
more_given s row place (frame ∷ frames) D d there = by (more_given s row (place + 1) frames (D ++ new ∷ []) d there)
  where
    new : Departure
    new = departure_of s row place frame D

    old : Contains D d ⊎ Contains (new ∷ []) d → Contains D d ⊎ IsNew s row (frame ∷ frames) d
    old (inl before) = inl before
    old (inr lone) = inr (one_more s row place frame frames D d lone)

    by : Contains (D ++ new ∷ []) d ⊎ IsNew s row frames d → Contains D d ⊎ IsNew s row (frame ∷ frames) d
    by (inl before) = old (Contains-append_cases D (new ∷ []) d before)
    by (inr (one, space, place)) = inr (contains_there d.frame frame frames one, space, place)

kept : (s row place : ℕ) (frames : List Frame) (D : List Departure) (d : Departure) → Contains D d → Contains (with_departures s row place frames D) d
kept s row place [] D d there = there
kept s row place (frame ∷ frames) D d there = kept s row (place + 1) frames (D ++ departure_of s row place frame D ∷ []) d (Contains-append_left D (departure_of s row place frame D ∷ []) d there)

-- a departure of a frame
abbrev HasOf : List Departure → Frame → Type 0
HasOf D frame = (d : Departure) × Contains D d × (d.frame ≡ frame)

departed : (s row place : ℕ) (frames : List Frame) (D : List Departure) (frame : Frame) → Contains frames frame → HasOf (with_departures s row place frames D) frame
departed s row place [] D frame there = absurd (contains_none frame there)
departed s row place (first ∷ frames) D frame (zero, less, is) =
    let new = departure_of s row place first D in
    (new, kept s row (place + 1) frames (D ++ new ∷ []) new (Contains-append_right D (new ∷ []) new (contains_here new new [] refl)), is)
departed s row place (first ∷ frames) D frame (suc k, less, is) = departed s row (place + 1) frames (D ++ departure_of s row place first D ∷ []) frame (k, omega (arith, less), is)

was_departed : (J : List Entry) (frame : Frame) → Contains (transmitted_frames J) frame → HasOf (departures J) frame
was_departed [] frame there = absurd (contains_none frame there)
was_departed (entry ∷ J) frame there = by (was_departed J frame) (Contains-append_cases (transmitted_frames J) (frames_of (deed_in entry)) frame there)
  where
    by : (Contains (transmitted_frames J) frame → HasOf (departures J) frame) → Contains (transmitted_frames J) frame ⊎ Contains (frames_of (deed_in entry)) frame → HasOf (departures (entry ∷ J)) frame
    by rest (inl before) = let found = rest before in (found.0, kept entry.space (row_after J) 0 (frames_of (deed_in entry)) (departures J) found.0 found.1, found.2)
    by rest (inr own) = departed entry.space (row_after J) 0 (frames_of (deed_in entry)) (departures J) frame own

-- an entry of a journal gave the frame of a departure
pub record IsGiven (J : List Entry) (d : Departure) : Type 0 where
  pub later : List Entry
  pub giver : Entry
  pub earlier : List Entry
  pub journal_is : J ≡ later ++ giver ∷ earlier
  pub gives : Contains (frames_of (deed_in giver)) d.frame
  pub space_is : d.space ≡ giver.space
  pub row_is : d.row ≡ row_after earlier

later_given : (entry : Entry) (J : List Entry) (d : Departure) → IsGiven J d → IsGiven (entry ∷ J) d
later_given entry J d given = record {
  later = entry ∷ given.later;
  giver = given.giver;
  earlier = given.earlier;
  journal_is = ap (λ (L : List Entry). entry ∷ L) given.journal_is;
  gives = given.gives;
  space_is = given.space_is;
  row_is = given.row_is;
}

was_given : (J : List Entry) (d : Departure) → Contains (departures J) d → IsGiven J d
was_given [] d there = absurd (contains_none d there)
was_given (entry ∷ J) d there = by (was_given J d) (more_given entry.space (row_after J) 0 (frames_of (deed_in entry)) (departures J) d there)
  where
    by : (Contains (departures J) d → IsGiven J d) → Contains (departures J) d ⊎ IsNew entry.space (row_after J) (frames_of (deed_in entry)) d → IsGiven (entry ∷ J) d
    by rest (inl before) = later_given entry J d (rest before)
    by rest (inr (gives, space, row)) = record { later = []; giver = entry; earlier = J; journal_is = refl; gives = gives; space_is = space; row_is = row }

-- ---- the newest departure of a frame

is_found : (frame : Frame) (D : List Departure) (d : Departure) → Contains D d → d.frame ≡ frame → (e : Departure) × (last_of frame D ≡ Some e)
is_found frame [] d there is = absurd (contains_none d there)
is_found frame (x ∷ D) d (suc k, less, at) is =
    let found = is_found frame D d (k, omega (arith, less), at) is in
    (found.0, ap (λ (o : Option Departure). option_or o (cond (same_frame frame x.frame) (Some x) None)) found.1)
is_found frame (x ∷ D) d (zero, less, at) is = by (last_of frame D) refl
  where
    this : same_frame frame x.frame ≡ true
    this = subst (λ (f : Frame). same_frame frame f ≡ true) (sym (ap (λ (y : Departure). y.frame) at ∙ is)) (frame_self frame)

    by : (o : Option Departure) → last_of frame D ≡ o → (e : Departure) × (last_of frame (x ∷ D) ≡ Some e)
    by (Some e) was = (e, ap (λ (o : Option Departure). option_or o (cond (same_frame frame x.frame) (Some x) None)) was)
    by None was = (x, ap (λ (o : Option Departure). option_or o (cond (same_frame frame x.frame) (Some x) None)) was ∙ ap (λ (b : Bool). cond b (Some x) None) this)

-- what the last of a frame says
abbrev IsLast : Frame → List Departure → Departure → Type 0
IsLast frame D d = Contains D d × (d.frame ≡ frame)

last_is : (frame : Frame) (D : List Departure) (d : Departure) → last_of frame D ≡ Some d → IsLast frame D d
last_is frame [] d h = absurd cc
last_is frame (x ∷ D) d h = by (last_is frame D d) (last_of frame D) refl h
  where
    own : (b : Bool) → same_frame frame x.frame ≡ b → cond b (Some x) None ≡ Some d → IsLast frame (x ∷ D) d
    own true same h2 =
        let one : x ≡ d = cc in
        (contains_here d x D one, subst (λ (y : Departure). y.frame ≡ frame) one (sym (frame_is frame x.frame same)))
    own false other h2 = absurd cc

    by : (last_of frame D ≡ Some d → IsLast frame D d) → (o : Option Departure) → last_of frame D ≡ o → option_or o (cond (same_frame frame x.frame) (Some x) None) ≡ Some d → IsLast frame (x ∷ D) d
    by rest (Some e) was h2 = let found = rest (was ∙ h2) in (contains_there d x D found.0, found.1)
    by rest None was h2 = own (same_frame frame x.frame) refl h2

-- ---- arrows

-- an arrival has an arrow among these
abbrev HasArrow : List Arrow → Entry → Frame → List Entry → Type 0
HasArrow all arrival frame before = (arrow : Arrow) × Contains all arrow × IsArrowOf arrival frame before arrow

-- the newest departure of its frame gives an arrival its arrow
arrow_by : (before : List Entry) (arrival : Entry) (frame : Frame) (departure : Departure) → last_of frame (departures before) ≡ Some departure → arrival.event ≡ Arrive frame → HasArrow (arrows (arrival ∷ before)) arrival frame before
arrow_by before arrival frame departure found is = (arrow, there, right)
  where
    last : IsLast frame (departures before) departure
    last = last_is frame (departures before) departure found

    origin : IsGiven before departure
    origin = was_given before departure last.0

    arrow : Arrow
    arrow = record { departure = departure; to = arrival.space; row = row_after before; took_nothing = takes_nothing frame arrival.result }

    is_own : arrow_of arrival.space (row_after before) arrival.event arrival.result (departures before) ≡ arrow ∷ []
    is_own =
        ap (λ (e : Event). arrow_of arrival.space (row_after before) e arrival.result (departures before)) is
        ∙ ap (λ (o : Option Departure). arrow_from arrival.space (row_after before) (takes_nothing frame arrival.result) o) found

    there : Contains (arrows (arrival ∷ before)) arrow
    there = Contains-append_right (arrows before) (arrow_of arrival.space (row_after before) arrival.event arrival.result (departures before)) arrow
        (subst (λ (xs : List Arrow). Contains xs arrow) (sym is_own) (contains_here arrow arrow [] refl))

    right : IsArrowOf arrival frame before arrow
    right = record {
      ends_at = refl;
      ends_in = refl;
      frame_is = last.1;
      later = origin.later;
      giver = origin.giver;
      earlier = origin.earlier;
      before_is = origin.journal_is;
      gives = subst (Contains (frames_of (deed_in origin.giver))) last.1 origin.gives;
      begins_at = origin.space_is;
      begins_in = origin.row_is;
    }

arrow_here : (before : List Entry) (arrival : Entry) (frame : Frame) → ArrivesGiven arrival.event before → arrival.event ≡ Arrive frame → HasArrow (arrows (arrival ∷ before)) arrival frame before
arrow_here before arrival frame given is =
    let of : HasOf (departures before) frame = was_departed before frame (subst (λ (e : Event). ArrivesGiven e before) is given) in
    let found = is_found frame (departures before) of.0 of.1 of.2 in
    arrow_by before arrival frame found.0 found.1 is

arrow_at : (after before : List Entry) (arrival : Entry) (frame : Frame) → AreGiven (after ++ arrival ∷ before) → arrival.event ≡ Arrive frame → HasArrow (arrows (after ++ arrival ∷ before)) arrival frame before
arrow_at [] before arrival frame given is = arrow_here before arrival frame given.0 is
arrow_at (entry ∷ after) before arrival frame given is =
    let rest = arrow_at after before arrival frame given.1 is in
    let J = after ++ arrival ∷ before in
    (rest.0, Contains-append_left (arrows J) (arrow_of entry.space (row_after J) entry.event entry.result (departures J)) rest.0 rest.1, rest.2)

-- each arrival has its arrow, where each frame that arrives was given before
pub have_arrows : (J : List Entry) → AreGiven J → HaveArrows J
have_arrows J given after before arrival frame is arrives =
    subst (λ (L : List Entry). HasArrow (arrows L) arrival frame before) (sym is) (arrow_at after before arrival frame (subst AreGiven is given) arrives)

-- ---- arrivals without an origin

-- an arrival is marked as one without an origin among these
abbrev HasStray : List Stray → Entry → Frame → List Entry → Type 0
HasStray all arrival frame before = (stray : Stray) × Contains all stray × IsStrayOf arrival frame before stray

stray_by : (before : List Entry) (arrival : Entry) (frame : Frame) → last_of frame (departures before) ≡ None → arrival.event ≡ Arrive frame → HasStray (strays (arrival ∷ before)) arrival frame before
stray_by before arrival frame none is = (stray, there, right)
  where
    stray : Stray
    stray = record { frame = frame; to = arrival.space; row = row_after before }

    is_own : stray_of arrival.space (row_after before) arrival.event (departures before) ≡ stray ∷ []
    is_own =
        ap (λ (e : Event). stray_of arrival.space (row_after before) e (departures before)) is
        ∙ ap (λ (o : Option Departure). stray_from arrival.space (row_after before) frame o) none

    there : Contains (strays (arrival ∷ before)) stray
    there = Contains-append_right (strays before) (stray_of arrival.space (row_after before) arrival.event (departures before)) stray
        (subst (λ (xs : List Stray). Contains xs stray) (sym is_own) (contains_here stray stray [] refl))

    right : IsStrayOf arrival frame before stray
    right = record {
      ends_at = refl;
      ends_in = refl;
      frame_is = refl;
      not_given = λ given.
          let of = was_departed before frame given in
          let found = is_found frame (departures before) of.0 of.1 of.2 in
          let both : Some found.0 ≡ None = sym found.1 ∙ none in
          absurd cc;
    }

drawn_here : (before : List Entry) (arrival : Entry) (frame : Frame) → arrival.event ≡ Arrive frame → IsDrawn (arrival ∷ before) arrival frame before
drawn_here before arrival frame is = by (last_of frame (departures before)) refl
  where
    by : (o : Option Departure) → last_of frame (departures before) ≡ o → IsDrawn (arrival ∷ before) arrival frame before
    by (Some departure) found = inl (arrow_by before arrival frame departure found is)
    by None none = inr (stray_by before arrival frame none is)

drawn_at : (after before : List Entry) (arrival : Entry) (frame : Frame) → arrival.event ≡ Arrive frame → IsDrawn (after ++ arrival ∷ before) arrival frame before
drawn_at [] before arrival frame is = drawn_here before arrival frame is
drawn_at (entry ∷ after) before arrival frame is = by (drawn_at after before arrival frame is)
  where
    J : List Entry
    J = after ++ arrival ∷ before

    by : IsDrawn J arrival frame before → IsDrawn (entry ∷ J) arrival frame before
    by (inl rest) = inl (rest.0, Contains-append_left (arrows J) (arrow_of entry.space (row_after J) entry.event entry.result (departures J)) rest.0 rest.1, rest.2)
    by (inr rest) = inr (rest.0, Contains-append_left (strays J) (stray_of entry.space (row_after J) entry.event (departures J)) rest.0 rest.1, rest.2)

-- each arrival has its arrow, or is marked as one without an origin
pub are_drawn : EachIsDrawn
are_drawn J after before arrival frame is arrives = subst (λ (L : List Entry). IsDrawn L arrival frame before) (sym is) (drawn_at after before arrival frame arrives)
