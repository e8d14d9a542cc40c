-- Rows of frames: what stands in them when an item or a row comes, and where a frame stands.
use Rattle.std.proofs.Common.{◌≡◌, ℕ, zero, suc, ◌+◌, ◌-◌, ◌<◌, ◌≤◌, Bool, true, false, cond, List, [], ◌∷◌, ◌++◌, length, take, drop, get_or, Option, Some, None, refl, sym, ap, subst, ◌∙◌, append_assoc, arith}
use Rattle.std.specs.Prelude.{◌==◌, MatchOption}
use Rattle.std.specs.Borrow.{Bor}
use Rattle.std.specs.List.{slice_get}
use Rattle.std.proofs.lemmas.List.{append-nil, length-append, length-take, length-drop, take-append-le, drop-append-le}
use Rattle.nob_frame.specs.declared.frame.Frame.{Frame}
use Rattle.nob_frame.specs.declared.frame.FrameKind.TheVariants as kinds
use Rattle.nob_model_session.specs.Right.{data_frames}
use Rattle.nob_demo_scripts.specs.declared.batch.Batch.{Batch}
use Rattle.nob_demo_scripts.specs.declared.batch.Batch.TheVariants.{Run, Whole}
use Rattle.nob_demo_scripts.specs.declared.batch.Row.{Row}
use Rattle.nob_demo_scripts.specs.Log.{AreCounted, IsThere, all_frames, frames_in}

-- ---- one item more

items_more : (k c : ℕ) (xs : List (List ℕ)) (y : List ℕ) → k + c ≤ length xs → take c (drop k (xs ++ y ∷ [])) ≡ take c (drop k xs)
items_more k c xs y there =
    let fits : c ≤ length (drop k xs) = omega (arith, there, length-drop k xs) in
    ap (take c) (drop-append-le k xs (y ∷ []) (omega (arith, there))) ∙ take-append-le c (drop k xs) (y ∷ []) fits

first_taken : (b : Bool) (k c : ℕ) (f s : List (List ℕ)) (y : List ℕ) → k + c ≤ length (cond b f s) → take c (drop k (cond b (f ++ y ∷ []) s)) ≡ take c (drop k (cond b f s))
first_taken true k c f s y there = items_more k c f y there
first_taken false k c f s y there = refl

first_there : (b : Bool) (n : ℕ) (f s : List (List ℕ)) (y : List ℕ) → n ≤ length (cond b f s) → n ≤ length (cond b (f ++ y ∷ []) s)
first_there true n f s y there = omega (arith, there, length-append f (y ∷ []))
first_there false n f s y there = there

second_taken : (b : Bool) (k c : ℕ) (f s : List (List ℕ)) (y : List ℕ) → k + c ≤ length (cond b f s) → take c (drop k (cond b f (s ++ y ∷ []))) ≡ take c (drop k (cond b f s))
second_taken true k c f s y there = refl
second_taken false k c f s y there = items_more k c s y there

second_there : (b : Bool) (n : ℕ) (f s : List (List ℕ)) (y : List ℕ) → n ≤ length (cond b f s) → n ≤ length (cond b f (s ++ y ∷ []))
second_there true n f s y there = there
second_there false n f s y there = omega (arith, there, length-append s (y ∷ []))

first_batch : (f s : List (List ℕ)) (y : List ℕ) (b : Batch) → IsThere f s b → IsThere (f ++ y ∷ []) s b × (frames_in (f ++ y ∷ []) s b ≡ frames_in f s b)
first_batch f s y (Run run) there = (
  (there.0, first_there (run.from == 1) (run.first - 1 + run.count) f s y there.1),
  ap (data_frames run.from run.to run.session run.ack run.first) (first_taken (run.from == 1) (run.first - 1) run.count f s y there.1),
)
first_batch f s y (Whole frames) there = (tt, refl)

second_batch : (f s : List (List ℕ)) (y : List ℕ) (b : Batch) → IsThere f s b → IsThere f (s ++ y ∷ []) b × (frames_in f (s ++ y ∷ []) b ≡ frames_in f s b)
second_batch f s y (Run run) there = (
  (there.0, second_there (run.from == 1) (run.first - 1 + run.count) f s y there.1),
  ap (data_frames run.from run.to run.session run.ack run.first) (second_taken (run.from == 1) (run.first - 1) run.count f s y there.1),
)
second_batch f s y (Whole frames) there = (tt, refl)

-- an item of space 1 more changes no frame
pub first_more : (f s : List (List ℕ)) (y : List ℕ) (n : ℕ) (rows : List Row) → AreCounted f s n rows → AreCounted (f ++ y ∷ []) s n rows × (all_frames (f ++ y ∷ []) s rows ≡ all_frames f s rows)
first_more f s y n [] counted = (tt, refl)
first_more f s y n (row ∷ rows) counted =
    let here = first_batch f s y row.batch counted.1 in
    let rest = first_more f s y (n + length (frames_in f s row.batch)) rows counted.2 in (
      (counted.0, here.0, subst (λ (fs : List Frame). AreCounted (f ++ y ∷ []) s (n + length fs) rows) (sym here.1) rest.0),
      ap (λ (fs : List Frame). fs ++ all_frames (f ++ y ∷ []) s rows) here.1 ∙ ap (λ (fs : List Frame). frames_in f s row.batch ++ fs) rest.1,
    )

-- nor does one of space 2
pub second_more : (f s : List (List ℕ)) (y : List ℕ) (n : ℕ) (rows : List Row) → AreCounted f s n rows → AreCounted f (s ++ y ∷ []) n rows × (all_frames f (s ++ y ∷ []) rows ≡ all_frames f s rows)
second_more f s y n [] counted = (tt, refl)
second_more f s y n (row ∷ rows) counted =
    let here = second_batch f s y row.batch counted.1 in
    let rest = second_more f s y (n + length (frames_in f s row.batch)) rows counted.2 in (
      (counted.0, here.0, subst (λ (fs : List Frame). AreCounted f (s ++ y ∷ []) (n + length fs) rows) (sym here.1) rest.0),
      ap (λ (fs : List Frame). fs ++ all_frames f (s ++ y ∷ []) rows) here.1 ∙ ap (λ (fs : List Frame). frames_in f s row.batch ++ fs) rest.1,
    )

-- ---- rows one after the other

pub frames-append : (f s : List (List ℕ)) (xs ys : List Row) → all_frames f s (xs ++ ys) ≡ all_frames f s xs ++ all_frames f s ys
frames-append f s [] ys = refl
frames-append f s (row ∷ xs) ys = ap (λ (fs : List Frame). frames_in f s row.batch ++ fs) (frames-append f s xs ys) ∙ sym (append_assoc (frames_in f s row.batch) (all_frames f s xs) (all_frames f s ys))

-- rows and those behind them are counted where both are
pub counted-append : (f s : List (List ℕ)) (n : ℕ) (xs ys : List Row) → AreCounted f s n xs → AreCounted f s (n + length (all_frames f s xs)) ys → AreCounted f s n (xs ++ ys)
counted-append f s n [] ys front back = subst (λ (m : ℕ). AreCounted f s m ys) (omega arith) back
counted-append f s n (row ∷ xs) ys front back =
    let len : n + length (frames_in f s row.batch ++ all_frames f s xs) ≡ n + length (frames_in f s row.batch) + length (all_frames f s xs) = omega (arith, length-append (frames_in f s row.batch) (all_frames f s xs)) in
    (front.0, front.1, counted-append f s (n + length (frames_in f s row.batch)) xs ys front.2 (subst (λ (m : ℕ). AreCounted f s m ys) len back))

pub counted-split : (f s : List (List ℕ)) (n : ℕ) (xs ys : List Row) → AreCounted f s n (xs ++ ys) → AreCounted f s n xs × AreCounted f s (n + length (all_frames f s xs)) ys
counted-split f s n [] ys counted = (tt, subst (λ (m : ℕ). AreCounted f s m ys) (omega arith) counted)
counted-split f s n (row ∷ xs) ys counted =
    let rest = counted-split f s (n + length (frames_in f s row.batch)) xs ys counted.2 in
    let len : n + length (frames_in f s row.batch) + length (all_frames f s xs) ≡ n + length (frames_in f s row.batch ++ all_frames f s xs) = omega (arith, length-append (frames_in f s row.batch) (all_frames f s xs)) in
    ((counted.0, counted.1, rest.0), subst (λ (m : ℕ). AreCounted f s m ys) len rest.1)

-- a row more: its frames come behind the others
pub row_more : (f s : List (List ℕ)) (rows : List Row) (row : Row) (frames : List Frame) → AreCounted f s 0 rows → row.before ≡ length (all_frames f s rows) → IsThere f s row.batch → frames_in f s row.batch ≡ frames
    → AreCounted f s 0 (rows ++ row ∷ []) × (all_frames f s (rows ++ row ∷ []) ≡ all_frames f s rows ++ frames)
row_more f s rows row frames counted before there are = (
  counted-append f s 0 rows (row ∷ []) counted (omega (arith, before), there, tt),
  frames-append f s rows (row ∷ []) ∙ ap (λ (fs : List Frame). all_frames f s rows ++ fs) (append-nil (frames_in f s row.batch) ∙ are),
)

-- two rows more, the first of one frame: the frames of both come behind the others
pub rows_more : (f s : List (List ℕ)) (rows : List Row) (n : ℕ) (one two : Batch) (frames : List Frame) → AreCounted f s 0 rows → n ≡ length (all_frames f s rows) → IsThere f s one → IsThere f s two → length (frames_in f s one) ≡ 1 → frames ≡ frames_in f s one ++ frames_in f s two
    → AreCounted f s 0 ((rows ++ record { before = n; batch = one } ∷ []) ++ record { before = n + 1; batch = two } ∷ []) × (all_frames f s ((rows ++ record { before = n; batch = one } ∷ []) ++ record { before = n + 1; batch = two } ∷ []) ≡ all_frames f s rows ++ frames)
rows_more f s rows n one two frames counted before one_there two_there single are =
    let first = row_more f s rows (record { before = n; batch = one }) (frames_in f s one) counted before one_there refl in
    let longer : n + 1 ≡ length (all_frames f s (rows ++ record { before = n; batch = one } ∷ [])) = omega (arith, before, single, ap length first.1, length-append (all_frames f s rows) (frames_in f s one)) in
    let second = row_more f s (rows ++ record { before = n; batch = one } ∷ []) (record { before = n + 1; batch = two }) (frames_in f s two) first.0 longer two_there refl in
    (second.0, second.1 ∙ ap (λ (fs : List Frame). fs ++ frames_in f s two) first.1 ∙ append_assoc (all_frames f s rows) (frames_in f s one) (frames_in f s two) ∙ ap (λ (fs : List Frame). all_frames f s rows ++ fs) (sym are))

-- ---- places

pub get-front : {X : Type 0} (xs ys : List X) (i : ℕ) → i < length xs → slice_get (xs ++ ys) i ≡ slice_get xs i
get-front [] ys i less = absurd (omega (arith, less))
get-front (x ∷ xs) ys zero less = refl
get-front (x ∷ xs) ys (suc i) less = get-front xs ys i (omega (arith, less))

pub get-back : {X : Type 0} (xs ys : List X) (i j : ℕ) → j ≡ length xs + i → slice_get (xs ++ ys) j ≡ slice_get ys i
get-back [] ys i j e = let same : j ≡ i = omega (arith, e) in ap (λ (m : ℕ). slice_get ys m) same
get-back (x ∷ xs) ys i zero e = absurd (omega (arith, e))
get-back (x ∷ xs) ys i (suc j) e = get-back xs ys i j (omega (arith, e))

pub length_data : (me peer session ack n : ℕ) (xs : List (List ℕ)) → length (data_frames me peer session ack n xs) ≡ length xs
length_data me peer session ack n [] = refl
length_data me peer session ack n (x ∷ xs) = ap suc (length_data me peer session ack (n + 1) xs)

-- the frame at a place of Data frames
pub data_at : (me peer session ack n : ℕ) (xs : List (List ℕ)) (k : ℕ) (x : List ℕ) → slice_get xs k ≡ Some x → slice_get (data_frames me peer session ack n xs) k ≡ Some (record { kind = kinds.Data; from = me; to = peer; session = session; seq = n + k; ack = ack; payload = x })
data_at me peer session ack n [] k x e = absurd cc
data_at me peer session ack n (y ∷ xs) zero x e =
    let same : y ≡ x = cc in
    let seq : n ≡ n + 0 = omega arith in
    ap (λ (p : List ℕ). Some (record { kind = kinds.Data; from = me; to = peer; session = session; seq = n; ack = ack; payload = p })) same ∙ ap (λ (m : ℕ). Some (record { kind = kinds.Data; from = me; to = peer; session = session; seq = m; ack = ack; payload = x })) seq
data_at me peer session ack n (y ∷ xs) (suc k) x e =
    let seq : n + 1 + k ≡ n + suc k = omega arith in
    data_at me peer session ack (n + 1) xs k x e ∙ ap (λ (m : ℕ). Some (record { kind = kinds.Data; from = me; to = peer; session = session; seq = m; ack = ack; payload = x })) seq

pub get-past : {X : Type 0} (xs : List X) (i : ℕ) → length xs ≤ i → slice_get xs i ≡ None
get-past [] i le = refl
get-past (x ∷ xs) zero le = absurd (omega (arith, le))
get-past (x ∷ xs) (suc i) le = get-past xs i (omega (arith, le))

pub get-drop : {X : Type 0} (d : ℕ) (xs : List X) (i : ℕ) → slice_get (drop d xs) i ≡ slice_get xs (d + i)
get-drop zero xs i = let e : i ≡ 0 + i = omega arith in ap (λ (m : ℕ). slice_get xs m) e
get-drop (suc d) [] i = refl
get-drop (suc d) (x ∷ xs) i = let e : suc (d + i) ≡ suc d + i = omega arith in get-drop d xs i ∙ ap (λ (m : ℕ). slice_get (x ∷ xs) m) e

pub get-take : {X : Type 0} (c : ℕ) (xs : List X) (i : ℕ) → i < c → slice_get (take c xs) i ≡ slice_get xs i
get-take zero xs i less = absurd (omega (arith, less))
get-take (suc c) [] i less = refl
get-take (suc c) (x ∷ xs) zero less = refl
get-take (suc c) (x ∷ xs) (suc i) less = get-take c xs i (omega (arith, less))

-- the frame at a place of a run of these items
pub run_at : (me peer session ack n c : ℕ) (items : List (List ℕ)) (k i : ℕ) (x : List ℕ) → 1 ≤ n → k < c → i ≡ n - 1 + k → slice_get items i ≡ Some x
    → slice_get (data_frames me peer session ack n (take c (drop (n - 1) items))) k ≡ Some (record { kind = kinds.Data; from = me; to = peer; session = session; seq = i + 1; ack = ack; payload = x })
run_at me peer session ack n c items k i x low less is at =
    let item : slice_get (take c (drop (n - 1) items)) k ≡ Some x = get-take c (drop (n - 1) items) k less ∙ get-drop (n - 1) items k ∙ ap (slice_get items) (sym is) ∙ at in
    let seq : n + k ≡ i + 1 = omega (arith, is, low) in
    data_at me peer session ack n (take c (drop (n - 1) items)) k x item ∙ ap (λ (m : ℕ). Some (record { kind = kinds.Data; from = me; to = peer; session = session; seq = m; ack = ack; payload = x })) seq

-- no frame stands behind a run
pub run_past : (me peer session ack n c : ℕ) (xs : List (List ℕ)) (k : ℕ) → c ≤ k → slice_get (data_frames me peer session ack n (take c xs)) k ≡ None
run_past me peer session ack n c xs k le = get-past (data_frames me peer session ack n (take c xs)) k (omega (arith, le, length_data me peer session ack n (take c xs), length-take c xs))

-- ---- the row of a frame

-- the row that is found is one before which fewer frames stand, and the frame stands in it as among all
abbrev pub FoundIn : (f s : List (List ℕ)) (n number : ℕ) → List Row → Row → Type 0
FoundIn f s n number rows row = (row.before < number) × IsThere f s row.batch × (slice_get (all_frames f s rows) (number - n - 1) ≡ slice_get (frames_in f s row.batch) (number - row.before - 1))

head_before : (f s : List (List ℕ)) (m : ℕ) (rows : List Row) (d : Row) → AreCounted f s m rows → 0 < length rows → (get_or rows 0 d).before ≡ m
head_before f s m [] d counted some = absurd (omega (arith, some))
head_before f s m (row ∷ rows) d counted some = counted.0

weaker : {A P S : Type 0} (r : Option A) (Q R : A → Type 0) → MatchOption r P Q → (P → S) → ((a : A) → Q a → R a) → MatchOption r S R
weaker None Q R h none some = none h
weaker (Some a) Q R h none some = some a h

pub found_front : (f s : List (List ℕ)) (n number : ℕ) (front back : List Row) (d : Row) (r : Option (Bor Row)) (rows : List Row) → rows ≡ front ++ back → 0 < length front → 0 < length back
    → AreCounted f s n rows → n < number → number ≤ (get_or back 0 d).before
    → (AreCounted f s n front → n < number → MatchOption r (front ≡ []) (λ row. FoundIn f s n number front row.now)) → MatchOption r (rows ≡ []) (λ row. FoundIn f s n number rows row.now)
found_front f s n number front back d r rows split some more counted low here found =
    let parts = counted-split f s n front back (subst (AreCounted f s n) split counted) in
    let bound : number ≤ n + length (all_frames f s front) = omega (arith, here, head_before f s (n + length (all_frames f s front)) back d parts.1 more) in
    weaker r (λ row. FoundIn f s n number front row.now) (λ row. FoundIn f s n number rows row.now) (found parts.0 low) (λ e. let none : length front ≡ 0 = ap length e in absurd (omega (arith, none, some)))
    (λ row h. (
      h.0,
      h.1,
      ap (λ (xs : List Row). slice_get (all_frames f s xs) (number - n - 1)) split ∙ ap (λ (fs : List Frame). slice_get fs (number - n - 1)) (frames-append f s front back)
          ∙ get-front (all_frames f s front) (all_frames f s back) (number - n - 1) (omega (arith, low, bound)) ∙ h.2,
    ))

pub found_back : (f s : List (List ℕ)) (n number : ℕ) (front back : List Row) (d : Row) (r : Option (Bor Row)) (rows : List Row) → rows ≡ front ++ back → 0 < length back
    → AreCounted f s n rows → (get_or back 0 d).before < number
    → ((m : ℕ) → AreCounted f s m back → m < number → MatchOption r (back ≡ []) (λ row. FoundIn f s m number back row.now)) → MatchOption r (rows ≡ []) (λ row. FoundIn f s n number rows row.now)
found_back f s n number front back d r rows split more counted here found =
    let parts = counted-split f s n front back (subst (AreCounted f s n) split counted) in
    let m = n + length (all_frames f s front) in
    let low : m < number = omega (arith, here, head_before f s m back d parts.1 more) in
    weaker r (λ row. FoundIn f s m number back row.now) (λ row. FoundIn f s n number rows row.now) (found m parts.1 low) (λ e. let none : length back ≡ 0 = ap length e in absurd (omega (arith, none, more)))
    (λ row h. (
      h.0,
      h.1,
      ap (λ (xs : List Row). slice_get (all_frames f s xs) (number - n - 1)) split ∙ ap (λ (fs : List Frame). slice_get fs (number - n - 1)) (frames-append f s front back)
          ∙ get-back (all_frames f s front) (all_frames f s back) (number - m - 1) (number - n - 1) (omega (arith, low)) ∙ h.2,
    ))
