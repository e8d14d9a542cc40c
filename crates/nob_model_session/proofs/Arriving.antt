-- What arrivals bring, keep and accept: how the words of a list change with one call more, and what holds of what was accepted.
use Rattle.std.proofs.Common.{◌≡◌, ℕ, zero, suc, ◌+◌, ◌-◌, ◌<◌, ◌≤◌, Bool, true, false, not, cond, nat_lt, ◌&&◌, ◌||◌, ◌==◌, List, [], ◌∷◌, ◌++◌, length, take, drop, Option, Some, None, Ok, Err, IsSome, if◌then◌else◌, refl, sym, ap, subst, ◌∙◌, arith}
use Rattle.std.specs.List.{slice_get}
use Rattle.std.specs.Option.{option_or}
use Rattle.std.proofs.lemmas.Bool.Decides.{nat_tests}
use Rattle.std.proofs.lemmas.List.{length-append}
use Rattle.nob_ids.specs.declared.limits.Limits.{Limits}
use Rattle.nob_ids.specs.declared.reason.Reason.TheVariants as reason
use Rattle.nob_frame.specs.declared.frame.Frame.{Frame}
use Rattle.nob_frame.specs.Kinds.{is_data, is_close}
use Rattle.nob_model_session.specs.declared.refusal.EndRefusal.TheVariants as refusal
use Rattle.nob_model_session.specs.declared.entry.Ending.{Ending}
use Rattle.nob_model_session.specs.declared.entry.Arrived.TheVariants as arrived
use Rattle.nob_model_session.specs.declared.entry.EndEntry.{EndEntry}
use Rattle.nob_model_session.specs.declared.entry.EndEntry.TheVariants.{Arrive, Reopen}
use Rattle.nob_model_session.specs.End.{number, is_present, is_open, last_item, reach, accepted_count, brings_at, payload, places, filled, accepted, early, waiting, transmitted}
use Rattle.nob_model_session.specs.Right.{inbox_limit, in_a_row, taken_by, is_of_pair, right_arrive, IsRight}
use Rattle.nob_model_session.specs.Accepting.{AcceptsWhatCame, AllCame}

-- ---- the payload of a number

or_some : (x y : Option (List ℕ)) (p : List ℕ) → x ≡ Some p → option_or x y ≡ Some p
or_some x y p e = ap (λ (z : Option (List ℕ)). option_or z y) e

-- what came of a number stays when a frame is taken
pub payload_stays : (n : ℕ) (frame : Frame) (k : ℕ) (L : List EndEntry) (p : List ℕ) → payload n L ≡ Some p → payload n (Arrive frame (Ok (arrived.Took k)) ∷ L) ≡ Some p
payload_stays n frame k L p h = or_some (payload n L) (if is_present frame L && brings_at n frame (accepted_count L) then Some frame.payload else None) p h

both_false : (b c : Bool) → c ≡ false → b && c ≡ false
both_false true c e = e
both_false false c e = refl

-- a frame makes no fewer items accepted
more_count : (b : Bool) (k m : ℕ) → m ≤ (if b then k + m else m)
more_count true k m = omega arith
more_count false k m = omega arith

-- nothing is brought beyond the reach
far_brings : (n : ℕ) (frame : Frame) (count : ℕ) → count + reach < n → brings_at n frame count ≡ false
far_brings n frame count far = grind (arith, nat_tests, far)

-- nothing is brought above the greatest number of an item
last_brings : (n : ℕ) (frame : Frame) (count : ℕ) → last_item < n → brings_at n frame count ≡ false
last_brings n frame count high = grind (arith, nat_tests, high)

none_brought : (x : Option (List ℕ)) (brings : Bool) (p : List ℕ) → x ≡ None → brings ≡ false → option_or x (if brings then Some p else None) ≡ None
none_brought None false p e none = refl
none_brought None true p e none = absurd cc
none_brought (Some y) brings p e none = absurd cc

-- nothing came beyond the reach
pub payload_beyond : (n : ℕ) (L : List EndEntry) → accepted_count L + reach < n → payload n L ≡ None
payload_beyond n [] far = refl
payload_beyond n (Arrive frame (Ok (arrived.Took k)) ∷ L) far =
    let before : accepted_count L + reach < n = omega (arith, far, more_count (is_present frame L) k (accepted_count L)) in
    none_brought (payload n L) (is_present frame L && brings_at n frame (accepted_count L)) frame.payload (payload_beyond n L before) (both_false (is_present frame L) _ (far_brings n frame (accepted_count L) before))
payload_beyond n (Reopen k (Ok done) ∷ L) far = refl
payload_beyond n (_ ∷ L) far = payload_beyond n L far

-- nothing came above the greatest number of an item
pub payload_last : (n : ℕ) (L : List EndEntry) → last_item < n → payload n L ≡ None
payload_last n [] high = refl
payload_last n (Arrive frame (Ok (arrived.Took k)) ∷ L) high =
    none_brought (payload n L) (is_present frame L && brings_at n frame (accepted_count L)) frame.payload (payload_last n L high) (both_false (is_present frame L) _ (last_brings n frame (accepted_count L) high))
payload_last n (Reopen k (Ok done) ∷ L) high = refl
payload_last n (_ ∷ L) high = payload_last n L high

-- ---- places

-- so many places
pub places_length : (n count : ℕ) (L : List EndEntry) → length (places n count L) ≡ count
unfolding places
places_length n zero L = refl
places_length n (suc count) L = ap suc (places_length (n + 1) count L)

-- what stands in a place is what came of its number
pub places_at : (n count i : ℕ) (L : List EndEntry) → i < count → slice_get (places n count L) i ≡ Some (payload (n + i) L)
unfolding places
places_at n zero i L within = absurd (omega arith)
places_at n (suc count) zero L within = ap (λ (m : ℕ). Some (payload m L)) (omega arith)
places_at n (suc count) (suc i) L within =
    places_at (n + 1) count i L (omega (arith, within)) ∙ ap (λ (m : ℕ). Some (payload m L)) (omega arith)

-- the places behind the first so many
pub places_drop : (n count k : ℕ) (L : List EndEntry) → drop k (places n count L) ≡ places (n + k) (count - k) L
unfolding places
places_drop n zero zero L = refl
places_drop n zero (suc k) L = let none : 0 - suc k ≡ 0 = omega arith in ap (λ (m : ℕ). places (n + suc k) m L) (sym none)
places_drop n (suc count) zero L =
    let same : n ≡ n + 0 = omega arith in
    let all : suc count ≡ suc count - 0 = omega arith in
    ap (λ (m : ℕ). places m (suc count) L) same ∙ ap (λ (m : ℕ). places (n + 0) m L) all
places_drop n (suc count) (suc k) L =
    let same : suc count - suc k ≡ count - k = omega arith in
    places_drop (n + 1) count k L ∙ ap (λ (m : ℕ). places m (count - k) L) (omega arith) ∙ ap (λ (m : ℕ). places (n + suc k) m L) (sym same)

-- the first so many places
pub places_take : (n count k : ℕ) (L : List EndEntry) → k ≤ count → take k (places n count L) ≡ places n k L
unfolding places
places_take n count zero L few = refl
places_take n zero (suc k) L few = absurd (omega arith)
places_take n (suc count) (suc k) L few = ap (λ (ps : List (Option (List ℕ))). payload n L ∷ ps) (places_take (n + 1) count k L (omega (arith, few)))

-- more places are those places and then more
pub places_append : (n count more : ℕ) (L : List EndEntry) → places n (count + more) L ≡ places n count L ++ places (n + count) more L
unfolding places
places_append n zero more L =
    let none : 0 + more ≡ more = omega arith in
    let same : n ≡ n + 0 = omega arith in
    ap (λ (m : ℕ). places n m L) none ∙ ap (λ (m : ℕ). places m more L) same
places_append n (suc count) more L =
    let longer : suc count + more ≡ suc (count + more) = omega arith in
    ap (λ (m : ℕ). places n m L) longer
    ∙ ap (λ (ps : List (Option (List ℕ))). payload n L ∷ ps) (places_append (n + 1) count more L ∙ ap (λ (m : ℕ). places (n + 1) count L ++ places m more L) (omega arith))

-- ---- places that are filled in a row

-- no more than are asked for
pub row_most : {A : Type 0} (most : ℕ) (ps : List (Option A)) → in_a_row most ps ≤ most
row_most zero ps = omega arith
row_most (suc most) [] = omega arith
row_most (suc most) (None ∷ ps) = omega arith
row_most (suc most) (Some x ∷ ps) = let few = row_most most ps in omega (arith, few)

-- no more than there are places
pub row_length : {A : Type 0} (most : ℕ) (ps : List (Option A)) → in_a_row most ps ≤ length ps
row_length zero ps = omega arith
row_length (suc most) [] = omega arith
row_length (suc most) (None ∷ ps) = omega arith
row_length (suc most) (Some x ∷ ps) = let few = row_length most ps in omega (arith, few)

-- each of them is filled
pub row_filled : {A : Type 0} (most : ℕ) (ps : List (Option A)) (i : ℕ) → i < in_a_row most ps → (x : A) × (slice_get ps i ≡ Some (Some x))
row_filled zero ps i within = absurd (omega arith)
row_filled (suc most) [] i within = absurd (omega arith)
row_filled (suc most) (None ∷ ps) i within = absurd (omega arith)
row_filled (suc most) (Some x ∷ ps) zero within = (x, refl)
row_filled (suc most) (Some x ∷ ps) (suc i) within = row_filled most ps i (omega (arith, within))

-- a payload came for each of so many numbers from n on
abbrev pub CameFrom : (n count : ℕ) → List EndEntry → Type 0
CameFrom n count L = (i : ℕ) → i < count → IsSome (payload (n + i) L)

came_later : (n count : ℕ) (L : List EndEntry) → CameFrom n (suc count) L → CameFrom (n + 1) count L
came_later n count L came i within = subst (λ (m : ℕ). IsSome (payload m L)) (omega arith) (came (suc i) (omega (arith, within)))

came_first : (n count : ℕ) (L : List EndEntry) → CameFrom n (suc count) L → IsSome (payload n L)
came_first n count L came = subst (λ (m : ℕ). IsSome (payload m L)) (omega arith) (came 0 (omega arith))

-- where each came, as many stand there
pub filled_length : (n count : ℕ) (L : List EndEntry) → CameFrom n count L → length (filled (places n count L)) ≡ count
unfolding places
filled_length n zero L came = refl
filled_length n (suc count) L came =
    elim (payload n L) as (λ o. IsSome o → length (filled (o ∷ places (n + 1) count L)) ≡ suc count)
    [ None ↦ λ some. absurd cc | Some p ↦ λ some. ap suc (filled_length (n + 1) count L (came_later n count L came)) ] (came_first n count L came)

-- and each in its place
pub filled_at : (n count i : ℕ) (L : List EndEntry) → CameFrom n count L → i < count → slice_get (filled (places n count L)) i ≡ payload (n + i) L
unfolding places
filled_at n zero i L came within = absurd (omega arith)
filled_at n (suc count) zero L came within =
    elim (payload n L) as (λ o. IsSome o → slice_get (filled (o ∷ places (n + 1) count L)) 0 ≡ o)
    [ None ↦ λ some. absurd cc | Some p ↦ λ some. refl ] (came_first n count L came) ∙ ap (λ (m : ℕ). payload m L) (omega arith)
filled_at n (suc count) (suc i) L came within =
    elim (payload n L) as (λ o. IsSome o → slice_get (filled (o ∷ places (n + 1) count L)) (suc i) ≡ payload (n + suc i) L) [
      | None ↦ λ some. absurd cc
      | Some p ↦ λ some. filled_at (n + 1) count i L (came_later n count L came) (omega (arith, within)) ∙ ap (λ (m : ℕ). payload m L) (omega arith)
    ] (came_first n count L came)

-- ---- what an arrival answers

-- that an arrival took so many items: of its pair and of the present session, at the open end, no Close, its acknowledgement in order, and as many as it makes the end accept
pub record Took (me peer : ℕ) (frame : Frame) (k : ℕ) (L : List EndEntry) : Type 0 where
  pub pair : is_of_pair me peer frame ≡ true
  pub present : is_present frame L ≡ true
  pub open_end : is_open L ≡ true
  pub no_close : is_close frame.kind ≡ false
  pub ack : nat_lt (transmitted L + 1) frame.ack ≡ false
  pub count : k ≡ taken_by frame L
  pub is_item : is_data frame.kind ≡ true

took_by : (x y : Ending) (strange older closed newer close bad data_frame : Bool) (found k : ℕ)
    → Ok (arrived.Took (suc k)) ≡ cond strange (Err refusal.Strange) (Ok (cond older (arrived.Took 0) (cond closed (arrived.Took 0) (cond (newer || close) (arrived.Closed x) (cond bad (arrived.Closed y) (arrived.Took (cond data_frame found 0)))))))
    → (strange ≡ false) × (older ≡ false) × (closed ≡ false) × (newer ≡ false) × (close ≡ false) × (bad ≡ false) × (suc k ≡ cond data_frame found 0) × (data_frame ≡ true)
took_by x y true older closed newer close bad data_frame found k e = absurd cc
took_by x y false true closed newer close bad data_frame found k e = let none : suc k ≡ 0 = cc in absurd (omega arith)
took_by x y false false true newer close bad data_frame found k e = let none : suc k ≡ 0 = cc in absurd (omega arith)
took_by x y false false false true close bad data_frame found k e = absurd cc
took_by x y false false false false true bad data_frame found k e = absurd cc
took_by x y false false false false false true data_frame found k e = absurd cc
took_by x y false false false false false false true found k e = (refl, refl, refl, refl, refl, refl, cc, refl)
took_by x y false false false false false false false found k e = let none : suc k ≡ 0 = cc in absurd (omega arith)

not_false : (b : Bool) → not b ≡ false → b ≡ true
not_false true e = refl
not_false false e = absurd cc

neither : (m n : ℕ) → nat_lt m n ≡ false → nat_lt n m ≡ false → (m == n) ≡ true
neither m n low high = grind (arith, nat_tests, low, high)

pub took_is : (me peer : ℕ) (frame : Frame) (L : List EndEntry) (k : ℕ) → Ok (arrived.Took (suc k)) ≡ right_arrive me peer frame L → Took me peer frame (suc k) L
took_is me peer frame L k e =
    let parts = took_by (record { peer = peer; reason = reason.PeerClosed }) (record { peer = peer; reason = reason.BadItem }) (not (is_of_pair me peer frame)) (nat_lt frame.session (number L)) (not (is_open L)) (nat_lt (number L) frame.session) (is_close frame.kind) (nat_lt (transmitted L + 1) frame.ack) (is_data frame.kind)
    (in_a_row (inbox_limit - length (waiting L)) (early (Arrive frame (Ok (arrived.Took 0)) ∷ L))) k e in
    record { pair = not_false _ parts.0; present = neither frame.session (number L) parts.1 parts.3; open_end = not_false _ parts.2; no_close = parts.4; ack = parts.5; count = parts.6; is_item = parts.7 }

same_count : (b : Bool) (m : ℕ) → (if b then 0 + m else m) ≡ m
same_count true m = omega arith
same_count false m = refl

-- what a Data frame makes an open end accept, as the places say
pub taken_is : (frame : Frame) (L : List EndEntry) → is_data frame.kind ≡ true → is_open L ≡ true
    → taken_by frame L ≡ in_a_row (inbox_limit - length (waiting L)) (places (accepted_count L + 1) reach (Arrive frame (Ok (arrived.Took 0)) ∷ L))
taken_is frame L its opened =
    let none : accepted_count (Arrive frame (Ok (arrived.Took 0)) ∷ L) ≡ accepted_count L = same_count (is_present frame L) (accepted_count L) in
    rw (its, opened, none) refl

taken_most : (b : Bool) (room : ℕ) (ps : List (Option (List ℕ))) → (if b then in_a_row room ps else 0) ≤ room
taken_most true room ps = row_most room ps
taken_most false room ps = omega arith

-- no more than the inbox has room for
pub taken_room : (frame : Frame) (L : List EndEntry) → taken_by frame L ≤ inbox_limit - length (waiting L)
taken_room frame L = taken_most (is_data frame.kind) (inbox_limit - length (waiting L)) (early (Arrive frame (Ok (arrived.Took 0)) ∷ L))

taken_length : (data_frame opened : Bool) (room : ℕ) (ps : List (Option (List ℕ))) → (if data_frame then in_a_row room (if opened then ps else []) else 0) ≤ length ps
taken_length true true room ps = row_length room ps
taken_length true false room ps = let none = row_length {A = List ℕ} room [] in omega (arith, none)
taken_length false opened room ps = omega arith

-- no more than are in reach
pub taken_few : (frame : Frame) (L : List EndEntry) → taken_by frame L ≤ reach
taken_few frame L =
    let L0 = Arrive frame (Ok (arrived.Took 0)) ∷ L in
    let few : taken_by frame L ≤ length (places (accepted_count L0 + 1) reach L0) = taken_length (is_data frame.kind) (is_open L) (inbox_limit - length (waiting L)) (places (accepted_count L0 + 1) reach L0) in
    subst (λ (m : ℕ). taken_by frame L ≤ m) (places_length (accepted_count L0 + 1) reach L0) few

same_some : (x y : Option (List ℕ)) (p : List ℕ) → Some x ≡ Some y → y ≡ Some p → IsSome x
same_some x y p e f = let same : x ≡ y = cc in subst IsSome (sym (same ∙ f)) refl

-- a payload had come for each number that an arrival took, if its answer was right
took_came : (me peer : ℕ) (frame : Frame) (L : List EndEntry) (k : ℕ) → Ok (arrived.Took k) ≡ right_arrive me peer frame L → AcceptsWhatCame (Arrive frame (Ok (arrived.Took k))) L
took_came me peer frame L zero e present i within = absurd (omega arith)
took_came me peer frame L (suc k) e present i within =
    let took = took_is me peer frame L k e in
    let L0 = Arrive frame (Ok (arrived.Took 0)) ∷ L in
    let room = inbox_limit - length (waiting L) in
    let in_row : i < in_a_row room (places (accepted_count L + 1) reach L0) = subst (λ (m : ℕ). i < m) (took.count ∙ taken_is frame L took.is_item took.open_end) within in
    let found = row_filled room (places (accepted_count L + 1) reach L0) i in_row in
    let few = row_length room (places (accepted_count L + 1) reach L0) in
    let len = places_length (accepted_count L + 1) reach L0 in
    let here : slice_get (places (accepted_count L + 1) reach L0) i ≡ Some (payload (accepted_count L + 1 + i) L0) = places_at (accepted_count L + 1) reach i L0 (omega (arith, in_row, few, len)) in
    same_some (payload (accepted_count L + 1 + i) L0) (Some found.0) found.0 (sym here ∙ found.1) refl

-- each right answer accepts what came
pub right_came : (me peer : ℕ) (limits : Limits) (e : EndEntry) (L : List EndEntry) → IsRight me peer limits e L → AcceptsWhatCame e L
right_came me peer limits (Arrive frame (Ok (arrived.Took k))) L right = took_came me peer frame L k right
right_came me peer limits (_) L right = tt

-- ---- what was accepted

-- as many as the arrivals took
pub accepted_length : (L : List EndEntry) → AllCame L → length (accepted L) ≡ accepted_count L
accepted_length [] came = refl
accepted_length (Arrive frame (Ok (arrived.Took k)) ∷ L) came =
    let more = filled (places (accepted_count L + 1) k (Arrive frame (Ok (arrived.Took k)) ∷ L)) in
    let before = accepted_length L came.1 in
    elim (is_present frame L) as (λ b. is_present frame L ≡ b → length (if b then accepted L ++ more else accepted L) ≡ (if b then k + accepted_count L else accepted_count L)) [
      | true ↦ λ present.
          let now = filled_length (accepted_count L + 1) k (Arrive frame (Ok (arrived.Took k)) ∷ L) (came.0 present) in
          let both = length-append (accepted L) more in
          omega (arith, before, now, both)
      | false ↦ λ other. before
    ] refl
accepted_length (Reopen k (Ok done) ∷ L) came = refl
accepted_length (_ ∷ L) came = accepted_length L came.1

get_before : (xs ys : List (List ℕ)) (i : ℕ) → i < length xs → slice_get (xs ++ ys) i ≡ slice_get xs i
get_before [] ys i within = absurd (omega arith)
get_before (x ∷ xs) ys zero within = refl
get_before (x ∷ xs) ys (suc i) within = get_before xs ys i (omega (arith, within))

get_behind : (xs ys : List (List ℕ)) (i : ℕ) → slice_get (xs ++ ys) (length xs + i) ≡ slice_get ys i
get_behind [] ys i = ap (slice_get ys) (omega arith)
get_behind (x ∷ xs) ys i = let next : length (x ∷ xs) + i ≡ suc (length xs + i) = omega arith in ap (slice_get (x ∷ xs ++ ys)) next ∙ get_behind xs ys i

-- within a list something stands
pub within_some : (xs : List (List ℕ)) (i : ℕ) → i < length xs → (p : List ℕ) × (slice_get xs i ≡ Some p)
within_some [] i within = absurd (omega arith)
within_some (x ∷ xs) zero within = (x, refl)
within_some (x ∷ xs) (suc i) within = within_some xs i (omega (arith, within))

-- each is what came of its number, also once a frame of the present session made more accepted
accepted_more : (frame : Frame) (k : ℕ) (L : List EndEntry) → AllCame L → ((i : ℕ) → i < k → IsSome (payload (accepted_count L + 1 + i) (Arrive frame (Ok (arrived.Took k)) ∷ L)))
    → ((i : ℕ) → i < accepted_count L → slice_get (accepted L) i ≡ payload (i + 1) L)
    → (i : ℕ) → i < k + accepted_count L → slice_get (accepted L ++ filled (places (accepted_count L + 1) k (Arrive frame (Ok (arrived.Took k)) ∷ L))) i ≡ payload (i + 1) (Arrive frame (Ok (arrived.Took k)) ∷ L)
accepted_more frame k L came now before i within =
    let e = Arrive frame (Ok (arrived.Took k)) in
    let n = accepted_count L + 1 in
    let more = filled (places n k (e ∷ L)) in
    let len = accepted_length L came in
    elim (nat_lt i (accepted_count L)) as (λ b. nat_lt i (accepted_count L) ≡ b → slice_get (accepted L ++ more) i ≡ payload (i + 1) (e ∷ L)) [
      | true ↦ λ here.
          let low : i < accepted_count L = grind (arith, nat_tests, here) in
          let old = before i low in
          let there = within_some (accepted L) i (omega (arith, low, len)) in
          let stays : payload (i + 1) (e ∷ L) ≡ Some there.0 = payload_stays (i + 1) frame k L there.0 (sym old ∙ there.1) in
          get_before (accepted L) more i (omega (arith, low, len)) ∙ there.1 ∙ sym stays
      | false ↦ λ behind.
          let high : accepted_count L ≤ i = grind (arith, nat_tests, behind) in
          let place : length (accepted L) + (i - accepted_count L) ≡ i = omega (arith, high, len) in
          let number : n + (i - accepted_count L) ≡ i + 1 = omega (arith, high) in
          ap (slice_get (accepted L ++ more)) (sym place)
          ∙ get_behind (accepted L) more (i - accepted_count L)
          ∙ filled_at n k (i - accepted_count L) (e ∷ L) now (omega (arith, high, within))
          ∙ ap (λ (m : ℕ). payload m (e ∷ L)) number
    ] refl

-- each is what came of its number
pub accepted_at : (L : List EndEntry) → AllCame L → (i : ℕ) → i < accepted_count L → slice_get (accepted L) i ≡ payload (i + 1) L
accepted_at [] came i within = absurd (omega arith)
accepted_at (Arrive frame (Ok (arrived.Took k)) ∷ L) came i within =
    let e = Arrive frame (Ok (arrived.Took k)) in
    let more = filled (places (accepted_count L + 1) k (e ∷ L)) in
    elim (is_present frame L) as (λ b. is_present frame L ≡ b → i < (if b then k + accepted_count L else accepted_count L) → slice_get (if b then accepted L ++ more else accepted L) i ≡ payload (i + 1) (e ∷ L)) [
      | true ↦ λ present low. accepted_more frame k L came.1 (came.0 present) (accepted_at L came.1) i low
      | false ↦ λ other low.
          let old = accepted_at L came.1 i low in
          let there = within_some (accepted L) i (omega (arith, low, accepted_length L came.1)) in
          there.1 ∙ sym (payload_stays (i + 1) frame k L there.0 (sym old ∙ there.1))
    ] refl within
accepted_at (Reopen k (Ok done) ∷ L) came i within = absurd (omega arith)
accepted_at (_ ∷ L) came i within = accepted_at L came.1 i within

-- no more than have numbers
pub accepted_few : (L : List EndEntry) → AllCame L → accepted_count L ≤ last_item
accepted_few L came =
    elim (nat_lt last_item (accepted_count L)) as (λ b. nat_lt last_item (accepted_count L) ≡ b → accepted_count L ≤ last_item) [
      | true ↦ λ over.
          let high : last_item < accepted_count L = grind (arith, nat_tests, over) in
          let len = accepted_length L came in
          let there = within_some (accepted L) (accepted_count L - 1) (omega (arith, high, len)) in
          let number : last_item < accepted_count L - 1 + 1 = omega (arith, high) in
          let none : Some there.0 ≡ None = sym there.1 ∙ accepted_at L came (accepted_count L - 1) (omega (arith, high)) ∙ payload_last (accepted_count L - 1 + 1) L number in
          absurd cc
      | false ↦ λ under. grind (arith, nat_tests, under)
    ] refl
