-- The words of an end on which items are handed, transmitted, acknowledged, accepted and taken one by one.
use Rattle.std.proofs.Common.{◌≡◌, ℕ, zero, suc, ◌+◌, ◌-◌, ◌≤◌, ◌<◌, ◌&&◌, ◌||◌, not, max, Bool, true, false, cond, List, [], ◌∷◌, ◌++◌, length, take, drop, Option, Some, None, Ok, refl, sym, ap, ◌∙◌, arith}
use Rattle.std.specs.Prelude.{◌==◌, nat_lt}
use Rattle.std.proofs.lemmas.List.{length-append}
use Rattle.std.proofs.Math.Seq.{drop-nil, drop-length, drop-append_seam}
use Rattle.std.specs.Option.{option_or}
use Rattle.std.proofs.lemmas.Bool.{eq-eqb}
use Rattle.std.proofs.lemmas.Bool.Decides.{nat_tests}
use Rattle.nob_frame.specs.declared.frame.Frame.{Frame}
use Rattle.nob_frame.specs.declared.frame.FrameKind.TheVariants as kinds
use Rattle.nob_frame.specs.Kinds.{is_close}
use Rattle.nob_model_session.specs.declared.entry.Kind.{Kind}
use Rattle.nob_model_session.specs.declared.entry.Arrived.{Arrived}
use Rattle.nob_model_session.specs.declared.entry.Arrived.TheVariants as arrived
use Rattle.nob_model_session.specs.declared.entry.EndEntry.{EndEntry}
use Rattle.nob_model_session.specs.declared.entry.EndEntry.TheVariants as ends
use Rattle.nob_model_session.specs.End as end
use Rattle.nob_model_session.specs.Right.{inbox_limit, ack_frame, data_frames, open_frames, right_transmit, in_a_row, taken_by, arrived_by, right_front, first_of}

-- an open end in session k, with so many items handed, the highest transmitted, the lowest unacknowledged, so many accepted and so many taken
pub record Stands (k a t l b c : ℕ) (calls : List EndEntry) : Type 0 where
  pub numbered : end.number calls ≡ k
  pub up : end.is_open calls ≡ true
  pub given : length (end.handed calls) ≡ a
  pub out : end.transmitted calls ≡ t
  pub low : end.lowest calls ≡ l
  pub came : end.accepted_count calls ≡ b
  pub kept : length (end.accepted calls) ≡ b
  pub taken : end.takes calls ≡ c
  pub none_later : (j : ℕ) → b < j → end.payload j calls ≡ None

-- ---- an item is handed

pub stands_sent : (k a t l b c m : ℕ) (bytes : List ℕ) (kind : Kind) (calls : List EndEntry) → Stands k a t l b c calls → Stands k (a + 1) t l b c (ends.Send bytes kind (Ok m) ∷ calls)
stands_sent k a t l b c m bytes kind calls its = record {
  numbered = its.numbered;
  up = its.up;
  given = length-append (end.handed calls) (bytes ∷ []) ∙ ap (λ (x : ℕ). x + 1) its.given;
  out = its.out;
  low = its.low;
  came = its.came;
  kept = its.kept;
  taken = its.taken;
  none_later = its.none_later;
}

-- ---- what is handed is transmitted

-- the last of some is left behind the others
last_left : {X : Type 0} (m : ℕ) (xs : List X) → length xs ≡ m + 1 → (x : X) × (drop m xs ≡ x ∷ [])
last_left zero [] long = absurd (omega (arith, long))
last_left zero (x ∷ []) long = (x, refl)
last_left zero (x ∷ y ∷ xs) long = absurd (omega (arith, long))
last_left (suc m) [] long = absurd (omega (arith, long))
last_left (suc m) (x ∷ xs) long = last_left m xs (omega (arith, long))

take_one : {X : Type 0} (window : ℕ) (x : X) → 1 ≤ window → take window (x ∷ []) ≡ x ∷ []
take_one zero x some = absurd (omega (arith, some))
take_one (suc zero) x some = refl
take_one (suc (suc window)) x some = refl

-- of one item that was never given, the frames bring its number
one_given : (me peer session ack n highest window : ℕ) (due : Bool) (x : List ℕ) → 1 ≤ window → end.greatest_seq (open_frames me peer session ack n highest due (take window (x ∷ []))) ≡ n
one_given me peer session ack n highest window due x some =
    ap (λ (xs : List (List ℕ)). end.greatest_seq (open_frames me peer session ack n highest due xs)) (take_one window x some)
    ∙ ap (λ (xs : List (List ℕ)). max n (end.greatest_seq (data_frames me peer session ack (max n highest + 1) xs))) (drop-nil (highest - n))
    ∙ omega arith

-- the frames of an open end
frames_open : (me peer window : ℕ) (calls : List EndEntry) → end.is_open calls ≡ true → right_transmit me peer window calls ≡ open_frames me peer (end.number calls) (end.accepted_count calls + 1) (end.lowest calls) (end.transmitted calls) (end.data_arrived calls) (take window (drop (end.lowest calls - 1) (end.handed calls)))
frames_open me peer window calls up = rw (up) refl

-- the number of the one item that is handed and wasn't given is given
greatest_given : (me peer window k a b c : ℕ) (calls : List EndEntry) → 1 ≤ window → Stands k (a + 1) a (a + 1) b c calls → end.greatest_seq (right_transmit me peer window calls) ≡ a + 1
greatest_given me peer window k a b c calls some its =
    let low = its.low in
    let last = last_left (end.lowest calls - 1) (end.handed calls) (its.given ∙ (omega (arith, low))) in
    ap end.greatest_seq (frames_open me peer window calls its.up)
    ∙ ap (λ (xs : List (List ℕ)). end.greatest_seq (open_frames me peer (end.number calls) (end.accepted_count calls + 1) (end.lowest calls) (end.transmitted calls) (end.data_arrived calls) (take window xs))) last.1
    ∙ one_given me peer (end.number calls) (end.accepted_count calls + 1) (end.lowest calls) (end.transmitted calls) window (end.data_arrived calls) last.0 some
    ∙ its.low

pub stands_transmitted : (me peer window k a b c : ℕ) (calls : List EndEntry) → 1 ≤ window → Stands k (a + 1) a (a + 1) b c calls → Stands k (a + 1) (a + 1) (a + 1) b c (ends.Transmit (right_transmit me peer window calls) ∷ calls)
stands_transmitted me peer window k a b c calls some its = record {
  numbered = its.numbered;
  up = its.up;
  given = its.given;
  out = (let greatest = greatest_given me peer window k a b c calls some its in let out = its.out in omega (arith, greatest, out));
  low = its.low;
  came = its.came;
  kept = its.kept;
  taken = its.taken;
  none_later = its.none_later;
}

-- ---- a frame arrives

arrives_by : (older up newer wrong : Bool) (x y z v w : Arrived) → older ≡ false → up ≡ true → newer ≡ false → wrong ≡ false → cond older x (cond (not up) y (cond newer z (cond wrong v w))) ≡ w
arrives_by true up newer wrong x y z v w a b c d = cc
arrives_by false false newer wrong x y z v w a b c d = cc
arrives_by false true true wrong x y z v w a b c d = cc
arrives_by false true false true x y z v w a b c d = cc
arrives_by false true false false x y z v w a b c d = refl

not_below : (k m : ℕ) → k ≡ m → nat_lt k m ≡ false
not_below k m same = grind (arith, nat_tests, same)

-- a frame of the session, not a Close, with an acknowledgement of what was given, is taken
pub is_heard : (peer : ℕ) (frame : Frame) (calls : List EndEntry) → frame.session ≡ end.number calls → end.is_open calls ≡ true → is_close frame.kind ≡ false → frame.ack ≤ end.transmitted calls + 1 → arrived_by peer frame calls ≡ arrived.Took (taken_by frame calls)
is_heard peer frame calls session up kind low =
    arrives_by (nat_lt frame.session (end.number calls)) (end.is_open calls) (nat_lt (end.number calls) frame.session || is_close frame.kind) (nat_lt (end.transmitted calls + 1) frame.ack) _ _ _ _ _
    (not_below frame.session (end.number calls) session) up
    (ap (λ (b : Bool). b || is_close frame.kind) (not_below (end.number calls) frame.session (sym session)) ∙ kind)
    (not_above (end.transmitted calls + 1) frame.ack low)
  where
    not_above : (m n : ℕ) → n ≤ m → nat_lt m n ≡ false
    not_above m n low = grind (arith, nat_tests, low)

none_more : (xs : List (List ℕ)) → length (xs ++ []) ≡ length xs
none_more [] = refl
none_more (x ∷ xs) = ap suc (none_more xs)

came_first : (present brings : Bool) (before : Option (List ℕ)) (bytes : List ℕ) → before ≡ None → present ≡ true → brings ≡ true → option_or before (cond (present && brings) (Some bytes) None) ≡ Some bytes
came_first present brings (Some x) bytes a b c = cc
came_first false brings None bytes a b c = cc
came_first true false None bytes a b c = cc
came_first true true None bytes a b c = refl

came_none : (present brings : Bool) (before : Option (List ℕ)) (bytes : List ℕ) → before ≡ None → brings ≡ false → option_or before (cond (present && brings) (Some bytes) None) ≡ None
came_none present brings (Some x) bytes a b = cc
came_none present true None bytes a b = cc
came_none true false None bytes a b = refl
came_none false false None bytes a b = refl

-- ---- all is acknowledged

low_by : (present up : Bool) (low ack : ℕ) → present ≡ true → up ≡ true → cond ((present && up) && true) (max low ack) low ≡ max low ack
low_by false up low ack a b = cc
low_by true false low ack a b = cc
low_by true true low ack a b = refl

-- the frame from p that acknowledges all before a number
abbrev pub acknowledgement : (s p k ack : ℕ) → Frame
acknowledgement s p k ack = ack_frame p s k ack

pub stands_acknowledged : (s p k a b c : ℕ) (calls : List EndEntry) → Stands k a a a b c calls → Stands k a a (a + 1) b c (ends.Arrive (acknowledgement s p k (a + 1)) (Ok (arrived.Took 0)) ∷ calls)
unfolding end.places
stands_acknowledged s p k a b c calls its =
    let present : (k == end.number calls) ≡ true = eq-eqb k (end.number calls) (sym its.numbered) in record {
      numbered = its.numbered;
      up = its.up;
      given = its.given;
      out = its.out;
      low = low_by (k == end.number calls) (end.is_open calls) (end.lowest calls) (a + 1) present its.up ∙ (let low = its.low in omega (arith, low));
      came = ap (λ (now : Bool). cond now (0 + end.accepted_count calls) (end.accepted_count calls)) present ∙ (let came = its.came in omega (arith, came));
      kept = ap (λ (now : Bool). length (cond now (end.accepted calls ++ []) (end.accepted calls))) present ∙ none_more (end.accepted calls) ∙ its.kept;
      taken = its.taken;
      none_later = λ j later. came_none (end.is_present (acknowledgement s p k (a + 1)) calls) false (end.payload j calls) [] (its.none_later j later) refl;
    }

-- where all is acknowledged nothing is kept to be sent again
pub none_unacknowledged : (k a t b c : ℕ) (calls : List EndEntry) → Stands k a t (a + 1) b c calls → end.unacknowledged calls ≡ []
none_unacknowledged k a t b c calls its =
    let low = its.low in
    ap (λ (is_up : Bool). cond is_up (drop (end.lowest calls - 1) (end.handed calls)) []) its.up
    ∙ ap (λ (m : ℕ). drop m (end.handed calls)) (less_one a (end.lowest calls) low ∙ sym its.given)
    ∙ drop-length (end.handed calls)
  where
    less_one : (m lowest : ℕ) → lowest ≡ m + 1 → lowest - 1 ≡ m
    less_one m lowest same = omega (arith, same)

-- ---- an item arrives

-- the frame from p that brings an item
abbrev pub parcel : (s p k m : ℕ) → List ℕ → Frame
parcel s p k m bytes = record { kind = kinds.Data; from = p; to = s; session = k; seq = m; ack = 1; payload = bytes }

brings_next : (s p k b : ℕ) (bytes : List ℕ) → b + 1 ≤ end.last_item → end.brings_at (b + 1) (parcel s p k (b + 1) bytes) b ≡ true
brings_next s p k b bytes room = grind (arith, nat_tests, room)

brings_no_later : (s p k b m j : ℕ) (bytes : List ℕ) → b + 1 < j → end.brings_at j (parcel s p k (b + 1) bytes) m ≡ false
brings_no_later s p k b m j bytes later = grind (arith, nat_tests, later)

row_first : (most : ℕ) (bytes : List ℕ) (more : List (Option (List ℕ))) → in_a_row (suc most) (Some bytes ∷ None ∷ more) ≡ 1
row_first zero bytes more = refl
row_first (suc most) bytes more = refl

-- the places from a number on begin with it and the next
places_two : (n more : ℕ) (calls : List EndEntry) → end.places n (suc (suc more)) calls ≡ end.payload n calls ∷ end.payload (n + 1) calls ∷ end.places (n + 1 + 1) more calls
unfolding end.places
places_two n more calls = refl

-- of one item that is kept, one is accepted
row_one : (b most : ℕ) (bytes : List ℕ) (calls : List EndEntry) → end.is_open calls ≡ true → end.accepted_count calls ≡ b → end.payload (b + 1) calls ≡ Some bytes → end.payload (b + 1 + 1) calls ≡ None → in_a_row (suc most) (end.early calls) ≡ 1
row_one b most bytes calls up came here later =
    ap (λ (is_up : Bool). in_a_row (suc most) (cond is_up (end.places (end.accepted_count calls + 1) end.reach calls) [])) up
    ∙ ap (λ (m : ℕ). in_a_row (suc most) (end.places (m + 1) end.reach calls)) came
    ∙ ap (in_a_row (suc most)) (places_two (b + 1) 62 calls)
    ∙ ap (λ (x : Option (List ℕ)). in_a_row (suc most) (x ∷ end.payload (b + 1 + 1) calls ∷ end.places (b + 1 + 1 + 1) 62 calls)) here
    ∙ ap (λ (x : Option (List ℕ)). in_a_row (suc most) (Some bytes ∷ x ∷ end.places (b + 1 + 1 + 1) 62 calls)) later
    ∙ row_first most bytes (end.places (b + 1 + 1 + 1) 62 calls)

-- the one place of a number that came
filled_one : (n : ℕ) (bytes : List ℕ) (calls : List EndEntry) → end.payload n calls ≡ Some bytes → end.filled (end.places n 1 calls) ≡ bytes ∷ []
unfolding end.places
filled_one n bytes calls here = ap (λ (x : Option (List ℕ)). end.filled (x ∷ [])) here

none_waiting : (k a t l b : ℕ) (calls : List EndEntry) → Stands k a t l b b calls → end.waiting calls ≡ []
none_waiting k a t l b calls its =
    ap (λ (is_up : Bool). cond is_up (drop (end.takes calls) (end.accepted calls)) []) its.up
    ∙ ap (λ (m : ℕ). drop m (end.accepted calls)) (its.taken ∙ sym its.kept)
    ∙ drop-length (end.accepted calls)

module _ (s p k a b : ℕ) (bytes : List ℕ) (calls : List EndEntry) (its : Stands k a a (a + 1) b b calls) (room : b + 1 ≤ end.last_item) where
  abbrev frame : Frame
  frame = parcel s p k (b + 1) bytes

  present : end.is_present frame calls ≡ true
  present = eq-eqb k (end.number calls) (sym its.numbered)

  payload_here : (count : ℕ) → end.payload (b + 1) (ends.Arrive frame (Ok (arrived.Took count)) ∷ calls) ≡ Some bytes
  payload_here count = came_first (end.is_present frame calls) (end.brings_at (b + 1) frame (end.accepted_count calls)) (end.payload (b + 1) calls) bytes (its.none_later (b + 1) (omega arith)) present (ap (end.brings_at (b + 1) frame) its.came ∙ brings_next s p k b bytes room)

  payload_later : (count j : ℕ) → b + 1 < j → end.payload j (ends.Arrive frame (Ok (arrived.Took count)) ∷ calls) ≡ None
  payload_later count j later = came_none (end.is_present frame calls) (end.brings_at j frame (end.accepted_count calls)) (end.payload j calls) bytes (its.none_later j (omega (arith, later))) (brings_no_later s p k b (end.accepted_count calls) j bytes later)

  count_by : (count : ℕ) → end.accepted_count (ends.Arrive frame (Ok (arrived.Took count)) ∷ calls) ≡ count + b
  count_by count = ap (λ (now : Bool). cond now (count + end.accepted_count calls) (end.accepted_count calls)) present ∙ ap (λ (m : ℕ). count + m) its.came

  -- it is accepted
  pub takes_one : taken_by frame calls ≡ 1
  takes_one =
      ap (λ (xs : List (List ℕ)). in_a_row (inbox_limit - length xs) (end.early (ends.Arrive frame (Ok (arrived.Took 0)) ∷ calls))) (none_waiting k a a (a + 1) b calls its)
      ∙ row_one b 255 bytes (ends.Arrive frame (Ok (arrived.Took 0)) ∷ calls) its.up (count_by 0 ∙ omega arith) (payload_here 0) (payload_later 0 (b + 1 + 1) (omega arith))

  accepted_one : end.accepted (ends.Arrive frame (Ok (arrived.Took 1)) ∷ calls) ≡ end.accepted calls ++ bytes ∷ []
  accepted_one =
      ap (λ (now : Bool). cond now (end.accepted calls ++ end.filled (end.places (end.accepted_count calls + 1) 1 (ends.Arrive frame (Ok (arrived.Took 1)) ∷ calls))) (end.accepted calls)) present
      ∙ ap (λ (m : ℕ). end.accepted calls ++ end.filled (end.places (m + 1) 1 (ends.Arrive frame (Ok (arrived.Took 1)) ∷ calls))) its.came
      ∙ ap (λ (more : List (List ℕ)). end.accepted calls ++ more) (filled_one (b + 1) bytes (ends.Arrive frame (Ok (arrived.Took 1)) ∷ calls) (payload_here 1))

  pub stands_brought : Stands k a a (a + 1) (b + 1) b (ends.Arrive frame (Ok (arrived.Took 1)) ∷ calls)
  stands_brought = record {
    numbered = its.numbered;
    up = its.up;
    given = its.given;
    out = its.out;
    low = low_by (end.is_present frame calls) (end.is_open calls) (end.lowest calls) 1 present its.up ∙ (let low = its.low in omega (arith, low));
    came = count_by 1 ∙ omega arith;
    kept = ap length accepted_one ∙ length-append (end.accepted calls) (bytes ∷ []) ∙ ap (λ (m : ℕ). m + 1) its.kept;
    taken = its.taken;
    none_later = λ j later. payload_later 1 j later;
  }

  -- it stands in front
  pub stands_first : right_front (ends.Arrive frame (Ok (arrived.Took 1)) ∷ calls) ≡ Some (b + 1, bytes)
  stands_first =
      ap (λ (is_up : Bool). first_of (end.takes calls + 1) (cond is_up (drop (end.takes calls) (end.accepted (ends.Arrive frame (Ok (arrived.Took 1)) ∷ calls))) [])) its.up
      ∙ ap (λ (m : ℕ). first_of (m + 1) (drop m (end.accepted (ends.Arrive frame (Ok (arrived.Took 1)) ∷ calls)))) its.taken
      ∙ ap (λ (xs : List (List ℕ)). first_of (b + 1) (drop b xs)) accepted_one
      ∙ ap (λ (m : ℕ). first_of (b + 1) (drop m (end.accepted calls ++ bytes ∷ []))) (sym its.kept)
      ∙ ap (first_of (b + 1)) (drop-append_seam (end.accepted calls) (bytes ∷ []))

-- ---- an item is taken

pub stands_taken : (k a t l b c : ℕ) (calls : List EndEntry) → Stands k a t l b c calls → Stands k a t l b (c + 1) (ends.Take ∷ calls)
stands_taken k a t l b c calls its = record {
  numbered = its.numbered;
  up = its.up;
  given = its.given;
  out = its.out;
  low = its.low;
  came = its.came;
  kept = its.kept;
  taken = ap (λ (m : ℕ). m + 1) its.taken;
  none_later = its.none_later;
}
