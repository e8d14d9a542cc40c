-- The pair law: an invariant of both directions of a pair in each session, kept by each call.
use Rattle.std.proofs.Common.{◌≡◌, ◌≢◌, ℕ, zero, suc, ◌+◌, ◌-◌, ◌<◌, ◌≤◌, ◌&&◌, Bool, true, false, cond, eqb, leb, List, [], ◌∷◌, ◌++◌, length, take, drop, Option, Some, None, Ok, Err, refl, sym, ap, subst, ◌∙◌, append_assoc, arith, All, max, not, ◌⊎◌, inl, inr}
use Rattle.std.specs.Prelude.{option_to_list, is_some}
use Rattle.std.specs.Option.{option_or}
use Rattle.std.specs.List.{AllByRecursion, Contains, slice_get}
use Rattle.std.proofs.lemmas.Bool.{eqb-true}
use Rattle.std.proofs.lemmas.List.{length-append, length-take, length-drop, take-append-drop, take-append-le, drop-append-le}
use Rattle.std.proofs.lemmas.List.Elements.{All-from_recursion, All-contains, All-append, All-nil}
use Rattle.nob_ids.specs.declared.limits.Limits.{Limits}
use Rattle.nob_ids.specs.declared.reason.Reason.{Reason}
use Rattle.nob_frame.specs.declared.frame.Frame.{Frame}
use Rattle.nob_frame.specs.Kinds.{is_data, is_close}
use Rattle.nob_model_session.specs.declared.refusal.EndRefusal.TheVariants as refusal
use Rattle.nob_model_session.specs.declared.entry.Kind.{Kind}
use Rattle.nob_model_session.specs.declared.entry.Arrived.TheVariants as arrived
use Rattle.nob_model_session.specs.declared.entry.EndEntry.{EndEntry}
use Rattle.nob_model_session.specs.declared.entry.EndEntry.TheVariants.{Send, Transmit, Arrive, Front, Take, Tick, Close, Reopen}
use Rattle.nob_model_session.specs.declared.entry.PairEntry.{PairEntry}
use Rattle.nob_model_session.specs.declared.entry.PairEntry.TheVariants.{First, Second}
use Rattle.nob_model_session.specs.End.{last_item, number, up_to, is_present, is_open, ending, handed, lowest, unacknowledged, greatest_seq, accepted_count, brings_at, payload, places, filled, accepted, takes, waiting, transmitted, data_arrived, owes_close}
use Rattle.nob_model_session.specs.Right.{data_frames, open_frames, closed_frames, right_send, right_transmit, right_front, first_of, is_limited, queue_limit, IsRight}
use Rattle.nob_model_session.specs.Accepting.{AllCame}
use Rattle.nob_model_session.proofs.Arriving.{within_some, right_came, accepted_length, accepted_at}
use Rattle.nob_model_session.proofs.Sessions.{Rises, right_rises, reopen_rises, call_step, begin_step, came_up_to, other_payload}
use Rattle.nob_model_session.specs.Pair.{first_calls, second_calls, transmitted_frames, ArrivesFrom, PairRun, handed_items, told_item, taken_items, with_numbers, IsBeginning, TakesWhileOpen, SessionFronts, PairLaw, Reaches, AcceptedLaw}

-- the payload of this number
pub record Placed (payloads : List (List ℕ)) (n : ℕ) (payload : List ℕ) : Type 0 where
  pub front : List (List ℕ)
  pub rest : List (List ℕ)
  pub whole : front ++ payload ∷ rest ≡ payloads
  pub place : n ≡ length front + 1

-- a Data frame carries the payload of its number
abbrev pub Carries : List (List ℕ) → Frame → Type 0
Carries payloads frame = is_data frame.kind ≡ true → Placed payloads frame.seq frame.payload

Placed-append : (xs ys : List (List ℕ)) (n : ℕ) (p : List ℕ) → Placed xs n p → Placed (xs ++ ys) n p
Placed-append xs ys n p h = record {
  front = h.front;
  rest = h.rest ++ ys;
  whole = sym (append_assoc h.front (p ∷ h.rest) ys) ∙ ap (λ (zs : List (List ℕ)). zs ++ ys) h.whole;
  place = h.place;
}

-- ---- what a transmit gives carries the payloads that were handed

all_weaker : {X : Type 0} (P Q : X → Type 0) → ((x : X) → P x → Q x) → (xs : List X) → AllByRecursion P xs → AllByRecursion Q xs
all_weaker P Q f [] h = tt
all_weaker P Q f (x ∷ xs) h = (f x h.0, all_weaker P Q f xs h.1)

data_carry : (me peer session ack n : ℕ) (front ps : List (List ℕ)) → n ≡ length front + 1 → AllByRecursion (Carries (front ++ ps)) (data_frames me peer session ack n ps)
data_carry me peer session ack n front [] e = tt
data_carry me peer session ack n front (p ∷ ps) e =
    let longer : n + 1 ≡ length (front ++ p ∷ []) + 1 = omega (arith, e, length-append front (p ∷ [])) in (
      λ _. record { front = front; rest = ps; whole = refl; place = e },
      subst (λ (hs : List (List ℕ)). AllByRecursion (Carries hs) (data_frames me peer session ack (n + 1) ps)) (append_assoc front (p ∷ []) ps) (data_carry me peer session ack (n + 1) (front ++ p ∷ []) ps longer),
    )

-- so do those behind the first so many
later_carry : (me peer session ack n k : ℕ) (front ps : List (List ℕ)) → n ≡ length front + 1 → AllByRecursion (Carries (front ++ ps)) (data_frames me peer session ack (n + k) (drop k ps))
later_carry me peer session ack n zero front ps e =
    let same : n ≡ n + 0 = omega arith in
    subst (λ (m : ℕ). AllByRecursion (Carries (front ++ ps)) (data_frames me peer session ack m ps)) same (data_carry me peer session ack n front ps e)
later_carry me peer session ack n (suc k) front [] e = tt
later_carry me peer session ack n (suc k) front (p ∷ ps) e =
    let longer : n + 1 ≡ length (front ++ p ∷ []) + 1 = omega (arith, e, length-append front (p ∷ [])) in
    let same : n + 1 + k ≡ n + suc k = omega arith in
    subst (λ (m : ℕ). AllByRecursion (Carries (front ++ p ∷ ps)) (data_frames me peer session ack m (drop k ps))) same
    (subst (λ (hs : List (List ℕ)). AllByRecursion (Carries hs) (data_frames me peer session ack (n + 1 + k) (drop k ps))) (append_assoc front (p ∷ []) ps) (later_carry me peer session ack (n + 1) k (front ++ p ∷ []) ps longer))

-- the first of some payloads, and those above the highest number given before
some_carry : (me peer session ack n t : ℕ) (due : Bool) (front : List (List ℕ)) (p : List ℕ) (ps : List (List ℕ)) → n ≡ length front + 1 → AllByRecursion (Carries (front ++ p ∷ ps)) (open_frames me peer session ack n t due (p ∷ ps))
some_carry me peer session ack n t due front p ps e =
    let longer : n + 1 ≡ length (front ++ p ∷ []) + 1 = omega (arith, e, length-append front (p ∷ [])) in
    let same : n + 1 + (t - n) ≡ max n t + 1 = omega arith in (
      λ _. record { front = front; rest = ps; whole = refl; place = e },
      subst (λ (m : ℕ). AllByRecursion (Carries (front ++ p ∷ ps)) (data_frames me peer session ack m (drop (t - n) ps))) same
          (subst (λ (hs : List (List ℕ)). AllByRecursion (Carries hs) (data_frames me peer session ack (n + 1 + (t - n)) (drop (t - n) ps))) (append_assoc front (p ∷ []) ps) (later_carry me peer session ack (n + 1) (t - n) (front ++ p ∷ []) ps longer)),
    )

-- a list as what stands before a window, the window, and what stands after it
window_whole : (w k : ℕ) (hs : List (List ℕ)) → (take k hs ++ take w (drop k hs)) ++ drop w (drop k hs) ≡ hs
window_whole w k hs = append_assoc (take k hs) (take w (drop k hs)) (drop w (drop k hs)) ∙ ap (λ (ys : List (List ℕ)). take k hs ++ ys) (take-append-drop w (drop k hs)) ∙ take-append-drop k hs

open_carry : (me peer session ack n t w : ℕ) (due : Bool) (hs ps : List (List ℕ)) → 1 ≤ n → ps ≡ take w (drop (n - 1) hs) → AllByRecursion (Carries hs) (open_frames me peer session ack n t due ps)
open_carry me peer session ack n t w true hs [] low e = (λ d. absurd cc, tt)
open_carry me peer session ack n t w false hs [] low e = tt
open_carry me peer session ack n t w due hs (p ∷ ps) low e =
    let len : length (p ∷ ps) ≡ length (take w (drop (n - 1) hs)) = ap length e in
    let short : length (take (n - 1) hs) ≡ n - 1 = omega (arith, len, length-take w (drop (n - 1) hs), length-drop (n - 1) hs, length-take (n - 1) hs) in
    let place : n ≡ length (take (n - 1) hs) + 1 = omega (arith, short) in
    let here = some_carry me peer session ack n t due (take (n - 1) hs) p ps place in
    let whole : (take (n - 1) hs ++ (p ∷ ps)) ++ drop w (drop (n - 1) hs) ≡ hs = ap (λ (xs : List (List ℕ)). (take (n - 1) hs ++ xs) ++ drop w (drop (n - 1) hs)) e ∙ window_whole w (n - 1) hs in
    all_weaker (Carries (take (n - 1) hs ++ (p ∷ ps))) (Carries hs)
    (λ frame carries d. subst (λ (zs : List (List ℕ)). Placed zs frame.seq frame.payload) whole (Placed-append (take (n - 1) hs ++ (p ∷ ps)) (drop w (drop (n - 1) hs)) frame.seq frame.payload (carries d)))
    (open_frames me peer session ack n t due (p ∷ ps)) here

closed_carry : (me peer session ack : ℕ) (owes : Bool) (reason : Option Reason) (hs : List (List ℕ)) → AllByRecursion (Carries hs) (closed_frames me peer session ack owes reason)
closed_carry me peer session ack owes None hs = tt
closed_carry me peer session ack true (Some reason) hs = (λ d. absurd cc, tt)
closed_carry me peer session ack false (Some reason) hs = tt

frames_carry : (open_now : Bool) (me peer session ack n t w : ℕ) (due owes : Bool) (reason : Option Reason) (hs : List (List ℕ)) → 1 ≤ n
    → AllByRecursion (Carries hs) (cond open_now (open_frames me peer session ack n t due (take w (cond open_now (drop (n - 1) hs) []))) (closed_frames me peer session ack owes reason))
frames_carry true me peer session ack n t w due owes reason hs low = open_carry me peer session ack n t w due hs (take w (drop (n - 1) hs)) low refl
frames_carry false me peer session ack n t w due owes reason hs low = closed_carry me peer session ack owes reason hs

lowest_max : (b : Bool) (m n : ℕ) → 1 ≤ m → 1 ≤ cond b (max m n) m
lowest_max true m n h = omega arith
lowest_max false m n h = h

lowest_positive : (L : List EndEntry) → 1 ≤ lowest L
lowest_positive [] = omega arith
lowest_positive (Arrive frame (Ok (arrived.Took k)) ∷ L) = lowest_max (is_present frame L && is_open L && not (is_close frame.kind)) (lowest L) frame.ack (lowest_positive L)
lowest_positive (Reopen k (Ok done) ∷ L) = omega arith
lowest_positive (_ ∷ L) = lowest_positive L

transmit_carries : (me peer w : ℕ) (L : List EndEntry) → All (Carries (handed L)) (right_transmit me peer w L)
transmit_carries me peer w L = All-from_recursion (Carries (handed L)) (right_transmit me peer w L)
    (frames_carry (is_open L) me peer (number L) (accepted_count L + 1) (lowest L) (transmitted L) w (data_arrived L) (owes_close L) (ending L) (handed L) (lowest_positive L))

-- ---- the numbers of what a transmit gives

-- the number of a payload is no greater than there are payloads
placed_low : (hs : List (List ℕ)) (n : ℕ) (p : List ℕ) → Placed hs n p → n ≤ length hs
placed_low hs n p h =
    let len : length h.front + suc (length h.rest) ≡ length hs = sym (length-append h.front (p ∷ h.rest)) ∙ ap length h.whole in
    omega (arith, len, h.place)

seq_low : (hs : List (List ℕ)) (frame : Frame) (b : Bool) → (b ≡ true → Placed hs frame.seq frame.payload) → cond b frame.seq 0 ≤ length hs
seq_low hs frame true carries = placed_low hs frame.seq frame.payload (carries refl)
seq_low hs frame false carries = omega arith

greatest_low : (hs : List (List ℕ)) (frames : List Frame) → AllByRecursion (Carries hs) frames → greatest_seq frames ≤ length hs
greatest_low hs [] all = omega arith
greatest_low hs (frame ∷ frames) all = omega (arith, seq_low hs frame (is_data frame.kind) all.0, greatest_low hs frames all.1)

transmit_low : (me peer w : ℕ) (L : List EndEntry) → greatest_seq (right_transmit me peer w L) ≤ length (handed L)
transmit_low me peer w L = greatest_low (handed L) (right_transmit me peer w L) (frames_carry (is_open L) me peer (number L) (accepted_count L + 1) (lowest L) (transmitted L) w (data_arrived L) (owes_close L) (ending L) (handed L) (lowest_positive L))

-- a Data frame's number is at most t
abbrev pub Below : ℕ → Frame → Type 0
Below t frame = is_data frame.kind ≡ true → frame.seq ≤ t

seq_at : (frame : Frame) (b : Bool) → b ≡ true → frame.seq ≤ cond b frame.seq 0
seq_at frame true e = omega arith
seq_at frame false e = absurd cc

all_below : (t : ℕ) (frames : List Frame) → greatest_seq frames ≤ t → AllByRecursion (Below t) frames
all_below t [] low = tt
all_below t (frame ∷ frames) low = (λ d. omega (arith, low, seq_at frame (is_data frame.kind) d), all_below t frames (omega (arith, low)))

-- ---- what a transmit's frames acknowledge

-- a frame acknowledges what is accepted of at most n items
abbrev pub Acks : ℕ → Frame → Type 0
Acks n frame = frame.ack ≤ n + 1

data_acks : (me peer session ack n m : ℕ) (ps : List (List ℕ)) → ack ≤ m + 1 → AllByRecursion (Acks m) (data_frames me peer session ack n ps)
data_acks me peer session ack n m [] low = tt
data_acks me peer session ack n m (p ∷ ps) low = (low, data_acks me peer session ack (n + 1) m ps low)

open_acks : (me peer session ack n t m : ℕ) (due : Bool) (ps : List (List ℕ)) → ack ≤ m + 1 → AllByRecursion (Acks m) (open_frames me peer session ack n t due ps)
open_acks me peer session ack n t m true [] low = (low, tt)
open_acks me peer session ack n t m false [] low = tt
open_acks me peer session ack n t m due (p ∷ ps) low = (low, data_acks me peer session ack (max n t + 1) m (drop (t - n) ps) low)

closed_acks : (me peer session ack m : ℕ) (owes : Bool) (reason : Option Reason) → ack ≤ m + 1 → AllByRecursion (Acks m) (closed_frames me peer session ack owes reason)
closed_acks me peer session ack m owes None low = tt
closed_acks me peer session ack m true (Some reason) low = (low, tt)
closed_acks me peer session ack m false (Some reason) low = tt

either_acks : (b : Bool) (me peer session ack n t m : ℕ) (due owes : Bool) (reason : Option Reason) (ps : List (List ℕ)) → ack ≤ m + 1
    → AllByRecursion (Acks m) (cond b (open_frames me peer session ack n t due ps) (closed_frames me peer session ack owes reason))
either_acks true me peer session ack n t m due owes reason ps low = open_acks me peer session ack n t m due ps low
either_acks false me peer session ack n t m due owes reason ps low = closed_acks me peer session ack m owes reason low

transmit_acks : (me peer w : ℕ) (L : List EndEntry) → All (Acks (accepted_count L)) (right_transmit me peer w L)
transmit_acks me peer w L = All-from_recursion (Acks (accepted_count L)) (right_transmit me peer w L)
    (either_acks (is_open L) me peer (number L) (accepted_count L + 1) (lowest L) (transmitted L) (accepted_count L) (data_arrived L) (owes_close L) (ending L) (take w (unacknowledged L)) (omega arith))

-- ---- the session of what a transmit gives

-- a frame of this session
abbrev pub Bears : ℕ → Frame → Type 0
Bears k frame = frame.session ≡ k

data_bear : (me peer session ack n : ℕ) (ps : List (List ℕ)) → AllByRecursion (Bears session) (data_frames me peer session ack n ps)
data_bear me peer session ack n [] = tt
data_bear me peer session ack n (p ∷ ps) = (refl, data_bear me peer session ack (n + 1) ps)

either_bear : (b : Bool) (me peer session ack n t : ℕ) (due owes : Bool) (reason : Option Reason) (ps : List (List ℕ))
    → AllByRecursion (Bears session) (cond b (open_frames me peer session ack n t due ps) (closed_frames me peer session ack owes reason))
either_bear true me peer session ack n t true owes reason [] = (refl, tt)
either_bear true me peer session ack n t false owes reason [] = tt
either_bear true me peer session ack n t due owes reason (p ∷ ps) = (refl, data_bear me peer session ack (max n t + 1) (drop (t - n) ps))
either_bear false me peer session ack n t due owes None ps = tt
either_bear false me peer session ack n t due true (Some reason) ps = (refl, tt)
either_bear false me peer session ack n t due false (Some reason) ps = tt

-- each is of the session that the end is in
pub transmit_bears : (me peer w : ℕ) (L : List EndEntry) → All (Bears (number L)) (right_transmit me peer w L)
transmit_bears me peer w L = All-from_recursion (Bears (number L)) (right_transmit me peer w L)
    (either_bear (is_open L) me peer (number L) (accepted_count L + 1) (lowest L) (transmitted L) (data_arrived L) (owes_close L) (ending L) (take w (unacknowledged L)))

All-weaker : (P Q : Frame → Type 0) → ((f : Frame) → P f → Q f) → (fs : List Frame) → All P fs → All Q fs
All-weaker P Q w fs h = λ k d lt. w _ (h k d lt)

-- what is said of the frames of session k alone
abbrev pub In : ℕ → (Frame → Type 0) → Frame → Type 0
In k P frame = frame.session ≡ k → P frame

in_any : (k : ℕ) (P : Frame → Type 0) (fs : List Frame) → All P fs → All (In k P) fs
in_any k P fs all = All-weaker P (In k P) (λ f p its. p) fs all

in_none : (k m : ℕ) (P : Frame → Type 0) (fs : List Frame) → m ≢ k → All (Bears m) fs → All (In k P) fs
in_none k m P fs other all = All-weaker (Bears m) (In k P) (λ f bears its. absurd (other (sym bears ∙ its))) fs all

in_weaker : (k : ℕ) (P Q : Frame → Type 0) → ((f : Frame) → P f → Q f) → (fs : List Frame) → All (In k P) fs → All (In k Q) fs
in_weaker k P Q w fs all = All-weaker (In k P) (In k Q) (λ f p its. w f (p its)) fs all

-- ---- the invariant of one direction in one session, from the calls of the sender in it to those of the receiver, with all frames that each of them gave

pub record Inv (k : ℕ) (sender receiver : List EndEntry) (given answered : List Frame) : Type 0 where
  -- each Data frame of the session that was given carries the payload of its number, and that was transmitted
  pub carried : All (In k (Carries (handed sender))) given
  pub below : All (In k (Below (transmitted sender))) given
  pub high : transmitted sender ≤ length (handed sender)
  -- the numbers that `send` told are 1, 2, ..
  pub numbers : handed_items sender ≡ with_numbers 1 (handed sender)
  -- what came of an item was transmitted, and handed with this number
  pub kept : (n : ℕ) (p : List ℕ) → payload n receiver ≡ Some p → (n ≤ transmitted sender) × Placed (handed sender) n p
  -- what the receiver's frames of the session acknowledge was accepted, and so was what the sender heard
  pub acks : All (In k (Acks (accepted_count receiver))) answered
  pub heard : lowest sender ≤ accepted_count receiver + 1
  -- what `front` told last is the first that waits
  pub looked : is_open receiver ≡ true → (item : ℕ × List ℕ) → told_item receiver ≡ Some item → right_front receiver ≡ Some item
  -- what was taken is a beginning of what was accepted, with its numbers
  pub few : takes receiver ≤ length (accepted receiver)
  pub taken_is : taken_items receiver ≡ with_numbers 1 (take (takes receiver) (accepted receiver))

-- the invariant of session k between two lists
abbrev pub Between : ℕ → (sender receiver : List EndEntry) → Type 0
Between k sender receiver = Inv k (up_to k sender) (up_to k receiver) (transmitted_frames sender) (transmitted_frames receiver)

numbered-append : (n : ℕ) (xs ys : List (List ℕ)) → with_numbers n (xs ++ ys) ≡ with_numbers n xs ++ with_numbers (n + length xs) ys
numbered-append n [] ys = ap (λ (m : ℕ). with_numbers m ys) (omega arith)
numbered-append n (x ∷ xs) ys = ap (λ (zs : List (ℕ × List ℕ)). (n, x) ∷ zs) (numbered-append (n + 1) xs ys ∙ ap (λ (m : ℕ). with_numbers (n + 1) xs ++ with_numbers m ys) (omega arith))

-- the number that `send` tells is the next
number_by : (n count : ℕ) (closed full over : Bool) → Ok n ≡ cond closed (Err refusal.Closed) (cond full (Err refusal.QueueFull) (cond over (Err refusal.SeqEnd) (Ok (count + 1)))) → n ≡ count + 1
number_by n count true full over e = absurd cc
number_by n count false true over e = absurd cc
number_by n count false false true e = absurd cc
number_by n count false false false e = cc

send_step : (k : ℕ) (kind : Kind) (payload : List ℕ) (n : ℕ) (S R : List EndEntry) (given answered : List Frame) → Ok n ≡ right_send kind S → Inv k S R given answered → Inv k (Send payload kind (Ok n) ∷ S) R given answered
send_step k kind payload n S R given answered right i =
    let next : n ≡ length (handed S) + 1 = number_by n (length (handed S)) (not (is_open S)) (is_limited kind && leb queue_limit (length (unacknowledged S))) (leb last_item (length (handed S))) right in
    let number : n ≡ 1 + length (handed S) = omega (arith, next) in
    record {
      carried = in_weaker k (Carries (handed S)) (Carries (handed S ++ payload ∷ [])) (λ f c d. Placed-append (handed S) (payload ∷ []) f.seq f.payload (c d)) given i.carried;
      below = i.below;
      high = omega (arith, i.high, length-append (handed S) (payload ∷ []));
      numbers = ap (λ (xs : List (ℕ × List ℕ)). xs ++ (n, payload) ∷ []) i.numbers ∙ ap (λ (m : ℕ). with_numbers 1 (handed S) ++ (m, payload) ∷ []) number ∙ sym (numbered-append 1 (handed S) (payload ∷ []));
      kept = λ m p came. let before = i.kept m p came in (before.0, Placed-append (handed S) (payload ∷ []) m p before.1);
      acks = i.acks;
      heard = i.heard;
      looked = i.looked;
      few = i.few;
      taken_is = i.taken_is;
    }

transmit_step : (k me peer window : ℕ) (frames : List Frame) (S R : List EndEntry) (given answered : List Frame) → frames ≡ right_transmit me peer window S → Inv k S R given answered → Inv k (Transmit frames ∷ S) R (given ++ frames) answered
transmit_step k me peer window frames S R given answered right i =
    let most : greatest_seq frames ≤ length (handed S) = subst (λ (fs : List Frame). greatest_seq fs ≤ length (handed S)) (sym right) (transmit_low me peer window S) in
    let t = max (transmitted S) (greatest_seq frames) in
    record {
      carried = All-append (In k (Carries (handed S))) given frames i.carried (in_any k (Carries (handed S)) frames (subst (λ (fs : List Frame). All (Carries (handed S)) fs) (sym right) (transmit_carries me peer window S)));
      below = All-append (In k (Below t)) given frames
          (in_weaker k (Below (transmitted S)) (Below t) (λ f low d. omega (arith, low d)) given i.below)
          (in_any k (Below t) frames (All-from_recursion (Below t) frames (all_below t frames (omega arith))));
      high = omega (arith, i.high, most);
      numbers = i.numbers;
      kept = λ m p came. let before = i.kept m p came in (omega (arith, before.0), before.1);
      acks = i.acks;
      heard = i.heard;
      looked = i.looked;
      few = i.few;
      taken_is = i.taken_is;
    }

-- frames of another session say nothing of this one
given_elsewhere : (k m : ℕ) (frames : List Frame) (S R : List EndEntry) (given answered : List Frame) → m ≢ k → All (Bears m) frames → Inv k S R given answered → Inv k S R (given ++ frames) answered
given_elsewhere k m frames S R given answered other bear i =
    record { carried = All-append (In k (Carries (handed S))) given frames i.carried (in_none k m (Carries (handed S)) frames other bear); below = All-append (In k (Below (transmitted S))) given frames i.below (in_none k m (Below (transmitted S)) frames other bear); high = i.high; numbers = i.numbers; kept = i.kept; acks = i.acks; heard = i.heard; looked = i.looked; few = i.few; taken_is = i.taken_is }

both_first : (p q : Bool) → (p && q) ≡ true → p ≡ true
both_first true q e = refl
both_first false q e = absurd cc

both_second : (p q : Bool) → (p && q) ≡ true → q ≡ true
both_second true q e = e
both_second false q e = absurd cc

heard_low : (b : Bool) (m n k : ℕ) → m ≤ k + 1 → (b ≡ true → n ≤ k + 1) → cond b (max m n) m ≤ k + 1
heard_low true m n k low more = let this = more refl in omega (arith, low, this)
heard_low false m n k low more = low

-- a frame that the sender hears acknowledges what was accepted in this session, if it is of it
hear_step : (k : ℕ) (frame : Frame) (count : ℕ) (S R : List EndEntry) (given answered : List Frame) → number S ≡ k → Contains answered frame → Inv k S R given answered → Inv k (Arrive frame (Ok (arrived.Took count)) ∷ S) R given answered
hear_step k frame count S R given answered here from i =
    let low : is_present frame S && is_open S && not (is_close frame.kind) ≡ true → frame.ack ≤ accepted_count R + 1 =
    λ heard_it. All-contains (In k (Acks (accepted_count R))) answered frame i.acks from (eqb-true _ _ (both_first (is_present frame S) _ (both_first (is_present frame S && is_open S) _ heard_it)) ∙ here) in
    record { carried = i.carried; below = i.below; high = i.high; numbers = i.numbers; kept = i.kept; acks = i.acks; heard = heard_low (is_present frame S && is_open S && not (is_close frame.kind)) (lowest S) frame.ack (accepted_count R) i.heard low; looked = i.looked; few = i.few; taken_is = i.taken_is }

-- the sender begins the session
sender_begins : (k h : ℕ) (done : Unit {0}) (S R : List EndEntry) (given answered : List Frame) → Inv k [] R given answered → Inv k (Reopen h (Ok done) ∷ S) R given answered
sender_begins k h done S R given answered i = record { carried = i.carried; below = i.below; high = i.high; numbers = i.numbers; kept = i.kept; acks = i.acks; heard = i.heard; looked = i.looked; few = i.few; taken_is = i.taken_is }

-- a call of the sender keeps it
sender_step : (k me peer : ℕ) (limits : Limits) (e : EndEntry) (S R : List EndEntry) → IsRight me peer limits e S → Rises S → ArrivesFrom (transmitted_frames R) e → Between k S R → Between k (e ∷ S) R
sender_step k me peer limits (Reopen h (Ok done)) S R right rises from i =
    begin_step (λ X given. Inv k X (up_to k R) given (transmitted_frames R)) k h done S rises (reopen_rises h S done right) (sender_begins k h done S (up_to k R) (transmitted_frames S) (transmitted_frames R)) i
sender_step k me peer limits (Send payload kind (Ok n)) S R right rises from i =
    call_step (λ X given. Inv k X (up_to k R) given (transmitted_frames R)) k (Send payload kind (Ok n)) S refl (λ here j. send_step k kind payload n S (up_to k R) (transmitted_frames S) (transmitted_frames R) right j) (λ other X j. j) i
sender_step k me peer limits (Transmit frames) S R right rises from i =
    let bear : All (Bears (number S)) frames = subst (λ (fs : List Frame). All (Bears (number S)) fs) (sym right) (transmit_bears me peer limits.window S) in
    call_step (λ X given. Inv k X (up_to k R) given (transmitted_frames R)) k (Transmit frames) S refl (λ here j. transmit_step k me peer limits.window frames S (up_to k R) (transmitted_frames S) (transmitted_frames R) right j)
    (λ other X j. given_elsewhere k (number S) frames X (up_to k R) (transmitted_frames S) (transmitted_frames R) other bear j) i
sender_step k me peer limits (Arrive frame (Ok (arrived.Took count))) S R right rises from i =
    call_step (λ X given. Inv k X (up_to k R) given (transmitted_frames R)) k (Arrive frame (Ok (arrived.Took count))) S refl (λ here j. hear_step k frame count S (up_to k R) (transmitted_frames S) (transmitted_frames R) here from j) (λ other X j. j) i
sender_step k me peer limits e S R right rises from i =
    call_step (λ X given. Inv k X (up_to k R) given (transmitted_frames R)) k e S refl (λ here j. record { carried = j.carried; below = j.below; high = j.high; numbers = j.numbers; kept = j.kept; acks = j.acks; heard = j.heard; looked = j.looked; few = j.few; taken_is = j.taken_is }) (λ other X j. j) i

-- ---- a call of the receiver keeps it

-- a front with the element after it
take_next : (k : ℕ) (xs : List (List ℕ)) (p : List ℕ) (ps : List (List ℕ)) → drop k xs ≡ p ∷ ps → (take (suc k) xs ≡ take k xs ++ p ∷ []) × (k < length xs)
take_next zero [] p ps e = absurd cc
take_next zero (x ∷ xs) p ps e = let same : x ≡ p = cc in (ap (λ (y : List ℕ). y ∷ []) same, omega arith)
take_next (suc k) [] p ps e = absurd cc
take_next (suc k) (x ∷ xs) p ps e = let h = take_next k xs p ps e in (ap (λ (zs : List (List ℕ)). x ∷ zs) h.0, omega (arith, h.1))

-- where something waits first, it is the first
first_waits : (n : ℕ) (xs : List (List ℕ)) → is_some (first_of n xs) ≡ true → (p : List ℕ) × (ps : List (List ℕ)) × (xs ≡ p ∷ ps)
first_waits n [] e = absurd cc
first_waits n (x ∷ xs) e = (x, xs, refl)

waits_open : (b : Bool) (xs : List (List ℕ)) (p : List ℕ) (ps : List (List ℕ)) → cond b xs [] ≡ p ∷ ps → (b ≡ true) × (xs ≡ p ∷ ps)
waits_open true xs p ps e = (refl, e)
waits_open false xs p ps e = absurd cc

-- what waits first waits first also once more waits
first_stays : (n : ℕ) (xs ys : List (List ℕ)) (item : ℕ × List ℕ) → first_of n xs ≡ Some item → first_of n (xs ++ ys) ≡ Some item
first_stays n [] ys item e = absurd cc
first_stays n (x ∷ xs) ys item e = e

front_stays : (b : Bool) (k : ℕ) (xs ys : List (List ℕ)) (item : ℕ × List ℕ) → k ≤ length xs → b ≡ true → first_of (k + 1) (cond b (drop k xs) []) ≡ Some item → first_of (k + 1) (cond b (drop k (xs ++ ys)) []) ≡ Some item
front_stays false k xs ys item few opened e = absurd cc
front_stays true k xs ys item few opened e = subst (λ (zs : List (List ℕ)). first_of (k + 1) zs ≡ Some item) (sym (drop-append-le k xs ys few)) (first_stays (k + 1) (drop k xs) ys item e)

-- what a number has come with, it had before, or this frame brought it
brought : (before : Option (List ℕ)) (brings : Bool) (mine p : List ℕ) → option_or before (cond brings (Some mine) None) ≡ Some p → (before ≡ Some p) ⊎ ((brings ≡ true) × (mine ≡ p))
brought (Some q) brings mine p e = inl e
brought None true mine p e = let same : mine ≡ p = cc in inr (refl, same)
brought None false mine p e = absurd cc

-- an item of the session that arrives
item_step : (k : ℕ) (frame : Frame) (count : ℕ) (S R : List EndEntry) (given answered : List Frame) → is_present frame R ≡ true → frame.session ≡ k → Contains given frame → Inv k S R given answered → Inv k S (Arrive frame (Ok (arrived.Took count)) ∷ R) given answered
item_step k frame count S R given answered present its from i =
    let e = Arrive frame (Ok (arrived.Took count)) in
    let more = filled (places (accepted_count R + 1) count (e ∷ R)) in
    let longer = length-append (accepted R) more in
    let same_count : accepted_count (e ∷ R) ≡ count + accepted_count R = rw present refl in
    let same_accepted : accepted (e ∷ R) ≡ accepted R ++ more = rw present refl in
    record {
      carried = i.carried;
      below = i.below;
      high = i.high;
      numbers = i.numbers;
      kept = λ n p came. elim (brought (payload n R) (is_present frame R && brings_at n frame (accepted_count R)) frame.payload p came) as (λ _. (n ≤ transmitted S) × Placed (handed S) n p) [
        | inl before ↦ i.kept n p before
        | inr now ↦
            let brings : brings_at n frame (accepted_count R) ≡ true = both_second (is_present frame R) _ now.0 in
            let item : is_data frame.kind && eqb frame.seq n ≡ true = both_first (is_data frame.kind && eqb frame.seq n) _ brings in
            let number : frame.seq ≡ n = eqb-true _ _ (both_second (is_data frame.kind) (eqb frame.seq n) item) in
            let placed : Placed (handed S) frame.seq frame.payload = All-contains (In k (Carries (handed S))) given frame i.carried from its (both_first (is_data frame.kind) (eqb frame.seq n) item) in
            let given_before : frame.seq ≤ transmitted S = All-contains (In k (Below (transmitted S))) given frame i.below from its (both_first (is_data frame.kind) (eqb frame.seq n) item) in
            (omega (arith, given_before, number), subst (λ (q : List ℕ). Placed (handed S) n q) now.1 (subst (λ (m : ℕ). Placed (handed S) m frame.payload) number placed))
      ];
      acks = subst (λ (m : ℕ). All (In k (Acks m)) answered) (sym same_count) (in_weaker k (Acks (accepted_count R)) (Acks (count + accepted_count R)) (λ f a. omega (arith, a)) answered i.acks);
      heard = omega (arith, i.heard, same_count);
      looked = λ opened item told. subst (λ (xs : List (List ℕ)). first_of (takes R + 1) (cond (is_open R) (drop (takes R) xs) []) ≡ Some item) (sym same_accepted) (front_stays (is_open R) (takes R) (accepted R) more item i.few opened (i.looked opened item told));
      few = subst (λ (xs : List (List ℕ)). takes R ≤ length xs) (sym same_accepted) (omega (arith, i.few, longer));
      taken_is = i.taken_is ∙ ap (with_numbers 1) (sym (take-append-le (takes R) (accepted R) more i.few)) ∙ ap (λ (xs : List (List ℕ)). with_numbers 1 (take (takes R) xs)) (sym same_accepted);
    }

-- a frame of another session that arrives
other_step : (k : ℕ) (frame : Frame) (count : ℕ) (S R : List EndEntry) (given answered : List Frame) → is_present frame R ≡ false → Inv k S R given answered → Inv k S (Arrive frame (Ok (arrived.Took count)) ∷ R) given answered
other_step k frame count S R given answered other i =
    let e = Arrive frame (Ok (arrived.Took count)) in
    let same_count : accepted_count R ≡ accepted_count (e ∷ R) = rw other refl in
    let same_accepted : accepted R ≡ accepted (e ∷ R) = rw other refl in
    record {
      carried = i.carried;
      below = i.below;
      high = i.high;
      numbers = i.numbers;
      kept = λ n p came. i.kept n p (sym (other_payload n frame count R other) ∙ came);
      acks = subst (λ (m : ℕ). All (In k (Acks m)) answered) same_count i.acks;
      heard = omega (arith, i.heard, same_count);
      looked = λ opened item told. subst (λ (xs : List (List ℕ)). first_of (takes R + 1) (cond (is_open R) (drop (takes R) xs) []) ≡ Some item) same_accepted (i.looked opened item told);
      few = subst (λ (xs : List (List ℕ)). takes R ≤ length xs) same_accepted i.few;
      taken_is = i.taken_is ∙ ap (λ (xs : List (List ℕ)). with_numbers 1 (take (takes R) xs)) same_accepted;
    }

arrive_step : (k : ℕ) (frame : Frame) (count : ℕ) (S R : List EndEntry) (given answered : List Frame) → number R ≡ k → Contains given frame → Inv k S R given answered → Inv k S (Arrive frame (Ok (arrived.Took count)) ∷ R) given answered
arrive_step k frame count S R given answered here from i =
    elim (is_present frame R) as (λ b. is_present frame R ≡ b → Inv k S (Arrive frame (Ok (arrived.Took count)) ∷ R) given answered) [
      | true ↦ λ present. item_step k frame count S R given answered present (eqb-true _ _ present ∙ here) from i
      | false ↦ λ other. other_step k frame count S R given answered other i
    ] refl

-- what `front` told is what a take takes
same_look : (t r : Option (ℕ × List ℕ)) → ((item : ℕ × List ℕ) → t ≡ Some item → r ≡ Some item) → option_or t r ≡ r
same_look None r h = refl
same_look (Some item) r h = sym (h item refl)

take_step : (k : ℕ) (S R : List EndEntry) (given answered : List Frame) → is_some (right_front R) ≡ true → Inv k S R given answered → Inv k S (Take ∷ R) given answered
take_step k S R given answered right i =
    let first = first_waits (takes R + 1) (waiting R) right in
    let opened = waits_open (is_open R) (drop (takes R) (accepted R)) first.0 first.1 first.2 in
    let next = take_next (takes R) (accepted R) first.0 first.1 opened.1 in
    let len : 1 + length (take (takes R) (accepted R)) ≡ takes R + 1 = omega (arith, i.few, length-take (takes R) (accepted R)) in
    let more : takes R + 1 ≡ suc (takes R) = omega arith in
    record {
      carried = i.carried;
      below = i.below;
      high = i.high;
      numbers = i.numbers;
      kept = i.kept;
      acks = i.acks;
      heard = i.heard;
      looked = λ o item none. absurd cc;
      few = omega (arith, next.1);
      taken_is =
          ap (λ (o : Option (ℕ × List ℕ)). taken_items R ++ option_to_list o) (same_look (told_item R) (right_front R) (i.looked opened.0))
          ∙ ap (λ (w : List (List ℕ)). taken_items R ++ option_to_list (first_of (takes R + 1) w)) first.2
          ∙ ap (λ (xs : List (ℕ × List ℕ)). xs ++ (takes R + 1, first.0) ∷ []) i.taken_is
          ∙ ap (λ (m : ℕ). with_numbers 1 (take (takes R) (accepted R)) ++ (m, first.0) ∷ []) (sym len)
          ∙ sym (numbered-append 1 (take (takes R) (accepted R)) (first.0 ∷ []))
          ∙ ap (with_numbers 1) (sym next.0)
          ∙ ap (λ (m : ℕ). with_numbers 1 (take m (accepted R))) (sym more);
    }

-- a transmit keeps it: its frames acknowledge what was accepted
answer_step : (k me peer window : ℕ) (frames : List Frame) (S R : List EndEntry) (given answered : List Frame) → frames ≡ right_transmit me peer window R → Inv k S R given answered → Inv k S (Transmit frames ∷ R) given (answered ++ frames)
answer_step k me peer window frames S R given answered right i =
    let mine : All (Acks (accepted_count R)) frames = subst (λ (fs : List Frame). All (Acks (accepted_count R)) fs) (sym right) (transmit_acks me peer window R) in
    record { carried = i.carried; below = i.below; high = i.high; numbers = i.numbers; kept = i.kept; acks = All-append (In k (Acks (accepted_count R))) answered frames i.acks (in_any k (Acks (accepted_count R)) frames mine); heard = i.heard; looked = i.looked; few = i.few; taken_is = i.taken_is }

-- frames of another session acknowledge nothing of this one
answered_elsewhere : (k m : ℕ) (frames : List Frame) (S R : List EndEntry) (given answered : List Frame) → m ≢ k → All (Bears m) frames → Inv k S R given answered → Inv k S R given (answered ++ frames)
answered_elsewhere k m frames S R given answered other bear i =
    record { carried = i.carried; below = i.below; high = i.high; numbers = i.numbers; kept = i.kept; acks = All-append (In k (Acks (accepted_count R))) answered frames i.acks (in_none k m (Acks (accepted_count R)) frames other bear); heard = i.heard; looked = i.looked; few = i.few; taken_is = i.taken_is }

-- a look keeps it: what it tells is the first that waits
front_step : (k : ℕ) (answer : Option (ℕ × List ℕ)) (S R : List EndEntry) (given answered : List Frame) → answer ≡ right_front R → Inv k S R given answered → Inv k S (Front answer ∷ R) given answered
front_step k answer S R given answered right i =
    record { carried = i.carried; below = i.below; high = i.high; numbers = i.numbers; kept = i.kept; acks = i.acks; heard = i.heard; looked = λ opened item e. sym right ∙ e; few = i.few; taken_is = i.taken_is }

-- so does a call that closes: nothing waits then
closing_step : (k : ℕ) (e : EndEntry) (S R : List EndEntry) (given answered : List Frame) → accepted (e ∷ R) ≡ accepted R → accepted_count (e ∷ R) ≡ accepted_count R → ((n : ℕ) → payload n (e ∷ R) ≡ payload n R) → takes (e ∷ R) ≡ takes R → taken_items (e ∷ R) ≡ taken_items R → is_open (e ∷ R) ≡ false → Inv k S R given answered → Inv k S (e ∷ R) given answered
closing_step k e S R given answered same_accepted same_count same_payload same_takes same_taken closed i = record {
  carried = i.carried;
  below = i.below;
  high = i.high;
  numbers = i.numbers;
  kept = λ n p its. i.kept n p (sym (same_payload n) ∙ its);
  acks = subst (λ (n : ℕ). All (In k (Acks n)) answered) (sym same_count) i.acks;
  heard = subst (λ (n : ℕ). lowest S ≤ n + 1) (sym same_count) i.heard;
  looked = λ opened item told_it. let no : true ≡ false = sym opened ∙ closed in absurd cc;
  few = subst (λ (n : ℕ). n ≤ length (accepted (e ∷ R))) (sym same_takes) (subst (λ (xs : List (List ℕ)). takes R ≤ length xs) (sym same_accepted) i.few);
  taken_is = same_taken ∙ i.taken_is ∙ ap (λ (n : ℕ). with_numbers 1 (take n (accepted R))) (sym same_takes) ∙ ap (λ (xs : List (List ℕ)). with_numbers 1 (take (takes (e ∷ R)) xs)) (sym same_accepted);
}

-- the receiver begins the session
receiver_begins : (k h : ℕ) (done : Unit {0}) (S R : List EndEntry) (given answered : List Frame) → Inv k S [] given answered → Inv k S (Reopen h (Ok done) ∷ R) given answered
receiver_begins k h done S R given answered i =
    record { carried = i.carried; below = i.below; high = i.high; numbers = i.numbers; kept = i.kept; acks = i.acks; heard = i.heard; looked = λ opened item told. absurd cc; few = i.few; taken_is = i.taken_is }

-- a call of the receiver keeps it
receiver_step : (k me peer : ℕ) (limits : Limits) (e : EndEntry) (S R : List EndEntry) → IsRight me peer limits e R → Rises R → ArrivesFrom (transmitted_frames S) e → Between k S R → Between k S (e ∷ R)
receiver_step k me peer limits (Reopen h (Ok done)) S R right rises from i =
    begin_step (λ X answered. Inv k (up_to k S) X (transmitted_frames S) answered) k h done R rises (reopen_rises h R done right) (receiver_begins k h done (up_to k S) R (transmitted_frames S) (transmitted_frames R)) i
receiver_step k me peer limits (Arrive frame (Ok (arrived.Took count))) S R right rises from i =
    call_step (λ X answered. Inv k (up_to k S) X (transmitted_frames S) answered) k (Arrive frame (Ok (arrived.Took count))) R refl (λ here j. arrive_step k frame count (up_to k S) R (transmitted_frames S) (transmitted_frames R) here from j) (λ other X j. j) i
receiver_step k me peer limits Take S R right rises from i =
    call_step (λ X answered. Inv k (up_to k S) X (transmitted_frames S) answered) k Take R refl (λ here j. take_step k (up_to k S) R (transmitted_frames S) (transmitted_frames R) right j) (λ other X j. j) i
receiver_step k me peer limits (Front answer) S R right rises from i =
    call_step (λ X answered. Inv k (up_to k S) X (transmitted_frames S) answered) k (Front answer) R refl (λ here j. front_step k answer (up_to k S) R (transmitted_frames S) (transmitted_frames R) right j) (λ other X j. j) i
receiver_step k me peer limits (Transmit frames) S R right rises from i =
    let bear : All (Bears (number R)) frames = subst (λ (fs : List Frame). All (Bears (number R)) fs) (sym right) (transmit_bears me peer limits.window R) in
    call_step (λ X answered. Inv k (up_to k S) X (transmitted_frames S) answered) k (Transmit frames) R refl (λ here j. answer_step k me peer limits.window frames (up_to k S) R (transmitted_frames S) (transmitted_frames R) right j)
    (λ other X j. answered_elsewhere k (number R) frames (up_to k S) X (transmitted_frames S) (transmitted_frames R) other bear j) i
receiver_step k me peer limits (Arrive frame (Ok (arrived.Closed ending))) S R right rises from i =
    call_step (λ X answered. Inv k (up_to k S) X (transmitted_frames S) answered) k (Arrive frame (Ok (arrived.Closed ending))) R refl
    (λ here j. closing_step k (Arrive frame (Ok (arrived.Closed ending))) (up_to k S) R (transmitted_frames S) (transmitted_frames R) refl refl (λ n. refl) refl refl refl j) (λ other X j. j) i
receiver_step k me peer limits (Tick (Ok (Some ending))) S R right rises from i =
    call_step (λ X answered. Inv k (up_to k S) X (transmitted_frames S) answered) k (Tick (Ok (Some ending))) R refl
    (λ here j. closing_step k (Tick (Ok (Some ending))) (up_to k S) R (transmitted_frames S) (transmitted_frames R) refl refl (λ n. refl) refl refl refl j) (λ other X j. j) i
receiver_step k me peer limits (Close why (Ok ending)) S R right rises from i =
    call_step (λ X answered. Inv k (up_to k S) X (transmitted_frames S) answered) k (Close why (Ok ending)) R refl
    (λ here j. closing_step k (Close why (Ok ending)) (up_to k S) R (transmitted_frames S) (transmitted_frames R) refl refl (λ n. refl) refl refl refl j) (λ other X j. j) i
receiver_step k me peer limits e S R right rises from i =
    call_step (λ X answered. Inv k (up_to k S) X (transmitted_frames S) answered) k e R refl (λ here j. record { carried = j.carried; below = j.below; high = j.high; numbers = j.numbers; kept = j.kept; acks = j.acks; heard = j.heard; looked = j.looked; few = j.few; taken_is = j.taken_is }) (λ other X j. j) i

-- ---- both directions, over whole runs

none : (k : ℕ) → Between k [] []
none k = record { carried = All-nil (In k (Carries [])); below = All-nil (In k (Below 0)); high = omega arith; numbers = refl; kept = λ n p came. absurd cc; acks = All-nil (In k (Acks 0)); heard = omega arith; looked = λ opened item e. absurd cc; few = omega arith; taken_is = refl }

-- what stands behind a front
behind_front : (front : List (List ℕ)) (p : List ℕ) (rest : List (List ℕ)) → slice_get (front ++ p ∷ rest) (length front) ≡ Some p
behind_front [] p rest = refl
behind_front (x ∷ front) p rest = let next : length (x ∷ front) ≡ suc (length front) = omega arith in ap (slice_get (x ∷ front ++ p ∷ rest)) next ∙ behind_front front p rest

-- a payload of this number stands there
placed_at : (hs : List (List ℕ)) (n : ℕ) (p : List ℕ) → Placed hs n p → slice_get hs (n - 1) ≡ Some p
placed_at hs n p h =
    let place : n - 1 ≡ length h.front = omega (arith, h.place) in
    let there : (front : List (List ℕ)) → slice_get (front ++ p ∷ h.rest) (length front) ≡ Some p = λ front. behind_front front p h.rest in
    ap (slice_get hs) place ∙ ap (λ (xs : List (List ℕ)). slice_get xs (length h.front)) (sym h.whole) ∙ there h.front

-- what agrees with a list in each of its places is a beginning of it
beginning : (xs ys : List (List ℕ)) → ((i : ℕ) → i < length xs → slice_get xs i ≡ slice_get ys i) → xs ++ drop (length xs) ys ≡ ys
beginning [] ys same = refl
beginning (x ∷ xs) [] same = let no : Some x ≡ None = same 0 (omega arith) in absurd cc
beginning (x ∷ xs) (y ∷ ys) same =
    let first : Some x ≡ Some y = same 0 (omega arith) in
    let one : x ≡ y = cc in
    ap (λ (z : List ℕ). z ∷ (xs ++ drop (length xs) ys)) one ∙ ap (λ (zs : List (List ℕ)). y ∷ zs) (beginning xs ys (λ i within. same (suc i) (omega (arith, within))))

-- what was accepted of an item, and how far it came
accepted_placed : (k : ℕ) (S R : List EndEntry) (given answered : List Frame) → AllCame R → Inv k S R given answered → (i : ℕ) → i < length (accepted R) → (p : List ℕ) × (slice_get (accepted R) i ≡ Some p) × (i + 1 ≤ transmitted S) × (slice_get (handed S) i ≡ Some p)
accepted_placed k S R given answered came inv i within =
    let len = accepted_length R came in
    let there = within_some (accepted R) i within in
    let known : payload (i + 1) R ≡ Some there.0 = sym (accepted_at R came i (omega (arith, len, within))) ∙ there.1 in
    let placed = inv.kept (i + 1) there.0 known in
    let number : i + 1 - 1 ≡ i = omega arith in
    (there.0, there.1, placed.0, ap (slice_get (handed S)) (sym number) ∙ placed_at (handed S) (i + 1) there.0 placed.1)

accepted_front : (k : ℕ) (S R : List EndEntry) (given answered : List Frame) → AllCame R → Inv k S R given answered → accepted R ++ drop (length (accepted R)) (handed S) ≡ handed S
accepted_front k S R given answered came inv = beginning (accepted R) (handed S) (λ i within. let placed = accepted_placed k S R given answered came inv i within in placed.1 ∙ sym placed.3)

transmitted_far : (k : ℕ) (S R : List EndEntry) (given answered : List Frame) → AllCame R → Inv k S R given answered → (n : ℕ) → n ≡ length (accepted R) → n ≤ transmitted S
transmitted_far k S R given answered came inv zero e = omega arith
transmitted_far k S R given answered came inv (suc n) e = let placed = accepted_placed k S R given answered came inv n (omega (arith, e)) in omega (arith, placed.2)

fronts_of : (k : ℕ) (S R : List EndEntry) (given answered : List Frame) → AllCame R → Inv k S R given answered → IsBeginning (taken_items R) (handed_items S)
fronts_of k S R given answered came i =
    let n = takes R in
    let rest = drop (length (accepted R)) (handed S) in
    let all : take n (accepted R) ++ (drop n (accepted R) ++ rest) ≡ handed S = sym (append_assoc (take n (accepted R)) (drop n (accepted R)) rest) ∙ ap (λ (xs : List (List ℕ)). xs ++ rest) (take-append-drop n (accepted R)) ∙ accepted_front k S R given answered came i in (
      with_numbers (1 + length (take n (accepted R))) (drop n (accepted R) ++ rest),
      ap (λ (xs : List (ℕ × List ℕ)). xs ++ with_numbers (1 + length (take n (accepted R))) (drop n (accepted R) ++ rest)) i.taken_is
          ∙ sym (numbered-append 1 (take n (accepted R)) (drop n (accepted R) ++ rest)) ∙ ap (with_numbers 1) all ∙ sym i.numbers,
    )

reach_of : (k : ℕ) (S R : List EndEntry) (given answered : List Frame) → AllCame R → Inv k S R given answered → Reaches S R
reach_of k S R given answered came i =
    let len = accepted_length R came in
    record {
      kept = λ n p its. let placed = i.kept n p its in (placed.0, placed_at (handed S) n p placed.1);
      front = (drop (length (accepted R)) (handed S), accepted_front k S R given answered came i);
      acknowledged_accepted = omega (arith, len, i.heard);
      accepted_transmitted = transmitted_far k S R given answered came i (length (accepted R)) refl;
      transmitted_handed = i.high;
    }

-- what holds of every list of right answers: the numbers of its sessions rise, what was accepted had come, and nothing was taken at a closed end
pub record Orderly (L : List EndEntry) : Type 0 where
  pub rises : Rises L
  pub came : AllCame L
  pub while_open : TakesWhileOpen L

takes_open : (me peer : ℕ) (limits : Limits) (e : EndEntry) (L : List EndEntry) → IsRight me peer limits e L → TakesWhileOpen L → TakesWhileOpen (e ∷ L)
takes_open me peer limits Take L right before =
    let first = first_waits (takes L + 1) (waiting L) right in
    ((waits_open (is_open L) (drop (takes L) (accepted L)) first.0 first.1 first.2).0, before)
takes_open me peer limits (_) L right before = before

orderly_step : (me peer : ℕ) (limits : Limits) (e : EndEntry) (L : List EndEntry) → IsRight me peer limits e L → Orderly L → Orderly (e ∷ L)
orderly_step me peer limits e L right before = record { rises = (right_rises me peer limits e L right, before.rises); came = (right_came me peer limits e L right, before.came); while_open = takes_open me peer limits e L right before.while_open }

-- what holds of the two lists of a run
pub record Holds (first second : List EndEntry) : Type 0 where
  pub to_second : (k : ℕ) → Between k first second
  pub to_first : (k : ℕ) → Between k second first
  pub first_orderly : Orderly first
  pub second_orderly : Orderly second

both : (a b : ℕ) (at_a at_b : Limits) (J : List PairEntry) → PairRun a b at_a at_b J → Holds (first_calls J) (second_calls J)
both a b at_a at_b [] run = record { to_second = none; to_first = none; first_orderly = record { rises = tt; came = tt; while_open = tt }; second_orderly = record { rises = tt; came = tt; while_open = tt } }
both a b at_a at_b (First e ∷ J) run =
    let i = both a b at_a at_b J run.0 in
    record {
      to_second = λ k. sender_step k a b at_a e (first_calls J) (second_calls J) run.1 i.first_orderly.rises run.2 (i.to_second k);
      to_first = λ k. receiver_step k a b at_a e (second_calls J) (first_calls J) run.1 i.first_orderly.rises run.2 (i.to_first k);
      first_orderly = orderly_step a b at_a e (first_calls J) run.1 i.first_orderly;
      second_orderly = i.second_orderly;
    }
both a b at_a at_b (Second e ∷ J) run =
    let i = both a b at_a at_b J run.0 in
    record {
      to_second = λ k. receiver_step k b a at_b e (first_calls J) (second_calls J) run.1 i.second_orderly.rises run.2 (i.to_second k);
      to_first = λ k. sender_step k b a at_b e (second_calls J) (first_calls J) run.1 i.second_orderly.rises run.2 (i.to_first k);
      first_orderly = i.first_orderly;
      second_orderly = orderly_step b a at_b e (second_calls J) run.1 i.second_orderly;
    }

session_fronts : (k : ℕ) (S R : List EndEntry) → Orderly R → Between k S R → SessionFronts k S R
session_fronts k S R right i = record { taken = fronts_of k (up_to k S) (up_to k R) (transmitted_frames S) (transmitted_frames R) (came_up_to k R right.came) i; numbers = i.numbers }

session_reach : (k : ℕ) (S R : List EndEntry) → Orderly R → Between k S R → Reaches (up_to k S) (up_to k R)
session_reach k S R right i = reach_of k (up_to k S) (up_to k R) (transmitted_frames S) (transmitted_frames R) (came_up_to k R right.came) i

-- the pair law
pub pair_law : PairLaw
pair_law a b at_a at_b J run =
    let i = both a b at_a at_b J run in
    record {
      at_second = λ k. session_fronts k (first_calls J) (second_calls J) i.second_orderly (i.to_second k);
      at_first = λ k. session_fronts k (second_calls J) (first_calls J) i.first_orderly (i.to_first k);
      second_while_open = i.second_orderly.while_open;
      first_while_open = i.first_orderly.while_open;
    }

-- how far items come
pub accepted_law : AcceptedLaw
accepted_law a b at_a at_b J run k =
    let i = both a b at_a at_b J run in
    (session_reach k (first_calls J) (second_calls J) i.second_orderly (i.to_second k), session_reach k (second_calls J) (first_calls J) i.first_orderly (i.to_first k))
