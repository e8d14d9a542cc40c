-- What an end keeps and accepts once a frame has arrived, by the calls that it stands for.
use Rattle.std.proofs.Common.{◌≡◌, ℕ, zero, suc, ◌+◌, ◌-◌, ◌<◌, ◌≤◌, ◌==◌, ◌&&◌, ◌||◌, max, not, true, false, Bool, nat_lt, nat_le, if◌then◌else◌, List, [], ◌∷◌, ◌++◌, length, take, drop, replicate, Option, Some, None, Ok, Err, eqb, is_none, arith, refl, sym, ap, subst, ◌∙◌}
use Rattle.std.specs.List.{slice_get}
use Rattle.std.specs.Option.{option_or}
use Rattle.std.proofs.lemmas.Bool.Decides.{nat_tests}
use Rattle.std.proofs.lemmas.List.{append-nil, drop-drop, drop-append-le, length-append}
use Rattle.nob_ids.specs.declared.limits.Limits.{Limits}
use Rattle.nob_frame.specs.declared.frame.Frame.{Frame}
use Rattle.nob_frame.specs.Kinds.{is_data, is_close}
use Rattle.nob_model_session.specs.declared.refusal.EndRefusal.{EndRefusal}
use Rattle.nob_model_session.specs.declared.entry.Arrived.{Arrived}
use Rattle.nob_model_session.specs.declared.entry.Arrived.TheVariants as arrived
use Rattle.nob_model_session.specs.declared.entry.EndEntry.{EndEntry}
use Rattle.nob_model_session.specs.declared.entry.EndEntry.TheVariants.{Arrive}
use Rattle.nob_model_session.specs.End as words
use Rattle.nob_model_session.specs.End.{is_present, is_known, is_open, accepted, accepted_count, takes, waiting, brings_at, is_in_reach, payload, places, filled}
use Rattle.nob_model_session.specs.Right.{IsRight, in_a_row, is_of_pair, right_arrive, taken_by}
use Rattle.nob_model_session.proofs.Arriving.{payload_beyond, places_append, places_at, places_drop, places_length, places_take, row_length, taken_is}
use Rattle.nob_session.specs.Answers.{KeepsAnew}
use Rattle.nob_session.specs.Calls.{acceptable, accepting, keeping}
use Rattle.nob_session.specs.declared.session.Session.TheInside.{Inside}
use Rattle.nob_session.specs.Keeping.{moved_up, put_at}
use Rattle.nob_session.specs.Sound.{IsSound, as_seen}
use Rattle.nob_session.specs.Stands.{End, Stands, end_of, heard, is_open_end, passed_over}
use Rattle.nob_session.proofs.Kept.{same_places}
use Rattle.nob_session.proofs.Low.{reach_low, reach_near, row_taken}

-- the calls with a frame more, which was heard and took so many items
abbrev with_arrival : Frame → ℕ → List EndEntry → List EndEntry
with_arrival frame k L = Arrive frame (Ok (arrived.Took k)) ∷ L

or_none : (x : Option (List ℕ)) → option_or x None ≡ x
or_none None = refl
or_none (Some y) = refl

both_false : (b c : Bool) → c ≡ false → b && c ≡ false
both_false true c isnt = isnt
both_false false c isnt = refl

none_of : (b c : Bool) → b ≡ false → b && c ≡ false
none_of true c isnt = absurd cc
none_of false c isnt = refl

-- a frame that doesn't bring the payload of a number leaves it
unchanged : (m : ℕ) (frame : Frame) (k : ℕ) (L : List EndEntry) → (is_present frame L && brings_at m frame (accepted_count L)) ≡ false → payload m (with_arrival frame k L) ≡ payload m L
unchanged m frame k L isnt = ap (λ b. option_or (payload m L) (if b then Some frame.payload else None)) isnt ∙ or_none (payload m L)

not_brought : (m : ℕ) (frame : Frame) (k : ℕ) (L : List EndEntry) → brings_at m frame (accepted_count L) ≡ false → payload m (with_arrival frame k L) ≡ payload m L
not_brought m frame k L isnt = unchanged m frame k L (both_false (is_present frame L) _ isnt)

-- nor does one of another session bring any
other_session : (m : ℕ) (frame : Frame) (k : ℕ) (L : List EndEntry) → is_present frame L ≡ false → payload m (with_arrival frame k L) ≡ payload m L
other_session m frame k L isnt = unchanged m frame k L (none_of (is_present frame L) _ isnt)

-- places to which the frame brings nothing
same_from : (n count : ℕ) (frame : Frame) (k : ℕ) (L : List EndEntry) → ((m : ℕ) → n ≤ m → brings_at m frame (accepted_count L) ≡ false) → places n count (with_arrival frame k L) ≡ places n count L
unfolding places
same_from n zero frame k L none = refl
same_from n (suc count) frame k L none = rw (not_brought n frame k L (none n (omega arith)), same_from (n + 1) count frame k L (λ m low. none m (omega (arith, low)))) refl

no_data : (m : ℕ) (frame : Frame) (count : ℕ) → is_data frame.kind ≡ false → brings_at m frame count ≡ false
no_data m frame count other = grind (arith, nat_tests, other)

out_of_reach : (m : ℕ) (frame : Frame) (count : ℕ) → is_in_reach count frame.seq ≡ false → brings_at m frame count ≡ false
out_of_reach m frame count far = grind (arith, nat_tests, far)

behind : (m : ℕ) (frame : Frame) (count : ℕ) → frame.seq < m → brings_at m frame count ≡ false
behind m frame count below = grind (arith, nat_tests, below)

before : (m : ℕ) (frame : Frame) (count : ℕ) → m < frame.seq → brings_at m frame count ≡ false
before m frame count below = grind (arith, nat_tests, below)

at_once : (m : ℕ) (frame : Frame) (count : ℕ) → m ≡ frame.seq → is_data frame.kind ≡ true → is_in_reach count frame.seq ≡ true → brings_at m frame count ≡ true
at_once m frame count same its reach = grind (arith, nat_tests, same, its, reach)

both : (b c : Bool) → b ≡ true → c ≡ true → b && c ≡ true
both true c is its = its
both false c is its = is

-- the frame's payload in the place of its number
put_here : (x : Option (List ℕ)) (p : List ℕ) (more : List (Option (List ℕ))) → option_or x (Some p) ∷ more ≡ put_at 0 p (x ∷ more)
put_here None p more = refl
put_here (Some y) p more = refl

-- a Data frame in reach puts its payload into the place of its number, if that is empty
places_put : (n count : ℕ) (frame : Frame) (k : ℕ) (L : List EndEntry) → is_present frame L ≡ true → is_data frame.kind ≡ true → is_in_reach (accepted_count L) frame.seq ≡ true → n ≤ frame.seq
    → places n count (with_arrival frame k L) ≡ put_at (frame.seq - n) frame.payload (places n count L)
unfolding places
places_put n zero frame k L present its reach low = refl
places_put n (suc count) frame k L present its reach low =
    elim (n == frame.seq) as (λ b. n == frame.seq ≡ b → payload n (with_arrival frame k L) ∷ places (n + 1) count (with_arrival frame k L) ≡ put_at (frame.seq - n) frame.payload (payload n L ∷ places (n + 1) count L)) [
      | true ↦ λ same.
          let here : n ≡ frame.seq = grind (arith, nat_tests, same) in
          let first : frame.seq - n ≡ 0 = omega (arith, here) in
          let brought : payload n (with_arrival frame k L) ≡ option_or (payload n L) (Some frame.payload) = ap (λ b. option_or (payload n L) (if b then Some frame.payload else None)) (both (is_present frame L) _ present (at_once n frame (accepted_count L) here its reach)) in
          rw (first, brought, same_from (n + 1) count frame k L (λ m above. behind m frame (accepted_count L) (omega (arith, above, here)))) (put_here (payload n L) frame.payload (places (n + 1) count L))
      | false ↦ λ other.
          let above : n < frame.seq = grind (arith, nat_tests, other, low) in
          let later : frame.seq - n ≡ suc (frame.seq - (n + 1)) = omega (arith, above) in
          rw (later, not_brought n frame k L (before n frame (accepted_count L) above)) (ap (λ (ps : List (Option (List ℕ))). payload n L ∷ ps) (places_put (n + 1) count frame k L present its reach (omega (arith, above))))
    ] refl

-- what is kept with the frame stands in the places as they are then
pub kept_places : (frame : Frame) (k : ℕ) (L : List EndEntry) → is_present frame L ≡ true → is_data frame.kind ≡ true
    → (if is_in_reach (accepted_count L) frame.seq then put_at (frame.seq - (accepted_count L + 1)) frame.payload (places (accepted_count L + 1) 64 L) else places (accepted_count L + 1) 64 L) ≡ places (accepted_count L + 1) 64 (with_arrival frame k L)
kept_places frame k L present its =
    elim (is_in_reach (accepted_count L) frame.seq) as (λ b. is_in_reach (accepted_count L) frame.seq ≡ b → (if b then put_at (frame.seq - (accepted_count L + 1)) frame.payload (places (accepted_count L + 1) 64 L) else places (accepted_count L + 1) 64 L) ≡ places (accepted_count L + 1) 64 (with_arrival frame k L)) [
      | true ↦ λ reach. let low = reach_low (accepted_count L) frame.seq reach in sym (places_put (accepted_count L + 1) 64 frame k L present its reach (omega (arith, low)))
      | false ↦ λ far. sym (same_from (accepted_count L + 1) 64 frame k L (λ m low. out_of_reach m frame (accepted_count L) far))
    ] refl

-- nothing stands in the places beyond the reach
none_beyond : (n count : ℕ) (L : List EndEntry) → accepted_count L + 64 < n → places n count L ≡ replicate count None
unfolding places
none_beyond n zero L far = refl
none_beyond n (suc count) L far = rw (payload_beyond n L far, none_beyond (n + 1) count L (omega (arith, far))) refl

-- a frame that takes nothing counts none
none_counted : (present : Bool) (count : ℕ) → (if present then 0 + count else count) ≡ count
none_counted true count = omega arith
none_counted false count = refl

-- once so many are accepted the places have moved up
pub moved_places : (frame : Frame) (k : ℕ) (L : List EndEntry) → k ≤ 64 → moved_up k (places (accepted_count L + 1) 64 (with_arrival frame 0 L)) ≡ places (k + accepted_count L + 1) 64 (with_arrival frame k L)
moved_places frame k L few =
    let n = accepted_count L + 1 in
    let K = with_arrival frame 0 L in
    let all : 64 - k + k ≡ 64 = omega (arith, few) in
    let end : n + k + (64 - k) ≡ n + 64 = omega (arith, few) in
    let start : n + k ≡ k + accepted_count L + 1 = omega arith in
    ap (λ (ps : List (Option (List ℕ))). ps ++ replicate k None) (places_drop n 64 k K)
    ∙ ap (λ (ps : List (Option (List ℕ))). places (n + k) (64 - k) K ++ ps) (sym (none_beyond (n + 64) k K (omega (arith, none_counted (is_present frame L) (accepted_count L)))) ∙ ap (λ (m : ℕ). places m k K) (sym end))
    ∙ sym (places_append (n + k) (64 - k) k K)
    ∙ ap (λ (m : ℕ). places (n + k) m K) all
    ∙ ap (λ (m : ℕ). places m 64 K) start
    ∙ same_places (k + accepted_count L + 1) 64 K (with_arrival frame k L) (λ m. refl)

-- what was accepted stands in the first places
pub accepted_places : (frame : Frame) (k : ℕ) (L : List EndEntry) → k ≤ 64 → filled (places (accepted_count L + 1) k (with_arrival frame k L)) ≡ filled (take k (places (accepted_count L + 1) 64 (with_arrival frame 0 L)))
accepted_places frame k L few = ap filled (same_places (accepted_count L + 1) k (with_arrival frame k L) (with_arrival frame 0 L) (λ m. refl) ∙ sym (places_take (accepted_count L + 1) 64 k (with_arrival frame 0 L) few))

-- two ends are the same if all that is seen of them is
pub record SameEnd (e f : End) : Type 0 where
  pub me : e.me ≡ f.me
  pub peer : e.peer ≡ f.peer
  pub limits : e.limits ≡ f.limits
  pub number : e.number ≡ f.number
  pub seen : e.seen ≡ f.seen
  pub handed : e.handed ≡ f.handed
  pub lowest : e.lowest ≡ f.lowest
  pub unacknowledged : e.unacknowledged ≡ f.unacknowledged
  pub transmitted : e.transmitted ≡ f.transmitted
  pub accepted : e.accepted ≡ f.accepted
  pub came : e.came ≡ f.came
  pub taken : e.taken ≡ f.taken
  pub waiting : e.waiting ≡ f.waiting
  pub early : e.early ≡ f.early
  pub data_arrived : e.data_arrived ≡ f.data_arrived
  pub ticks : e.ticks ≡ f.ticks
  pub ending : e.ending ≡ f.ending
  pub owes_close : e.owes_close ≡ f.owes_close

pub same_end : (e f : End) → SameEnd e f → e ≡ f
same_end e f same =
    let all : ◌≡◌ {A = End} (record { me = e.me; peer = e.peer; limits = e.limits; number = e.number; seen = e.seen; handed = e.handed; lowest = e.lowest; unacknowledged = e.unacknowledged; transmitted = e.transmitted; accepted = e.accepted; came = e.came; taken = e.taken; waiting = e.waiting; early = e.early; data_arrived = e.data_arrived; ticks = e.ticks; ending = e.ending; owes_close = e.owes_close }) (record { me = f.me; peer = f.peer; limits = f.limits; number = f.number; seen = f.seen; handed = f.handed; lowest = f.lowest; unacknowledged = f.unacknowledged; transmitted = f.transmitted; accepted = f.accepted; came = f.came; taken = f.taken; waiting = f.waiting; early = f.early; data_arrived = f.data_arrived; ticks = f.ticks; ending = f.ending; owes_close = f.owes_close }) = rw (same.me, same.peer, same.limits, same.number, same.seen, same.handed, same.lowest, same.unacknowledged, same.transmitted, same.accepted, same.came, same.taken, same.waiting, same.early, same.data_arrived, same.ticks, same.ending, same.owes_close) refl in
    all

-- a frame of the present session is of a known one
pub present_known : (m n : ℕ) → (m == n) ≡ true → nat_le m n ≡ true
present_known m n same = grind (arith, nat_tests, same)

-- what is unacknowledged once a frame is heard
left_by : (L : List EndEntry) (frame : Frame) → is_present frame L ≡ true → is_open L ≡ true → is_close frame.kind ≡ false → 1 ≤ words.lowest L
    → drop (frame.ack - words.lowest L) (words.unacknowledged L) ≡ words.unacknowledged (with_arrival frame 0 L)
left_by L frame present opened other low =
    let both : words.lowest L - 1 + (frame.ack - words.lowest L) ≡ max (words.lowest L) frame.ack - 1 = omega (arith, low) in
    rw (present, opened, other) (drop-drop (frame.ack - words.lowest L) (words.lowest L - 1) (words.handed L) ∙ ap (λ (m : ℕ). drop m (words.handed L)) both)

or_false : (b c : Bool) → c ≡ false → b ≡ b || c
or_false true c isnt = refl
or_false false c isnt = sym isnt

-- what the end leaves that heard a Data frame: it keeps what the frame brings, and accepts what is kept in a row
heard_item : (me peer : ℕ) (limits : Limits) (L : List EndEntry) (frame : Frame) (k : ℕ) → is_present frame L ≡ true → is_open L ≡ true → is_data frame.kind ≡ true → is_close frame.kind ≡ false → 1 ≤ words.lowest L → takes L ≤ length (accepted L)
    → k ≡ acceptable (keeping (end_of me peer limits L) frame) → heard (accepting k (keeping (end_of me peer limits L) frame)) frame ≡ end_of me peer limits (with_arrival frame k L)
heard_item me peer limits L frame k present opened its other low taken count =
    let n = accepted_count L + 1 in
    let known : is_known frame L ≡ true = present_known frame.session (words.number L) present in
    let kept : (keeping (end_of me peer limits L) frame).early ≡ places n 64 (with_arrival frame 0 L) = rw opened (kept_places frame 0 L present its) in
    let row : k ≡ in_a_row (256 - length (waiting L)) (places n 64 (with_arrival frame 0 L)) = count ∙ ap (in_a_row (256 - length (waiting L))) kept in
    let few : k ≤ 64 = omega (arith, row, row_length (256 - length (waiting L)) (places n 64 (with_arrival frame 0 L)), places_length n 64 (with_arrival frame 0 L)) in
    let new = filled (places n k (with_arrival frame k L)) in
    let brought : new ≡ filled (take k (places n 64 (with_arrival frame 0 L))) = accepted_places frame k L few in
    let long : length new ≡ k = ap length brought ∙ subst (λ (m : ℕ). length (filled (take m (places n 64 (with_arrival frame 0 L)))) ≡ m) (sym row) (row_taken (256 - length (waiting L)) (places n 64 (with_arrival frame 0 L))) in
    same_end _ _ (record {
      me = refl;
      peer = refl;
      limits = refl;
      number = refl;
      seen = refl;
      handed = refl;
      lowest = rw (present, opened, other) refl;
      unacknowledged = left_by L frame present opened other low;
      transmitted = refl;
      accepted = rw present (omega arith);
      came = rw present (ap (λ (m : ℕ). length (accepted L) + m) (sym long) ∙ sym (length-append (accepted L) new));
      taken = refl;
      waiting = rw present (ap (λ (ps : List (Option (List ℕ))). waiting L ++ filled (take k ps)) kept ∙ ap (λ (ps : List (List ℕ)). waiting L ++ ps) (sym brought) ∙ rw opened (sym (drop-append-le (takes L) (accepted L) new taken)));
      early = ap (moved_up k) kept ∙ moved_places frame k L few ∙ rw (present, opened) refl;
      data_arrived = rw (known, opened) refl;
      ticks = rw (present, opened, other) refl;
      ending = refl;
      owes_close = or_false (words.owes_close L) _ (rw (known, opened) refl);
    })

-- nothing is accepted with a frame that takes nothing
pub none_taken : (frame : Frame) (L : List EndEntry) → accepted L ++ filled (places (accepted_count L + 1) 0 (Arrive frame (Ok (arrived.Took 0)) ∷ L)) ≡ accepted L
unfolding places
none_taken frame L = append-nil (accepted L)

-- a refused frame brings nothing
pub none_brought : (n count : ℕ) (frame : Frame) (refusal : EndRefusal) (L : List EndEntry) → places n count (Arrive frame (Err refusal) ∷ L) ≡ places n count L
none_brought n count frame refusal L = same_places n count (Arrive frame (Err refusal) ∷ L) L (λ m. refl)

-- nor does a frame that has no item
places_other : (n count : ℕ) (frame : Frame) (L : List EndEntry) → is_data frame.kind ≡ false → places n count (Arrive frame (Ok (arrived.Took 0)) ∷ L) ≡ places n count L
places_other n count frame L other = same_from n count frame 0 L (λ m low. no_data m frame (accepted_count L) other)

-- nothing is accepted with it, whether or not it is of the present session
none_more : (present : Bool) (frame : Frame) (L : List EndEntry) → (if present then accepted L ++ filled (places (accepted_count L + 1) 0 (with_arrival frame 0 L)) else accepted L) ≡ accepted L
none_more true frame L = none_taken frame L
none_more false frame L = refl

-- what the end leaves that heard a frame without an item
heard_other : (me peer : ℕ) (limits : Limits) (L : List EndEntry) (frame : Frame) → is_present frame L ≡ true → is_open L ≡ true → is_data frame.kind ≡ false → is_close frame.kind ≡ false → 1 ≤ words.lowest L
    → heard (end_of me peer limits L) frame ≡ end_of me peer limits (with_arrival frame 0 L)
heard_other me peer limits L frame present opened plain other low =
    let known : is_known frame L ≡ true = present_known frame.session (words.number L) present in
    same_end _ _ (record {
      me = refl;
      peer = refl;
      limits = refl;
      number = refl;
      seen = refl;
      handed = refl;
      lowest = rw (present, opened, other) refl;
      unacknowledged = left_by L frame present opened other low;
      transmitted = refl;
      accepted = sym (none_counted (is_present frame L) (accepted_count L));
      came = ap length (sym (none_more (is_present frame L) frame L));
      taken = refl;
      waiting = rw opened (ap (drop (takes L)) (sym (none_more (is_present frame L) frame L)));
      early = rw opened (sym (places_other (accepted_count L + 1) 64 frame L plain) ∙ ap (λ (m : ℕ). places (m + 1) 64 (with_arrival frame 0 L)) (sym (none_counted (is_present frame L) (accepted_count L))));
      data_arrived = rw (known, opened) refl;
      ticks = rw (present, opened, other) refl;
      ending = refl;
      owes_close = or_false (words.owes_close L) _ (rw (known, opened) refl);
    })

-- ---- frames that are passed over

-- that is so of frames of an older session, and of all at a closed end
apart_by : (m n : ℕ) (opened : Bool) → (nat_lt m n || not opened) ≡ true → ((m == n) && opened) ≡ false
apart_by m n true older = grind (arith, nat_tests, older)
apart_by m n false older = both_false (m == n) false refl

-- nothing that needs both holds
never : (present opened c : Bool) → (present && opened) ≡ false → (present && opened && c) ≡ false
never true true c none = absurd cc
never true false c none = refl
never false opened c none = refl

-- where the end is open the frame is of another session
elsewhere : (present opened : Bool) → (present && opened) ≡ false → opened ≡ true → present ≡ false
elsewhere true true none is = none
elsewhere true false none is = absurd cc
elsewhere false opened none is = refl

-- so what is kept stays
kept_still : (frame : Frame) (L : List EndEntry) → (is_present frame L && is_open L) ≡ false → words.early L ≡ words.early (with_arrival frame 0 L)
kept_still frame L none =
    elim (is_open L) as (λ o. is_open L ≡ o → (if o then places (accepted_count L + 1) 64 L else []) ≡ (if o then places (accepted_count (with_arrival frame 0 L) + 1) 64 (with_arrival frame 0 L) else [])) [
      | true ↦ λ opened.
          let other = elsewhere (is_present frame L) (is_open L) none opened in
          sym (same_places (accepted_count L + 1) 64 (with_arrival frame 0 L) L (λ m. other_session m frame 0 L other)) ∙ ap (λ (m : ℕ). places (m + 1) 64 (with_arrival frame 0 L)) (sym (none_counted (is_present frame L) (accepted_count L)))
      | false ↦ λ closed. refl
    ] refl

passed_end : (me peer : ℕ) (limits : Limits) (L : List EndEntry) (frame : Frame) → (is_present frame L && is_open L) ≡ false → passed_over (end_of me peer limits L) frame ≡ end_of me peer limits (with_arrival frame 0 L)
passed_end me peer limits L frame none =
    let lowest : words.lowest L ≡ words.lowest (with_arrival frame 0 L) = ap (λ b. if b then max (words.lowest L) frame.ack else words.lowest L) (sym (never (is_present frame L) (is_open L) (not (is_close frame.kind)) none)) in
    let came : accepted L ≡ accepted (with_arrival frame 0 L) = sym (none_more (is_present frame L) frame L) in
    same_end _ _ (record {
      me = refl;
      peer = refl;
      limits = refl;
      number = refl;
      seen = refl;
      handed = refl;
      lowest = lowest;
      unacknowledged = ap (λ (m : ℕ). if is_open L then drop (m - 1) (words.handed L) else []) lowest;
      transmitted = refl;
      accepted = sym (none_counted (is_present frame L) (accepted_count L));
      came = ap length came;
      taken = refl;
      waiting = ap (λ (ps : List (List ℕ)). if is_open L then drop (takes L) ps else []) came;
      early = kept_still frame L none;
      data_arrived = refl;
      ticks = ap (λ b. if b then 0 else words.ticks L) (sym (none_of (is_present frame L && is_open L && not (is_close frame.kind)) _ (never (is_present frame L) (is_open L) (not (is_close frame.kind)) none)));
      ending = refl;
      owes_close = refl;
    })

-- the right answer to it
passed_by : (older closed : Bool) (other : Arrived) → (older || closed) ≡ true → arrived.Took 0 ≡ (if older then arrived.Took 0 else (if closed then arrived.Took 0 else other))
passed_by true closed other either = refl
passed_by false true other either = refl
passed_by false false other either = absurd cc

-- a frame that is passed over
pub record Passes (e : End) (frame : Frame) : Type 0 where
  pub pair : is_of_pair e.me e.peer frame ≡ true
  pub either : (nat_lt frame.session e.number || not (is_open_end e)) ≡ true

passed_right : (me peer : ℕ) (L : List EndEntry) (frame : Frame) → is_of_pair me peer frame ≡ true → (nat_lt frame.session (words.number L) || not (is_open L)) ≡ true → Ok (arrived.Took 0) ≡ right_arrive me peer frame L
passed_right me peer L frame pair either = rw pair (ap (λ (a : Arrived). Ok a) (passed_by (nat_lt frame.session (words.number L)) (not (is_open L)) _ either))

pub passed_stands : (me peer : ℕ) (limits : Limits) (L : List EndEntry) (e : End) (frame : Frame) → Passes e frame → Stands me peer limits e L
    → IsRight me peer limits (Arrive frame (Ok (arrived.Took 0))) L × Stands me peer limits (passed_over e frame) (with_arrival frame 0 L)
passed_stands me peer limits L e frame passes stands =
    subst (λ (x : End). Passes x frame → IsRight me peer limits (Arrive frame (Ok (arrived.Took 0))) L × Stands me peer limits (passed_over x frame) (with_arrival frame 0 L)) (sym stands)
    (λ p. (passed_right me peer L frame p.pair p.either, passed_end me peer limits L frame (apart_by frame.session (words.number L) (is_open L) p.either))) passes

-- ---- frames that are heard

-- an open end hears this frame: it is of the pair and of the present session, no Close, and acknowledges nothing that wasn't transmitted
pub record Hears (e : End) (frame : Frame) : Type 0 where
  pub pair : is_of_pair e.me e.peer frame ≡ true
  pub present : (frame.session == e.number) ≡ true
  pub open_end : is_open_end e ≡ true
  pub other : is_close frame.kind ≡ false
  pub known : nat_lt (e.transmitted + 1) frame.ack ≡ false
  pub low : 1 ≤ e.lowest
  pub came : e.taken ≤ e.came

not_false : (b : Bool) → not b ≡ false → b ≡ true
not_false true is = refl
not_false false is = absurd cc

neither_second : (b c : Bool) → b || c ≡ false → c ≡ false
neither_second true c none = absurd cc
neither_second false c none = none

-- a frame that passed the first tests of the fields is of the pair
pub pair_by : (s : Inside) (frame : Frame) (strange elsewhere : Bool) → strange ≡ not (eqb frame.from s.peer) → strange ≡ false → elsewhere ≡ not (eqb frame.to s.me) → elsewhere ≡ false → is_of_pair s.me s.peer frame ≡ true
pair_by s frame strange elsewhere from ours to mine = grind (arith, nat_tests, from, ours, to, mine)

-- a frame that passed each test of the fields is heard
pub hears_by : (s : Inside) (frame : Frame) (strange elsewhere : Bool) → IsSound s → strange ≡ not (eqb frame.from s.peer) → strange ≡ false → elsewhere ≡ not (eqb frame.to s.me) → elsewhere ≡ false → (nat_lt frame.session s.number || not (is_none s.ending)) ≡ false → frame.session ≤ s.number → is_close frame.kind ≡ false → frame.ack ≤ s.transmitted + 1
    → Hears (as_seen s).end frame
hears_by s frame strange elsewhere sound from ours to mine old new other known = record {
  pair = pair_by s frame strange elsewhere from ours to mine;
  present = grind (arith, nat_tests, old, new);
  open_end = not_false (is_none s.ending) (neither_second (nat_lt frame.session s.number) _ old);
  other = other;
  known = grind (arith, nat_tests, known);
  low = sound.lowest_positive;
  came = sound.taken_accepted;
}

neither_older : (m n : ℕ) → (m == n) ≡ true → nat_lt m n ≡ false
neither_older m n same = grind (arith, nat_tests, same)

nor_newer : (m n : ℕ) → (m == n) ≡ true → nat_lt n m ≡ false
nor_newer m n same = grind (arith, nat_tests, same)

-- what is right for a frame that is heard
hears_right : (me peer : ℕ) (limits : Limits) (L : List EndEntry) (frame : Frame) → Hears (end_of me peer limits L) frame → right_arrive me peer frame L ≡ Ok (arrived.Took (taken_by frame L))
hears_right me peer limits L frame hears = rw (hears.pair, neither_older frame.session (words.number L) hears.present, hears.open_end, nor_newer frame.session (words.number L) hears.present, hears.other, hears.known) refl

item_heard : (me peer : ℕ) (limits : Limits) (L : List EndEntry) (frame : Frame) (k : ℕ) → Hears (end_of me peer limits L) frame → is_data frame.kind ≡ true → k ≡ acceptable (keeping (end_of me peer limits L) frame)
    → IsRight me peer limits (Arrive frame (Ok (arrived.Took k))) L × Stands me peer limits (heard (accepting k (keeping (end_of me peer limits L) frame)) frame) (with_arrival frame k L)
item_heard me peer limits L frame k hears its count =
    let kept : (keeping (end_of me peer limits L) frame).early ≡ places (accepted_count L + 1) 64 (with_arrival frame 0 L) = rw hears.open_end (kept_places frame 0 L hears.present its) in
    let taken : k ≡ taken_by frame L = count ∙ ap (in_a_row (256 - length (waiting L))) kept ∙ sym (taken_is frame L its hears.open_end) in
    (ap (λ (m : ℕ). Ok (arrived.Took m)) taken ∙ sym (hears_right me peer limits L frame hears), heard_item me peer limits L frame k hears.present hears.open_end its hears.other hears.low hears.came count)

-- a Data frame that is heard: the answer is right, and the end stands for the calls with it
pub item_arrives : (me peer : ℕ) (limits : Limits) (L : List EndEntry) (e : End) (frame : Frame) (k : ℕ) → Hears e frame → is_data frame.kind ≡ true → k ≡ acceptable (keeping e frame) → Stands me peer limits e L
    → IsRight me peer limits (Arrive frame (Ok (arrived.Took k))) L × Stands me peer limits (heard (accepting k (keeping e frame)) frame) (with_arrival frame k L)
item_arrives me peer limits L e frame k hears its count stands =
    subst (λ (x : End). Hears x frame → k ≡ acceptable (keeping x frame) → IsRight me peer limits (Arrive frame (Ok (arrived.Took k))) L × Stands me peer limits (heard (accepting k (keeping x frame)) frame) (with_arrival frame k L)) (sym stands)
    (λ hears_it counted. item_heard me peer limits L frame k hears_it its counted) hears count

other_heard : (me peer : ℕ) (limits : Limits) (L : List EndEntry) (frame : Frame) → Hears (end_of me peer limits L) frame → is_data frame.kind ≡ false
    → IsRight me peer limits (Arrive frame (Ok (arrived.Took 0))) L × Stands me peer limits (heard (end_of me peer limits L) frame) (with_arrival frame 0 L)
other_heard me peer limits L frame hears plain =
    let none : 0 ≡ taken_by frame L = rw plain refl in
    (ap (λ (m : ℕ). Ok (arrived.Took m)) none ∙ sym (hears_right me peer limits L frame hears), heard_other me peer limits L frame hears.present hears.open_end plain hears.other hears.low)

-- a frame without an item that is heard
pub other_arrives : (me peer : ℕ) (limits : Limits) (L : List EndEntry) (e : End) (frame : Frame) → Hears e frame → is_data frame.kind ≡ false → Stands me peer limits e L
    → IsRight me peer limits (Arrive frame (Ok (arrived.Took 0))) L × Stands me peer limits (heard e frame) (with_arrival frame 0 L)
other_arrives me peer limits L e frame hears plain stands =
    subst (λ (x : End). Hears x frame → IsRight me peer limits (Arrive frame (Ok (arrived.Took 0))) L × Stands me peer limits (heard x frame) (with_arrival frame 0 L)) (sym stands)
    (λ hears_it. other_heard me peer limits L frame hears_it plain) hears

some_same : (x y : Option (List ℕ)) → Some x ≡ Some y → x ≡ y
some_same x y same = cc

anew_heard : (me peer : ℕ) (limits : Limits) (L : List EndEntry) (frame : Frame) → Hears (end_of me peer limits L) frame → is_data frame.kind ≡ true → is_in_reach (accepted_count L) frame.seq ≡ true
    → slice_get (words.early L) (frame.seq - (accepted_count L + 1)) ≡ Some None → KeepsAnew me peer frame L
anew_heard me peer limits L frame hears its reach empty =
    let low = reach_low (accepted_count L) frame.seq reach in
    let near = reach_near (accepted_count L) frame.seq reach in
    let number : accepted_count L + 1 + (frame.seq - (accepted_count L + 1)) ≡ frame.seq = omega (arith, low) in
    let there : slice_get (places (accepted_count L + 1) 64 L) (frame.seq - (accepted_count L + 1)) ≡ Some None = rw hears.open_end at empty in
    record {
      heard = hears_right me peer limits L frame hears;
      open_end = hears.open_end;
      present = hears.present;
      is_item = its;
      in_reach = reach;
      anew = ap (λ (m : ℕ). payload m L) (sym number) ∙ some_same _ _ (sym (places_at (accepted_count L + 1) 64 (frame.seq - (accepted_count L + 1)) L (omega (arith, low, near))) ∙ there);
    }

-- a Data frame that finds its place in reach and empty
pub arrives_anew : (me peer : ℕ) (limits : Limits) (L : List EndEntry) (e : End) (frame : Frame) → Hears e frame → is_data frame.kind ≡ true → is_in_reach e.accepted frame.seq ≡ true
    → slice_get e.early (frame.seq - (e.accepted + 1)) ≡ Some None → Stands me peer limits e L → KeepsAnew me peer frame L
arrives_anew me peer limits L e frame hears its reach empty stands =
    subst (λ (x : End). Hears x frame → is_in_reach x.accepted frame.seq ≡ true → slice_get x.early (frame.seq - (x.accepted + 1)) ≡ Some None → KeepsAnew me peer frame L) (sym stands)
    (λ hears_it in_reach there. anew_heard me peer limits L frame hears_it its in_reach there) hears reach empty
