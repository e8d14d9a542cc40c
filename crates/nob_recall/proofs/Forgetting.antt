-- Which frames are remembered, and which are forgotten.
use Rattle.std.proofs.Common.{◌≡◌, ◌⊎◌, ℕ, ◌+◌, ◌-◌, ◌^◌, ◌≤◌, max, min, Bool, true, false, cond, not, ◌&&◌, ◌||◌, ◌==◌, nat_lt, nat_le, List, [], ◌∷◌, filter, inl, inr, refl, sym, ap, true≢false, ◌∙◌, arith}
use Prim.Native.Nat.{zero, suc}
use Rattle.std.specs.Prelude.{Result, Ok}
use Rattle.std.specs.List.{Contains}
use Rattle.std.proofs.lemmas.Bool.{and_parts, and_from}
use Rattle.std.proofs.lemmas.Bool.Decides.{nat_tests}
use Rattle.std.proofs.Math.Nat.{le-max_left, le-min, min-le_right}
use Rattle.std.proofs.lemmas.List.Elements.{Contains-append_left, Contains-append_right, Contains-append_cases}
use Rattle.nob_frame.specs.Kinds.{is_data, is_ack}
use Rattle.nob_frame.specs.declared.frame.Frame.{Frame}
use Rattle.nob_model_types.specs.declared.answer.Answer.{Answer}
use Rattle.nob_model_types.specs.declared.answer.Answer.TheVariants as answers
use Rattle.nob_model_types.specs.declared.refusal.Refusal.{Refusal}
use Rattle.nob_model_types.specs.declared.event.Event.{Event}
use Rattle.nob_model_types.specs.declared.event.Event.TheVariants as events
use Rattle.nob_model_types.specs.declared.entry.Entry.{Entry}
use Rattle.nob_model_types.specs.Deeds.{deed_in}
use Rattle.nob_model_journal.specs.Journals.{frames_of, transmitted_frames}
use Rattle.nob_model_traces.proofs.Transmitting.{contains_none}
use Rattle.nob_recall.specs.declared.heard.Heard.{Heard}
use Rattle.nob_recall.specs.declared.memory.Memory.{Memory}
use Rattle.nob_recall.specs.Hearing.{heard, heard_by, heard_frame, heard_open, brings_none, is_past}
use Rattle.nob_recall.specs.Remembering.{IsIn, memory, noted, turned, turned_if_due, is_due, is_past_in}
use Rattle.nob_recall.specs.Laws.{RememberedWereTransmitted, ForgottenArePast}

-- ---- a filter

-- what is left was there
of_filter : {X : Type 0} (test : X → Bool) (xs : List X) (x : X) → Contains (filter test xs) x → Contains xs x
of_filter test [] x there = there
of_filter {X} test (y ∷ ys) x there = by (of_filter test ys x) (test y) there
  where
    later : Contains ys x → Contains (y ∷ ys) x
    later left = Contains-append_right (y ∷ []) ys x left

    by : (Contains (filter test ys) x → Contains ys x) → (b : Bool) → Contains (cond b (y ∷ filter test ys) (filter test ys)) x → Contains (y ∷ ys) x
    by rest true (zero, less, is) = (zero, omega arith, is)
    by rest true (suc k, less, is) = later (rest (k, omega (arith, less), is))
    by rest false left = later (rest left)

-- what passes the test is left
in_filter : {X : Type 0} (test : X → Bool) (xs : List X) (x : X) → test x ≡ true → Contains xs x → Contains (filter test xs) x
in_filter test [] x holds there = there
in_filter {X} test (y ∷ ys) x holds (zero, less, is) = by (test y) refl
  where
    by : (b : Bool) → test y ≡ b → Contains (cond b (y ∷ filter test ys) (filter test ys)) x
    by true passes = (zero, omega arith, is)
    by false fails = absurd (true≢false (sym holds ∙ ap test (sym is) ∙ fails))
in_filter {X} test (y ∷ ys) x holds (suc k, less, is) = by (test y) (in_filter test ys x holds (k, omega (arith, less), is))
  where
    by : (b : Bool) → Contains (filter test ys) x → Contains (cond b (y ∷ filter test ys) (filter test ys)) x
    by true left = Contains-append_right (y ∷ []) (filter test ys) x left
    by false left = left

-- ---- what is past stays past

-- as much was heard: of a later session, or of the same one
abbrev AtLeast : Heard → Heard → Type 0
AtLeast old new = (nat_lt old.session new.session ≡ true) ⊎ ((new.session ≡ old.session) × (old.accepted ≤ new.accepted) × (old.ack ≤ new.ack))

least_self : (h : Heard) → AtLeast h h
least_self h = inr (refl, omega arith, omega arith)

abbrev Bounded : Heard → Type 0
Bounded h = h.accepted ≤ 2 ^ 64 - 1

frame_more : (a : ℕ) (frame : Frame) (count : ℕ) (h : Heard) → Bounded h → AtLeast h (heard_frame a frame count h) × Bounded (heard_frame a frame count h)
frame_more a frame count h low = by (frame.from == a && frame.session == h.session)
  where
    took : Heard
    took = record { session = h.session; accepted = min (h.accepted + count) (2 ^ 64 - 1); ack = max h.ack frame.ack }

    by : (b : Bool) → AtLeast h (cond b took h) × Bounded (cond b took h)
    by true = (inr (refl, le-min (omega arith) low, le-max_left h.ack frame.ack), min-le_right (h.accepted + count) (2 ^ 64 - 1))
    by false = (least_self h, low)

open_more : (a p k : ℕ) (h : Heard) → Bounded h → AtLeast h (heard_open a p k h) × Bounded (heard_open a p k h)
open_more a p k h low = by (p == a && nat_lt h.session k) refl
  where
    opened : Heard
    opened = record { session = k; accepted = 0; ack = 0 }

    by : (b : Bool) → (p == a && nat_lt h.session k) ≡ b → AtLeast h (cond b opened h) × Bounded (cond b opened h)
    by true is = (inl (and_parts (p == a) (nat_lt h.session k) is).1, omega arith)
    by false is = (least_self h, low)

entry_more : (a : ℕ) (event : Event) (result : Result Answer Refusal) (h : Heard) → Bounded h → AtLeast h (heard_by a event result h) × Bounded (heard_by a event result h)
entry_more a (events.Arrive frame) (Ok (answers.Took count)) h low = frame_more a frame count h low
entry_more a (events.Arrive frame) _ h low = (least_self h, low)
entry_more a (events.Open peer) (Ok (answers.Opened number)) h low = open_more a peer number h low
entry_more a (events.Open peer) _ h low = (least_self h, low)
entry_more a _ _ h low = (least_self h, low)

heard_low : (a b : ℕ) (J : List Entry) → Bounded (heard a b J)
heard_low a b [] = omega arith
heard_low a b (entry ∷ J) = by (entry.space == b) (heard_low a b J)
  where
    by : (t : Bool) → Bounded (heard a b J) → Bounded (cond t (heard_by a entry.event entry.result (heard a b J)) (heard a b J))
    by true low = (entry_more a entry.event entry.result (heard a b J) low).1
    by false low = low

-- an entry more leaves as much heard
heard_more : (a b : ℕ) (entry : Entry) (J : List Entry) → AtLeast (heard a b J) (heard a b (entry ∷ J))
heard_more a b entry J = by (entry.space == b)
  where
    by : (t : Bool) → AtLeast (heard a b J) (cond t (heard_by a entry.event entry.result (heard a b J)) (heard a b J))
    by true = (entry_more a entry.event entry.result (heard a b J) (heard_low a b J)).0
    by false = least_self (heard a b J)

brings_more : (frame : Frame) (accepted more : ℕ) → accepted ≤ more → brings_none frame accepted ≡ true → brings_none frame more ≡ true
brings_more frame accepted more up holds = by (is_ack frame.kind) (is_data frame.kind) holds
  where
    further : nat_le frame.seq accepted ≡ true → nat_le frame.seq more ≡ true
    further low = grind (arith, nat_tests, low, up)

    by : (a d : Bool) → (a || (d && nat_le frame.seq accepted)) ≡ true → (a || (d && nat_le frame.seq more)) ≡ true
    by true d h = refl
    by false true h = further h
    by false false h = h

past_more : (frame : Frame) (old new : Heard) → AtLeast old new → is_past frame old ≡ true → is_past frame new ≡ true
past_more frame old new (inl later) past = by (nat_lt frame.session old.session) refl past
  where
    higher : (b : Bool) → nat_le frame.session old.session ≡ true → is_past frame new ≡ true
    higher b low = let up : nat_lt frame.session new.session ≡ true = grind (arith, nat_tests, low, later) in ap (λ (t : Bool). t || (frame.session == new.session && (nat_le frame.ack new.ack && brings_none frame new.accepted))) up

    by : (b : Bool) → nat_lt frame.session old.session ≡ b → (b || (frame.session == old.session && (nat_le frame.ack old.ack && brings_none frame old.accepted))) ≡ true → is_past frame new ≡ true
    by true lower h = higher true (grind (arith, nat_tests, lower))
    by false other h = let same = (and_parts (frame.session == old.session) _ h).0 in higher true (grind (arith, nat_tests, same))
past_more frame old new (inr (same, accepted, ack)) past = by (nat_lt frame.session old.session) refl past
  where
    from_old : (b : Bool) → nat_lt frame.session old.session ≡ b → nat_lt frame.session new.session ≡ b
    from_old b is = ap (λ (k : ℕ). nat_lt frame.session k) same ∙ is

    by : (b : Bool) → nat_lt frame.session old.session ≡ b → (b || (frame.session == old.session && (nat_le frame.ack old.ack && brings_none frame old.accepted))) ≡ true → is_past frame new ≡ true
    by true lower h = ap (λ (t : Bool). t || (frame.session == new.session && (nat_le frame.ack new.ack && brings_none frame new.accepted))) (from_old true lower)
    by false other h =
        let parts = and_parts (frame.session == old.session) (nat_le frame.ack old.ack && brings_none frame old.accepted) h in
        let inner = and_parts (nat_le frame.ack old.ack) (brings_none frame old.accepted) parts.1 in
        let low = inner.0 in
        let here : (frame.session == new.session) ≡ true = ap (λ (k : ℕ). frame.session == k) same ∙ parts.0 in
        let acked : nat_le frame.ack new.ack ≡ true = grind (arith, nat_tests, low, ack) in
        ap (λ (t : Bool). t || (frame.session == new.session && (nat_le frame.ack new.ack && brings_none frame new.accepted))) (from_old false other)
        ∙ and_from (frame.session == new.session) (nat_le frame.ack new.ack && brings_none frame new.accepted) here (and_from (nat_le frame.ack new.ack) (brings_none frame new.accepted) acked (brings_more frame old.accepted new.accepted accepted inner.1))

pub still_past : (frame : Frame) (entry : Entry) (J : List Entry) → is_past_in J frame ≡ true → is_past_in (entry ∷ J) frame ≡ true
still_past frame entry J past = past_more frame (heard frame.from frame.to J) (heard frame.from frame.to (entry ∷ J)) (heard_more frame.from frame.to entry J) past

-- ---- memories

-- what is in a memory after a turn was in it before
of_turned : (past : Frame → Bool) (m : Memory) (frame : Frame) → IsIn frame (turned past m) → IsIn frame m
of_turned past m frame (inl there) = inr there
of_turned past m frame (inr left) = inl (of_filter (λ f. not (past f)) m.older frame left)

of_due : (span : ℕ) (past : Frame → Bool) (m : Memory) (frame : Frame) → IsIn frame (turned_if_due span past m) → IsIn frame m
of_due span past m frame there = by (is_due span m) there
  where
    by : (b : Bool) → IsIn frame (cond b (turned past m) m) → IsIn frame m
    by true there = of_turned past m frame there
    by false there = there

-- what was in it before is after the turn, or it is past
after_turn : (past : Frame → Bool) (m : Memory) (frame : Frame) → IsIn frame m → IsIn frame (turned past m) ⊎ (past frame ≡ true)
after_turn past m frame (inr there) = inl (inl there)
after_turn past m frame (inl there) = by (past frame) refl
  where
    by : (b : Bool) → past frame ≡ b → IsIn frame (turned past m) ⊎ (past frame ≡ true)
    by true is = inr is
    by false is = inl (inr (in_filter (λ f. not (past f)) m.older frame (ap not is) there))

after_due : (span : ℕ) (past : Frame → Bool) (m : Memory) (frame : Frame) → IsIn frame m → IsIn frame (turned_if_due span past m) ⊎ (past frame ≡ true)
after_due span past m frame there = by (is_due span m)
  where
    by : (b : Bool) → IsIn frame (cond b (turned past m) m) ⊎ (past frame ≡ true)
    by true = after_turn past m frame there
    by false = inl there

-- a frame in a memory with frames more was there, or is one of these
of_noted : (frames : List Frame) (m : Memory) (frame : Frame) → IsIn frame (noted frames m) → IsIn frame m ⊎ Contains frames frame
of_noted frames m frame (inl there) = inl (inl there)
of_noted frames m frame (inr there) = by (Contains-append_cases m.newer frames frame there)
  where
    by : Contains m.newer frame ⊎ Contains frames frame → IsIn frame m ⊎ Contains frames frame
    by (inl before) = inl (inr before)
    by (inr own) = inr own

in_noted : (frames : List Frame) (m : Memory) (frame : Frame) → IsIn frame m → IsIn frame (noted frames m)
in_noted frames m frame (inl there) = inl there
in_noted frames m frame (inr there) = inr (Contains-append_left m.newer frames frame there)

own_noted : (frames : List Frame) (m : Memory) (frame : Frame) → Contains frames frame → IsIn frame (noted frames m)
own_noted frames m frame there = inr (Contains-append_right m.newer frames frame there)

-- ---- the laws

pub remembered_were_transmitted : RememberedWereTransmitted
remembered_were_transmitted span [] frame (inl there) = absurd (contains_none frame there)
remembered_were_transmitted span [] frame (inr there) = absurd (contains_none frame there)
remembered_were_transmitted span (entry ∷ J) frame there =
    by (remembered_were_transmitted span J frame) (of_noted frames (memory span J) frame (of_due span (is_past_in (entry ∷ J)) (noted frames (memory span J)) frame there))
  where
    frames : List Frame
    frames = frames_of (deed_in entry)

    by : (IsIn frame (memory span J) → Contains (transmitted_frames J) frame) → IsIn frame (memory span J) ⊎ Contains frames frame → Contains (transmitted_frames (entry ∷ J)) frame
    by rest (inl before) = Contains-append_left (transmitted_frames J) frames frame (rest before)
    by rest (inr own) = Contains-append_right (transmitted_frames J) frames frame own

pub forgotten_are_past : ForgottenArePast
forgotten_are_past span [] frame there = absurd (contains_none frame there)
forgotten_are_past span (entry ∷ J) frame there = by (forgotten_are_past span J frame) (Contains-append_cases (transmitted_frames J) frames frame there)
  where
    frames : List Frame
    frames = frames_of (deed_in entry)

    past : Frame → Bool
    past = is_past_in (entry ∷ J)

    kept : IsIn frame (memory span J) ⊎ (is_past_in J frame ≡ true) → IsIn frame (memory span (entry ∷ J)) ⊎ (is_past_in (entry ∷ J) frame ≡ true)
    kept (inl before) = after_due span past (noted frames (memory span J)) frame (in_noted frames (memory span J) frame before)
    kept (inr over) = inr (still_past frame entry J over)

    by : (Contains (transmitted_frames J) frame → IsIn frame (memory span J) ⊎ (is_past_in J frame ≡ true)) → Contains (transmitted_frames J) frame ⊎ Contains frames frame → IsIn frame (memory span (entry ∷ J)) ⊎ (is_past_in (entry ∷ J) frame ≡ true)
    by rest (inl before) = kept (rest before)
    by rest (inr own) = after_due span past (noted frames (memory span J)) frame (own_noted frames (memory span J) frame own)
