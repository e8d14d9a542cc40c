-- A frame that a Transmit gave was given on the end of its sender with its receiver.
use Rattle.std.proofs.Common.{◌≡◌, ℕ, ◌+◌, ◌-◌, Bool, true, false, cond, max, List, [], ◌∷◌, length, take, drop, Option, Some, None, Ok, refl, sym, subst, inl, inr, arith}
use Rattle.std.specs.Prelude.{◌==◌}
use Rattle.std.specs.List.{AllByRecursion, Contains}
use Rattle.std.proofs.lemmas.Bool.{eq-eqb}
use Rattle.std.proofs.lemmas.List.Elements.{All-from_recursion, All-contains, Contains-append_left, Contains-append_right, Contains-append_cases}
use Rattle.nob_ids.specs.declared.limits.Limits.{Limits}
use Rattle.nob_ids.specs.declared.reason.Reason.{Reason}
use Rattle.nob_frame.specs.declared.frame.Frame.{Frame}
use Rattle.nob_item.specs.declared.item.Item.{Item}
use Rattle.nob_model_session.specs.End.{number, is_open, accepted_count, lowest, transmitted, data_arrived, unacknowledged, owes_close, ending, handed}
use Rattle.nob_model_session.specs.Right.{data_frames, open_frames, closed_frames, right_transmit}
use Rattle.nob_model_session.specs.Pair as pair
use Rattle.nob_model_session.specs.declared.entry.EndEntry.{EndEntry}
use Rattle.nob_model_session.specs.declared.entry.EndEntry.TheVariants as ends
use Rattle.nob_model_types.specs.declared.entry.Entry.{Entry}
use Rattle.nob_model_types.specs.Deeds.{deed_in}
use Rattle.nob_model_types.specs.declared.deed.Deed.{Deed}
use Rattle.nob_model_types.specs.declared.deed.Deed.TheVariants as did
use Rattle.nob_model_types.specs.declared.deed.Cause.{Cause}
use Rattle.nob_model_types.specs.declared.deed.Cause.TheVariants as causes
use Rattle.nob_model_work.specs.Work.{work}
use Rattle.nob_model_work.specs.Gifts.{gifts}
use Rattle.nob_model_history.specs.Histories.{history_of}
use Rattle.nob_model_history.specs.Ends.{items_to, payload_of, kind_of, with_sends, own_calls, call_of_closing, calls_at}
use Rattle.nob_model.specs.Right.{right_after}
use Rattle.nob_model.specs.Lists.{IsRightDeed, AreRightDeeds}
use Rattle.nob_model.proofs.Doing.{was_answered}
use Rattle.nob_model.proofs.Accepted.{transmit_tells}
use Rattle.nob_model_journal.specs.Journals.{deeds_at, history_at, frames_of, transmitted_frames}
use Rattle.nob_model_journal.specs.Runs.{WorldRun}
use Rattle.nob_model_invariant.proofs.Entries.{grows, grows_own, right_deeds_at}

-- ---- where a frame comes from and goes to

-- a frame from one space to another
abbrev pub IsBetween : (me peer : ℕ) → Frame → Type 0
IsBetween me peer frame = (frame.from ≡ me) × (frame.to ≡ peer)

data_between : (me peer session ack k : ℕ) (payloads : List (List ℕ)) → AllByRecursion (IsBetween me peer) (data_frames me peer session ack k payloads)
data_between me peer session ack k [] = tt
data_between me peer session ack k (payload ∷ payloads) = ((refl, refl), data_between me peer session ack (k + 1) payloads)

open_between : (me peer session ack k given : ℕ) (due : Bool) (payloads : List (List ℕ)) → AllByRecursion (IsBetween me peer) (open_frames me peer session ack k given due payloads)
open_between me peer session ack k given true [] = ((refl, refl), tt)
open_between me peer session ack k given false [] = tt
open_between me peer session ack k given due (payload ∷ payloads) = ((refl, refl), data_between me peer session ack (max k given + 1) (drop (given - k) payloads))

closed_between : (me peer session ack : ℕ) (owes : Bool) (reason : Option Reason) → AllByRecursion (IsBetween me peer) (closed_frames me peer session ack owes reason)
closed_between me peer session ack owes None = tt
closed_between me peer session ack true (Some reason) = ((refl, refl), tt)
closed_between me peer session ack false (Some reason) = tt

either_between : (up : Bool) (me peer session ack k given : ℕ) (due owes : Bool) (reason : Option Reason) (payloads : List (List ℕ)) → AllByRecursion (IsBetween me peer) (cond up (open_frames me peer session ack k given due payloads) (closed_frames me peer session ack owes reason))
either_between true me peer session ack k given due owes reason payloads = open_between me peer session ack k given due payloads
either_between false me peer session ack k given due owes reason payloads = closed_between me peer session ack owes reason

-- what an end gives goes from its space to its peer
pub transmit_between : (me peer window : ℕ) (L : List EndEntry) (frame : Frame) → Contains (right_transmit me peer window L) frame → IsBetween me peer frame
transmit_between me peer window L frame from =
    All-contains (IsBetween me peer) (right_transmit me peer window L) frame
    (All-from_recursion (IsBetween me peer) (right_transmit me peer window L) (either_between (is_open L) me peer (number L) (accepted_count L + 1) (lowest L) (transmitted L) (data_arrived L) (owes_close L) (ending L) (take window (unacknowledged L))))
    from

-- ---- what was given on an end

sends_given : (items : List Item) (calls : List EndEntry) → pair.transmitted_frames (with_sends items calls) ≡ pair.transmitted_frames calls
sends_given [] calls = refl
sends_given (item ∷ items) calls = sends_given items (ends.Send (payload_of item) (kind_of item) (Ok (length (handed calls) + 1)) ∷ calls)

if_given : (own : Bool) (call : EndEntry) (calls : List EndEntry) → pair.transmitted_frames (call ∷ calls) ≡ pair.transmitted_frames calls → pair.transmitted_frames (cond own (call ∷ calls) calls) ≡ pair.transmitted_frames calls
if_given true call calls same = same
if_given false call calls same = refl

closing_given : (p : ℕ) (reason : Reason) (cause : Cause) (calls : List EndEntry) → pair.transmitted_frames (call_of_closing p reason cause ∷ calls) ≡ pair.transmitted_frames calls
closing_given p reason causes.Item calls = refl
closing_given p reason (causes.Frame frame) calls = refl
closing_given p reason causes.Ticks calls = refl
closing_given p reason causes.Asked calls = refl

transmit_given : (own : Bool) (frames : List Frame) (calls : List EndEntry) (frame : Frame) → Contains (pair.transmitted_frames calls) frame → Contains (pair.transmitted_frames (cond own (ends.Transmit frames ∷ calls) calls)) frame
transmit_given true frames calls frame from = Contains-append_left (pair.transmitted_frames calls) frames frame from
transmit_given false frames calls frame from = from

own_given : (p : ℕ) (deed : Deed) (calls : List EndEntry) (frame : Frame) → Contains (pair.transmitted_frames calls) frame → Contains (pair.transmitted_frames (own_calls p deed calls)) frame
own_given p (did.Act q k) calls frame from = subst (λ frames. Contains frames frame) (sym (if_given (q == p) ends.Take calls refl)) from
own_given p (did.Transmit q frames) calls frame from = transmit_given (q == p) frames calls frame from
own_given p (did.Arrive other count) calls frame from = subst (λ frames. Contains frames frame) (sym (if_given (other.from == p) _ calls refl)) from
own_given p (did.Tick q) calls frame from = subst (λ frames. Contains frames frame) (sym (if_given (q == p) _ calls refl)) from
own_given p (did.Closing q reason cause) calls frame from = subst (λ frames. Contains frames frame) (sym (if_given (q == p) _ calls (closing_given p reason cause calls))) from
own_given p (did.Open q k) calls frame from = subst (λ frames. Contains frames frame) (sym (if_given (q == p) _ calls refl)) from
own_given p deed calls frame from = from

-- what was given on an end stays given
given_later : (s n p : ℕ) (deed : Deed) (D : List Deed) (frame : Frame) → Contains (pair.transmitted_frames (calls_at p (history_of s n D))) frame → Contains (pair.transmitted_frames (calls_at p (history_of s n (deed ∷ D)))) frame
given_later s n p deed D frame from =
    own_given p deed (with_sends (items_to p (gifts s n deed D (work s n D))) (calls_at p (history_of s n D))) frame
    (subst (λ frames. Contains frames frame) (sym (sends_given (items_to p (gifts s n deed D (work s n D))) (calls_at p (history_of s n D)))) from)

transmit_own : (own : Bool) (frames : List Frame) (calls : List EndEntry) (frame : Frame) → own ≡ true → Contains frames frame → Contains (pair.transmitted_frames (cond own (ends.Transmit frames ∷ calls) calls)) frame
transmit_own true frames calls frame own from = Contains-append_right (pair.transmitted_frames calls) frames frame from
transmit_own false frames calls frame own from = cc

-- what a Transmit gives is given on its end
given_now : (s n p : ℕ) (frames : List Frame) (D : List Deed) (frame : Frame) → Contains frames frame → Contains (pair.transmitted_frames (calls_at p (history_of s n (did.Transmit p frames ∷ D)))) frame
given_now s n p frames D frame from = transmit_own (p == p) frames _ frame (eq-eqb p p refl) from

-- ---- in a run

-- a frame is given on the end of its sender with its receiver
abbrev pub IsGivenThere : (n : ℕ) → List Entry → Frame → Type 0
IsGivenThere n J frame = Contains (pair.transmitted_frames (calls_at frame.to (history_at frame.from n J))) frame

later_there : (n : ℕ) (entry : Entry) (J : List Entry) (frame : Frame) → IsGivenThere n J frame → IsGivenThere n (entry ∷ J) frame
later_there n entry J frame from =
    elim (grows frame.from entry J) [
      | inl same ↦ subst (λ D. Contains (pair.transmitted_frames (calls_at frame.to (history_of frame.from n D))) frame) (sym same) from
      | inr more ↦ subst (λ D. Contains (pair.transmitted_frames (calls_at frame.to (history_of frame.from n D))) frame) (sym more.3) (given_later frame.from n frame.to more.0 (deeds_at frame.from J) frame from)
    ]

in_none : (frame : Frame) → Contains [] frame → ⊥
in_none frame from = let low = from.1 in omega (arith, low)

-- what one space gave by the newest of its deeds
now_there : (s n : ℕ) (limits : Limits) (deed : Deed) (D : List Deed) (frame : Frame) → IsRightDeed s n limits deed D → Contains (frames_of (Some deed)) frame → (frame.from ≡ s) × Contains (pair.transmitted_frames (calls_at frame.to (history_of s n (deed ∷ D)))) frame
unfolding right_after
now_there s n limits (did.Transmit q frames) D frame right from =
    let told = transmit_tells s n q limits.window frames (history_of s n D) (was_answered s n limits (did.Transmit q frames) D right) in
    let ways = transmit_between s q limits.window (calls_at q (history_of s n D)) frame (subst (λ fs. Contains fs frame) told.1 from) in
    (ways.0, subst (λ (p : ℕ). Contains (pair.transmitted_frames (calls_at p (history_of s n (did.Transmit q frames ∷ D)))) frame) (sym ways.1) (given_now s n q frames D frame from))
now_there s n limits deed D frame right from = absurd (in_none frame from)

own_there : (n : ℕ) (limits : ℕ → Limits) (entry : Entry) (J : List Entry) (frame : Frame) (found : Option Deed) → deed_in entry ≡ found → WorldRun n limits (entry ∷ J) → Contains (frames_of found) frame → IsGivenThere n (entry ∷ J) frame
own_there n limits entry J frame None is run from = absurd (in_none frame from)
own_there n limits entry J frame (Some deed) is run from =
    let more : deeds_at entry.space (entry ∷ J) ≡ deed ∷ deeds_at entry.space J = grows_own entry J deed is in
    let right : AreRightDeeds entry.space n (limits entry.space) (deed ∷ deeds_at entry.space J) = subst (AreRightDeeds entry.space n (limits entry.space)) more (right_deeds_at n limits (entry ∷ J) run entry.space) in
    let there = now_there entry.space n (limits entry.space) deed (deeds_at entry.space J) frame right.0 from in
    subst (λ (s : ℕ). Contains (pair.transmitted_frames (calls_at frame.to (history_at s n (entry ∷ J)))) frame) (sym there.0) (subst (λ D. Contains (pair.transmitted_frames (calls_at frame.to (history_of entry.space n D))) frame) (sym more) there.1)

-- a frame that a Transmit of a run gave
pub given_there : (n : ℕ) (limits : ℕ → Limits) (J : List Entry) (frame : Frame) → WorldRun n limits J → Contains (transmitted_frames J) frame → IsGivenThere n J frame
given_there n limits [] frame run from = absurd (in_none frame from)
given_there n limits (entry ∷ J) frame run from =
    elim (Contains-append_cases (transmitted_frames J) (frames_of (deed_in entry)) frame from) [
      | inl before ↦ later_there n entry J frame (given_there n limits J frame run.1 before)
      | inr now ↦ own_there n limits entry J frame (deed_in entry) refl run now
    ]
