-- What two spaces call on their ends with each other is a run of a pair.
use Rattle.std.proofs.Common.{◌≡◌, ℕ, ◌+◌, Bool, true, false, cond, List, [], ◌∷◌, length, Some, None, Ok, refl, sym, ap, subst, ◌∙◌, inl, inr}
use Rattle.std.specs.Prelude.{⊤, ◌==◌, ◌≢◌}
use Rattle.std.specs.List.{Contains}
use Rattle.std.proofs.lemmas.Bool.{eqb-true}
use Rattle.nob_ids.specs.declared.limits.Limits.{Limits}
use Rattle.nob_ids.specs.declared.reason.Reason.{Reason}
use Rattle.nob_frame.specs.declared.frame.Frame.{Frame}
use Rattle.nob_item.specs.declared.item.Item.{Item}
use Rattle.nob_model_session.specs.End.{handed}
use Rattle.nob_model_session.specs.Right as end
use Rattle.nob_model_session.specs.Pair as pair
use Rattle.nob_model_session.specs.Pair.{first_calls, second_calls, ArrivesFrom, PairRun}
use Rattle.nob_model_session.specs.declared.entry.Arrived.TheVariants as arrived
use Rattle.nob_model_session.specs.declared.entry.EndEntry.{EndEntry}
use Rattle.nob_model_session.specs.declared.entry.EndEntry.TheVariants as ends
use Rattle.nob_model_session.specs.declared.entry.PairEntry.{PairEntry}
use Rattle.nob_model_session.specs.declared.entry.PairEntry.TheVariants.{First, Second}
use Rattle.nob_model_types.specs.declared.entry.Entry.{Entry}
use Rattle.nob_model_types.specs.Deeds.{deed_in}
use Rattle.nob_model_types.specs.declared.deed.Deed.{Deed}
use Rattle.nob_model_types.specs.declared.deed.Deed.TheVariants as did
use Rattle.nob_model_types.specs.declared.deed.Cause.{Cause}
use Rattle.nob_model_types.specs.declared.deed.Cause.TheVariants as causes
use Rattle.nob_model_work.specs.Work.{work}
use Rattle.nob_model_work.specs.Gifts.{gifts}
use Rattle.nob_model_history.specs.Histories.{history_of}
use Rattle.nob_model_history.specs.Ends.{items_to, payload_of, kind_of, with_sends, own_calls, call_of_closing, calls_at}
use Rattle.nob_model_history.proofs.Inbox.{calls_sent}
use Rattle.nob_model.specs.Right.{right_after}
use Rattle.nob_model.specs.Lists.{IsRightDeed, AreRightDeeds}
use Rattle.nob_model.specs.Laws.{AreRightCalls}
use Rattle.nob_model.proofs.Doing.{was_answered}
use Rattle.nob_model.proofs.Accepted.{arrive_tells, arrive_end_tells}
use Rattle.nob_model.proofs.Calling.{calls_law}
use Rattle.nob_model_journal.specs.Journals.{deeds_at, history_at, transmitted_frames}
use Rattle.nob_model_journal.specs.Runs.{WorldRun}
use Rattle.nob_model_invariant.proofs.Entries.{grows, right_deeds_at, ComesFrom, comes}
use Rattle.nob_model_invariant.proofs.Frames.{given_there}

-- ---- calls of a pair

-- the calls on two ends are those of a run of the pair
pub record Paired (a b : ℕ) (at_a at_b : Limits) (first second : List EndEntry) : Type 0 where
  pub run : List PairEntry
  pub is_run : PairRun a b at_a at_b run
  pub firsts : first_calls run ≡ first
  pub seconds : second_calls run ≡ second

none_paired : (a b : ℕ) (at_a at_b : Limits) → Paired a b at_a at_b [] []
none_paired a b at_a at_b = record { run = []; is_run = tt; firsts = refl; seconds = refl }

-- the same run seen from the other end
turned : List PairEntry → List PairEntry
turned [] = []
turned (First call ∷ run) = Second call ∷ turned run
turned (Second call ∷ run) = First call ∷ turned run

turned_first : (run : List PairEntry) → first_calls (turned run) ≡ second_calls run
unfolding turned
turned_first [] = refl
turned_first (First call ∷ run) = turned_first run
turned_first (Second call ∷ run) = ap (λ calls. call ∷ calls) (turned_first run)

turned_second : (run : List PairEntry) → second_calls (turned run) ≡ first_calls run
unfolding turned
turned_second [] = refl
turned_second (First call ∷ run) = ap (λ calls. call ∷ calls) (turned_second run)
turned_second (Second call ∷ run) = turned_second run

turned_run : (a b : ℕ) (at_a at_b : Limits) (run : List PairEntry) → PairRun a b at_a at_b run → PairRun b a at_b at_a (turned run)
unfolding turned
turned_run a b at_a at_b [] is = tt
turned_run a b at_a at_b (First call ∷ run) is = (
  turned_run a b at_a at_b run is.0,
  subst (λ calls. end.IsRight a b at_a call calls) (sym (turned_second run)) is.1,
  subst (λ calls. ArrivesFrom (pair.transmitted_frames calls) call) (sym (turned_first run)) is.2,
)
turned_run a b at_a at_b (Second call ∷ run) is = (
  turned_run a b at_a at_b run is.0,
  subst (λ calls. end.IsRight b a at_b call calls) (sym (turned_first run)) is.1,
  subst (λ calls. ArrivesFrom (pair.transmitted_frames calls) call) (sym (turned_second run)) is.2,
)

turn : (a b : ℕ) (at_a at_b : Limits) (first second : List EndEntry) → Paired a b at_a at_b first second → Paired b a at_b at_a second first
turn a b at_a at_b first second paired = record {
  run = turned paired.run;
  is_run = turned_run a b at_a at_b paired.run paired.is_run;
  firsts = turned_first paired.run ∙ paired.seconds;
  seconds = turned_second paired.run ∙ paired.firsts;
}

-- ---- one call more at the first end

call_more : (a b : ℕ) (at_a at_b : Limits) (call : EndEntry) (first second : List EndEntry) → end.IsRight a b at_a call first → ArrivesFrom (pair.transmitted_frames second) call → Paired a b at_a at_b first second → Paired a b at_a at_b (call ∷ first) second
call_more a b at_a at_b call first second right from paired = record {
  run = First call ∷ paired.run;
  is_run = (
    paired.is_run,
    subst (λ calls. end.IsRight a b at_a call calls) (sym paired.firsts) right,
    subst (λ calls. ArrivesFrom (pair.transmitted_frames calls) call) (sym paired.seconds) from,
  );
  firsts = ap (λ calls. call ∷ calls) paired.firsts;
  seconds = paired.seconds;
}

calls_before : (a b : ℕ) (at_a : Limits) (items : List Item) (calls : List EndEntry) → AreRightCalls a b at_a (with_sends items calls) → AreRightCalls a b at_a calls
calls_before a b at_a [] calls right = right
calls_before a b at_a (item ∷ items) calls right = (calls_before a b at_a items (ends.Send (payload_of item) (kind_of item) (Ok (length (handed calls) + 1)) ∷ calls) right).1

sends_more : (a b : ℕ) (at_a at_b : Limits) (items : List Item) (first second : List EndEntry) → AreRightCalls a b at_a (with_sends items first) → Paired a b at_a at_b first second → Paired a b at_a at_b (with_sends items first) second
sends_more a b at_a at_b [] first second right paired = paired
sends_more a b at_a at_b (item ∷ items) first second right paired =
    let call : EndEntry = ends.Send (payload_of item) (kind_of item) (Ok (length (handed first) + 1)) in
    sends_more a b at_a at_b items (call ∷ first) second right (call_more a b at_a at_b call first second (calls_before a b at_a items (call ∷ first) right).0 tt paired)

-- a frame from b that came in by a deed is one of these
abbrev pub Comes : ℕ → List Frame → Deed → Type 0
Comes b frames (did.Arrive frame count) = (frame.from == b) ≡ true → Contains frames frame
Comes b frames (did.Closing p reason (causes.Frame frame)) = (p == b) ≡ true → Contains frames frame
Comes b frames (_) = ⊤

if_more : (a b : ℕ) (at_a at_b : Limits) (own : Bool) (call : EndEntry) (first second : List EndEntry) → AreRightCalls a b at_a (cond own (call ∷ first) first) → (own ≡ true → ArrivesFrom (pair.transmitted_frames second) call) → Paired a b at_a at_b first second → Paired a b at_a at_b (cond own (call ∷ first) first) second
if_more a b at_a at_b true call first second right from paired = call_more a b at_a at_b call first second right.0 (from refl) paired
if_more a b at_a at_b false call first second right from paired = paired

closing_from : (b p : ℕ) (reason : Reason) (cause : Cause) (frames : List Frame) → Comes b frames (did.Closing p reason cause) → (p == b) ≡ true → ArrivesFrom frames (call_of_closing b reason cause)
closing_from b p reason causes.Item frames from own = tt
closing_from b p reason (causes.Frame frame) frames from own = from own
closing_from b p reason causes.Ticks frames from own = tt
closing_from b p reason causes.Asked frames from own = tt

own_more : (a b : ℕ) (at_a at_b : Limits) (deed : Deed) (first second : List EndEntry) → AreRightCalls a b at_a (own_calls b deed first) → Comes b (pair.transmitted_frames second) deed → Paired a b at_a at_b first second → Paired a b at_a at_b (own_calls b deed first) second
own_more a b at_a at_b (did.Act q k) first second right from paired = if_more a b at_a at_b (q == b) ends.Take first second right (λ own. tt) paired
own_more a b at_a at_b (did.Transmit q frames) first second right from paired = if_more a b at_a at_b (q == b) (ends.Transmit frames) first second right (λ own. tt) paired
own_more a b at_a at_b (did.Arrive frame count) first second right from paired = if_more a b at_a at_b (frame.from == b) (ends.Arrive frame (Ok (arrived.Took count))) first second right from paired
own_more a b at_a at_b (did.Tick q) first second right from paired = if_more a b at_a at_b (q == b) (ends.Tick (Ok None)) first second right (λ own. tt) paired
own_more a b at_a at_b (did.Closing q reason cause) first second right from paired = if_more a b at_a at_b (q == b) (call_of_closing b reason cause) first second right (closing_from b q reason cause (pair.transmitted_frames second) from) paired
own_more a b at_a at_b (did.Open q k) first second right from paired = if_more a b at_a at_b (q == b) (ends.Reopen k (Ok tt)) first second right (λ own. tt) paired
own_more a b at_a at_b deed first second right from paired = paired

if_before : (a b : ℕ) (at_a : Limits) (own : Bool) (call : EndEntry) (calls : List EndEntry) → AreRightCalls a b at_a (cond own (call ∷ calls) calls) → AreRightCalls a b at_a calls
if_before a b at_a true call calls right = right.1
if_before a b at_a false call calls right = right

own_before : (a b : ℕ) (at_a : Limits) (deed : Deed) (calls : List EndEntry) → AreRightCalls a b at_a (own_calls b deed calls) → AreRightCalls a b at_a calls
own_before a b at_a (did.Act q k) calls right = if_before a b at_a (q == b) _ calls right
own_before a b at_a (did.Transmit q frames) calls right = if_before a b at_a (q == b) _ calls right
own_before a b at_a (did.Arrive frame count) calls right = if_before a b at_a (frame.from == b) _ calls right
own_before a b at_a (did.Tick q) calls right = if_before a b at_a (q == b) _ calls right
own_before a b at_a (did.Closing q reason cause) calls right = if_before a b at_a (q == b) _ calls right
own_before a b at_a (did.Open q k) calls right = if_before a b at_a (q == b) _ calls right
own_before a b at_a deed calls right = right

-- by one right deed more at a, whose frame from b was given there, the calls on both ends are still those of a run
pub deed_more : (a b n : ℕ) (at_a at_b : Limits) (deed : Deed) (D : List Deed) (second : List EndEntry) → AreRightDeeds a n at_a (deed ∷ D) → Comes b (pair.transmitted_frames second) deed → Paired a b at_a at_b (calls_at b (history_of a n D)) second → Paired a b at_a at_b (calls_at b (history_of a n (deed ∷ D))) second
deed_more a b n at_a at_b deed D second right from paired =
    let are = calls_law a n at_a (deed ∷ D) right b in
    own_more a b at_a at_b deed (calls_sent a n b deed D) second are from
    (sends_more a b at_a at_b (items_to b (gifts a n deed D (work a n D))) (calls_at b (history_of a n D)) second (own_before a b at_a deed (calls_sent a n b deed D) are) paired)

-- ---- in a run of a world

-- a frame from b that came in at a by a right deed was given on the end of b
comes_from : (a b n : ℕ) (limits : ℕ → Limits) (deed : Deed) (J : List Entry) → WorldRun n limits J → IsRightDeed a n (limits a) deed (deeds_at a J) → ComesFrom (transmitted_frames J) deed → Comes b (pair.transmitted_frames (calls_at a (history_at b n J))) deed
unfolding right_after
comes_from a b n limits (did.Arrive frame count) J run right from = λ own.
    let told = arrive_tells a n count frame (history_at a n J) (was_answered a n (limits a) (did.Arrive frame count) (deeds_at a J) right) in
    subst (λ (q : ℕ). Contains (pair.transmitted_frames (calls_at a (history_at q n J))) frame) (eqb-true frame.from b own)
    (subst (λ (q : ℕ). Contains (pair.transmitted_frames (calls_at q (history_at frame.from n J))) frame) (eqb-true frame.to a told.0) (given_there n limits J frame run from))
comes_from a b n limits (did.Closing p reason (causes.Frame frame)) J run right from = λ own.
    let answered = was_answered a n (limits a) (did.Closing p reason (causes.Frame frame)) (deeds_at a J) right in
    let told = arrive_end_tells a n reason frame (history_at a n J) answered.1 in
    subst (λ (q : ℕ). Contains (pair.transmitted_frames (calls_at a (history_at q n J))) frame) (answered.0 ∙ eqb-true p b own)
    (subst (λ (q : ℕ). Contains (pair.transmitted_frames (calls_at q (history_at frame.from n J))) frame) (eqb-true frame.to a told.0) (given_there n limits J frame run from))
comes_from a b n limits deed J run right from = tt

-- the calls on the ends of a with b and of b with a
abbrev pub ArePaired : (a b n : ℕ) → (ℕ → Limits) → List Entry → Type 0
ArePaired a b n limits J = Paired a b (limits a) (limits b) (calls_at b (history_at a n J)) (calls_at a (history_at b n J))

-- an entry at a, and none at b
first_step : (a b n : ℕ) (limits : ℕ → Limits) (entry : Entry) (J : List Entry) → WorldRun n limits (entry ∷ J) → (deed : Deed) → deed_in entry ≡ Some deed → deeds_at a (entry ∷ J) ≡ deed ∷ deeds_at a J → deeds_at b (entry ∷ J) ≡ deeds_at b J → ArePaired a b n limits J → ArePaired a b n limits (entry ∷ J)
first_step a b n limits entry J run deed is more same paired =
    let right : AreRightDeeds a n (limits a) (deed ∷ deeds_at a J) = subst (AreRightDeeds a n (limits a)) more (right_deeds_at n limits (entry ∷ J) run a) in
    let second : List EndEntry = calls_at a (history_at b n J) in
    let longer : Paired a b (limits a) (limits b) (calls_at b (history_of a n (deed ∷ deeds_at a J))) second = deed_more a b n (limits a) (limits b) deed (deeds_at a J) second right (comes_from a b n limits deed J run.1 right.0 (comes entry J deed run.0.arrives is)) paired in
    subst (λ D. Paired a b (limits a) (limits b) (calls_at b (history_of a n D)) (calls_at a (history_at b n (entry ∷ J)))) (sym more)
    (subst (λ D. Paired a b (limits a) (limits b) (calls_at b (history_of a n (deed ∷ deeds_at a J))) (calls_at a (history_of b n D))) (sym same) longer)

paired_step : (a b n : ℕ) (limits : ℕ → Limits) (entry : Entry) (J : List Entry) → a ≢ b → WorldRun n limits (entry ∷ J) → ArePaired a b n limits J → ArePaired a b n limits (entry ∷ J)
paired_step a b n limits entry J apart run paired =
    elim (grows a entry J) [
      | inl same ↦ elim (grows b entry J) [
        | inl also ↦ subst (λ D. Paired a b (limits a) (limits b) (calls_at b (history_of a n D)) (calls_at a (history_at b n (entry ∷ J)))) (sym same)
            (subst (λ D. Paired a b (limits a) (limits b) (calls_at b (history_at a n J)) (calls_at a (history_of b n D))) (sym also) paired)
        | inr more ↦ turn b a (limits b) (limits a) _ _ (first_step b a n limits entry J run more.0 more.2 more.3 same (turn a b (limits a) (limits b) _ _ paired))
      ]
      | inr more ↦ elim (grows b entry J) [
        | inl same ↦ first_step a b n limits entry J run more.0 more.2 more.3 same paired
        | inr also ↦ absurd (apart (sym more.1 ∙ also.1))
      ]
    ]

-- what two spaces call on their ends with each other is a run of a pair
pub are_paired : (a b n : ℕ) (limits : ℕ → Limits) (J : List Entry) → a ≢ b → WorldRun n limits J → ArePaired a b n limits J
are_paired a b n limits [] apart run = none_paired a b (limits a) (limits b)
are_paired a b n limits (entry ∷ J) apart run = paired_step a b n limits entry J apart run (are_paired a b n limits J apart run.1)
