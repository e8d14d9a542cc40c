-- Finish: what is right is what the state tells, and what it leaves.
use Rattle.std.proofs.Common.{◌≡◌, ℕ, ◌+◌, ◌-◌, ◌≤◌, Bool, true, false, cond, not, ◌==◌, List, [], ◌∷◌, ◌++◌, map, filter, find, flat_map, nat_le, length, get_or, Option, Some, None, Ok, Err, if◌then◌else◌, refl, sym, ap, subst, ◌∙◌, arith}
use lib.ListN.{set}
use Rattle.std.specs.List.{AllByRecursion}
use Rattle.std.proofs.lemmas.Bool.Decides.{nat_tests}
use Rattle.nob_ids.specs.Names.{is_counted, is_same}
use Rattle.nob_ids.specs.declared.limits.Limits.{Limits}
use Rattle.nob_ids.specs.declared.wire_rep.WireRep.{WireRep}
use Rattle.nob_pickle.specs.Spelling.{refs_in}
use Rattle.nob_pickle.specs.declared.value.Value.{Value}
use Rattle.nob_item.specs.Judging.{is_call_number, is_status}
use Rattle.nob_item.specs.Spelling.{reply_head}
use Rattle.nob_item.specs.Writing.{bytes_of}
use Rattle.nob_item.specs.declared.fault.ItemFault.{ItemFault}
use Rattle.nob_item.specs.declared.item.Item.{Item}
use Rattle.nob_item.specs.declared.item.Item.TheVariants as items
use Rattle.nob_model_session.specs.declared.entry.Kind.TheVariants.{Limited}
use Rattle.nob_model_session.specs.declared.entry.EndEntry.TheVariants as ends
use Rattle.nob_session.specs.Onward.{StandsOnward}
use Rattle.nob_session.specs.Stands.{Roomy}
use Rattle.nob_pins.specs.Bundles as pins
use Rattle.nob_table.specs.Table.{Table, standing}
use Rattle.nob_table_rows.proofs.Same.{same_is}
use Rattle.nob_model_types.specs.declared.answer.Answer.TheVariants as answers
use Rattle.nob_model_types.specs.declared.event.Outcome.{Outcome}
use Rattle.nob_model_types.specs.declared.event.Outcome.TheVariants as outcomes
use Rattle.nob_model_types.specs.declared.refusal.Refusal.TheVariants as refusals
use Rattle.nob_model_types.specs.declared.deed.Deed.{Deed}
use Rattle.nob_model_types.specs.declared.deed.Deed.TheVariants.{Finish, DropReply}
use Rattle.nob_model_types.specs.declared.message.RefCopy.{RefCopy}
use Rattle.nob_model_types.specs.Messages.{copy_after, message_after}
use Rattle.nob_model_types.specs.Sessions.{is_peer}
use Rattle.nob_model_work.specs.declared.work.Outstanding.{Outstanding}
use Rattle.nob_model_work.specs.declared.work.Run.{Run}
use Rattle.nob_model_work.specs.Work.{work, work_after, with_loans, run_after, is_run, after_finish}
use Rattle.nob_model_work.specs.Gifts.{gifts, gifts_of, gifts_of_finish, reply_to, status_of, value_of}
use Rattle.nob_model_history.specs.Histories.{history_of}
use Rattle.nob_model_history.specs.Ends.{bytes_if, calls_at, kind_of}
use Rattle.nob_model_history.specs.Holds.{hand, times, is_lent, copies_lent, target_lent, loans_of, lent_in}
use Rattle.nob_model.specs.Right.{right_finish, finish_of}
use Rattle.nob_model_acting.specs.Sending.{◌or_else◌, unless}
use Rattle.nob_space_state.specs.Parts.{State}
use Rattle.nob_space_state.specs.Looks.{has_ended}
use Rattle.nob_space_state.specs.Returns.{HasLent, GivesBack}
use Rattle.nob_space_state.specs.Pins.{AddsPins}
use Rattle.nob_space_state.specs.Sending.{value_refusal, send_refusal, reply_refusal}
use Rattle.nob_model.specs.Lists.{IsRightDeed}
use Rattle.nob_space_state.specs.Shows.{TableShows, TableStands}
use Rattle.nob_space_state.specs.Stands.{Stands}
use Rattle.nob_space_state.proofs.Orderly.{orderly}
use Rattle.nob_space_state.proofs.Calling.{value_there, send_there, pickle_there, or_none, stands_sent}
use Rattle.nob_space_state.proofs.Counted.{times_both}
use Rattle.nob_model.proofs.Made.{loans_made}
use Rattle.nob_space_state.proofs.Running.{IsCall, IsSoundRun, AreSound, HasCallNumber, all_filter, all_found, work_sound}
use Rattle.nob_space_state.proofs.Sent.{HandsOne, shows_handed}
use Rattle.nob_space_state.proofs.Told.{closed_there, over_there, still_there}

-- ---- what the jobs of a number have lent

-- all that they have lent
abbrev pub lent_by : (s j : ℕ) → List Run → List WireRep
lent_by s j runs = flat_map (λ run. loans_of s run.message) (filter (is_run j) runs)

-- each reference stands among all loans as often as among those of the jobs of a number and the others
run_parts : (s j : ℕ) (rep : WireRep) (runs : List Run) → times rep (flat_map (λ (run : Run). loans_of s run.message) runs) ≡ times rep (lent_by s j runs) + times rep (flat_map (λ (run : Run). loans_of s run.message) (filter (λ run. not (is_run j run)) runs))
run_parts s j rep [] = refl
run_parts s j rep (run ∷ runs) =
    let here : ℕ = times rep (loans_of s run.message) in
    let before = run_parts s j rep runs in
    let all = times_both rep (loans_of s run.message) (flat_map (λ (one : Run). loans_of s one.message) runs) in
    let mine = times_both rep (loans_of s run.message) (lent_by s j runs) in
    let others = times_both rep (loans_of s run.message) (flat_map (λ (one : Run). loans_of s one.message) (filter (λ one. not (is_run j one)) runs)) in
    elim (is_run j run) as (λ b. times rep (loans_of s run.message ++ flat_map (λ (one : Run). loans_of s one.message) runs) ≡ times rep (flat_map (λ (one : Run). loans_of s one.message) (cond b (run ∷ filter (is_run j) runs) (filter (is_run j) runs))) + times rep (flat_map (λ (one : Run). loans_of s one.message) (cond (not b) (run ∷ filter (λ one. not (is_run j one)) runs) (filter (λ one. not (is_run j one)) runs)))) [
      | true ↦ omega (arith, all, before, mine)
      | false ↦ omega (arith, all, before, others)
    ]

-- all that is lent, without those
pub lent_less : (s j : ℕ) (rep : WireRep) (W : Outstanding) → times rep (lent_in s W) ≡ times rep (lent_by s j W.running) + times rep (lent_in s (after_finish j W))
unfolding after_finish
lent_less s j rep W =
    let waiting : List WireRep = flat_map (loans_of s) W.waiting in
    let ready : List WireRep = flat_map (loans_of s) W.ready in
    let running : List WireRep = flat_map (λ (run : Run). loans_of s run.message) W.running in
    let others : List WireRep = flat_map (λ (run : Run). loans_of s run.message) (filter (λ run. not (is_run j run)) W.running) in
    let replies : List WireRep = flat_map (loans_of s) W.replies in
    let a = times_both rep waiting (ready ++ (running ++ replies)) in
    let b = times_both rep ready (running ++ replies) in
    let c = times_both rep running replies in
    let d = times_both rep waiting (ready ++ (others ++ replies)) in
    let e = times_both rep ready (others ++ replies) in
    let f = times_both rep others replies in
    let g = run_parts s j rep W.running in
    omega (arith, a, b, c, d, e, f, g)

-- ---- what is lent is counted

pub none_of : (rep : WireRep) (reps : List WireRep) → is_counted rep ≡ false → AllByRecursion (λ (w : WireRep). is_counted w ≡ true) reps → times rep reps ≡ 0
none_of rep [] uncounted all = refl
none_of rep (w ∷ reps) uncounted all = elim (is_same rep w) as (λ b. is_same rep w ≡ b → length (cond b (w ∷ filter (is_same rep) reps) (filter (is_same rep) reps)) ≡ 0) [
  | true ↦ λ same. let is : rep ≡ w = same_is rep w same in let bad : true ≡ false = sym all.0 ∙ ap is_counted (sym is) ∙ uncounted in absurd (cc)
  | false ↦ λ _. none_of rep reps uncounted all.1
] refl

pub counted_append : (xs ys : List WireRep) → AllByRecursion (λ (w : WireRep). is_counted w ≡ true) xs → AllByRecursion (λ (w : WireRep). is_counted w ≡ true) ys → AllByRecursion (λ (w : WireRep). is_counted w ≡ true) (xs ++ ys)
counted_append [] ys all more = more
counted_append (x ∷ xs) ys all more = (all.0, counted_append xs ys all.1 more)

pub counted_copies : (copies : List RefCopy) → AllByRecursion (λ (copy : RefCopy). is_counted copy.rep ≡ true) copies → AllByRecursion (λ (w : WireRep). is_counted w ≡ true) (copies_lent copies)
counted_copies [] all = tt
counted_copies (copy ∷ copies) all = elim (is_lent copy.loan) as (λ b. AllByRecursion (λ (w : WireRep). is_counted w ≡ true) (map (λ (one : RefCopy). one.rep) (cond b (copy ∷ filter (λ (one : RefCopy). is_lent one.loan) copies) (filter (λ (one : RefCopy). is_lent one.loan) copies)))) [ true ↦ (all.0, counted_copies copies all.1) | false ↦ counted_copies copies all.1 ]

pub counted_target : (s : ℕ) (item : Item) → AllByRecursion (λ (w : WireRep). is_counted w ≡ true) (target_lent s item)
counted_target s (items.Call call target method value) = elim (target == 0) as (λ b. target == 0 ≡ b → AllByRecursion (λ (w : WireRep). is_counted w ≡ true) (if b then [] else record { owner = s; index = target } ∷ [])) [ true ↦ λ _. tt | false ↦ λ some. (ap not some, tt) ] refl
counted_target s (items.Reply call status value) = tt
counted_target s (items.Settle item) = tt
counted_target s (items.Dirty index) = tt
counted_target s (items.DirtyOk index) = tt
counted_target s (items.DirtyNo index) = tt
counted_target s (items.Clean index) = tt

counted_runs : (s n : ℕ) (runs : List Run) → AllByRecursion (IsSoundRun s n) runs → AllByRecursion (λ (w : WireRep). is_counted w ≡ true) (flat_map (λ (run : Run). loans_of s run.message) runs)
counted_runs s n [] all = tt
counted_runs s n (run ∷ runs) all =
    counted_append (loans_of s run.message) (flat_map (λ (one : Run). loans_of s one.message) runs)
    (counted_append (target_lent s run.message.item) (copies_lent run.message.copies) (counted_target s run.message.item) (counted_copies run.message.copies all.0.0.counted))
    (counted_runs s n runs all.1)

module _ {s n : ℕ} {limits : Limits} {st : State} {D : List Deed} (stands : Stands s n limits st D) (j : ℕ) where
  -- the messages at hand are sound
  pub state_sound : AreSound s n st.work
  state_sound = subst (AreSound s n) (sym stands.work) (work_sound s n D (orderly stands).acts)

  -- what the jobs of a number have lent, the table has
  pub jobs_lent : HasLent st.table (lent_by s j st.work.running)
  jobs_lent = λ rep. elim (is_counted rep) as (λ b. is_counted rep ≡ b → times rep (lent_by s j st.work.running) ≤ (standing st.table rep).counts.lent) [
    | true ↦ λ counted.
        let loans : (standing st.table rep).counts.lent ≡ times rep (lent_in s st.work) = stands.table.loans rep counted ∙ ap (λ W. times rep (lent_in s W)) (sym stands.work) in
        let parts = lent_less s j rep st.work in
        omega (arith, loans, parts)
    | false ↦ λ uncounted.
        let none = none_of rep (lent_by s j st.work.running) uncounted (counted_runs s n (filter (is_run j) st.work.running) (all_filter (IsSoundRun s n) (is_run j) st.work.running state_sound.running)) in
        omega (arith, none)
  ] refl

  -- the table once it is given back
  pub table_back : (u : Table) → GivesBack st.table u (lent_by s j st.work.running) → TableShows s n u (history_of s n D) (λ rep. hand rep D) (λ rep. times rep (lent_in s (after_finish j st.work)))
  table_back u back =
      subst (λ (loans : WireRep → ℕ). TableShows s n u (history_of s n D) (λ rep. hand rep D) loans)
      (λ i rep. less (times rep (lent_in s (work s n D))) (times rep (lent_by s j st.work.running)) (times rep (lent_in s (after_finish j st.work))) (ap (λ W. times rep (lent_in s W)) (sym stands.work) ∙ lent_less s j rep st.work) i)
      (back.shows s n (history_of s n D) (λ rep. hand rep D) (λ rep. times rep (lent_in s (work s n D))) stands.table)
    where
      less : (a b c : ℕ) → a ≡ b + c → a - b ≡ c
      less a b c sum = omega (arith, sum)

-- ---- the outstanding work without the jobs of a number

map_filtered : {X : Type 0} (f : X → X) (test : X → Bool) → ((x : X) → test (f x) ≡ test x) → (xs : List X) → map f (filter test xs) ≡ filter test (map f xs)
map_filtered f test same [] = refl
map_filtered f test same (x ∷ xs) = rw (same x) (elim (test x) as (λ b. map f (cond b (x ∷ filter test xs) (filter test xs)) ≡ cond b (f x ∷ filter test (map f xs)) (filter test (map f xs))) [ true ↦ ap (λ ys. f x ∷ ys) (map_filtered f test same xs) | false ↦ map_filtered f test same xs ])

without_run : (s n j : ℕ) (D : List Deed) → with_loans s n D (after_finish j (work s n D)) ≡ after_finish j (work s n D)
unfolding with_loans after_finish run_after
without_run s n j D =
    let made : with_loans s n D (work s n D) ≡ work s n D = loans_made s n D in
    let runs : map (λ (run : Run). run_after s n D run) (filter (λ run. not (is_run j run)) (work s n D).running) ≡ filter (λ run. not (is_run j run)) (work s n D).running =
    map_filtered (λ run. run_after s n D run) (λ run. not (is_run j run)) (λ run. refl) (work s n D).running ∙ ap (λ (W : Outstanding). filter (λ run. not (is_run j run)) W.running) made in
    λ i. record { waiting = (made i).waiting; ready = (made i).ready; running = runs i; replies = (made i).replies; calls = (work s n D).calls }

pub finish_work : (s n j : ℕ) (outcome : Outcome) (D : List Deed) → work s n (Finish j outcome ∷ D) ≡ after_finish j (work s n D)
unfolding work_after with_loans message_after run_after copy_after after_finish
finish_work s n j outcome D = without_run s n j D

pub drop_work : (s n j : ℕ) (D : List Deed) → work s n (DropReply j ∷ D) ≡ after_finish j (work s n D)
unfolding work_after with_loans message_after run_after copy_after after_finish
drop_work s n j D = without_run s n j D

-- ---- the Reply

pub limited_status : (outcome : Outcome) → nat_le (status_of outcome) 2 ≡ true
limited_status (outcomes.Answer value) = refl
limited_status (outcomes.Fault value) = refl
limited_status outcomes.NoMethod = refl

pub limited_reply : (call : ℕ) (outcome : Outcome) → Limited ≡ kind_of (items.Reply call (status_of outcome) (value_of outcome))
limited_reply call outcome = rw (limited_status outcome) refl

-- a Finish hands one item to the client
pub finish_hands : (s n j p call target method : ℕ) (value : Value) (outcome : Outcome) (run : Run) (D : List Deed) → find (is_run j) (work s n D).running ≡ Some run → run.message.from ≡ p → run.message.item ≡ items.Call call target method value → is_peer s n p ≡ true
    → HandsOne s n (Finish j outcome) D p (items.Reply call (status_of outcome) (value_of outcome))
unfolding gifts gifts_of gifts_of_finish reply_to
finish_hands s n j p call target method value outcome run D found from item peer = record {
  gives = rw (found, item, from, peer) refl;
  asks_nothing = refl;
  makes_no_call = λ q calls. refl;
  closes_nothing = λ q. refl;
  opens_nothing = λ q. refl;
  settles_nothing = λ q k. refl;
  payloads = λ q k. refl;
  same_turns = λ rep. refl;
  exports = refl;
  withdrawn = λ index. refl;
  same_gains = refl;
  same_releases = refl;
  listed = λ index client. refl;
  jobs = refl;
}

-- a Reply with the number of a call has a spelling
pub reply_spelled : (s : ℕ) (st : State) (call status : ℕ) (value : Value) (fault : ItemFault) → is_call_number call ≡ true → nat_le status 2 ≡ true → value_refusal s st value ≡ None → bytes_of (items.Reply call status value) ≡ Err fault → ⊥
reply_spelled s st call status value fault number low fits e =
    let pickle = pickle_there s st value fits in
    let there : is_status status ≡ true = grind (arith, nat_tests, low) in
    let spelled : bytes_of (items.Reply call status value) ≡ Ok (reply_head call status ++ pickle.0) = rw (number, there, pickle.1) refl in
    let bad = sym spelled ∙ e in
    absurd (cc)

-- ---- what is right

module _ {s n : ℕ} {limits : Limits} {st : State} {D : List Deed} (stands : Stands s n limits st D) (j : ℕ) (outcome : Outcome) where
  found_there : (found : Option Run) → find (is_run j) st.work.running ≡ found → right_finish s j outcome (history_of s n D) ≡ finish_of s outcome found (history_of s n D)
  unfolding right_finish
  found_there found is = ap (λ (run : Option Run). finish_of s outcome run (history_of s n D)) (ap (λ (W : Outstanding). find (is_run j) W.running) (sym stands.work) ∙ is)

  -- no job of this number runs
  pub finish_of_none : find (is_run j) st.work.running ≡ None → right_finish s j outcome (history_of s n D) ≡ Err refusals.NoJob
  unfolding finish_of
  finish_of_none none = found_there None none

  module _ (run : Run) (found : find (is_run j) st.work.running ≡ Some run) where
    -- the job that was found is sound
    pub run_sound : IsSoundRun s n run
    run_sound = (all_found (IsSoundRun s n) (is_run j) st.work.running run (state_sound stands j).running found).0

    -- the session of its call has ended
    pub finish_of_ended : has_ended st.sessions run.message.from run.message.session ≡ true → right_finish s j outcome (history_of s n D) ≡ Ok answers.Dropped
    unfolding finish_of
    finish_of_ended cut = found_there (Some run) found ∙ rw (sym (over_there stands run.message run_sound.0.peer) ∙ cut) refl

    -- it hasn't
    pub finish_of_open : has_ended st.sessions run.message.from run.message.session ≡ false → right_finish s j outcome (history_of s n D) ≡ unless (reply_refusal s run.message.from st (value_of outcome)) answers.Finished
    unfolding finish_of
    finish_of_open still =
        found_there (Some run) found
        ∙ rw (sym (over_there stands run.message run_sound.0.peer) ∙ still) (λ i. unless (value_there stands (value_of outcome) i or_else send_there stands run.message.from Limited run_sound.0.peer i) answers.Finished)

-- ---- a reply that is dropped

module _ {s n : ℕ} {limits : Limits} {st : State} {D : List Deed} (stands : Stands s n limits st D) (j : ℕ) where
  pub drop_stands : (u : Table) (runs : List Run) → IsRightDeed s n limits (DropReply j) D → GivesBack st.table u (lent_by s j st.work.running) → runs ≡ filter (λ run. not (is_run j run)) st.work.running
      → Stands s n limits (record { sessions = st.sessions; table = u; dirty = st.dirty; pins = st.pins; work = record { waiting = st.work.waiting; ready = st.work.ready; running = runs; replies = st.work.replies; calls = st.work.calls }; awaited = st.awaited; calls = st.calls; jobs = st.jobs }) (DropReply j ∷ D)
  unfolding gifts gifts_of after_finish
  drop_stands u runs its back ended =
      let W : Outstanding = record { waiting = st.work.waiting; ready = st.work.ready; running = runs; replies = st.work.replies; calls = st.work.calls } in
      let after : W ≡ after_finish j st.work = λ i. record { waiting = st.work.waiting; ready = st.work.ready; running = ended i; replies = st.work.replies; calls = st.work.calls } in
      let shows = table_back stands j u back in
      let outstanding : W ≡ work s n (DropReply j ∷ D) = after ∙ ap (after_finish j) stands.work ∙ sym (drop_work s n j D) in
      record {
        ends = record { each = stands.ends.each; ends = λ place end there. stands.ends.ends place end there };
        table = record {
          me = shows.me;
          exported = shows.exported;
          live = shows.live;
          far = shows.far;
          hands = shows.hands;
          loans = λ rep counted. shows.loans rep counted ∙ ap (λ V. times rep (lent_in s V)) (sym after ∙ outstanding);
          passed = shows.passed;
          dirties = shows.dirties;
          places = shows.places;
          kept = shows.kept;
        };
        listed = stands.listed;
        pins = stands.pins;
        work = outstanding;
        awaited = stands.awaited;
        calls = stands.calls;
        jobs = stands.jobs;
        right = (its, stands.right);
      }

-- the table after a Finish
pub finish_shows : {s n j p : ℕ} {item : Item} {outcome : Outcome} {limits : Limits} {st : State} {D : List Deed} → Stands s n limits st D → HandsOne s n (Finish j outcome) D p item → (u : Table) → GivesBack st.table u (lent_by s j st.work.running)
    → TableStands s n u (history_of s n (Finish j outcome ∷ D))
finish_shows {s} {n} {j} {p} {item} {outcome} {limits} {st} {D} stands hands u back =
    shows_handed hands (λ rep. hand rep (Finish j outcome ∷ D)) (λ rep. times rep (lent_in s (work s n (Finish j outcome ∷ D)))) (table_back stands j u back)
    (λ rep counted. refl)
    (λ rep counted. ap (λ W. times rep (lent_in s W)) (ap (after_finish j) stands.work ∙ sym (finish_work s n j outcome D)))

-- a Finish that isn't refused is answered
pub finish_wants : {s n : ℕ} {limits : Limits} {st : State} {D : List Deed} → Stands s n limits st D → (j : ℕ) (outcome : Outcome) (run : Run) → find (is_run j) st.work.running ≡ Some run → has_ended st.sessions run.message.from run.message.session ≡ false → (value : Value) → value ≡ value_of outcome → reply_refusal s run.message.from st value ≡ None
    → right_finish s j outcome (history_of s n D) ≡ Ok answers.Finished
finish_wants {s} {n} {limits} {st} {D} stands j outcome run found still value is none =
    finish_of_open stands j outcome run found still ∙ ap (λ refusal. unless refusal answers.Finished) (ap (reply_refusal s run.message.from st) (sym is) ∙ none)

-- after a Finish
pub finish_stands : {s n : ℕ} {limits : Limits} {st : State} {D : List Deed} → Stands s n limits st D → (j : ℕ) (outcome : Outcome) → IsRightDeed s n limits (Finish j outcome) D → (run : Run) → find (is_run j) st.work.running ≡ Some run → has_ended st.sessions run.message.from run.message.session ≡ false
    → (call target method : ℕ) (argument : Value) → run.message.item ≡ items.Call call target method argument
    → (old new : Roomy) (table_of_pins : pins.Table) → old ≡ get_or st.sessions (run.message.from - 1) old
    → (payload : List ℕ) (status number : ℕ) (value : Value) (reps : List WireRep) (u : Table) (runs : List Run)
    → status ≡ status_of outcome → value ≡ value_of outcome → bytes_of (items.Reply call status value) ≡ Ok payload → number ≡ old.end.handed + 1
    → (StandsOnward s run.message.from limits old.end (calls_at run.message.from (history_of s n D)) → StandsOnward s run.message.from limits new.end (ends.Send payload Limited (Ok number) ∷ calls_at run.message.from (history_of s n D)))
    → reps ≡ filter is_counted (refs_in value) → AddsPins st.pins.bundles table_of_pins.bundles run.message.from (old.end.handed + 1) reps
    → GivesBack st.table u (lent_by s j st.work.running) → runs ≡ filter (λ one. not (is_run j one)) st.work.running
    → Stands s n limits (record { sessions = set st.sessions (run.message.from - 1) new; table = u; dirty = st.dirty; pins = table_of_pins; work = record { waiting = st.work.waiting; ready = st.work.ready; running = runs; replies = st.work.replies; calls = st.work.calls }; awaited = st.awaited; calls = st.calls; jobs = st.jobs }) (Finish j outcome ∷ D)
unfolding after_finish
finish_stands {s} {n} {limits} {st} {D} stands j outcome its run found still call target method argument item old new table_of_pins is payload status number value reps u runs status_is value_is spelled next answer refs adds back ended =
    let W : Outstanding = record { waiting = st.work.waiting; ready = st.work.ready; running = runs; replies = st.work.replies; calls = st.work.calls } in
    let after : W ≡ after_finish j st.work = λ i. record { waiting = st.work.waiting; ready = st.work.ready; running = ended i; replies = st.work.replies; calls = st.work.calls } in
    let peer : is_peer s n run.message.from ≡ true = (run_sound stands j outcome run found).0.peer in
    let there : find (is_run j) (work s n D).running ≡ Some run = ap (λ (V : Outstanding). find (is_run j) V.running) (sym stands.work) ∙ found in
    let hands : HandsOne s n (Finish j outcome) D run.message.from (items.Reply call (status_of outcome) (value_of outcome)) = finish_hands s n j run.message.from call target method argument outcome run D there refl item peer in
    let bytes : bytes_of (items.Reply call (status_of outcome) (value_of outcome)) ≡ Ok payload = λ i. (subst (λ (k : ℕ). bytes_of (items.Reply call k (value_of outcome)) ≡ Ok payload) status_is (subst (λ (v : Value). bytes_of (items.Reply call status v) ≡ Ok payload) value_is spelled)) i in
    let counted : reps ≡ filter is_counted (refs_in (value_of outcome)) = refs ∙ ap (λ (v : Value). filter is_counted (refs_in v)) value_is in
    stands_sent stands run.message.from old new table_of_pins peer is payload Limited number W u st.calls hands (sym (closed_there stands run.message.from) ∙ still_there st.sessions run.message.from run.message.session still)
    (sym (ap bytes_if bytes)) (limited_reply call outcome) next answer (subst (λ (rs : List WireRep). AddsPins st.pins.bundles table_of_pins.bundles run.message.from (old.end.handed + 1) rs) counted adds)
    (finish_shows stands hands u back)
    (after ∙ ap (after_finish j) stands.work ∙ sym (finish_work s n j outcome D))
    refl
    stands.calls its

-- what is no Call doesn't run
pub runs_call : (item : Item) → IsCall item → ((call : ℕ) (target method : ℕ) (value : Value) → item ≡ items.Call call target method value → ⊥) → ⊥
runs_call (items.Call call target method value) is other = other call target method value refl
runs_call (items.Reply call status value) is other = is
runs_call (items.Settle item) is other = is
runs_call (items.Dirty index) is other = is
runs_call (items.DirtyOk index) is other = is
runs_call (items.DirtyNo index) is other = is
runs_call (items.Clean index) is other = is

-- the number of a Call that runs is that of a call
pub runs_number : (item : Item) (call target method : ℕ) (value : Value) → HasCallNumber item → item ≡ items.Call call target method value → is_call_number call ≡ true
runs_number item call target method value number is = subst HasCallNumber is number

-- a reply that isn't refused is of a value that may be sent, and finds a number
pub reply_judged : (s client : ℕ) (st : State) (value : Value) → reply_refusal s client st value ≡ None → (value_refusal s st value ≡ None) × (send_refusal client Limited st ≡ None)
reply_judged s client st value none = or_none _ _ none

-- the session of the job that was found hasn't ended
pub still_open : (j : ℕ) (runs : List Run) (sessions : List Roomy) (run other : Run) → find (is_run j) runs ≡ Some run → has_ended sessions run.message.from run.message.session ≡ false → find (is_run j) runs ≡ Some other → has_ended sessions other.message.from other.message.session ≡ true → ⊥
still_open j runs sessions run other found still again cut =
    let both : Some run ≡ Some other = sym found ∙ again in
    let one : run ≡ other = cc in
    let bad : true ≡ false = sym cut ∙ ap (λ (r : Run). has_ended sessions r.message.from r.message.session) (sym one) ∙ still in
    absurd (cc)
