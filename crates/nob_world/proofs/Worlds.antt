-- What one entry more leaves of a world.
use Rattle.std.proofs.Common.{◌≡◌, ℕ, ◌+◌, ◌-◌, ◌≤◌, Bool, true, false, not, ◌==◌, List, [], ◌∷◌, ◌++◌, length, take, drop, max, reverse, get_or, slice_get, Option, Some, None, Result, Ok, Err, if◌then◌else◌, ◌≢◌, refl, sym, ap, subst, ◌∙◌, arith}
use Rattle.std.specs.Prelude.{IfErr}
use Rattle.std.specs.List.{AllByRecursion, Contains}
use Rattle.std.proofs.lemmas.Option.{slice_get_read, slice_get_within, get_or_from_slice_get}
use Prim.Native.Nat.{zero, suc}
use lib.ListN.{set}
use Rattle.std.proofs.lemmas.List.{length-set, reverse-append}
use Rattle.std.proofs.lemmas.Cmp.{nat_eq_equiv}
use Rattle.std.proofs.lemmas.Bool.Decides.{nat_tests, Decides-eqb}
use Rattle.nob_ids.specs.declared.limits.Limits.{Limits}
use Rattle.nob_ids.specs.Names.{IsSpace}
use Rattle.nob_ids.specs.declared.reason.Reason.{Reason}
use Rattle.nob_frame.specs.declared.frame.Frame.{Frame}
use Rattle.nob_frame.specs.Spelling.{Fits}
use Rattle.nob_frame.specs.declared.version.Version.TheVariants.{Two}
use Rattle.nob_model_types.specs.declared.answer.Answer.{Answer}
use Rattle.nob_model_types.specs.declared.refusal.Refusal.{Refusal}
use Rattle.nob_model_types.specs.declared.event.Event.{Event}
use Rattle.nob_model_types.specs.declared.entry.Entry.{Entry}
use Rattle.nob_model_types.specs.declared.answer.Answer.TheVariants as answers
use Rattle.nob_model_types.specs.declared.event.Event.TheVariants as events
use Rattle.nob_model_types.specs.declared.refusal.Refusal.TheVariants as refusals
use Rattle.nob_model_session.specs.declared.entry.EndEntry.{EndEntry}
use Rattle.nob_model_session.specs.End.{number, is_open, accepted_count, lowest, transmitted, data_arrived, unacknowledged, owes_close, ending}
use Rattle.nob_model_session.specs.Right.{data_frames, open_frames, closed_frames, right_transmit}
use Rattle.nob_model_types.specs.Deeds.{deed_by, deed_of}
use Rattle.nob_model_types.specs.Sessions.{is_peer}
use Rattle.nob_model_history.specs.Histories.{history}
use Rattle.nob_model_history.specs.Ends.{calls_at}
use Rattle.nob_model.specs.Right.{right, right_after, right_frames}
use Rattle.nob_model_journal.specs.Journals.{at, transmitted_frames, frames_of}
use Rattle.nob_model_journal.specs.Runs.{ArrivesGiven, WorldRun, frame_of}
use Rattle.nob_model_invariant.specs.Typed.{IsOfTypes, AreOfTypes}
use Rattle.nob_table_rows.proofs.Flat.{get_set_other}
use Rattle.nob_space_state.proofs.Ends.{set_here}
use Rattle.nob_space.specs.Spaces.{Owner, StandsFor, SameSpace}
use Rattle.nob_world.specs.Worlds.{IsSpaceOf, SpacesStand, IsWorld, world_of, entry_of, is_arrival, outcome, why_stopped}
use Rattle.nob_world.specs.declared.error.WorldError.{WorldError}
use Rattle.nob_world.specs.declared.error.WorldError.TheVariants.{Refused, NoSpace, NoFrame, OutOfMemory}

-- an entry more of a space stands in its own list
at_own : (p : ℕ) (event : Event) (result : Result Answer Refusal) (J : List Entry) → at p (entry_of p event result ∷ J) ≡ entry_of p event result ∷ at p J
at_own p event result J = rw (nat_eq_equiv.refl p) refl

-- and in no other
at_other : (p q : ℕ) (event : Event) (result : Result Answer Refusal) (J : List Entry) → (p == q) ≡ false → at q (entry_of p event result ∷ J) ≡ at q J
at_other p q event result J differs = rw differs refl

-- all of two lists
pub all_append : {X : Type 0} (P : X → Type 0) (xs ys : List X) → AllByRecursion P xs → AllByRecursion P ys → AllByRecursion P (xs ++ ys)
all_append P [] ys all more = more
all_append P (x ∷ xs) ys all more = (all.0, all_append P xs ys all.1 more)

-- the spaces of a journal with one that stands for another one, where no other space has another entry
spaces_changed : (n : ℕ) (limits : Limits) (spaces : List Owner) (J J' : List Entry) (p : ℕ) (old new : Owner)
    → SpacesStand n limits spaces J → 1 ≤ p → slice_get spaces (p - 1) ≡ Some old → SameSpace old new → StandsFor new (at p J') → ((q : ℕ) → p == q ≡ false → at q J' ≡ at q J)
    → SpacesStand n limits (set spaces (p - 1) new) J'
spaces_changed n limits spaces J J' p old new stand low there same stands others = record {
  each = length-set spaces (p - 1) new ∙ stand.each;
  stand = λ place space got. elim (place == p - 1) as (λ b. place == p - 1 ≡ b → IsSpaceOf n limits J' (place + 1) space) [
    | true ↦ λ here.
        let here_is : place ≡ p - 1 = (Decides-eqb place (p - 1)).0 here in
        let number : p ≡ place + 1 = omega (arith, here_is, low) in
        let is : space ≡ new = set_here spaces (p - 1) new space (subst (λ k. slice_get (set spaces (p - 1) new) k ≡ Some space) here_is got) in
        let before = stand.stand (p - 1) old there in
        let its : IsSpaceOf n limits J' p new = record {
          id = same.id ∙ before.id ∙ omega (arith, low);
          count = same.n ∙ before.count;
          same_limits = same.limits ∙ before.same_limits;
          stands = stands;
        } in
        subst (IsSpaceOf n limits J' (place + 1)) (sym is) (subst (λ q. IsSpaceOf n limits J' q new) number its)
    | false ↦ λ elsewhere.
        let apart : place ≡ p - 1 → ⊥ = λ e. let holds : true ≡ false = sym ((Decides-eqb place (p - 1)).1 e) ∙ elsewhere in absurd cc in
        let before = stand.stand place space (sym (get_set_other spaces (p - 1) place new apart) ∙ got) in
        let differs : p == place + 1 ≡ false = grind (arith, nat_tests, elsewhere, low) in
        record {
          id = before.id;
          count = before.count;
          same_limits = before.same_limits;
          stands = subst (StandsFor space) (sym (others (place + 1) differs)) before.stands;
        }
  ] refl;
}

-- an element that was read stands at its place
pub read_there : {X : Type 0} (xs : List X) (p k : ℕ) (x : X) → k ≡ p - 1 → 1 ≤ p → p ≤ length xs → x ≡ get_or xs k x → slice_get xs (p - 1) ≡ Some x
read_there xs p k x same low high is = slice_get_read xs (length xs) (p - 1) x refl (omega (arith, low, high)) (subst (λ j. x ≡ get_or xs j x) same is)

-- what was answered at a space of a world is the right answer by the world's own numbers
right_there : {n p : ℕ} {limits : Limits} {J : List Entry} {old : Owner} (event : Event) (result : Result Answer Refusal) → 1 ≤ p → IsSpaceOf n limits J (p - 1 + 1) old
    → right old.id old.n old.limits (at p J) event ≡ result → result ≡ right p n limits (at p J) event
right_there {n} {p} {limits} {J} {old} event result low place told =
    let id : old.id ≡ p = place.id ∙ omega (arith, low) in
    let one : right p old.n old.limits (at p J) event ≡ result = subst (λ k. right k old.n old.limits (at p J) event ≡ result) id told in
    let two : right p n old.limits (at p J) event ≡ result = subst (λ m. right p m old.limits (at p J) event ≡ result) place.count one in
    sym (subst (λ (its : Limits). right p n its (at p J) event ≡ result) place.same_limits two)

-- what a step at one space leaves of a world: the space that was asked, what it answered, and what it was to give
pub record Asked (n : ℕ) (limits : Limits) (spaces : List Owner) (entries : List Entry) (frames : List Frame) (p k : ℕ) (event : Event) (old new looked : Owner) : Type 0 where
  pub world : IsWorld (world_of n limits spaces entries frames)
  pub number : k ≡ p - 1
  pub low : 1 ≤ p
  pub high : p ≤ length spaces
  pub old_is : old ≡ get_or spaces k old
  pub looked_is : looked ≡ get_or spaces k looked
  pub same : SameSpace old new
  pub arrives : ArrivesGiven event (reverse entries)

module _ {n : ℕ} {limits : Limits} {spaces : List Owner} {entries : List Entry} {frames : List Frame} {p k : ℕ} {event : Event} {old new looked : Owner} (asked : Asked n limits spaces entries frames p k event old new looked) where
  old_there : slice_get spaces (p - 1) ≡ Some old
  old_there = read_there spaces p k old asked.number asked.low asked.high asked.old_is

  same_space : looked ≡ old
  same_space = let both : Some looked ≡ Some old = sym (read_there spaces p k looked asked.number asked.low asked.high asked.looked_is) ∙ old_there in cc

  place_of : IsSpaceOf n limits (reverse entries) (p - 1 + 1) old
  place_of = asked.world.spaces.stand (p - 1) old old_there

  id_of : old.id ≡ p
  id_of = place_of.id ∙ omega (arith, asked.low)

  stood : StandsFor old (at p (reverse entries))
  stood = subst (λ q. StandsFor old (at q (reverse entries))) (let same : p - 1 + 1 ≡ p = omega (arith, asked.low) in same) place_of.stands

  -- where memory is wanted the world is as it was
  pub world_kept : (entries' : List Entry) (frames' : List Frame) → ((L : List Entry) → StandsFor old L → StandsFor new L) → entries' ≡ entries → frames' ≡ frames → IsWorld (world_of n limits (set spaces k new) entries' frames')
  world_kept entries' frames' stands same_entries same_frames =
      let spaces' = spaces_changed n limits spaces (reverse entries) (reverse entries) p old new asked.world.spaces asked.low old_there asked.same (stands (at p (reverse entries)) stood) (λ q other. refl) in
      subst (λ j. IsWorld (world_of n limits (set spaces j new) entries' frames')) (sym asked.number)
      (subst (λ (es : List Entry). IsWorld (world_of n limits (set spaces (p - 1) new) es frames')) (sym same_entries)
      (subst (λ (fs : List Frame). IsWorld (world_of n limits (set spaces (p - 1) new) entries fs)) (sym same_frames)
      (record { some = asked.world.some; few = asked.world.few; spaces = spaces'; run = asked.world.run; frames = asked.world.frames; spelt = asked.world.spelt; for_spaces = asked.world.for_spaces; typed = asked.world.typed })))

  -- else it has one entry more
  pub world_made : (result : Result Answer Refusal) (more : List Frame) (entries' : List Entry) (frames' : List Frame)
      → ((L : List Entry) → StandsFor old L → right old.id old.n old.limits L event ≡ result)
      → ((L : List Entry) → StandsFor old L → StandsFor new (entry_of old.id event result ∷ L))
      → more ≡ frames_of (deed_by event result) → AllByRecursion (Fits Two) more → AllByRecursion (λ frame. frame.to ≤ n) more → IsOfTypes (entry_of p event result)
      → entries' ≡ entries ++ entry_of p event result ∷ [] → frames' ≡ frames ++ more
      → IsWorld (world_of n limits (set spaces k new) entries' frames')
  world_made result more entries' frames' answered stands gives spelt for_spaces typed entries_is frames_is =
      let J = reverse entries in
      let entry = entry_of p event result in
      let newest : entry ∷ J ≡ reverse (entries ++ entry ∷ []) = sym (reverse-append entries (entry ∷ [])) in
      let new_stands : StandsFor new (at p (entry ∷ J)) = subst (StandsFor new) (sym (at_own p event result J)) (subst (λ q. StandsFor new (entry_of q event result ∷ at p J)) id_of (stands (at p J) stood)) in
      let is_right = right_there event result asked.low place_of (answered (at p J) stood) in
      let spaces' : SpacesStand n limits (set spaces (p - 1) new) (entry ∷ J) = spaces_changed n limits spaces J (entry ∷ J) p old new asked.world.spaces asked.low old_there asked.same new_stands (λ q other. at_other p q event result J other) in
      let high : p ≤ n = subst (λ m. p ≤ m) asked.world.spaces.each asked.high in
      subst (λ j. IsWorld (world_of n limits (set spaces j new) entries' frames')) (sym asked.number)
      (subst (λ (es : List Entry). IsWorld (world_of n limits (set spaces (p - 1) new) es frames')) (sym entries_is)
      (subst (λ (fs : List Frame). IsWorld (world_of n limits (set spaces (p - 1) new) (entries ++ entry ∷ []) fs)) (sym frames_is) (record {
        some = asked.world.some;
        few = asked.world.few;
        spaces = subst (SpacesStand n limits (set spaces (p - 1) new)) newest spaces';
        run = subst (λ (its : List Entry). WorldRun n (λ _. limits) its) newest (record { first = asked.low; last = high; is_right = is_right; arrives = asked.arrives }, asked.world.run);
        frames = ap (λ fs. fs ++ more) asked.world.frames ∙ ap (λ fs. transmitted_frames J ++ fs) gives ∙ ap transmitted_frames newest;
        spelt = all_append (Fits Two) frames more asked.world.spelt spelt;
        for_spaces = all_append (λ frame. frame.to ≤ n) frames more asked.world.for_spaces for_spaces;
        typed = subst AreOfTypes newest (typed, asked.world.typed);
      })))

  -- what was to be given by the space as it was looked at
  pub gives_of : (more : List Frame) (answer : Answer) → ((L : List Entry) (its : Answer) → StandsFor looked L → right looked.id looked.n looked.limits L event ≡ Ok its → more ≡ frames_of (deed_of event its))
      → ((L : List Entry) → StandsFor old L → right old.id old.n old.limits L event ≡ Ok answer) → more ≡ frames_of (deed_of event answer)
  gives_of more answer told answered =
      let there : StandsFor looked (at p (reverse entries)) = subst (λ (space : Owner). StandsFor space (at p (reverse entries))) (sym same_space) stood in
      told (at p (reverse entries)) answer there (subst (λ (space : Owner). right space.id space.n space.limits (at p (reverse entries)) event ≡ Ok answer) (sym same_space) (answered (at p (reverse entries)) stood))

  -- its number is one of a space's
  pub looked_space : IsSpace looked.id
  looked_space =
      let is : looked.id ≡ p = ap (λ (space : Owner). space.id) same_space ∙ id_of in
      let high : p ≤ n = subst (λ m. p ≤ m) asked.world.spaces.each asked.high in
      subst IsSpace (sym is) (asked.low, let few : p ≤ 32 = omega (arith, high, asked.world.few) in few)

  -- and what is sent goes to a space
  pub goes_of : (more : List Frame) → ((L : List Entry) → StandsFor looked L → AllByRecursion (λ frame. frame.to ≤ looked.n) more) → AllByRecursion (λ frame. frame.to ≤ n) more
  goes_of more told =
      let there : StandsFor looked (at p (reverse entries)) = subst (λ (space : Owner). StandsFor space (at p (reverse entries))) (sym same_space) stood in
      subst (λ m. AllByRecursion (λ (frame : Frame). frame.to ≤ m) more) (ap (λ (space : Owner). space.n) same_space ∙ place_of.count) (told (at p (reverse entries)) there)

-- ---- where frames go
data_go : (me peer session ack k n : ℕ) (payloads : List (List ℕ)) → peer ≤ n → AllByRecursion (λ frame. frame.to ≤ n) (data_frames me peer session ack k payloads)
data_go me peer session ack k n [] low = tt
data_go me peer session ack k n (payload ∷ payloads) low = (low, data_go me peer session ack (k + 1) n payloads low)

open_go : (me peer session ack k given n : ℕ) (due : Bool) (payloads : List (List ℕ)) → peer ≤ n → AllByRecursion (λ frame. frame.to ≤ n) (open_frames me peer session ack k given due payloads)
open_go me peer session ack k given n true [] low = (low, tt)
open_go me peer session ack k given n false [] low = tt
open_go me peer session ack k given n due (payload ∷ payloads) low = (low, data_go me peer session ack (max k given + 1) n (drop (given - k) payloads) low)

closed_go : (me peer session ack n : ℕ) (owes : Bool) (reason : Option Reason) → peer ≤ n → AllByRecursion (λ frame. frame.to ≤ n) (closed_frames me peer session ack owes reason)
closed_go me peer session ack n owes None low = tt
closed_go me peer session ack n true (Some reason) low = (low, tt)
closed_go me peer session ack n false (Some reason) low = tt

transmit_go : (me peer window n : ℕ) (L : List EndEntry) → peer ≤ n → AllByRecursion (λ frame. frame.to ≤ n) (right_transmit me peer window L)
transmit_go me peer window n L low = elim (is_open L) as (λ b. AllByRecursion (λ (frame : Frame). frame.to ≤ n) (if b then open_frames me peer (number L) (accepted_count L + 1) (lowest L) (transmitted L) (data_arrived L) (take window (unacknowledged L)) else closed_frames me peer (number L) (accepted_count L + 1) (owes_close L) (ending L))) [
  | true ↦ open_go me peer (number L) (accepted_count L + 1) (lowest L) (transmitted L) n (data_arrived L) (take window (unacknowledged L)) low
  | false ↦ closed_go me peer (number L) (accepted_count L + 1) n (owes_close L) (ending L) low
]

-- the frames that a right Transmit gives go to a space
pub frames_go : (s n : ℕ) (limits : Limits) (L : List Entry) (peer : ℕ) (frames : List Frame) → right s n limits L (events.Transmit peer) ≡ Ok (answers.Frames frames) → AllByRecursion (λ frame. frame.to ≤ n) frames
unfolding right_after right_frames
frames_go s n limits L peer frames is = elim (is_peer s n peer) as (λ b. is_peer s n peer ≡ b → (if not b then Err refusals.NoPeer else Ok (answers.Frames (right_transmit s peer limits.window (calls_at peer (history s n L))))) ≡ Ok (answers.Frames frames) → AllByRecursion (λ (frame : Frame). frame.to ≤ n) frames) [
  | true ↦ λ peer_is told. let low : peer ≤ n = grind (arith, nat_tests, peer_is) in subst (AllByRecursion (λ (frame : Frame). frame.to ≤ n)) (let same : right_transmit s peer limits.window (calls_at peer (history s n L)) ≡ frames = cc in same) (transmit_go s peer limits.window n (calls_at peer (history s n L)) low)
  | false ↦ λ peer_is told. absurd cc
] refl is

-- ---- what arrives
-- an event that is no arrival needs no frame
pub no_arrival : (event : Event) (J : List Entry) → is_arrival event ≡ false → ArrivesGiven event J
no_arrival (events.Arrive frame) J is = absurd cc
no_arrival (_) J is = tt

-- a frame that was found by its number was given
pub was_given : (number : ℕ) (frames : List Frame) (frame : Frame) → frame_of number frames ≡ Some frame → Contains frames frame
was_given zero frames frame is = absurd cc
was_given (suc place) frames frame is = (place, slice_get_within frames place frame is, get_or_from_slice_get frames place frame frame is)

-- ---- spaces that are made
pub placed_push : {X : Type 0} (holds : ℕ → X → Type 0) (xs : List X) (x : X) → ((i : ℕ) (y : X) → slice_get xs i ≡ Some y → holds i y) → holds (length xs) x → (i : ℕ) (y : X) → slice_get (xs ++ x ∷ []) i ≡ Some y → holds i y
placed_push holds [] x all last zero y got = subst (holds zero) (let same : x ≡ y = cc in same) last
placed_push holds [] x all last (suc i) y got = absurd cc
placed_push holds (z ∷ xs) x all last zero y got = all zero y got
placed_push holds (z ∷ xs) x all last (suc i) y got = placed_push (λ j. holds (suc j)) xs x (λ j w there. all (suc j) w there) last i y got

-- why a step made no entry, by when each reason comes
pub why_is : (wrong : Option WorldError) (error : WorldError) (r : Result Answer WorldError) → ((fault : WorldError) → wrong ≡ Some fault → r ≡ Err fault) → outcome r ≡ Err error → IfErr (outcome r) (λ e. e ≢ OutOfMemory → wrong ≡ Some e) → error ≡ why_stopped wrong
why_is wrong error (Ok answer) exact is only = absurd cc
why_is wrong error (Err (Refused refusal)) exact is only = absurd cc
why_is wrong error (Err NoSpace) exact is only =
    let told : wrong ≡ Some NoSpace = only (λ same. absurd cc) in
    let same : error ≡ NoSpace = cc in
    same ∙ sym (ap why_stopped told)
why_is wrong error (Err NoFrame) exact is only =
    let told : wrong ≡ Some NoFrame = only (λ same. absurd cc) in
    let same : error ≡ NoFrame = cc in
    same ∙ sym (ap why_stopped told)
why_is (Some fault) error (Err OutOfMemory) exact is only =
    let told : Err OutOfMemory ≡ Err fault = exact fault refl in
    let same : error ≡ OutOfMemory = cc in
    same ∙ (let last : OutOfMemory ≡ fault = cc in last)
why_is None error (Err OutOfMemory) exact is only = let same : error ≡ OutOfMemory = cc in same
