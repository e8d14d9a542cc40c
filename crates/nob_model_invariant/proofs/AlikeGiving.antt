-- What a space gave, and from where copies came, read the same where more spaces are counted, if it speaks of the first n
-- alone.
use Rattle.std.proofs.Common.{◌≡◌, ◌≤◌, ℕ, ◌&&◌, not, Bool, true, false, cond, List, [], ◌∷◌, map, filter, find, Option, Some, None, if◌then◌else◌, refl, ap, subst, ◌∙◌}
use Rattle.std.specs.Prelude.{◌==◌}
use Rattle.std.specs.List.{AllByRecursion}
use Rattle.std.proofs.lemmas.Bool.{and_parts, eqb-true}
use Rattle.nob_ids.specs.Names.{IsSpaceOf, is_same}
use Rattle.nob_ids.specs.declared.wire_rep.WireRep.{WireRep}
use Rattle.nob_item.specs.Kinds.{counted_in}
use Rattle.nob_item.specs.declared.item.Item.{Item}
use Rattle.nob_item.specs.declared.item.Item.TheVariants as items
use Rattle.nob_model_types.specs.declared.event.Outcome.{Outcome}
use Rattle.nob_model_types.specs.declared.deed.Deed.{Deed}
use Rattle.nob_model_types.specs.declared.deed.Deed.TheVariants as did
use Rattle.nob_model_types.specs.declared.message.Message.{Message}
use Rattle.nob_model_types.specs.declared.turns.Turns.{Turns}
use Rattle.nob_model_types.specs.Sessions.{is_peer, number, item_at}
use Rattle.nob_model_types.specs.Objects.{is_exported, is_live}
use Rattle.nob_model_types.specs.Turns.{wants_dirty, turns}
use Rattle.nob_model_types.specs.Messages.{is_of, is_lost_message}
use Rattle.nob_model_work.specs.declared.gifts.Gift.{Gift}
use Rattle.nob_model_work.specs.declared.work.Outstanding.{Outstanding}
use Rattle.nob_model_work.specs.declared.work.Run.{Run}
use Rattle.nob_model_work.specs.Work.{is_run, work}
use Rattle.nob_model_work.specs.Gifts.{once, dirty_for, dirties_for, answer_to, gifts_of_act, lost_call_reply, gifts_of_settle, reply_to, gifts_of_finish, gifts_of, gifts, all_gifts}
use Rattle.nob_model.proofs.Accepted.{found_passes}
use Rattle.nob_model.proofs.Carrying.{AllOutstanding, all_filter, all_found}
use Rattle.nob_model_journal.specs.Losses.{is_carried, sources}
use Rattle.nob_model_journal.specs.declared.losses.Source.{Source}
use Rattle.nob_model_holdings.proofs.Lists.{all_map}
use Rattle.nob_model_invariant.specs.FirstSpaces.{IsOfFirst, SpeaksOfFirst, AmongFirst}
use Rattle.nob_model_invariant.proofs.AlikeLists.{filter_alike}
use Rattle.nob_model_invariant.proofs.AlikeReading.{IsMessageOfFirst, peer_alike, wants_alike, turns_alike, lost_message_alike, hand_first, work_alike}

-- a gift goes to one of the first n spaces
abbrev pub GoesToFirst : ℕ → Gift → Type 0
GoesToFirst n gift = IsSpaceOf n gift.to

-- ---- to whom gifts go

once_first : (n : ℕ) (reps : List WireRep) → AllByRecursion (IsOfFirst n) reps → AllByRecursion (IsOfFirst n) (once reps)
once_first n [] all = tt
once_first n (rep ∷ reps) all = (all.0, all_filter (IsOfFirst n) (λ other. not (is_same rep other)) (once reps) (once_first n reps all.1))

dirties_first : (s n : ℕ) (D : List Deed) (reps : List WireRep) → AllByRecursion (IsOfFirst n) reps → AllByRecursion (GoesToFirst n) (dirties_for s n D reps)
unfolding dirties_for dirty_for
dirties_first s n D reps all = all_map (IsOfFirst n) (GoesToFirst n) _ (λ rep its. its) _ (all_filter (IsOfFirst n) (λ rep. wants_dirty s n rep D (turns s n rep D)) (once reps) (once_first n reps all))

answer_first : (n p index : ℕ) (alive there : Bool) → IsSpaceOf n p → AllByRecursion (GoesToFirst n) (cond alive (record { to = p; item = items.DirtyOk index } ∷ []) (cond there (record { to = p; item = items.DirtyNo index } ∷ []) []))
answer_first n p index true there its = (its, tt)
answer_first n p index false true its = (its, tt)
answer_first n p index false false its = tt

act_first : (s n p : ℕ) (D : List Deed) (found : Option Item) → IsSpaceOf n p → ((item : Item) → found ≡ Some item → AllByRecursion (IsOfFirst n) (counted_in item)) → AllByRecursion (GoesToFirst n) (gifts_of_act s n p D found)
unfolding gifts_of_act answer_to
act_first s n p D None its first = tt
act_first s n p D (Some (items.Call call target method value)) its first = dirties_first s n D (counted_in (items.Call call target method value)) (first (items.Call call target method value) refl)
act_first s n p D (Some (items.Reply call status value)) its first = dirties_first s n D (counted_in (items.Reply call status value)) (first (items.Reply call status value) refl)
act_first s n p D (Some (items.Settle item)) its first = tt
act_first s n p D (Some (items.Dirty index)) its first = answer_first n p index (is_live s index D) (is_exported s index D) its
act_first s n p D (Some (items.DirtyOk index)) its first = tt
act_first s n p D (Some (items.DirtyNo index)) its first = tt
act_first s n p D (Some (items.Clean index)) its first = tt

lost_first : (n p : ℕ) (item : Item) (lost : Bool) → IsSpaceOf n p → AllByRecursion (GoesToFirst n) (lost_call_reply p item lost)
unfolding lost_call_reply
lost_first n p (items.Call call target method value) true its = (its, tt)
lost_first n p (items.Call call target method value) false its = tt
lost_first n p (items.Reply call status value) lost its = tt
lost_first n p (items.Settle item) lost its = tt
lost_first n p (items.Dirty index) lost its = tt
lost_first n p (items.DirtyOk index) lost its = tt
lost_first n p (items.DirtyNo index) lost its = tt
lost_first n p (items.Clean index) lost its = tt

settle_first : (s n p k : ℕ) (D : List Deed) (found : Option Message) → ((message : Message) → found ≡ Some message → IsSpaceOf n p) → AllByRecursion (GoesToFirst n) (gifts_of_settle s n p k D found)
unfolding gifts_of_settle
settle_first s n p k D None its = tt
settle_first s n p k D (Some message) its = (its message refl, lost_first n p message.item (is_lost_message s n D message) (its message refl))

reply_first : (n p : ℕ) (item : Item) (outcome : Outcome) → IsSpaceOf n p → AllByRecursion (GoesToFirst n) (reply_to p item outcome)
unfolding reply_to
reply_first n p (items.Call call target method value) outcome its = (its, tt)
reply_first n p (items.Reply call status value) outcome its = tt
reply_first n p (items.Settle item) outcome its = tt
reply_first n p (items.Dirty index) outcome its = tt
reply_first n p (items.DirtyOk index) outcome its = tt
reply_first n p (items.DirtyNo index) outcome its = tt
reply_first n p (items.Clean index) outcome its = tt

finish_first : (n : ℕ) (outcome : Outcome) (found : Option Run) → ((run : Run) → found ≡ Some run → IsSpaceOf n run.message.from) → AllByRecursion (GoesToFirst n) (gifts_of_finish outcome found)
unfolding gifts_of_finish
finish_first n outcome None its = tt
finish_first n outcome (Some run) its = reply_first n run.message.from run.message.item outcome (its run refl)

clean_first : (n : ℕ) (rep : WireRep) (asks : Bool) → IsOfFirst n rep → AllByRecursion (GoesToFirst n) (cond asks (record { to = rep.owner; item = items.Clean rep.index } ∷ []) [])
clean_first n rep true its = (its, tt)
clean_first n rep false its = tt

-- of a message that is found the sender is known
sender_first : (n p k : ℕ) (messages : List Message) → AllByRecursion (IsMessageOfFirst n) messages → (message : Message) → find (is_of p k) messages ≡ Some message → IsSpaceOf n p
sender_first n p k messages all message found =
    let same : message.from ≡ p = eqb-true message.from p (and_parts (message.from == p) (message.number == k) (found_passes (is_of p k) messages message found)).0 in
    subst (IsSpaceOf n) same (all_found (IsMessageOfFirst n) (is_of p k) messages message found all).0

gifts_first : (s n : ℕ) (deed : Deed) (D : List Deed) (W : Outstanding) → SpeaksOfFirst n deed D → AllOutstanding (IsMessageOfFirst n) W → AllByRecursion (GoesToFirst n) (gifts_of s n deed D W)
unfolding gifts_of
gifts_first s n (did.Call target method value call) D W first hand = (first, tt)
gifts_first s n (did.Finish job outcome) D W first hand = finish_first n outcome (find (is_run job) W.running) (λ run found. (all_found (λ (one : Run). IsMessageOfFirst n one.message) (is_run job) W.running run found hand.running).0)
gifts_first s n (did.Act p k) D W first hand = act_first s n p D (item_at p k D) first.0 first.1
gifts_first s n (did.Settle p k) D W first hand = settle_first s n p k D (find (is_of p k) W.waiting) (sender_first n p k W.waiting hand.waiting)
gifts_first s n (did.Clean rep) D W first hand = clean_first n rep (turns s n rep D).asks first
gifts_first s n deed D W first hand = tt

-- ---- gifts

module _ (s n m : ℕ) (wider : n ≤ m) where
  dirties_alike : (D : List Deed) → AmongFirst n D → (reps : List WireRep) → AllByRecursion (IsOfFirst n) reps → dirties_for s n D reps ≡ dirties_for s m D reps
  unfolding dirties_for
  dirties_alike D first reps all =
      ap (map dirty_for) (filter_alike (IsOfFirst n) (λ rep. wants_dirty s n rep D (turns s n rep D)) (λ rep. wants_dirty s m rep D (turns s m rep D))
      (λ rep its. wants_alike s n m wider rep D (turns s n rep D) its ∙ ap (wants_dirty s m rep D) (turns_alike s n m wider rep D first)) (once reps) (once_first n reps all))

  act_gives : (p : ℕ) (D : List Deed) (found : Option Item) → AmongFirst n D → ((item : Item) → found ≡ Some item → AllByRecursion (IsOfFirst n) (counted_in item)) → gifts_of_act s n p D found ≡ gifts_of_act s m p D found
  unfolding gifts_of_act
  act_gives p D None first its = refl
  act_gives p D (Some (items.Call call target method value)) first its = dirties_alike D first (counted_in (items.Call call target method value)) (its (items.Call call target method value) refl)
  act_gives p D (Some (items.Reply call status value)) first its = dirties_alike D first (counted_in (items.Reply call status value)) (its (items.Reply call status value) refl)
  act_gives p D (Some (items.Settle item)) first its = refl
  act_gives p D (Some (items.Dirty index)) first its = refl
  act_gives p D (Some (items.DirtyOk index)) first its = refl
  act_gives p D (Some (items.DirtyNo index)) first its = refl
  act_gives p D (Some (items.Clean index)) first its = refl

  settle_gives : (p k : ℕ) (D : List Deed) (found : Option Message) → AmongFirst n D → ((message : Message) → found ≡ Some message → IsMessageOfFirst n message) → gifts_of_settle s n p k D found ≡ gifts_of_settle s m p k D found
  unfolding gifts_of_settle
  settle_gives p k D None first its = refl
  settle_gives p k D (Some message) first its = ap (λ lost. record { to = p; item = items.Settle k } ∷ lost_call_reply p message.item lost) (lost_message_alike s n m wider D first message (its message refl))

  deed_gives : (deed : Deed) (D : List Deed) (W : Outstanding) → AmongFirst n (deed ∷ D) → AllOutstanding (IsMessageOfFirst n) W → gifts_of s n deed D W ≡ gifts_of s m deed D W
  unfolding gifts_of
  deed_gives (did.Act p k) D W first hand = act_gives p D (item_at p k D) first.1 first.0.1
  deed_gives (did.Settle p k) D W first hand = settle_gives p k D (find (is_of p k) W.waiting) first.1 (λ message found. all_found (IsMessageOfFirst n) (is_of p k) W.waiting message found hand.waiting)
  deed_gives (did.Clean rep) D W first hand =
      let give : Turns → List Gift = λ t. if t.asks then record { to = rep.owner; item = items.Clean rep.index } ∷ [] else [] in
      ap give (turns_alike s n m wider rep D first.1)
  deed_gives deed D W first hand = refl

  gifts_alike : (deed : Deed) (D : List Deed) → AmongFirst n (deed ∷ D) → gifts s n deed D (work s n D) ≡ gifts s m deed D (work s m D)
  unfolding gifts
  gifts_alike deed D first =
      let hand : AllOutstanding (IsMessageOfFirst n) (work s n D) = hand_first s n m wider D first.1 in
      filter_alike (GoesToFirst n) (λ (gift : Gift). is_peer s n gift.to) (λ (gift : Gift). is_peer s m gift.to) (λ gift. peer_alike s n m wider gift.to) (gifts_of s n deed D (work s n D)) (gifts_first s n deed D (work s n D) first.0 hand)
      ∙ ap (filter (λ (gift : Gift). is_peer s m gift.to)) (deed_gives deed D (work s n D) first hand ∙ ap (gifts_of s m deed D) (work_alike s n m wider D first.1))

  -- what each deed gave
  pub all_gifts_alike : (D : List Deed) → AmongFirst n D → all_gifts s n D ≡ all_gifts s m D
  all_gifts_alike [] first = refl
  all_gifts_alike (deed ∷ D) first = ap (λ more. more ∷ all_gifts s n D) (gifts_alike deed D first) ∙ ap (λ rest. gifts s m deed D (work s m D) ∷ rest) (all_gifts_alike D first.1)

  -- ---- losses

  -- from where the copies of every reference came
  pub sources_alike : (rep : WireRep) (D : List Deed) → AmongFirst n D → sources s n rep D ≡ sources s m rep D
  sources_alike rep [] first = refl
  sources_alike rep (did.Act p k ∷ D) first = ap (λ (rest : List Source). if is_carried rep (item_at p k D) then record { from = p; session = number p D; number = k } ∷ rest else rest) (sources_alike rep D first.1)
  sources_alike rep (did.Clean other ∷ D) first =
      let since : Turns → List Source → List Source = λ t rest. if is_same rep other && t.asks then [] else rest in
      ap (λ t. since t (sources s n rep D)) (turns_alike s n m wider rep D first.1) ∙ ap (since (turns s m rep D)) (sources_alike rep D first.1)
  sources_alike rep (did.Open q k ∷ D) first = ap (λ (rest : List Source). if q == rep.owner then [] else rest) (sources_alike rep D first.1)
  sources_alike rep (deed ∷ D) first = sources_alike rep D first.1
