-- What a space gives has a spelling, where what came to it has one and what it was handed is of its types.
use Rattle.std.proofs.Common.{◌≡◌, ℕ, ◌+◌, ◌^◌, ◌<◌, ◌||◌, not, Bool, true, false, cond, List, [], ◌∷◌, ◌++◌, map, filter_map, find, Option, Some, None, if◌then◌else◌, refl, sym, subst, arith}
use Rattle.std.specs.Prelude.{⊤, ◌==◌, nat_le}
use Rattle.std.specs.List.{AllByRecursion, list_any, cons_option}
use Rattle.std.proofs.lemmas.Bool.{eqb-true, and_parts, or_parts, leb-false}
use Rattle.nob_ids.specs.Names.{is_same}
use Rattle.nob_ids.specs.declared.limits.Limits.{Limits}
use Rattle.nob_ids.specs.declared.wire_rep.WireRep.{WireRep}
use Rattle.nob_pickle.specs.declared.value.Value.{Value}
use Rattle.nob_pickle.specs.declared.value.Value.TheVariants as values
use Rattle.nob_pickle.specs.Limits.{Fits as PickleFits}
use Rattle.nob_item.specs.Kinds.{counted_in}
use Rattle.nob_item.specs.Spelling.{IsCallNumber, IsItemNumber, IsStatus, Fits}
use Rattle.nob_item.specs.declared.item.Item.{Item}
use Rattle.nob_item.specs.declared.item.Item.TheVariants as items
use Rattle.nob_model_types.specs.declared.event.Outcome.{Outcome}
use Rattle.nob_model_types.specs.declared.event.Outcome.TheVariants as outcomes
use Rattle.nob_model_types.specs.declared.deed.Deed.{Deed}
use Rattle.nob_model_types.specs.declared.deed.Deed.TheVariants as did
use Rattle.nob_model_types.specs.declared.message.Message.{Message}
use Rattle.nob_model_types.specs.Sessions.{is_peer, item_at}
use Rattle.nob_model_types.specs.Objects.{is_live, is_exported}
use Rattle.nob_model_types.specs.Turns.{turns, wants_dirty}
use Rattle.nob_model_types.specs.Messages.{message_after, is_of, is_lost_message}
use Rattle.nob_model_work.specs.declared.gifts.Gift.{Gift}
use Rattle.nob_model_work.specs.declared.work.Run.{Run}
use Rattle.nob_model_work.specs.Work.{work, lost_reply, is_run}
use Rattle.nob_model_work.specs.Gifts.{once, dirty_for, dirties_for, answer_to, gifts_of_act, lost_call_reply, gifts_of_settle, status_of, value_of, reply_to, gifts_of_finish, gifts_of, gifts}
use Rattle.nob_model_history.specs.declared.history.History.{History}
use Rattle.nob_model_history.specs.declared.transit.SentItem.{SentItem}
use Rattle.nob_model_history.specs.Histories.{history_of}
use Rattle.nob_model_history.specs.Transit.{next_sent, sent, asks_for, once_last, by_last_dirty, is_idle}
use Rattle.nob_model_history.proofs.Sending.{new_items, sent_more}
use Rattle.nob_model.specs.Right.{right_after, calls_made, last_number}
use Rattle.nob_model.specs.Lists.{IsRightDeed}
use Rattle.nob_model.proofs.Doing.{was_answered}
use Rattle.nob_model.proofs.Accepted.{found_passes, call_tells, finish_tells, clean_tells}
use Rattle.nob_model.proofs.Carrying.{AllOutstanding, all_filter, all_found}
use Rattle.nob_model_invariant.specs.Typed.{HandsTyped}
use Rattle.nob_model_holdings.proofs.Lists.{all_append}
use Rattle.nob_model_holdings.proofs.Typing.{HasIndex, counted_index, sendable_fits}
use Rattle.nob_model_holdings.proofs.Hands.{New, outstanding_more}

-- ---- what fits

-- a message came in an item that has a spelling, under a number that an item may have
abbrev pub IsWhole : Message → Type 0
IsWhole m = Fits m.item × IsItemNumber m.number

-- a gift has a spelling
abbrev pub GiftFits : Gift → Type 0
GiftFits gift = Fits gift.item

-- what was sent has a spelling
abbrev pub SentFits : SentItem → Type 0
SentFits one = Fits one.item

unit_fits : PickleFits values.Unit
unit_fits = record { typed = tt; in_limits = refl }

-- loans change no item
whole_kept : (s n : ℕ) (D : List Deed) (m : Message) → IsWhole m → IsWhole (message_after s n D m)
unfolding message_after
whole_kept s n D m is = is

-- the Reply that stands for a lost one fits
whole_lost : (m : Message) (call status : ℕ) (value : Value) → m.item ≡ items.Reply call status value → IsWhole m → IsWhole (lost_reply m call)
whole_lost m call status value e is = let fits : Fits (items.Reply call status value) = subst Fits e is.0 in ((fits.0, omega arith, unit_fits), is.1)

-- ---- gifts

once_index : (reps : List WireRep) → AllByRecursion HasIndex reps → AllByRecursion HasIndex (once reps)
once_index [] all = tt
once_index (rep ∷ reps) all = (all.0, all_filter HasIndex (λ other. not (is_same rep other)) (once reps) (once_index reps all.1))

dirty_gifts : (reps : List WireRep) → AllByRecursion HasIndex reps → AllByRecursion GiftFits (map dirty_for reps)
unfolding dirty_for
dirty_gifts [] all = tt
dirty_gifts (rep ∷ reps) all = (all.0, dirty_gifts reps all.1)

dirties_fit : (s n : ℕ) (D : List Deed) (item : Item) → Fits item → AllByRecursion GiftFits (dirties_for s n D (counted_in item))
unfolding dirties_for
dirties_fit s n D item fits =
    dirty_gifts _ (all_filter HasIndex (λ rep. wants_dirty s n rep D (turns s n rep D)) (once (counted_in item)) (once_index (counted_in item) (counted_index item fits)))

answer_fits : (p index : ℕ) (alive known : Bool) → index < 2 ^ 64 → AllByRecursion GiftFits (cond alive (record { to = p; item = items.DirtyOk index } ∷ []) (cond known (record { to = p; item = items.DirtyNo index } ∷ []) []))
answer_fits p index true known low = (low, tt)
answer_fits p index false true low = (low, tt)
answer_fits p index false false low = tt

-- what acting on an item that fits gives
act_fits : (s n p : ℕ) (D : List Deed) (found : Option Item) → ((item : Item) → found ≡ Some item → Fits item) → AllByRecursion GiftFits (gifts_of_act s n p D found)
unfolding gifts_of_act answer_to
act_fits s n p D None fits = tt
act_fits s n p D (Some (items.Call call target method value)) fits = dirties_fit s n D (items.Call call target method value) (fits (items.Call call target method value) refl)
act_fits s n p D (Some (items.Reply call status value)) fits = dirties_fit s n D (items.Reply call status value) (fits (items.Reply call status value) refl)
act_fits s n p D (Some (items.Settle item)) fits = tt
act_fits s n p D (Some (items.Dirty index)) fits = answer_fits p index (is_live s index D) (is_exported s index D) (fits (items.Dirty index) refl)
act_fits s n p D (Some (items.DirtyOk index)) fits = tt
act_fits s n p D (Some (items.DirtyNo index)) fits = tt
act_fits s n p D (Some (items.Clean index)) fits = tt

lost_fits : (p : ℕ) (item : Item) (lost : Bool) → Fits item → AllByRecursion GiftFits (lost_call_reply p item lost)
unfolding lost_call_reply
lost_fits p (items.Call call target method value) true fits = ((fits.0, omega arith, unit_fits), tt)
lost_fits p (items.Call call target method value) false fits = tt
lost_fits p (items.Reply call status value) lost fits = tt
lost_fits p (items.Settle item) lost fits = tt
lost_fits p (items.Dirty index) lost fits = tt
lost_fits p (items.DirtyOk index) lost fits = tt
lost_fits p (items.DirtyNo index) lost fits = tt
lost_fits p (items.Clean index) lost fits = tt

-- what settling a message gives
settle_fits : (s n p k : ℕ) (D : List Deed) (found : Option Message) → ((m : Message) → found ≡ Some m → IsWhole m × (m.number ≡ k)) → AllByRecursion GiftFits (gifts_of_settle s n p k D found)
unfolding gifts_of_settle
settle_fits s n p k D None whole = tt
settle_fits s n p k D (Some m) whole = let is = whole m refl in (subst IsItemNumber is.1 is.0.1, lost_fits p m.item (is_lost_message s n D m) is.0.0)

status_low : (outcome : Outcome) → IsStatus (status_of outcome)
status_low (outcomes.Answer value) = omega arith
status_low (outcomes.Fault value) = omega arith
status_low outcomes.NoMethod = omega arith

reply_fits : (p : ℕ) (item : Item) (outcome : Outcome) → Fits item → PickleFits (value_of outcome) → AllByRecursion GiftFits (reply_to p item outcome)
unfolding reply_to
reply_fits p (items.Call call target method value) outcome fits pickled = ((fits.0, status_low outcome, pickled), tt)
reply_fits p (items.Reply call status value) outcome fits pickled = tt
reply_fits p (items.Settle item) outcome fits pickled = tt
reply_fits p (items.Dirty index) outcome fits pickled = tt
reply_fits p (items.DirtyOk index) outcome fits pickled = tt
reply_fits p (items.DirtyNo index) outcome fits pickled = tt
reply_fits p (items.Clean index) outcome fits pickled = tt

-- ---- references that were asked for

asked_index : (more : List SentItem) → AllByRecursion SentFits more → AllByRecursion HasIndex (filter_map (λ one. asks_for one.to one.item) more)
asked_index [] all = tt
asked_index (one ∷ more) all = asked_more one.to one.item (filter_map (λ one. asks_for one.to one.item) more) all.0 (asked_index more all.1)
  where
    asked_more : (p : ℕ) (item : Item) (reps : List WireRep) → Fits item → AllByRecursion HasIndex reps → AllByRecursion HasIndex (cons_option (asks_for p item) reps)
    asked_more p (items.Dirty index) reps fits all = (fits, all)
    asked_more p (items.Call call target method value) reps fits all = all
    asked_more p (items.Reply call status value) reps fits all = all
    asked_more p (items.Settle item) reps fits all = all
    asked_more p (items.DirtyOk index) reps fits all = all
    asked_more p (items.DirtyNo index) reps fits all = all
    asked_more p (items.Clean index) reps fits all = all

last_index : (reps : List WireRep) → AllByRecursion HasIndex reps → AllByRecursion HasIndex (once_last reps)
last_index [] all = tt
last_index (rep ∷ reps) all = elim (list_any (is_same rep) reps) as (λ b. AllByRecursion HasIndex (if b then once_last reps else rep ∷ once_last reps)) [ true ↦ last_index reps all.1 | false ↦ (all.0, last_index reps all.1) ]

clean_fits : (rep : WireRep) (asks : Bool) → HasIndex rep → AllByRecursion GiftFits (cond asks (record { to = rep.owner; item = items.Clean rep.index } ∷ []) [])
clean_fits rep true low = (low, tt)
clean_fits rep false low = tt

-- ---- one deed more

-- an item that was acted on has a spelling, and its number is one that an item may have
abbrev pub ActsOnWhole : Deed → List Deed → Type 0
ActsOnWhole (did.Act p k) D = (item : Item) → item_at p k D ≡ Some item → Fits item × IsItemNumber k
ActsOnWhole (_) D = ⊤

-- all that a space has outstanding and all that it sent has a spelling
pub record AllFit (s n : ℕ) (D : List Deed) : Type 0 where
  pub outstanding : AllOutstanding IsWhole (work s n D)
  pub was_sent : AllByRecursion SentFits (sent (history_of s n D))

call_number : (made call : ℕ) (full : Bool) → call ≡ made + 1 → (full || nat_le last_number made) ≡ false → IsCallNumber call
call_number made call full is below =
    let low = leb-false last_number made (or_parts full (nat_le last_number made) below).1 in
    (omega (arith, is), omega (arith, is, low))

-- what a right deed gives has a spelling
pub gifts_fit : (s n : ℕ) (limits : Limits) (deed : Deed) (D : List Deed) → IsRightDeed s n limits deed D → HandsTyped deed → ActsOnWhole deed D → AllFit s n D → AllByRecursion GiftFits (gifts_of s n deed D (work s n D))
unfolding right_after gifts_of gifts_of_finish
gifts_fit s n limits (did.Call target method value call) D right typed whole all =
    let told = call_tells s n target value call (history_of s n D) (was_answered s n limits (did.Call target method value call) D right) in
    ((call_number (calls_made D) call _ told.0 told.5, typed.0, typed.1, sendable_fits s (history_of s n D) value typed.2 told.4), tt)
gifts_fit s n limits (did.Finish job outcome) D right typed whole all =
    let told = finish_tells s job outcome (history_of s n D) (was_answered s n limits (did.Finish job outcome) D right) in
    let run : Run = told.0 in
    let is : IsWhole run.message = all_found (λ (run : Run). IsWhole run.message) (is_run job) (work s n D).running run told.1 all.outstanding.running in
    subst (λ (found : Option Run). AllByRecursion GiftFits (gifts_of_finish outcome found)) (sym told.1) (reply_fits run.message.from run.message.item outcome is.0 (sendable_fits s (history_of s n D) (value_of outcome) typed told.3))
gifts_fit s n limits (did.Act p k) D right typed whole all = act_fits s n p D (item_at p k D) (λ item e. (whole item e).0)
gifts_fit s n limits (did.Settle p k) D right typed whole all =
    settle_fits s n p k D (find (is_of p k) (work s n D).waiting)
    (λ m e. (all_found IsWhole (is_of p k) (work s n D).waiting m e all.outstanding.waiting, eqb-true m.number k (and_parts (m.from == p) (m.number == k) (found_passes (is_of p k) (work s n D).waiting m e)).1))
gifts_fit s n limits (did.Clean rep) D right typed whole all =
    let h : History = history_of s n D in
    let told = clean_tells s n rep h (was_answered s n limits (did.Clean rep) D right) in
    clean_fits rep (turns s n rep D).asks (all_found HasIndex (is_idle s n h) (by_last_dirty h) rep told.0 (last_index _ (asked_index (sent h) all.was_sent)))
gifts_fit s n limits deed D right typed whole all = tt

new_fit : (D : List Deed) (more : List Gift) (before : List SentItem) → AllByRecursion GiftFits more → AllByRecursion SentFits (new_items D before more)
new_fit D [] before all = tt
new_fit D (gift ∷ more) before all = (all.0, new_fit D more (before ++ next_sent D before gift ∷ []) all.1)

new_whole : (s n : ℕ) (deed : Deed) (D : List Deed) → ActsOnWhole deed D → New s n IsWhole whole_lost deed D
new_whole s n (did.Act p k) D whole = λ item is. whole item is
new_whole s n deed D whole = tt

-- by one right deed more all that is outstanding and was sent still has a spelling
pub fits_more : (s n : ℕ) (limits : Limits) (deed : Deed) (D : List Deed) → IsRightDeed s n limits deed D → HandsTyped deed → ActsOnWhole deed D → AllFit s n D → AllFit s n (deed ∷ D)
unfolding gifts
fits_more s n limits deed D right typed whole all = record {
  outstanding = outstanding_more s n IsWhole whole_lost deed D (whole_kept s n (deed ∷ D)) (new_whole s n deed D whole) all.outstanding;
  was_sent = subst (λ more. AllByRecursion SentFits more) (sym (sent_more s n deed D))
      (all_append SentFits (sent (history_of s n D)) _ all.was_sent
      (new_fit D (gifts s n deed D (work s n D)) (sent (history_of s n D)) (all_filter GiftFits (λ gift. is_peer s n gift.to) (gifts_of s n deed D (work s n D)) (gifts_fit s n limits deed D right typed whole all))));
}

-- before anything was done nothing is outstanding and nothing was sent
pub fits_none : (s n : ℕ) → AllFit s n []
fits_none s n = record { outstanding = record { waiting = tt; ready = tt; running = tt; replies = tt }; was_sent = tt }
