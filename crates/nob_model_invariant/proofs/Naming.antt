-- All that is named in what was sent was exported by its owner, and so was all that is held.
use Rattle.std.proofs.Common.{◌≡◌, ℕ, ◌&&◌, not, Bool, true, false, cond, List, [], ◌∷◌, ◌++◌, length, map, filter, filter_map, find, Option, Some, None, if◌then◌else◌, refl, sym, ap, subst, ◌∙◌, inl, inr}
use Rattle.std.specs.Prelude.{⊤, ◌==◌}
use Rattle.std.specs.List.{AllByRecursion, list_any, cons_option}
use Rattle.std.proofs.lemmas.Bool.{eqb-true, eq-eqb, and_from, or_right}
use Rattle.nob_ids.specs.Names.{is_same, is_counted}
use Rattle.nob_ids.specs.declared.limits.Limits.{Limits}
use Rattle.nob_ids.specs.declared.wire_rep.WireRep.{WireRep}
use Rattle.nob_pickle.specs.Spelling.{refs_in}
use Rattle.nob_pickle.specs.Writing.{pickle_of}
use Rattle.nob_pickle.specs.declared.value.Value.{Value}
use Rattle.nob_item.specs.Kinds.{counted_in}
use Rattle.nob_item.specs.declared.item.Item.{Item}
use Rattle.nob_item.specs.declared.item.Item.TheVariants as items
use Rattle.nob_model_types.specs.declared.event.Outcome.{Outcome}
use Rattle.nob_model_types.specs.declared.refusal.Refusal.TheVariants as refusals
use Rattle.nob_model_types.specs.declared.entry.Entry.{Entry}
use Rattle.nob_model_types.specs.declared.deed.Deed.{Deed}
use Rattle.nob_model_types.specs.declared.deed.Deed.TheVariants as did
use Rattle.nob_model_types.specs.declared.message.Message.{Message}
use Rattle.nob_model_types.specs.Sessions.{is_peer, item_at}
use Rattle.nob_model_types.specs.Objects.{exports, is_exported, is_live}
use Rattle.nob_model_types.specs.Turns.{turns, wants_dirty}
use Rattle.nob_model_types.specs.Messages.{message_after, is_of, is_lost_message, replies_to}
use Rattle.nob_model_work.specs.declared.gifts.Gift.{Gift}
use Rattle.nob_model_work.specs.declared.work.Outstanding.{Outstanding}
use Rattle.nob_model_work.specs.declared.work.Run.{Run}
use Rattle.nob_model_work.specs.Work.{work, lost_reply}
use Rattle.nob_model_work.specs.Gifts.{once, dirty_for, dirties_for, answer_to, gifts_of_act, lost_call_reply, gifts_of_settle, value_of, reply_to, gifts_of_finish, gifts_of, gifts}
use Rattle.nob_model_history.specs.declared.history.History.{History}
use Rattle.nob_model_history.specs.declared.transit.SentItem.{SentItem}
use Rattle.nob_model_history.specs.Histories.{history_of}
use Rattle.nob_model_history.specs.Holds.{target_lent, gains, is_held}
use Rattle.nob_model_history.specs.Transit.{is_sent_to, next_sent, sent, asks_for, once_last, by_last_dirty, is_idle}
use Rattle.nob_model_history.proofs.Sending.{new_items, sent_more}
use Rattle.nob_model_acting.specs.Sending.{refs_refused, is_faulty, value_refused}
use Rattle.nob_model.specs.Right.{right_after}
use Rattle.nob_model.specs.Lists.{IsRightDeed, AreRightDeeds}
use Rattle.nob_model.proofs.Doing.{was_answered}
use Rattle.nob_model.proofs.Accepted.{call_tells, dup_tells, finish_tells, take_tells, clean_tells}
use Rattle.nob_model.proofs.Premises.{objects_in_turn}
use Rattle.nob_model.proofs.Carrying.{AllOutstanding, all_filter, all_found}
use Rattle.nob_model.proofs.Waiting.{all_weaker}
use Rattle.nob_model_journal.specs.Journals.{deeds_at, history_at, number_at, sent_to, acted_from}
use Rattle.nob_model_journal.specs.Runs.{WorldRun}
use Rattle.nob_model_invariant.specs.Typed.{AreOfTypes}
use Rattle.nob_model_invariant.specs.Naming.{object_of, named_in, WasExported, NamesExported}
use Rattle.nob_model_invariant.specs.SafetyLaws.{NamesLaw}
use Rattle.nob_model_holdings.proofs.Lists.{all_append, all_at, all_split, all_both, all_pass, all_unfilter, any_push, some_same}
use Rattle.nob_model_holdings.proofs.Typing.{next_none, refs_held}
use Rattle.nob_model_holdings.proofs.Hands.{New, outstanding_more, hand_weaker}
use Rattle.nob_model_invariant.proofs.Entries.{grows, right_deeds_at}
use Rattle.nob_model_invariant.proofs.Owners.{exported_later}
use Rattle.nob_model_invariant.proofs.Order.{acts_on_next, all_fit}
use Rattle.nob_model_holdings.proofs.Holding.{OfCounted, HoldsOf, held_has}

-- ---- what is known of one space

-- what was sent names what was exported
abbrev pub SentExported : List Entry → SentItem → Type 0
SentExported J one = NamesExported J one.to one.item

-- all that space s has outstanding, sent and gained names what was exported
pub record Known (n : ℕ) (J : List Entry) (s : ℕ) : Type 0 where
  pub outstanding : AllOutstanding (HoldsOf s (WasExported J)) (work s n (deeds_at s J))
  pub was_sent : AllByRecursion (SentExported J) (sent (history_at s n J))
  pub gained : AllByRecursion (OfCounted (WasExported J)) (gains (deeds_at s J))

-- ---- one entry more keeps it

exported_more : (o x : ℕ) (deed : Deed) (D : List Deed) → is_exported o x D ≡ true → is_exported o x (deed ∷ D) ≡ true
exported_more o x (did.Export rep) D known = exported_later o x rep D known
exported_more o x deed D known = known

-- what was exported was exported before
pub exported_still : (entry : Entry) (J : List Entry) (rep : WireRep) → WasExported J rep → WasExported (entry ∷ J) rep
exported_still entry J rep known =
    elim (grows rep.owner entry J) [
      | inl same ↦ ap (is_exported rep.owner rep.index) same ∙ known
      | inr more ↦ ap (is_exported rep.owner rep.index) more.3 ∙ exported_more rep.owner rep.index more.0 (deeds_at rep.owner J) known
    ]

names_still : (entry : Entry) (J : List Entry) (reps : List WireRep) → AllByRecursion (WasExported J) reps → AllByRecursion (WasExported (entry ∷ J)) reps
names_still entry J reps all = all_weaker (WasExported J) (WasExported (entry ∷ J)) (exported_still entry J) reps all

hand_still : (s : ℕ) (entry : Entry) (J : List Entry) (W : Outstanding) → AllOutstanding (HoldsOf s (WasExported J)) W → AllOutstanding (HoldsOf s (WasExported (entry ∷ J))) W
hand_still s entry J W all = hand_weaker (HoldsOf s (WasExported J)) (HoldsOf s (WasExported (entry ∷ J))) (λ m its. (names_still entry J (counted_in m.item) its.0, names_still entry J (target_lent s m.item) its.1)) W all

sent_still : (entry : Entry) (J : List Entry) (more : List SentItem) → AllByRecursion (SentExported J) more → AllByRecursion (SentExported (entry ∷ J)) more
sent_still entry J more all = all_weaker (SentExported J) (SentExported (entry ∷ J)) (λ one its. names_still entry J (named_in one.to one.item) its) more all

gained_still : (entry : Entry) (J : List Entry) (reps : List WireRep) → AllByRecursion (OfCounted (WasExported J)) reps → AllByRecursion (OfCounted (WasExported (entry ∷ J))) reps
gained_still entry J reps all = all_weaker (OfCounted (WasExported J)) (OfCounted (WasExported (entry ∷ J))) (λ rep its counted. exported_still entry J rep (its counted)) reps all

-- ---- what is handed on

module _ (J : List Entry) (s n : ℕ) (known : Known n J s) where
  -- a counted reference that is held was exported
  held_known : (rep : WireRep) → is_counted rep ≡ true → is_held s rep (history_at s n J) ≡ true → WasExported J rep
  held_known rep counted held = held_has s n (WasExported J) rep (deeds_at s J) known.gained known.outstanding counted held

  -- the counted references of a value that may be sent
  value_known : (value : Value) → value_refused s (history_at s n J) value ≡ None → AllByRecursion (WasExported J) (filter is_counted (refs_in value))
  value_known value e =
      let held = refs_held s (history_at s n J) (filter is_counted (refs_in value)) (next_none (is_faulty (pickle_of value)) refusals.TooBig (refs_refused s (history_at s n J) (filter is_counted (refs_in value))) e).1 in
      all_both (λ rep. is_counted rep ≡ true) (λ rep. is_held s rep (history_at s n J) ≡ true) (WasExported J) held_known (filter is_counted (refs_in value)) (all_pass is_counted (refs_in value)) held

-- ---- gifts

-- a gift names what was exported
abbrev pub GiftExported : List Entry → Gift → Type 0
GiftExported J gift = NamesExported J gift.to gift.item

target_named : (J : List Entry) (target : WireRep) (own : Bool) → (target.index == 0) ≡ own → (is_counted target ≡ true → WasExported J target) → AllByRecursion (WasExported J) (if own then [] else record { owner = target.owner; index = target.index } ∷ [])
target_named J target true is known = tt
target_named J target false is known = (known (ap not is), tt)

held_then : (counted held : Bool) → (counted && not held) ≡ false → counted ≡ true → held ≡ true
held_then true true e c = refl
held_then true false e c = cc
held_then false held e c = cc

once_known : (J : List Entry) (reps : List WireRep) → AllByRecursion (WasExported J) reps → AllByRecursion (WasExported J) (once reps)
once_known J [] all = tt
once_known J (rep ∷ reps) all = (all.0, all_filter (WasExported J) (λ other. not (is_same rep other)) (once reps) (once_known J reps all.1))

dirty_gifts : (J : List Entry) (reps : List WireRep) → AllByRecursion (WasExported J) reps → AllByRecursion (GiftExported J) (map dirty_for reps)
unfolding dirty_for
dirty_gifts J [] all = tt
dirty_gifts J (rep ∷ reps) all = ((all.0, tt), dirty_gifts J reps all.1)

dirties_known : (J : List Entry) (s n : ℕ) (D : List Deed) (reps : List WireRep) → AllByRecursion (WasExported J) reps → AllByRecursion (GiftExported J) (dirties_for s n D reps)
unfolding dirties_for
dirties_known J s n D reps all = dirty_gifts J _ (all_filter (WasExported J) (λ rep. wants_dirty s n rep D (turns s n rep D)) (once reps) (once_known J reps all))

answer_known : (J : List Entry) (p index : ℕ) (alive there : Bool) → AllByRecursion (GiftExported J) (cond alive (record { to = p; item = items.DirtyOk index } ∷ []) (cond there (record { to = p; item = items.DirtyNo index } ∷ []) []))
answer_known J p index true there = (tt, tt)
answer_known J p index false true = (tt, tt)
answer_known J p index false false = tt

act_known : (J : List Entry) (s n p : ℕ) (D : List Deed) (found : Option Item) → ((item : Item) → found ≡ Some item → NamesExported J s item) → AllByRecursion (GiftExported J) (gifts_of_act s n p D found)
unfolding gifts_of_act answer_to
act_known J s n p D None named = tt
act_known J s n p D (Some (items.Call call target method value)) named = dirties_known J s n D (counted_in (items.Call call target method value)) (all_split (WasExported J) (object_of s (items.Call call target method value)) _ (named (items.Call call target method value) refl)).1
act_known J s n p D (Some (items.Reply call status value)) named = dirties_known J s n D (counted_in (items.Reply call status value)) (named (items.Reply call status value) refl)
act_known J s n p D (Some (items.Settle item)) named = tt
act_known J s n p D (Some (items.Dirty index)) named = answer_known J p index (is_live s index D) (is_exported s index D)
act_known J s n p D (Some (items.DirtyOk index)) named = tt
act_known J s n p D (Some (items.DirtyNo index)) named = tt
act_known J s n p D (Some (items.Clean index)) named = tt

lost_known : (J : List Entry) (p : ℕ) (item : Item) (lost : Bool) → AllByRecursion (GiftExported J) (lost_call_reply p item lost)
unfolding lost_call_reply
lost_known J p (items.Call call target method value) true = (tt, tt)
lost_known J p (items.Call call target method value) false = tt
lost_known J p (items.Reply call status value) lost = tt
lost_known J p (items.Settle item) lost = tt
lost_known J p (items.Dirty index) lost = tt
lost_known J p (items.DirtyOk index) lost = tt
lost_known J p (items.DirtyNo index) lost = tt
lost_known J p (items.Clean index) lost = tt

settle_known : (J : List Entry) (s n p k : ℕ) (D : List Deed) (found : Option Message) → AllByRecursion (GiftExported J) (gifts_of_settle s n p k D found)
unfolding gifts_of_settle
settle_known J s n p k D None = tt
settle_known J s n p k D (Some m) = (tt, lost_known J p m.item (is_lost_message s n D m))

reply_known : (J : List Entry) (p : ℕ) (item : Item) (outcome : Outcome) → AllByRecursion (WasExported J) (filter is_counted (refs_in (value_of outcome))) → AllByRecursion (GiftExported J) (reply_to p item outcome)
unfolding reply_to
reply_known J p (items.Call call target method value) outcome all = (all, tt)
reply_known J p (items.Reply call status value) outcome all = tt
reply_known J p (items.Settle item) outcome all = tt
reply_known J p (items.Dirty index) outcome all = tt
reply_known J p (items.DirtyOk index) outcome all = tt
reply_known J p (items.DirtyNo index) outcome all = tt
reply_known J p (items.Clean index) outcome all = tt

asked_more : (J : List Entry) (p : ℕ) (item : Item) (reps : List WireRep) → NamesExported J p item → AllByRecursion (WasExported J) reps → AllByRecursion (WasExported J) (cons_option (asks_for p item) reps)
asked_more J p (items.Dirty index) reps named all = (named.0, all)
asked_more J p (items.Call call target method value) reps named all = all
asked_more J p (items.Reply call status value) reps named all = all
asked_more J p (items.Settle item) reps named all = all
asked_more J p (items.DirtyOk index) reps named all = all
asked_more J p (items.DirtyNo index) reps named all = all
asked_more J p (items.Clean index) reps named all = all

asked_known : (J : List Entry) (more : List SentItem) → AllByRecursion (SentExported J) more → AllByRecursion (WasExported J) (filter_map (λ one. asks_for one.to one.item) more)
asked_known J [] all = tt
asked_known J (one ∷ more) all = asked_more J one.to one.item (filter_map (λ one. asks_for one.to one.item) more) all.0 (asked_known J more all.1)

last_known : (J : List Entry) (reps : List WireRep) → AllByRecursion (WasExported J) reps → AllByRecursion (WasExported J) (once_last reps)
last_known J [] all = tt
last_known J (rep ∷ reps) all = elim (list_any (is_same rep) reps) as (λ b. AllByRecursion (WasExported J) (if b then once_last reps else rep ∷ once_last reps)) [ true ↦ last_known J reps all.1 | false ↦ (all.0, last_known J reps all.1) ]

clean_known : (J : List Entry) (rep : WireRep) (asks : Bool) → WasExported J rep → AllByRecursion (GiftExported J) (cond asks (record { to = rep.owner; item = items.Clean rep.index } ∷ []) [])
clean_known J rep true its = ((its, tt), tt)
clean_known J rep false its = tt

-- ---- one deed more

-- an item that was acted on names what was exported
abbrev pub ActsOnNamed : List Entry → ℕ → Deed → List Deed → Type 0
ActsOnNamed J s (did.Act p k) D = (item : Item) → item_at p k D ≡ Some item → NamesExported J s item
ActsOnNamed J s (_) D = ⊤

-- what a right deed gives names what was exported
gifts_known : (n : ℕ) (limits : Limits) (J : List Entry) (s : ℕ) (deed : Deed) → IsRightDeed s n limits deed (deeds_at s J) → ActsOnNamed J s deed (deeds_at s J) → Known n J s → AllByRecursion (GiftExported J) (gifts_of s n deed (deeds_at s J) (work s n (deeds_at s J)))
unfolding right_after gifts_of gifts_of_finish
gifts_known n limits J s (did.Call target method value call) right named known =
    let told = call_tells s n target value call (history_at s n J) (was_answered s n limits (did.Call target method value call) (deeds_at s J) right) in (
      all_append (WasExported J) (object_of target.owner (items.Call call target.index method value)) _
          (target_named J target (target.index == 0) refl (λ counted. held_known J s n known target counted (held_then (is_counted target) (is_held s target (history_at s n J)) told.3 counted)))
          (value_known J s n known value told.4),
      tt,
    )
gifts_known n limits J s (did.Finish job outcome) right named known =
    let told = finish_tells s job outcome (history_at s n J) (was_answered s n limits (did.Finish job outcome) (deeds_at s J) right) in
    subst (λ (found : Option Run). AllByRecursion (GiftExported J) (gifts_of_finish outcome found)) (sym told.1) (reply_known J told.0.message.from told.0.message.item outcome (value_known J s n known (value_of outcome) told.3))
gifts_known n limits J s (did.Act p k) right named known = act_known J s n p (deeds_at s J) (item_at p k (deeds_at s J)) named
gifts_known n limits J s (did.Settle p k) right named known = settle_known J s n p k (deeds_at s J) (find (is_of p k) (work s n (deeds_at s J)).waiting)
gifts_known n limits J s (did.Clean rep) right named known =
    let h : History = history_at s n J in
    let told = clean_tells s n rep h (was_answered s n limits (did.Clean rep) (deeds_at s J) right) in
    clean_known J rep (turns s n rep (deeds_at s J)).asks (all_found (WasExported J) (is_idle s n h) (by_last_dirty h) rep told.0 (last_known J _ (asked_known J (sent h) known.was_sent)))
gifts_known n limits J s deed right named known = tt

new_known : (J : List Entry) (D : List Deed) (more : List Gift) (before : List SentItem) → AllByRecursion (GiftExported J) more → AllByRecursion (SentExported J) (new_items D before more)
new_known J D [] before all = tt
new_known J D (gift ∷ more) before all = (all.0, new_known J D more (before ++ next_sent D before gift ∷ []) all.1)

-- the target of a Call that is named
lent_named : (J : List Entry) (s : ℕ) (item : Item) → AllByRecursion (WasExported J) (object_of s item) → AllByRecursion (WasExported J) (target_lent s item)
lent_named J s (items.Call call target method value) all = all
lent_named J s (items.Reply call status value) all = tt
lent_named J s (items.Settle item) all = tt
lent_named J s (items.Dirty index) all = tt
lent_named J s (items.DirtyOk index) all = tt
lent_named J s (items.DirtyNo index) all = tt
lent_named J s (items.Clean index) all = tt

message_kept : (J : List Entry) (s n : ℕ) (D : List Deed) (m : Message) → HoldsOf s (WasExported J) m → HoldsOf s (WasExported J) (message_after s n D m)
unfolding message_after
message_kept J s n D m its = its

message_lost : (J : List Entry) (s : ℕ) (m : Message) (call status : ℕ) (value : Value) → m.item ≡ items.Reply call status value → HoldsOf s (WasExported J) m → HoldsOf s (WasExported J) (lost_reply m call)
message_lost J s m call status value is its = (tt, tt)

message_new : (J : List Entry) (s n : ℕ) (deed : Deed) (D : List Deed) → ActsOnNamed J s deed D → New s n (HoldsOf s (WasExported J)) (message_lost J s) deed D
message_new J s n (did.Act p k) D named = λ item is. let parts = all_split (WasExported J) (object_of s item) (counted_in item) (named item is) in (parts.1, lent_named J s item parts.0)
message_new J s n deed D named = tt

-- ---- what is gained

-- an Export
export_known : (J : List Entry) (s : ℕ) (rep : WireRep) (D : List Deed) → deeds_at s J ≡ did.Export rep ∷ D → rep.owner ≡ s → WasExported J rep
export_known J s rep D is own =
    subst (λ (o : ℕ). is_exported o rep.index (deeds_at o J) ≡ true) (sym own)
    (ap (is_exported s rep.index) is ∙ any_push (is_same (record { owner = s; index = rep.index })) (exports D) rep
    ∙ or_right (list_any (is_same (record { owner = s; index = rep.index })) (exports D)) _ (and_from _ _ (eq-eqb s rep.owner (sym own)) (eq-eqb rep.index rep.index refl)))

gains_known : (n : ℕ) (limits : Limits) (J : List Entry) (entry : Entry) (s : ℕ) (deed : Deed) → AreRightDeeds s n limits (deed ∷ deeds_at s J) → deeds_at s (entry ∷ J) ≡ deed ∷ deeds_at s J → Known n J s → AllByRecursion (OfCounted (WasExported (entry ∷ J))) (gains (deed ∷ deeds_at s J))
unfolding right_after
gains_known n limits J entry s (did.Export rep) right is known =
    let next = (objects_in_turn s n limits (did.Export rep ∷ deeds_at s J) right).0 in
    (λ counted. export_known (entry ∷ J) s rep (deeds_at s J) is (ap (λ (r : WireRep). r.owner) next), gained_still entry J (gains (deeds_at s J)) known.gained)
gains_known n limits J entry s (did.Dup rep) right is known =
    let told = dup_tells s rep (history_at s n J) (was_answered s n limits (did.Dup rep) (deeds_at s J) right.0) in
    (λ counted. exported_still entry J rep (held_known J s n known rep told.0 told.1), gained_still entry J (gains (deeds_at s J)) known.gained)
gains_known n limits J entry s (did.TakeReply call status value) right is known =
    let told = take_tells call status value (history_at s n J) (was_answered s n limits (did.TakeReply call status value) (deeds_at s J) right.0) in
    let its : HoldsOf s (WasExported J) told.1 = all_found (HoldsOf s (WasExported J)) (λ (m : Message). replies_to call m.item) (work s n (deeds_at s J)).replies told.1 told.4 known.outstanding.replies in
    let all : AllByRecursion (WasExported J) (filter is_counted (refs_in value)) = subst (λ (item : Item). AllByRecursion (WasExported J) (counted_in item)) told.5 its.0 in
    all_append (OfCounted (WasExported (entry ∷ J))) (refs_in value) (gains (deeds_at s J)) (gained_still entry J (refs_in value) (all_unfilter (WasExported J) is_counted (refs_in value) all)) (gained_still entry J (gains (deeds_at s J)) known.gained)
gains_known n limits J entry s deed right is known = gained_still entry J (gains (deeds_at s J)) known.gained

-- by an entry at s all that s has outstanding, sent and gained still names what was exported
deed_known : (n : ℕ) (limits : Limits) (J : List Entry) (entry : Entry) (s : ℕ) (deed : Deed) → AreRightDeeds s n limits (deed ∷ deeds_at s J) → deeds_at s (entry ∷ J) ≡ deed ∷ deeds_at s J → ActsOnNamed J s deed (deeds_at s J) → Known n J s → Known n (entry ∷ J) s
unfolding gifts
deed_known n limits J entry s deed right is named known =
    let D : List Deed = deeds_at s J in
    let more : List Gift = gifts s n deed D (work s n D) in
    let all : AllByRecursion (GiftExported J) more = all_filter (GiftExported J) (λ (gift : Gift). is_peer s n gift.to) (gifts_of s n deed D (work s n D)) (gifts_known n limits J s deed right.0 named known) in
    record {
      outstanding = subst (λ (E : List Deed). AllOutstanding (HoldsOf s (WasExported (entry ∷ J))) (work s n E)) (sym is)
          (hand_still s entry J (work s n (deed ∷ D)) (outstanding_more s n (HoldsOf s (WasExported J)) (message_lost J s) deed D (message_kept J s n (deed ∷ D)) (message_new J s n deed D named) known.outstanding));
      was_sent = subst (λ (E : List Deed). AllByRecursion (SentExported (entry ∷ J)) (sent (history_of s n E))) (sym is)
          (subst (AllByRecursion (SentExported (entry ∷ J))) (sym (sent_more s n deed D))
          (sent_still entry J (sent (history_of s n D) ++ new_items D (sent (history_of s n D)) more) (all_append (SentExported J) (sent (history_of s n D)) _ known.was_sent (new_known J D more (sent (history_of s n D)) all))));
      gained = subst (λ (E : List Deed). AllByRecursion (OfCounted (WasExported (entry ∷ J))) (gains E)) (sym is) (gains_known n limits J entry s deed right is known);
    }

-- an entry at another space, or one that did nothing
same_known : (n : ℕ) (J : List Entry) (entry : Entry) (s : ℕ) → deeds_at s (entry ∷ J) ≡ deeds_at s J → Known n J s → Known n (entry ∷ J) s
same_known n J entry s same known = record {
  outstanding = subst (λ (E : List Deed). AllOutstanding (HoldsOf s (WasExported (entry ∷ J))) (work s n E)) (sym same) (hand_still s entry J (work s n (deeds_at s J)) known.outstanding);
  was_sent = subst (λ (E : List Deed). AllByRecursion (SentExported (entry ∷ J)) (sent (history_of s n E))) (sym same) (sent_still entry J (sent (history_at s n J)) known.was_sent);
  gained = subst (λ (E : List Deed). AllByRecursion (OfCounted (WasExported (entry ∷ J))) (gains E)) (sym same) (gained_still entry J (gains (deeds_at s J)) known.gained);
}

-- ---- a run

to_if : (J : List Entry) (b : ℕ) (own now : Bool) (one : SentItem) (kept : List SentItem) → (one.to == b) ≡ own → SentExported J one → AllByRecursion (NamesExported J b) (map (λ (x : SentItem). x.item) kept) → AllByRecursion (NamesExported J b) (map (λ (x : SentItem). x.item) (cond (own && now) (one ∷ kept) kept))
to_if J b true true one kept is its rest = (subst (λ (to : ℕ). NamesExported J to one.item) (eqb-true one.to b is) its, rest)
to_if J b true false one kept is its rest = rest
to_if J b false now one kept is its rest = rest

all_to : (J : List Entry) (b k : ℕ) (more : List SentItem) → AllByRecursion (SentExported J) more → AllByRecursion (NamesExported J b) (map (λ (x : SentItem). x.item) (filter (is_sent_to b k) more))
all_to J b k [] all = tt
all_to J b k (one ∷ more) all = to_if J b (one.to == b) (one.session == k) one (filter (is_sent_to b k) more) refl all.0 (all_to J b k more all.1)

acts_named : (n : ℕ) (limits : ℕ → Limits) (J : List Entry) (s : ℕ) (deed : Deed) → WorldRun n limits J → AreOfTypes J → ((p : ℕ) → Known n J p) → IsRightDeed s n (limits s) deed (deeds_at s J) → ActsOnNamed J s deed (deeds_at s J)
acts_named n limits J s (did.Act p k) run typed known right = λ item is.
    let own = acts_on_next p s n k limits J run (all_fit n limits J run typed p) right in
    subst (NamesExported J s) (some_same own.item item (sym own.found ∙ is)) (all_at (NamesExported J s) (sent_to n p s J) (length (acted_from p s J)) own.item (all_to J s (number_at s p J) (sent (history_at p n J)) (known p).was_sent) own.was_sent)
acts_named n limits J s deed run typed known right = tt

-- all that the spaces of a run have outstanding, sent and gained names what was exported
pub all_known : (n : ℕ) (limits : ℕ → Limits) (J : List Entry) → WorldRun n limits J → AreOfTypes J → (s : ℕ) → Known n J s
all_known n limits [] run typed s = record { outstanding = record { waiting = tt; ready = tt; running = tt; replies = tt }; was_sent = tt; gained = tt }
all_known n limits (entry ∷ J) run typed s =
    let before : (p : ℕ) → Known n J p = all_known n limits J run.1 typed.1 in
    elim (grows s entry J) [
      | inl same ↦ same_known n J entry s same (before s)
      | inr more ↦
          let right : AreRightDeeds s n (limits s) (more.0 ∷ deeds_at s J) = subst (AreRightDeeds s n (limits s)) more.3 (right_deeds_at n limits (entry ∷ J) run s) in
          deed_known n (limits s) J entry s more.0 right more.3 (acts_named n limits J s more.0 run.1 typed.1 before right.0) (before s)
    ]

pub names : NamesLaw
names n limits J run typed = record { exported = λ a b k. all_to J b k (sent (history_at a n J)) (all_known n limits J run typed a).was_sent }
