-- What is under way is guarded: who sends it holds the references, so is granted them, so was entered for them, and gives
-- none up before; and acting on it keeps whoever is entered so.
use Rattle.std.proofs.Common.{◌≡◌, ℕ, zero, suc, ◌+◌, ◌≤◌, ◌&&◌, ◌||◌, not, Bool, true, false, cond, List, [], ◌∷◌, ◌++◌, length, map, filter, drop, find, Option, Some, None, refl, sym, ap, subst, ◌∙◌, arith, inl, inr}
use Rattle.std.specs.Prelude.{◌==◌, ◌≢◌, ◌<◌}
use Rattle.std.specs.List.{AllByRecursion, list_any, slice_get, cons_option}
use Rattle.std.proofs.lemmas.Bool.{eqb-true, and_parts}
use Rattle.std.proofs.lemmas.List.{length-append, length_push, drop-append-le}
use Rattle.std.proofs.lemmas.List.Elements.{filter_map-append}
use Rattle.nob_ids.specs.Names.{is_same, is_counted}
use Rattle.nob_ids.specs.declared.limits.Limits.{Limits}
use Rattle.nob_ids.specs.declared.wire_rep.WireRep.{WireRep}
use Rattle.nob_pickle.specs.Spelling.{refs_in}
use Rattle.nob_pickle.specs.Writing.{pickle_of}
use Rattle.nob_pickle.specs.declared.value.Value.{Value}
use Rattle.nob_item.specs.Kinds.{is_note, counted_in}
use Rattle.nob_item.specs.declared.item.Item.{Item}
use Rattle.nob_item.specs.declared.item.Item.TheVariants as items
use Rattle.nob_model_types.specs.declared.event.Outcome.{Outcome}
use Rattle.nob_model_types.specs.declared.refusal.Refusal.TheVariants as refusals
use Rattle.nob_model_types.specs.declared.entry.Entry.{Entry}
use Rattle.nob_model_types.specs.declared.deed.Deed.{Deed}
use Rattle.nob_model_types.specs.declared.deed.Deed.TheVariants as did
use Rattle.nob_model_types.specs.declared.message.Message.{Message}
use Rattle.nob_model_types.specs.Sessions.{is_peer, number, item_at, acted}
use Rattle.nob_model_types.specs.Turns.{turns, is_granted, carries}
use Rattle.nob_model_types.specs.Messages.{is_of, is_lost_message}
use Rattle.nob_model_work.specs.declared.gifts.Gift.{Gift}
use Rattle.nob_model_work.specs.declared.work.Run.{Run}
use Rattle.nob_model_work.specs.Work.{work}
use Rattle.nob_model_work.specs.Gifts.{lost_call_reply, gifts_of_settle, status_of, value_of, reply_to, gifts_of_finish, gifts_of, gifts}
use Rattle.nob_model_history.specs.Histories.{history_of}
use Rattle.nob_model_history.specs.Ends.{items_to}
use Rattle.nob_model_history.specs.Holds.{is_held}
use Rattle.nob_model_history.specs.Listing.{is_entered, is_entered_after}
use Rattle.nob_model_history.specs.Transit.{sent}
use Rattle.nob_model_history.proofs.Numbered.{items_sent_in}
use Rattle.nob_model_history.proofs.Turning.{same_ref}
use Rattle.nob_model_acting.specs.Sending.{refs_refused, is_faulty, value_refused}
use Rattle.nob_model.specs.Right.{right_after, own_ref}
use Rattle.nob_model.specs.Lists.{IsRightDeed, AreRightDeeds}
use Rattle.nob_model.proofs.Doing.{was_answered}
use Rattle.nob_model.proofs.Accepted.{call_tells, finish_tells}
use Rattle.nob_model.proofs.Carrying.{all_filter}
use Rattle.nob_model.proofs.Waiting.{all_weaker}
use Rattle.nob_model_journal.specs.Journals.{deeds_at, number_at, are_in_one, sent_in, sent_to, acted_from}
use Rattle.nob_model_journal.specs.Runs.{WorldRun}
use Rattle.nob_model_journal.specs.Fronts.{with_numbers}
use Rattle.nob_model_invariant.specs.Typed.{AreOfTypes}
use Rattle.nob_model_invariant.specs.Asking.{ask_in, asks_among, items_among, dirties_in, last_or, turns_by, asked, heard, was_asked, gave}
use Rattle.nob_model_holdings.proofs.Lists.{all_map, all_both, all_pass, place_in_whole, some_same}
use Rattle.nob_model_holdings.proofs.Typing.{next_none, refs_held}
use Rattle.nob_model_invariant.proofs.Entries.{grows, right_deeds_at}
use Rattle.nob_model_invariant.proofs.BySession.{sent_in_more, sent_in_same, sent_grows, sent_one}
use Rattle.nob_model_invariant.proofs.EachSession.{GoesOn, goes_on, rises, acted_from_is, none_acted_new, sent_apart}
use Rattle.nob_model_invariant.proofs.Opened.{opens_above}
use Rattle.nob_model_invariant.proofs.Order.{ActsNow, IsNextOf, acts_on_next, all_fit, in_order_now}
use Rattle.nob_model_holdings.proofs.Granted.{is_owned, held_owned}
use Rattle.nob_model_holdings.proofs.Holdings.{holds_owned}
use Rattle.nob_model_invariant.proofs.Listings.{items_split, answers_now, dirties_append, granted_entered, granted_reached}
use Rattle.nob_model_invariant.proofs.SafetyPoints.{clients, owners}
use Rattle.nob_model_invariant.specs.Underway.{under_way, calls_object, needs_object, unless_asked, AreGuarded}
use Rattle.nob_model_invariant.specs.ArrivalLaws.{GuardedLaw}
use Rattle.nob_model_invariant.proofs.Counts.{none_some}
use Rattle.nob_model_invariant.proofs.Notes.{gives_notes}

-- ---- guarded items

still : (ask : Option Bool) (a b : Bool) → (a ≡ true → b ≡ true) → unless_asked ask a ≡ true → unless_asked ask b ≡ true
still None a b step is = step is
still (Some ask) a b step is = cc

-- what is guarded stays so where more is entered
guarded_weaker : (to x : ℕ) (a b : Bool) (more : List Item) → (a ≡ true → b ≡ true) → AreGuarded to x a more → AreGuarded to x b more
guarded_weaker to x a b [] step all = tt
guarded_weaker to x a b (item ∷ more) step all = (λ needs. step (all.0 needs), guarded_weaker to x (unless_asked (ask_in x item) a) (unless_asked (ask_in x item) b) more (still (ask_in x item) a b step) all.1)

some_first : (ask : Bool) (asks : List Bool) → ask ∷ asks ≡ [] → ⊥
some_first ask asks e = cc

first_none : (ask : Option Bool) (asks : List Bool) (a : Bool) → cons_option ask asks ≡ [] → a ≡ true → (unless_asked ask a ≡ true) × (asks ≡ [])
first_none None asks a none is = (is, none)
first_none (Some ask) asks a none is = absurd (some_first ask asks none)

-- items behind others, by what is entered behind these
guarded_append : (to x : ℕ) (a : Bool) (items more : List Item) → AreGuarded to x a items → ((b : Bool) → (a ≡ true → asks_among x items ≡ [] → b ≡ true) → AreGuarded to x b more) → AreGuarded to x a (items ++ more)
guarded_append to x a [] more all rest = rest a (λ is none. is)
guarded_append to x a (item ∷ items) more all rest =
    (all.0, guarded_append to x (unless_asked (ask_in x item) a) items more all.1 (λ b known. rest b (λ is none. let parts = first_none (ask_in x item) (asks_among x items) a none is in known parts.0 parts.1)))

-- where none needs the object
none_guarded : (to x : ℕ) (a : Bool) (more : List Item) → AllByRecursion (λ item. needs_object to x item ≡ false) more → AreGuarded to x a more
none_guarded to x a [] all = tt
none_guarded to x a (item ∷ more) all = (λ needs. absurd (let clash : true ≡ false = sym needs ∙ all.0 in cc), none_guarded to x (unless_asked (ask_in x item) a) more all.1)

-- ---- what gifts need

note_needs : (to x : ℕ) (item : Item) → is_note item ≡ true → needs_object to x item ≡ false
note_needs to x (items.Call call target method value) is = cc
note_needs to x (items.Reply call status value) is = cc
note_needs to x (items.Settle item) is = refl
note_needs to x (items.Dirty index) is = refl
note_needs to x (items.DirtyOk index) is = refl
note_needs to x (items.DirtyNo index) is = refl
note_needs to x (items.Clean index) is = refl

-- gifts that need nothing
abbrev NeedNone : (to x : ℕ) → List Gift → Type 0
NeedNone to x more = AllByRecursion (λ (gift : Gift). needs_object to x gift.item ≡ false) more

lost_needs : (to x p : ℕ) (item : Item) (lost : Bool) → NeedNone to x (lost_call_reply p item lost)
unfolding lost_call_reply
lost_needs to x p (items.Call call target method value) true = (refl, tt)
lost_needs to x p (items.Call call target method value) false = tt
lost_needs to x p (items.Reply call status value) lost = tt
lost_needs to x p (items.Settle item) lost = tt
lost_needs to x p (items.Dirty index) lost = tt
lost_needs to x p (items.DirtyOk index) lost = tt
lost_needs to x p (items.DirtyNo index) lost = tt
lost_needs to x p (items.Clean index) lost = tt

settle_needs : (to x s n p k : ℕ) (D : List Deed) (found : Option Message) → NeedNone to x (gifts_of_settle s n p k D found)
unfolding gifts_of_settle
settle_needs to x s n p k D None = tt
settle_needs to x s n p k D (Some m) = (refl, lost_needs to x p m.item (is_lost_message s n D m))

module _ (s n o x : ℕ) (ok : Bool) where
  none_given : (more : List Gift) → NeedNone o x more → AreGuarded o x ok (items_to o (filter (λ (gift : Gift). is_peer s n gift.to) more))
  none_given more all =
      none_guarded o x ok (items_to o (filter (λ (gift : Gift). is_peer s n gift.to) more))
      (all_map (λ (gift : Gift). needs_object o x gift.item ≡ false) (λ item. needs_object o x item ≡ false) (λ (gift : Gift). gift.item) (λ gift is. is) _
      (all_filter (λ (gift : Gift). needs_object o x gift.item ≡ false) (λ (gift : Gift). gift.to == o) _
      (all_filter (λ (gift : Gift). needs_object o x gift.item ≡ false) (λ (gift : Gift). is_peer s n gift.to) more all)))

  one_given : (gift : Gift) → (gift.to ≡ o → needs_object o x gift.item ≡ true → ok ≡ true) → AreGuarded o x ok (items_to o (filter (λ (one : Gift). is_peer s n one.to) (gift ∷ [])))
  one_given gift step = elim (is_peer s n gift.to) as (λ (b : Bool). AreGuarded o x ok (items_to o (cond b (gift ∷ []) []))) [ true ↦ to_owner (gift.to == o) refl | false ↦ tt ]
    where
      to_owner : (b : Bool) → (gift.to == o) ≡ b → AreGuarded o x ok (map (λ (one : Gift). one.item) (cond b (gift ∷ []) []))
      to_owner true same = (step (eqb-true gift.to o same), tt)
      to_owner false other = tt

  reply_given : (p : ℕ) (item : Item) (outcome : Outcome) → ((call : ℕ) → needs_object o x (items.Reply call (status_of outcome) (value_of outcome)) ≡ true → ok ≡ true) → AreGuarded o x ok (items_to o (filter (λ (one : Gift). is_peer s n one.to) (reply_to p item outcome)))
  unfolding reply_to
  reply_given p (items.Call call target method value) outcome step = one_given (record { to = p; item = items.Reply call (status_of outcome) (value_of outcome) }) (λ to needs. step call needs)
  reply_given p (items.Reply call status value) outcome step = tt
  reply_given p (items.Settle item) outcome step = tt
  reply_given p (items.Dirty index) outcome step = tt
  reply_given p (items.DirtyOk index) outcome step = tt
  reply_given p (items.DirtyNo index) outcome step = tt
  reply_given p (items.Clean index) outcome step = tt

-- ---- who sends holds, so is granted

-- what an item carries has what each of its references has
pub carried_has : (P : WireRep → Type 0) (rep : WireRep) (reps : List WireRep) → AllByRecursion P reps → list_any (is_same rep) reps ≡ true → P rep
carried_has P rep [] all there = cc
carried_has P rep (other ∷ reps) all there = by (is_same rep other) refl (carried_has P rep reps all.1) there
  where
    by : (b : Bool) → is_same rep other ≡ b → (list_any (is_same rep) reps ≡ true → P rep) → (b || list_any (is_same rep) reps) ≡ true → P rep
    by true same rest there = subst P (sym (same_ref rep other same)) all.0
    by false same rest there = rest there

-- what an item needs has what the object that it calls has, and each reference that it carries
needed_has : (P : WireRep → Type 0) (o x : ℕ) (item : Item) → (calls_object x item ≡ true → P (own_ref o x)) → AllByRecursion P (counted_in item) → needs_object o x item ≡ true → P (own_ref o x)
needed_has P o x item target carried needs = by (calls_object x item) refl needs
  where
    by : (b : Bool) → calls_object x item ≡ b → (b || carries (own_ref o x) item) ≡ true → P (own_ref o x)
    by true is either = target is
    by false is either = carried_has P (own_ref o x) (counted_in item) carried either

other_granted : (s n o x : ℕ) (D : List Deed) → s ≢ o → is_owned s n (own_ref o x) D ≡ true → is_granted (turns s n (own_ref o x) D) ≡ true
other_granted s n o x D apart owned = by (o == s) refl owned
  where
    by : (b : Bool) → (o == s) ≡ b → (b || is_granted (turns s n (own_ref o x) D)) ≡ true → is_granted (turns s n (own_ref o x) D) ≡ true
    by true same either = absurd (apart (sym (eqb-true o s same)))
    by false other either = either

held_then : (counted held : Bool) → (counted && not held) ≡ false → counted ≡ true → held ≡ true
held_then true true e c = refl
held_then true false e c = cc
held_then false held e c = cc

module _ (s n : ℕ) (limits : Limits) (D : List Deed) (right : AreRightDeeds s n limits D) where
  ref_owned : (rep : WireRep) → is_counted rep ≡ true → is_held s rep (history_of s n D) ≡ true → is_owned s n rep D ≡ true
  ref_owned rep counted held = held_owned s n limits rep D right (holds_owned s n limits D right) counted held

  -- the counted references of a value that may be sent
  pub value_owned : (value : Value) → value_refused s (history_of s n D) value ≡ None → AllByRecursion (λ rep. is_owned s n rep D ≡ true) (filter is_counted (refs_in value))
  value_owned value e =
      let held = refs_held s (history_of s n D) (filter is_counted (refs_in value)) (next_none (is_faulty (pickle_of value)) refusals.TooBig (refs_refused s (history_of s n D) (filter is_counted (refs_in value))) e).1 in
      all_both (λ rep. is_counted rep ≡ true) (λ rep. is_held s rep (history_of s n D) ≡ true) (λ rep. is_owned s n rep D ≡ true) ref_owned (filter is_counted (refs_in value)) (all_pass is_counted (refs_in value)) held

  -- the target of a Call
  target_owned : (o x : ℕ) (target : WireRep) → (is_counted target && not (is_held s target (history_of s n D))) ≡ false → target.owner ≡ o → (not (target.index == 0) && target.index == x) ≡ true → is_owned s n (own_ref o x) D ≡ true
  target_owned o x target held to calls =
      let parts = and_parts (not (target.index == 0)) (target.index == x) calls in
      let own : is_owned s n target D ≡ true = ref_owned target parts.0 (held_then (is_counted target) (is_held s target (history_of s n D)) held parts.0) in
      subst (λ (q : ℕ). is_owned s n (own_ref q x) D ≡ true) to (subst (λ (i : ℕ). is_owned s n (own_ref target.owner i) D ≡ true) (eqb-true target.index x parts.1) own)

-- what a right deed gives to another space is guarded, where what is granted is entered
gifts_guarded : (s n o x : ℕ) (limits : Limits) (ok : Bool) (deed : Deed) (D : List Deed) → s ≢ o → AreRightDeeds s n limits (deed ∷ D) → (is_granted (turns s n (own_ref o x) D) ≡ true → ok ≡ true) → AreGuarded o x ok (items_to o (gifts s n deed D (work s n D)))
unfolding right_after gifts gifts_of gifts_of_finish
gifts_guarded s n o x limits ok (did.Call target method value call) D apart right granted =
    let told = call_tells s n target value call (history_of s n D) (was_answered s n limits (did.Call target method value call) D right.0) in
    one_given s n o x ok (record { to = target.owner; item = items.Call call target.index method value })
    (λ to needs. granted (other_granted s n o x D apart (needed_has (λ rep. is_owned s n rep D ≡ true) o x (items.Call call target.index method value) (target_owned s n limits D right.1 o x target told.3 to) (value_owned s n limits D right.1 value told.4) needs)))
gifts_guarded s n o x limits ok (did.Finish job outcome) D apart right granted =
    let told = finish_tells s job outcome (history_of s n D) (was_answered s n limits (did.Finish job outcome) D right.0) in
    subst (λ (found : Option Run). AreGuarded o x ok (items_to o (filter (λ (one : Gift). is_peer s n one.to) (gifts_of_finish outcome found)))) (sym told.1)
    (reply_given s n o x ok told.0.message.from told.0.message.item outcome
    (λ call needs. granted (other_granted s n o x D apart (needed_has (λ rep. is_owned s n rep D ≡ true) o x (items.Reply call (status_of outcome) (value_of outcome)) (λ calls. cc) (value_owned s n limits D right.1 (value_of outcome) told.3) needs))))
gifts_guarded s n o x limits ok (did.Settle p k) D apart right granted = none_given s n o x ok _ (settle_needs o x s n p k D (find (is_of p k) (work s n D).waiting))
gifts_guarded s n o x limits ok deed D apart right granted =
    none_given s n o x ok (gifts_of s n deed D (work s n D)) (all_weaker (λ (gift : Gift). is_note gift.item ≡ true) (λ (gift : Gift). needs_object o x gift.item ≡ false) (λ gift. note_needs o x gift.item) (gifts_of s n deed D (work s n D)) (gives_notes s n deed D (work s n D) refl))

-- ---- what is granted is entered, and nothing is asked under way

no_dirty_last : (asks : List Bool) → dirties_in asks ≡ 0 → last_or false asks ≡ true → ⊥
no_dirty_last [] none last = cc
no_dirty_last (true ∷ asks) none last = absurd (omega (arith, none))
no_dirty_last (false ∷ asks) none last = no_dirty_last asks none last

-- where a Dirty is the last and none is among the last some, these are none
none_behind : (before : Bool) (asks more : List Bool) → dirties_in more ≡ 0 → last_or before (asks ++ more) ≡ true → more ≡ []
none_behind before [] [] none last = refl
none_behind before [] (true ∷ more) none last = absurd (omega (arith, none))
none_behind before [] (false ∷ more) none last = absurd (no_dirty_last more none last)
none_behind before (ask ∷ asks) more none last = none_behind ask asks more none last

items_numbered : (k : ℕ) (sent : List Item) → items_among (with_numbers k sent) ≡ sent
items_numbered k [] = refl
items_numbered k (item ∷ sent) = ap (λ more. item ∷ more) (items_numbered (k + 1) sent)

tail_same : {A : Type 0} (x y : A) (xs ys : List A) → x ∷ xs ≡ y ∷ ys → xs ≡ ys
tail_same x y xs ys e = cc

-- what stands behind a beginning of numbered items
behind_numbered : (k : ℕ) (pairs rest : List (ℕ × Option Item)) (whole : List Item) → pairs ++ rest ≡ with_numbers k whole → drop (length pairs) whole ≡ items_among rest
behind_numbered k [] rest whole is = sym (items_numbered k whole) ∙ ap items_among (sym is)
behind_numbered k (pair ∷ pairs) rest [] is = cc
behind_numbered k (pair ∷ pairs) rest (item ∷ whole) is = behind_numbered (k + 1) pairs rest whole (tail_same pair (k, Some item) (pairs ++ rest) (with_numbers (k + 1) whole) is)

length_numbered : (k : ℕ) (whole : List Item) → length (with_numbers k whole) ≡ length whole
length_numbered k [] = refl
length_numbered k (item ∷ whole) = ap suc (length_numbered (k + 1) whole)

-- what is granted isn't asked for nor given up by what is under way
granted_unasked : (n : ℕ) (J : List Entry) (c o x : ℕ) → are_in_one c o J ≡ true → ActsNow n c o J → ActsNow n o c J → turns c n (own_ref o x) (deeds_at c J) ≡ turns_by (asked n c (own_ref o x) J) (heard c (own_ref o x) J) → length (gave n o c x J) ≡ dirties_in (was_asked o c x J) → is_granted (turns c n (own_ref o x) (deeds_at c J)) ≡ true → asks_among x (under_way n c o J) ≡ []
granted_unasked n J c o x one there back are each granted =
    let rep : WireRep = own_ref o x in
    let parts = granted_parts (ap is_granted (sym are) ∙ granted) in
    let behind : List Bool = asks_among x (items_among there.0) in
    let whole : was_asked o c x J ++ behind ≡ asked n c rep J = sym (filter_map-append (ask_in x) (items_among (acted_from c o J)) (items_among there.0)) ∙ ap (asks_among x) (items_split n c o J there ∙ sent_one n c o J one) in
    let answers = answers_now n J c o x one back in
    let sent_all = ap dirties_in (sym whole) ∙ dirties_append (was_asked o c x J) behind in
    let told_all = ap length (sym answers.1) ∙ length-append (heard c rep J) answers.0 in
    let heard_all = parts.1 in
    let none : dirties_in behind ≡ 0 = omega (arith, sent_all, told_all, heard_all, each) in
    ap (asks_among x) (behind_numbered 1 (acted_from c o J) there.0 (sent_to n c o J) there.1)
    ∙ none_behind false (was_asked o c x J) behind none (ap (last_or false) whole ∙ parts.0)
  where
    granted_parts : is_granted (turns_by (asked n c (own_ref o x) J) (heard c (own_ref o x) J)) ≡ true → (last_or false (asked n c (own_ref o x) J) ≡ true) × (length (heard c (own_ref o x) J) ≡ dirties_in (asked n c (own_ref o x) J))
    granted_parts is =
        let halves = and_parts _ _ is in
        let first = and_parts _ _ halves.0 in
        (first.0, eqb-true _ _ first.1)

-- ---- one entry more at the client

module _ (n c o x : ℕ) (limits : ℕ → Limits) (apart : c ≢ o) (entry : Entry) (J : List Entry) (run : WorldRun n limits (entry ∷ J)) (typed : AreOfTypes (entry ∷ J)) where
  acted_few : length (acted_from c o J) ≤ length (sent_to n c o J)
  acted_few =
      let begins = in_order_now n limits J run.1 typed.1 c o in
      let size = sym (length-append (acted_from c o J) begins.0) ∙ ap length begins.1 ∙ length_numbered 1 (sent_to n c o J) in
      omega (arith, size)

  granted_guards : are_in_one c o J ≡ true → (b : Bool) → (is_entered o x c (deeds_at o J) ≡ true → asks_among x (under_way n c o J) ≡ [] → b ≡ true) → is_granted (turns c n (own_ref o x) (deeds_at c J)) ≡ true → b ≡ true
  granted_guards one b known granted =
      let there = in_order_now n limits J run.1 typed.1 c o in
      let back = in_order_now n limits J run.1 typed.1 o c in
      let are = (clients n limits J run.1).turns_are c (own_ref o x) in
      let each = ((owners n limits J run.1).answered o c x).each in
      known ((owners n limits J run.1).entered o c x ∙ granted_entered n J c (own_ref o x) one there back are each granted) (granted_unasked n J c o x one there back are each granted)

  -- what is under way, in the session in which the owner is, once more is sent
  abbrev Longer : List Deed → Type 0
  Longer D = AreGuarded o x (is_entered o x c (deeds_at o J)) (drop (length (acted_from c o J)) (items_sent_in o (number_at o c J) (sent (history_of c n D))))

  deed_sends : (deed : Deed) → AreRightDeeds c n (limits c) (deed ∷ deeds_at c J) → Longer (deeds_at c J) → Longer (deed ∷ deeds_at c J)
  deed_sends deed right before = by (number_at c o J == number_at o c J) refl
    where
      -- what a client sends in another session isn't under way to the owner
      by : (b : Bool) → are_in_one c o J ≡ b → Longer (deed ∷ deeds_at c J)
      by true one =
          let D : List Deed = deeds_at c J in
          let more : List Item = items_to o (gifts c n deed D (work c n D)) in
          let entered : Bool = is_entered o x c (deeds_at o J) in
          let whole = sent_in_more c n o (number_at o c J) deed D ∙ ap (λ (b : Bool). sent_to n c o J ++ cond b more []) one in
          subst (λ all. AreGuarded o x entered (drop (length (acted_from c o J)) all)) (sym whole)
          (subst (AreGuarded o x entered) (sym (drop-append-le (length (acted_from c o J)) (sent_to n c o J) more acted_few))
          (guarded_append o x entered (under_way n c o J) more before (λ b known. gifts_guarded c n o x (limits c) b deed D apart right (granted_guards one b known))))
      by false other = subst (λ all. AreGuarded o x (is_entered o x c (deeds_at o J)) (drop (length (acted_from c o J)) all)) (sym (sent_in_same c n o (number_at o c J) deed (deeds_at c J) other)) before

  entry_sends : Longer (deeds_at c J) → Longer (deeds_at c (entry ∷ J))
  entry_sends before =
      elim (grows c entry J) [
        | inl same ↦ subst Longer (sym same) before
        | inr more ↦ subst Longer (sym more.3) (deed_sends more.0 (subst (AreRightDeeds c n (limits c)) more.3 (right_deeds_at n limits (entry ∷ J) run c)) before)
      ]

-- ---- one entry more at the owner

pub next_behind : {A : Type 0} (xs : List A) (t : ℕ) (x : A) → slice_get xs t ≡ Some x → drop t xs ≡ x ∷ drop (suc t) xs
next_behind [] t x at = absurd (none_some x at)
next_behind (y ∷ xs) zero x at = ap (λ z. z ∷ xs) (some_same y x at)
next_behind (y ∷ xs) (suc t) x at = next_behind xs t x at

asked_if : (index x : ℕ) (ask alive e : Bool) → unless_asked (cond (index == x) (Some ask) None) e ≡ true → cond (index == x) alive e ≡ true
asked_if index x ask alive e is = elim (index == x) as (λ (b : Bool). unless_asked (cond b (Some ask) None) e ≡ true → cond b alive e ≡ true) [ true ↦ λ i. absurd (let clash : false ≡ true = i in cc) | false ↦ λ i. i ] is

-- acting on an item leaves a client entered, unless it asks
entered_still : (o x : ℕ) (item : Item) (D : List Deed) (e : Bool) → unless_asked (ask_in x item) e ≡ true → is_entered_after o x (Some item) D e ≡ true
entered_still o x (items.Call call target method value) D e is = is
entered_still o x (items.Reply call status value) D e is = is
entered_still o x (items.Settle item) D e is = is
entered_still o x (items.Dirty index) D e is = asked_if index x true _ e is
entered_still o x (items.DirtyOk index) D e is = is
entered_still o x (items.DirtyNo index) D e is = is
entered_still o x (items.Clean index) D e is = asked_if index x false false e is

module _ (n c o x : ℕ) (limits : ℕ → Limits) (J : List Entry) (run : WorldRun n limits J) (typed : AreOfTypes J) (more whole : List Item) (longer : sent_to n c o J ++ more ≡ whole) where
  -- what is left once an owner did so much
  abbrev Left : List Deed → Type 0
  Left D = AreGuarded o x (is_entered o x c D) (drop (length (acted c D)) whole)

  next_left : (q k : ℕ) → IsRightDeed o n (limits o) (did.Act q k) (deeds_at o J) → q ≡ c → Left (deeds_at o J) → AreGuarded o x (is_entered_after o x (item_at q k (deeds_at o J)) (deeds_at o J) (is_entered o x c (deeds_at o J))) (drop (length (acted_from c o J ++ (k, item_at c k (deeds_at o J)) ∷ [])) whole)
  next_left q k right same before =
      let D : List Deed = deeds_at o J in
      let t : ℕ = length (acted_from c o J) in
      let e : Bool = is_entered o x c D in
      let next : IsNextOf n c o k J = acts_on_next c o n k limits J run (all_fit n limits J run typed c) (subst (λ (p : ℕ). IsRightDeed o n (limits o) (did.Act p k) D) same right) in
      let behind = next_behind whole t next.item (place_in_whole (sent_to n c o J) more whole t next.item longer next.was_sent) in
      let all : AreGuarded o x e (next.item ∷ drop (suc t) whole) = subst (AreGuarded o x e) behind before in
      let left : AreGuarded o x (is_entered_after o x (Some next.item) D e) (drop (suc t) whole) = guarded_weaker o x (unless_asked (ask_in x next.item) e) (is_entered_after o x (Some next.item) D e) (drop (suc t) whole) (entered_still o x next.item D e) all.1 in
      let size : suc t ≡ length (acted_from c o J ++ (k, item_at c k D) ∷ []) = (let one = length_push (acted_from c o J) (k, item_at c k D) in omega (arith, one)) in
      subst (λ (m : ℕ). AreGuarded o x (is_entered_after o x (item_at q k D) D e) (drop m whole)) size
      (subst (λ (found : Option Item). AreGuarded o x (is_entered_after o x found D e) (drop (suc t) whole)) (sym (ap (λ (p : ℕ). item_at p k D) same ∙ next.found)) left)

  act_left : (q k : ℕ) (own : Bool) → (q == c) ≡ own → IsRightDeed o n (limits o) (did.Act q k) (deeds_at o J) → Left (deeds_at o J) → AreGuarded o x (cond own (is_entered_after o x (item_at q k (deeds_at o J)) (deeds_at o J) (is_entered o x c (deeds_at o J))) (is_entered o x c (deeds_at o J))) (drop (length (cond own (acted_from c o J ++ (k, item_at c k (deeds_at o J)) ∷ []) (acted_from c o J))) whole)
  act_left q k true same right before = next_left q k right (eqb-true q c same) before
  act_left q k false other right before = before

  deed_left : (deed : Deed) → IsRightDeed o n (limits o) deed (deeds_at o J) → number c (deed ∷ deeds_at o J) ≡ number c (deeds_at o J) → Left (deeds_at o J) → Left (deed ∷ deeds_at o J)
  deed_left (did.Act q k) right stays before = act_left q k (q == c) refl right before
  deed_left (did.Open q k) right stays before = by (q == c) refl
    where
      by : (own : Bool) → (q == c) ≡ own → AreGuarded o x (cond own false (is_entered o x c (deeds_at o J))) (drop (length (cond own [] (acted_from c o J))) whole)
      by true own = absurd (let above = opens_above o n c (limits o) (did.Open q k) (deeds_at o J) right own in omega (arith, above, stays))
      by false other = before
  deed_left deed right stays before = before

  entry_left : (entry : Entry) → WorldRun n limits (entry ∷ J) → number_at o c (entry ∷ J) ≡ number_at o c J → Left (deeds_at o J) → Left (deeds_at o (entry ∷ J))
  entry_left entry all stays before =
      elim (grows o entry J) [
        | inl same ↦ subst Left (sym same) before
        | inr one ↦ subst Left (sym one.3) (deed_left one.0 (subst (AreRightDeeds o n (limits o)) one.3 (right_deeds_at n limits (entry ∷ J) all o)).0 (ap (number c) (sym one.3) ∙ stays) before)
      ]

-- ---- sessions to which the owner hasn't come

module _ (n c o x k : ℕ) (limits : ℕ → Limits) (apart : c ≢ o) where
  -- what is sent in session k needs nothing
  abbrev Ahead : List Deed → Type 0
  Ahead D = AreGuarded o x false (items_sent_in o k (sent (history_of c n D)))

  deed_ahead : (deed : Deed) (J : List Entry) → WorldRun n limits J → AreOfTypes J → AreRightDeeds c n (limits c) (deed ∷ deeds_at c J) → number_at o c J < k → Ahead (deeds_at c J) → Ahead (deed ∷ deeds_at c J)
  deed_ahead deed J run typed right above before = by (number_at c o J == k) refl
    where
      D : List Deed
      D = deeds_at c J

      by : (b : Bool) → (number_at c o J == k) ≡ b → Ahead (deed ∷ D)
      by true is =
          let more : List Item = items_to o (gifts c n deed D (work c n D)) in
          let here = eqb-true (number_at c o J) k is in
          let whole = sent_in_more c n o k deed D ∙ ap (λ (b : Bool). sent_in n c o k J ++ cond b more []) is in
          let never : is_granted (turns c n (own_ref o x) D) ≡ true → false ≡ true = λ granted. absurd (let reached = granted_reached n c limits J (own_ref o x) run typed granted in omega (arith, reached, here, above)) in
          subst (AreGuarded o x false) (sym whole)
          (guarded_append o x false (sent_in n c o k J) more before (λ b known. guarded_weaker o x false b more (λ is. absurd (let clash : false ≡ true = is in cc)) (gifts_guarded c n o x (limits c) false deed D apart right never)))
      by false other = subst (AreGuarded o x false) (sym (sent_in_same c n o k deed D other)) before

  -- what a client sent in a session to which the owner hasn't come needs none of its objects
  pub none_needed : (J : List Entry) → WorldRun n limits J → AreOfTypes J → number_at o c J < k → AreGuarded o x false (sent_in n c o k J)
  none_needed [] run typed above = tt
  none_needed (entry ∷ J) run typed above =
      let low = rises n o c limits entry J run in
      let earlier : number_at o c J < k = omega (arith, low, above) in
      let before : Ahead (deeds_at c J) = none_needed J run.1 typed.1 earlier in
      elim (grows c entry J) [
        | inl same ↦ subst Ahead (sym same) before
        | inr more ↦ subst Ahead (sym more.3) (deed_ahead more.0 J run.1 typed.1 (subst (AreRightDeeds c n (limits c)) more.3 (right_deeds_at n limits (entry ∷ J) run c)) earlier before)
      ]

-- ---- a run

-- where an entry leaves the owner in its session
guarded_stays : (n c o x : ℕ) (limits : ℕ → Limits) → c ≢ o → (entry : Entry) (J : List Entry) → WorldRun n limits (entry ∷ J) → AreOfTypes (entry ∷ J) → number_at o c (entry ∷ J) ≡ number_at o c J → AreGuarded o x (is_entered o x c (deeds_at o J)) (under_way n c o J) → AreGuarded o x (is_entered o x c (deeds_at o (entry ∷ J))) (under_way n c o (entry ∷ J))
guarded_stays n c o x limits apart entry J run typed same before =
    let longer = sent_grows n c o (number_at o c J) entry J in
    subst (λ (k : ℕ). AreGuarded o x (is_entered o x c (deeds_at o (entry ∷ J))) (drop (length (acted_from c o (entry ∷ J))) (sent_in n c o k (entry ∷ J)))) (sym same)
    (entry_left n c o x limits J run.1 typed.1 longer.0 (sent_in n c o (number_at o c J) (entry ∷ J)) (sym longer.1) entry run same
    (entry_sends n c o x limits apart entry J run typed before))

-- and where it opens one
guarded_opens : (n c o x : ℕ) (limits : ℕ → Limits) → c ≢ o → (entry : Entry) (J : List Entry) → WorldRun n limits (entry ∷ J) → AreOfTypes (entry ∷ J) → number_at o c J < number_at o c (entry ∷ J) → AreGuarded o x (is_entered o x c (deeds_at o (entry ∷ J))) (under_way n c o (entry ∷ J))
guarded_opens n c o x limits apart entry J run typed above =
    let k : ℕ = number_at o c (entry ∷ J) in
    let entered : Bool = is_entered o x c (deeds_at o (entry ∷ J)) in
    let none : acted_from c o (entry ∷ J) ≡ [] = acted_from_is n c o limits (entry ∷ J) run ∙ none_acted_new n c o limits entry J run above in
    let same = sent_apart n c o limits entry J apart above k in
    subst (λ pairs. AreGuarded o x entered (drop (length pairs) (sent_in n c o k (entry ∷ J)))) (sym none)
    (guarded_weaker o x false entered (sent_in n c o k (entry ∷ J)) (λ is. absurd (let clash : false ≡ true = is in cc))
    (subst (AreGuarded o x false) (sym same) (none_needed n c o x k limits apart J run.1 typed.1 above)))

-- what is under way is guarded
pub all_guarded : (n c o x : ℕ) (limits : ℕ → Limits) → c ≢ o → (J : List Entry) → WorldRun n limits J → AreOfTypes J → AreGuarded o x (is_entered o x c (deeds_at o J)) (under_way n c o J)
all_guarded n c o x limits apart [] run typed = tt
all_guarded n c o x limits apart (entry ∷ J) run typed = by (goes_on n o c limits entry J run) (all_guarded n c o x limits apart J run.1 typed.1)
  where
    by : GoesOn c (deeds_at o J) (deeds_at o (entry ∷ J)) → AreGuarded o x (is_entered o x c (deeds_at o J)) (under_way n c o J) → AreGuarded o x (is_entered o x c (deeds_at o (entry ∷ J))) (under_way n c o (entry ∷ J))
    by (inl stays) before = guarded_stays n c o x limits apart entry J run typed stays.0 before
    by (inr above) before = guarded_opens n c o x limits apart entry J run typed above

pub guarded_law : GuardedLaw
guarded_law n limits J run typed = record {
  guarded = λ c o x apart. all_guarded n c o x limits apart J run typed;
  ahead = λ c o x session apart above. none_needed n c o x session limits apart J run typed above;
}
