-- A message that nothing keeps, for which room was made, can be received.
use Rattle.std.proofs.Common.{◌≡◌, ℕ, ◌+◌, ◌-◌, ◌*◌, ◌≤◌, ◌<◌, Bool, true, false, not, ◌&&◌, ◌||◌, ◌==◌, cond, List, [], ◌∷◌, length, map, filter, slice_get, Option, Some, None, if◌then◌else◌, refl, sym, ap, subst, ◌∙◌, arith}
use Rattle.std.specs.Prelude.{nat_le, nat_lt}
use Rattle.std.specs.List.{AllByRecursion, IsDistinct, list_any, list_all}
use Rattle.std.proofs.lemmas.Bool.{and_parts, or_parts, not-true, not-false}
use Rattle.std.proofs.lemmas.Bool.Decides.{nat_tests, Decides-eqb}
use Rattle.std.proofs.lemmas.List.{length-map}
use Rattle.nob_ids.specs.Names.{is_same, is_counted}
use Rattle.nob_ids.specs.declared.limits.Limits.{Limits}
use Rattle.nob_ids.specs.declared.reason.Reason.{Reason}
use Rattle.nob_ids.specs.declared.reason.Reason.TheVariants.{BadReference}
use Rattle.nob_ids.specs.declared.wire_rep.WireRep.{WireRep}
use Rattle.nob_item.specs.Kinds.{counted_in, refs_carried}
use Rattle.nob_item.specs.declared.item.Item.{Item}
use Rattle.nob_item.specs.declared.item.Item.TheVariants as items
use Rattle.nob_model_session.specs.End.{waiting, takes}
use Rattle.nob_model_session.specs.Right.{first_of, right_front}
use Rattle.nob_model_session.specs.declared.entry.EndEntry.{EndEntry}
use Rattle.nob_session.specs.Stands.{Roomy, End, is_open_end}
use Rattle.nob_session.specs.Onward.{StandsOnward}
use Rattle.nob_session.proofs.Alike.{made_onward, onward_is}
use Rattle.nob_table_rows.specs.declared.standing.Standing.{Standing}
use Rattle.nob_table_rows.specs.declared.standing.State.{State as TableState}
use Rattle.nob_table_rows.specs.declared.standing.State.TheVariants as states
use Rattle.nob_table_rows.specs.Standings as standings
use Rattle.nob_table_rows.specs.Standings.{is_known, is_unknown, pending_standing}
use Rattle.nob_table_rows.specs.Order.{place_in}
use Rattle.nob_table.specs.Table as table
use Rattle.nob_table.specs.Table.{Table, standing, surrogate_total, is_far}
use Rattle.nob_table_rows.proofs.Same.{same_refl}
use Rattle.nob_model_types.specs.declared.refusal.Refusal.TheVariants as refusals
use Rattle.nob_model_types.specs.declared.deed.Deed.{Deed}
use Rattle.nob_model_types.specs.declared.deed.Deed.TheVariants.{Act}
use Rattle.nob_model_types.specs.declared.message.Loan.{Loan}
use Rattle.nob_model_types.specs.declared.message.Loan.TheVariants as loans
use Rattle.nob_model_types.specs.declared.message.RefCopy.{RefCopy}
use Rattle.nob_model_types.specs.declared.message.Message.{Message}
use Rattle.nob_model_types.specs.Objects as objects
use Rattle.nob_model_types.specs.Sessions.{is_peer}
use Rattle.nob_model_work.specs.declared.gifts.Gift.{Gift}
use Rattle.nob_model_work.specs.declared.work.Outstanding.{Outstanding}
use Rattle.nob_model_work.specs.Gifts.{once, dirty_for}
use Rattle.nob_model_work.specs.Work.{work, after_message}
use Rattle.nob_model_history.specs.declared.history.History.{History}
use Rattle.nob_model_history.specs.Histories.{history_of}
use Rattle.nob_model_history.specs.Ends.{calls_at, items_to, with_sends}
use Rattle.nob_model_history.specs.Holds.{times, lent_in, loans_of, target_lent, copies_lent, is_lent}
use Rattle.nob_model_history.specs.Transit.{dirties}
use Rattle.nob_model_history.proofs.Inbox.{sends_front}
use Rattle.nob_model_acting.specs.Acting.{messages, fault_of, first_fault, names_not_live}
use Rattle.nob_model.specs.Right.{own_ref}
use Rattle.nob_model.proofs.Premises.{no_fault}
use Rattle.nob_model_acting.specs.Sending.{is_gone}
use Rattle.nob_space_state.specs.Parts.{State}
use Rattle.nob_space_state.specs.Looks.{end_with, has_closed, is_closed_end}
use Rattle.nob_space_messages.specs.Waiting.{WaitingList, is_awaited, is_due_in, IsNew}
use Rattle.nob_space_state.specs.Stands.{Stands, AreAwaited}
use Rattle.nob_space_state.proofs.Rows.{distinct_filtered}
use Rattle.nob_space_state.proofs.Told.{own_is}
use Rattle.nob_space_items.specs.Asking.{AsksFor, place_after, CanAsk, CanSendAll, SendsAll}
use Rattle.nob_space_items.specs.Fronts.{IsFront}
use Rattle.nob_space_items.specs.Growing.{AreAmong, HasRoom, HaveRoom, Grows}
use Rattle.nob_space_items.specs.Lending.{CanLend}
use Rattle.nob_space_items.specs.Messages.{is_wanted, wanted_refs, owner_count, has_free, has_numbers_for, is_too_much, message_refusal, new_loan, new_copies, is_at_hand}
use Rattle.nob_space_items.specs.Placing.{IsMessage}
use Rattle.nob_space_items.specs.Receiving.{HasFront, CanReceive, Receives}
use Rattle.nob_space_items.proofs.Among.{any_of, filter_passes}
use Rattle.nob_space_items.specs.Settling.{is_lost_here}
use Rattle.nob_space_items.proofs.Spares.{CanBeAsked, all_append}
use Rattle.nob_space_items.proofs.Asks.{all_asked, wanted_unknown}
use Rattle.nob_space_items.proofs.Bounded.{filter_short, dirties_low, message_lends, lent_low}
use Rattle.nob_space_items.proofs.Lost.{message_new}
use Rattle.nob_space_items.proofs.Message.{message_of, act_due, act_lost, all_peers}
use Rattle.nob_space_items.proofs.ReadItems.{item_few}
use Rattle.nob_space_items.proofs.Sends.{sends_alike}

-- ---- lists

-- what holds of each that is among references holds of all
all_of : (P : WireRep → Type 0) (xs : List WireRep) → ((rep : WireRep) → list_any (is_same rep) xs ≡ true → P rep) → AllByRecursion P xs
all_of P [] each = tt
all_of P (x ∷ xs) each = (each x (ap (λ b. b || list_any (is_same x) xs) (same_refl x)), all_of P xs (λ rep there. each rep (ap (λ b. is_same rep x || b) there ∙ elim (is_same rep x) as (λ b. (b || true) ≡ true) [ true ↦ refl | false ↦ refl ])))

none_same : (x : WireRep) (xs : List WireRep) → AllByRecursion (λ y. not (is_same x y) ≡ true) xs → AllByRecursion (λ y. is_same x y ≡ false) xs
none_same x [] all = tt
none_same x (y ∷ xs) all = (not-true (is_same x y) all.0, none_same x xs all.1)

-- each once: none stands twice
once_apart : (xs : List WireRep) → IsDistinct is_same (once xs)
unfolding IsDistinct
once_apart [] = tt
once_apart (x ∷ xs) = (none_same x (filter (λ other. not (is_same x other)) (once xs)) (filter_passes (λ other. not (is_same x other)) (once xs)), distinct_filtered is_same (λ other. not (is_same x other)) (once xs) (once_apart xs))

-- where a space owns some of references there is one of which all holds that holds of all
owned_some : (P : WireRep → Type 0) (p : ℕ) (xs : List WireRep) → AllByRecursion P xs → 1 ≤ owner_count p xs → (rep : WireRep) × (rep.owner == p ≡ true) × P rep
owned_some P p [] all some = absurd (omega (arith, some))
owned_some P p (x ∷ xs) all some = elim (x.owner == p) as (λ b. x.owner == p ≡ b → 1 ≤ length (cond b (x ∷ filter (λ (one : WireRep). one.owner == p) xs) (filter (λ (one : WireRep). one.owner == p) xs)) → (rep : WireRep) × (rep.owner == p ≡ true) × P rep) [
  | true ↦ λ same _. (x, same, all.0)
  | false ↦ λ _ later. owned_some P p xs all.1 later
] refl some

times_any : (rep : WireRep) (xs : List WireRep) → 1 ≤ times rep xs → list_any (is_same rep) xs ≡ true
times_any rep [] some = absurd (omega (arith, some))
times_any rep (x ∷ xs) some = elim (is_same rep x) as (λ b. 1 ≤ length (cond b (x ∷ filter (is_same rep) xs) (filter (is_same rep) xs)) → (b || list_any (is_same rep) xs) ≡ true) [ true ↦ λ _. refl | false ↦ λ later. times_any rep xs later ] some

all_passes : (test : WireRep → Bool) (xs : List WireRep) → list_all test xs ≡ true → AllByRecursion (λ x. test x ≡ true) xs
all_passes test [] all = tt
all_passes test (x ∷ xs) all = let parts = and_parts (test x) (list_all test xs) all in (parts.0, all_passes test xs parts.1)

none_passes : (test : WireRep → Bool) (xs : List WireRep) → list_any test xs ≡ false → AllByRecursion (λ x. test x ≡ false) xs
none_passes test [] none = tt
none_passes test (x ∷ xs) none = let parts = or_parts (test x) (list_any test xs) none in (parts.0, none_passes test xs parts.1)

all_both : (P Q : WireRep → Type 0) (xs : List WireRep) → AllByRecursion P xs → AllByRecursion Q xs → AllByRecursion (λ x. P x × Q x) xs
all_both P Q [] ps qs = tt
all_both P Q (x ∷ xs) ps qs = ((ps.0, qs.0), all_both P Q xs ps.1 qs.1)

abbrev new_copy_of : (s n : ℕ) → State → WireRep → RefCopy
new_copy_of s n st rep = record { rep = rep; loan = new_loan s n st rep }

-- ---- what isn't kept

free_parts : (st : State) (reps : List WireRep) → message_refusal st reps ≡ None → (is_too_much st reps ≡ false) × (list_all (has_numbers_for st reps) reps ≡ true)
unfolding message_refusal
free_parts st reps free = elim (is_too_much st reps) as (λ b. (if b then Some refusals.Limit else if not (list_all (has_numbers_for st reps) reps) then Some refusals.SeqEnd else None) ≡ None → (b ≡ false) × (list_all (has_numbers_for st reps) reps ≡ true)) [
  | true ↦ λ e. absurd (cc)
  | false ↦ λ e. (refl, elim (list_all (has_numbers_for st reps) reps) as (λ b. (if not b then Some refusals.SeqEnd else None) ≡ None → b ≡ true) [ true ↦ λ _. refl | false ↦ λ bad. absurd (cc) ] e)
] free

front_waits : (n k : ℕ) (bytes : List ℕ) (payloads : List (List ℕ)) → first_of n payloads ≡ Some (k, bytes) → 0 < length payloads
front_waits n k bytes [] e = absurd (cc)
front_waits n k bytes (payload ∷ payloads) e = omega arith

known_live : (state : TableState) → standings.is_live state ≡ true → is_known state ≡ true
known_live states.Live live = refl
known_live states.Unknown live = absurd (cc)
known_live states.Withdrawn live = absurd (cc)
known_live states.Pending live = refl
known_live states.Granted live = refl
known_live states.Refused live = refl
known_live states.Lost live = refl

known_granted : (state : TableState) → standings.is_granted state ≡ true → is_known state ≡ true
known_granted states.Granted granted = refl
known_granted states.Unknown granted = absurd (cc)
known_granted states.Withdrawn granted = absurd (cc)
known_granted states.Pending granted = refl
known_granted states.Live granted = refl
known_granted states.Refused granted = refl
known_granted states.Lost granted = refl

lent_is : (loan : Loan) → is_lent loan ≡ true → loan ≡ loans.Lent
lent_is loans.Lent lent = refl
lent_is loans.Due lent = absurd (cc)
lent_is loans.Never lent = absurd (cc)

no_first : (one other : Option Reason) → first_fault one other ≡ None → (one ≡ None) × (other ≡ None)
no_first None other e = (refl, e)
no_first (Some reason) other e = absurd (cc)

-- the target of a Call without a fault is live
target_all : (Q : WireRep → Type 0) (s n p : ℕ) (item : Item) (h : History) → fault_of s n p item h ≡ None → ((index : ℕ) → index == 0 ≡ false → objects.is_live s index h.deeds ≡ true → Q (own_ref s index)) → AllByRecursion Q (target_lent s item)
unfolding fault_of
target_all Q s n p (items.Call call target method value) h sound each =
    let test : (not (target == 0) && not (objects.is_live s target h.deeds)) ≡ false = no_fault _ BadReference (no_first _ _ sound).0 in
    elim (target == 0) as (λ b. target == 0 ≡ b → (not b && not (objects.is_live s target h.deeds)) ≡ false → AllByRecursion Q (if b then [] else own_ref s target ∷ [])) [
      | true ↦ λ _ _. tt
      | false ↦ λ some live. (each target some (not-false (objects.is_live s target h.deeds) live), tt)
    ] refl test
target_all Q s n p (_) h sound each = tt

-- its own references are
refs_sound : (s n p : ℕ) (item : Item) (h : History) → fault_of s n p item h ≡ None → IsMessage item → names_not_live s item h ≡ false
unfolding fault_of
refs_sound s n p (items.Call call target method value) h sound message = no_fault _ BadReference (no_first _ _ sound).1
refs_sound s n p (items.Reply call status value) h sound message = no_fault _ BadReference (no_first _ _ sound).1
refs_sound s n p (items.Settle item) h sound message = absurd (cc)
refs_sound s n p (items.Dirty index) h sound message = absurd (cc)
refs_sound s n p (items.DirtyOk index) h sound message = absurd (cc)
refs_sound s n p (items.DirtyNo index) h sound message = absurd (cc)
refs_sound s n p (items.Clean index) h sound message = absurd (cc)

-- what the copies of a message lend
copies_all : (Q R : WireRep → Type 0) (s n : ℕ) (st : State) → ((rep : WireRep) → R rep → new_loan s n st rep ≡ loans.Lent → Q rep) → (xs : List WireRep) → AllByRecursion R xs → AllByRecursion Q (copies_lent (new_copies s n st xs))
copies_all Q R s n st each [] all = tt
copies_all Q R s n st each (x ∷ xs) all =
    let rest : List RefCopy = filter (λ (copy : RefCopy). is_lent copy.loan) (new_copies s n st xs) in
    let one : RefCopy = record { rep = x; loan = new_loan s n st x } in
    elim (is_lent (new_loan s n st x)) as (λ b. is_lent (new_loan s n st x) ≡ b → AllByRecursion Q (map (λ (copy : RefCopy). copy.rep) (cond b (one ∷ rest) rest))) [
      | true ↦ λ lent. (each x all.0 (lent_is (new_loan s n st x) lent), copies_all Q R s n st each xs all.1)
      | false ↦ λ _. copies_all Q R s n st each xs all.1
    ] refl

-- a loan is made at once only of what is own or granted
at_hand : (s n : ℕ) (st : State) (rep : WireRep) → new_loan s n st rep ≡ loans.Lent → is_at_hand s st rep ≡ true
at_hand s n st rep lent = elim (is_lost_here s n st rep) as (λ b. (if b then loans.Never else if is_at_hand s st rep then loans.Lent else loans.Due) ≡ loans.Lent → is_at_hand s st rep ≡ true) [
  | true ↦ λ e. absurd (cc)
  | false ↦ λ e. elim (is_at_hand s st rep) as (λ b. (if b then loans.Lent else loans.Due) ≡ loans.Lent → b ≡ true) [ true ↦ λ _. refl | false ↦ λ bad. absurd (cc) ] e
] lent

module _ {s n : ℕ} {limits : Limits} {st : State} {D : List Deed} (stands : Stands s n limits st D) (p k : ℕ) (item : Item) (front : IsFront s n p k item D) (message : IsMessage item) where
  -- the owners of those that get Dirties are among the spaces
  pub owners_among : (count : ℕ) → count ≡ n → AreAmong count (wanted_refs s n st (counted_in item))
  owners_among count is = weaker (wanted_refs s n st (counted_in item)) (all_peers stands p k item front message)
    where
      weaker : (all : List WireRep) → AllByRecursion (λ (rep : WireRep). is_peer s n rep.owner ≡ true) all → AreAmong count all
      weaker [] peers = tt
      weaker (rep ∷ rest) peers = ((let peer = peers.0 in (grind (arith, nat_tests, peer), grind (arith, nat_tests, peer, is))), weaker rest peers.1)

module _ {s n : ℕ} {limits : Limits} {st : State} {D : List Deed} (stands : Stands s n limits st D) (p k : ℕ) (item : Item) (front : IsFront s n p k item D) (message : IsMessage item)
    (free : message_refusal st (wanted_refs s n st (counted_in item)) ≡ None) (small : n < 65536) (st1 : State) (grows : Grows st st1) where
  -- the table is as it was
  pub grown_standing : (rep : WireRep) → standing st1.table rep ≡ standing st.table rep
  grown_standing rep = (let same = grows.table.items in λ i. table.stands (same.me i) (same.exported i) (same.objects i) (same.counted i) (same.surrogates i) rep)

  -- the ends can send the Dirties
  pub ends_ready : HaveRoom (length (wanted_refs s n st (counted_in item))) st1.sessions (wanted_refs s n st (counted_in item)) → CanSendAll st1.sessions (wanted_refs s n st (counted_in item))
  ends_ready room =
      let all : List WireRep = wanted_refs s n st (counted_in item) in
      let parts = free_parts st all free in
      let wants : AllByRecursion (λ rep. is_wanted s n st rep ≡ true) all = filter_passes (is_wanted s n st) (once (counted_in item)) in
      let numbers : AllByRecursion (λ rep. has_numbers_for st all rep ≡ true) all = all_passes (has_numbers_for st all) all parts.1 in
      let facts = all_both (λ rep. is_wanted s n st rep ≡ true) (λ rep. (has_numbers_for st all rep ≡ true) × HasRoom (length all) st1.sessions rep) all wants (all_both (λ rep. has_numbers_for st all rep ≡ true) (HasRoom (length all) st1.sessions) all numbers room) in
      record {
        owners = owners_among stands p k item front message (length st1.sessions) (grows.sessions.each ∙ stands.ends.each);
        each = λ place end there some.
            let before = grows.sessions.ends place end there in
            let found = owned_some (λ rep. (is_wanted s n st rep ≡ true) × ((has_numbers_for st all rep ≡ true) × HasRoom (length all) st1.sessions rep)) (place + 1) all facts some in
            let rep : WireRep = found.0 in
            let owner : rep.owner ≡ place + 1 = (Decides-eqb rep.owner (place + 1)).0 found.1 in
            let back : place + 1 - 1 ≡ place = omega arith in
            let some_place : place + 1 == 0 ≡ false = grind (arith, nat_tests) in
            let end_there : end_with st.sessions (place + 1) ≡ Some before.0 = rw some_place (ap (slice_get st.sessions) back ∙ before.1) in
            let still : has_closed st.sessions rep.owner ≡ false = not-true (has_closed st.sessions rep.owner) (and_parts _ _ (and_parts _ _ found.2.0).0).1 in
            let open_end : is_open_end before.0.end ≡ true = not-false (is_open_end before.0.end) (sym (ap (has_closed st.sessions) owner ∙ ap is_closed_end end_there) ∙ still) in
            let numbered : nat_le (owner_count (place + 1) all) (1099511627776 - before.0.end.handed) ≡ true = sym (ap (λ q. has_free (owner_count q all) (end_with st.sessions q)) owner ∙ ap (has_free (owner_count (place + 1) all)) end_there) ∙ found.2.1.0 in
            let low : owner_count (place + 1) all ≤ 1099511627776 - before.0.end.handed = grind (arith, nat_tests, numbered) in
            let same : end.end.handed ≡ before.0.end.handed = ap (λ (e : End). e.handed) before.2 in
            let places : length all ≤ end.room = found.2.1.1 end (ap (λ q. slice_get st1.sessions (q - 1)) owner ∙ ap (slice_get st1.sessions) back ∙ there) in
            let fewer : owner_count (place + 1) all ≤ length all = filter_short (λ (one : WireRep). one.owner == place + 1) all in
            (ap is_open_end before.2 ∙ open_end, omega (arith, low, same, some), omega (arith, places, fewer));
      }

  -- the table can tell of them
  pub table_ready : length (wanted_refs s n st (counted_in item)) ≤ st1.table.surrogate_room → CanAsk st1.table (wanted_refs s n st (counted_in item))
  table_ready places =
      let all : List WireRep = wanted_refs s n st (counted_in item) in
      let parts = free_parts st all free in
      let few : nat_lt 65536 (surrogate_total st.table + length all) ≡ false = (or_parts _ _ parts.0).1 in
      let total : surrogate_total st1.table ≡ surrogate_total st.table = ap length grows.table.items.surrogates in
      let sent : stands.table.passed + st1.table.dirties ≡ length (dirties (history_of s n D)) = ap (λ m. stands.table.passed + m) grows.table.items.dirties ∙ stands.table.dirties in
      let low : length (dirties (history_of s n D)) ≤ n * 4722366482869645213696 = dirties_low stands in
      let fits : surrogate_total st.table + length all ≤ 65536 = grind (arith, nat_tests, few) in
      let me : st1.table.me ≡ s = grows.table.items.me ∙ stands.table.me in
      record {
        each = all_of (λ rep. (is_far st1.table rep ≡ true) × (is_unknown (standing st1.table rep).state ≡ true)) all (λ rep there.
            let asked : CanBeAsked s n rep = any_of (CanBeAsked s n) rep all (all_asked stands p k item front message) there in
            let counted = asked.0 in
            let peer = asked.1 in (
              ap (λ m. not (rep.owner == m) && not (rep.index == 0)) me ∙ grind (arith, nat_tests, counted, peer),
              ap (λ (it : Standing). is_unknown it.state) (grown_standing rep) ∙ ap is_unknown (wanted_unknown stands p k item front message rep there),
            ));
        apart = distinct_filtered is_same (is_wanted s n st) (once (counted_in item)) (once_apart (counted_in item));
        few = omega (arith, fits, total);
        room = places;
        low = omega (arith, sent, low, small, fits);
      }

  -- the message's loans can be made
  pub loans_ready : (mid : Table) → AsksFor st1.table mid (wanted_refs s n st (counted_in item)) → CanLend mid (loans_of s (message_of s n st p k item))
  loans_ready mid asks =
      let all : List WireRep = wanted_refs s n st (counted_in item) in
      let m : Message = message_of s n st p k item in
      let h : History = history_of s n D in
      let mid_known : (rep : WireRep) → is_known (standing st.table rep).state ≡ true → is_known (standing mid rep).state ≡ true = λ rep known.
      ap (λ (it : Standing). is_known it.state) (asks.standings rep) ∙ elim (list_any (is_same rep) all) as (λ b. is_known (if b then pending_standing else standing st1.table rep).state ≡ true) [ true ↦ refl | false ↦ ap (λ (it : Standing). is_known it.state) (grown_standing rep) ∙ known ] in
      let live_known : (index : ℕ) → objects.is_live s index D ≡ true → is_known (standing st.table (own_ref s index)).state ≡ true = λ index live. known_live (standing st.table (own_ref s index)).state (stands.table.live index ∙ live) in
      let sound = none_passes (λ rep. is_gone s rep h) (counted_in item) (refs_sound s n p item h front.sound message) in
      let counted : AllByRecursion (λ rep. is_counted rep ≡ true) (counted_in item) = filter_passes is_counted (refs_carried item) in
      let all_counted : AllByRecursion (λ rep. is_counted rep ≡ true) (loans_of s m) = all_append (λ rep. is_counted rep ≡ true) (target_lent s item) (copies_lent (new_copies s n st (counted_in item)))
      (target_all (λ rep. is_counted rep ≡ true) s n p item h front.sound (λ index some live. ap not some))
      (copies_all (λ rep. is_counted rep ≡ true) (λ rep. is_counted rep ≡ true) s n st (λ rep one lent. one) (counted_in item) counted) in
      let few : length (counted_in item) ≤ 32 = item_few front.bytes item front.spelt in
      let copies_few : length (new_copies s n st (counted_in item)) ≤ 32 = (let same = length-map (counted_in item) (λ (rep : WireRep). new_copy_of s n st rep) in omega (arith, same, few)) in
      let kept = (free_parts st all free).0 in
      let messages_few : nat_le 65536 (messages st.work) ≡ false = (or_parts _ _ kept).0 in
      let outstanding : messages st.work ≡ messages (work s n D) = ap messages stands.work in
      record {
        known = all_append (λ rep. is_known (standing mid rep).state ≡ true) (target_lent s item) (copies_lent (new_copies s n st (counted_in item)))
            (target_all (λ rep. is_known (standing mid rep).state ≡ true) s n p item h front.sound (λ index some live. mid_known (own_ref s index) (live_known index live)))
            (copies_all (λ rep. is_known (standing mid rep).state ≡ true) (λ rep. is_gone s rep h ≡ false) s n st (λ rep is_sound lent. mid_known rep
            (elim (rep.owner == s) as (λ b. rep.owner == s ≡ b → (b || standings.is_granted (standing st.table rep).state) ≡ true → (b && not (objects.is_live s rep.index D)) ≡ false → is_known (standing st.table rep).state ≡ true) [
              | true ↦ λ own _ live. subst (λ (w : WireRep). is_known (standing st.table w).state ≡ true) (sym (own_is rep s own)) (live_known rep.index (not-false (objects.is_live s rep.index D) live))
              | false ↦ λ _ granted _. known_granted (standing st.table rep).state granted
            ] refl (at_hand s n st rep lent) is_sound)) (counted_in item) sound);
        room = λ rep some.
            let is_one : is_counted rep ≡ true = any_of (λ w. is_counted w ≡ true) rep (loans_of s m) all_counted (times_any rep (loans_of s m) some) in
            let before : (standing mid rep).counts.lent ≤ times rep (lent_in s (work s n D)) = elim (list_any (is_same rep) all) as (λ b. list_any (is_same rep) all ≡ b → (standing mid rep).counts.lent ≤ times rep (lent_in s (work s n D))) [
              | true ↦ λ there. (let free_now : (standing mid rep).counts.lent ≡ 0 = ap (λ (it : Standing). it.counts.lent) (asks.standings rep ∙ ap (λ b. if b then pending_standing else standing st1.table rep) there) in omega (arith, free_now))
              | false ↦ λ none. (let lent_now : (standing mid rep).counts.lent ≡ times rep (lent_in s (work s n D)) = ap (λ (it : Standing). it.counts.lent) (asks.standings rep ∙ ap (λ b. if b then pending_standing else standing st1.table rep) none ∙ grown_standing rep) ∙ stands.table.loans rep is_one in omega (arith, lent_now))
            ] refl in
            let low = lent_low s n rep D in
            let here = message_lends s rep m copies_few in
            let many : messages (work s n D) < 65536 = (let under : messages st.work < 65536 = grind (arith, nat_tests, messages_few) in omega (arith, under, outstanding)) in
            let sum : (standing mid rep).counts.lent + times rep (loans_of s m) ≤ 18446744073709551615 = omega (arith, before, low, here, many) in
            sum;
      }

  -- its item waits in front
  pub front_ready : (mid : List Roomy) → SendsAll st1.sessions mid (wanted_refs s n st (counted_in item)) → HasFront mid p
  front_ready mid sends = λ end there.
      let G : List Gift = map dirty_for (wanted_refs s n st (counted_in item)) in
      let peer = front.peer in
      let low : 1 ≤ p = grind (arith, nat_tests, peer) in
      let later = sends.ends (p - 1) end there in
      let before = grows.sessions.ends (p - 1) later.0 later.1 in
      let at : p - 1 + 1 ≡ p = omega (arith, low) in
      let calls : List EndEntry = with_sends (items_to (p - 1 + 1) G) (calls_at (p - 1 + 1) (history_of s n D)) in
      let was : StandsOnward s (p - 1 + 1) limits later.0.end (calls_at (p - 1 + 1) (history_of s n D)) = subst (λ (e : End). StandsOnward s (p - 1 + 1) limits e (calls_at (p - 1 + 1) (history_of s n D))) (sym before.2) (stands.ends.ends (p - 1) before.0 before.1) in
      let its : StandsOnward s (p - 1 + 1) limits end.end calls = made_onward (with_sends (items_to (p - 1 + 1) G)) (sends_alike (items_to (p - 1 + 1) G)) was (λ M stood. later.2 s (p - 1 + 1) limits M stood) in
      let first : right_front calls ≡ Some (k, front.bytes) = sends_front (items_to (p - 1 + 1) G) (calls_at (p - 1 + 1) (history_of s n D)) ∙ ap (λ q. right_front (calls_at q (history_of s n D))) at ∙ front.front in
      subst (λ (payloads : List (List ℕ)). 0 < length payloads) (sym (ap (λ (e : End). e.waiting) (onward_is its))) (front_waits (takes calls + 1) k front.bytes (waiting calls) first)

  -- no reference that messages wait for in vain is due to it
  pub new_ready : (w : WaitingList) → w.items ≡ st1.work.waiting → w.awaited ≡ st1.awaited → IsNew w (message_of s n st p k item)
  new_ready w items awaited = message_new s n D (Act p k ∷ D) (message_of s n st p k item) (act_lost stands p k item front message) (act_due stands p k item front message) w
      (subst (λ ms. AreAwaited s n w.awaited ms D) (sym (items ∙ ap (λ (W : Outstanding). W.waiting) grows.work)) (subst (λ counts. AreAwaited s n counts st.work.waiting D) (sym (awaited ∙ grows.awaited)) stands.awaited))

  -- all together
  pub can_receive : HaveRoom (length (wanted_refs s n st (counted_in item))) st1.sessions (wanted_refs s n st (counted_in item)) → length (wanted_refs s n st (counted_in item)) ≤ st1.table.surrogate_room → CanReceive s st1 (message_of s n st p k item) (wanted_refs s n st (counted_in item))
  can_receive room places = record {
    is_message = message;
    sessions = ends_ready room;
    table = table_ready places;
    loans = loans_ready;
    peer = (let peer = front.peer in let each : length st1.sessions ≡ n = grows.sessions.each ∙ stands.ends.each in (grind (arith, nat_tests, peer), grind (arith, nat_tests, peer, each)));
    front = front_ready;
  }

  -- what was received in the grown state was received in the one before
  pub grown_receives : (new : State) → Receives s st1 new (message_of s n st p k item) (wanted_refs s n st (counted_in item)) → Receives s st new (message_of s n st p k item) (wanted_refs s n st (counted_in item))
  grown_receives new receives = record {
    sent = receives.sent;
    sends = record {
      each = receives.sends.each ∙ grows.sessions.each;
      ends = λ place end there.
          let later = receives.sends.ends place end there in
          let before = grows.sessions.ends place later.0 later.1 in
          (before.0, before.1, λ me peer limits L its. later.2 me peer limits L (before.2 ∙ its));
    };
    takes = receives.takes;
    asked = receives.asked;
    asks = record {
      standings = λ other. receives.asks.standings other ∙ ap (λ it. if list_any (is_same other) (wanted_refs s n st (counted_in item)) then pending_standing else it) (grown_standing other);
      places = λ other. receives.asks.places other ∙ (λ i. place_after (grows.table.items.dirties i) (wanted_refs s n st (counted_in item)) other (place_in (grows.table.items.surrogates i) other));
      dirties = receives.asks.dirties ∙ ap (λ m. m + length (wanted_refs s n st (counted_in item))) grows.table.items.dirties;
      objects = record {
        me = receives.asks.objects.me ∙ grows.table.items.me;
        exported = receives.asks.objects.exported ∙ grows.table.items.exported;
        live = receives.asks.objects.live ∙ ap length grows.table.items.objects;
        kept = λ index. receives.asks.objects.kept index ∙ grows.table.kept index;
        room = (let one = receives.asks.objects.room in let other = grows.table.export_room in omega (arith, one, other));
      };
    };
    lends = receives.lends;
    work = receives.work ∙ ap (after_message (message_of s n st p k item) item) grows.work;
    dirty = receives.dirty ∙ grows.dirty;
    pins = receives.pins ∙ grows.pins;
    awaited = λ rep. receives.awaited rep ∙ ap (λ counts. is_awaited counts rep || is_due_in (message_of s n st p k item ∷ []) rep) grows.awaited;
    calls = receives.calls ∙ grows.calls;
    jobs = receives.jobs ∙ grows.jobs;
  }
