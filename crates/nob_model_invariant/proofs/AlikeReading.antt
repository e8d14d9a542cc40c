-- What a space did reads the same where more spaces are counted, if it speaks of the first n alone: the turns that it took,
-- what is lost, and the outstanding work.
use Rattle.std.proofs.Common.{◌≡◌, ◌≤◌, ℕ, ◌&&◌, ◌||◌, not, Bool, true, false, List, [], ◌∷◌, map, find, Option, Some, None, if◌then◌else◌, refl, sym, ap, subst, ◌∙◌, arith}
use Rattle.std.specs.Prelude.{◌==◌, nat_le}
use Rattle.std.specs.List.{AllByRecursion, list_any}
use Rattle.std.proofs.lemmas.Bool.{le-leb}
use Rattle.nob_ids.specs.Names.{IsSpaceOf, is_same}
use Rattle.nob_ids.specs.declared.wire_rep.WireRep.{WireRep}
use Rattle.nob_item.specs.Kinds.{counted_in}
use Rattle.nob_item.specs.declared.item.Item.{Item}
use Rattle.nob_item.specs.declared.item.Item.TheVariants as items
use Rattle.nob_pickle.specs.declared.value.Value.{Value}
use Rattle.nob_model_types.specs.declared.deed.Deed.{Deed}
use Rattle.nob_model_types.specs.declared.deed.Deed.TheVariants as did
use Rattle.nob_model_types.specs.declared.message.Loan.TheVariants as loans
use Rattle.nob_model_types.specs.declared.message.Message.{Message}
use Rattle.nob_model_types.specs.declared.message.RefCopy.{RefCopy}
use Rattle.nob_model_types.specs.declared.turns.Turns.{Turns}
use Rattle.nob_model_types.specs.Sessions.{is_peer, closed, number, item_at}
use Rattle.nob_model_types.specs.Turns.{no_turns, is_granted, is_refused, is_standing, wants_dirty, with_dirty, with_clean, turns_after, turns, is_own, is_lost}
use Rattle.nob_model_types.specs.Messages.{new_copy, new_message, loan_after, copy_after, message_after, is_of, is_lost_message}
use Rattle.nob_model_work.specs.declared.work.Outstanding.{Outstanding}
use Rattle.nob_model_work.specs.declared.work.Run.{Run}
use Rattle.nob_model_work.specs.Work.{after_message, after_act, lost_reply, without_waiting, after_settlement, after_settle, work_after, run_after, with_loans, work}
use Rattle.nob_model_history.proofs.Turning.{same_ref}
use Rattle.nob_model.proofs.Carrying.{AllOutstanding, all_found}
use Rattle.nob_model_holdings.proofs.Lists.{all_map}
use Rattle.nob_model_holdings.proofs.Hands.{New, outstanding_more}
use Rattle.nob_model_invariant.specs.FirstSpaces.{IsOfFirst, SpeaksOfFirst, AmongFirst}
use Rattle.nob_model_invariant.proofs.AlikeLists.{map_same, map_alike, any_alike}

-- a message came from one of the first n spaces, with references of theirs
abbrev pub IsMessageOfFirst : ℕ → Message → Type 0
IsMessageOfFirst n message = IsSpaceOf n message.from × AllByRecursion (λ (copy : RefCopy). IsOfFirst n copy.rep) message.copies

-- what is one of some references is of the first n spaces if they are
carried_first : (n : ℕ) (rep : WireRep) (reps : List WireRep) → AllByRecursion (IsOfFirst n) reps → list_any (is_same rep) reps ≡ true → IsOfFirst n rep
carried_first n rep [] all is = cc
carried_first n rep (other ∷ reps) all is = by (carried_first n rep reps all.1) (is_same rep other) refl is
  where
    by : (list_any (is_same rep) reps ≡ true → IsOfFirst n rep) → (b : Bool) → is_same rep other ≡ b → (b || list_any (is_same rep) reps) ≡ true → IsOfFirst n rep
    by rest true same either = subst (IsOfFirst n) (sym (same_ref rep other same)) all.0
    by rest false apart either = rest either

-- the outstanding work with these lists, and the calls of another
abbrev with_lists : Outstanding → (waiting ready replies : List Message) → List Run → Outstanding
with_lists W waiting ready replies running = record { waiting = waiting; ready = ready; running = running; replies = replies; calls = W.calls }

lists_same : (W : Outstanding) (w v r q p o : List Message) (a b : List Run) → w ≡ v → r ≡ q → p ≡ o → a ≡ b → with_lists W w r p a ≡ with_lists W v q o b
lists_same W w v r q p o a b waiting ready replies running = cc

module _ (s n m : ℕ) (wider : n ≤ m) where
  -- ---- peers and turns

  -- one of the first n spaces is a peer or none whoever counts
  pub peer_alike : (p : ℕ) → IsSpaceOf n p → is_peer s n p ≡ is_peer s m p
  peer_alike p first = let low = first.1 in ap (λ b. not (p == s) && nat_le 1 p && b) (le-leb p n low ∙ sym (le-leb p m (omega (arith, low, wider))))

  pub wants_alike : (rep : WireRep) (D : List Deed) (before : Turns) → IsOfFirst n rep → wants_dirty s n rep D before ≡ wants_dirty s m rep D before
  wants_alike rep D before first = ap (λ b. b && not (closed rep.owner D) && not (is_standing before)) (peer_alike rep.owner first)

  dirty_alike : (rep : WireRep) (reps : List WireRep) (D : List Deed) (before : Turns) → AllByRecursion (IsOfFirst n) reps → (if list_any (is_same rep) reps && wants_dirty s n rep D before then with_dirty before else before) ≡ (if list_any (is_same rep) reps && wants_dirty s m rep D before then with_dirty before else before)
  dirty_alike rep reps D before all = by (list_any (is_same rep) reps) refl
    where
      by : (b : Bool) → list_any (is_same rep) reps ≡ b → (if b && wants_dirty s n rep D before then with_dirty before else before) ≡ (if b && wants_dirty s m rep D before then with_dirty before else before)
      by true there = ap (λ b. if b then with_dirty before else before) (wants_alike rep D before (carried_first n rep reps all there))
      by false none = refl

  item_alike : (p : ℕ) (rep : WireRep) (found : Option Item) (D : List Deed) (before : Turns) → ((item : Item) → found ≡ Some item → AllByRecursion (IsOfFirst n) (counted_in item)) → turns_after s n p rep found D before ≡ turns_after s m p rep found D before
  item_alike p rep None D before first = refl
  item_alike p rep (Some (items.Call call target method value)) D before first = dirty_alike rep (counted_in (items.Call call target method value)) D before (first (items.Call call target method value) refl)
  item_alike p rep (Some (items.Reply call status value)) D before first = dirty_alike rep (counted_in (items.Reply call status value)) D before (first (items.Reply call status value) refl)
  item_alike p rep (Some (items.Settle item)) D before first = refl
  item_alike p rep (Some (items.Dirty index)) D before first = refl
  item_alike p rep (Some (items.DirtyOk index)) D before first = refl
  item_alike p rep (Some (items.DirtyNo index)) D before first = refl
  item_alike p rep (Some (items.Clean index)) D before first = refl

  -- the turns for every reference, of whomever
  pub turns_alike : (rep : WireRep) (D : List Deed) → AmongFirst n D → turns s n rep D ≡ turns s m rep D
  turns_alike rep [] first = refl
  turns_alike rep (did.Act p k ∷ D) first =
      item_alike p rep (item_at p k D) D (turns s n rep D) first.0.1 ∙ ap (turns_after s m p rep (item_at p k D) D) (turns_alike rep D first.1)
  turns_alike rep (did.Clean other ∷ D) first = ap (λ t. if is_same rep other then with_clean t else t) (turns_alike rep D first.1)
  turns_alike rep (did.Open q k ∷ D) first = ap (λ t. if q == rep.owner then no_turns else t) (turns_alike rep D first.1)
  turns_alike rep (deed ∷ D) first = turns_alike rep D first.1

  lost_alike : (rep : WireRep) (D : List Deed) → AmongFirst n D → IsOfFirst n rep → is_lost s n rep D ≡ is_lost s m rep D
  lost_alike rep D first its =
      ap (λ b. not (is_own s rep) && (not b || closed rep.owner D || is_refused (turns s n rep D))) (peer_alike rep.owner its)
      ∙ ap (λ t. not (is_own s rep) && (not (is_peer s m rep.owner) || closed rep.owner D || is_refused t)) (turns_alike rep D first)

  -- ---- messages

  copy_alike : (D : List Deed) → AmongFirst n D → (copy : RefCopy) → copy_after s n D copy ≡ copy_after s m D copy
  unfolding copy_after
  copy_alike D first copy =
      let make : Turns → RefCopy = λ t. record { rep = copy.rep; loan = loan_after (is_own s copy.rep || (is_granted t && not (closed copy.rep.owner D))) copy.loan } in
      ap make (turns_alike copy.rep D first)

  message_alike : (D : List Deed) → AmongFirst n D → (message : Message) → message_after s n D message ≡ message_after s m D message
  unfolding message_after
  message_alike D first message =
      let make : List RefCopy → Message = λ copies. record { from = message.from; session = message.session; number = message.number; item = message.item; copies = copies } in
      ap make (map_same (λ copy. copy_after s n D copy) (λ copy. copy_after s m D copy) (copy_alike D first) message.copies)

  run_alike : (D : List Deed) → AmongFirst n D → (run : Run) → run_after s n D run ≡ run_after s m D run
  unfolding run_after
  run_alike D first run =
      let make : Message → Run = λ message. record { job = run.job; message = message } in
      ap make (message_alike D first run.message)

  loans_alike : (D : List Deed) → AmongFirst n D → (W : Outstanding) → with_loans s n D W ≡ with_loans s m D W
  unfolding with_loans
  loans_alike D first W =
      let each : (messages : List Message) → map (λ message. message_after s n D message) messages ≡ map (λ message. message_after s m D message) messages = map_same (λ message. message_after s n D message) (λ message. message_after s m D message) (message_alike D first) in
      lists_same W _ _ _ _ _ _ _ _ (each W.waiting) (each W.ready) (each W.replies) (map_same (λ run. run_after s n D run) (λ run. run_after s m D run) (run_alike D first) W.running)

  fresh_alike : (D : List Deed) → AmongFirst n D → (rep : WireRep) → IsOfFirst n rep → new_copy s n D rep ≡ new_copy s m D rep
  unfolding new_copy
  fresh_alike D first rep its =
      let make : Bool → RefCopy = λ b. record { rep = rep; loan = if b then loans.Never else loans.Due } in
      ap make (lost_alike rep D first its)

  new_alike : (p k : ℕ) (item : Item) (D : List Deed) → AmongFirst n D → AllByRecursion (IsOfFirst n) (counted_in item) → new_message s n p k item D ≡ new_message s m p k item D
  new_alike p k item D first its =
      let make : List RefCopy → Message = λ copies. record { from = p; session = number p D; number = k; item = item; copies = copies } in
      ap make (map_alike (IsOfFirst n) (λ rep. new_copy s n D rep) (λ rep. new_copy s m D rep) (fresh_alike D first) (counted_in item) its)

  pub lost_message_alike : (D : List Deed) → AmongFirst n D → (message : Message) → IsMessageOfFirst n message → is_lost_message s n D message ≡ is_lost_message s m D message
  lost_message_alike D first message its = any_alike (λ (copy : RefCopy). IsOfFirst n copy.rep) _ _ (λ copy. lost_alike copy.rep D first) message.copies its.1

  -- ---- work

  act_alike : (p k : ℕ) (D : List Deed) (found : Option Item) (W : Outstanding) → AmongFirst n (did.Act p k ∷ D) → ((item : Item) → found ≡ Some item → AllByRecursion (IsOfFirst n) (counted_in item)) → after_act s n p k D found W ≡ after_act s m p k D found W
  unfolding after_act
  act_alike p k D None W first its = refl
  act_alike p k D (Some item) W first its = ap (λ message. after_message message item W) (new_alike p k item (did.Act p k ∷ D) first (its item refl))

  settle_alike : (p k : ℕ) (D : List Deed) (found : Option Message) (W : Outstanding) → AmongFirst n D → ((message : Message) → found ≡ Some message → IsMessageOfFirst n message) → after_settle s n p k D found W ≡ after_settle s m p k D found W
  unfolding after_settle
  settle_alike p k D None W first its = refl
  settle_alike p k D (Some message) W first its = ap (λ lost. after_settlement message message.item lost (without_waiting p k W)) (lost_message_alike D first message (its message refl))

  deed_alike : (deed : Deed) (D : List Deed) (W : Outstanding) → AmongFirst n (deed ∷ D) → AllOutstanding (IsMessageOfFirst n) W → work_after s n deed D W ≡ work_after s m deed D W
  unfolding work_after
  deed_alike (did.Act p k) D W first hand = act_alike p k D (item_at p k D) W first first.0.1
  deed_alike (did.Settle p k) D W first hand = settle_alike p k D (find (is_of p k) W.waiting) W first.1 (λ message found. all_found (IsMessageOfFirst n) (is_of p k) W.waiting message found hand.waiting)
  deed_alike deed D W first hand = refl

  kept_first : (D : List Deed) (message : Message) → IsMessageOfFirst n message → IsMessageOfFirst n (message_after s n D message)
  unfolding message_after copy_after
  kept_first D message its = (its.0, all_map (λ (copy : RefCopy). IsOfFirst n copy.rep) (λ (copy : RefCopy). IsOfFirst n copy.rep) _ (λ copy own. own) message.copies its.1)

  lost_first : (message : Message) (call status : ℕ) (value : Value) → message.item ≡ items.Reply call status value → IsMessageOfFirst n message → IsMessageOfFirst n (lost_reply message call)
  lost_first message call status value is its = (its.0, tt)

  new_first : (deed : Deed) (D : List Deed) → SpeaksOfFirst n deed D → New s n (IsMessageOfFirst n) lost_first deed D
  unfolding new_copy
  new_first (did.Act p k) D first = λ item is. (first.0, all_map (IsOfFirst n) (λ (copy : RefCopy). IsOfFirst n copy.rep) _ (λ rep own. own) (counted_in item) (first.1 item is))
  new_first deed D first = tt

  -- all that is outstanding came from the first n spaces
  pub hand_first : (D : List Deed) → AmongFirst n D → AllOutstanding (IsMessageOfFirst n) (work s n D)
  hand_first [] first = record { waiting = tt; ready = tt; running = tt; replies = tt }
  hand_first (deed ∷ D) first = outstanding_more s n (IsMessageOfFirst n) lost_first deed D (kept_first (deed ∷ D)) (new_first deed D first.0) (hand_first D first.1)

  -- the outstanding work
  pub work_alike : (D : List Deed) → AmongFirst n D → work s n D ≡ work s m D
  work_alike [] first = refl
  work_alike (deed ∷ D) first =
      loans_alike (deed ∷ D) first (work_after s n deed D (work s n D))
      ∙ ap (with_loans s m (deed ∷ D)) (deed_alike deed D (work s n D) first (hand_first D first.1) ∙ ap (work_after s m deed D) (work_alike D first.1))
