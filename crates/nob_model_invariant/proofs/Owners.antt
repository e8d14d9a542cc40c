-- Client and owner took turns, as seen by the owner: by what it acted on from the client and what it answered.
use Rattle.std.proofs.Common.{◌≡◌, ℕ, ◌+◌, ◌&&◌, ◌||◌, not, Bool, true, false, cond, List, [], ◌∷◌, ◌++◌, map, filter, filter_map, find, Option, Some, None, refl, sym, ap, subst, ◌∙◌, arith}
use Rattle.std.specs.Prelude.{◌==◌}
use Rattle.std.specs.List.{AllByRecursion, list_any, cons_option}
use Rattle.std.proofs.lemmas.List.{append-nil, length_push}
use Rattle.std.proofs.lemmas.List.Elements.{filter_map-append}
use Rattle.std.proofs.lemmas.Bool.{and_parts, or_left, or_right, or_parts, eqb-true, not-false}
use Rattle.nob_ids.specs.Names.{is_same}
use Rattle.nob_ids.specs.declared.limits.Limits.{Limits}
use Rattle.nob_ids.specs.declared.reason.Reason.TheVariants.{BadReference}
use Rattle.nob_ids.specs.declared.wire_rep.WireRep.{WireRep}
use Rattle.nob_item.specs.Kinds.{counted_in}
use Rattle.nob_item.specs.declared.item.Item.{Item}
use Rattle.nob_item.specs.declared.item.Item.TheVariants as items
use Rattle.nob_model_types.specs.declared.event.Outcome.{Outcome}
use Rattle.nob_model_types.specs.declared.deed.Deed.{Deed}
use Rattle.nob_model_types.specs.declared.deed.Deed.TheVariants as did
use Rattle.nob_model_types.specs.declared.message.Message.{Message}
use Rattle.nob_model_types.specs.declared.turns.OwnerAnswer.TheVariants as said
use Rattle.nob_model_types.specs.Sessions.{is_peer, number, item_at, acted}
use Rattle.nob_model_types.specs.Objects.{exports, is_exported, is_withdrawn, is_live}
use Rattle.nob_model_types.specs.Turns.{turns, is_yes}
use Rattle.nob_model_types.specs.Messages.{is_of, is_lost_message}
use Rattle.nob_model_work.specs.declared.gifts.Gift.{Gift}
use Rattle.nob_model_work.specs.declared.work.Run.{Run}
use Rattle.nob_model_work.specs.Work.{work, is_run}
use Rattle.nob_model_work.specs.Gifts.{dirty_for, dirties_for, answer_to, gifts_of_act, lost_call_reply, gifts_of_settle, reply_to, gifts_of_finish, gifts_of, gifts}
use Rattle.nob_model_history.specs.Histories.{history_of}
use Rattle.nob_model_history.specs.Ends.{items_to}
use Rattle.nob_model_history.specs.Transit.{sent}
use Rattle.nob_model_history.specs.Listing.{is_entered, is_entered_after}
use Rattle.nob_model_history.proofs.Sessions.{number_kept}
use Rattle.nob_model_history.proofs.Numbered.{items_sent_in, gifts_sent_now}
use Rattle.nob_model_acting.specs.Acting.{fault_of, is_unknown}
use Rattle.nob_model.specs.Right.{right_after}
use Rattle.nob_model.specs.Lists.{AreRightDeeds}
use Rattle.nob_model.proofs.Doing.{was_answered}
use Rattle.nob_model.proofs.Accepted.{act_tells}
use Rattle.nob_model.proofs.Premises.{in_turn, item_acted, no_fault}
use Rattle.nob_model.proofs.Carrying.{all_filter}
use Rattle.nob_model_invariant.specs.Asking.{ask_in, answer_in, asks_among, answers_among, items_among, dirties_in, last_or, word_of, last_word, has_no, OkFirst, AnsweredInTurn}
use Rattle.nob_model_invariant.proofs.BySession.{sent_stays}
use Rattle.nob_model_invariant.proofs.Opened.{opens_above}
use Rattle.nob_model_invariant.proofs.Anew.{none_sent_new}
use Rattle.nob_model_invariant.proofs.Bools.{dirties_push, last_push, word_push}
use Rattle.nob_model_holdings.proofs.Lists.{or_false, any_push}

-- what space s answered a client for an index in the session in which it is, and what the client asked
abbrev pub gave_of : (s n c x : ℕ) → List Deed → List Bool
gave_of s n c x D = answers_among x (items_sent_in c (number c D) (sent (history_of s n D)))

abbrev pub asked_of : (c x : ℕ) → List Deed → List Bool
asked_of c x D = asks_among x (items_among (acted c D))

-- ---- plain values

-- answers to what was asked; a DirtyNo was of an object that was exported and withdrawn; and the client is entered if it asked last by a Dirty that was answered by DirtyOk
pub record AreAnswered (asks answers : List Bool) (exported withdrawn entered : Bool) : Type 0 where
  pub in_turn : AnsweredInTurn asks answers
  pub denied : has_no answers ≡ true → (exported ≡ true) × (withdrawn ≡ true)
  pub enters : entered ≡ (last_or false asks && is_yes (last_word said.Pending answers))

ok_push : (answers : List Bool) (answer : Bool) → OkFirst answers → (answer ≡ true → has_no answers ≡ false) → OkFirst (answers ++ answer ∷ [])
ok_push [] true first none = tt
ok_push [] false first none = tt
ok_push (true ∷ answers) answer first none = ok_push answers answer first none
ok_push (false ∷ answers) answer first none = no_push answers answer first (elim answer as (λ (b : Bool). (b ≡ true → true ≡ false) → b ≡ false) [ true ↦ λ clash. clash refl | false ↦ λ clash. refl ] none)
  where
    no_push : (answers : List Bool) (answer : Bool) → AllByRecursion (λ (b : Bool). b ≡ false) answers → answer ≡ false → AllByRecursion (λ (b : Bool). b ≡ false) (answers ++ answer ∷ [])
    no_push [] answer all is = (is, tt)
    no_push (first ∷ answers) answer all is = (all.0, no_push answers answer all.1 is)

-- an object that is live was not denied
never_denied : (exported withdrawn denied : Bool) → (denied ≡ true → (exported ≡ true) × (withdrawn ≡ true)) → (exported && not withdrawn) ≡ true → denied ≡ false
never_denied exported true true were alive = absurd (let parts = (and_parts exported false alive).1 in cc)
never_denied exported false true were alive = absurd (let gone = (were refl).1 in cc)
never_denied exported withdrawn false were alive = refl

-- an exported object that isn't live was withdrawn
gone_then : (exported withdrawn : Bool) → exported ≡ true → (exported && not withdrawn) ≡ false → withdrawn ≡ true
gone_then true true known dead = refl
gone_then true false known dead = cc
gone_then false withdrawn known dead = cc

yes_of : (alive : Bool) → is_yes (word_of alive) ≡ alive
yes_of true = refl
yes_of false = refl

denied_more : (answers : List Bool) (exported withdrawn alive : Bool) → exported ≡ true → alive ≡ (exported && not withdrawn) → (has_no answers ≡ true → (exported ≡ true) × (withdrawn ≡ true)) → (has_no answers || not alive) ≡ true → (exported ≡ true) × (withdrawn ≡ true)
denied_more answers exported withdrawn true known is before either = before (sym (or_false (has_no answers)) ∙ either)
denied_more answers exported withdrawn false known is before either = (known, gone_then exported withdrawn known (sym is))

-- a Dirty for an exported object is answered by whether the object is live
dirty_answered : (asks answers : List Bool) (exported withdrawn entered alive : Bool) → exported ≡ true → alive ≡ (exported && not withdrawn) → AreAnswered asks answers exported withdrawn entered → AreAnswered (asks ++ true ∷ []) (answers ++ alive ∷ []) exported withdrawn alive
dirty_answered asks answers exported withdrawn entered alive known is are = record {
  in_turn = record {
    each = length_push answers alive ∙ ap (λ (m : ℕ). m + 1) are.in_turn.each ∙ sym (dirties_push asks true);
    ok_first = ok_push answers alive are.in_turn.ok_first (λ lives. never_denied exported withdrawn (has_no answers) are.denied (sym is ∙ lives));
  };
  denied = λ either. denied_more answers exported withdrawn alive known is are.denied (sym (any_push not answers alive) ∙ either);
  enters = sym (ap (λ (b : Bool). b && is_yes (last_word said.Pending (answers ++ alive ∷ []))) (last_push false asks true) ∙ ap is_yes (word_push said.Pending answers alive) ∙ yes_of alive);
}

-- a Clean isn't answered
clean_answered : (asks answers : List Bool) (exported withdrawn entered : Bool) → AreAnswered asks answers exported withdrawn entered → AreAnswered (asks ++ false ∷ []) answers exported withdrawn false
clean_answered asks answers exported withdrawn entered are = record {
  in_turn = record { each = are.in_turn.each ∙ sym (dirties_push asks false ∙ plus_none (dirties_in asks)); ok_first = are.in_turn.ok_first };
  denied = are.denied;
  enters = sym (ap (λ (b : Bool). b && is_yes (last_word said.Pending answers)) (last_push false asks false));
}
  where
    plus_none : (m : ℕ) → m + 0 ≡ m
    plus_none m = omega arith

-- what is exported stays exported, and what is withdrawn stays withdrawn
later_answered : (asks answers : List Bool) (exported withdrawn entered known gone : Bool) → (exported ≡ true → known ≡ true) → (withdrawn ≡ true → gone ≡ true) → AreAnswered asks answers exported withdrawn entered → AreAnswered asks answers known gone entered
later_answered asks answers exported withdrawn entered known gone keeps stays are = record {
  in_turn = are.in_turn;
  denied = λ no. (keeps (are.denied no).0, stays (are.denied no).1);
  enters = are.enters;
}

-- ---- what a deed answers

-- what a gift answers a client for an index
abbrev pub gift_answers : (c x : ℕ) → Gift → Option Bool
gift_answers c x gift = cond (gift.to == c) (answer_in x gift.item) None

abbrev pub gifts_answer : (c x : ℕ) → List Gift → List Bool
gifts_answer c x more = filter_map (gift_answers c x) more

to_client : (c x : ℕ) (own : Bool) (gift : Gift) (more : List Gift) → answers_among x (map (λ (one : Gift). one.item) (cond own (gift ∷ more) more)) ≡ cons_option (cond own (answer_in x gift.item) None) (answers_among x (map (λ (one : Gift). one.item) more))
to_client c x true gift more = refl
to_client c x false gift more = refl

answers_to : (c x : ℕ) (more : List Gift) → answers_among x (items_to c more) ≡ gifts_answer c x more
answers_to c x [] = refl
answers_to c x (gift ∷ more) = to_client c x (gift.to == c) gift (filter (λ (one : Gift). one.to == c) more) ∙ ap (cons_option (gift_answers c x gift)) (answers_to c x more)

-- by one deed more, in the session in which the space was, that is answered which its gifts answer
gave_more : (s n c x : ℕ) (deed : Deed) (D : List Deed) → number c (deed ∷ D) ≡ number c D → gave_of s n c x (deed ∷ D) ≡ gave_of s n c x D ++ gifts_answer c x (gifts s n deed D (work s n D))
gave_more s n c x deed D same =
    let more : List Gift = gifts s n deed D (work s n D) in
    ap (λ (k : ℕ). answers_among x (items_sent_in c k (sent (history_of s n (deed ∷ D))))) same
    ∙ ap (answers_among x) (gifts_sent_now c D more (sent (history_of s n D)))
    ∙ filter_map-append (answer_in x) (items_sent_in c (number c D) (sent (history_of s n D))) (items_to c more)
    ∙ ap (λ bs. gave_of s n c x D ++ bs) (answers_to c x more)

-- ---- gifts that answer nothing

abbrev AnswerNone : ℕ → List Gift → Type 0
AnswerNone x more = AllByRecursion (λ (gift : Gift). answer_in x gift.item ≡ None) more

-- no answer
abbrev no_answer : Option Bool
no_answer = None

none_either : (own : Bool) → cond own no_answer no_answer ≡ no_answer
none_either true = refl
none_either false = refl

none_answered : (c x : ℕ) (more : List Gift) → AnswerNone x more → gifts_answer c x more ≡ []
none_answered c x [] are = refl
none_answered c x (gift ∷ more) are =
    ap (λ one. cons_option (cond (gift.to == c) one None) (gifts_answer c x more)) are.0
    ∙ ap (λ one. cons_option one (gifts_answer c x more)) (none_either (gift.to == c))
    ∙ none_answered c x more are.1

reply_none : (x p : ℕ) (item : Item) (outcome : Outcome) → AnswerNone x (reply_to p item outcome)
unfolding reply_to
reply_none x p (items.Call call target method value) outcome = (refl, tt)
reply_none x p (items.Reply call status value) outcome = tt
reply_none x p (items.Settle item) outcome = tt
reply_none x p (items.Dirty index) outcome = tt
reply_none x p (items.DirtyOk index) outcome = tt
reply_none x p (items.DirtyNo index) outcome = tt
reply_none x p (items.Clean index) outcome = tt

finish_none : (x : ℕ) (outcome : Outcome) (found : Option Run) → AnswerNone x (gifts_of_finish outcome found)
unfolding gifts_of_finish
finish_none x outcome None = tt
finish_none x outcome (Some run) = reply_none x run.message.from run.message.item outcome

lost_none : (x p : ℕ) (item : Item) (lost : Bool) → AnswerNone x (lost_call_reply p item lost)
unfolding lost_call_reply
lost_none x p (items.Call call target method value) true = (refl, tt)
lost_none x p (items.Call call target method value) false = tt
lost_none x p (items.Reply call status value) lost = tt
lost_none x p (items.Settle item) lost = tt
lost_none x p (items.Dirty index) lost = tt
lost_none x p (items.DirtyOk index) lost = tt
lost_none x p (items.DirtyNo index) lost = tt
lost_none x p (items.Clean index) lost = tt

settle_none : (x s n p k : ℕ) (D : List Deed) (found : Option Message) → AnswerNone x (gifts_of_settle s n p k D found)
unfolding gifts_of_settle
settle_none x s n p k D None = tt
settle_none x s n p k D (Some message) = (refl, lost_none x p message.item (is_lost_message s n D message))

dirties_none : (x : ℕ) (reps : List WireRep) → AnswerNone x (map dirty_for reps)
unfolding dirty_for
dirties_none x [] = tt
dirties_none x (rep ∷ reps) = (refl, dirties_none x reps)

wanted_none : (x s n : ℕ) (D : List Deed) (reps : List WireRep) → AnswerNone x (dirties_for s n D reps)
unfolding dirties_for
wanted_none x s n D reps = dirties_none x _

-- whether an item is a Dirty
abbrev is_ask : Option Item → Bool
is_ask (Some (items.Dirty index)) = true
is_ask _ = false

act_none : (x s n p : ℕ) (D : List Deed) (found : Option Item) → is_ask found ≡ false → AnswerNone x (gifts_of_act s n p D found)
unfolding gifts_of_act
act_none x s n p D None none = tt
act_none x s n p D (Some (items.Call call target method value)) none = wanted_none x s n D (counted_in (items.Call call target method value))
act_none x s n p D (Some (items.Reply call status value)) none = wanted_none x s n D (counted_in (items.Reply call status value))
act_none x s n p D (Some (items.Settle item)) none = tt
act_none x s n p D (Some (items.Dirty index)) none = cc
act_none x s n p D (Some (items.DirtyOk index)) none = tt
act_none x s n p D (Some (items.DirtyNo index)) none = tt
act_none x s n p D (Some (items.Clean index)) none = tt

clean_none : (x : ℕ) (rep : WireRep) (asks : Bool) → AnswerNone x (cond asks (record { to = rep.owner; item = items.Clean rep.index } ∷ []) [])
clean_none x rep true = (refl, tt)
clean_none x rep false = tt

-- whether a deed may answer something: an Act on a Dirty
abbrev may_answer : Deed → List Deed → Bool
may_answer (did.Act p k) D = is_ask (item_at p k D)
may_answer (_) D = false

gives_none : (x s n : ℕ) (deed : Deed) (D : List Deed) → may_answer deed D ≡ false → AnswerNone x (gifts_of s n deed D (work s n D))
unfolding gifts_of
gives_none x s n (did.Call target method value call) D none = (refl, tt)
gives_none x s n (did.Finish job outcome) D none = finish_none x outcome (find (is_run job) (work s n D).running)
gives_none x s n (did.Act p k) D none = act_none x s n p D (item_at p k D) none
gives_none x s n (did.Settle p k) D none = settle_none x s n p k D (find (is_of p k) (work s n D).waiting)
gives_none x s n (did.Clean rep) D none = clean_none x rep (turns s n rep D).asks
gives_none x s n deed D none = tt

answers_nothing : (s n c x : ℕ) (deed : Deed) (D : List Deed) → number c (deed ∷ D) ≡ number c D → may_answer deed D ≡ false → gave_of s n c x (deed ∷ D) ≡ gave_of s n c x D
unfolding gifts
answers_nothing s n c x deed D same none =
    gave_more s n c x deed D same
    ∙ ap (λ bs. gave_of s n c x D ++ bs) (none_answered c x (filter (λ (gift : Gift). is_peer s n gift.to) (gifts_of s n deed D (work s n D))) (all_filter (λ (gift : Gift). answer_in x gift.item ≡ None) (λ (gift : Gift). is_peer s n gift.to) (gifts_of s n deed D (work s n D)) (gives_none x s n deed D none)))
    ∙ append-nil (gave_of s n c x D)

-- ---- what was asked

one_asked : (x k : ℕ) (own : Bool) (item : Item) (found : Option Item) (pairs : List (ℕ × Option Item)) → (own ≡ true → found ≡ Some item) → asks_among x (items_among (cond own (pairs ++ (k, found) ∷ []) pairs)) ≡ asks_among x (items_among pairs) ++ cond own (cons_option (ask_in x item) []) []
one_asked x k true item found pairs is =
    ap (asks_among x) (filter_map-append (λ (pair : ℕ × Option Item). pair.1) pairs ((k, found) ∷ []))
    ∙ filter_map-append (ask_in x) (items_among pairs) (cons_option found [])
    ∙ ap (λ bs. asks_among x (items_among pairs) ++ bs) (ap (λ one. filter_map (ask_in x) (cons_option one [])) (is refl))
one_asked x k false item found pairs is = sym (append-nil (asks_among x (items_among pairs)))

-- an Act adds what its item asks, if it came from the client
asked_more : (c x p k : ℕ) (item : Item) (D : List Deed) → item_at p k D ≡ Some item → asked_of c x (did.Act p k ∷ D) ≡ asked_of c x D ++ cond (p == c) (cons_option (ask_in x item) []) []
asked_more c x p k item D is = one_asked x k (p == c) item (item_at c k D) (acted c D) (λ own. ap (λ (q : ℕ). item_at q k D) (sym (eqb-true p c own)) ∙ is)

-- ---- an Act

-- how it stands for a client and an index at space s
abbrev pub IsAnswered : (s n c x : ℕ) → List Deed → Type 0
IsAnswered s n c x D = AreAnswered (asked_of c x D) (gave_of s n c x D) (is_exported s x D) (is_withdrawn x D) (is_entered s x c D)

-- by what was asked and answered, and what is entered
answered_by : (s n c x p k : ℕ) (item : Item) (D : List Deed) (asks answers : List Bool) (entered : Bool) → asked_of c x (did.Act p k ∷ D) ≡ asks → gave_of s n c x (did.Act p k ∷ D) ≡ answers → is_entered s x c (did.Act p k ∷ D) ≡ entered → AreAnswered asks answers (is_exported s x D) (is_withdrawn x D) entered → IsAnswered s n c x (did.Act p k ∷ D)
answered_by s n c x p k item D asks answers entered asked answered entry are =
    subst (λ bs. AreAnswered bs (gave_of s n c x (did.Act p k ∷ D)) (is_exported s x D) (is_withdrawn x D) (is_entered s x c (did.Act p k ∷ D))) (sym asked)
    (subst (λ bs. AreAnswered asks bs (is_exported s x D) (is_withdrawn x D) (is_entered s x c (did.Act p k ∷ D))) (sym answered)
    (subst (λ (b : Bool). AreAnswered asks answers (is_exported s x D) (is_withdrawn x D) b) (sym entry) are))

nothing_either : (own : Bool) (bs : List Bool) → bs ≡ [] → cond own bs [] ≡ []
nothing_either true bs none = none
nothing_either false bs none = refl

before_either : (own before : Bool) → cond own before before ≡ before
before_either true before = refl
before_either false before = refl

-- an item that is no Dirty and no Clean
other_act : (s n c x p k : ℕ) (item : Item) (D : List Deed) → item_at p k D ≡ Some item → is_ask (Some item) ≡ false → cons_option (ask_in x item) [] ≡ [] → is_entered_after s x (Some item) D (is_entered s x c D) ≡ is_entered s x c D → IsAnswered s n c x D → IsAnswered s n c x (did.Act p k ∷ D)
other_act s n c x p k item D is none nothing same are =
    answered_by s n c x p k item D (asked_of c x D) (gave_of s n c x D) (is_entered s x c D)
    (asked_more c x p k item D is ∙ ap (λ bs. asked_of c x D ++ bs) (nothing_either (p == c) _ nothing) ∙ append-nil (asked_of c x D))
    (answers_nothing s n c x (did.Act p k) D refl (ap is_ask is ∙ none))
    (ap (λ found. cond (p == c) (is_entered_after s x found D (is_entered s x c D)) (is_entered s x c D)) is ∙ ap (λ (b : Bool). cond (p == c) b (is_entered s x c D)) same ∙ before_either (p == c) (is_entered s x c D))
    are

clean_step : (own same : Bool) (asks answers : List Bool) (exported withdrawn entered : Bool) → AreAnswered asks answers exported withdrawn entered → AreAnswered (asks ++ cond own (cons_option (cond same (Some false) None) []) []) answers exported withdrawn (cond own (cond same false entered) entered)
clean_step true true asks answers exported withdrawn entered are = clean_answered asks answers exported withdrawn entered are
clean_step true false asks answers exported withdrawn entered are = subst (λ bs. AreAnswered bs answers exported withdrawn entered) (sym (append-nil asks)) are
clean_step false same asks answers exported withdrawn entered are = subst (λ bs. AreAnswered bs answers exported withdrawn entered) (sym (append-nil asks)) are

clean_act : (s n c x p k index : ℕ) (D : List Deed) → item_at p k D ≡ Some (items.Clean index) → IsAnswered s n c x D → IsAnswered s n c x (did.Act p k ∷ D)
clean_act s n c x p k index D is are =
    answered_by s n c x p k (items.Clean index) D _ (gave_of s n c x D) _
    (asked_more c x p k (items.Clean index) D is)
    (answers_nothing s n c x (did.Act p k) D refl (ap is_ask is))
    (ap (λ found. cond (p == c) (is_entered_after s x found D (is_entered s x c D)) (is_entered s x c D)) is)
    (clean_step (p == c) (index == x) (asked_of c x D) (gave_of s n c x D) (is_exported s x D) (is_withdrawn x D) (is_entered s x c D) are)

-- what the answer to a Dirty tells a client for an index
answer_tells : (s n c x p index : ℕ) (alive known : Bool) → is_peer s n p ≡ true → known ≡ true → gifts_answer c x (filter (λ (gift : Gift). is_peer s n gift.to) (cond alive (record { to = p; item = items.DirtyOk index } ∷ []) (cond known (record { to = p; item = items.DirtyNo index } ∷ []) []))) ≡ cond (p == c) (cons_option (cond (index == x) (Some alive) None) []) []
answer_tells s n c x p index true known peer is = ap (λ (b : Bool). gifts_answer c x (cond b (record { to = p; item = items.DirtyOk index } ∷ []) [])) peer ∙ inside (p == c) (index == x) true
  where
    inside : (own same w : Bool) → cons_option (cond own (cond same (Some w) None) None) [] ≡ cond own (cons_option (cond same (Some w) None) []) []
    inside true same w = refl
    inside false same w = refl
answer_tells s n c x p index false true peer is = ap (λ (b : Bool). gifts_answer c x (cond b (record { to = p; item = items.DirtyNo index } ∷ []) [])) peer ∙ inside (p == c) (index == x) false
  where
    inside : (own same w : Bool) → cons_option (cond own (cond same (Some w) None) None) [] ≡ cond own (cons_option (cond same (Some w) None) []) []
    inside true same w = refl
    inside false same w = refl
answer_tells s n c x p index false false peer is = cc

dirty_step : (own same : Bool) (asks answers : List Bool) (exported withdrawn entered alive : Bool) → (same ≡ true → (exported ≡ true) × (alive ≡ (exported && not withdrawn))) → AreAnswered asks answers exported withdrawn entered → AreAnswered (asks ++ cond own (cons_option (cond same (Some true) None) []) []) (answers ++ cond own (cons_option (cond same (Some alive) None) []) []) exported withdrawn (cond own (cond same alive entered) entered)
dirty_step true true asks answers exported withdrawn entered alive own are = dirty_answered asks answers exported withdrawn entered alive (own refl).0 (own refl).1 are
dirty_step true false asks answers exported withdrawn entered alive own are = subst (λ bs. AreAnswered bs (answers ++ []) exported withdrawn entered) (sym (append-nil asks)) (subst (λ bs. AreAnswered asks bs exported withdrawn entered) (sym (append-nil answers)) are)
dirty_step false same asks answers exported withdrawn entered alive own are = subst (λ bs. AreAnswered bs (answers ++ []) exported withdrawn entered) (sym (append-nil asks)) (subst (λ bs. AreAnswered asks bs exported withdrawn entered) (sym (append-nil answers)) are)

-- a Dirty that has no fault is of an object that was exported
known_dirty : (s n p index : ℕ) (D : List Deed) → fault_of s n p (items.Dirty index) (history_of s n D) ≡ None → is_exported s index D ≡ true
unfolding fault_of
known_dirty s n p index D none = not-false _ (or_parts (index == 0) (not (is_exported s index D)) (no_fault (is_unknown s index (history_of s n D)) BadReference none)).1

dirty_act : (s n c x p k index : ℕ) (D : List Deed) → is_peer s n p ≡ true → is_exported s index D ≡ true → item_at p k D ≡ Some (items.Dirty index) → IsAnswered s n c x D → IsAnswered s n c x (did.Act p k ∷ D)
unfolding gifts gifts_of gifts_of_act answer_to
dirty_act s n c x p k index D peer known is are =
    answered_by s n c x p k (items.Dirty index) D _ _ _
    (asked_more c x p k (items.Dirty index) D is)
    (gave_more s n c x (did.Act p k) D refl
    ∙ ap (λ found. gave_of s n c x D ++ gifts_answer c x (filter (λ (gift : Gift). is_peer s n gift.to) (gifts_of_act s n p D found))) is
    ∙ ap (λ bs. gave_of s n c x D ++ bs) (answer_tells s n c x p index (is_live s index D) (is_exported s index D) peer known))
    (ap (λ found. cond (p == c) (is_entered_after s x found D (is_entered s x c D)) (is_entered s x c D)) is)
    (dirty_step (p == c) (index == x) (asked_of c x D) (gave_of s n c x D) (is_exported s x D) (is_withdrawn x D) (is_entered s x c D) (is_live s index D)
    (λ same. (ap (λ (i : ℕ). is_exported s i D) (sym (eqb-true index x same)) ∙ known, ap (λ (i : ℕ). is_live s i D) (eqb-true index x same))) are)

item_act : (s n c x p k : ℕ) (item : Item) (D : List Deed) → is_peer s n p ≡ true → fault_of s n p item (history_of s n D) ≡ None → item_at p k D ≡ Some item → IsAnswered s n c x D → IsAnswered s n c x (did.Act p k ∷ D)
item_act s n c x p k (items.Call call target method value) D peer none is are = other_act s n c x p k (items.Call call target method value) D is refl refl refl are
item_act s n c x p k (items.Reply call status value) D peer none is are = other_act s n c x p k (items.Reply call status value) D is refl refl refl are
item_act s n c x p k (items.Settle item) D peer none is are = other_act s n c x p k (items.Settle item) D is refl refl refl are
item_act s n c x p k (items.Dirty index) D peer none is are = dirty_act s n c x p k index D peer (known_dirty s n p index D none) is are
item_act s n c x p k (items.DirtyOk index) D peer none is are = other_act s n c x p k (items.DirtyOk index) D is refl refl refl are
item_act s n c x p k (items.DirtyNo index) D peer none is are = other_act s n c x p k (items.DirtyNo index) D is refl refl refl are
item_act s n c x p k (items.Clean index) D peer none is are = clean_act s n c x p k index D is are

-- ---- a deed

-- a deed that leaves the number of the session, and neither exports nor withdraws
other_deed : (s n c x : ℕ) (deed : Deed) (D : List Deed) → number c (deed ∷ D) ≡ number c D → may_answer deed D ≡ false → asked_of c x (deed ∷ D) ≡ asked_of c x D → is_entered s x c (deed ∷ D) ≡ is_entered s x c D → (is_exported s x D ≡ true → is_exported s x (deed ∷ D) ≡ true) → (is_withdrawn x D ≡ true → is_withdrawn x (deed ∷ D) ≡ true) → IsAnswered s n c x D → IsAnswered s n c x (deed ∷ D)
other_deed s n c x deed D same none asked entry keeps stays are =
    subst (λ bs. AreAnswered bs (gave_of s n c x (deed ∷ D)) (is_exported s x (deed ∷ D)) (is_withdrawn x (deed ∷ D)) (is_entered s x c (deed ∷ D))) (sym asked)
    (subst (λ bs. AreAnswered (asked_of c x D) bs (is_exported s x (deed ∷ D)) (is_withdrawn x (deed ∷ D)) (is_entered s x c (deed ∷ D))) (sym (answers_nothing s n c x deed D same none))
    (subst (λ (b : Bool). AreAnswered (asked_of c x D) (gave_of s n c x D) (is_exported s x (deed ∷ D)) (is_withdrawn x (deed ∷ D)) b) (sym entry)
    (later_answered (asked_of c x D) (gave_of s n c x D) (is_exported s x D) (is_withdrawn x D) (is_entered s x c D) (is_exported s x (deed ∷ D)) (is_withdrawn x (deed ∷ D)) keeps stays are)))

act_answered : (s n : ℕ) (limits : Limits) (c x p k : ℕ) (D : List Deed) → AreRightDeeds s n limits (did.Act p k ∷ D) → IsAnswered s n c x D → IsAnswered s n c x (did.Act p k ∷ D)
unfolding right_after
act_answered s n limits c x p k D right are =
    let known = item_acted s n limits p k D (in_turn s n limits D right.1) right.0 in
    let peer = (act_tells s n p k (history_of s n D) (was_answered s n limits (did.Act p k) D right.0)).0 in
    item_act s n c x p k known.0 D peer known.2 known.1 are

-- what is exported stays so by one Export more
pub exported_later : (s x : ℕ) (rep : WireRep) (D : List Deed) → is_exported s x D ≡ true → is_exported s x (did.Export rep ∷ D) ≡ true
exported_later s x rep D known = any_push (is_same (record { owner = s; index = x })) (exports D) rep ∙ or_left (is_exported s x D) _ known

-- before anything was asked in a session
answered_none : (s n c x : ℕ) (D : List Deed) → asked_of c x D ≡ [] → gave_of s n c x D ≡ [] → is_entered s x c D ≡ false → IsAnswered s n c x D
answered_none s n c x D asked answered entry =
    subst (λ bs. AreAnswered bs (gave_of s n c x D) (is_exported s x D) (is_withdrawn x D) (is_entered s x c D)) (sym asked)
    (subst (λ bs. AreAnswered [] bs (is_exported s x D) (is_withdrawn x D) (is_entered s x c D)) (sym answered)
    (subst (λ (b : Bool). AreAnswered [] [] (is_exported s x D) (is_withdrawn x D) b) (sym entry)
    (record { in_turn = record { each = refl; ok_first = tt }; denied = λ no. cc; enters = refl })))

-- a session with the client that opens begins so
opened_answered : (s n : ℕ) (limits : Limits) (c x q k : ℕ) (D : List Deed) → AreRightDeeds s n limits (did.Open q k ∷ D) → IsAnswered s n c x D → IsAnswered s n c x (did.Open q k ∷ D)
opened_answered s n limits c x q k D right are = by (q == c) refl
  where
    asked : (own : Bool) → (q == c) ≡ own → asked_of c x (did.Open q k ∷ D) ≡ asks_among x (items_among (cond own [] (acted c D)))
    asked own is = ap (λ (b : Bool). asks_among x (items_among (cond b [] (acted c D)))) is

    entry : (own : Bool) → (q == c) ≡ own → is_entered s x c (did.Open q k ∷ D) ≡ cond own false (is_entered s x c D)
    entry own is = ap (λ (b : Bool). cond b false (is_entered s x c D)) is

    by : (own : Bool) → (q == c) ≡ own → IsAnswered s n c x (did.Open q k ∷ D)
    by true own = answered_none s n c x (did.Open q k ∷ D) (asked true own) (ap (answers_among x) (none_sent_new s n c limits (did.Open q k) D right (opens_above s n c limits (did.Open q k) D right.0 own))) (entry true own)
    by false other = other_deed s n c x (did.Open q k) D (number_kept c (did.Open q k) D other) refl (asked false other) (entry false other) (λ known. known) (λ gone. gone) are

-- in every list of right deeds the owner answered what it was asked
pub are_answered : (s n : ℕ) (limits : Limits) (c x : ℕ) (D : List Deed) → AreRightDeeds s n limits D → IsAnswered s n c x D
are_answered s n limits c x [] right = record { in_turn = record { each = refl; ok_first = tt }; denied = λ no. cc; enters = refl }
are_answered s n limits c x (did.Act p k ∷ D) right = act_answered s n limits c x p k D right (are_answered s n limits c x D right.1)
are_answered s n limits c x (did.Export rep ∷ D) right = other_deed s n c x (did.Export rep) D refl refl refl refl (exported_later s x rep D) (λ gone. gone) (are_answered s n limits c x D right.1)
are_answered s n limits c x (did.Withdraw index ∷ D) right = other_deed s n c x (did.Withdraw index) D refl refl refl refl (λ known. known) (λ gone. or_right (index == x) (is_withdrawn x D) gone) (are_answered s n limits c x D right.1)
are_answered s n limits c x (did.Open q k ∷ D) right = opened_answered s n limits c x q k D right (are_answered s n limits c x D right.1)
are_answered s n limits c x (deed ∷ D) right = other_deed s n c x deed D refl refl refl refl (λ known. known) (λ gone. gone) (are_answered s n limits c x D right.1)

-- ---- each session

exported_stays : (s x : ℕ) (deed : Deed) (D : List Deed) → is_exported s x D ≡ true → is_exported s x (deed ∷ D) ≡ true
exported_stays s x (did.Export rep) D known = exported_later s x rep D known
exported_stays s x deed D known = known

withdrawn_stays : (x : ℕ) (deed : Deed) (D : List Deed) → is_withdrawn x D ≡ true → is_withdrawn x (deed ∷ D) ≡ true
withdrawn_stays x (did.Withdraw index) D gone = or_right (index == x) (is_withdrawn x D) gone
withdrawn_stays x deed D gone = gone

-- in every list of right deeds what was denied in a session was exported and withdrawn
pub gone_in : (s n : ℕ) (limits : Limits) (c x k : ℕ) (D : List Deed) → AreRightDeeds s n limits D → has_no (answers_among x (items_sent_in c k (sent (history_of s n D)))) ≡ true → (is_exported s x D ≡ true) × (is_withdrawn x D ≡ true)
gone_in s n limits c x k [] right refuses = cc
gone_in s n limits c x k (deed ∷ D) right refuses = by (number c (deed ∷ D) == k) refl (gone_in s n limits c x k D right.1) refuses
  where
    by : (b : Bool) → (number c (deed ∷ D) == k) ≡ b → (has_no (answers_among x (items_sent_in c k (sent (history_of s n D)))) ≡ true → (is_exported s x D ≡ true) × (is_withdrawn x D ≡ true)) → has_no (answers_among x (items_sent_in c k (sent (history_of s n (deed ∷ D))))) ≡ true → (is_exported s x (deed ∷ D) ≡ true) × (is_withdrawn x (deed ∷ D) ≡ true)
    by true is before refuses = (are_answered s n limits c x (deed ∷ D) right).denied (subst (λ (m : ℕ). has_no (answers_among x (items_sent_in c m (sent (history_of s n (deed ∷ D))))) ≡ true) (sym (eqb-true (number c (deed ∷ D)) k is)) refuses)
    by false other before refuses =
        let gone = before (ap (λ more. has_no (answers_among x more)) (sym (sent_stays s n c k deed D other)) ∙ refuses) in
        (exported_stays s x deed D gone.0, withdrawn_stays x deed D gone.1)
