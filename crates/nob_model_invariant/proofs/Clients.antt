-- Client and owner took turns, as seen by the client: by what it sent the owner and what it acted on from it.
use Rattle.std.proofs.Common.{◌≡◌, ℕ, ◌&&◌, Bool, true, false, cond, List, [], ◌∷◌, ◌++◌, filter_map, Option, Some, None, refl, sym, ap, subst, ◌∙◌}
use Rattle.std.specs.Prelude.{◌==◌}
use Rattle.std.specs.List.{cons_option}
use Rattle.std.proofs.lemmas.List.{append-nil}
use Rattle.std.proofs.lemmas.List.Elements.{filter_map-append}
use Rattle.std.proofs.lemmas.Bool.{and_parts, eqb-true}
use Rattle.nob_ids.specs.Names.{is_same}
use Rattle.nob_ids.specs.declared.limits.Limits.{Limits}
use Rattle.nob_ids.specs.declared.wire_rep.WireRep.{WireRep}
use Rattle.nob_item.specs.declared.item.Item.{Item}
use Rattle.nob_item.specs.declared.item.Item.TheVariants as items
use Rattle.nob_model_types.specs.declared.deed.Deed.{Deed}
use Rattle.nob_model_types.specs.declared.deed.Deed.TheVariants as did
use Rattle.nob_model_types.specs.declared.turns.Turns.{Turns}
use Rattle.nob_model_types.specs.Sessions.{is_peer, item_at, acted, number}
use Rattle.nob_model_types.specs.Turns.{no_turns, turns, turns_after, is_pending, is_granted, is_standing, wants_dirty, with_dirty, with_answer, with_clean, carries, names}
use Rattle.nob_model_work.specs.Work.{work}
use Rattle.nob_model_work.specs.Gifts.{gifts, gifts_of_act}
use Rattle.nob_model_history.specs.Premises.{AnswersPending}
use Rattle.nob_model_history.proofs.Sessions.{number_kept}
use Rattle.nob_model_history.proofs.Dirtying.{same_flip}
use Rattle.nob_model_history.proofs.Turning.{HaveShape, shapes, wanted_none, named_ref, same_ref, granted_answered}
use Rattle.nob_model.specs.Lists.{AreRightDeeds}
use Rattle.nob_model.proofs.Premises.{in_turn, item_acted, took_turns}
use Rattle.nob_model_invariant.specs.Asking.{answer_in, asks_among, answers_among, items_among, word_of, turns_by, AskedInTurn}
use Rattle.nob_model_invariant.proofs.Bools.{turns_dirty, turns_clean, turns_answer, none_asked, dirty_in_turn, answer_in_turn, clean_in_turn}
use Rattle.nob_model_history.proofs.Unasked.{is_message}
use Rattle.nob_model_invariant.proofs.Opened.{opens_above}
use Rattle.nob_model_invariant.proofs.Anew.{none_sent_new}
use Rattle.nob_model_invariant.proofs.Asked.{may_ask, asks_of, gifts_ask, asks_more, asks_nothing, clean_asked, message_asked}

-- what space s was answered by the owner of a reference
abbrev pub answers_of : WireRep → List Deed → List Bool
answers_of rep D = answers_among rep.index (items_among (acted rep.owner D))

-- the turns for a reference are what was asked of its owner and what that answered, and they were taken in turn
pub record IsTurned (s n : ℕ) (rep : WireRep) (D : List Deed) : Type 0 where
  pub turns_are : turns s n rep D ≡ turns_by (asks_of s n rep D) (answers_of rep D)
  pub taken : AskedInTurn (asks_of s n rep D) (answers_of rep D)

-- ---- who is asked

dirty_peer : (s n : ℕ) (rep : WireRep) (D : List Deed) (b : Bool) (t : Turns) → (b ≡ true → is_peer s n rep.owner ≡ true) → (t.asks ≡ true → is_peer s n rep.owner ≡ true) → (cond b (with_dirty t) t).asks ≡ true → is_peer s n rep.owner ≡ true
dirty_peer s n rep D true t wanted before asks = wanted refl
dirty_peer s n rep D false t wanted before asks = before asks

answer_peer : (b w : Bool) (t : Turns) → (cond b (with_answer (word_of w) t) t).asks ≡ t.asks
answer_peer true w t = refl
answer_peer false w t = refl

clean_peer : (s n : ℕ) (rep : WireRep) (b : Bool) (t : Turns) → (t.asks ≡ true → is_peer s n rep.owner ≡ true) → (cond b (with_clean t) t).asks ≡ true → is_peer s n rep.owner ≡ true
clean_peer s n rep true t before asks = cc
clean_peer s n rep false t before asks = before asks

opened_peer : (s n : ℕ) (rep : WireRep) (b : Bool) (t : Turns) → (t.asks ≡ true → is_peer s n rep.owner ≡ true) → (cond b no_turns t).asks ≡ true → is_peer s n rep.owner ≡ true
opened_peer s n rep true t before asks = cc
opened_peer s n rep false t before asks = before asks

wanted_peer : (s n : ℕ) (rep : WireRep) (D : List Deed) (carried : Bool) → (carried && wants_dirty s n rep D (turns s n rep D)) ≡ true → is_peer s n rep.owner ≡ true
wanted_peer s n rep D carried both = (and_parts _ _ (and_parts _ _ (and_parts _ _ both).1).0).0

item_peer : (s n p : ℕ) (rep : WireRep) (found : Option Item) (D : List Deed) → ((turns s n rep D).asks ≡ true → is_peer s n rep.owner ≡ true) → (turns_after s n p rep found D (turns s n rep D)).asks ≡ true → is_peer s n rep.owner ≡ true
item_peer s n p rep None D before asks = before asks
item_peer s n p rep (Some (items.Call call target method value)) D before asks = dirty_peer s n rep D (carries rep (items.Call call target method value) && wants_dirty s n rep D (turns s n rep D)) (turns s n rep D) (wanted_peer s n rep D (carries rep (items.Call call target method value))) before asks
item_peer s n p rep (Some (items.Reply call status value)) D before asks = dirty_peer s n rep D (carries rep (items.Reply call status value) && wants_dirty s n rep D (turns s n rep D)) (turns s n rep D) (wanted_peer s n rep D (carries rep (items.Reply call status value))) before asks
item_peer s n p rep (Some (items.Settle item)) D before asks = before asks
item_peer s n p rep (Some (items.Dirty index)) D before asks = before asks
item_peer s n p rep (Some (items.DirtyOk index)) D before asks = before (sym (answer_peer (names rep p index) true (turns s n rep D)) ∙ asks)
item_peer s n p rep (Some (items.DirtyNo index)) D before asks = before (sym (answer_peer (names rep p index) false (turns s n rep D)) ∙ asks)
item_peer s n p rep (Some (items.Clean index)) D before asks = before asks

-- an owner that was asked last by a Dirty is a peer
pub asks_peer : (s n : ℕ) (rep : WireRep) (D : List Deed) → (turns s n rep D).asks ≡ true → is_peer s n rep.owner ≡ true
asks_peer s n rep [] asks = cc
asks_peer s n rep (did.Act p k ∷ D) asks = item_peer s n p rep (item_at p k D) D (asks_peer s n rep D) asks
asks_peer s n rep (did.Clean other ∷ D) asks = clean_peer s n rep (is_same rep other) (turns s n rep D) (asks_peer s n rep D) asks
asks_peer s n rep (did.Open q k ∷ D) asks = opened_peer s n rep (q == rep.owner) (turns s n rep D) (asks_peer s n rep D) asks
asks_peer s n rep (deed ∷ D) asks = asks_peer s n rep D asks

-- ---- one turn more

-- turns by asks and answers that were taken in turn
abbrev pub AreBy : Turns → (asks answers : List Bool) → Type 0
AreBy t asks answers = (t ≡ turns_by asks answers) × AskedInTurn asks answers

dirty_step : (b : Bool) (t : Turns) (asks answers : List Bool) → HaveShape t → (b ≡ true → is_standing t ≡ false) → AreBy t asks answers → AreBy (cond b (with_dirty t) t) (asks ++ cond b (true ∷ []) []) answers
dirty_step true t asks answers shape none are = (
  ap with_dirty are.0 ∙ sym (turns_dirty asks answers),
  dirty_in_turn asks answers (subst HaveShape are.0 shape) (ap is_standing (sym are.0) ∙ none refl) are.1,
)
dirty_step false t asks answers shape none are = subst (λ bs. AreBy t bs answers) (sym (append-nil asks)) are

answer_step : (b w : Bool) (t : Turns) (asks answers : List Bool) → (b ≡ true → is_pending t ≡ true) → AreBy t asks answers → AreBy (cond b (with_answer (word_of w) t) t) asks (answers ++ cond b (w ∷ []) [])
answer_step true w t asks answers pending are = (
  ap (with_answer (word_of w)) are.0 ∙ sym (turns_answer asks answers w),
  answer_in_turn asks answers w (ap is_pending (sym are.0) ∙ pending refl) are.1,
)
answer_step false w t asks answers pending are = subst (λ bs. AreBy t asks bs) (sym (append-nil answers)) are

clean_step : (b : Bool) (t : Turns) (asks answers : List Bool) → (b ≡ true → is_granted t ≡ true) → AreBy t asks answers → AreBy (cond b (with_clean t) t) (asks ++ cond b (false ∷ []) []) answers
clean_step true t asks answers granted are =
    let own : is_granted (turns_by asks answers) ≡ true = ap is_granted (sym are.0) ∙ granted refl in (
      ap with_clean are.0 ∙ sym (turns_clean asks answers),
      clean_in_turn asks answers own (and_parts _ _ own).1 are.1,
    )
clean_step false t asks answers granted are = subst (λ bs. AreBy t bs answers) (sym (append-nil asks)) are

-- ---- answers that were acted on

one_answer : (x k : ℕ) (own : Bool) (item : Item) (found : Option Item) (pairs : List (ℕ × Option Item)) → (own ≡ true → found ≡ Some item) → answers_among x (items_among (cond own (pairs ++ (k, found) ∷ []) pairs)) ≡ answers_among x (items_among pairs) ++ cond own (cons_option (answer_in x item) []) []
one_answer x k true item found pairs is =
    ap (answers_among x) (filter_map-append (λ (pair : ℕ × Option Item). pair.1) pairs ((k, found) ∷ []))
    ∙ filter_map-append (answer_in x) (items_among pairs) (cons_option found [])
    ∙ ap (λ bs. answers_among x (items_among pairs) ++ bs) (ap (λ one. filter_map (answer_in x) (cons_option one [])) (is refl))
one_answer x k false item found pairs is = sym (append-nil (answers_among x (items_among pairs)))

-- an Act adds what its item answers, if it came from the owner
answers_more : (p k : ℕ) (rep : WireRep) (item : Item) (D : List Deed) → item_at p k D ≡ Some item → answers_of rep (did.Act p k ∷ D) ≡ answers_of rep D ++ cond (p == rep.owner) (cons_option (answer_in rep.index item) []) []
answers_more p k rep item D is = one_answer rep.index k (p == rep.owner) item (item_at rep.owner k D) (acted rep.owner D) (λ own. ap (λ (q : ℕ). item_at q k D) (sym (eqb-true p rep.owner own)) ∙ is)

none_either : (own : Bool) (bs : List Bool) → bs ≡ [] → cond own bs [] ≡ []
none_either true bs none = none
none_either false bs none = refl

both_either : (a b w : Bool) → cond a (cons_option (cond b (Some w) None) []) [] ≡ cond (a && b) (w ∷ []) []
both_either true true w = refl
both_either true false w = refl
both_either false b w = refl

-- the answer to the one who is named
named_answer : (p index : ℕ) (rep : WireRep) (w : Bool) → cond (p == rep.owner) (cons_option (cond (index == rep.index) (Some w) None) []) [] ≡ cond (names rep p index) (w ∷ []) []
named_answer p index rep w =
    both_either (p == rep.owner) (index == rep.index) w ∙ ap (λ (b : Bool). cond b (w ∷ []) []) (same_flip (record { owner = p; index = index }) rep)

-- ---- an item

-- what an item asks and answers, with what was asked and answered before
abbrev pub ItemTurned : (s n p k : ℕ) → WireRep → Item → List Deed → Type 0
ItemTurned s n p k rep item D = AreBy (turns_after s n p rep (Some item) D (turns s n rep D)) (asks_of s n rep D ++ gifts_ask rep (gifts s n (did.Act p k) D (work s n D))) (answers_of rep D ++ cond (p == rep.owner) (cons_option (answer_in rep.index item) []) [])

-- an item that asks so and answers so
item_by : (s n p k : ℕ) (rep : WireRep) (item : Item) (D : List Deed) (asks answers : List Bool) → gifts_ask rep (gifts s n (did.Act p k) D (work s n D)) ≡ asks → cond (p == rep.owner) (cons_option (answer_in rep.index item) []) [] ≡ answers → AreBy (turns_after s n p rep (Some item) D (turns s n rep D)) (asks_of s n rep D ++ asks) (answers_of rep D ++ answers) → ItemTurned s n p k rep item D
item_by s n p k rep item D asks answers asked answered are =
    subst (λ more. AreBy (turns_after s n p rep (Some item) D (turns s n rep D)) (asks_of s n rep D ++ more) (answers_of rep D ++ cond (p == rep.owner) (cons_option (answer_in rep.index item) []) [])) (sym asked)
    (subst (λ more. AreBy (turns_after s n p rep (Some item) D (turns s n rep D)) (asks_of s n rep D ++ asks) (answers_of rep D ++ more)) (sym answered) are)

-- nothing more
with_none : (t : Turns) (asks answers : List Bool) → AreBy t asks answers → AreBy t (asks ++ []) (answers ++ [])
with_none t asks answers are = subst (λ bs. AreBy t bs (answers ++ [])) (sym (append-nil asks)) (subst (λ bs. AreBy t asks bs) (sym (append-nil answers)) are)

other_item : (s n p k : ℕ) (rep : WireRep) (item : Item) (D : List Deed) → gifts_ask rep (gifts s n (did.Act p k) D (work s n D)) ≡ [] → cons_option (answer_in rep.index item) [] ≡ [] → turns_after s n p rep (Some item) D (turns s n rep D) ≡ turns s n rep D → AreBy (turns s n rep D) (asks_of s n rep D) (answers_of rep D) → ItemTurned s n p k rep item D
other_item s n p k rep item D asked answered same are =
    item_by s n p k rep item D [] [] asked (none_either (p == rep.owner) _ answered) (subst (λ t. AreBy t (asks_of s n rep D ++ []) (answers_of rep D ++ [])) (sym same) (with_none (turns s n rep D) (asks_of s n rep D) (answers_of rep D) are))

message_item : (s n p k : ℕ) (rep : WireRep) (item : Item) (D : List Deed) → HaveShape (turns s n rep D) → gifts_ask rep (gifts s n (did.Act p k) D (work s n D)) ≡ cond (carries rep item && wants_dirty s n rep D (turns s n rep D)) (true ∷ []) [] → cons_option (answer_in rep.index item) [] ≡ [] → turns_after s n p rep (Some item) D (turns s n rep D) ≡ cond (carries rep item && wants_dirty s n rep D (turns s n rep D)) (with_dirty (turns s n rep D)) (turns s n rep D) → AreBy (turns s n rep D) (asks_of s n rep D) (answers_of rep D) → ItemTurned s n p k rep item D
message_item s n p k rep item D shape asked answered turned are =
    let b : Bool = carries rep item && wants_dirty s n rep D (turns s n rep D) in
    item_by s n p k rep item D (cond b (true ∷ []) []) [] asked (none_either (p == rep.owner) _ answered)
    (subst (λ t. AreBy t (asks_of s n rep D ++ cond b (true ∷ []) []) (answers_of rep D ++ [])) (sym turned)
    (subst (λ bs. AreBy (cond b (with_dirty (turns s n rep D)) (turns s n rep D)) (asks_of s n rep D ++ cond b (true ∷ []) []) bs) (sym (append-nil (answers_of rep D)))
    (dirty_step b (turns s n rep D) (asks_of s n rep D) (answers_of rep D) shape (λ both. wanted_none s n rep D (turns s n rep D) (and_parts _ _ both).1) are)))

answer_item : (s n p k : ℕ) (rep : WireRep) (index : ℕ) (w : Bool) (item : Item) (D : List Deed) → is_pending (turns s n (record { owner = p; index = index }) D) ≡ true → gifts_ask rep (gifts s n (did.Act p k) D (work s n D)) ≡ [] → answer_in rep.index item ≡ cond (index == rep.index) (Some w) None → turns_after s n p rep (Some item) D (turns s n rep D) ≡ cond (names rep p index) (with_answer (word_of w) (turns s n rep D)) (turns s n rep D) → AreBy (turns s n rep D) (asks_of s n rep D) (answers_of rep D) → ItemTurned s n p k rep item D
answer_item s n p k rep index w item D pending asked answered turned are =
    let b : Bool = names rep p index in
    item_by s n p k rep item D [] (cond b (w ∷ []) []) asked (ap (λ one. cond (p == rep.owner) (cons_option one []) []) answered ∙ named_answer p index rep w)
    (subst (λ t. AreBy t (asks_of s n rep D ++ []) (answers_of rep D ++ cond b (w ∷ []) [])) (sym turned)
    (subst (λ bs. AreBy (cond b (with_answer (word_of w) (turns s n rep D)) (turns s n rep D)) bs (answers_of rep D ++ cond b (w ∷ []) [])) (sym (append-nil (asks_of s n rep D)))
    (answer_step b w (turns s n rep D) (asks_of s n rep D) (answers_of rep D) (λ named. subst (λ (r : WireRep). is_pending (turns s n r D) ≡ true) (named_ref rep p index named) pending) are)))

-- an item that was acted on is a turn more, or none
item_turned : (s n p k : ℕ) (rep : WireRep) (item : Item) (D : List Deed) → item_at p k D ≡ Some item → AnswersPending s n p (Some item) D → HaveShape (turns s n rep D) → AreBy (turns s n rep D) (asks_of s n rep D) (answers_of rep D) → ItemTurned s n p k rep item D
unfolding gifts_of_act
item_turned s n p k rep (items.Call call target method value) D is pending shape are = message_item s n p k rep (items.Call call target method value) D shape (message_asked s n p k rep (items.Call call target method value) D is refl) refl refl are
item_turned s n p k rep (items.Reply call status value) D is pending shape are = message_item s n p k rep (items.Reply call status value) D shape (message_asked s n p k rep (items.Reply call status value) D is refl) refl refl are
item_turned s n p k rep (items.Settle item) D is pending shape are = other_item s n p k rep (items.Settle item) D (asks_nothing s n rep (did.Act p k) D (ap is_message is)) refl refl are
item_turned s n p k rep (items.Dirty index) D is pending shape are = other_item s n p k rep (items.Dirty index) D (asks_nothing s n rep (did.Act p k) D (ap is_message is)) refl refl are
item_turned s n p k rep (items.DirtyOk index) D is pending shape are = answer_item s n p k rep index true (items.DirtyOk index) D pending (asks_nothing s n rep (did.Act p k) D (ap is_message is)) refl refl are
item_turned s n p k rep (items.DirtyNo index) D is pending shape are = answer_item s n p k rep index false (items.DirtyNo index) D pending (asks_nothing s n rep (did.Act p k) D (ap is_message is)) refl refl are
item_turned s n p k rep (items.Clean index) D is pending shape are = other_item s n p k rep (items.Clean index) D (asks_nothing s n rep (did.Act p k) D (ap is_message is)) refl refl are

-- ---- a deed

-- what a deed asks and answers, as it stands in the list
turned_by : (s n : ℕ) (rep : WireRep) (deed : Deed) (D : List Deed) (answers : List Bool) → number rep.owner (deed ∷ D) ≡ number rep.owner D → answers_of rep (deed ∷ D) ≡ answers → AreBy (turns s n rep (deed ∷ D)) (asks_of s n rep D ++ gifts_ask rep (gifts s n deed D (work s n D))) answers → IsTurned s n rep (deed ∷ D)
turned_by s n rep deed D answers stays answered are =
    let own = subst (λ asks. AreBy (turns s n rep (deed ∷ D)) asks (answers_of rep (deed ∷ D))) (sym (asks_more s n rep deed D stays)) (subst (λ bs. AreBy (turns s n rep (deed ∷ D)) (asks_of s n rep D ++ gifts_ask rep (gifts s n deed D (work s n D))) bs) (sym answered) are) in
    record { turns_are = own.0; taken = own.1 }

other_turned : (s n : ℕ) (rep : WireRep) (deed : Deed) (D : List Deed) → number rep.owner (deed ∷ D) ≡ number rep.owner D → may_ask deed D ≡ false → answers_of rep (deed ∷ D) ≡ answers_of rep D → turns s n rep (deed ∷ D) ≡ turns s n rep D → IsTurned s n rep D → IsTurned s n rep (deed ∷ D)
other_turned s n rep deed D stays none answered same turned =
    turned_by s n rep deed D (answers_of rep D) stays answered
    (subst (λ more. AreBy (turns s n rep (deed ∷ D)) (asks_of s n rep D ++ more) (answers_of rep D)) (sym (asks_nothing s n rep deed D none))
    (subst (λ bs. AreBy (turns s n rep (deed ∷ D)) bs (answers_of rep D)) (sym (append-nil (asks_of s n rep D))) (same ∙ turned.turns_are, turned.taken)))

act_turned : (s n : ℕ) (limits : Limits) (rep : WireRep) (p k : ℕ) (D : List Deed) → AreRightDeeds s n limits (did.Act p k ∷ D) → IsTurned s n rep D → IsTurned s n rep (did.Act p k ∷ D)
act_turned s n limits rep p k D right turned =
    let known = item_acted s n limits p k D (in_turn s n limits D right.1) right.0 in
    let took = took_turns s n limits (did.Act p k ∷ D) right in
    let own : ItemTurned s n p k rep known.0 D = item_turned s n p k rep known.0 D known.1 (subst (λ found. AnswersPending s n p found D) known.1 took.0) (shapes s n rep D took.1) (turned.turns_are, turned.taken) in
    turned_by s n rep (did.Act p k) D _ refl (answers_more p k rep known.0 D known.1)
    (subst (λ found. AreBy (turns_after s n p rep found D (turns s n rep D)) (asks_of s n rep D ++ gifts_ask rep (gifts s n (did.Act p k) D (work s n D))) (answers_of rep D ++ cond (p == rep.owner) (cons_option (answer_in rep.index known.0) []) [])) (sym known.1) own)

clean_turned : (s n : ℕ) (rep other : WireRep) (D : List Deed) → is_granted (turns s n other D) ≡ true → IsTurned s n rep D → IsTurned s n rep (did.Clean other ∷ D)
clean_turned s n rep other D granted turned =
    let asks : (turns s n other D).asks ≡ true = (granted_answered (turns s n other D) granted).0 in
    let asked = clean_asked s n rep other D asks (λ same. asks_peer s n other D asks) ∙ ap (λ (b : Bool). cond b (false ∷ []) []) (same_flip other rep) in
    turned_by s n rep (did.Clean other) D (answers_of rep D) refl refl
    (subst (λ more. AreBy (turns s n rep (did.Clean other ∷ D)) (asks_of s n rep D ++ more) (answers_of rep D)) (sym asked)
    (clean_step (is_same rep other) (turns s n rep D) (asks_of s n rep D) (answers_of rep D) (λ same. subst (λ (r : WireRep). is_granted (turns s n r D) ≡ true) (sym (same_ref rep other same)) granted) (turned.turns_are, turned.taken)))

-- before anything is asked in a session
turned_none : (s n : ℕ) (rep : WireRep) (D : List Deed) → turns s n rep D ≡ no_turns → asks_of s n rep D ≡ [] → answers_of rep D ≡ [] → IsTurned s n rep D
turned_none s n rep D turned asked answered =
    let own : AreBy (turns s n rep D) (asks_of s n rep D) (answers_of rep D) =
    subst (λ t. AreBy t (asks_of s n rep D) (answers_of rep D)) (sym turned)
    (subst (λ asks. AreBy no_turns asks (answers_of rep D)) (sym asked)
    (subst (λ answers. AreBy no_turns [] answers) (sym answered) (refl, none_asked))) in
    record { turns_are = own.0; taken = own.1 }

-- a session with the owner that opens begins so
opened_turned : (s n : ℕ) (limits : Limits) (rep : WireRep) (q k : ℕ) (D : List Deed) → AreRightDeeds s n limits (did.Open q k ∷ D) → IsTurned s n rep D → IsTurned s n rep (did.Open q k ∷ D)
opened_turned s n limits rep q k D right turned = by (q == rep.owner) refl
  where
    answered : (own : Bool) → (q == rep.owner) ≡ own → answers_of rep (did.Open q k ∷ D) ≡ answers_among rep.index (items_among (cond own [] (acted rep.owner D)))
    answered own is = ap (λ (b : Bool). answers_among rep.index (items_among (cond b [] (acted rep.owner D)))) is

    turns_then : (own : Bool) → (q == rep.owner) ≡ own → turns s n rep (did.Open q k ∷ D) ≡ cond own no_turns (turns s n rep D)
    turns_then own is = ap (λ (b : Bool). cond b no_turns (turns s n rep D)) is

    by : (own : Bool) → (q == rep.owner) ≡ own → IsTurned s n rep (did.Open q k ∷ D)
    by true own = turned_none s n rep (did.Open q k ∷ D) (turns_then true own) (ap (asks_among rep.index) (none_sent_new s n rep.owner limits (did.Open q k) D right (opens_above s n rep.owner limits (did.Open q k) D right.0 own))) (answered true own)
    by false other = other_turned s n rep (did.Open q k) D (number_kept rep.owner (did.Open q k) D other) refl (answered false other) (turns_then false other) turned

-- in every list of right deeds client and owner took turns
pub are_turned : (s n : ℕ) (limits : Limits) (rep : WireRep) (D : List Deed) → AreRightDeeds s n limits D → IsTurned s n rep D
are_turned s n limits rep [] right = record { turns_are = refl; taken = none_asked }
are_turned s n limits rep (did.Act p k ∷ D) right = act_turned s n limits rep p k D right (are_turned s n limits rep D right.1)
are_turned s n limits rep (did.Clean other ∷ D) right = clean_turned s n rep other D (took_turns s n limits (did.Clean other ∷ D) right).0 (are_turned s n limits rep D right.1)
are_turned s n limits rep (did.Open q k ∷ D) right = opened_turned s n limits rep q k D right (are_turned s n limits rep D right.1)
are_turned s n limits rep (deed ∷ D) right = other_turned s n rep deed D refl refl refl refl (are_turned s n limits rep D right.1)
