-- Deeds that ask for nothing, and those that leave the surrogates as they were.
use Rattle.std.proofs.Common.{◌≡◌, ℕ, ◌&&◌, ◌||◌, not, Bool, true, false, cond, List, [], ◌∷◌, ◌++◌, filter, find, Option, Some, None, refl, sym, ap, subst, ◌∙◌, ◌⊎◌, inl, inr}
use Rattle.std.specs.Prelude.{◌==◌}
use Rattle.std.specs.List.{AllByRecursion, cons_option}
use Rattle.std.proofs.lemmas.List.{append-nil}
use Rattle.std.proofs.lemmas.Bool.{eqb-true, not-false, or_left, or_right}
use Rattle.nob_ids.specs.declared.wire_rep.WireRep.{WireRep}
use Rattle.nob_item.specs.declared.item.Item.{Item}
use Rattle.nob_item.specs.declared.item.Item.TheVariants as items
use Rattle.nob_model_types.specs.declared.event.Outcome.{Outcome}
use Rattle.nob_model_types.specs.declared.deed.Deed.{Deed}
use Rattle.nob_model_types.specs.declared.deed.Deed.TheVariants as did
use Rattle.nob_model_types.specs.declared.message.Message.{Message}
use Rattle.nob_model_types.specs.declared.turns.OwnerAnswer.{OwnerAnswer}
use Rattle.nob_model_types.specs.declared.turns.OwnerAnswer.TheVariants as said
use Rattle.nob_model_types.specs.declared.turns.Turns.{Turns}
use Rattle.nob_model_types.specs.Sessions.{is_peer, closed, item_at}
use Rattle.nob_model_types.specs.Objects.{is_live, is_exported}
use Rattle.nob_model_types.specs.Turns.{turns, turns_after, is_pending, is_granted, is_refused, is_standing, is_yes, is_no, with_answer, names}
use Rattle.nob_model_types.specs.Messages.{is_of, is_lost_message}
use Rattle.nob_model_work.specs.declared.gifts.Gift.{Gift}
use Rattle.nob_model_work.specs.declared.work.Run.{Run}
use Rattle.nob_model_work.specs.Work.{is_run, work}
use Rattle.nob_model_work.specs.Gifts.{answer_to, gifts_of_act, lost_call_reply, gifts_of_settle, reply_to, gifts_of_finish, gifts_of, gifts}
use Rattle.nob_model_history.specs.Histories.{history_of}
use Rattle.nob_model_history.specs.Premises.{AnswersPending, TookTurns}
use Rattle.nob_model_history.specs.Transit.{asks_for, dirties, surrogates}
use Rattle.nob_model_history.proofs.Dirtying.{asked_in, dirties_more}
use Rattle.nob_model_history.proofs.Surrogates.{has_surrogate, anew_none, surrogates_kept}
use Rattle.nob_model_history.proofs.Turning.{after_answer, named_ref}

-- whether an item is a Call or a Reply
abbrev pub is_message : Option Item → Bool
is_message None = false
is_message (Some (items.Call call target method value)) = true
is_message (Some (items.Reply call status value)) = true
is_message (Some (items.Settle item)) = false
is_message (Some (items.Dirty index)) = false
is_message (Some (items.DirtyOk index)) = false
is_message (Some (items.DirtyNo index)) = false
is_message (Some (items.Clean index)) = false

-- whether a deed acts on a Call or a Reply
abbrev pub acts_on_message : Deed → List Deed → Bool
acts_on_message (did.Act p k) D = is_message (item_at p k D)
acts_on_message (_) D = false

-- ---- what is asked for

-- no gift among some is a Dirty
abbrev pub AskNothing : List Gift → Type 0
AskNothing more = AllByRecursion (λ (gift : Gift). asks_for gift.to gift.item ≡ None) more

none_step : (b : Bool) (gift : Gift) (rest : List Gift) → asks_for gift.to gift.item ≡ None → asked_in rest ≡ [] → asked_in (cond b (gift ∷ rest) rest) ≡ []
none_step true gift rest none before = ap (λ (found : Option WireRep). cons_option found (asked_in rest)) none ∙ before
none_step false gift rest none before = before

none_asked : (test : Gift → Bool) (more : List Gift) → AskNothing more → asked_in (filter test more) ≡ []
none_asked test [] are = refl
none_asked test (gift ∷ more) are = none_step (test gift) gift (filter test more) are.0 (none_asked test more are.1)

reply_asks : (p : ℕ) (item : Item) (outcome : Outcome) → AskNothing (reply_to p item outcome)
unfolding reply_to
reply_asks p (items.Call call target method value) outcome = (refl, tt)
reply_asks p (items.Reply call status value) outcome = tt
reply_asks p (items.Settle item) outcome = tt
reply_asks p (items.Dirty index) outcome = tt
reply_asks p (items.DirtyOk index) outcome = tt
reply_asks p (items.DirtyNo index) outcome = tt
reply_asks p (items.Clean index) outcome = tt

finish_asks : (outcome : Outcome) (found : Option Run) → AskNothing (gifts_of_finish outcome found)
unfolding gifts_of_finish
finish_asks outcome None = tt
finish_asks outcome (Some run) = reply_asks run.message.from run.message.item outcome

lost_asks : (p : ℕ) (item : Item) (lost : Bool) → AskNothing (lost_call_reply p item lost)
unfolding lost_call_reply
lost_asks p (items.Call call target method value) true = (refl, tt)
lost_asks p (items.Call call target method value) false = tt
lost_asks p (items.Reply call status value) lost = tt
lost_asks p (items.Settle item) lost = tt
lost_asks p (items.Dirty index) lost = tt
lost_asks p (items.DirtyOk index) lost = tt
lost_asks p (items.DirtyNo index) lost = tt
lost_asks p (items.Clean index) lost = tt

settle_asks : (s n p k : ℕ) (D : List Deed) (found : Option Message) → AskNothing (gifts_of_settle s n p k D found)
unfolding gifts_of_settle
settle_asks s n p k D None = tt
settle_asks s n p k D (Some message) = (refl, lost_asks p message.item (is_lost_message s n D message))

answer_asks : (p index : ℕ) (alive known : Bool) → AskNothing (cond alive (record { to = p; item = items.DirtyOk index } ∷ []) (cond known (record { to = p; item = items.DirtyNo index } ∷ []) []))
answer_asks p index true known = (refl, tt)
answer_asks p index false true = (refl, tt)
answer_asks p index false false = tt

act_asks : (s n p : ℕ) (D : List Deed) (found : Option Item) → is_message found ≡ false → AskNothing (gifts_of_act s n p D found)
unfolding gifts_of_act answer_to
act_asks s n p D None none = tt
act_asks s n p D (Some (items.Call call target method value)) none = cc
act_asks s n p D (Some (items.Reply call status value)) none = cc
act_asks s n p D (Some (items.Settle item)) none = tt
act_asks s n p D (Some (items.Dirty index)) none = answer_asks p index (is_live s index D) (is_exported s index D)
act_asks s n p D (Some (items.DirtyOk index)) none = tt
act_asks s n p D (Some (items.DirtyNo index)) none = tt
act_asks s n p D (Some (items.Clean index)) none = tt

clean_asks : (rep : WireRep) (asks : Bool) → AskNothing (cond asks (record { to = rep.owner; item = items.Clean rep.index } ∷ []) [])
clean_asks rep true = (refl, tt)
clean_asks rep false = tt

-- no deed but an Act on a Call or a Reply gives a Dirty
pub gives_no_dirty : (s n : ℕ) (deed : Deed) (D : List Deed) → acts_on_message deed D ≡ false → AskNothing (gifts_of s n deed D (work s n D))
unfolding gifts_of
gives_no_dirty s n (did.Call target method value call) D none = (refl, tt)
gives_no_dirty s n (did.Finish job outcome) D none = finish_asks outcome (find (is_run job) (work s n D).running)
gives_no_dirty s n (did.Act p k) D none = act_asks s n p D (item_at p k D) none
gives_no_dirty s n (did.Settle p k) D none = settle_asks s n p k D (find (is_of p k) (work s n D).waiting)
gives_no_dirty s n (did.Clean rep) D none = clean_asks rep (turns s n rep D).asks
gives_no_dirty s n deed D none = tt

-- so it asks for nothing
pub asks_nothing : (s n : ℕ) (deed : Deed) (D : List Deed) → acts_on_message deed D ≡ false → asked_in (gifts s n deed D (work s n D)) ≡ []
unfolding gifts
asks_nothing s n deed D none = none_asked (λ (gift : Gift). is_peer s n gift.to) (gifts_of s n deed D (work s n D)) (gives_no_dirty s n deed D none)

-- no deed but an Act on a Call or a Reply changes the Dirties that were sent
pub dirties_same : (s n : ℕ) (deed : Deed) (D : List Deed) → acts_on_message deed D ≡ false → dirties (history_of s n (deed ∷ D)) ≡ dirties (history_of s n D)
dirties_same s n deed D none = dirties_more s n deed D ∙ ap (λ (reps : List WireRep). dirties (history_of s n D) ++ reps) (asks_nothing s n deed D none) ∙ append-nil (dirties (history_of s n D))

-- ---- surrogates

-- whether a deed may change the surrogates: an Act on a Call or a Reply, a Clean, a closing, an Open of a session that is open
abbrev pub moves_surrogates : Deed → List Deed → Bool
moves_surrogates (did.Act p k) D = is_message (item_at p k D)
moves_surrogates (did.Clean rep) D = true
moves_surrogates (did.Closing p reason cause) D = true
moves_surrogates (did.Open p k) D = not (closed p D)
moves_surrogates (_) D = false

still_asks_nothing : (deed : Deed) (D : List Deed) → moves_surrogates deed D ≡ false → acts_on_message deed D ≡ false
still_asks_nothing (did.Act p k) D none = none
still_asks_nothing deed D none = refl

answered_standing : (answer : OwnerAnswer) → (answer ≡ said.Granted) ⊎ (answer ≡ said.Refused) → (t : Turns) → is_pending t ≡ true → is_standing (with_answer answer t) ≡ is_standing t
answered_standing answer (inl ok) t pending =
    or_left _ (is_refused (with_answer answer t)) (or_right (is_pending (with_answer answer t)) _ ((after_answer answer t pending).1 ∙ ap is_yes ok))
    ∙ sym (or_left _ _ (or_left _ _ pending))
answered_standing answer (inr denied) t pending =
    or_right (is_pending (with_answer answer t) || is_granted (with_answer answer t)) _ ((after_answer answer t pending).2 ∙ ap is_no denied)
    ∙ sym (or_left _ _ (or_left _ _ pending))

answer_standing : (answer : OwnerAnswer) → (answer ≡ said.Granted) ⊎ (answer ≡ said.Refused) → (b : Bool) (t : Turns) → (b ≡ true → is_pending t ≡ true) → is_standing (cond b (with_answer answer t) t) ≡ is_standing t
answer_standing answer which true t pending = answered_standing answer which t (pending refl)
answer_standing answer which false t pending = refl

-- an item that is no Call and no Reply leaves each reference with a surrogate or without one
item_standing : (s n p : ℕ) (rep : WireRep) (found : Option Item) (D : List Deed) → AnswersPending s n p found D → is_message found ≡ false → is_standing (turns_after s n p rep found D (turns s n rep D)) ≡ is_standing (turns s n rep D)
item_standing s n p rep None D answers none = refl
item_standing s n p rep (Some (items.Call call target method value)) D answers none = cc
item_standing s n p rep (Some (items.Reply call status value)) D answers none = cc
item_standing s n p rep (Some (items.Settle item)) D answers none = refl
item_standing s n p rep (Some (items.Dirty index)) D answers none = refl
item_standing s n p rep (Some (items.DirtyOk index)) D answers none = answer_standing said.Granted (inl refl) (names rep p index) (turns s n rep D) (λ named. subst (λ (r : WireRep). is_pending (turns s n r D) ≡ true) (named_ref rep p index named) answers)
item_standing s n p rep (Some (items.DirtyNo index)) D answers none = answer_standing said.Refused (inr refl) (names rep p index) (turns s n rep D) (λ named. subst (λ (r : WireRep). is_pending (turns s n r D) ≡ true) (named_ref rep p index named) answers)
item_standing s n p rep (Some (items.Clean index)) D answers none = refl

surrogate_same : (s n : ℕ) (deed : Deed) (D : List Deed) → TookTurns s n (deed ∷ D) → moves_surrogates deed D ≡ false → (rep : WireRep) → has_surrogate s n (deed ∷ D) rep ≡ has_surrogate s n D rep
surrogate_same s n (did.Act p k) D took none rep = ap (λ (b : Bool). b && not (closed rep.owner D)) (item_standing s n p rep (item_at p k D) D took.0 none)
surrogate_same s n (did.Clean other) D took none rep = cc
surrogate_same s n (did.Closing p reason cause) D took none rep = cc
surrogate_same s n (did.Open p k) D took none rep = anew_none (p == rep.owner) (turns s n rep D) (closed rep.owner D) (λ own. subst (λ (q : ℕ). closed q D ≡ true) (eqb-true p rep.owner own) (not-false (closed p D) none))
surrogate_same s n deed D took none rep = refl

-- where client and owner took turns no deed but an Act on a Call or a Reply, a Clean, a closing and an Open of an open session changes the surrogates
pub surrogates_same : (s n : ℕ) (deed : Deed) (D : List Deed) → TookTurns s n (deed ∷ D) → moves_surrogates deed D ≡ false → surrogates s n (history_of s n (deed ∷ D)) ≡ surrogates s n (history_of s n D)
surrogates_same s n deed D took none = surrogates_kept s n deed D (asks_nothing s n deed D (still_asks_nothing deed D none)) (surrogate_same s n deed D took none)
