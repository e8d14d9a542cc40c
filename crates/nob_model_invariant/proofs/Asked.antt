-- What a space asks of the owner of a reference by one deed more: a Dirty where it acts on an item that carries the
-- reference and wants it, a Clean where it gives it up.
use Rattle.std.proofs.Common.{◌≡◌, ℕ, ◌&&◌, ◌||◌, not, Bool, true, false, cond, List, [], ◌∷◌, ◌++◌, map, filter, filter_map, find, Option, Some, None, refl, sym, ap, ◌∙◌}
use Rattle.std.specs.Prelude.{◌==◌}
use Rattle.std.specs.List.{AllByRecursion, list_any, cons_option}
use Rattle.std.proofs.lemmas.List.Elements.{filter_map-append}
use Rattle.std.proofs.lemmas.Bool.{and_parts}
use Rattle.nob_ids.specs.Names.{is_same}
use Rattle.nob_ids.specs.declared.wire_rep.WireRep.{WireRep}
use Rattle.nob_item.specs.Kinds.{counted_in}
use Rattle.nob_item.specs.declared.item.Item.{Item}
use Rattle.nob_item.specs.declared.item.Item.TheVariants as items
use Rattle.nob_model_types.specs.declared.event.Outcome.{Outcome}
use Rattle.nob_model_types.specs.declared.deed.Deed.{Deed}
use Rattle.nob_model_types.specs.declared.deed.Deed.TheVariants as did
use Rattle.nob_model_types.specs.declared.message.Message.{Message}
use Rattle.nob_model_types.specs.Sessions.{is_peer, number, item_at}
use Rattle.nob_model_types.specs.Objects.{is_live, is_exported}
use Rattle.nob_model_types.specs.Turns.{turns, wants_dirty, carries}
use Rattle.nob_model_types.specs.Messages.{is_of, is_lost_message}
use Rattle.nob_model_work.specs.declared.gifts.Gift.{Gift}
use Rattle.nob_model_work.specs.declared.work.Run.{Run}
use Rattle.nob_model_work.specs.Work.{work, is_run}
use Rattle.nob_model_work.specs.Gifts.{once, dirty_for, dirties_for, answer_to, gifts_of_act, lost_call_reply, gifts_of_settle, reply_to, gifts_of_finish, gifts_of, gifts}
use Rattle.nob_model_history.specs.Histories.{history_of}
use Rattle.nob_model_history.specs.Ends.{items_to}
use Rattle.nob_model_history.specs.Transit.{sent}
use Rattle.nob_model_history.proofs.Numbered.{items_sent_in, gifts_sent_now}
use Rattle.nob_model_history.proofs.Dirtying.{same_flip}
use Rattle.nob_model_history.proofs.Turning.{same_ref}
use Rattle.nob_model_history.proofs.Unasked.{is_message}
use Rattle.nob_model.proofs.Carrying.{all_filter}
use Rattle.nob_model_invariant.specs.Asking.{ask_in, asks_among}

-- what space s asked of the owner of a reference in the session in which it is
abbrev pub asks_of : (s n : ℕ) → WireRep → List Deed → List Bool
asks_of s n rep D = asks_among rep.index (items_sent_in rep.owner (number rep.owner D) (sent (history_of s n D)))

-- what a gift asks of the owner of a reference
abbrev pub gift_asks : WireRep → Gift → Option Bool
gift_asks rep gift = cond (gift.to == rep.owner) (ask_in rep.index gift.item) None

-- what gifts ask of it
abbrev pub gifts_ask : WireRep → List Gift → List Bool
gifts_ask rep more = filter_map (gift_asks rep) more

to_owner : (rep : WireRep) (own : Bool) (gift : Gift) (more : List Gift) → asks_among rep.index (map (λ (one : Gift). one.item) more) ≡ asks_among rep.index (map (λ (one : Gift). one.item) more) → asks_among rep.index (map (λ (one : Gift). one.item) (cond own (gift ∷ more) more)) ≡ cons_option (cond own (ask_in rep.index gift.item) None) (asks_among rep.index (map (λ (one : Gift). one.item) more))
to_owner rep true gift more same = refl
to_owner rep false gift more same = refl

-- what the items to the owner ask for is what the gifts ask
asks_to : (rep : WireRep) (more : List Gift) → asks_among rep.index (items_to rep.owner more) ≡ gifts_ask rep more
asks_to rep [] = refl
asks_to rep (gift ∷ more) = to_owner rep (gift.to == rep.owner) gift (filter (λ (one : Gift). one.to == rep.owner) more) refl ∙ ap (cons_option (gift_asks rep gift)) (asks_to rep more)

-- by one deed more that is asked which its gifts ask
pub asks_more : (s n : ℕ) (rep : WireRep) (deed : Deed) (D : List Deed) → number rep.owner (deed ∷ D) ≡ number rep.owner D → asks_of s n rep (deed ∷ D) ≡ asks_of s n rep D ++ gifts_ask rep (gifts s n deed D (work s n D))
asks_more s n rep deed D same =
    let more : List Gift = gifts s n deed D (work s n D) in
    ap (λ (k : ℕ). asks_among rep.index (items_sent_in rep.owner k (sent (history_of s n (deed ∷ D))))) same
    ∙ ap (asks_among rep.index) (gifts_sent_now rep.owner D more (sent (history_of s n D)))
    ∙ filter_map-append (ask_in rep.index) (items_sent_in rep.owner (number rep.owner D) (sent (history_of s n D))) (items_to rep.owner more)
    ∙ ap (λ bs. asks_of s n rep D ++ bs) (asks_to rep more)

-- ---- gifts that ask for nothing

-- no gift among some is a Dirty or a Clean for an index
abbrev pub AskNone : ℕ → List Gift → Type 0
AskNone x more = AllByRecursion (λ (gift : Gift). ask_in x gift.item ≡ None) more

-- no ask
abbrev no_ask : Option Bool
no_ask = None

none_either : (own : Bool) → cond own no_ask no_ask ≡ no_ask
none_either true = refl
none_either false = refl

none_asked : (rep : WireRep) (more : List Gift) → AskNone rep.index more → gifts_ask rep more ≡ []
none_asked rep [] are = refl
none_asked rep (gift ∷ more) are =
    ap (λ ask. cons_option (cond (gift.to == rep.owner) ask None) (gifts_ask rep more)) are.0
    ∙ ap (λ ask. cons_option ask (gifts_ask rep more)) (none_either (gift.to == rep.owner))
    ∙ none_asked rep more are.1

reply_none : (x p : ℕ) (item : Item) (outcome : Outcome) → AskNone x (reply_to p item outcome)
unfolding reply_to
reply_none x p (items.Call call target method value) outcome = (refl, tt)
reply_none x p (items.Reply call status value) outcome = tt
reply_none x p (items.Settle item) outcome = tt
reply_none x p (items.Dirty index) outcome = tt
reply_none x p (items.DirtyOk index) outcome = tt
reply_none x p (items.DirtyNo index) outcome = tt
reply_none x p (items.Clean index) outcome = tt

finish_none : (x : ℕ) (outcome : Outcome) (found : Option Run) → AskNone x (gifts_of_finish outcome found)
unfolding gifts_of_finish
finish_none x outcome None = tt
finish_none x outcome (Some run) = reply_none x run.message.from run.message.item outcome

lost_none : (x p : ℕ) (item : Item) (lost : Bool) → AskNone x (lost_call_reply p item lost)
unfolding lost_call_reply
lost_none x p (items.Call call target method value) true = (refl, tt)
lost_none x p (items.Call call target method value) false = tt
lost_none x p (items.Reply call status value) lost = tt
lost_none x p (items.Settle item) lost = tt
lost_none x p (items.Dirty index) lost = tt
lost_none x p (items.DirtyOk index) lost = tt
lost_none x p (items.DirtyNo index) lost = tt
lost_none x p (items.Clean index) lost = tt

settle_none : (x s n p k : ℕ) (D : List Deed) (found : Option Message) → AskNone x (gifts_of_settle s n p k D found)
unfolding gifts_of_settle
settle_none x s n p k D None = tt
settle_none x s n p k D (Some message) = (refl, lost_none x p message.item (is_lost_message s n D message))

answer_none : (x p index : ℕ) (alive known : Bool) → AskNone x (cond alive (record { to = p; item = items.DirtyOk index } ∷ []) (cond known (record { to = p; item = items.DirtyNo index } ∷ []) []))
answer_none x p index true known = (refl, tt)
answer_none x p index false true = (refl, tt)
answer_none x p index false false = tt

act_none : (x s n p : ℕ) (D : List Deed) (found : Option Item) → is_message found ≡ false → AskNone x (gifts_of_act s n p D found)
unfolding gifts_of_act answer_to
act_none x s n p D None none = tt
act_none x s n p D (Some (items.Call call target method value)) none = cc
act_none x s n p D (Some (items.Reply call status value)) none = cc
act_none x s n p D (Some (items.Settle item)) none = tt
act_none x s n p D (Some (items.Dirty index)) none = answer_none x p index (is_live s index D) (is_exported s index D)
act_none x s n p D (Some (items.DirtyOk index)) none = tt
act_none x s n p D (Some (items.DirtyNo index)) none = tt
act_none x s n p D (Some (items.Clean index)) none = tt

-- whether a deed may ask for something: an Act on a Call or a Reply, and a Clean
abbrev pub may_ask : Deed → List Deed → Bool
may_ask (did.Act p k) D = is_message (item_at p k D)
may_ask (did.Clean rep) D = true
may_ask (_) D = false

gives_none : (x s n : ℕ) (deed : Deed) (D : List Deed) → may_ask deed D ≡ false → AskNone x (gifts_of s n deed D (work s n D))
unfolding gifts_of
gives_none x s n (did.Call target method value call) D none = (refl, tt)
gives_none x s n (did.Finish job outcome) D none = finish_none x outcome (find (is_run job) (work s n D).running)
gives_none x s n (did.Act p k) D none = act_none x s n p D (item_at p k D) none
gives_none x s n (did.Settle p k) D none = settle_none x s n p k D (find (is_of p k) (work s n D).waiting)
gives_none x s n (did.Clean rep) D none = cc
gives_none x s n deed D none = tt

-- other deeds ask for nothing
pub asks_nothing : (s n : ℕ) (rep : WireRep) (deed : Deed) (D : List Deed) → may_ask deed D ≡ false → gifts_ask rep (gifts s n deed D (work s n D)) ≡ []
unfolding gifts
asks_nothing s n rep deed D none = none_asked rep (filter (λ (gift : Gift). is_peer s n gift.to) (gifts_of s n deed D (work s n D))) (all_filter (λ (gift : Gift). ask_in rep.index gift.item ≡ None) (λ (gift : Gift). is_peer s n gift.to) (gifts_of s n deed D (work s n D)) (gives_none rep.index s n deed D none))

-- ---- Cleans

clean_by : (s n : ℕ) (rep other : WireRep) (peer : Bool) → is_peer s n other.owner ≡ peer → (is_same other rep ≡ true → peer ≡ true) → gifts_ask rep (filter (λ (gift : Gift). is_peer s n gift.to) (record { to = other.owner; item = items.Clean other.index } ∷ [])) ≡ cond (is_same other rep) (false ∷ []) []
clean_by s n rep other true is needs =
    ap (λ (b : Bool). gifts_ask rep (cond b (record { to = other.owner; item = items.Clean other.index } ∷ []) [])) is
    ∙ both_tests (other.owner == rep.owner) (other.index == rep.index)
  where
    both_tests : (a b : Bool) → cons_option (cond a (cond b (Some false) None) None) [] ≡ cond (a && b) (false ∷ []) []
    both_tests true true = refl
    both_tests true false = refl
    both_tests false b = refl
clean_by s n rep other false is needs =
    ap (λ (b : Bool). gifts_ask rep (cond b (record { to = other.owner; item = items.Clean other.index } ∷ []) [])) is
    ∙ ap (λ (b : Bool). cond b (false ∷ []) []) (sym (not_same (is_same other rep) needs))
  where
    not_same : (b : Bool) → (b ≡ true → false ≡ true) → b ≡ false
    not_same true absent = absurd (let clash = absent refl in cc)
    not_same false absent = refl

clean_asks : (s n : ℕ) (rep other : WireRep) (asks : Bool) → asks ≡ true → (is_same other rep ≡ true → is_peer s n other.owner ≡ true) → gifts_ask rep (filter (λ (gift : Gift). is_peer s n gift.to) (cond asks (record { to = other.owner; item = items.Clean other.index } ∷ []) [])) ≡ cond (is_same other rep) (false ∷ []) []
clean_asks s n rep other true asks peer = clean_by s n rep other (is_peer s n other.owner) refl peer
clean_asks s n rep other false asks peer = cc

-- a Clean of a reference that was asked for asks so of its owner
pub clean_asked : (s n : ℕ) (rep other : WireRep) (D : List Deed) → (turns s n other D).asks ≡ true → (is_same other rep ≡ true → is_peer s n other.owner ≡ true) → gifts_ask rep (gifts s n (did.Clean other) D (work s n D)) ≡ cond (is_same other rep) (false ∷ []) []
unfolding gifts gifts_of
clean_asked s n rep other D asks peer = clean_asks s n rep other (turns s n other D).asks asks peer

-- ---- Dirties

module _ (s n : ℕ) (rep : WireRep) (wants : WireRep → Bool) (peers : (r : WireRep) → wants r ≡ true → is_peer s n r.owner ≡ true) where
  -- what the Dirties for references ask
  asked_for : List WireRep → List Bool
  asked_for reps = gifts_ask rep (filter (λ (gift : Gift). is_peer s n gift.to) (map dirty_for (filter wants reps)))

  tests : (a b : Bool) (rest : List Bool) → cons_option (cond a (cond b (Some true) None) None) rest ≡ cond (a && b) (true ∷ rest) rest
  tests true true rest = refl
  tests true false rest = refl
  tests false b rest = refl

  wanted_step : (r : WireRep) (reps : List WireRep) (wanted : Bool) → wants r ≡ wanted → gifts_ask rep (filter (λ (gift : Gift). is_peer s n gift.to) (map dirty_for (cond wanted (r ∷ filter wants reps) (filter wants reps)))) ≡ cond (is_same r rep && wanted) (true ∷ asked_for reps) (asked_for reps)
  unfolding dirty_for asked_for
  wanted_step r reps true is =
      ap (λ (b : Bool). gifts_ask rep (cond b (record { to = r.owner; item = items.Dirty r.index } ∷ filter (λ (gift : Gift). is_peer s n gift.to) (map dirty_for (filter wants reps))) (filter (λ (gift : Gift). is_peer s n gift.to) (map dirty_for (filter wants reps))))) (peers r is)
      ∙ tests (r.owner == rep.owner) (r.index == rep.index) (asked_for reps)
      ∙ ap (λ (b : Bool). cond b (true ∷ asked_for reps) (asked_for reps)) (sym (with_true (is_same r rep)))
    where
      with_true : (b : Bool) → (b && true) ≡ b
      with_true true = refl
      with_true false = refl
  wanted_step r reps false is = ap (λ (b : Bool). cond b (true ∷ asked_for reps) (asked_for reps)) (sym (with_false (is_same r rep)))
    where
      with_false : (b : Bool) → (b && false) ≡ false
      with_false true = refl
      with_false false = refl

  asked_step : (r : WireRep) (reps : List WireRep) → asked_for (r ∷ reps) ≡ cond (is_same r rep && wants r) (true ∷ asked_for reps) (asked_for reps)
  unfolding asked_for
  asked_step r reps = wanted_step r reps (wants r) refl

  other_step : (r : WireRep) (reps : List WireRep) → is_same r rep ≡ false → asked_for (r ∷ reps) ≡ asked_for reps
  other_step r reps other = asked_step r reps ∙ ap (λ (b : Bool). cond (b && wants r) (true ∷ asked_for reps) (asked_for reps)) other

  -- without the reference itself nothing is asked for it
  without_own : (first : WireRep) → first ≡ rep → (reps : List WireRep) → asked_for (filter (λ (other : WireRep). not (is_same first other)) reps) ≡ []
  unfolding asked_for
  without_own first is [] = refl
  without_own first is (r ∷ reps) = own_step (without_own first is reps) (is_same first r) refl
    where
      own_step : asked_for (filter (λ (other : WireRep). not (is_same first other)) reps) ≡ [] → (b : Bool) → is_same first r ≡ b → asked_for (cond (not b) (r ∷ filter (λ (other : WireRep). not (is_same first other)) reps) (filter (λ (other : WireRep). not (is_same first other)) reps)) ≡ []
      own_step rest true same = rest
      own_step rest false same = other_step r (filter (λ (other : WireRep). not (is_same first other)) reps) (same_flip r rep ∙ ap (λ (q : WireRep). is_same q r) (sym is) ∙ same) ∙ rest

  -- without another nothing changes
  without_other : (first : WireRep) → is_same first rep ≡ false → (reps : List WireRep) → asked_for (filter (λ (other : WireRep). not (is_same first other)) reps) ≡ asked_for reps
  without_other first other [] = refl
  without_other first other (r ∷ reps) = less_step (without_other first other reps) (is_same first r) refl
    where
      less_step : asked_for (filter (λ (other : WireRep). not (is_same first other)) reps) ≡ asked_for reps → (b : Bool) → is_same first r ≡ b → asked_for (cond (not b) (r ∷ filter (λ (other : WireRep). not (is_same first other)) reps) (filter (λ (other : WireRep). not (is_same first other)) reps)) ≡ asked_for (r ∷ reps)
      less_step rest true same = rest ∙ sym (other_step r reps (ap (λ (q : WireRep). is_same q rep) (sym (same_ref first r same)) ∙ other))
      less_step rest false same =
          asked_step r (filter (λ (other : WireRep). not (is_same first other)) reps)
          ∙ ap (λ bs. cond (is_same r rep && wants r) (true ∷ bs) bs) rest
          ∙ sym (asked_step r reps)

  -- each reference once: the reference is asked for if it is among them and wanted
  once_asked : (reps : List WireRep) → asked_for (once reps) ≡ cond (list_any (is_same rep) reps && wants rep) (true ∷ []) []
  unfolding asked_for
  once_asked [] = refl
  once_asked (r ∷ reps) = asked_step r (filter (λ (other : WireRep). not (is_same r other)) (once reps)) ∙ first_step (once_asked reps) (is_same r rep) refl
    where
      first_step : asked_for (once reps) ≡ cond (list_any (is_same rep) reps && wants rep) (true ∷ []) [] → (b : Bool) → is_same r rep ≡ b → cond (b && wants r) (true ∷ asked_for (filter (λ (other : WireRep). not (is_same r other)) (once reps))) (asked_for (filter (λ (other : WireRep). not (is_same r other)) (once reps))) ≡ cond ((is_same rep r || list_any (is_same rep) reps) && wants rep) (true ∷ []) []
      first_step rest true same =
          ap (λ bs. cond (wants r) (true ∷ bs) bs) (without_own r (same_ref r rep same) (once reps))
          ∙ ap (λ (q : WireRep). cond (wants q) (true ∷ []) []) (same_ref r rep same)
          ∙ ap (λ (b : Bool). cond ((b || list_any (is_same rep) reps) && wants rep) (true ∷ []) []) (sym (same_flip rep r ∙ same))
      first_step rest false other =
          without_other r other (once reps) ∙ rest
          ∙ ap (λ (b : Bool). cond ((b || list_any (is_same rep) reps) && wants rep) (true ∷ []) []) (sym (same_flip rep r ∙ other))

-- acting on a Call or a Reply asks for a reference that it carries and that wants a Dirty
pub message_asked : (s n p k : ℕ) (rep : WireRep) (item : Item) (D : List Deed) → item_at p k D ≡ Some item → gifts_of_act s n p D (Some item) ≡ dirties_for s n D (counted_in item) → gifts_ask rep (gifts s n (did.Act p k) D (work s n D)) ≡ cond (carries rep item && wants_dirty s n rep D (turns s n rep D)) (true ∷ []) []
unfolding gifts gifts_of dirties_for asked_for
message_asked s n p k rep item D is message =
    let wants : WireRep → Bool = λ (r : WireRep). wants_dirty s n r D (turns s n r D) in
    ap (λ (found : Option Item). gifts_ask rep (filter (λ (gift : Gift). is_peer s n gift.to) (gifts_of_act s n p D found))) is
    ∙ ap (λ (more : List Gift). gifts_ask rep (filter (λ (gift : Gift). is_peer s n gift.to) more)) message
    ∙ once_asked s n rep wants (λ r wanted. (and_parts _ _ (and_parts _ _ wanted).0).0) (counted_in item)
