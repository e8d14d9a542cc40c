-- In every list of right deeds all that comes from outside comes from peers, and all that is sent goes to peers.
use Rattle.std.proofs.Common.{◌≡◌, ℕ, ◌≤◌, ◌&&◌, not, Bool, true, false, cond, List, [], ◌∷◌, ◌++◌, map, filter, Option, Some, None, refl, sym, ap, subst, ◌∙◌}
use Rattle.std.specs.Prelude.{◌==◌, nat_le}
use Rattle.std.specs.List.{AllByRecursion}
use Rattle.std.proofs.lemmas.Bool.{eqb-true, ne_eqb, and_parts, leb-true, both_ways, false_from_ne_true}
use Rattle.nob_ids.specs.Names.{is_same}
use Rattle.nob_ids.specs.declared.limits.Limits.{Limits}
use Rattle.nob_ids.specs.declared.wire_rep.WireRep.{WireRep}
use Rattle.nob_frame.specs.declared.frame.Frame.{Frame}
use Rattle.nob_model_session.specs.declared.entry.EndEntry.{EndEntry}
use Rattle.nob_item.specs.declared.item.Item.{Item}
use Rattle.nob_item.specs.declared.item.Item.TheVariants as items
use Rattle.nob_model_types.specs.declared.deed.Deed.{Deed}
use Rattle.nob_model_types.specs.declared.deed.Deed.TheVariants as did
use Rattle.nob_model_types.specs.declared.message.Message.{Message}
use Rattle.nob_model_types.specs.declared.turns.Turns.{Turns}
use Rattle.nob_model_types.specs.Sessions.{is_peer, closed, item_at}
use Rattle.nob_model_types.specs.Turns.{no_turns, turns, turns_after, with_clean, with_dirty, wants_dirty, is_standing, carries, names}
use Rattle.nob_model_types.specs.Messages.{message_after}
use Rattle.nob_model_work.specs.declared.gifts.Gift.{Gift}
use Rattle.nob_model_work.specs.Work.{work}
use Rattle.nob_model_work.specs.Gifts.{gifts, gifts_of}
use Rattle.nob_model_history.specs.declared.transit.SentItem.{SentItem}
use Rattle.nob_model_history.specs.Histories.{history_of}
use Rattle.nob_model_history.specs.Ends.{items_to, with_sends, own_calls, calls_at}
use Rattle.nob_model_history.specs.Transit.{next_sent, sent, is_pinned, is_settled, is_some_of, is_of_present, bundles}
use Rattle.nob_model_history.specs.Listing.{is_entered, is_entered_after, is_listed}
use Rattle.nob_item.specs.Kinds.{counted_in}
use Rattle.nob_model_history.proofs.Sending.{new_items, sent_more}
use Rattle.nob_model.specs.Right.{right_after}
use Rattle.nob_model.specs.Lists.{IsRightDeed, AreRightDeeds}
use Rattle.nob_model.proofs.Accepted.{act_tells, transmit_tells, arrive_tells, tick_tells, open_tells}
use Rattle.nob_model.proofs.Carrying.{AllOutstanding}
use Rattle.nob_model.proofs.Doing.{was_answered}
use Rattle.nob_model.proofs.Orderly.{closing_peer}
use Rattle.nob_model_holdings.proofs.Lists.{all_append, all_pass}
use Rattle.nob_model_holdings.proofs.Hands.{New, outstanding_more}
use Rattle.nob_model_holdings.proofs.Receivers.{sent_to_peers}

-- a peer is at least 1
pub peer_low : (s n p : ℕ) → is_peer s n p ≡ true → 1 ≤ p
peer_low s n p peer = leb-true 1 p (and_parts _ _ (and_parts (not (p == s) && nat_le 1 p) (nat_le p n) peer).0).1

-- and at most n
pub peer_high : (s n p : ℕ) → is_peer s n p ≡ true → p ≤ n
peer_high s n p peer = leb-true p n (and_parts (not (p == s) && nat_le 1 p) (nat_le p n) peer).1

-- items that were acted on came from peers
pub act_peer : (s n : ℕ) (limits : Limits) (p k : ℕ) (D : List Deed) → IsRightDeed s n limits (did.Act p k) D → is_peer s n p ≡ true
unfolding right_after
act_peer s n limits p k D right = (act_tells s n p k (history_of s n D) (was_answered s n limits (did.Act p k) D right)).0

-- ---- who is listed

act_entered : (s n index c p k : ℕ) (D : List Deed) → is_peer s n p ≡ true → (is_entered s index c D ≡ true → is_peer s n c ≡ true) → (own : Bool) → (p == c) ≡ own → cond own (is_entered_after s index (item_at p k D) D (is_entered s index c D)) (is_entered s index c D) ≡ true → is_peer s n c ≡ true
act_entered s n index c p k D peer before true own entered = subst (λ (q : ℕ). is_peer s n q ≡ true) (eqb-true p c own) peer
act_entered s n index c p k D peer before false own entered = before entered

kept_entered : (b before : Bool) → cond b false before ≡ true → before ≡ true
kept_entered true before entered = cc
kept_entered false before entered = entered

-- only peers are entered
entered_peer : (s n : ℕ) (limits : Limits) (index c : ℕ) (D : List Deed) → AreRightDeeds s n limits D → is_entered s index c D ≡ true → is_peer s n c ≡ true
entered_peer s n limits index c [] right entered = cc
entered_peer s n limits index c (did.Act p k ∷ D) right entered = act_entered s n index c p k D (act_peer s n limits p k D right.0) (entered_peer s n limits index c D right.1) (p == c) refl entered
entered_peer s n limits index c (did.Open q k ∷ D) right entered = entered_peer s n limits index c D right.1 (kept_entered (q == c) (is_entered s index c D) entered)
entered_peer s n limits index c (deed ∷ D) right entered = entered_peer s n limits index c D right.1 entered

not_shut : (shut entered : Bool) → (not shut && entered) ≡ true → shut ≡ false
not_shut true entered e = cc
not_shut false entered e = refl

-- where a session has closed with each peer, nobody is listed
pub shut_unlisted : (s n : ℕ) (limits : Limits) (D : List Deed) → AreRightDeeds s n limits D → ((p : ℕ) → is_peer s n p ≡ true → closed p D ≡ true) → (index c : ℕ) → is_listed s index c D ≡ false
shut_unlisted s n limits D right shut index c =
    false_from_ne_true (is_listed s index c D) (λ listed.
    both_ways (closed c D) (not_shut (closed c D) (is_entered s index c D) listed) (shut c (entered_peer s n limits index c D right (and_parts (not (closed c D)) (is_entered s index c D) listed).1)))

-- ---- what was sent

none_if : {X : Type 0} (b : Bool) (x : X) (kept : List X) → b ≡ false → kept ≡ [] → cond b (x ∷ kept) kept ≡ []
none_if true x kept not none = cc
none_if false x kept not none = none

-- what none passes leaves nothing
pub filter_none : {X : Type 0} (test : X → Bool) (xs : List X) → AllByRecursion (λ x. test x ≡ false) xs → filter test xs ≡ []
filter_none test [] all = refl
filter_none test (x ∷ xs) all = none_if (test x) x (filter test xs) all.0 (filter_none test xs all.1)

unpinned_if : (rest shut : Bool) → shut ≡ true → (rest && not shut) ≡ false
unpinned_if true true is = refl
unpinned_if false true is = refl
unpinned_if rest false is = cc

unpinned : (s n : ℕ) (D : List Deed) → ((p : ℕ) → is_peer s n p ≡ true → closed p D ≡ true) → (ones : List SentItem) → AllByRecursion (λ (one : SentItem). is_peer s n one.to ≡ true) ones → AllByRecursion (λ (one : SentItem). is_pinned D one ≡ false) ones
unpinned s n D shut [] all = tt
unpinned s n D shut (one ∷ ones) all = (unpinned_if (is_some_of (counted_in one.item) && is_of_present D one && not (is_settled one.to one.number D)) (closed one.to D) (shut one.to all.0), unpinned s n D shut ones all.1)

-- where a session has closed with each peer, nothing has pins
pub shut_unpinned : (s n : ℕ) (D : List Deed) → ((p : ℕ) → is_peer s n p ≡ true → closed p D ≡ true) → bundles (history_of s n D) ≡ []
shut_unpinned s n D shut = filter_none (is_pinned D) (sent (history_of s n D)) (unpinned s n D shut (sent (history_of s n D)) (sent_to_peers s n D))

-- ---- messages

-- a message came from a peer
abbrev pub IsFromPeer : (s n : ℕ) → Message → Type 0
IsFromPeer s n m = is_peer s n m.from ≡ true

new_from_peer : (s n : ℕ) (limits : Limits) (deed : Deed) (D : List Deed) → IsRightDeed s n limits deed D → New s n (IsFromPeer s n) (λ m call status value is its. its) deed D
new_from_peer s n limits (did.Act p k) D right = λ item is. act_peer s n limits p k D right
new_from_peer s n limits deed D right = tt

kept_from_peer : (s n : ℕ) (D : List Deed) (m : Message) → IsFromPeer s n m → IsFromPeer s n (message_after s n D m)
unfolding message_after
kept_from_peer s n D m its = its

-- each message that is outstanding did
pub all_from_peers : (s n : ℕ) (limits : Limits) (D : List Deed) → AreRightDeeds s n limits D → AllOutstanding (IsFromPeer s n) (work s n D)
all_from_peers s n limits [] right = record { waiting = tt; ready = tt; running = tt; replies = tt }
all_from_peers s n limits (deed ∷ D) right = outstanding_more s n (IsFromPeer s n) (λ m call status value is its. its) deed D (kept_from_peer s n (deed ∷ D)) (new_from_peer s n limits deed D right.0) (all_from_peers s n limits D right.1)

-- ---- what was asked

unwanted_if : (peer rest : Bool) (t : Turns) (carried : Bool) → peer ≡ false → t ≡ no_turns → cond (carried && (peer && rest)) (with_dirty t) t ≡ no_turns
unwanted_if true rest t carried stranger none = cc
unwanted_if false rest t true stranger none = none
unwanted_if false rest t false stranger none = none

unnamed_if : (b : Bool) (after t : Turns) → (b ≡ true → ⊥) → t ≡ no_turns → cond b after t ≡ no_turns
unnamed_if true after t never none = absurd (never refl)
unnamed_if false after t never none = none

named_peer : (s n : ℕ) (rep : WireRep) (p index : ℕ) → is_peer s n rep.owner ≡ false → is_peer s n p ≡ true → names rep p index ≡ true → ⊥
named_peer s n rep p index stranger peer named = both_ways (is_peer s n rep.owner) stranger (subst (λ (q : ℕ). is_peer s n q ≡ true) (sym (eqb-true rep.owner p (and_parts (rep.owner == p) (rep.index == index) named).0)) peer)

and_assoc : (a b c : Bool) → ((a && b) && c) ≡ (a && (b && c))
and_assoc true b c = refl
and_assoc false b c = refl

unasked_message : (s n : ℕ) (rep : WireRep) (carried : Bool) (D : List Deed) (t : Turns) → is_peer s n rep.owner ≡ false → t ≡ no_turns → cond (carried && wants_dirty s n rep D t) (with_dirty t) t ≡ no_turns
unasked_message s n rep carried D t stranger none =
    ap (λ (b : Bool). cond (carried && b) (with_dirty t) t) (and_assoc (is_peer s n rep.owner) (not (closed rep.owner D)) (not (is_standing t)))
    ∙ unwanted_if (is_peer s n rep.owner) (not (closed rep.owner D) && not (is_standing t)) t carried stranger none

unasked_item : (s n p : ℕ) (rep : WireRep) (found : Option Item) (D : List Deed) (t : Turns) → is_peer s n rep.owner ≡ false → is_peer s n p ≡ true → t ≡ no_turns → turns_after s n p rep found D t ≡ no_turns
unasked_item s n p rep None D t stranger peer none = none
unasked_item s n p rep (Some (items.Call call target method value)) D t stranger peer none = unasked_message s n rep (carries rep (items.Call call target method value)) D t stranger none
unasked_item s n p rep (Some (items.Reply call status value)) D t stranger peer none = unasked_message s n rep (carries rep (items.Reply call status value)) D t stranger none
unasked_item s n p rep (Some (items.Settle item)) D t stranger peer none = none
unasked_item s n p rep (Some (items.Dirty index)) D t stranger peer none = none
unasked_item s n p rep (Some (items.DirtyOk index)) D t stranger peer none = unnamed_if (names rep p index) _ t (named_peer s n rep p index stranger peer) none
unasked_item s n p rep (Some (items.DirtyNo index)) D t stranger peer none = unnamed_if (names rep p index) _ t (named_peer s n rep p index stranger peer) none
unasked_item s n p rep (Some (items.Clean index)) D t stranger peer none = none

cleaned_if : (b : Bool) (t : Turns) → t ≡ no_turns → cond b (with_clean t) t ≡ no_turns
cleaned_if true t none = ap with_clean none
cleaned_if false t none = none

opened_if : (b : Bool) (t : Turns) → t ≡ no_turns → cond b no_turns t ≡ no_turns
opened_if true t none = refl
opened_if false t none = none

-- nothing is asked of an owner that is no peer
pub strangers_unasked : (s n : ℕ) (limits : Limits) (rep : WireRep) (D : List Deed) → AreRightDeeds s n limits D → is_peer s n rep.owner ≡ false → turns s n rep D ≡ no_turns
strangers_unasked s n limits rep [] right stranger = refl
strangers_unasked s n limits rep (did.Act p k ∷ D) right stranger = unasked_item s n p rep (item_at p k D) D (turns s n rep D) stranger (act_peer s n limits p k D right.0) (strangers_unasked s n limits rep D right.1 stranger)
strangers_unasked s n limits rep (did.Clean other ∷ D) right stranger = cleaned_if (is_same rep other) (turns s n rep D) (strangers_unasked s n limits rep D right.1 stranger)
strangers_unasked s n limits rep (did.Open q k ∷ D) right stranger = opened_if (q == rep.owner) (turns s n rep D) (strangers_unasked s n limits rep D right.1 stranger)
strangers_unasked s n limits rep (deed ∷ D) right stranger = strangers_unasked s n limits rep D right.1 stranger

-- ---- the ends with others

to_none : (s n p : ℕ) (gift : Gift) (kept : List Gift) → is_peer s n p ≡ false → items_to p kept ≡ [] → (peer : Bool) → is_peer s n gift.to ≡ peer → items_to p (cond peer (gift ∷ kept) kept) ≡ []
to_none s n p gift kept stranger none false e = none
to_none s n p gift kept stranger none true e =
    ap (λ (b : Bool). map (λ (g : Gift). g.item) (cond b (gift ∷ filter (λ (g : Gift). g.to == p) kept) (filter (λ (g : Gift). g.to == p) kept))) (ne_eqb gift.to p (λ same. both_ways (is_peer s n p) stranger (subst (λ (q : ℕ). is_peer s n q ≡ true) same e)))
    ∙ none

none_to : (s n p : ℕ) → is_peer s n p ≡ false → (more : List Gift) → items_to p (filter (λ (gift : Gift). is_peer s n gift.to) more) ≡ []
none_to s n p stranger [] = refl
none_to s n p stranger (gift ∷ more) = to_none s n p gift (filter (λ (g : Gift). is_peer s n g.to) more) stranger (none_to s n p stranger more) (is_peer s n gift.to) refl

no_call : (own : Bool) (call : EndEntry) (calls : List EndEntry) → own ≡ false → calls ≡ [] → cond own (call ∷ calls) calls ≡ []
no_call true call calls not none = cc
no_call false call calls not none = none

not_peer : (s n p q : ℕ) → is_peer s n p ≡ false → is_peer s n q ≡ true → (q == p) ≡ false
not_peer s n p q stranger peer = ne_eqb q p (λ same. both_ways (is_peer s n p) stranger (subst (λ (r : ℕ). is_peer s n r ≡ true) same peer))

transmit_peer : (s n : ℕ) (limits : Limits) (p : ℕ) (frames : List Frame) (D : List Deed) → IsRightDeed s n limits (did.Transmit p frames) D → is_peer s n p ≡ true
unfolding right_after
transmit_peer s n limits p frames D right = (transmit_tells s n p limits.window frames (history_of s n D) (was_answered s n limits (did.Transmit p frames) D right)).0

arrive_peer : (s n : ℕ) (limits : Limits) (frame : Frame) (count : ℕ) (D : List Deed) → IsRightDeed s n limits (did.Arrive frame count) D → is_peer s n frame.from ≡ true
unfolding right_after
arrive_peer s n limits frame count D right = (arrive_tells s n count frame (history_of s n D) (was_answered s n limits (did.Arrive frame count) D right)).1

tick_peer : (s n : ℕ) (limits : Limits) (p : ℕ) (D : List Deed) → IsRightDeed s n limits (did.Tick p) D → is_peer s n p ≡ true
unfolding right_after
tick_peer s n limits p D right = (tick_tells s n p limits.retry (history_of s n D) (was_answered s n limits (did.Tick p) D right)).0

open_peer : (s n : ℕ) (limits : Limits) (p k : ℕ) (D : List Deed) → IsRightDeed s n limits (did.Open p k) D → is_peer s n p ≡ true
unfolding right_after
open_peer s n limits p k D right = (open_tells s n p k (history_of s n D) (was_answered s n limits (did.Open p k) D right)).0

own_none : (s n : ℕ) (limits : Limits) (p : ℕ) (deed : Deed) (D : List Deed) (calls : List EndEntry) → IsRightDeed s n limits deed D → is_peer s n p ≡ false → calls ≡ [] → own_calls p deed calls ≡ []
own_none s n limits p (did.Act q k) D calls right stranger none = no_call (q == p) _ calls (not_peer s n p q stranger (act_peer s n limits q k D right)) none
own_none s n limits p (did.Transmit q frames) D calls right stranger none = no_call (q == p) _ calls (not_peer s n p q stranger (transmit_peer s n limits q frames D right)) none
own_none s n limits p (did.Arrive frame count) D calls right stranger none = no_call (frame.from == p) _ calls (not_peer s n p frame.from stranger (arrive_peer s n limits frame count D right)) none
own_none s n limits p (did.Tick q) D calls right stranger none = no_call (q == p) _ calls (not_peer s n p q stranger (tick_peer s n limits q D right)) none
own_none s n limits p (did.Closing q reason cause) D calls right stranger none = no_call (q == p) _ calls (not_peer s n p q stranger (closing_peer s n limits q reason cause D right)) none
own_none s n limits p (did.Open q k) D calls right stranger none = no_call (q == p) _ calls (not_peer s n p q stranger (open_peer s n limits q k D right)) none
own_none s n limits p deed D calls right stranger none = none

-- no call was made on the end with a space that is no peer
pub strangers_uncalled : (s n : ℕ) (limits : Limits) (p : ℕ) (D : List Deed) → AreRightDeeds s n limits D → is_peer s n p ≡ false → calls_at p (history_of s n D) ≡ []
unfolding gifts
strangers_uncalled s n limits p [] right stranger = refl
strangers_uncalled s n limits p (deed ∷ D) right stranger =
    own_none s n limits p deed D (with_sends (items_to p (gifts s n deed D (work s n D))) (calls_at p (history_of s n D))) right.0 stranger
    (ap (λ (sends : List Item). with_sends sends (calls_at p (history_of s n D))) (none_to s n p stranger (gifts_of s n deed D (work s n D))) ∙ strangers_uncalled s n limits p D right.1 stranger)
