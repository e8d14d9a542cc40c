-- Settle: what it leaves stands for one deed more.
use Rattle.std.proofs.Common.{◌≡◌, ℕ, ◌+◌, ◌-◌, ◌≤◌, Bool, true, false, cond, List, [], ◌∷◌, ◌++◌, length, map, filter, find, get_or, Option, Some, None, IfSome, Ok, if◌then◌else◌, refl, sym, ap, subst, ◌∙◌, arith}
use lib.ListN.{set}
use Rattle.std.specs.List.{AllByRecursion}
use Rattle.std.specs.Option.{option_map}
use Rattle.std.proofs.lemmas.List.{length-append}
use Rattle.std.proofs.lemmas.Option.{none-some}
use Rattle.nob_ids.specs.Names.{is_counted}
use Rattle.nob_ids.specs.declared.limits.Limits.{Limits}
use Rattle.nob_item.specs.Judging.{is_call_number}
use Rattle.nob_item.specs.Kinds.{counted_in}
use Rattle.nob_item.specs.declared.item.Item.{Item}
use Rattle.nob_item.specs.declared.item.Item.TheVariants as items
use Rattle.nob_model_session.specs.End.{handed, last_item}
use Rattle.nob_model_session.specs.declared.entry.EndEntry.{EndEntry}
use Rattle.nob_model_session.specs.declared.entry.EndEntry.TheVariants.{Send}
use Rattle.nob_model_session.specs.declared.entry.Kind.TheVariants.{Note}
use Rattle.nob_session.specs.Stands as session
use Rattle.nob_session.specs.Onward.{AreAlike, StandsOnward}
use Rattle.nob_session.proofs.Alike.{onward_is, made_onward, step_alike}
use Rattle.nob_session.specs.Stands.{End, Roomy, is_open_end}
use Rattle.nob_table.specs.Table.{Table, standing}
use Rattle.nob_model_types.specs.declared.deed.Deed.{Deed}
use Rattle.nob_model_types.specs.declared.deed.Deed.TheVariants.{Settle}
use Rattle.nob_model_types.specs.declared.message.Message.{Message}
use Rattle.nob_model_types.specs.Messages.{is_of}
use Rattle.nob_model_types.specs.Sessions.{is_peer, closed}
use Rattle.nob_model_work.specs.declared.gifts.Gift.{Gift}
use Rattle.nob_model_work.specs.declared.work.Outstanding.{Outstanding}
use Rattle.nob_model_work.specs.Work.{work, work_after, after_settle, after_settlement, without_first, without_waiting, with_loans}
use Rattle.nob_model_work.specs.Gifts.{gifts, gifts_of, gifts_of_settle, lost_call_reply}
use Rattle.nob_model_history.specs.Histories.{history_of}
use Rattle.nob_model_history.specs.Ends.{calls_at, payload_of, with_sends}
use Rattle.nob_model_history.specs.Holds.{hand, times, loans_of, lent_in}
use Rattle.nob_model.specs.Lists.{IsRightDeed}
use Rattle.nob_model.proofs.Accepted.{found_passes}
use Rattle.nob_model.proofs.Made.{work_fixed, fixed_stays}
use Rattle.nob_model.proofs.Waiting.{settled_message}
use Rattle.nob_space_state.specs.Parts.{State}
use Rattle.nob_space_state.specs.Returns.{HasLent, GivesBack}
use Rattle.nob_space_state.specs.Shows.{TableStands}
use Rattle.nob_space_state.specs.Stands.{Stands, AreAwaited}
use Rattle.nob_space_state.proofs.Awaited.{without_awaited}
use Rattle.nob_space_state.proofs.Finishing.{none_of, counted_append, counted_copies, counted_target}
use Rattle.nob_space_state.proofs.Firsts.{some_same}
use Rattle.nob_space_state.proofs.Rows.{differ}
use Rattle.nob_space_state.proofs.Running.{HasCallNumber}
use Rattle.nob_space_state.proofs.Sent.{gift_to}
use Rattle.nob_space_items.specs.Settling.{has_lost, lost_call, reply_to_lost, items_given, given_count, with_note, loans_ended}
use Rattle.nob_space_items.proofs.Fixing.{still_fixed}
use Rattle.nob_space_items.proofs.Noting.{GivesNotes, shows_noted, stands_noted, open_there}
use Rattle.nob_space_items.proofs.Placed.{settled_lends, settled_fixed, waiting_lends, ended_lent}
use Rattle.nob_space_items.proofs.Settleable.{is_settleable, to_settle_there}
use Rattle.nob_space_items.proofs.Resolving.{message_sound, has_lost_there, settle_right, settle_is, some_given}

-- two tests that find one element find it in one place
same_first : {X : Type 0} (a b : X → Bool) (xs : List X) (m : X) → find a xs ≡ Some m → find b xs ≡ Some m → a m ≡ true → b m ≡ true → without_first a xs ≡ without_first b xs
same_first a b [] m one other passes too = refl
same_first {X} a b (x ∷ xs) m one other passes too = elim (a x) as (λ t. a x ≡ t → cond t (Some x) (find a xs) ≡ Some m → (if t then xs else x ∷ without_first a xs) ≡ without_first b (x ∷ xs)) [
  | true ↦ λ e found. let is : x ≡ m = some_same found in let also : b x ≡ true = ap b is ∙ too in rw also refl
  | false ↦ λ e found. elim (b x) as (λ t. b x ≡ t → cond t (Some x) (find b xs) ≡ Some m → (x ∷ without_first a xs) ≡ (if t then xs else x ∷ without_first b xs)) [
    | true ↦ λ f again. let is : x ≡ m = some_same again in absurd (differ (ap a is ∙ passes) e)
    | false ↦ λ f again. ap (λ (rest : List X). x ∷ rest) (same_first a b xs m found again passes too)
  ] refl other
] refl one

-- what a Settle gives goes to the message's sender
settle_gives : (s n p k : ℕ) (item : Item) (lost : Bool) → is_peer s n p ≡ true → filter (λ (gift : Gift). is_peer s n gift.to) (record { to = p; item = items.Settle k } ∷ lost_call_reply p item lost) ≡ map (gift_to p) (items_given k (lost_call item lost))
unfolding lost_call_reply
settle_gives s n p k (items.Call call target method value) true peer = rw peer refl
settle_gives s n p k (items.Call call target method value) false peer = rw peer refl
settle_gives s n p k (items.Reply call status value) lost peer = rw peer refl
settle_gives s n p k (items.Settle item) lost peer = rw peer refl
settle_gives s n p k (items.Dirty index) lost peer = rw peer refl
settle_gives s n p k (items.DirtyOk index) lost peer = rw peer refl
settle_gives s n p k (items.DirtyNo index) lost peer = rw peer refl
settle_gives s n p k (items.Clean index) lost peer = rw peer refl

-- lists that are alike still are with the notes of a settling
notes_alike : (h : ℕ) (settle : List ℕ) (reply : Option (List ℕ)) (M N : List EndEntry) → AreAlike M N → AreAlike (with_note (h + 2) reply (Send settle Note (Ok (h + 1)) ∷ M)) (with_note (h + 2) reply (Send settle Note (Ok (h + 1)) ∷ N))
notes_alike h settle None M N alike = step_alike M N alike (Send settle Note (Ok (h + 1))) refl
notes_alike h settle (Some payload) M N alike = step_alike (Send settle Note (Ok (h + 1)) ∷ M) (Send settle Note (Ok (h + 1)) ∷ N) (step_alike M N alike (Send settle Note (Ok (h + 1))) refl) (Send payload Note (Ok (h + 2))) refl

-- so the end stands onward with them
pub notes_onward : {me peer : ℕ} {limits : Limits} {old new : End} {L : List EndEntry} (h : ℕ) (settle : List ℕ) (reply : Option (List ℕ)) → StandsOnward me peer limits old L
    → ((M : List EndEntry) → session.Stands me peer limits old M → session.Stands me peer limits new (with_note (h + 2) reply (Send settle Note (Ok (h + 1)) ∷ M)))
    → StandsOnward me peer limits new (with_note (h + 2) reply (Send settle Note (Ok (h + 1)) ∷ L))
notes_onward h settle reply its call = made_onward (λ M. with_note (h + 2) reply (Send settle Note (Ok (h + 1)) ∷ M)) (notes_alike h settle reply) its call

-- the notes are the next items
notes_sent : (k h : ℕ) (call : Option ℕ) (settle : List ℕ) (reply : Option (List ℕ)) (calls : List EndEntry) → settle ≡ payload_of (items.Settle k) → reply ≡ option_map (λ c. payload_of (reply_to_lost c)) call → h ≡ length (handed calls)
    → with_note (h + 2) reply (Send settle Note (Ok (h + 1)) ∷ calls) ≡ with_sends (items_given k call) calls
notes_sent k h None settle reply calls spelled none count = λ i. with_note (h + 2) (none i) (Send (spelled i) Note (Ok (count i + 1)) ∷ calls)
notes_sent k h (Some call) settle reply calls spelled some count =
    let more : length (handed calls ++ payload_of (items.Settle k) ∷ []) ≡ length (handed calls) + 1 = length-append (handed calls) (payload_of (items.Settle k) ∷ []) in
    let next : h + 2 ≡ length (handed calls ++ payload_of (items.Settle k) ∷ []) + 1 = omega (arith, count, more) in
    λ i. with_note (next i) (some i) (Send (spelled i) Note (Ok (count i + 1)) ∷ calls)

-- a message that is settled leaves those that wait
settled_waits : (m : Message) (item : Item) (lost : Bool) (W : Outstanding) → (after_settlement m item lost W).waiting ≡ W.waiting
unfolding after_settlement
settled_waits m (items.Call call target method value) true W = refl
settled_waits m (items.Call call target method value) false W = refl
settled_waits m (items.Reply call status value) true W = refl
settled_waits m (items.Reply call status value) false W = refl
settled_waits m (items.Settle item) lost W = refl
settled_waits m (items.Dirty index) lost W = refl
settled_waits m (items.DirtyOk index) lost W = refl
settled_waits m (items.DirtyNo index) lost W = refl
settled_waits m (items.Clean index) lost W = refl

-- notes carry no references
no_refs : (k : ℕ) (call : Option ℕ) → AllByRecursion (λ (item : Item). counted_in item ≡ []) (items_given k call)
no_refs k None = (refl, tt)
no_refs k (Some call) = (refl, (refl, tt))

module _ {s n : ℕ} {limits : Limits} {st : State} {D : List Deed} (stands : Stands s n limits st D) (m : Message) (found : find (is_settleable st) st.work.waiting ≡ Some m) where
  -- what the message lends is lent
  pub settle_lent : HasLent st.table (loans_ended s m m.item (has_lost s n st m))
  settle_lent = λ rep. elim (is_counted rep) as (λ b. is_counted rep ≡ b → times rep (loans_ended s m m.item (has_lost s n st m)) ≤ (standing st.table rep).counts.lent) [
    | true ↦ λ counted.
        let loans : (standing st.table rep).counts.lent ≡ times rep (lent_in s st.work) = stands.table.loans rep counted ∙ ap (λ W. times rep (lent_in s W)) (sym stands.work) in
        let all = waiting_lends s rep (is_settleable st) m st.work found in
        let low = ended_lent s rep m m.item (has_lost s n st m) in
        omega (arith, loans, all, low)
    | false ↦ λ uncounted.
        let none = none_of rep (loans_of s m) uncounted (counted_append _ _ (counted_target s m.item) (counted_copies m.copies (message_sound stands m found).counted)) in
        let low = ended_lent s rep m m.item (has_lost s n st m) in
        omega (arith, none, low)
  ] refl

  module _ (end : Roomy) (is : end ≡ get_or st.sessions (m.from - 1) end) (free : given_count (lost_call m.item (has_lost s n st m)) ≤ last_item - end.end.handed) where
    its : IsRightDeed s n limits (Settle m.from m.number) D
    its = settle_is s n limits D m.from m.number (settle_right stands m found end is free (some_given (lost_call m.item (has_lost s n st m))))

    peer : is_peer s n m.from ≡ true
    peer = (message_sound stands m found).peer

    -- it is the message of its item, on a session that is open
    taken : (find (is_of m.from m.number) (work s n D).waiting ≡ Some m) × (closed m.from D ≡ false)
    taken =
        let settled = settled_message s n limits m.from m.number D (its, stands.right) in
        let same : settled.0 ≡ m = some_same (sym settled.1 ∙ to_settle_there stands ∙ found) in
        (settled.4 ∙ ap Some same, settled.5)

    pub settle_open : is_open_end end.end ≡ true
    settle_open = open_there stands m.from end peer is taken.1

    taken_here : find (is_of m.from m.number) st.work.waiting ≡ Some m
    taken_here = ap (λ (W : Outstanding). find (is_of m.from m.number) W.waiting) stands.work ∙ taken.0

    -- without it
    waiting_left : without_first (is_settleable st) st.work.waiting ≡ without_first (is_of m.from m.number) st.work.waiting
    waiting_left = same_first (is_settleable st) (is_of m.from m.number) st.work.waiting m found taken_here (found_passes (is_settleable st) st.work.waiting m found) (found_passes (is_of m.from m.number) st.work.waiting m taken_here)

    -- a Settle gives its sender notes
    settle_notes : GivesNotes s n (Settle m.from m.number) D m.from (items_given m.number (lost_call m.item (has_lost s n st m)))
    unfolding gifts gifts_of gifts_of_settle
    settle_notes = record {
      gives = ap (λ one. filter (λ (gift : Gift). is_peer s n gift.to) (gifts_of_settle s n m.from m.number D one)) taken.0
          ∙ ap (λ lost. filter (λ (gift : Gift). is_peer s n gift.to) (record { to = m.from; item = items.Settle m.number } ∷ lost_call_reply m.from m.item lost)) (sym (has_lost_there stands m found))
          ∙ settle_gives s n m.from m.number m.item (has_lost s n st m) peer;
      bare = no_refs m.number (lost_call m.item (has_lost s n st m));
      asks_nothing = refl;
      makes_no_call = λ q calls. refl;
      closes_nothing = λ q. refl;
      opens_nothing = λ q. refl;
      settles_nothing = λ q k. refl;
      exports = refl;
      withdrawn = λ index. refl;
      same_gains = refl;
      same_releases = refl;
      listed = λ index client. refl;
      calls = refl;
      jobs = refl;
    }

    settle_work : work s n (Settle m.from m.number ∷ D) ≡ after_settlement m m.item (has_lost s n st m) (without_waiting m.from m.number (work s n D))
    unfolding work_after after_settle
    settle_work =
        ap (λ one. with_loans s n (Settle m.from m.number ∷ D) (after_settle s n m.from m.number D one (work s n D))) taken.0
        ∙ ap (λ lost. with_loans s n (Settle m.from m.number ∷ D) (after_settlement m m.item lost (without_waiting m.from m.number (work s n D)))) (sym (has_lost_there stands m found))
        ∙ fixed_stays s n (Settle m.from m.number ∷ D) (after_settlement m m.item (has_lost s n st m) (without_waiting m.from m.number (work s n D)))
        (still_fixed s n D (Settle m.from m.number ∷ D) (λ rep usable. usable) _ (settled_fixed s n m.from m.number D m m.item (has_lost s n st m) (work s n D) taken.0 (work_fixed s n D)))

    -- the table once its loans ended
    settle_shows : (u : Table) → GivesBack st.table u (loans_ended s m m.item (has_lost s n st m)) → TableStands s n u (history_of s n (Settle m.from m.number ∷ D))
    settle_shows u back =
        shows_noted settle_notes (λ rep. hand rep D) (λ rep. times rep (lent_in s (work s n (Settle m.from m.number ∷ D))))
        (back.shows s n (history_of s n D) (λ rep. hand rep D) (λ rep. times rep (lent_in s (work s n D))) stands.table)
        (λ rep. refl) (λ rep counted. refl)
        (λ rep counted.
        let all = settled_lends s m.from m.number rep m m.item (has_lost s n st m) (work s n D) taken.0 in
        less (times rep (lent_in s (work s n D))) (times rep (loans_ended s m m.item (has_lost s n st m))) _ all ∙ ap (λ W. times rep (lent_in s W)) (sym settle_work))
      where
        less : (a b c : ℕ) → a ≡ b + c → a - b ≡ c
        less a b c sum = omega (arith, sum)

    -- after a Settle
    pub settle_stands : (new : Roomy) (u : Table) (W : Outstanding) (settle : List ℕ) (reply : Option (List ℕ)) → settle ≡ payload_of (items.Settle m.number) → reply ≡ option_map (λ c. payload_of (reply_to_lost c)) (lost_call m.item (has_lost s n st m))
        → (StandsOnward s m.from limits end.end (calls_at m.from (history_of s n D)) → StandsOnward s m.from limits new.end (with_note (end.end.handed + 2) reply (Send settle Note (Ok (end.end.handed + 1)) ∷ calls_at m.from (history_of s n D))))
        → GivesBack st.table u (loans_ended s m m.item (has_lost s n st m))
        → W ≡ after_settlement m m.item (has_lost s n st m) (record { waiting = without_first (is_settleable st) st.work.waiting; ready = st.work.ready; running = st.work.running; replies = st.work.replies; calls = st.work.calls })
        → Stands s n limits (record { sessions = set st.sessions (m.from - 1) new; table = u; dirty = st.dirty; pins = st.pins; work = W; awaited = st.awaited; calls = st.calls; jobs = st.jobs }) (Settle m.from m.number ∷ D)
    settle_stands new u W settle reply spelled replied answer back put =
        stands_noted settle_notes end new u W stands peer is
        (λ before. subst (λ calls. StandsOnward s m.from limits new.end calls) (notes_sent m.number end.end.handed (lost_call m.item (has_lost s n st m)) settle reply (calls_at m.from (history_of s n D)) spelled replied (ap (λ (e : End). e.handed) (onward_is before))) (answer before))
        (settle_shows u back)
        (put
        ∙ ap (λ ws. after_settlement m m.item (has_lost s n st m) (record { waiting = ws; ready = st.work.ready; running = st.work.running; replies = st.work.replies; calls = st.work.calls })) waiting_left
        ∙ ap (λ V. after_settlement m m.item (has_lost s n st m) (without_waiting m.from m.number V)) stands.work
        ∙ sym settle_work)
        (subst (λ (ms : List Message). AreAwaited s n st.awaited ms D) (sym (ap (λ (V : Outstanding). V.waiting) put ∙ settled_waits m m.item (has_lost s n st m) (record { waiting = without_first (is_settleable st) st.work.waiting; ready = st.work.ready; running = st.work.running; replies = st.work.replies; calls = st.work.calls })))
        (without_awaited s n st.awaited D (is_settleable st) st.work.waiting stands.awaited))
        its

-- there is a payload where there is a call
pub same_count : {V : Type 0} (f : V → List ℕ) (g : ℕ → List ℕ) (reply : Option V) (call : Option ℕ) → option_map f reply ≡ option_map g call → given_count (option_map (λ (v : V). 0) reply) ≡ given_count call
same_count f g None None e = refl
same_count f g (Some v) (Some k) e = refl
same_count f g None (Some k) e = absurd (none-some (g k) e)
same_count f g (Some v) None e = absurd (none-some (f v) (sym e))

-- the Call that is answered has the number of a call
pub lost_numbered : (item : Item) (lost : Bool) → HasCallNumber item → IfSome (lost_call item lost) (λ k. is_call_number k ≡ true)
lost_numbered (items.Call call target method value) true number = number
lost_numbered (items.Call call target method value) false number = tt
lost_numbered (items.Reply call status value) lost number = tt
lost_numbered (items.Settle item) lost number = tt
lost_numbered (items.Dirty index) lost number = tt
lost_numbered (items.DirtyOk index) lost number = tt
lost_numbered (items.DirtyNo index) lost number = tt
lost_numbered (items.Clean index) lost number = tt
