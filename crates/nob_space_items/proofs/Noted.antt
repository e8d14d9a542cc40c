-- Acting on notes: what each leaves.
use Rattle.std.proofs.Common.{◌≡◌, ℕ, ◌+◌, ◌-◌, Bool, true, false, cond, not, ◌&&◌, ◌||◌, ◌==◌, List, [], ◌∷◌, ◌++◌, map, filter, get_or, Some, None, if◌then◌else◌, refl, sym, ap, subst, ◌∙◌, arith}
use lib.ListN.{set}
use Rattle.std.specs.List.{sum_by}
use Rattle.std.proofs.lemmas.List.{append-nil}
use Rattle.std.proofs.lemmas.List.Sums.{sum_by-cons}
use Rattle.std.proofs.lemmas.List.Sorted.{sum_by_pushed}
use Rattle.std.proofs.lemmas.Option.{none-some}
use Rattle.std.proofs.lemmas.Cmp.{nat_eq_equiv}
use Rattle.nob_ids.specs.declared.limits.Limits.{Limits}
use Rattle.nob_ids.specs.declared.reason.Reason.{Reason}
use Rattle.nob_ids.specs.declared.reason.Reason.TheVariants.{OutOfPlace}
use Rattle.nob_item.specs.declared.item.Item.{Item}
use Rattle.nob_item.specs.declared.item.Item.TheVariants as items
use Rattle.nob_dirty.specs.declared.sets.Listing.{Listing}
use Rattle.nob_dirty.specs.Sets.{Leaves}
use Rattle.nob_model_session.specs.declared.entry.EndEntry.{EndEntry}
use Rattle.nob_model_session.specs.declared.entry.EndEntry.TheVariants as ends
use Rattle.nob_session.specs.Stands as session
use Rattle.nob_session.specs.Stands.{Roomy}
use Rattle.nob_session.proofs.Alike.{stepped_onward}
use Rattle.nob_pins.specs.Bundles.{Pinned, bundle_of, is_of, has_bundle, TakesOut}
use Rattle.nob_pins.specs.Bundles as pins
use Rattle.nob_model_types.specs.declared.deed.Deed.{Deed}
use Rattle.nob_model_types.specs.declared.deed.Deed.TheVariants.{Act}
use Rattle.nob_model_types.specs.Sessions.{is_peer, closed, item_at}
use Rattle.nob_model_types.specs.Turns.{turns, turns_after}
use Rattle.nob_model_work.specs.declared.gifts.Gift.{Gift}
use Rattle.nob_model_work.specs.Work.{work}
use Rattle.nob_model_work.specs.Gifts.{gifts, gifts_of, gifts_of_act}
use Rattle.nob_model_history.specs.declared.transit.SentItem.{SentItem}
use Rattle.nob_model_history.specs.Histories.{history_of}
use Rattle.nob_model_history.specs.Listing.{is_listed, is_entered, is_entered_after}
use Rattle.nob_model_history.specs.Transit as transit
use Rattle.nob_model_history.specs.Transit.{is_pinned, is_settle_of, sent}
use Rattle.nob_model_history.proofs.Pinning.{bundles_kept, bundles_settled, no_settle}
use Rattle.nob_model_history.proofs.Sending.{new_items}
use Rattle.nob_model_acting.specs.Acting.{act_refusal, fault_of, fault_if}
use Rattle.nob_space_state.specs.Parts.{State}
use Rattle.nob_space_state.specs.Stands.{Stands, bundle}
use Rattle.nob_space_items.specs.Fronts.{IsFront}
use Rattle.nob_space_items.proofs.Judged.{bundle_there}
use Rattle.nob_table.specs.Table.{Table, Unchanged}
use Rattle.nob_space_state.specs.Looks.{HaveUsers}
use Rattle.nob_space_state.proofs.Kept.{users_there}
use Rattle.nob_space_items.proofs.Taken.{act_is, front_is, ends_taken, note_stands}

-- where there is no fault the test fails
pub fault_none : (test : Bool) (reason : Reason) → fault_if test reason ≡ None → test ≡ false
fault_none true reason e = absurd (none-some reason (sym e))
fault_none false reason e = refl

pub not_false : (b : Bool) → not b ≡ false → b ≡ true
not_false true e = refl
not_false false e = absurd (cc)

module _ (s n p k : ℕ) (item : Item) (D : List Deed) (there : item_at p k D ≡ Some item) where
  -- what acting on the item gives
  pub act_gives : gifts s n (Act p k) D (work s n D) ≡ filter (λ gift. is_peer s n gift.to) (gifts_of_act s n p D (Some item))
  unfolding gifts gifts_of
  act_gives = ap (λ found. filter (λ gift. is_peer s n gift.to) (gifts_of_act s n p D found)) there

  pub gives_none : gifts_of_act s n p D (Some item) ≡ [] → gifts s n (Act p k) D (work s n D) ≡ []
  gives_none none = act_gives ∙ ap (filter (λ (gift : Gift). is_peer s n gift.to)) none

  -- the bundles stay where nothing is settled and nothing given
  pub bundles_stay : ((j : ℕ) → is_settle_of j (Some item) ≡ false) → gifts s n (Act p k) D (work s n D) ≡ [] → transit.bundles (history_of s n (Act p k ∷ D)) ≡ transit.bundles (history_of s n D)
  bundles_stay other none =
      bundles_kept s n (Act p k) D (no_settle p k D (λ j. ap (is_settle_of j) there ∙ other j)) (λ q. refl) (λ q. refl)
      ∙ ap (λ (more : List Gift). transit.bundles (history_of s n D) ++ filter (is_pinned D) (new_items D (sent (history_of s n D)) more)) none
      ∙ append-nil (transit.bundles (history_of s n D))

  -- who is listed, where the item is from another
  pub listed_is : (index client : ℕ) → is_listed s index client (Act p k ∷ D) ≡ (not (closed client D) && (if p == client then is_entered_after s index (Some item) D (is_entered s index client D) else is_entered s index client D))
  listed_is index client = ap (λ found. not (closed client D) && (if p == client then is_entered_after s index found D (is_entered s index client D) else is_entered s index client D)) there

-- ---- Clean

unlisted : (here own shut entered : Bool) → (not (here && own) && (not shut && entered)) ≡ (not shut && (if own then (if here then false else entered) else entered))
unlisted true true true entered = refl
unlisted true true false entered = refl
unlisted true false shut entered = refl
unlisted false true shut entered = refl
unlisted false false shut entered = refl

module _ {s n p k : ℕ} {limits : Limits} {st : State} {D : List Deed} (stands : Stands s n limits st D) (place : ℕ) (at : place ≡ p - 1) (old new : Roomy) (is : old ≡ get_or st.sessions place old)
    (take : (me peer : ℕ) (limits : Limits) (L : List EndEntry) → session.Stands me peer limits old.end L → session.Stands me peer limits new.end (ends.Take ∷ L)) where
  -- after a Clean
  pub clean_stands : (index : ℕ) → IsFront s n p k (items.Clean index) D → (dirty : List Listing) → Leaves st.dirty dirty index p → (t : Table) → Unchanged st.table t → (HaveUsers s st.table st.pins.bundles st.dirty → HaveUsers s t st.pins.bundles dirty)
      → Stands s n limits (record { sessions = set st.sessions place new; table = t; dirty = dirty; pins = st.pins; work = st.work; awaited = st.awaited; calls = st.calls; jobs = st.jobs }) (Act p k ∷ D)
  unfolding gifts_of_act act_refusal
  clean_stands index front dirty leaves t same have =
      let there : item_at p k D ≡ Some (items.Clean index) = front_is front limits stands.right in
      let none = gives_none s n p k (items.Clean index) D there refl in
      subst (λ q. Stands s n limits (record { sessions = set st.sessions q new; table = t; dirty = dirty; pins = st.pins; work = st.work; awaited = st.awaited; calls = st.calls; jobs = st.jobs }) (Act p k ∷ D)) (sym at)
      (note_stands s n p k (items.Clean index) D there refl (λ rep. ap (λ found. turns_after s n p rep found D (turns s n rep D)) there)
      (set st.sessions (p - 1) new) dirty st.pins t stands same (have (users_there stands st.table stands.table.kept))
      (ends_taken s n p k D limits st.sessions old new none stands.ends front.peer (subst (λ q. old ≡ get_or st.sessions q old) at is) (λ before. stepped_onward ends.Take refl before (λ M stood. take s p limits M stood)))
      (λ i c. leaves i c ∙ ap (λ b. not (index == i && p == c) && b) (stands.listed i c) ∙ unlisted (index == i) (p == c) (closed c D) (is_entered s i c D) ∙ sym (listed_is s n p k (items.Clean index) D there i c))
      (λ f. stands.pins f ∙ ap (λ sent_items. sum_by f (map bundle sent_items)) (sym (bundles_stay s n p k (items.Clean index) D there (λ j. refl) none)))
      (act_is front limits refl))

-- ---- Settle

-- a sum without those of one item
abbrev without : (p k : ℕ) → (Pinned → ℕ) → Pinned → ℕ
without p k f one = cond (is_of p k one) 0 (f one)

-- is the sum of the others
sum_others : (p k : ℕ) (f : Pinned → ℕ) (sent_items : List SentItem) → sum_by (without p k f) (map bundle sent_items) ≡ sum_by f (map bundle (filter (λ (one : SentItem). not (one.to == p && one.number == k)) sent_items))
sum_others p k f [] = refl
sum_others p k f (one ∷ sent_items) =
    let rest = sum_others p k f sent_items in
    sum_by-cons (without p k f) (bundle one) (map bundle sent_items)
    ∙ elim (one.to == p && one.number == k) as (λ b. cond b 0 (f (bundle one)) + sum_by (without p k f) (map bundle sent_items) ≡ sum_by f (map bundle (cond (not b) (one ∷ filter (λ (x : SentItem). not (x.to == p && x.number == k)) sent_items) (filter (λ (x : SentItem). not (x.to == p && x.number == k)) sent_items)))) [
      | true ↦ let zeroth : 0 + sum_by (without p k f) (map bundle sent_items) ≡ sum_by (without p k f) (map bundle sent_items) = omega arith in zeroth ∙ rest
      | false ↦ ap (λ m. f (bundle one) + m) rest ∙ sym (sum_by-cons f (bundle one) (map bundle (filter (λ (x : SentItem). not (x.to == p && x.number == k)) sent_items)))
    ]

-- and of all, where none is of the item
sum_all : (p k : ℕ) (f : Pinned → ℕ) (bundles : List Pinned) → has_bundle bundles p k ≡ false → sum_by (without p k f) bundles ≡ sum_by f bundles
sum_all p k f [] none = refl
sum_all p k f (one ∷ bundles) none =
    elim (is_of p k one) as (λ b. is_of p k one ≡ b → (b || has_bundle bundles p k) ≡ false → sum_by (without p k f) (one ∷ bundles) ≡ sum_by f (one ∷ bundles)) [
      | true ↦ λ _ e. absurd (cc)
      | false ↦ λ other e.
          sum_by-cons (without p k f) one bundles
          ∙ ap (λ b. cond b 0 (f one) + sum_by (without p k f) bundles) other
          ∙ ap (λ m. f one + m) (sum_all p k f bundles e)
          ∙ sym (sum_by-cons f one bundles)
    ] refl none

-- the bundles without that of an item
sum_left : (p k : ℕ) (f : Pinned → ℕ) (old new : List Pinned) → TakesOut old new p k → sum_by (without p k f) old ≡ sum_by f new
sum_left p k f old new takes_out =
    let all : sum_by (without p k f) old ≡ without p k f (bundle_of p k takes_out.0.0) + sum_by (without p k f) new = sum_by_pushed (without p k f) (bundle_of p k takes_out.0.0) new old takes_out.0.1 in
    let its : is_of p k (bundle_of p k takes_out.0.0) ≡ true = rw (nat_eq_equiv.refl p, nat_eq_equiv.refl k) refl in
    let nothing : without p k f (bundle_of p k takes_out.0.0) ≡ 0 = ap (λ b. cond b 0 (f (bundle_of p k takes_out.0.0))) its in
    let others = sum_all p k f new takes_out.1 in
    omega (arith, all, nothing, others)

-- there is a bundle that a Settle without a fault ends
pub settle_known : {s n p k : ℕ} {limits : Limits} {st : State} {D : List Deed} → Stands s n limits st D → (number : ℕ) → IsFront s n p k (items.Settle number) D → has_bundle st.pins.bundles p number ≡ true
unfolding fault_of
settle_known {s} {n} {p} {k} {limits} {st} {D} stands number front = bundle_there stands p number ∙ not_false (transit.has_bundle p number (history_of s n D)) (fault_none _ OutOfPlace front.sound)

module _ {s n p k : ℕ} {limits : Limits} {st : State} {D : List Deed} (stands : Stands s n limits st D) (place : ℕ) (at : place ≡ p - 1) (old new : Roomy) (is : old ≡ get_or st.sessions place old)
    (take : (me peer : ℕ) (limits : Limits) (L : List EndEntry) → session.Stands me peer limits old.end L → session.Stands me peer limits new.end (ends.Take ∷ L)) where
  -- after a Settle
  pub settle_stands : (number : ℕ) → IsFront s n p k (items.Settle number) D → (table_of_pins : pins.Table) → TakesOut st.pins.bundles table_of_pins.bundles p number → (t : Table) → Unchanged st.table t → (HaveUsers s st.table st.pins.bundles st.dirty → HaveUsers s t table_of_pins.bundles st.dirty)
      → Stands s n limits (record { sessions = set st.sessions place new; table = t; dirty = st.dirty; pins = table_of_pins; work = st.work; awaited = st.awaited; calls = st.calls; jobs = st.jobs }) (Act p k ∷ D)
  unfolding gifts_of_act act_refusal
  settle_stands number front table_of_pins takes_out t same have =
      let there : item_at p k D ≡ Some (items.Settle number) = front_is front limits stands.right in
      let none = gives_none s n p k (items.Settle number) D there refl in
      let listed : (b : Bool) (client index : ℕ) → is_entered s index client D ≡ (if b then is_entered s index client D else is_entered s index client D) = λ b client index. elim b as (λ b. is_entered s index client D ≡ (if b then is_entered s index client D else is_entered s index client D)) [ true ↦ refl | false ↦ refl ] in
      subst (λ q. Stands s n limits (record { sessions = set st.sessions q new; table = t; dirty = st.dirty; pins = table_of_pins; work = st.work; awaited = st.awaited; calls = st.calls; jobs = st.jobs }) (Act p k ∷ D)) (sym at)
      (note_stands s n p k (items.Settle number) D there refl (λ rep. ap (λ found. turns_after s n p rep found D (turns s n rep D)) there)
      (set st.sessions (p - 1) new) st.dirty table_of_pins t stands same (have (users_there stands st.table stands.table.kept))
      (ends_taken s n p k D limits st.sessions old new none stands.ends front.peer (subst (λ q. old ≡ get_or st.sessions q old) at is) (λ before. stepped_onward ends.Take refl before (λ M stood. take s p limits M stood)))
      (λ i c. stands.listed i c ∙ ap (λ b. not (closed c D) && b) (listed (p == c) c i) ∙ sym (listed_is s n p k (items.Settle number) D there i c))
      (λ f. sym (sum_left p number f st.pins.bundles table_of_pins.bundles takes_out) ∙ stands.pins (without p number f) ∙ sum_others p number f (transit.bundles (history_of s n D)) ∙ ap (λ sent_items. sum_by f (map bundle sent_items)) (sym (bundles_settled s n p k number D there)))
      (act_is front limits refl))
