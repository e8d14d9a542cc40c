-- What is kept from outside is used there: by the sets and the bundles, and by what was done.
use Rattle.std.proofs.Common.{◌≡◌, ℕ, true, false, not, ◌&&◌, ◌||◌, ◌==◌, List, [], ◌∷◌, refl, sym, subst, ◌∙◌}
use Rattle.std.proofs.lemmas.Bool.Decides.{Decides-eqb}
use Rattle.std.proofs.lemmas.Cmp.{nat_eq_equiv}
use Rattle.nob_ids.specs.declared.wire_rep.WireRep.{WireRep}
use Rattle.nob_dirty.specs.declared.sets.Listing.{Listing}
use Rattle.nob_dirty.specs.Sets.{lists}
use Rattle.nob_pins.specs.Bundles.{Pinned, count_of}
use Rattle.nob_table.specs.Table.{Table, Unchanged}
use Rattle.nob_ids.specs.declared.limits.Limits.{Limits}
use Rattle.nob_model_types.specs.declared.deed.Deed.{Deed}
use Rattle.nob_model_history.specs.declared.history.History.{History}
use Rattle.nob_model_history.specs.Histories.{history_of}
use Rattle.nob_model_history.specs.Listing.{is_listed}
use Rattle.nob_space_state.specs.Shows.{AreUsed}
use Rattle.nob_space_state.proofs.Marked.{unmarked, shows_marked, shows_unmarked}
use Rattle.nob_space_state.specs.Looks.{has_clients, is_used, IsUsed, HaveUsers}
use Rattle.nob_space_state.specs.Parts.{State, with_table}
use Rattle.nob_space_state.specs.Stands.{Stands, PinsStand}
use Rattle.nob_space_state.proofs.Pinned.{pins_of, pins_there}

-- where the sets have a client at an index, it is one of them
pub some_client : (index : ℕ) (dirty : List Listing) → has_clients dirty index ≡ true → (client : ℕ) × (lists dirty index client ≡ true)
some_client index [] has = absurd (cc)
some_client index (one ∷ dirty) has =
    elim (one.index == index) as (λ b. one.index == index ≡ b → (b || has_clients dirty index) ≡ true → (client : ℕ) × (lists (one ∷ dirty) index client ≡ true)) [
      | true ↦ λ here _. (one.client, rw (here, own one.client) refl)
      | false ↦ λ other rest. let it = some_client index dirty rest in (it.0, rw (other) it.1)
    ] refl has
  where
    own : (client : ℕ) → client == client ≡ true
    own client = nat_eq_equiv.refl client

-- and where one is listed the sets have one
pub client_had : (index client : ℕ) (dirty : List Listing) → lists dirty index client ≡ true → has_clients dirty index ≡ true
client_had index client [] listed = absurd (cc)
client_had index client (one ∷ dirty) listed =
    elim (one.index == index) as (λ b. ((b && one.client == client) || lists dirty index client) ≡ true → (b || has_clients dirty index) ≡ true) [
      | true ↦ λ _. refl
      | false ↦ λ rest. client_had index client dirty rest
    ] listed

-- what the test says
pub used_is : (s : ℕ) (bundles : List Pinned) (dirty : List Listing) (rep : WireRep) → is_used s bundles dirty rep ≡ true → IsUsed s bundles dirty rep
used_is s bundles dirty rep used none =
    elim (rep.owner == s) as (λ b. rep.owner == s ≡ b → (not (0 == 0) || (b && has_clients dirty rep.index)) ≡ true → (rep.owner ≡ s) × (client : ℕ) × (lists dirty rep.index client ≡ true)) [
      | true ↦ λ own has. let it = some_client rep.index dirty has in ((Decides-eqb rep.owner s).0 own, it.0, it.1)
      | false ↦ λ _ has. absurd (cc)
    ] refl (subst (λ (k : ℕ). (not (k == 0) || (rep.owner == s && has_clients dirty rep.index)) ≡ true) none used)

pub is_used_there : (s : ℕ) (bundles : List Pinned) (dirty : List Listing) (rep : WireRep) → IsUsed s bundles dirty rep → is_used s bundles dirty rep ≡ true
is_used_there s bundles dirty rep used =
    elim (count_of bundles rep == 0) as (λ b. count_of bundles rep == 0 ≡ b → (not b || (rep.owner == s && has_clients dirty rep.index)) ≡ true) [
      | true ↦ λ none.
          let it = used ((Decides-eqb (count_of bundles rep) 0).0 none) in
          let own : rep.owner == s ≡ true = subst (λ k. rep.owner == k ≡ true) it.0 (nat_eq_equiv.refl rep.owner) in
          rw (own, client_had rep.index it.1 dirty it.2) refl
      | false ↦ λ _. refl
    ] refl

-- what is used by the sets and the bundles is used by what was done, where these stand for it
pub used_of : (s : ℕ) (t : Table) (bundles : List Pinned) (dirty : List Listing) (h : History) → PinsStand bundles h → ((index client : ℕ) → lists dirty index client ≡ is_listed s index client h.deeds) → HaveUsers s t bundles dirty → AreUsed s t h
used_of s t bundles dirty h stand listed have rep kept none = (let it = have rep kept (pins_of bundles h stand rep ∙ none) in (it.0, it.1, sym (listed rep.index it.1) ∙ it.2))

module _ {s n : ℕ} {limits : Limits} {st : State} {D : List Deed} (stands : Stands s n limits st D) (t : Table) where
  -- what is used by what was done is used by the sets and the bundles
  pub users_there : AreUsed s t (history_of s n D) → HaveUsers s t st.pins.bundles st.dirty
  users_there used rep kept none = (let it = used rep kept (sym (pins_there stands rep) ∙ none) in (it.0, it.1, stands.listed rep.index it.1 ∙ it.2))

  -- and the other way round
  pub used_there : HaveUsers s t st.pins.bundles st.dirty → AreUsed s t (history_of s n D)
  used_there have = used_of s t st.pins.bundles st.dirty (history_of s n D) stands.pins stands.listed have

  -- a state stands for what it stood for whatever else its table keeps from outside, as long as that is used there
  pub marked_stands : Unchanged st.table t → HaveUsers s t st.pins.bundles st.dirty → Stands s n limits (with_table t st) D
  marked_stands same have = record {
    ends = stands.ends;
    table = shows_marked same (used_there have) (shows_unmarked stands.table);
    listed = stands.listed;
    pins = stands.pins;
    work = stands.work;
    awaited = stands.awaited;
    calls = stands.calls;
    jobs = stands.jobs;
    right = stands.right;
  }

-- the state with a table that keeps nothing from outside
pub unmarked_stands : {s n : ℕ} {limits : Limits} {st : State} {D : List Deed} → Stands s n limits st D → Stands s n limits (with_table (unmarked st.table) st) D
unmarked_stands {s} {n} {limits} {st} {D} stands = record {
  ends = stands.ends;
  table = shows_unmarked stands.table;
  listed = stands.listed;
  pins = stands.pins;
  work = stands.work;
  awaited = stands.awaited;
  calls = stands.calls;
  jobs = stands.jobs;
  right = stands.right;
}
