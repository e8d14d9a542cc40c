-- Letting references go that nothing outside uses any more, and keeping those that are in transit.
use Rattle.std.proofs.Common.{◌≡◌, ℕ, true, false, ◌==◌, List, [], ◌∷◌, nat_lt, refl, sym, ap, subst, ◌∙◌, arith}
use Rattle.std.specs.List.{list_any}
use Rattle.std.proofs.lemmas.Bool.Decides.{nat_tests, Decides-eqb}
use Rattle.nob_ids.specs.Names.{is_same}
use Rattle.nob_ids.specs.declared.wire_rep.WireRep.{WireRep}
use Rattle.nob_dirty.specs.declared.sets.Listing.{Listing}
use Rattle.nob_dirty.specs.Sets.{lists, AreIndexes, Leaves, LeavesAll}
use Rattle.nob_pins.specs.Bundles.{Adds, Pinned, bundle_of, count_of, times}
use Rattle.nob_pins.proofs.Callers.{among, count_taken}
use Rattle.nob_space_state.specs.Pins.{AddsPins}
use Rattle.nob_table.specs.Table.{Table, is_kept, Marked}
use Rattle.nob_space_state.specs.Looks.{is_used, HaveUsers, IsAmong, KeepsMore, LetsGo}
use Rattle.nob_space_state.proofs.Kept.{used_is}

module _ (s : ℕ) (t u : Table) (bundles : List Pinned) (old new : List Listing) (client : ℕ) where
  -- what is still kept is used outside
  pub unlisted_have : (index : ℕ) → Leaves old new index client → LetsGo s (λ rep. record { owner = s; index = index } ≡ rep) t u bundles new → HaveUsers s t bundles old → HaveUsers s u bundles new
  unlisted_have index leaves lets have rep kept none =
      let went = lets rep kept in
      let it = have rep went.0 none in
      elim (index == rep.index) as (λ b. index == rep.index ≡ b → (rep.owner ≡ s) × (c : ℕ) × (lists new rep.index c ≡ true)) [
        | true ↦ λ same. used_is s bundles new rep (went.1 (λ i. record { owner = sym it.0 i; index = (Decides-eqb index rep.index).0 same i })) none
        | false ↦ λ differs. (it.0, it.1, leaves rep.index it.1 ∙ rw (differs, it.2) refl)
      ] refl

  pub all_unlisted_have : (indexes : List ℕ) → LeavesAll old new client → AreIndexes old client indexes → LetsGo s (λ rep. IsAmong s indexes rep) t u bundles new → HaveUsers s t bundles old → HaveUsers s u bundles new
  all_unlisted_have indexes leaves its lets have rep kept none =
      let went = lets rep kept in
      let it = have rep went.0 none in
      elim (client == it.1) as (λ b. client == it.1 ≡ b → (rep.owner ≡ s) × (c : ℕ) × (lists new rep.index c ≡ true)) [
        | true ↦ λ same. used_is s bundles new rep (went.1 (it.0, (its rep.index).1 (subst (λ c. lists old rep.index c ≡ true) (sym ((Decides-eqb client it.1).0 same)) it.2))) none
        | false ↦ λ differs. (it.0, it.1, leaves rep.index it.1 ∙ rw (differs, it.2) refl)
      ] refl

module _ (s : ℕ) (t u : Table) (old new : List Pinned) (dirty : List Listing) where
  -- pins that end leave used what else is pinned or listed
  pub ended_have : (reps : List WireRep) → ((rep : WireRep) → count_of new rep ≡ 0 → list_any (is_same rep) reps ≡ false → count_of old rep ≡ 0) → LetsGo s (λ rep. list_any (is_same rep) reps ≡ true) t u new dirty → HaveUsers s t old dirty → HaveUsers s u new dirty
  ended_have reps fewer lets have rep kept none =
      let went = lets rep kept in
      elim (list_any (is_same rep) reps) as (λ b. list_any (is_same rep) reps ≡ b → (rep.owner ≡ s) × (c : ℕ) × (lists dirty rep.index c ≡ true)) [
        | true ↦ λ among. used_is s new dirty rep (went.1 among) none
        | false ↦ λ others. have rep went.0 (fewer rep none others)
      ] refl

  -- more pins leave used what was, and what they are on is used
  pub kept_have : (reps : List WireRep) → ((rep : WireRep) → count_of new rep ≡ 0 → (count_of old rep ≡ 0) × (list_any (is_same rep) reps ≡ false)) → KeepsMore t u reps → HaveUsers s t old dirty → HaveUsers s u new dirty
  kept_have reps more keeps have rep kept none =
      let was = more rep none in
      elim (is_kept t rep) as (λ b. is_kept t rep ≡ b → (rep.owner ≡ s) × (c : ℕ) × (lists dirty rep.index c ≡ true)) [
        | true ↦ λ before. have rep before was.0
        | false ↦ λ fresh. let bad : true ≡ false = sym (keeps rep kept fresh) ∙ was.1 in absurd (cc)
      ] refl

-- marks that were written twice were written
pub marked_twice : {t u v : Table} → Marked t u → Marked u v → Marked t v
marked_twice one two = record {
  items = record {
    me = two.items.me ∙ one.items.me;
    exported = two.items.exported ∙ one.items.exported;
    objects = two.items.objects ∙ one.items.objects;
    counted = two.items.counted ∙ one.items.counted;
    surrogates = two.items.surrogates ∙ one.items.surrogates;
    dirties = two.items.dirties ∙ one.items.dirties;
  };
  export_room = (let first = one.export_room in let second = two.export_room in omega (arith, first, second));
  surrogate_room = (let first = one.surrogate_room in let second = two.surrogate_room in omega (arith, first, second));
}

module _ (s : ℕ) (bundles : List Pinned) (dirty : List Listing) where
  -- what new keeps from outside old keeps too, and some references, but for those that are left, only where they are used outside
  abbrev pub LetsGoBut : (all left : List WireRep) → (old new : Table) → Type 0
  LetsGoBut all left old new = (rep : WireRep) → is_kept new rep ≡ true → (is_kept old rep ≡ true) × (list_any (is_same rep) all ≡ true → list_any (is_same rep) left ≡ false → is_used s bundles dirty rep ≡ true)

-- what has no pins once a bundle was added had none before, and isn't in the bundle
pub none_added : (old new : List Pinned) (peer item : ℕ) (reps : List WireRep) → AddsPins old new peer item reps → (rep : WireRep) → count_of new rep ≡ 0 → (count_of old rep ≡ 0) × (list_any (is_same rep) reps ≡ false)
none_added old new peer item [] same rep none = (ap (λ bundles. count_of bundles rep) (sym same) ∙ none, refl)
none_added old new peer item (first ∷ reps) adds rep none =
    let sum = count_taken new old peer item (first ∷ reps) adds rep in
    let zeroth : times rep (first ∷ reps) ≡ 0 = omega (arith, sum, none) in
    (omega (arith, sum, none), among rep (first ∷ reps) ∙ ap (nat_lt 0) zeroth)

-- what has no pins once a bundle was taken out had none before, where it isn't in the bundle
pub none_taken : (old new : List Pinned) (peer item : ℕ) (reps : List WireRep) → Adds new old (bundle_of peer item reps) → (rep : WireRep) → count_of new rep ≡ 0 → list_any (is_same rep) reps ≡ false → count_of old rep ≡ 0
none_taken old new peer item reps adds rep none others =
    let sum = count_taken old new peer item reps adds rep in
    let zeroth : nat_lt 0 (times rep reps) ≡ false = sym (among rep reps) ∙ others in
    let no_times : times rep reps ≡ 0 = grind (arith, nat_tests, zeroth) in
    omega (arith, sum, none, no_times)
