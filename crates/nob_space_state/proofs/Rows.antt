-- What a change of an own object's row makes of what the table shows.
use Rattle.std.proofs.Common.{◌≡◌, ℕ, ◌+◌, Bool, true, false, not, ◌&&◌, ◌==◌, List, [], ◌∷◌, length, cond, Option, Some, None, if◌then◌else◌, refl, sym, ap, subst, ◌∙◌}
use Rattle.std.proofs.lemmas.Map.Made.{length-from_same_keys}
use Rattle.std.proofs.lemmas.Map.Views.{any-filter_same}
use Rattle.std.specs.List.{IsDistinct, AllByRecursion, list_any, filter}
use Rattle.nob_ids.specs.Names.{is_same, is_counted}
use Rattle.nob_ids.specs.declared.wire_rep.WireRep.{WireRep}
use Rattle.nob_table_rows.specs.declared.counts.Counts.{Counts}
use Rattle.nob_table_rows.specs.declared.standing.Grant.TheVariants as grants
use Rattle.nob_table_rows.specs.declared.standing.Standing.{Standing}
use Rattle.nob_table_rows.specs.declared.standing.Surrogate.{Surrogate}
use Rattle.nob_table_rows.specs.Counts.{no_counts}
use Rattle.nob_rows.specs.Rows.{row_at, IsOnce}
use Rattle.nob_table_rows.specs.Standings.{is_live, is_surrogate, own_standing, far_standing, state_of}
use Rattle.nob_table.specs.Table.{Table, standing, live_reps, was_given, Becomes, SameSurrogates}
use Rattle.nob_table_rows.proofs.Same.{same_laws, same_is}
use Rattle.nob_model_types.specs.Objects as objects
use Rattle.nob_model_types.specs.Turns.{is_own, turns}
use Rattle.nob_model_types.specs.Sessions.{closed}
use Rattle.nob_model_history.specs.declared.history.History.{History}
use Rattle.nob_model_history.specs.Transit as transit
use Rattle.nob_model.specs.Right.{own_ref}
use Rattle.nob_table_rows.specs.Counts as counts
use Rattle.nob_space_state.specs.Shows.{TableShows, AreUsed, behind, far_state}
use Rattle.nob_space_state.proofs.Shows.{one_row}
use Rattle.nob_space_state.proofs.Told.{own_is}

-- an own object is no surrogate, and without counts where it isn't live
own_standing_is : (given : Bool) (row : Option Counts) → (is_surrogate (own_standing given row).state ≡ false) × (is_live (own_standing given row).state ≡ false → (own_standing given row).counts ≡ no_counts)
own_standing_is given (Some c) = (refl, λ e. absurd (cc))
own_standing_is true None = (refl, λ e. refl)
own_standing_is false None = (refl, λ e. refl)

pub own_there : (t : Table) (rep : WireRep) → rep.owner == t.me ≡ true → (is_surrogate (standing t rep).state ≡ false) × (is_live (standing t rep).state ≡ false → (standing t rep).counts ≡ no_counts)
own_there t rep own = rw own (own_standing_is (was_given t.exported rep.index) (row_at t.objects rep))

-- another space's object isn't live here
far_not_live : (surrogate : Option Surrogate) (row : Option Counts) → is_live (far_standing surrogate row).state ≡ false
far_not_live surrogate None = refl
far_not_live None (Some c) = refl
far_not_live (Some g) (Some c) = elim g.grant as (λ k. is_live (state_of k) ≡ false) [ grants.Pending ↦ refl | grants.Granted ↦ refl | grants.Refused ↦ refl ]

-- a filter keeps keys apart
none_filtered : {K : Type 0} (eq : K → K → Bool) (p : K → Bool) (x : K) (xs : List K) → AllByRecursion (λ y. eq x y ≡ false) xs → AllByRecursion (λ y. eq x y ≡ false) (filter p xs)
none_filtered eq p x [] none = tt
none_filtered eq p x (y ∷ ys) none = elim (p y) as (λ b. AllByRecursion (λ y. eq x y ≡ false) (cond b (y ∷ filter p ys) (filter p ys))) [
  | true ↦ (none.0, none_filtered eq p x ys none.1)
  | false ↦ none_filtered eq p x ys none.1
]

pub distinct_filtered : {K : Type 0} (eq : K → K → Bool) (p : K → Bool) (xs : List K) → IsDistinct eq xs → IsDistinct eq (filter p xs)
unfolding IsDistinct
distinct_filtered eq p [] apart = tt
distinct_filtered eq p (x ∷ xs) apart = elim (p x) as (λ b. IsDistinct eq (cond b (x ∷ filter p xs) (filter p xs))) [
  | true ↦ (none_filtered eq p x xs apart.0, distinct_filtered eq p xs apart.1)
  | false ↦ distinct_filtered eq p xs apart.1
]

-- in either order
both_ways : (a b : Bool) → (a && b) ≡ (b && a)
both_ways true true = refl
both_ways true false = refl
both_ways false true = refl
both_ways false false = refl

-- no test is both
pub differ : {b : Bool} → b ≡ true → b ≡ false → ⊥
differ one other = let bad : true ≡ false = sym one ∙ other in absurd (cc)

module _ {s n : ℕ} {t : Table} {h : History} {H L : WireRep → ℕ} (shows : TableShows s n t h H L) where
  -- a reference is among the live ones where the table has it live
  live_there : (rep : WireRep) → is_live (standing t rep).state ≡ list_any (is_same rep) (objects.live s h.deeds)
  live_there rep =
      let kept : (w : WireRep) → is_same rep w ≡ true → (w.owner == s && not (objects.is_withdrawn w.index h.deeds)) ≡ (rep.owner == s && not (objects.is_withdrawn rep.index h.deeds)) =
      λ w same. ap (λ (r : WireRep). r.owner == s && not (objects.is_withdrawn r.index h.deeds)) (sym (same_is rep w same)) in
      let found : list_any (is_same rep) (objects.live s h.deeds) ≡ ((rep.owner == s && not (objects.is_withdrawn rep.index h.deeds)) && list_any (is_same rep) (objects.exports h.deeds)) =
      any-filter_same (is_same rep) (λ w. w.owner == s && not (objects.is_withdrawn w.index h.deeds)) _ kept (objects.exports h.deeds) in
      elim (rep.owner == s) as (λ b. rep.owner == s ≡ b → is_live (standing t rep).state ≡ ((b && not (objects.is_withdrawn rep.index h.deeds)) && list_any (is_same rep) (objects.exports h.deeds))) [
        | true ↦ λ own.
            let is : rep ≡ own_ref s rep.index = own_is rep s own in
            ap (λ (w : WireRep). is_live (standing t w).state) is ∙ shows.live rep.index
            ∙ both_ways (list_any (is_same (own_ref s rep.index)) (objects.exports h.deeds)) (not (objects.is_withdrawn rep.index h.deeds))
            ∙ ap (λ (w : WireRep). not (objects.is_withdrawn rep.index h.deeds) && list_any (is_same w) (objects.exports h.deeds)) (sym is)
        | false ↦ λ other. rw shows.me (rw other (far_not_live (row_at t.surrogates rep) (row_at t.counted rep)))
      ] refl ∙ sym found

  -- as many objects are live
  pub live_count : IsDistinct is_same (objects.exports h.deeds) → IsOnce t.objects → ((rep : WireRep) → list_any (is_same rep) (live_reps t) ≡ is_live (standing t rep).state) → length (live_reps t) ≡ length (objects.live s h.deeds)
  live_count once rows members = length-from_same_keys same_laws (live_reps t) (objects.live s h.deeds) rows (distinct_filtered is_same _ (objects.exports h.deeds) once) (λ rep. members rep ∙ live_there rep)

module _ (s n : ℕ) (h h' : History) (H L H' L' : WireRep → ℕ) (t u : Table) (rep : WireRep) (shows : TableShows s n t h H L) (own : rep.owner == s ≡ true) (surrogates : SameSurrogates t u)
    (closings : (p : ℕ) → closed p h.deeds ≡ closed p h'.deeds) (same_turns : (w : WireRep) → turns s n w h.deeds ≡ turns s n w h'.deeds) (dirties : transit.dirties h ≡ transit.dirties h') where
  -- one own row changes
  pub own_row : (after : Standing) → Becomes t u rep after → u.me ≡ t.me → u.exported ≡ length (objects.exports h'.deeds) → is_surrogate after.state ≡ false
      → ((index : ℕ) → is_same rep (own_ref s index) ≡ true → is_live after.state ≡ objects.is_live s index h'.deeds)
      → ((index : ℕ) → is_same rep (own_ref s index) ≡ false → objects.is_live s index h.deeds ≡ objects.is_live s index h'.deeds)
      → (is_counted rep ≡ true → after.counts.hand ≡ H' rep) → (is_counted rep ≡ true → after.counts.lent ≡ L' rep)
      → ((other : WireRep) → is_counted other ≡ true → is_same rep other ≡ false → H other ≡ H' other) → ((other : WireRep) → is_counted other ≡ true → is_same rep other ≡ false → L other ≡ L' other)
      → AreUsed s u h' → TableShows s n u h' H' L'
  own_row after becomes me exported surrogate live_here live_else hand lent hands loans kept =
      let before : is_surrogate (standing t rep).state ≡ false = (own_there t rep (subst (λ m. rep.owner == m ≡ true) (sym shows.me) own)).0 in
      record {
        me = me ∙ shows.me;
        exported = exported;
        live = λ index. elim (is_same rep (own_ref s index)) as (λ b. is_same rep (own_ref s index) ≡ b → is_live (standing u (own_ref s index)).state ≡ objects.is_live s index h'.deeds) [
          | true ↦ λ same. let is : standing u (own_ref s index) ≡ after = becomes (own_ref s index) ∙ rw same refl in ap (λ (it : Standing). is_live it.state) is ∙ live_here index same
          | false ↦ λ differs. let is : standing u (own_ref s index) ≡ standing t (own_ref s index) = becomes (own_ref s index) ∙ rw differs refl in ap (λ (it : Standing). is_live it.state) is ∙ shows.live index ∙ live_else index differs
        ] refl;
        far = one_row (λ other it. is_counted other ≡ true → is_own s other ≡ false → it.state ≡ far_state (closed other.owner h'.deeds) (counts.is_held it.counts) (turns s n other h'.deeds)) rep (standing t) (standing u) after becomes
            (λ counted away. absurd (differ own away))
            (λ other differs counted away. shows.far other counted away
            ∙ ap (λ b. far_state b (counts.is_held (standing t other).counts) (turns s n other h.deeds)) (closings other.owner)
            ∙ ap (λ w. far_state (closed other.owner h'.deeds) (counts.is_held (standing t other).counts) w) (same_turns other));
        hands = one_row (λ other it. is_counted other ≡ true → it.counts.hand ≡ H' other) rep (standing t) (standing u) after becomes hand (λ other differs counted. shows.hands other counted ∙ hands other counted differs);
        loans = one_row (λ other it. is_counted other ≡ true → it.counts.lent ≡ L' other) rep (standing t) (standing u) after becomes lent (λ other differs counted. shows.loans other counted ∙ loans other counted differs);
        passed = shows.passed;
        dirties = ap (λ k. shows.passed + k) surrogates.dirties ∙ shows.dirties ∙ ap length dirties;
        places = λ other. ap (behind shows.passed) (surrogates.places other) ∙ shows.places other
            ∙ ap (λ b. if b then transit.place other h else None) (sym (one_row (λ w it. is_surrogate it.state ≡ is_surrogate (standing t w).state) rep (standing t) (standing u) after becomes (surrogate ∙ sym before) (λ w differs. refl) other))
            ∙ ap (λ reps. if is_surrogate (standing u other).state then transit.last_place other reps else None) dirties;
        kept = kept;
      }
