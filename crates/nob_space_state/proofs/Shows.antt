-- What one hold more or less in the table makes of what it shows.
use Rattle.std.proofs.Common.{◌≡◌, ℕ, ◌+◌, ◌-◌, Bool, true, false, Option, Some, None, if◌then◌else◌, refl, sym, ap, subst, ◌∙◌, arith}
use Rattle.std.proofs.lemmas.Option.{none-some}
use Rattle.std.proofs.lemmas.Bool.Decides.{nat_tests}
use Rattle.nob_ids.specs.Names.{is_same, is_counted}
use Rattle.nob_ids.specs.declared.wire_rep.WireRep.{WireRep}
use Rattle.nob_table_rows.specs.declared.counts.Counts.{Counts}
use Rattle.nob_table_rows.specs.declared.counts.Part.{Part}
use Rattle.nob_table_rows.specs.declared.counts.Part.TheVariants.{Hand, Lent}
use Rattle.nob_table_rows.specs.declared.fault.TableFault.{TableFault}
use Rattle.nob_table_rows.specs.declared.fault.TableFault.TheVariants.{Absent}
use Rattle.nob_table_rows.specs.declared.standing.State.{State}
use Rattle.nob_table_rows.specs.declared.standing.State.TheVariants as states
use Rattle.nob_table_rows.specs.declared.standing.Standing.{Standing}
use Rattle.nob_table_rows.specs.Counts.{is_held, more, fewer, no_counts}
use Rattle.nob_table_rows.specs.Standings.{is_known, is_live, is_lost, is_surrogate, unknown, unless_lost, with_counts, after_hold, after_release}
use Rattle.nob_table.specs.Table.{Table, standing, Becomes, ChangeLeaves, hold_fault, release_fault}
use Rattle.nob_table_rows.proofs.Same.{same_is, same_refl}
use Rattle.nob_model_types.specs.declared.turns.Turns.{Turns}
use Rattle.nob_model_types.specs.Turns.{is_own, is_pending, is_granted, is_refused, turns}
use Rattle.nob_model_types.specs.Sessions.{closed}
use Rattle.nob_model_history.specs.declared.history.History.{History}
use Rattle.nob_model_history.specs.Transit as transit
use Rattle.nob_model.specs.Right.{own_ref}
use Rattle.nob_space_state.specs.Holds.{one_more, one_fewer}
use Rattle.nob_space_state.specs.Shows.{far_state, behind, TableShows}

-- whether a standing is what one of another space's objects is, by the session, its own holds and its turns
abbrev pub IsFar : Bool → Turns → Standing → Type 0
IsFar has_closed t it = it.state ≡ far_state has_closed (is_held it.counts) t

-- a fact of each row of a table of which one was changed: it is shown of that row and of the others
pub one_row : {X : Type 0} (P : WireRep → X → Type 0) (rep : WireRep) (old new : WireRep → X) (after : X)
    → ((other : WireRep) → new other ≡ (if is_same rep other then after else old other))
    → P rep after → ((other : WireRep) → is_same rep other ≡ false → P other (old other)) → (other : WireRep) → P other (new other)
one_row {X} P rep old new after becomes here there other =
    elim (is_same rep other) as (λ b. is_same rep other ≡ b → P other (new other)) [
      | true ↦ λ same.
          let is : new other ≡ after = becomes other ∙ rw same refl in
          subst (P other) (sym is) (subst (λ (w : WireRep). P w after) (same_is rep other same) here)
      | false ↦ λ differs.
          let is : new other ≡ old other = becomes other ∙ rw differs refl in
          subst (P other) (sym is) (there other differs)
    ] refl

-- one hold more is a hold
held_more : (part : Part) (counts : Counts) → is_held (more part counts) ≡ true
held_more Hand counts = grind (arith, nat_tests)
held_more Lent counts = grind (arith, nat_tests)

-- without holds both parts are 0
pub no_holds : (counts : Counts) → is_held counts ≡ false → counts ≡ no_counts
no_holds counts free =
    let hand : counts.hand ≡ 0 = grind (arith, nat_tests, free) in
    let lent : counts.lent ≡ 0 = grind (arith, nat_tests, free) in
    λ i. record { hand = hand i; lent = lent i }

-- a surrogate or a lost reference that has counts stays what it is where they still hold it
far_kept : (has_closed : Bool) (t : Turns) (it : Standing) (counts : Counts) → IsFar has_closed t it → is_known it.state ≡ true → is_held counts ≡ true → IsFar has_closed t (with_counts counts it)
far_kept true t it counts far known held =
    elim (is_held it.counts) as (λ b. it.state ≡ (if b then states.Lost else states.Unknown) → it.state ≡ (if is_held counts then states.Lost else states.Unknown)) [
      | true ↦ λ e. e ∙ rw held refl
      | false ↦ λ e. absurd (cc)
    ] far
far_kept false t it counts far known held = far

-- a lost reference that nobody holds any more is forgotten, and every other stays what it is
far_released : (has_closed : Bool) (t : Turns) (it : Standing) (counts : Counts) → IsFar has_closed t it → is_known it.state ≡ true → IsFar has_closed t (unless_lost (with_counts counts it))
far_released true t it counts far known =
    elim (is_held it.counts) as (λ b. it.state ≡ (if b then states.Lost else states.Unknown) → IsFar true t (unless_lost (with_counts counts it))) [
      | true ↦ λ e. rw e (elim (is_held counts) as (λ b. is_held counts ≡ b → IsFar true t (if b then record { state = states.Lost; counts = counts } else unknown)) [
        | true ↦ λ held. rw held refl
        | false ↦ λ free. refl
      ] refl)
      | false ↦ λ e. absurd (cc)
    ] far
far_released false t it counts far known =
    let open_state : is_lost it.state ≡ false = rw far (elim (is_pending t) as (λ b. is_lost (if b then states.Pending else if is_granted t then states.Granted else if is_refused t then states.Refused else states.Unknown) ≡ false) [
      | true ↦ refl
      | false ↦ elim (is_granted t) as (λ b. is_lost (if b then states.Granted else if is_refused t then states.Refused else states.Unknown) ≡ false) [
        | true ↦ refl
        | false ↦ elim (is_refused t) as (λ b. is_lost (if b then states.Refused else states.Unknown) ≡ false) [ true ↦ refl | false ↦ refl ]
      ]
    ]) in
    rw open_state far

module _ (s n : ℕ) (h : History) (H L H' L' : WireRep → ℕ) (t u : Table) (rep : WireRep) (shows : TableShows s n t h H L) (leaves : ChangeLeaves t u) where
  -- one row changes, and what it is stays
  changed_row : (after : Standing) → Becomes t u rep after
      → is_live after.state ≡ is_live (standing t rep).state → is_surrogate after.state ≡ is_surrogate (standing t rep).state
      → (is_counted rep ≡ true → is_own s rep ≡ false → IsFar (closed rep.owner h.deeds) (turns s n rep h.deeds) after)
      → (is_counted rep ≡ true → after.counts.hand ≡ H' rep) → (is_counted rep ≡ true → after.counts.lent ≡ L' rep)
      → ((other : WireRep) → is_same rep other ≡ false → H' other ≡ H other) → ((other : WireRep) → is_same rep other ≡ false → L' other ≡ L other)
      → TableShows s n u h H' L'
  changed_row after becomes live surrogate far hand lent hands loans = record {
    me = leaves.objects.me ∙ shows.me;
    exported = leaves.objects.exported ∙ shows.exported;
    live = λ index. one_row (λ other it. is_live it.state ≡ is_live (standing t other).state) rep (standing t) (standing u) after becomes live (λ other differs. refl) (own_ref s index) ∙ shows.live index;
    far = one_row (λ other it. is_counted other ≡ true → is_own s other ≡ false → IsFar (closed other.owner h.deeds) (turns s n other h.deeds) it) rep (standing t) (standing u) after becomes far (λ other differs. shows.far other);
    hands = one_row (λ other it. is_counted other ≡ true → it.counts.hand ≡ H' other) rep (standing t) (standing u) after becomes hand (λ other differs counted. shows.hands other counted ∙ sym (hands other differs));
    loans = one_row (λ other it. is_counted other ≡ true → it.counts.lent ≡ L' other) rep (standing t) (standing u) after becomes lent (λ other differs counted. shows.loans other counted ∙ sym (loans other differs));
    passed = shows.passed;
    dirties = ap (λ k. shows.passed + k) leaves.surrogates.dirties ∙ shows.dirties;
    places = λ other. ap (behind shows.passed) (leaves.surrogates.places other) ∙ shows.places other ∙ ap (λ b. if b then transit.place other h else None) (sym (one_row (λ w it. is_surrogate it.state ≡ is_surrogate (standing t w).state) rep (standing t) (standing u) after becomes surrogate (λ w differs. refl) other));
    kept = λ rep kept none. shows.kept rep (sym (leaves.objects.kept rep) ∙ kept) none;
  }

-- what is forgotten was neither live nor a surrogate
forgets_live : (state : State) (counts : Counts) → is_live (unless_lost (record { state = state; counts = counts })).state ≡ is_live state
forgets_live states.Lost counts = elim (is_held counts) as (λ b. is_live (if b then record { state = states.Lost; counts = counts } else unknown).state ≡ false) [ true ↦ refl | false ↦ refl ]
forgets_live (_) counts = refl

forgets_surrogate : (state : State) (counts : Counts) → is_surrogate (unless_lost (record { state = state; counts = counts })).state ≡ is_surrogate state
forgets_surrogate states.Lost counts = elim (is_held counts) as (λ b. is_surrogate (if b then record { state = states.Lost; counts = counts } else unknown).state ≡ false) [ true ↦ refl | false ↦ refl ]
forgets_surrogate (_) counts = refl

-- nothing holds what is forgotten
pub forgets_counts : (state : State) (counts : Counts) → (unless_lost (record { state = state; counts = counts })).counts ≡ counts
forgets_counts states.Lost counts = elim (is_held counts) as (λ b. is_held counts ≡ b → (if b then record { state = states.Lost; counts = counts } else unknown).counts ≡ counts) [ true ↦ λ held. refl | false ↦ λ free. sym (no_holds counts free) ] refl
forgets_counts (_) counts = refl

-- what may be held once more, or once less, is known
known_held : (known : Bool) (limit : Option TableFault) → (if known then limit else Some Absent) ≡ None → known ≡ true
known_held true limit e = refl
known_held false limit e = absurd (none-some _ (sym e))

module _ (s n : ℕ) (h : History) (H L : WireRep → ℕ) (t u : Table) (rep : WireRep) (shows : TableShows s n t h H L) (leaves : ChangeLeaves t u) where
  -- one more in the hand
  pub shows_hand_more : hold_fault t rep Hand ≡ None → Becomes t u rep (after_hold Hand (standing t rep)) → TableShows s n u h (one_more rep H) L
  shows_hand_more free becomes =
      let known : is_known (standing t rep).state ≡ true = known_held _ _ free in
      changed_row s n h H L (one_more rep H) L t u rep shows leaves (after_hold Hand (standing t rep)) becomes refl refl
      (λ counted far. far_kept (closed rep.owner h.deeds) (turns s n rep h.deeds) (standing t rep) (more Hand (standing t rep).counts) (shows.far rep counted far) known (held_more Hand (standing t rep).counts))
      (λ counted. rw same_refl (ap (λ k. k + 1) (shows.hands rep counted))) (λ counted. shows.loans rep counted)
      (λ other differs. rw differs refl) (λ other differs. refl)

  -- one more lent
  pub shows_lent_more : hold_fault t rep Lent ≡ None → Becomes t u rep (after_hold Lent (standing t rep)) → TableShows s n u h H (one_more rep L)
  shows_lent_more free becomes =
      let known : is_known (standing t rep).state ≡ true = known_held _ _ free in
      changed_row s n h H L H (one_more rep L) t u rep shows leaves (after_hold Lent (standing t rep)) becomes refl refl
      (λ counted far. far_kept (closed rep.owner h.deeds) (turns s n rep h.deeds) (standing t rep) (more Lent (standing t rep).counts) (shows.far rep counted far) known (held_more Lent (standing t rep).counts))
      (λ counted. shows.hands rep counted) (λ counted. rw same_refl (ap (λ k. k + 1) (shows.loans rep counted)))
      (λ other differs. refl) (λ other differs. rw differs refl)

  -- one fewer in the hand
  pub shows_hand_fewer : release_fault t rep Hand ≡ None → Becomes t u rep (after_release Hand (standing t rep)) → TableShows s n u h (one_fewer rep H) L
  shows_hand_fewer there becomes =
      let known : is_known (standing t rep).state ≡ true = known_held _ _ there in
      let it : Standing = standing t rep in
      changed_row s n h H L (one_fewer rep H) L t u rep shows leaves (after_release Hand it) becomes (forgets_live it.state (fewer Hand it.counts)) (forgets_surrogate it.state (fewer Hand it.counts))
      (λ counted far. far_released (closed rep.owner h.deeds) (turns s n rep h.deeds) it (fewer Hand it.counts) (shows.far rep counted far) known)
      (λ counted. ap (λ (c : Counts). c.hand) (forgets_counts it.state (fewer Hand it.counts)) ∙ rw same_refl (ap (λ k. k - 1) (shows.hands rep counted)))
      (λ counted. ap (λ (c : Counts). c.lent) (forgets_counts it.state (fewer Hand it.counts)) ∙ shows.loans rep counted)
      (λ other differs. rw differs refl) (λ other differs. refl)

  -- one fewer lent
  pub shows_lent_fewer : release_fault t rep Lent ≡ None → Becomes t u rep (after_release Lent (standing t rep)) → TableShows s n u h H (one_fewer rep L)
  shows_lent_fewer there becomes =
      let known : is_known (standing t rep).state ≡ true = known_held _ _ there in
      let it : Standing = standing t rep in
      changed_row s n h H L H (one_fewer rep L) t u rep shows leaves (after_release Lent it) becomes (forgets_live it.state (fewer Lent it.counts)) (forgets_surrogate it.state (fewer Lent it.counts))
      (λ counted far. far_released (closed rep.owner h.deeds) (turns s n rep h.deeds) it (fewer Lent it.counts) (shows.far rep counted far) known)
      (λ counted. ap (λ (c : Counts). c.hand) (forgets_counts it.state (fewer Lent it.counts)) ∙ shows.hands rep counted)
      (λ counted. ap (λ (c : Counts). c.lent) (forgets_counts it.state (fewer Lent it.counts)) ∙ rw same_refl (ap (λ k. k - 1) (shows.loans rep counted)))
      (λ other differs. refl) (λ other differs. rw differs refl)
