-- The bridge, as a whole.
use Rattle.std.proofs.Common.{◌≡◌, ℕ, ◌+◌, ◌-◌, ◌≤◌, max, Bool, true, false, List, refl, sym, subst, ◌∙◌, arith, ◌⊎◌, inl, inr}
use Rattle.std.specs.Prelude.{◌*◌, ◌==◌}
use Rattle.std.proofs.lemmas.Bool.{eqb-true}
use Rattle.nob_ids.specs.declared.limits.Limits.{Limits}
use Rattle.nob_model_session.specs.End.{last_session, seen}
use Rattle.nob_model_session.specs.Right.{queue_limit}
use Rattle.nob_model_types.specs.declared.entry.Entry.{Entry}
use Rattle.nob_model_types.specs.declared.deed.Deed.{Deed}
use Rattle.nob_model_types.specs.Deeds.{deeds}
use Rattle.nob_model_types.specs.Sessions.{is_peer, number}
use Rattle.nob_model_history.specs.Histories.{history}
use Rattle.nob_model_history.specs.Ends.{calls_at}
use Rattle.nob_model.specs.Right.{last_number, calls_made, jobs_made}
use Rattle.nob_model.specs.Opening.{next_number}
use Rattle.nob_model.specs.Lists.{AreRight}
use Rattle.nob_model.proofs.Doing.{right_deeds}
use Rattle.nob_model_lives.specs.Births.{Birth}
use Rattle.nob_model_lives.specs.Alone.{AloneLaw}
use Rattle.nob_model_lives.specs.Bridges.{CanPassCalls, CanBeBorn, BridgeLaw, Bounds, Cover, LeaveRoom, birth_behind, BoundsLaw}
use Rattle.nob_model_lives.proofs.Leads.{Leads, leads_on}
use Rattle.nob_model_lives.proofs.Shown.{Shown, shown_by}
use Rattle.nob_model_lives.proofs.Still.{AreGone}
use Rattle.nob_model_lives.proofs.Withdraws.{Waits}
use Rattle.nob_model_lives.proofs.Opens.{next_of}
use Rattle.nob_model_lives.proofs.Born.{Reaches, HasWords, open_all, rest_all, reach_none, born_behind}
use Rattle.nob_model_lives.proofs.Passes.{AfterCalls, pass_many}

less_of : (made wanted most : ℕ) → wanted ≤ made + most → wanted - made ≤ most
less_of made wanted most few = omega (arith, few)

sum_of : (made wanted : ℕ) → made ≤ wanted → made + (wanted - made) ≡ wanted
sum_of made wanted low = omega (arith, low)

room_of : (made wanted last : ℕ) → made ≤ wanted → wanted ≤ last → made + (wanted - made) ≤ last
room_of made wanted last low most = omega (arith, low, most)

at_most : (a b c : ℕ) → a ≤ b → b ≡ c → a ≤ c
at_most a b c low same = omega (arith, low, same)

module _ (s n : ℕ) (limits : Limits) (birth : Birth) (L : List Entry) (right : AreRight s n limits L) (can : CanBeBorn s n birth L) where
  abbrev shown : Shown
  shown = shown_by s n (deeds L)

  next_low : (q : ℕ) → is_peer s n q ≡ true → next_of shown q ≤ birth.session q
  next_low q peer = (can.sessions q peer).0

  -- from rest, with the calls passed over or none to pass over
  reach_calls : (E : List Deed) → Waits s n limits shown E → AreGone s E → CanPassCalls s n birth L → Leads (Reaches s n limits birth 0) E
  reach_calls E waits gone (inl exact) = reach_none s n limits birth shown E waits gone can.indexes can.last_index (sym exact) can.jobs next_low
  reach_calls E waits gone (inr with_peer) =
      let p : ℕ = with_peer.0 in
      let passes : ℕ = birth.session p - next_of shown p in
      let m : ℕ = birth.calls - calls_made (deeds L) in
      let low : next_of shown p ≤ birth.session p = next_low p with_peer.1 in
      leads_on (AfterCalls s n limits p m passes shown) (Reaches s n limits birth 0) E
      (pass_many s n limits p passes m shown E with_peer.1 (room_of (next_of shown p) (birth.session p) last_session low (can.sessions p with_peer.1).1) (less_of (calls_made (deeds L)) birth.calls (queue_limit * passes) with_peer.2) (room_of (calls_made (deeds L)) birth.calls last_number can.calls can.last_call) waits gone)
      (λ F after. reach_none s n limits birth after.0 F after.2 after.3
      (subst (λ (k : ℕ). k ≤ birth.indexes) (sym after.1.indexes) can.indexes) can.last_index
      (after.1.calls ∙ sum_of (calls_made (deeds L)) birth.calls can.calls) (after.1.jobs ∙ can.jobs)
      (λ q peer. elim (p == q) as (λ (b : Bool). (p == q) ≡ b → next_of after.0 q ≤ birth.session q) [
        | true ↦ λ same. subst (λ (r : ℕ). next_of after.0 r ≤ birth.session r) (eqb-true p q same) (at_most (next_of after.0 p) (next_of shown p + passes) (birth.session p) after.1.next (sum_of (next_of shown p) (birth.session p) low))
        | false ↦ λ other. subst (λ (k : ℕ). k ≤ birth.session q) (sym (after.1.others q other)) (next_low q peer)
      ] refl))

  bridge_deeds : Leads (HasWords s n limits birth) (deeds L)
  bridge_deeds =
      leads_on (λ E. Waits s n limits shown E × AreGone s E) (HasWords s n limits birth) (deeds L) (rest_all s n limits (deeds L) (right_deeds s n limits L right))
      (λ E rest. leads_on (Reaches s n limits birth 0) (HasWords s n limits birth) E (reach_calls E rest.0 rest.1 can.pass_calls)
      (λ F reach. open_all s n limits birth F (λ p peer. (can.sessions p peer).1) reach))

-- behind every list of right entries there are entries, which need nobody else, that bring the space to every birth to which it can be brought
pub alone_law : AloneLaw
alone_law s n limits birth L right can = born_behind s n limits birth L right (bridge_deeds s n limits birth L right can)

-- and so there are entries
pub bridge_law : BridgeLaw
bridge_law s n limits birth L right can = let found = alone_law s n limits birth L right can in (found.0, found.2)

next_below : (given heard bound : ℕ) → given ≤ bound → heard ≤ bound → max (given + 1) heard ≤ bound + 2
next_below given heard bound one two = omega (arith, one, two)

one_passed : (given heard bound : ℕ) → given ≤ bound → heard ≤ bound → 1 ≤ (bound + 2) - max (given + 1) heard
one_passed given heard bound one two = omega (arith, one, two)

more_of : (passes made wanted : ℕ) → 1 ≤ passes → wanted ≤ made + queue_limit → wanted ≤ made + queue_limit * passes
more_of passes made wanted some few = omega (arith, some, few)

calls_behind : (s n : ℕ) (bounds : Bounds) (jobs : ℕ) (L : List Entry) → Cover s n bounds L → (bounds.calls ≡ calls_made (deeds L)) ⊎ ((p : ℕ) × (is_peer s n p ≡ true)) → CanPassCalls s n (birth_behind bounds jobs) L
calls_behind s n bounds jobs L cover (inl exact) = inl exact
calls_behind s n bounds jobs L cover (inr peer) =
    inr (peer.0, peer.1, more_of ((bounds.session peer.0 + 2) - next_number peer.0 (history s n L)) (calls_made (deeds L)) bounds.calls (one_passed (number peer.0 (deeds L)) (seen (calls_at peer.0 (history s n L))) (bounds.session peer.0) (cover.sessions peer.0 peer.1) (cover.heard peer.0 peer.1)) cover.few_calls)

-- bounds that cover what was shown, and leave room, are those of a birth to which a space can be brought
pub behind_bounds : (s n : ℕ) (bounds : Bounds) (L : List Entry) → Cover s n bounds L → LeaveRoom s n bounds L → CanBeBorn s n (birth_behind bounds (jobs_made (deeds L))) L
behind_bounds s n bounds L cover room = record {
  indexes = cover.indexes;
  last_index = room.indexes;
  calls = cover.calls;
  last_call = room.calls;
  pass_calls = calls_behind s n bounds (jobs_made (deeds L)) L cover room.peer;
  jobs = refl;
  sessions = λ p peer. (next_below (number p (deeds L)) (seen (calls_at p (history s n L))) (bounds.session p) (cover.sessions p peer) (cover.heard p peer), room.sessions p peer);
}

-- so behind every list of right entries there are entries after which the space is born behind such bounds
pub bounds_law : BoundsLaw
bounds_law s n limits bounds L right cover room = bridge_law s n limits (birth_behind bounds (jobs_made (deeds L))) L right (behind_bounds s n bounds L cover room)
