-- To what happened there is a journal to which it is joined, and each such journal is a run of a world.
use Rattle.std.proofs.Common.{◌≡◌, ℕ, ◌+◌, ◌-◌, ◌≤◌, List, [], ◌∷◌, ◌++◌, map, refl, sym, ap, subst, ◌∙◌, inl, inr}
use Rattle.std.specs.Prelude.{◌*◌}
use Rattle.nob_ids.specs.declared.limits.Limits.{Limits}
use Rattle.nob_model_session.specs.Right.{queue_limit}
use Rattle.nob_model_types.specs.declared.entry.Entry.{Entry}
use Rattle.nob_model_types.specs.Deeds.{deeds}
use Rattle.nob_model_history.specs.Histories.{history}
use Rattle.nob_model.specs.Opening.{next_number}
use Rattle.nob_model.specs.Right.{calls_made, jobs_made}
use Rattle.nob_model.specs.Lists.{AreRight}
use Rattle.nob_model_lives.specs.Births.{IsBorn}
use Rattle.nob_model_lives.specs.Bridges.{Bounds, CanPassCalls, CanBeBorn, birth_behind}
use Rattle.nob_model_lives.proofs.Bridge.{behind_bounds}
use Rattle.nob_model_jobs.specs.Raised.{raised_entry}
use Rattle.nob_model_jobs.specs.Alike.{AreAlikeButJobs}
use Rattle.nob_model_jobs.proofs.Life.{stay_law}
use Rattle.std.proofs.lemmas.Bool.{eq-eqb}
use Rattle.nob_model_lives.specs.Alone.{AreOfBridge}
use Rattle.nob_model_lives.proofs.Bridge.{alone_law}
use Rattle.nob_model_journal.specs.Journals.{at, deeds_at, transmitted_frames}
use Rattle.nob_model_journal.specs.Runs.{WorldRun}
use Rattle.nob_model_invariant.specs.Typed.{AreOfTypes}
use Rattle.nob_model_invariant.proofs.Safe.{safe_law}
use Rattle.nob_model_returns.specs.Returns.{Happening, does, begins, entries, life, jobs_claimed, jobs_uncounted, BeginsBehind}
use Rattle.nob_model_returns.specs.Joined.{Joined}
use Rattle.nob_model_returns.specs.Laws.{JoinedLaw, RunLaw, SafeReturnsLaw}
use Rattle.nob_model_returns.proofs.Raising.{frames_raised, arrives_raised, typed_raised}
use Rattle.nob_model_returns.proofs.Across.{at_own, bridge_at, bridge_frames, bridge_runs, bridge_typed}
use Rattle.nob_model_returns.proofs.Lives.{Continues, continues, low_there, right_there}

-- ---- a bridge

module _ (s n more : ℕ) (bounds : Bounds) (L M : List Entry) (alike : AreAlikeButJobs s n more (history s n L) (history s n M)) where
  passes : CanPassCalls s n (birth_behind bounds (jobs_made (deeds L))) L → CanPassCalls s n (birth_behind bounds (jobs_made (deeds M))) M
  passes (inl exact) = inl (exact ∙ alike.called)
  passes (inr peer) = inr (peer.0, peer.1, subst (λ (k : ℕ). bounds.calls ≤ calls_made (deeds M) + queue_limit * ((bounds.session peer.0 + 2) - k)) (alike.next peer.0) (subst (λ (k : ℕ). bounds.calls ≤ k + queue_limit * ((bounds.session peer.0 + 2) - next_number peer.0 (history s n L))) alike.called peer.2))

  -- a space can be brought to a birth behind bounds after a list if it can be after one that is alike
  can_there : CanBeBorn s n (birth_behind bounds (jobs_made (deeds L))) L → CanBeBorn s n (birth_behind bounds (jobs_made (deeds M))) M
  can_there can = record {
    indexes = subst (λ (k : ℕ). k ≤ bounds.indexes) alike.given can.indexes;
    last_index = can.last_index;
    calls = subst (λ (k : ℕ). k ≤ bounds.calls) alike.called can.calls;
    last_call = can.last_call;
    pass_calls = passes can.pass_calls;
    jobs = refl;
    sessions = λ p peer. (subst (λ (k : ℕ). k ≤ bounds.session p + 2) (alike.next p) (can.sessions p peer).0, (can.sessions p peer).1);
  }

-- behind a journal there is a bridge to each life that begins
bridge_there : (n : ℕ) (limits : ℕ → Limits) (s : ℕ) (bounds : Bounds) (jobs : ℕ) (H : List Happening) (K : List Entry) → BeginsBehind n limits s bounds jobs H → Continues n limits s H K → (bridge : List Entry) × AreOfBridge s bridge × IsBorn s n (limits s) (birth_behind bounds (jobs_claimed s H)) (at s (bridge ++ K))
bridge_there n limits s bounds jobs H K begun its =
    let more : ℕ = jobs_uncounted s H in
    let L : List Entry = life s H ++ its.behind in
    let M : List Entry = map (raised_entry more) (life s H) ++ its.before in
    let alike : AreAlikeButJobs s n more (history s n L) (history s n M) = stay_law s n (limits s) more its.birth its.behind its.before (life s H) its.born its.born_there its.right (low_there n limits s H K its) in
    let can : CanBeBorn s n (birth_behind bounds (jobs_made (deeds L))) L = behind_bounds s n bounds L (begun.covers its.behind its.goes_on) (begun.leaves_room its.behind its.goes_on) in
    let there : CanBeBorn s n (birth_behind bounds (jobs_made (deeds_at s K))) (at s K) = subst (λ (N : List Entry). CanBeBorn s n (birth_behind bounds (jobs_made (deeds N))) N) (sym its.stands) (can_there s n more bounds L M alike can) in
    let bridge = alone_law s n (limits s) (birth_behind bounds (jobs_claimed s H)) (at s K) (right_there n limits s H K its) (subst (λ (k : ℕ). CanBeBorn s n (birth_behind bounds k) (at s K)) its.claimed there) in
    (bridge.0, bridge.1, subst (IsBorn s n (limits s) (birth_behind bounds (jobs_claimed s H))) (sym (bridge_at s bridge.0 K bridge.1)) bridge.2)

-- to every run of a world whose spaces come back there is a journal to which it is joined
pub joined_law : JoinedLaw
joined_law n limits [] run = ([], refl)
joined_law n limits (does entry ∷ H) run =
    let before = joined_law n limits H run.1 in
    (raised_entry (jobs_uncounted entry.space H) entry ∷ before.0, (before.0, refl, before.1))
joined_law n limits (begins s bounds jobs ∷ H) run =
    let before = joined_law n limits H run.1 in
    let bridge = bridge_there n limits s bounds jobs H before.0 run.0 (continues n limits H before.0 run.1 before.1 s) in
    (bridge.0 ++ before.0, (before.0, bridge.0, refl, bridge.1, bridge.2, before.1))

-- ---- a run

-- the same frames were given
frames_joined : (n : ℕ) (limits : ℕ → Limits) (H : List Happening) (J : List Entry) → Joined n limits H J → transmitted_frames J ≡ transmitted_frames (entries H)
frames_joined n limits [] J joined = ap transmitted_frames joined
frames_joined n limits (does entry ∷ H) J joined = ap transmitted_frames joined.1 ∙ (λ i. frames_joined n limits H joined.0 joined.2 i ++ frames_raised (jobs_uncounted entry.space H) entry i)
frames_joined n limits (begins s bounds jobs ∷ H) J joined = ap transmitted_frames joined.2 ∙ bridge_frames s joined.1 joined.0 joined.3 ∙ frames_joined n limits H joined.0 joined.5

-- each such journal is a run of a world
pub run_law : RunLaw
run_law n limits [] J run joined = subst (WorldRun n limits) (sym joined) tt
run_law n limits (does entry ∷ H) J run joined =
    let s : ℕ = entry.space in
    let K : List Entry = joined.0 in
    let one : Entry = raised_entry (jobs_uncounted s H) entry in
    let right : AreRight s n (limits s) (one ∷ at s K) = subst (AreRight s n (limits s)) (ap (at s) joined.1 ∙ at_own s one K (eq-eqb s s refl)) (right_there n limits s (does entry ∷ H) J (continues n limits (does entry ∷ H) J run joined s)) in
    subst (WorldRun n limits) (sym joined.1) (
      record { first = run.0.first; last = run.0.last; is_right = right.0; arrives = arrives_raised (jobs_uncounted s H) entry.event (entries H) K (sym (frames_joined n limits H K joined.2)) run.0.arrives },
      run_law n limits H K run.1 joined.2,
    )
run_law n limits (begins s bounds jobs ∷ H) J run joined =
    subst (WorldRun n limits) (sym joined.2) (bridge_runs n limits s joined.1 joined.0 run.0.first run.0.last joined.3 (subst (AreRight s n (limits s)) (ap (at s) joined.2 ∙ bridge_at s joined.1 joined.0 joined.3) joined.4.right) (run_law n limits H joined.0 run.1 joined.5))

-- ---- safe

-- what it hands on is of its types where what the lives handed on is
typed_joined : (n : ℕ) (limits : ℕ → Limits) (H : List Happening) (J : List Entry) → Joined n limits H J → AreOfTypes (entries H) → AreOfTypes J
typed_joined n limits [] J joined typed = subst AreOfTypes (sym joined) tt
typed_joined n limits (does entry ∷ H) J joined typed = subst AreOfTypes (sym joined.1) (typed_raised (jobs_uncounted entry.space H) entry typed.0, typed_joined n limits H joined.0 joined.2 typed.1)
typed_joined n limits (begins s bounds jobs ∷ H) J joined typed = subst AreOfTypes (sym joined.2) (bridge_typed s joined.1 joined.0 joined.3 (typed_joined n limits H joined.0 joined.5 typed))

-- and it is safe
pub safe_returns_law : SafeReturnsLaw
safe_returns_law n limits H J run joined typed = safe_law n limits J (run_law n limits H J run joined) (typed_joined n limits H J joined typed)
