-- At most one thread has the lock, and each thread has a step that it can make.
use Rattle.std.proofs.Common.{◌≡◌, ◌≢◌, ℕ, Bool, true, false, true≢false, ◌⊎◌, inl, inr, List, [], ◌∷◌, Some, set, refl, sym, subst, ◌∙◌}
use Rattle.std.specs.Prelude.{◌==◌}
use Rattle.std.specs.List.{slice_get}
use Rattle.std.proofs.lemmas.Bool.{eqb-true, eqb-false}
use Rattle.nob_offers.specs.Offers.{Stand, Rests, Owes, Took, Turns, Gave, State, opening, StandsAt, Step, hands, hands_more, hands_within, comes, finds_held, takes, begins, gives_back, finds_same, finds_more, IsRun, HasLock}
use Rattle.nob_offers.proofs.Lists.{get_set, get_replicate}

-- whoever has the lock is the only one
abbrev pub OneAtMost : List Stand → Type 0
OneAtMost threads = (t u : ℕ) (stand other : Stand) → slice_get threads t ≡ Some stand → HasLock stand → slice_get threads u ≡ Some other → HasLock other → t ≡ u

-- nobody has the lock
abbrev pub NoneHas : List Stand → Type 0
NoneHas threads = (t : ℕ) (stand : Stand) → slice_get threads t ≡ Some stand → HasLock stand → ⊥

-- the lock is held where one has it, who is the only one
pub record IsOne (s : State) : Type 0 where
  pub one : OneAtMost s.threads
  pub free : s.held ≡ false → NoneHas s.threads

-- a thread that doesn't get the lock by its step
others_one : (threads : List Stand) (t : ℕ) (new : Stand) → (HasLock new → ⊥) → OneAtMost threads → OneAtMost (set threads t new)
others_one threads t new isnt one u v stand other at has at' has' = by (get_set threads t u new stand at) (get_set threads t v new other at')
  where
    by : ((u ≡ t) × (new ≡ stand)) ⊎ ((u ≢ t) × (slice_get threads u ≡ Some stand)) → ((v ≡ t) × (new ≡ other)) ⊎ ((v ≢ t) × (slice_get threads v ≡ Some other)) → u ≡ v
    by (inl (here, is)) second = absurd (isnt (subst HasLock (sym is) has))
    by (inr first) (inl (here, is)) = absurd (isnt (subst HasLock (sym is) has'))
    by (inr (apart, there)) (inr (apart', there')) = one u v stand other there has there' has'

others_none : (threads : List Stand) (t : ℕ) (new : Stand) → (HasLock new → ⊥) → NoneHas threads → NoneHas (set threads t new)
others_none threads t new isnt none u stand at has = by (get_set threads t u new stand at)
  where
    by : ((u ≡ t) × (new ≡ stand)) ⊎ ((u ≢ t) × (slice_get threads u ≡ Some stand)) → ⊥
    by (inl (here, is)) = isnt (subst HasLock (sym is) has)
    by (inr (apart, there)) = none u stand there has

-- a thread that has it after its step, where no other had it
own_one : (threads : List Stand) (t : ℕ) (new : Stand) → ((u : ℕ) (stand : Stand) → u ≢ t → slice_get threads u ≡ Some stand → HasLock stand → ⊥) → OneAtMost (set threads t new)
own_one threads t new none u v stand other at has at' has' = by (get_set threads t u new stand at) (get_set threads t v new other at')
  where
    by : ((u ≡ t) × (new ≡ stand)) ⊎ ((u ≢ t) × (slice_get threads u ≡ Some stand)) → ((v ≡ t) × (new ≡ other)) ⊎ ((v ≢ t) × (slice_get threads v ≡ Some other)) → u ≡ v
    by (inl (here, is)) (inl (here', is')) = here ∙ sym here'
    by (inl (here, is)) (inr (apart, there)) = absurd (none v other apart there has')
    by (inr (apart, there)) second = absurd (none u stand apart there has)

-- a thread that gives the lock back leaves nobody who has it
back_none : (threads : List Stand) (t : ℕ) (old new : Stand) → slice_get threads t ≡ Some old → HasLock old → (HasLock new → ⊥) → OneAtMost threads → NoneHas (set threads t new)
back_none threads t old new own had isnt one u stand at has = by (get_set threads t u new stand at)
  where
    by : ((u ≡ t) × (new ≡ stand)) ⊎ ((u ≢ t) × (slice_get threads u ≡ Some stand)) → ⊥
    by (inl (here, is)) = isnt (subst HasLock (sym is) has)
    by (inr (apart, there)) = apart (one u t stand old there has own had)

opens : (n : ℕ) → IsOne (opening n)
opens n = record {
  one = λ t u stand other at has at' has'. absurd (none t stand at has);
  free = λ free. none;
}
  where
    none : NoneHas (opening n).threads
    none t stand at has = subst HasLock (get_replicate n t Rests stand at) has

-- a thread that doesn't have the lock after its step, and leaves it as it was
stays : (s : State) (t handed : ℕ) (given : List ℕ) (new : Stand) → (HasLock new → ⊥) → IsOne s → IsOne (record { handed = handed; held = s.held; given = given; threads = set s.threads t new })
stays s t handed given new isnt is_one = record {
  one = others_one s.threads t new isnt is_one.one;
  free = λ free. others_none s.threads t new isnt (is_one.free free);
}

keeps : (t : ℕ) (before after : State) → Step t before after → IsOne before → IsOne after
keeps t s after (hands at is) is_one = subst IsOne (sym is) (stays s t _ _ Owes (λ has. has) is_one)
keeps t s after (hands_more at is) is_one = subst IsOne (sym is) (record { one = is_one.one; free = is_one.free })
keeps t s after (hands_within began at is) is_one = subst IsOne (sym is) (record { one = is_one.one; free = is_one.free })
keeps t s after (comes at is) is_one = subst IsOne (sym is) (stays s t _ _ Owes (λ has. has) is_one)
keeps t s after (finds_held at held is) is_one = subst IsOne (sym is) (stays s t _ _ Rests (λ has. has) is_one)
keeps t s after (takes at free is) is_one = subst IsOne (sym is) (record {
  one = own_one s.threads t Took (λ u stand apart there has. is_one.free free u stand there has);
  free = λ now_free. absurd (true≢false now_free);
})
keeps t s after (begins at is) is_one = subst IsOne (sym is) (record {
  one = own_one s.threads t (Turns s.handed) (λ u stand apart there has. apart (is_one.one u t stand Took there has at tt));
  free = λ free. absurd (is_one.free free t Took at tt);
})
keeps t s after (gives_back began at is) is_one = subst IsOne (sym is) (record {
  one = others_one s.threads t (Gave began) (λ has. has) is_one.one;
  free = λ free. back_none s.threads t (Turns began) (Gave began) at tt (λ has. has) is_one.one;
})
keeps t s after (finds_same began at same is) is_one = subst IsOne (sym is) (stays s t _ _ Rests (λ has. has) is_one)
keeps t s after (finds_more began at apart is) is_one = subst IsOne (sym is) (stays s t _ _ Owes (λ has. has) is_one)

kept : (n : ℕ) (s : State) (earlier : List State) → IsRun n (s ∷ earlier) → IsOne s
kept n s [] run = subst IsOne (sym run) (opens n)
kept n s (before ∷ earlier) run = keeps run.0.0 before s run.0.1 (kept n before earlier run.1)

pub one_turn : (n : ℕ) (s : State) (earlier : List State) → IsRun n (s ∷ earlier) → OneAtMost s.threads
one_turn n s earlier run = (kept n s earlier run).one

-- ---- each thread has a step

offers : (s : State) (t : ℕ) → StandsAt s t Owes → (held : Bool) → s.held ≡ held → (after : State) × Step t s after
offers s t at true held = (_, finds_held at held refl)
offers s t at false held = (_, takes at held refl)

looks : (s : State) (t began : ℕ) → StandsAt s t (Gave began) → (same : Bool) → (s.handed == began) ≡ same → (after : State) × Step t s after
looks s t began at true same = (_, finds_same began at (eqb-true s.handed began same) refl)
looks s t began at false same = (_, finds_more began at (eqb-false s.handed began same) refl)

pub no_wait : (s : State) (t : ℕ) (stand : Stand) → StandsAt s t stand → (after : State) × Step t s after
no_wait s t Rests at = (_, hands at refl)
no_wait s t Owes at = offers s t at s.held refl
no_wait s t Took at = (_, begins at refl)
no_wait s t (Turns began) at = (_, gives_back began at refl)
no_wait s t (Gave began) at = looks s t began at (s.handed == began) refl
