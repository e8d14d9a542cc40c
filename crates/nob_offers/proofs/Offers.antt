-- Whenever something that was handed is unseen, some thread is not at rest.
use Rattle.std.proofs.Common.{◌≡◌, ◌≢◌, ℕ, ◌<◌, true, true≢false, ◌⊎◌, inl, inr, List, [], ◌∷◌, Some, set, sym, subst, arith}
use Rattle.std.specs.List.{slice_get}
use Rattle.nob_offers.specs.Offers.{Stand, Rests, Owes, Took, Turns, Gave, State, opening, Step, hands, hands_more, hands_within, comes, finds_held, takes, begins, gives_back, finds_same, finds_more, IsRun, IsSeen, AllRest, AllSeen, HasLock}
use Rattle.nob_offers.proofs.Lists.{get_set, get_replicate, Found, now_found, still_found}

-- the thread is not at rest
abbrev pub Goes : Stand → Type 0
Goes Rests = ⊥
Goes (_) = Unit {0}

-- the thread has given a turn back and not looked yet
abbrev pub Looks : Stand → Type 0
Looks (Gave began) = Unit {0}
Looks (_) = ⊥

-- each turn that was given back and not looked after is among those that were given
abbrev pub AreGiven : List Stand → List ℕ → Type 0
AreGiven threads given = (t began k : ℕ) → slice_get threads t ≡ Some (Gave began) → k < began → IsSeen k given

-- what holds after each step: where the lock is held, a thread has it; a turn that was given back is among the given; and what is unseen leaves some thread not at rest
pub record Kept (s : State) : Type 0 where
  pub holder : s.held ≡ true → Found HasLock s.threads
  pub gave : AreGiven s.threads s.given
  pub unseen : (k : ℕ) → k < s.handed → IsSeen k s.given ⊎ Found Goes s.threads

-- a step after which a thread has no turn to look after leaves the others' as they were
still_given : (threads : List Stand) (t : ℕ) (new : Stand) (given : List ℕ) → (Looks new → ⊥) → AreGiven threads given → AreGiven (set threads t new) given
still_given threads t new given isnt gave u began k at less = by (get_set threads t u new (Gave began) at)
  where
    by : ((u ≡ t) × (new ≡ Gave began)) ⊎ ((u ≢ t) × (slice_get threads u ≡ Some (Gave began))) → IsSeen k given
    by (inl (here, is)) = absurd (isnt (subst Looks (sym is) tt))
    by (inr (apart, there)) = gave u began k there less

-- a turn that is given back is among the given
now_given : (threads : List Stand) (t own : ℕ) (given : List ℕ) → AreGiven threads given → AreGiven (set threads t (Gave own)) (own ∷ given)
now_given threads t own given gave u began k at less = by (get_set threads t u (Gave own) (Gave began) at)
  where
    by : ((u ≡ t) × (Gave own ≡ Gave began)) ⊎ ((u ≢ t) × (slice_get threads u ≡ Some (Gave began))) → (k < own) ⊎ IsSeen k given
    by (inl (here, is)) = inl (let same : own ≡ began = cc in omega (arith, same))
    by (inr (apart, there)) = inr (gave u began k there less)

-- at the opening
opens : (n : ℕ) → Kept (opening n)
opens n = record {
  holder = λ held. absurd (true≢false (sym held));
  gave = λ t began k at less. absurd (subst Goes (get_replicate n t Rests (Gave began) at) tt);
  unseen = λ k less. absurd (omega arith);
}

goes_on : (k : ℕ) (given : List ℕ) (threads : List Stand) (t : ℕ) (new : Stand) → IsSeen k given ⊎ Found Goes threads → (Found Goes threads → Found Goes (set threads t new)) → IsSeen k given ⊎ Found Goes (set threads t new)
goes_on k given threads t new (inl seen) still = inl seen
goes_on k given threads t new (inr goes) still = inr (still goes)

has_goes : (threads : List Stand) → Found HasLock threads → Found Goes threads
has_goes threads (t, stand, at, is) = (t, stand, at, by stand is)
  where
    by : (stand : Stand) → HasLock stand → Goes stand
    by Rests has = has
    by (_) has = tt

-- each step keeps it
keeps : (t : ℕ) (before after : State) → Step t before after → Kept before → Kept after
keeps t s after (hands at is) kept = subst Kept (sym is) (record {
  holder = λ held. still_found HasLock s.threads t Rests Owes at (λ has. has) (kept.holder held);
  gave = still_given s.threads t Owes s.given (λ looks. looks) kept.gave;
  unseen = λ k less. inr (now_found Goes s.threads t Rests Owes at tt);
})
keeps t s after (hands_more at is) kept = subst Kept (sym is) (record {
  holder = kept.holder;
  gave = kept.gave;
  unseen = λ k less. inr (t, Owes, at, tt);
})
keeps t s after (hands_within began at is) kept = subst Kept (sym is) (record {
  holder = kept.holder;
  gave = kept.gave;
  unseen = λ k less. inr (t, Turns began, at, tt);
})
keeps t s after (comes at is) kept = subst Kept (sym is) (record {
  holder = λ held. still_found HasLock s.threads t Rests Owes at (λ has. has) (kept.holder held);
  gave = still_given s.threads t Owes s.given (λ looks. looks) kept.gave;
  unseen = λ k less. inr (now_found Goes s.threads t Rests Owes at tt);
})
keeps t s after (finds_held at held is) kept = subst Kept (sym is) (record {
  holder = λ held. still_found HasLock s.threads t Owes Rests at (λ has. has) (kept.holder held);
  gave = still_given s.threads t Rests s.given (λ looks. looks) kept.gave;
  unseen = λ k less. inr (has_goes (set s.threads t Rests) (still_found HasLock s.threads t Owes Rests at (λ has. has) (kept.holder held)));
})
keeps t s after (takes at free is) kept = subst Kept (sym is) (record {
  holder = λ held. now_found HasLock s.threads t Owes Took at tt;
  gave = still_given s.threads t Took s.given (λ looks. looks) kept.gave;
  unseen = λ k less. inr (now_found Goes s.threads t Owes Took at tt);
})
keeps t s after (begins at is) kept = subst Kept (sym is) (record {
  holder = λ held. now_found HasLock s.threads t Took (Turns s.handed) at tt;
  gave = still_given s.threads t (Turns s.handed) s.given (λ looks. looks) kept.gave;
  unseen = λ k less. inr (now_found Goes s.threads t Took (Turns s.handed) at tt);
})
keeps t s after (gives_back began at is) kept = subst Kept (sym is) (record {
  holder = λ held. absurd (true≢false (sym held));
  gave = now_given s.threads t began s.given kept.gave;
  unseen = λ k less. inr (now_found Goes s.threads t (Turns began) (Gave began) at tt);
})
keeps t s after (finds_same began at same is) kept = subst Kept (sym is) (record {
  holder = λ held. still_found HasLock s.threads t (Gave began) Rests at (λ has. has) (kept.holder held);
  gave = still_given s.threads t Rests s.given (λ looks. looks) kept.gave;
  unseen = λ k less. inl (kept.gave t began k at (omega (arith, same)));
})
keeps t s after (finds_more began at apart is) kept = subst Kept (sym is) (record {
  holder = λ held. still_found HasLock s.threads t (Gave began) Owes at (λ has. has) (kept.holder held);
  gave = still_given s.threads t Owes s.given (λ looks. looks) kept.gave;
  unseen = λ k less. inr (now_found Goes s.threads t (Gave began) Owes at tt);
})

-- it holds in every state of a run
pub kept : (n : ℕ) (s : State) (earlier : List State) → IsRun n (s ∷ earlier) → Kept s
kept n s [] run = subst Kept (sym run) (opens n)
kept n s (before ∷ earlier) run = keeps run.0.0 before s run.0.1 (kept n before earlier run.1)

-- where all rest, all is seen
rests_seen : (s : State) → Kept s → AllRest s → AllSeen s
rests_seen s kept rest k less = by (kept.unseen k less)
  where
    by : IsSeen k s.given ⊎ Found Goes s.threads → IsSeen k s.given
    by (inl seen) = seen
    by (inr (t, stand, at, goes)) = absurd (subst Goes (rest t stand at) goes)

pub seen : (n : ℕ) (s : State) (earlier : List State) → IsRun n (s ∷ earlier) → AllRest s → AllSeen s
seen n s earlier run rest = rests_seen s (kept n s earlier run) rest
