-- Whenever something lies untaken while the sleeper sleeps, some thread is not at rest.
use Rattle.std.proofs.Common.{◌≡◌, ◌≢◌, ℕ, zero, suc, ◌+◌, ◌-◌, ◌<◌, ◌≤◌, List, [], ◌∷◌, Some, set, replicate, refl, sym, ap, subst, ◌∙◌, arith}
use Rattle.std.specs.List.{slice_get}
use Rattle.nob_offers.specs.Bells.{Place, Rests, Put, Rang, Calls, Came, Read, Took, Left, Sleeper, Up, HasRead, HasTaken, Sleeps, State, opening, StandsAt, woken, Step, puts, puts_more, rings, finds_driven, finds_nobody, wakes, comes, reads, misses, takes, finds_none, looks_again, leaves_bare, leaves, finds_same, finds_more, sleeper_reads, sleeper_takes, sleeper_finds_none, falls_asleep, stays_up, stirs, IsRun, AllRest}
use Rattle.nob_offers.proofs.Lists.{none_some, get_replicate, Found, Each, now_found, still_found, each_set}

-- the thread is not at rest
abbrev pub Goes : Place → Type 0
Goes Rests = ⊥
Goes (_) = Unit {0}

-- the thread has put something and not rung yet
abbrev pub HasPut : Place → Type 0
HasPut Put = Unit {0}
HasPut (_) = ⊥

-- the thread has taken and goes by what it read before
abbrev pub GoesBy : Place → Type 0
GoesBy (Took n) = Unit {0}
GoesBy (Left n) = Unit {0}
GoesBy (_) = ⊥

-- how many rings the thread read
abbrev pub read_of : Place → ℕ
read_of (Read n) = n
read_of (Took n) = n
read_of (Left n) = n
read_of (_) = 0

-- 1 for a thread that is counted among those that look
abbrev pub looking : Place → ℕ
looking Came = 1
looking (Read n) = 1
looking (Took n) = 1
looking (_) = 0

-- how many threads look
abbrev pub lookers : List Place → ℕ
lookers [] = 0
lookers (place ∷ threads) = looking place + lookers threads

-- the sleeper has taken and goes by what it read before
abbrev pub SleeperGoesBy : Sleeper → Type 0
SleeperGoesBy (HasTaken n) = Unit {0}
SleeperGoesBy (_) = ⊥

-- how many rings the sleeper read
abbrev pub sleeper_read : Sleeper → ℕ
sleeper_read (HasRead n) = n
sleeper_read (HasTaken n) = n
sleeper_read (_) = 0

-- where there are no more rings than these and something lies there, a thread has put it and not rung yet
abbrev pub Covers : (rung lying : ℕ) → List Place → ℕ → Type 0
Covers rung lying threads n = rung ≡ n → 0 < lying → Found HasPut threads

-- what holds after each step: those that look are counted; nobody read more rings than there were; what lies there after a take has yet to ring, or there are more rings than were read before it; and while the sleeper sleeps, what lies there leaves some thread not at rest
pub record Kept (s : State) : Type 0 where
  pub counted : s.driven ≡ lookers s.threads
  pub low : Each (λ place. read_of place ≤ s.rings) s.threads
  pub covered : Each (λ place. GoesBy place → Covers s.rings s.lying s.threads (read_of place)) s.threads
  pub sleeper_low : sleeper_read s.sleeper ≤ s.rings
  pub sleeper_covered : SleeperGoesBy s.sleeper → Covers s.rings s.lying s.threads (sleeper_read s.sleeper)
  pub asleep : s.sleeper ≡ Sleeps → 0 < s.lying → Found Goes s.threads

-- the count of those that look, after one thread moved
lookers_set : (threads : List Place) (t : ℕ) (old new : Place) → slice_get threads t ≡ Some old → lookers (set threads t new) + looking old ≡ lookers threads + looking new
lookers_set [] t old new at = absurd (none_some old at)
lookers_set (place ∷ threads) zero old new at = let same : place ≡ old = cc in omega (arith, ap looking same)
lookers_set (place ∷ threads) (suc t) old new at = omega (arith, lookers_set threads t old new at)

-- where some are counted, one of them looks
some_looks : (threads : List Place) → lookers threads ≢ 0 → Found (λ place. 0 < looking place) threads
some_looks [] some = absurd (some refl)
some_looks (place ∷ threads) some = by (some_looks threads) (looking place) refl
  where
    further : Found (λ other. 0 < looking other) threads → Found (λ other. 0 < looking other) (place ∷ threads)
    further (t, other, at, looks) = (suc t, other, at, looks)

    by : (lookers threads ≢ 0 → Found (λ other. 0 < looking other) threads) → (n : ℕ) → looking place ≡ n → Found (λ other. 0 < looking other) (place ∷ threads)
    by rest zero is = further (rest (λ none. some (omega (arith, is, none))))
    by rest (suc n) is = (0, place, refl, omega (arith, is))

none_looks : (n : ℕ) → lookers (replicate n Rests) ≡ 0
none_looks zero = refl
none_looks (suc n) = omega (arith, none_looks n)

-- who looks is not at rest
looks_goes : (place : Place) → 0 < looking place → Goes place
looks_goes Rests looks = absurd (omega arith)
looks_goes (_) looks = tt

puts_goes : (place : Place) → HasPut place → Goes place
puts_goes Rests put = put
puts_goes (_) put = tt

weaker : (P Q : Place → Type 0) → ((place : Place) → P place → Q place) → (threads : List Place) → Found P threads → Found Q threads
weaker P Q follows threads (t, place, at, is) = (t, place, at, follows place is)

-- at the opening
opens : (n : ℕ) → Kept (opening n)
opens n = record {
  counted = sym (none_looks n);
  low = λ t place at. let rest : place ≡ Rests = get_replicate n t Rests place at in omega (arith, ap read_of rest);
  covered = λ t place at by_read same some. absurd (omega arith);
  sleeper_low = omega arith;
  sleeper_covered = λ by_read. absurd by_read;
  asleep = λ is some. absurd (omega arith);
}

-- a thread moves, and nothing was put nor taken, nor rung
moves : (s : State) (t driven : ℕ) (old new : Place) → Kept s → StandsAt s t old → (HasPut old → ⊥) → driven + looking old ≡ s.driven + looking new → read_of new ≤ s.rings
    → (GoesBy new → Covers s.rings s.lying s.threads (read_of new)) → (s.sleeper ≡ Sleeps → 0 < s.lying → Found Goes (set s.threads t new)) → Kept (record s { driven = driven; threads = set s.threads t new })
moves s t driven old new kept at isnt count low covered goes = record {
  counted = omega (arith, count, kept.counted, lookers_set s.threads t old new at);
  low = each_set (λ place. read_of place ≤ s.rings) s.threads t new low kept.low;
  covered = each_set (λ place. GoesBy place → Covers s.rings s.lying (set s.threads t new) (read_of place)) s.threads t new
      (λ is same some. still_found HasPut s.threads t old new at isnt (covered is same some))
      (λ u place there is same some. still_found HasPut s.threads t old new at isnt (kept.covered u place there is same some));
  sleeper_low = kept.sleeper_low;
  sleeper_covered = λ is same some. still_found HasPut s.threads t old new at isnt (kept.sleeper_covered is same some);
  asleep = goes;
}

-- a thread moves to where it isn't at rest
goes_on : (s : State) (t driven : ℕ) (old new : Place) → Kept s → StandsAt s t old → (HasPut old → ⊥) → driven + looking old ≡ s.driven + looking new → read_of new ≤ s.rings
    → (GoesBy new → Covers s.rings s.lying s.threads (read_of new)) → Goes new → Kept (record s { driven = driven; threads = set s.threads t new })
goes_on s t driven old new kept at isnt count low covered goes = moves s t driven old new kept at isnt count low covered (λ asleep some. now_found Goes s.threads t old new at goes)

-- who is counted is one of those that are counted
one_counted : (threads : List Place) (t : ℕ) (place : Place) → slice_get threads t ≡ Some place → looking place ≤ lookers threads
one_counted [] t place at = absurd (none_some place at)
one_counted (other ∷ threads) zero place at = let same : other ≡ place = cc in omega (arith, ap looking same)
one_counted (other ∷ threads) (suc t) place at = omega (arith, one_counted threads t place at)

woken_low : (sleeper : Sleeper) (rung : ℕ) → sleeper_read sleeper ≤ rung → sleeper_read (woken sleeper) ≤ rung
woken_low Sleeps rung low = omega arith
woken_low Up rung low = low
woken_low (HasRead n) rung low = low
woken_low (HasTaken n) rung low = low

woken_by : (sleeper : Sleeper) → SleeperGoesBy (woken sleeper) → SleeperGoesBy sleeper × (sleeper_read (woken sleeper) ≡ sleeper_read sleeper)
woken_by Sleeps is = absurd is
woken_by Up is = (is, refl)
woken_by (HasRead n) is = (is, refl)
woken_by (HasTaken n) is = (is, refl)

-- whether it sleeps
abbrev IsAsleep : Sleeper → Type 0
IsAsleep Sleeps = Unit {0}
IsAsleep (_) = ⊥

woken_up : (sleeper : Sleeper) → IsAsleep (woken sleeper) → ⊥
woken_up Sleeps is = is
woken_up Up is = is
woken_up (HasRead n) is = is
woken_up (HasTaken n) is = is

asleep_up : (sleeper : Sleeper) → woken sleeper ≡ Sleeps → ⊥
asleep_up sleeper is = woken_up sleeper (subst IsAsleep (sym is) tt)

-- one step of the sleeper, after which it doesn't sleep
sleeper_moves : (s : State) (stand : Sleeper) → Kept s → sleeper_read stand ≤ s.rings → (SleeperGoesBy stand → Covers s.rings s.lying s.threads (sleeper_read stand)) → (stand ≡ Sleeps → 0 < s.lying → Found Goes s.threads) → Kept (record s { sleeper = stand })
sleeper_moves s stand kept low covered asleep = record {
  counted = kept.counted;
  low = kept.low;
  covered = kept.covered;
  sleeper_low = low;
  sleeper_covered = covered;
  asleep = asleep;
}

not_asleep : (stand : Sleeper) → (IsAsleep stand → ⊥) → (lying : ℕ) (threads : List Place) → stand ≡ Sleeps → 0 < lying → Found Goes threads
not_asleep stand isnt lying threads is some = absurd (isnt (subst IsAsleep (sym is) tt))

after_put : (s : State) (t : ℕ) → StandsAt s t Rests → Kept s → Kept (record s { lying = s.lying + 1; threads = set s.threads t Put })
after_put s t at kept = record {
  counted = omega (arith, kept.counted, lookers_set s.threads t Rests Put at);
  low = each_set (λ place. read_of place ≤ s.rings) s.threads t Put (omega arith) kept.low;
  covered = λ u place there is same some. now_found HasPut s.threads t Rests Put at tt;
  sleeper_low = kept.sleeper_low;
  sleeper_covered = λ is same some. now_found HasPut s.threads t Rests Put at tt;
  asleep = λ is some. now_found Goes s.threads t Rests Put at tt;
}

after_ring : (s : State) (t : ℕ) → StandsAt s t Put → Kept s → Kept (record s { rings = s.rings + 1; threads = set s.threads t Rang })
after_ring s t at kept = let low : Each (λ place. read_of place ≤ s.rings) (set s.threads t Rang) = each_set (λ place. read_of place ≤ s.rings) s.threads t Rang (omega arith) kept.low in record {
  counted = omega (arith, kept.counted, lookers_set s.threads t Put Rang at);
  low = λ u place there. omega (arith, low u place there);
  covered = λ u place there is same some. absurd (omega (arith, low u place there, same));
  sleeper_low = omega (arith, kept.sleeper_low);
  sleeper_covered = λ is same some. absurd (omega (arith, kept.sleeper_low, same));
  asleep = λ is some. now_found Goes s.threads t Put Rang at tt;
}

after_wake : (s : State) (t : ℕ) → StandsAt s t Calls → Kept s → Kept (record s { sleeper = woken s.sleeper; threads = set s.threads t Rests })
after_wake s t at kept = let up : Kept (record s { sleeper = woken s.sleeper }) = sleeper_moves s (woken s.sleeper) kept (woken_low s.sleeper s.rings kept.sleeper_low)
    (λ is same some. let was = woken_by s.sleeper is in kept.sleeper_covered was.0 (same ∙ was.1) some) (λ is some. absurd (asleep_up s.sleeper is)) in
    moves (record s { sleeper = woken s.sleeper }) t s.driven Calls Rests up at (λ put. put) refl (omega arith) (λ by_read. absurd by_read) (λ is some. absurd (asleep_up s.sleeper is))

after_more : (s : State) (t : ℕ) → StandsAt s t Put → Kept s → Kept (record s { lying = s.lying + 1 })
after_more s t at kept = record {
  counted = kept.counted;
  low = kept.low;
  covered = λ u place there is same some. (t, Put, at, tt);
  sleeper_low = kept.sleeper_low;
  sleeper_covered = λ is same some. (t, Put, at, tt);
  asleep = λ is some. (t, Put, at, tt);
}

after_take : (s : State) → Kept s → Kept (record s { lying = s.lying - 1 })
after_take s kept = record {
  counted = kept.counted;
  low = kept.low;
  covered = λ u place there is same some. kept.covered u place there is same (omega arith);
  sleeper_low = kept.sleeper_low;
  sleeper_covered = λ is same some. kept.sleeper_covered is same (omega arith);
  asleep = λ is some. kept.asleep is (omega arith);
}

-- a thread that goes by what it read rests where there are no more rings
after_same : (s : State) (t n : ℕ) → StandsAt s t (Left n) → s.rings ≡ n → Kept s → Kept (record s { threads = set s.threads t Rests })
after_same s t n at same kept = moves s t s.driven (Left n) Rests kept at (λ put. put) refl (omega arith) (λ by_read. absurd by_read)
    (λ is some. weaker HasPut Goes puts_goes (set s.threads t Rests) (still_found HasPut s.threads t (Left n) Rests at (λ put. put) (kept.covered t (Left n) at tt same some)))

after_driven : (s : State) (t : ℕ) → StandsAt s t Rang → s.driven ≢ 0 → Kept s → Kept (record s { threads = set s.threads t Rests })
after_driven s t at some_driven kept = moves s t s.driven Rang Rests kept at (λ put. put) refl (omega arith) (λ by_read. absurd by_read)
    (λ is some. weaker (λ place. 0 < looking place) Goes looks_goes (set s.threads t Rests) (still_found (λ place. 0 < looking place) s.threads t Rang Rests at (λ looks. omega arith) (some_looks s.threads (λ none. some_driven (kept.counted ∙ none)))))

less_one : (s : State) (t : ℕ) (old : Place) → Kept s → StandsAt s t old → looking old ≡ 1 → s.driven - 1 + looking old ≡ s.driven + 0
less_one s t old kept at looks = omega (arith, looks, kept.counted, one_counted s.threads t old at)

-- what lies there after the sleeper's take has yet to ring
sleeper_has : (s : State) (n : ℕ) → s.sleeper ≡ HasTaken n → Kept s → s.rings ≡ n → 0 < s.lying → Found HasPut s.threads
sleeper_has s n at kept same some = subst (λ (sleeper : Sleeper). SleeperGoesBy sleeper → Covers s.rings s.lying s.threads (sleeper_read sleeper)) at kept.sleeper_covered tt same some

-- each step keeps it
keeps : (before after : State) → Step before after → Kept before → Kept after
keeps s after (puts t at is) kept = subst Kept (sym is) (after_put s t at kept)
keeps s after (puts_more t at is) kept = subst Kept (sym is) (after_more s t at kept)
keeps s after (rings t at is) kept = subst Kept (sym is) (after_ring s t at kept)
keeps s after (finds_driven t at some is) kept = subst Kept (sym is) (after_driven s t at some kept)
keeps s after (finds_nobody t at none is) kept = subst Kept (sym is) (goes_on s t s.driven Rang Calls kept at (λ put. put) refl (omega arith) (λ by_read. absurd by_read) tt)
keeps s after (wakes t at is) kept = subst Kept (sym is) (after_wake s t at kept)
keeps s after (comes t at is) kept = subst Kept (sym is) (goes_on s t (s.driven + 1) Rests Came kept at (λ put. put) (omega arith) (omega arith) (λ by_read. absurd by_read) tt)
keeps s after (reads t at is) kept = subst Kept (sym is) (goes_on s t s.driven Came (Read s.rings) kept at (λ put. put) refl (omega arith) (λ by_read. absurd by_read) tt)
keeps s after (misses t n at is) kept = subst Kept (sym is) (goes_on s t s.driven (Read n) Came kept at (λ put. put) refl (omega arith) (λ by_read. absurd by_read) tt)
keeps s after (takes t n at is) kept = subst Kept (sym is) (after_take s kept)
keeps s after (finds_none t n at none is) kept = subst Kept (sym is) (goes_on s t s.driven (Read n) (Took n) kept at (λ put. put) refl (kept.low t (Read n) at) (λ by_read same some. absurd (omega (arith, none))) tt)
keeps s after (looks_again t n at is) kept = subst Kept (sym is) (goes_on s t s.driven (Took n) Came kept at (λ put. put) refl (omega arith) (λ by_read. absurd by_read) tt)
keeps s after (leaves_bare t at is) kept = subst Kept (sym is) (goes_on s t (s.driven - 1) Came Calls kept at (λ put. put) (less_one s t Came kept at refl) (omega arith) (λ by_read. absurd by_read) tt)
keeps s after (leaves t n at is) kept = subst Kept (sym is) (goes_on s t (s.driven - 1) (Took n) (Left n) kept at (λ put. put) (less_one s t (Took n) kept at refl) (kept.low t (Took n) at) (λ by_read. kept.covered t (Took n) at tt) tt)
keeps s after (finds_same t n at same is) kept = subst Kept (sym is) (after_same s t n at same kept)
keeps s after (finds_more t n at apart is) kept = subst Kept (sym is) (goes_on s t s.driven (Left n) Calls kept at (λ put. put) refl (omega arith) (λ by_read. absurd by_read) tt)
keeps s after (sleeper_reads at is) kept = subst Kept (sym is) (sleeper_moves s (HasRead s.rings) kept (omega arith) (λ by_read. absurd by_read) (not_asleep (HasRead s.rings) (λ asleep. asleep) s.lying s.threads))
keeps s after (sleeper_takes n at is) kept = subst Kept (sym is) (after_take s kept)
keeps s after (sleeper_finds_none n at none is) kept = subst Kept (sym is) (sleeper_moves s (HasTaken n) kept (subst (λ (stand : Sleeper). sleeper_read stand ≤ s.rings) at kept.sleeper_low) (λ by_read same some. absurd (omega (arith, none))) (not_asleep (HasTaken n) (λ asleep. asleep) s.lying s.threads))
keeps s after (falls_asleep n at same is) kept = subst Kept (sym is) (sleeper_moves s Sleeps kept (omega arith) (λ by_read. absurd by_read)
    (λ sleeps some. weaker HasPut Goes puts_goes s.threads (sleeper_has s n at kept same some)))
keeps s after (stays_up n at apart is) kept = subst Kept (sym is) (sleeper_moves s Up kept (omega arith) (λ by_read. absurd by_read) (not_asleep Up (λ asleep. asleep) s.lying s.threads))
keeps s after (stirs at is) kept = subst Kept (sym is) (sleeper_moves s Up kept (omega arith) (λ by_read. absurd by_read) (not_asleep Up (λ asleep. asleep) s.lying s.threads))

-- it holds in every state of a run
kept : (n : ℕ) (s : State) (earlier : List State) → IsRun n (s ∷ earlier) → Kept s
kept n s [] run = subst Kept (sym run) (opens n)
kept n s (before ∷ earlier) run = keeps before s run.0 (kept n before earlier run.1)

-- where all rest, none is not at rest
none_goes : (s : State) → AllRest s → Found Goes s.threads → ⊥
none_goes s rest (t, place, at, goes) = subst Goes (rest t place at) goes

pub heard : (n : ℕ) (s : State) (earlier : List State) → IsRun n (s ∷ earlier) → s.sleeper ≡ Sleeps → AllRest s → s.lying ≡ 0
heard n s earlier run sleeps rest = by s.lying refl
  where
    by : (lying : ℕ) → s.lying ≡ lying → s.lying ≡ 0
    by zero is = is
    by (suc lying) is = absurd (none_goes s rest ((kept n s earlier run).asleep sleeps (omega (arith, is))))
