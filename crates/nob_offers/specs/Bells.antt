-- The machine of a bell: threads put things where one thread sleeps, and others may come and look in its place.
use Rattle.std.specs.Prelude.{◌≡◌, ◌≢◌, ℕ, ◌+◌, ◌-◌, List, [], ◌∷◌, Some, set, slice_get, replicate}

-- where a thread stands that puts and looks
pub data Place : Type 0 where
  -- at rest
  Rests : Place
  -- it has put something, and not rung yet
  Put : Place
  -- it has rung, and not asked yet whether anybody looks
  Rang : Place
  -- it has yet to wake the sleeper
  Calls : Place
  -- it is counted among those that look, and no look of its own counts
  Came : Place
  -- it is counted, and read the rings when there were so many
  Read : ℕ → Place
  -- it is counted, and found nothing more there after it read so many rings
  Took : ℕ → Place
  -- it is no longer counted, and has yet to look whether there are more rings than these, which it read before its look
  Left : ℕ → Place

-- where the thread stands that sleeps while there is nothing
pub data Sleeper : Type 0 where
  -- awake, with nothing read
  Up : Sleeper
  -- it read the rings when there were so many
  HasRead : ℕ → Sleeper
  -- it found nothing more there after it read so many rings
  HasTaken : ℕ → Sleeper
  -- asleep
  Sleeps : Sleeper

-- how much was put and not taken; how often it rang; how many threads look, as they are counted; where the sleeper stands, and each other thread
pub record State : Type 0 where
  pub lying : ℕ
  pub rings : ℕ
  pub driven : ℕ
  pub sleeper : Sleeper
  pub threads : List Place

-- nothing was put, so many threads are at rest, and the sleeper is awake
abbrev pub opening : ℕ → State
opening n = record { lying = 0; rings = 0; driven = 0; sleeper = Up; threads = replicate n Rests }

-- thread t stands there
abbrev pub StandsAt : State → ℕ → Place → Type 0
StandsAt s t place = slice_get s.threads t ≡ Some place

-- where the sleeper stands once it was woken
abbrev pub woken : Sleeper → Sleeper
woken Sleeps = Up
woken sleeper = sleeper

-- one step of one thread t, or of the sleeper, each of which is one deed on what the threads share
pub data Step (before after : State) : Type 0 where
  -- it puts something
  puts : (t : ℕ) → StandsAt before t Rests → after ≡ record before { lying = before.lying + 1; threads = set before.threads t Put } → Step before after
  -- it puts more before it rings
  puts_more : (t : ℕ) → StandsAt before t Put → after ≡ record before { lying = before.lying + 1 } → Step before after
  -- it rings
  rings : (t : ℕ) → StandsAt before t Put → after ≡ record before { rings = before.rings + 1; threads = set before.threads t Rang } → Step before after
  -- it finds that somebody looks, and rests
  finds_driven : (t : ℕ) → StandsAt before t Rang → before.driven ≢ 0 → after ≡ record before { threads = set before.threads t Rests } → Step before after
  -- it finds that nobody looks
  finds_nobody : (t : ℕ) → StandsAt before t Rang → before.driven ≡ 0 → after ≡ record before { threads = set before.threads t Calls } → Step before after
  -- it wakes the sleeper, if that one sleeps
  wakes : (t : ℕ) → StandsAt before t Calls → after ≡ record before { sleeper = woken before.sleeper; threads = set before.threads t Rests } → Step before after
  -- it comes to look, and is counted
  comes : (t : ℕ) → StandsAt before t Rests → after ≡ record before { driven = before.driven + 1; threads = set before.threads t Came } → Step before after
  -- it reads the rings
  reads : (t : ℕ) → StandsAt before t Came → after ≡ record before { threads = set before.threads t (Read before.rings) } → Step before after
  -- what it looks at is another's at the moment, so what it read doesn't count
  misses : (t n : ℕ) → StandsAt before t (Read n) → after ≡ record before { threads = set before.threads t Came } → Step before after
  -- it takes one thing
  takes : (t n : ℕ) → StandsAt before t (Read n) → after ≡ record before { lying = before.lying - 1 } → Step before after
  -- it finds nothing more there
  finds_none : (t n : ℕ) → StandsAt before t (Read n) → before.lying ≡ 0 → after ≡ record before { threads = set before.threads t (Took n) } → Step before after
  -- it looks once more
  looks_again : (t n : ℕ) → StandsAt before t (Took n) → after ≡ record before { threads = set before.threads t Came } → Step before after
  -- it leaves with no look that counts, and is no longer counted
  leaves_bare : (t : ℕ) → StandsAt before t Came → after ≡ record before { driven = before.driven - 1; threads = set before.threads t Calls } → Step before after
  -- it leaves, and is no longer counted
  leaves : (t n : ℕ) → StandsAt before t (Took n) → after ≡ record before { driven = before.driven - 1; threads = set before.threads t (Left n) } → Step before after
  -- it finds as many rings as it read before its look, and rests
  finds_same : (t n : ℕ) → StandsAt before t (Left n) → before.rings ≡ n → after ≡ record before { threads = set before.threads t Rests } → Step before after
  -- it finds more rings
  finds_more : (t n : ℕ) → StandsAt before t (Left n) → before.rings ≢ n → after ≡ record before { threads = set before.threads t Calls } → Step before after
  -- the sleeper reads the rings
  sleeper_reads : before.sleeper ≡ Up → after ≡ record before { sleeper = HasRead before.rings } → Step before after
  -- the sleeper takes one thing
  sleeper_takes : (n : ℕ) → before.sleeper ≡ HasRead n → after ≡ record before { lying = before.lying - 1 } → Step before after
  -- the sleeper finds nothing more there
  sleeper_finds_none : (n : ℕ) → before.sleeper ≡ HasRead n → before.lying ≡ 0 → after ≡ record before { sleeper = HasTaken n } → Step before after
  -- the sleeper finds as many rings as it read before its look, and falls asleep
  falls_asleep : (n : ℕ) → before.sleeper ≡ HasTaken n → before.rings ≡ n → after ≡ record before { sleeper = Sleeps } → Step before after
  -- the sleeper finds more rings, and stays up
  stays_up : (n : ℕ) → before.sleeper ≡ HasTaken n → before.rings ≢ n → after ≡ record before { sleeper = Up } → Step before after
  -- the sleeper wakes for no reason
  stirs : before.sleeper ≡ Sleeps → after ≡ record before { sleeper = Up } → Step before after

-- a run of n threads beside the sleeper, the latest state first: it begins with the opening state, and each other follows by a step
abbrev pub IsRun : ℕ → List State → Type 0
IsRun n [] = ⊥
IsRun n (s ∷ []) = s ≡ opening n
IsRun n (s ∷ before ∷ earlier) = Step before s × IsRun n (before ∷ earlier)

-- all threads but the sleeper are at rest: nobody puts, and nobody looks
abbrev pub AllRest : State → Type 0
AllRest s = (t : ℕ) (place : Place) → StandsAt s t place → place ≡ Rests

-- in every run of any number of threads, where the sleeper sleeps and all others are at rest, nothing lies untaken
abbrev pub HeardLaw : Type 0
HeardLaw = (n : ℕ) (s : State) (earlier : List State) → IsRun n (s ∷ earlier) → s.sleeper ≡ Sleeps → AllRest s → s.lying ≡ 0
