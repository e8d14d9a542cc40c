-- The machine of offers: threads hand things on, and share the turns in which these are seen.
use Rattle.std.specs.Prelude.{◌≡◌, ◌≢◌, ℕ, ◌+◌, ◌<◌, Bool, true, false, ◌⊎◌, List, [], ◌∷◌, Some, set, slice_get, replicate}

-- where a thread stands
pub data Stand : Type 0 where
  -- at rest
  Rests : Stand
  -- it has yet to offer: it handed something, or found that more was handed
  Owes : Stand
  -- it has taken the lock, and not read the counter yet
  Took : Stand
  -- it holds the turn, which began when so much was handed
  Turns : ℕ → Stand
  -- it has given the turn back, which began when so much was handed, and not looked yet
  Gave : ℕ → Stand

-- what was handed; whether the lock is held; how much was handed when each turn given back began, the latest first; where each thread stands
pub record State : Type 0 where
  pub handed : ℕ
  pub held : Bool
  pub given : List ℕ
  pub threads : List Stand

-- nothing was handed, and so many threads are at rest
abbrev pub opening : ℕ → State
opening n = record { handed = 0; held = false; given = []; threads = replicate n Rests }

-- thread t stands there
abbrev pub StandsAt : State → ℕ → Stand → Type 0
StandsAt s t stand = slice_get s.threads t ≡ Some stand

-- one step of thread t, each of which is one deed on what the threads share
pub data Step (t : ℕ) (before after : State) : Type 0 where
  -- it hands something: the counter goes up
  hands : StandsAt before t Rests → after ≡ record before { handed = before.handed + 1; threads = set before.threads t Owes } → Step t before after
  -- it hands more before it offers
  hands_more : StandsAt before t Owes → after ≡ record before { handed = before.handed + 1 } → Step t before after
  -- it hands something within the turn that it holds
  hands_within : (began : ℕ) → StandsAt before t (Turns began) → after ≡ record before { handed = before.handed + 1 } → Step t before after
  -- it comes to offer a turn with nothing of its own
  comes : StandsAt before t Rests → after ≡ record before { threads = set before.threads t Owes } → Step t before after
  -- its offer finds the lock held, and it rests
  finds_held : StandsAt before t Owes → before.held ≡ true → after ≡ record before { threads = set before.threads t Rests } → Step t before after
  -- its offer takes the lock
  takes : StandsAt before t Owes → before.held ≡ false → after ≡ record before { held = true; threads = set before.threads t Took } → Step t before after
  -- it reads the counter, and its turn begins
  begins : StandsAt before t Took → after ≡ record before { threads = set before.threads t (Turns before.handed) } → Step t before after
  -- it gives the turn back, and lets go of the lock
  gives_back : (began : ℕ) → StandsAt before t (Turns began) → after ≡ record before { held = false; given = began ∷ before.given; threads = set before.threads t (Gave began) } → Step t before after
  -- it looks, and finds the counter where it stood when its turn began: it rests
  finds_same : (began : ℕ) → StandsAt before t (Gave began) → before.handed ≡ began → after ≡ record before { threads = set before.threads t Rests } → Step t before after
  -- it looks, and finds that the counter has moved: it offers again
  finds_more : (began : ℕ) → StandsAt before t (Gave began) → before.handed ≢ began → after ≡ record before { threads = set before.threads t Owes } → Step t before after

-- a run of n threads, the latest state first: it begins with the opening state, and each other follows by a step of some thread
abbrev pub IsRun : ℕ → List State → Type 0
IsRun n [] = ⊥
IsRun n (s ∷ []) = s ≡ opening n
IsRun n (s ∷ before ∷ earlier) = ((t : ℕ) × Step t before s) × IsRun n (before ∷ earlier)

-- what was handed as number k, counted from 0, is seen: a turn that began after it was handed was given back
abbrev pub IsSeen : ℕ → List ℕ → Type 0
IsSeen k [] = ⊥
IsSeen k (began ∷ given) = (k < began) ⊎ IsSeen k given

-- all threads are at rest
abbrev pub AllRest : State → Type 0
AllRest s = (t : ℕ) (stand : Stand) → StandsAt s t stand → stand ≡ Rests

-- all that was handed is seen
abbrev pub AllSeen : State → Type 0
AllSeen s = (k : ℕ) → k < s.handed → IsSeen k s.given

-- in every run of any number of threads, where all are at rest, all that was handed is seen
abbrev pub SeenLaw : Type 0
SeenLaw = (n : ℕ) (s : State) (earlier : List State) → IsRun n (s ∷ earlier) → AllRest s → AllSeen s

-- the thread has the lock
abbrev pub HasLock : Stand → Type 0
HasLock Took = Unit {0}
HasLock (Turns began) = Unit {0}
HasLock (_) = ⊥

-- in every run of any number of threads at most one has the lock at a time
abbrev pub OneTurnLaw : Type 0
OneTurnLaw = (n : ℕ) (s : State) (earlier : List State) → IsRun n (s ∷ earlier) → (t u : ℕ) (stand other : Stand) → StandsAt s t stand → HasLock stand → StandsAt s u other → HasLock other → t ≡ u

-- whatever the others do, each thread has a step that it can make: none waits for another
abbrev pub NoWaitLaw : Type 0
NoWaitLaw = (s : State) (t : ℕ) (stand : Stand) → StandsAt s t stand → (after : State) × Step t s after
