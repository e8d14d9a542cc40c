-- Returns: a world whose spaces die and come back under their numbers. What happens in it is a list of what the spaces did and
-- of where a life of one began; the newest stands FIRST. A life knows its birth and its own entries, and nothing else.
use Rattle.std.specs.Prelude.{◌≡◌, ◌≤◌, ⊤, ℕ, ◌+◌, ◌-◌, ◌==◌, List, [], ◌∷◌, ◌++◌, Option, Some, None, if◌then◌else◌}
use Rattle.nob_ids.specs.declared.limits.Limits.{Limits}
use Rattle.nob_model_types.specs.declared.entry.Entry.{Entry}
use Rattle.nob_model.specs.Right.{last_number, jobs_made, IsRight}
use Rattle.nob_model_lives.specs.Births.{Birth, IsBorn, IsInRange}
use Rattle.nob_model_lives.specs.Bridges.{Bounds, Cover, LeaveRoom, birth_behind}
use Rattle.nob_model_journal.specs.Journals.{deeds_at}
use Rattle.nob_model_journal.specs.Runs.{ArrivesGiven}

-- what happens: a space does something by an entry, or begins a new life behind bounds and so many jobs
pub data Happening : Type 0 where
  does : Entry → Happening
  begins : ℕ → Bounds → ℕ → Happening

-- what all spaces did in all their lives
abbrev pub entries : List Happening → List Entry
entries [] = []
entries (does entry ∷ H) = entry ∷ entries H
entries (begins s bounds jobs ∷ H) = entries H

-- what space s did in its present life
abbrev pub life : ℕ → List Happening → List Entry
life s [] = []
life s (does entry ∷ H) = if entry.space == s then entry ∷ life s H else life s H
life s (begins q bounds jobs ∷ H) = if q == s then [] else life s H

-- the birth at which the present life of space s began: none where it is the first
abbrev pub birth_of : ℕ → List Happening → Option Birth
birth_of s [] = None
birth_of s (does entry ∷ H) = birth_of s H
birth_of s (begins q bounds jobs ∷ H) = if q == s then Some (birth_behind bounds jobs) else birth_of s H

-- how many jobs space s claimed in all its lives
abbrev pub jobs_claimed : ℕ → List Happening → ℕ
jobs_claimed s H = jobs_made (deeds_at s (entries H))

-- how many more jobs space s claimed before its present life than this counts: its job numbers are to be raised by so many
abbrev pub jobs_uncounted : ℕ → List Happening → ℕ
jobs_uncounted s [] = 0
jobs_uncounted s (does entry ∷ H) = jobs_uncounted s H
jobs_uncounted s (begins q bounds jobs ∷ H) = if q == s then jobs_claimed s H - jobs else jobs_uncounted s H

-- a life of space s can be taken to go on from a list: a first life from none, a later one from each after which the space is born at its birth
abbrev pub GoesOnFrom : (s n : ℕ) → Limits → Option Birth → List Entry → Type 0
GoesOnFrom s n limits None L = L ≡ []
GoesOnFrom s n limits (Some birth) L = IsBorn s n limits birth L

-- what holds of the entries of the present life of space s behind each list from which it can be taken to go on
abbrev pub HoldsOfLife : (s n : ℕ) → Limits → List Happening → (List Entry → Type 0) → Type 0
HoldsOfLife s n limits H holds = (L : List Entry) → GoesOnFrom s n limits (birth_of s H) L → holds (life s H ++ L)

-- an entry of a world of n spaces, each with limits of its own, after what happened before
pub record IsOfLife (n : ℕ) (limits : ℕ → Limits) (entry : Entry) (H : List Happening) : Type 0 where
  -- it is of one of the spaces
  pub first : 1 ≤ entry.space
  pub last : entry.space ≤ n
  -- its result is the right one in the present life of its space
  pub is_right : HoldsOfLife entry.space n (limits entry.space) H (λ L. IsRight entry.space n (limits entry.space) entry L)
  -- what arrives was given, by whatever life of whatever space
  pub arrives : ArrivesGiven entry.event (entries H)
  -- a space claims no more jobs in all its lives than there are numbers
  pub few_jobs : jobs_claimed entry.space (does entry ∷ H) ≤ last_number

-- a space begins a new life behind bounds and so many jobs, after what happened before
pub record BeginsBehind (n : ℕ) (limits : ℕ → Limits) (s : ℕ) (bounds : Bounds) (jobs : ℕ) (H : List Happening) : Type 0 where
  -- it is one of the spaces, and can transmit
  pub first : 1 ≤ s
  pub last : s ≤ n
  pub window : 1 ≤ (limits s).window
  -- the bounds cover what the life before showed, and leave numbers
  pub covers : HoldsOfLife s n (limits s) H (Cover s n bounds)
  pub leaves_room : HoldsOfLife s n (limits s) H (LeaveRoom s n bounds)
  -- it counts no more jobs than were claimed
  pub few_jobs : jobs ≤ jobs_claimed s H
  -- the birth is one at which a space can begin
  pub in_range : IsInRange s n (birth_behind bounds jobs)

-- a run of a world whose spaces come back
abbrev pub ReturningRun : (n : ℕ) → (ℕ → Limits) → List Happening → Type 0
ReturningRun n limits [] = ⊤
ReturningRun n limits (does entry ∷ H) = IsOfLife n limits entry H × ReturningRun n limits H
ReturningRun n limits (begins s bounds jobs ∷ H) = BeginsBehind n limits s bounds jobs H × ReturningRun n limits H
