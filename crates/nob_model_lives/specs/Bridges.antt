-- Bridges: entries that lead from any list of right entries to a birth. Each is an event that needs nobody else, and its
-- right answer: a session closes, a job ends, a reply is taken, a hold is given back, an object is withdrawn, a call is made
-- that goes nowhere, a session opens anew.
use Rattle.std.specs.Prelude.{◌≡◌, ◌≤◌, ◌⊎◌, ℕ, ◌+◌, ◌-◌, ◌*◌, true, List, ◌++◌, length}
use Rattle.nob_ids.specs.declared.limits.Limits.{Limits}
use Rattle.nob_model_session.specs.End.{last_session, seen}
use Rattle.nob_model_session.specs.Right.{queue_limit}
use Rattle.nob_model_types.specs.declared.entry.Entry.{Entry}
use Rattle.nob_model_types.specs.Deeds.{deeds}
use Rattle.nob_model_types.specs.Sessions.{is_peer, number}
use Rattle.nob_model_types.specs.Objects.{exports}
use Rattle.nob_model_history.specs.Histories.{history}
use Rattle.nob_model_history.specs.Ends.{calls_at}
use Rattle.nob_model.specs.Opening.{next_number}
use Rattle.nob_model.specs.Right.{last_number, calls_made, jobs_made}
use Rattle.nob_model.specs.Lists.{AreRight}
use Rattle.nob_model_lives.specs.Births.{Birth, IsBorn}

-- no call is passed over, or all are with one peer: as many as one session can have unacknowledged in each number that is passed over before the last
abbrev pub CanPassCalls : (s n : ℕ) → Birth → List Entry → Type 0
CanPassCalls s n birth L = (birth.calls ≡ calls_made (deeds L)) ⊎ ((p : ℕ) × (is_peer s n p ≡ true) × (birth.calls ≤ calls_made (deeds L) + queue_limit * (birth.session p - next_number p (history s n L))))

-- a space can be brought to a birth by its own events: no number of the birth is below what was given, heard or used, and none above its limit; as many jobs were claimed
pub record CanBeBorn (s n : ℕ) (birth : Birth) (L : List Entry) : Type 0 where
  -- indexes can be passed over
  pub indexes : length (exports (deeds L)) ≤ birth.indexes
  pub last_index : birth.indexes ≤ last_number
  -- so can calls, with a peer
  pub calls : calls_made (deeds L) ≤ birth.calls
  pub last_call : birth.calls ≤ last_number
  pub pass_calls : CanPassCalls s n birth L
  -- a job can't be passed over
  pub jobs : jobs_made (deeds L) ≡ birth.jobs
  -- each session can be opened under its number: it is the next one, or above
  pub sessions : (p : ℕ) → is_peer s n p ≡ true → (next_number p (history s n L) ≤ birth.session p) × (birth.session p ≤ last_session)

-- behind every list of right entries there are entries that bring the space to every birth to which it can be brought (the newest stands FIRST)
abbrev pub BridgeLaw : Type 0
BridgeLaw = (s n : ℕ) (limits : Limits) (birth : Birth) (L : List Entry) → AreRight s n limits L → CanBeBorn s n birth L → (bridge : List Entry) × IsBorn s n limits birth (bridge ++ L)

-- what is kept of a life: bounds of its indexes, of its calls, and of the numbers of its session with each peer
pub record Bounds : Type 0 where
  pub indexes : ℕ
  pub calls : ℕ
  pub session : ℕ → ℕ

-- bounds cover what a space showed: no index, call or session number that it gave is above them, and no session number that it heard; and no more calls are left between than one session can have unacknowledged
pub record Cover (s n : ℕ) (bounds : Bounds) (L : List Entry) : Type 0 where
  pub indexes : length (exports (deeds L)) ≤ bounds.indexes
  pub calls : calls_made (deeds L) ≤ bounds.calls
  pub few_calls : bounds.calls ≤ calls_made (deeds L) + queue_limit
  pub sessions : (p : ℕ) → is_peer s n p ≡ true → number p (deeds L) ≤ bounds.session p
  pub heard : (p : ℕ) → is_peer s n p ≡ true → seen (calls_at p (history s n L)) ≤ bounds.session p

-- bounds leave numbers for one life more; where there is no peer, no call can be passed over
pub record LeaveRoom (s n : ℕ) (bounds : Bounds) (L : List Entry) : Type 0 where
  pub indexes : bounds.indexes ≤ last_number
  pub calls : bounds.calls ≤ last_number
  pub sessions : (p : ℕ) → is_peer s n p ≡ true → bounds.session p + 2 ≤ last_session
  pub peer : (bounds.calls ≡ calls_made (deeds L)) ⊎ ((p : ℕ) × (is_peer s n p ≡ true))

-- the birth behind bounds, after so many jobs: each session in the number two above its bound, so that one is passed over
abbrev pub birth_behind : Bounds → ℕ → Birth
birth_behind bounds jobs = record { indexes = bounds.indexes; calls = bounds.calls; jobs = jobs; session = λ p. bounds.session p + 2 }

-- behind every list of right entries, and for all bounds that cover what it showed and leave room, there are entries after which the space is born behind the bounds
abbrev pub BoundsLaw : Type 0
BoundsLaw = (s n : ℕ) (limits : Limits) (bounds : Bounds) (L : List Entry) → AreRight s n limits L → Cover s n bounds L → LeaveRoom s n bounds L → (bridge : List Entry) × IsBorn s n limits (birth_behind bounds (jobs_made (deeds L))) (bridge ++ L)
