-- The machine of a retry: turns try what waits, and may be refused for want of room, which others make.
use Rattle.std.specs.Prelude.{◌≡◌, ℕ, ◌+◌, ◌-◌, ◌<◌, ◌⊎◌, Bool, true, false, List, [], ◌∷◌}

-- where the one stands who has the turn
pub data Turn : Type 0 where
  -- nobody has it
  Free : Turn
  -- it has begun, and the note isn't read yet
  Began : Turn
  -- it tries, and no refusal is noted
  Tries : Turn
  -- it was refused, and that isn't noted yet
  WasRefused : Turn
  -- it tries, and a refusal was noted before
  TriesAgain : Turn
  -- it did something, and the note isn't taken back yet
  Did : Turn
  -- it found nothing that waits, and the note isn't taken back yet
  FoundNone : Turn
  -- it gives the turn back next
  Ends : Turn

-- whether something waits that a turn would do; whether there is room for it; whether a refusal is noted; whether a turn is asked for that hasn't begun; where the turn
-- stands; how many threads have made room and not looked yet; and how many have yet to ask for a turn
pub record State : Type 0 where
  pub waits : Bool
  pub room : Bool
  pub noted : Bool
  pub asked : Bool
  pub turn : Turn
  pub makers : ℕ
  pub askers : ℕ

-- nothing waits, there is no room, and all are at rest
abbrev pub opening : State
opening = record { waits = false; room = false; noted = false; asked = false; turn = Free; makers = 0; askers = 0 }

-- one step, which is one deed on what the threads share: of the one who has the turn, or of another thread
pub data Step (before after : State) : Type 0 where
  -- a thread has something wait, and has yet to ask for a turn
  comes : after ≡ record before { waits = true; askers = before.askers + 1 } → Step before after
  -- a thread makes room
  makes : after ≡ record before { room = true; makers = before.makers + 1 } → Step before after
  -- a thread takes the room there is for itself
  uses : after ≡ record before { room = false } → Step before after
  -- a thread that made room finds no refusal noted, and rests
  finds_clear : 0 < before.makers → before.noted ≡ false → after ≡ record before { makers = before.makers - 1 } → Step before after
  -- a thread that made room finds a refusal noted, and has yet to ask for a turn
  finds_noted : 0 < before.makers → before.noted ≡ true → after ≡ record before { makers = before.makers - 1; askers = before.askers + 1 } → Step before after
  -- a thread asks for a turn, and rests
  asks : 0 < before.askers → after ≡ record before { askers = before.askers - 1; asked = true } → Step before after
  -- a turn begins, for all who have asked for one
  begins : before.turn ≡ Free → after ≡ record before { turn = Began; asked = false } → Step before after
  -- it reads that no refusal is noted
  reads_clear : before.turn ≡ Began → before.noted ≡ false → after ≡ record before { turn = Tries } → Step before after
  -- it reads that a refusal is noted
  reads_noted : before.turn ≡ Began → before.noted ≡ true → after ≡ record before { turn = TriesAgain } → Step before after
  -- it does something: more may wait or nothing, and there may be room left or none
  does : (more left : Bool) → (before.turn ≡ Tries) ⊎ (before.turn ≡ TriesAgain) → after ≡ record before { waits = more; room = left; turn = Did } → Step before after
  -- it takes the note back, and tries what waits next
  goes_on : before.turn ≡ Did → after ≡ record before { noted = false; turn = Tries } → Step before after
  -- it is refused, as there is no room
  is_refused : before.turn ≡ Tries → before.room ≡ false → after ≡ record before { turn = WasRefused } → Step before after
  -- it notes the refusal, and tries once more
  notes : before.turn ≡ WasRefused → after ≡ record before { noted = true; turn = TriesAgain } → Step before after
  -- it is refused, as there is no room, after a refusal was noted
  is_refused_again : before.turn ≡ TriesAgain → before.room ≡ false → after ≡ record before { turn = Ends } → Step before after
  -- it gives the turn back with the refusal noted, and has yet to ask for another
  leaves : before.turn ≡ TriesAgain → after ≡ record before { turn = Free; askers = before.askers + 1 } → Step before after
  -- it finds nothing that waits
  finds_none : (before.turn ≡ Tries) ⊎ (before.turn ≡ TriesAgain) → before.waits ≡ false → after ≡ record before { turn = FoundNone } → Step before after
  -- it takes the note back
  takes_back : before.turn ≡ FoundNone → after ≡ record before { noted = false; turn = Ends } → Step before after
  -- it gives the turn back
  gives_back : before.turn ≡ Ends → after ≡ record before { turn = Free } → Step before after

-- a run of any number of threads, the latest state first: it begins with the opening state, and each other follows by a step
abbrev pub IsRun : List State → Type 0
IsRun [] = ⊥
IsRun (s ∷ []) = s ≡ opening
IsRun (s ∷ before ∷ earlier) = Step before s × IsRun (before ∷ earlier)

-- all are at rest: nobody has the turn, none is asked for, nobody who made room has yet to look, and nobody has yet to ask
abbrev pub AllRest : State → Type 0
AllRest s = (s.turn ≡ Free) × (s.asked ≡ false) × (s.makers ≡ 0) × (s.askers ≡ 0)

-- in every run of any number of threads, where all are at rest, what still waits has no room, and that it was refused is noted, for who makes room next
abbrev pub TriedLaw : Type 0
TriedLaw = (s : State) (earlier : List State) → IsRun (s ∷ earlier) → AllRest s → s.waits ≡ true → (s.room ≡ false) × (s.noted ≡ true)
