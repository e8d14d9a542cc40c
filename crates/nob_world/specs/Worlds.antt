-- A world as its callers see it. Its entries and frames stand oldest first; a journal is read the newest FIRST.
use Rattle.std.specs.Prelude.{◌≡◌, ◌≤◌, ◌+◌, ◌&&◌, not, nat_le, ℕ, Bool, true, false, List, [], ◌∷◌, ◌++◌, length, reverse, take, slice_get, Option, Some, None, Result, Ok, Err, if◌then◌else◌}
use Rattle.std.specs.List.{AllByRecursion}
use Rattle.nob_ids.specs.declared.limits.Limits.{Limits}
use Rattle.nob_frame.specs.declared.frame.Frame.{Frame}
use Rattle.nob_frame.specs.Spelling.{Fits}
use Rattle.nob_frame.specs.declared.version.Version.TheVariants.{Two}
use Rattle.nob_model_types.specs.declared.answer.Answer.{Answer}
use Rattle.nob_model_types.specs.declared.refusal.Refusal.{Refusal}
use Rattle.nob_model_types.specs.declared.event.Event.{Event}
use Rattle.nob_model_types.specs.declared.entry.Entry.{Entry}
use Rattle.nob_model_types.specs.declared.entry.WorldStep.{WorldStep}
use Rattle.nob_model_types.specs.declared.entry.WorldStep.TheVariants.{Do, Deliver}
use Rattle.nob_model_journal.specs.Journals.{at, transmitted_frames}
use Rattle.nob_model_invariant.specs.Typed.{AreOfTypes}
pub use Rattle.nob_model_invariant.specs.Safe.{IsSafe}
use Rattle.nob_model_journal.specs.Runs.{WorldRun, frame_of, IsMadeBy}
pub use Rattle.nob_model_journal.specs.Runs.{is_arrival}
use Rattle.nob_space.specs.Spaces.{Owner, StandsFor}
use Rattle.nob_world.specs.declared.error.WorldError.{WorldError}
use Rattle.nob_world.specs.declared.error.WorldError.TheVariants.{Refused, NoSpace, NoFrame, OutOfMemory}

-- a world: how many spaces, the limits of their sessions, the spaces, what was asked of them and answered, and all frames ever transmitted
pub record World : Type 0 where
  pub n : ℕ
  pub limits : Limits
  pub spaces : List Owner
  pub entries : List Entry
  pub frames : List Frame

-- the world of these parts
abbrev pub world_of : ℕ → Limits → List Owner → List Entry → List Frame → World
world_of n limits spaces entries frames = record { n = n; limits = limits; spaces = spaces; entries = entries; frames = frames }

-- what happened in a world, the newest first
abbrev pub journal : World → List Entry
journal world = reverse world.entries

-- space p of a world: its number, how many there are, the limits, and what it stands for: its own entries
pub record IsSpaceOf (n : ℕ) (limits : Limits) (J : List Entry) (p : ℕ) (space : Owner) : Type 0 where
  pub id : space.id ≡ p
  pub count : space.n ≡ n
  pub same_limits : space.limits ≡ limits
  pub stands : StandsFor space (at p J)

-- the spaces of a world: space p at place p - 1
pub record SpacesStand (n : ℕ) (limits : Limits) (spaces : List Owner) (J : List Entry) : Type 0 where
  pub each : length spaces ≡ n
  pub stand : (place : ℕ) (space : Owner) → slice_get spaces place ≡ Some space → IsSpaceOf n limits J (place + 1) space

-- a world is one of 1 to 32 spaces
pub record IsWorld (world : World) : Type 0 where
  pub some : 1 ≤ world.n
  pub few : world.n ≤ 32
  -- each space stands for its own entries
  pub spaces : SpacesStand world.n world.limits world.spaces (journal world)
  -- their entries are a run of a world
  pub run : WorldRun world.n (λ _. world.limits) (journal world)
  -- the frames are those that were transmitted
  pub frames : world.frames ≡ transmitted_frames (journal world)
  -- each of which has a spelling
  pub spelt : AllByRecursion (Fits Two) world.frames
  -- and goes to a space
  pub for_spaces : AllByRecursion (λ frame. frame.to ≤ world.n) world.frames
  -- what was handed on is of its types
  pub typed : AreOfTypes (journal world)

-- whether a frame was found
abbrev pub is_there : Option Frame → Bool
is_there (Some frame) = true
is_there None = false

-- what is wrong with a step among so many spaces and these frames: there is no such space or frame, or a frame is to arrive undelivered
abbrev pub step_fault : ℕ → List Frame → WorldStep → Option WorldError
step_fault n frames (Do space event) = if not (nat_le 1 space && nat_le space n) then Some NoSpace else (if is_arrival event then Some NoFrame else None)
step_fault n frames (Deliver number) = if is_there (frame_of number frames) then None else Some NoFrame

-- why a step made no entry: what is wrong with it, or else want of memory
abbrev pub why_stopped : Option WorldError → WorldError
why_stopped (Some fault) = fault
why_stopped None = OutOfMemory

-- what a step came to: an entry with what its space answered or why it refused, or why it makes none
abbrev pub outcome : Result Answer WorldError → Result (Result Answer Refusal) WorldError
outcome (Ok answer) = Ok (Ok answer)
outcome (Err (Refused refusal)) = Ok (Err refusal)
outcome (Err NoSpace) = Err NoSpace
outcome (Err NoFrame) = Err NoFrame
outcome (Err OutOfMemory) = Err OutOfMemory

-- an entry of a space for an event, with its result
abbrev pub entry_of : ℕ → Event → Result Answer Refusal → Entry
entry_of space event result = record { space = space; event = event; result = result }

-- entries, the first first, with one more, which a step made and which has this result
pub record AddsTo (step : WorldStep) (result : Result Answer Refusal) (old new : List Entry) : Type 0 where
  pub entry : Entry
  pub added : new ≡ old ++ entry ∷ []
  pub result_is : entry.result ≡ result
  pub made : IsMadeBy step entry (reverse old)

-- the steps that were made: all, or those before the one that was refused
abbrev pub steps_made : List WorldStep → Result Unit (ℕ × WorldError) → List WorldStep
steps_made steps (Ok _) = steps
steps_made steps (Err error) = take error.0 steps
