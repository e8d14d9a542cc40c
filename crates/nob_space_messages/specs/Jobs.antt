-- The jobs of a space as a contract sees them: those that are ready and those that run.
use Rattle.std.specs.Prelude.{ℕ, ◌<◌, ◌==◌, Bool, not, List}
use Rattle.std.specs.List.{AllByRecursion, list_any}
use Rattle.nob_model_types.specs.declared.message.Message.{Message}
use Rattle.nob_model_work.specs.declared.work.Run.{Run}
use Rattle.nob_model_acting.specs.Candidates.{target_of}

-- the ready jobs, in order of becoming ready, the jobs that run, the newest first, and how many more of each fit without memory; of the
-- ready ones also how many that wait
pub record JobLists : Type 0 where
  pub ready : List Message
  pub running : List Run
  pub ready_room : ℕ
  pub settled_room : ℕ
  pub running_room : ℕ

-- whether one of these jobs has a target
abbrev pub is_running : List Run → ℕ → Bool
is_running running target = list_any (λ run. target_of run.message.item == target) running

-- whether none of these jobs has the target of a message
abbrev pub is_free_of : List Run → Message → Bool
is_free_of running message = not (is_running running (target_of message.item))

-- a number stands above those of all jobs that run
abbrev pub IsAbove : List Run → ℕ → Type 0
IsAbove running number = AllByRecursion (λ run. run.job < number) running
