-- The two ends of a pair, and for which runs they stand.
use Rattle.std.specs.Prelude.{◌≡◌, ℕ, List, ◌++◌}
use Rattle.std.specs.List.{AllByRecursion}
use Rattle.nob_ids.specs.declared.limits.Limits.{Limits}
use Rattle.nob_frame.specs.declared.frame.Frame.{Frame}
use Rattle.nob_frame.specs.declared.version.Version.TheVariants.{Two}
use Rattle.nob_frame.specs.Spelling.{Fits}
use Rattle.nob_model_session.specs.declared.entry.EndEntry.{EndEntry}
use Rattle.nob_model_session.specs.declared.entry.PairEntry.{PairEntry}
use Rattle.nob_model_session.specs.Right.{right_transmit}
use Rattle.nob_model_session.specs.Pair.{first_calls, second_calls, PairRun}
use Rattle.nob_session.specs.Stands.{End, Stands}
use Rattle.nob_demo_scripts.specs.declared.step.Call.{Call}
use Rattle.nob_demo_scripts.specs.declared.step.Call.TheVariants.{Put, Send, Get, Tick, Close, Open}
use Rattle.nob_demo_scripts.specs.Run.{all_given}

-- the two ends, and all frames that they ever transmitted, the first first
pub record Ends : Type 0 where
  pub first : End
  pub second : End
  pub frames : List Frame

-- these ends with these frames
abbrev pub ends_of : End → End → List Frame → Ends
ends_of first second frames = record { first = first; second = second; frames = frames }

-- two ends with these limits stand for a list of calls if it is a run of a pair, each stands for its own, and the frames are those given
pub record PairStands (limits : Limits) (ends : Ends) (J : List PairEntry) : Type 0 where
  pub first : Stands 1 2 limits ends.first (first_calls J)
  pub second : Stands 2 1 limits ends.second (second_calls J)
  pub frames : ends.frames ≡ all_given J
  pub run : PairRun 1 2 limits limits J

-- all frames once a call is made at an end after others
abbrev pub frames_after : Limits → (me peer : ℕ) → Call → List EndEntry → List Frame → List Frame
frames_after limits me peer (Put item) L frames = frames
frames_after limits me peer Send L frames = frames ++ right_transmit me peer limits.window L
frames_after limits me peer Get L frames = frames
frames_after limits me peer Tick L frames = frames
frames_after limits me peer Close L frames = frames
frames_after limits me peer Open L frames = frames

-- an end of the sessions between these spaces stands for some calls
abbrev pub IsEndOf : (me peer : ℕ) → End → Type 0
IsEndOf me peer e = (limits : Limits) × (L : List EndEntry) × Stands me peer limits e L

-- what holds of every pair: its ends are those of the spaces 1 and 2, and each frame has a spelling
pub record IsPairOfEnds (ends : Ends) : Type 0 where
  pub first : IsEndOf 1 2 ends.first
  pub second : IsEndOf 2 1 ends.second
  pub frames : AllByRecursion (Fits Two) ends.frames
