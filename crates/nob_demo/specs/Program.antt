-- What a run of the program does, where its reader and its writers tell their bytes.
use Rattle.std.specs.Prelude.{◌≡◌, ℕ, ◌^◌, ◌<◌, ◌≤◌, ◌+◌, Bool, true, false, List, [], length, Option, IfSome, Result, Ok, Err, codes}
use Rattle.std.specs.Io.KnownBytes.{Appends, Keeps}
use Rattle.nob_demo_scripts.specs.declared.pair_script.PairEnding.{PairEnding}
use Rattle.nob_demo_scripts.specs.declared.pair_script.PairEnding.TheVariants.{Fronts, BadStep, OutOfMemory}
use Rattle.nob_demo_scripts.specs.PairScripts.{Plays}
use Rattle.nob_model_journal.specs.declared.verdict.Verdict.TheVariants.{Yes, No}
use Rattle.nob_script_text.specs.declared.ending.Ending.{Ending}
use Rattle.nob_script_text.specs.declared.ending.Ending.TheVariants as endings
use Rattle.nob_demo_scripts.specs.WorldScripts as worlds
use Rattle.nob_demo.specs.Checks as checks
use Rattle.nob_demo.specs.declared.checking.CheckEnding.{CheckEnding}
use Rattle.nob_demo.specs.declared.checking.CheckEnding.TheVariants as check_endings
use Rattle.nob_demo.specs.Draws as drawings
use Rattle.nob_demo.specs.declared.drawing.DrawEnding.{DrawEnding}
use Rattle.nob_demo.specs.declared.drawing.DrawEnding.TheVariants as draw_endings
use Rattle.nob_demo.specs.declared.drawing.Part.{Part}
use Rattle.nob_demo_spaces.specs.declared.excerpt.Excerpt.{Excerpt}
use Rattle.nob_demo_spaces.specs.declared.command_line.Subcommand.{Subcommand}
use Rattle.nob_demo_spaces.specs.declared.ending.SceneEnding.{SceneEnding}
use Rattle.nob_demo_spaces.specs.declared.ending.SceneEnding.TheVariants as scene_endings
use Rattle.nob_demo_spaces.specs.Endings as scenes
use Rattle.nob_demo_spaces.specs.declared.command_line.Subcommand.TheVariants.{Pair, Script, Check, Draw, Spaces}
use Rattle.nob_demo_spaces.specs.declared.fault.Fault.{Fault}
use Rattle.nob_demo_spaces.specs.declared.fault.Fault.TheVariants.{Words, Read, Write, Memory}

-- so many reads at most
abbrev pub most_reads : ℕ
most_reads = 2 ^ 20

-- so many bytes of input at most
abbrev pub most_bytes : ℕ
most_bytes = 2 ^ 26

-- a read has room for so many bytes at least, so that as many reads as the program makes can give more bytes than it takes
abbrev pub least_room : ℕ
least_room = 2 ^ 12

-- what was read, and how
pub record Reading : Type 0 where
  -- the bytes of the reader before the first read, where it tells them
  pub input : Option (List ℕ)
  -- and after the last
  pub rest : Option (List ℕ)
  -- how many reads were made
  pub reads : ℕ
  -- how many bytes they gave
  pub bytes : ℕ
  -- whether one failed
  pub failed : Bool
  -- whether one told the end
  pub ended : Bool

-- the reads gave so many bytes: where the reader tells its bytes, these are the bytes that it had and has no more
abbrev pub IsCounted : Reading → Type 0
IsCounted r = IfSome r.input (λ all. IfSome r.rest (λ left. length all ≡ r.bytes + length left))

-- the input was read whole: no read failed, one told the end, and there were no more reads and bytes than the program takes
abbrev pub IsWhole : Reading → Type 0
IsWhole r = (r.failed ≡ false) × (r.ended ≡ true) × (r.reads ≤ most_reads) × (r.bytes ≤ most_bytes)

-- a part of the input was read: no read failed or told the end, one more may be made, and there is no byte too many so far
abbrev pub IsPart : Reading → Type 0
IsPart r = (r.failed ≡ false) × (r.ended ≡ false) × (r.reads < most_reads) × (r.bytes ≤ most_bytes) × IsCounted r

-- a read failed, or all reads that the program makes told no end, or they gave more bytes than the program takes
pub data IsReadFault (r : Reading) : Type 0 where
  failed_read : r.failed ≡ true → IsReadFault r
  many_reads : r.reads ≡ most_reads → r.ended ≡ false → IsReadFault r
  many_bytes : most_bytes < r.bytes → IsCounted r → IsReadFault r

-- why the input isn't there: it can't be read whole, or memory ran out on the way
abbrev pub IsReadingFault : Fault → Reading → Type 0
IsReadingFault (Words text) r = ⊥
IsReadingFault Read r = IsReadFault r
IsReadingFault Memory r = IsPart r
IsReadingFault Write r = ⊥

-- the status that the run of a pair's script ends with: 0 where the last line says yes
abbrev pub status_of : PairEnding → ℕ
status_of Fronts = 0
status_of BadStep = 1
status_of OutOfMemory = 1

-- the status that the run of a world's script ends with: 0 where the last line says yes
abbrev pub world_status_of : Ending → ℕ
world_status_of (endings.Judged Yes) = 0
world_status_of (endings.Judged (No promise)) = 1
world_status_of endings.BadStep = 1
world_status_of endings.OutOfMemory = 1

-- the status that a check of traces ends with: 0 where they are accepted
abbrev pub check_status_of : CheckEnding → ℕ
check_status_of check_endings.Accepted = 0
check_status_of check_endings.Refused = 1
check_status_of check_endings.OutOfMemory = 1

-- the status that a drawing of traces ends with: 0 where they are accepted
abbrev pub draw_status_of : DrawEnding → ℕ
draw_status_of draw_endings.Drawn = 0
draw_status_of draw_endings.Refused = 1
draw_status_of draw_endings.OutOfMemory = 1

-- the status that the play of a scene ends with: 0 where its traces are accepted or printed, or there are none
abbrev pub scene_status_of : SceneEnding → ℕ
scene_status_of scene_endings.Accepted = 0
scene_status_of scene_endings.Refused = 1
scene_status_of scene_endings.Printed = 0
scene_status_of scene_endings.Unchecked = 0
scene_status_of scene_endings.Full = 1
scene_status_of scene_endings.OutOfMemory = 1

-- whether a subcommand reads an input: `spaces` reads none
abbrev pub reads_input : Subcommand → Bool
reads_input Pair = true
reads_input Script = true
reads_input Check = true
reads_input (Draw rows) = true
reads_input (Spaces setting) = false

-- the input that a subcommand was given: all that was read, which is the reader's where it tells that; nothing for one that reads none
abbrev pub IsInput : (reads : Bool) → Reading → (bytes : List ℕ) → Type 0
IsInput true r bytes = IsWhole r × (length bytes ≡ r.bytes) × IfSome r.input (λ input. bytes ≡ input)
IsInput false r bytes = (r.reads ≡ 0) × (bytes ≡ [])

-- what is drawn, as the words say it
abbrev pub part_of : Excerpt → Part
part_of excerpt = record { from = excerpt.from; to = excerpt.to; choice = record { owner = excerpt.owner; index = excerpt.index; space = excerpt.space; brief = excerpt.brief } }

-- what a subcommand writes for an input, and its status; the verdict is never no. Of a scene: what may be written of some score, some traces and some summaries
abbrev pub Does : Subcommand → (input text : List ℕ) → (status : ℕ) → Type 0
Does Pair input text status = (outcome : PairEnding) × Plays input text outcome × (status ≡ status_of outcome)
Does Script input text status = (ending : Ending) × worlds.Plays input text ending × worlds.SaysYes ending × (status ≡ world_status_of ending)
Does Check input text status = (ending : CheckEnding) × checks.Checks input text ending × (status ≡ check_status_of ending)
Does (Draw excerpt) input text status = (ending : DrawEnding) × drawings.Draws input (part_of excerpt) text ending × (status ≡ draw_status_of ending)
Does (Spaces setting) input text status = (ending : SceneEnding) × scenes.Plays setting text ending × (status ≡ scene_status_of ending)

-- what a run was given, and how far it came
pub record Attempt : Type 0 where
  -- whether clap took the words
  pub taken : Bool
  -- which subcommand they name
  pub subcommand : Subcommand
  -- what was read
  pub reading : Reading
  -- the bytes of `out` before
  pub out_before : Option (List ℕ)
  -- and after
  pub out_after : Option (List ℕ)
  -- whether a write to it failed
  pub out_failed : Bool

-- nothing was written to `out`
abbrev pub OutKept : Attempt → Type 0
OutKept a = Keeps a.out_before a.out_after × (a.out_failed ≡ false)

-- clap takes the words, and the subcommand was given its input
abbrev pub IsGiven : Attempt → (bytes : List ℕ) → Type 0
IsGiven a bytes = (a.taken ≡ true) × IsInput (reads_input a.subcommand) a.reading bytes

-- what was written to `out` is what the subcommand gives for its input
abbrev pub IsPlayed : Attempt → (status : ℕ) → Type 0
IsPlayed a status = (bytes text : List ℕ) × IsGiven a bytes × Does a.subcommand bytes text status × Appends a.out_before a.out_after text × (a.out_failed ≡ false)

-- the subcommand was given its input, and a write to `out` failed
abbrev pub IsUnsaid : Attempt → Type 0
IsUnsaid a = (bytes : List ℕ) × IsGiven a bytes × (a.out_failed ≡ true)

-- clap refuses the words, and nothing was read
abbrev pub IsRefused : Attempt → Type 0
IsRefused a = (a.taken ≡ false) × (a.reading.reads ≡ 0)

-- clap takes the words, the subcommand reads an input, and that can't be read whole
abbrev pub IsUnread : Attempt → Type 0
IsUnread a = (a.taken ≡ true) × (reads_input a.subcommand ≡ true) × IsReadFault a.reading

-- memory may run out here: the input can still be read whole, and nothing was read for words that clap refuses or that name no input
abbrev pub MayStop : Attempt → Type 0
MayStop a = IsPart a.reading × (a.taken ≡ false → a.reading.reads ≡ 0) × (reads_input a.subcommand ≡ false → a.reading.reads ≡ 0)

-- how an attempt ends, fault by fault
abbrev pub Ended : Result ℕ Fault → Attempt → Type 0
Ended (Ok status) a = IsPlayed a status
Ended (Err (Words text)) a = IsRefused a × OutKept a
Ended (Err Read) a = IsUnread a × OutKept a
Ended (Err Memory) a = MayStop a × OutKept a
Ended (Err Write) a = IsUnsaid a

-- a whole run of the program: an attempt, the bytes of `err` before and after, whether a write to it failed, and the exit status
pub record Run : Type 0 where
  pub attempt : Attempt
  pub err_before : Option (List ℕ)
  pub err_after : Option (List ℕ)
  pub err_failed : Bool
  pub status : ℕ

-- nothing was written to `err`
abbrev pub ErrKept : Run → Type 0
ErrKept r = Keeps r.err_before r.err_after × (r.err_failed ≡ false)

-- how a run goes
pub data Goes (r : Run) : Type 0 where
  -- clap takes the words, the subcommand is given its input, and what is written is what it gives for that
  played : IsPlayed r.attempt r.status → ErrKept r → Goes r
  -- clap refuses the words, nothing is read, and its text stands on `err`
  refused : (text : List ℕ) → IsRefused r.attempt → OutKept r.attempt → Appends r.err_before r.err_after text → r.err_failed ≡ false → r.status ≡ 2 → Goes r
  -- the input can't be read whole
  unread : IsUnread r.attempt → OutKept r.attempt → Appends r.err_before r.err_after (codes "read fault\n") → r.err_failed ≡ false → r.status ≡ 1 → Goes r
  -- memory runs out before the subcommand's run
  stopped : MayStop r.attempt → Appends r.attempt.out_before r.attempt.out_after (codes "memory\n") → r.attempt.out_failed ≡ false → ErrKept r → r.status ≡ 1 → Goes r
  -- clap takes the words, the subcommand is given its input, a write to `out` fails, and nothing is written to `err`
  played_unsaid : IsUnsaid r.attempt → ErrKept r → r.status ≡ 1 → Goes r
  -- memory runs out before the subcommand's run, the write of that to `out` fails, and nothing is written to `err`
  stopped_unsaid : MayStop r.attempt → r.attempt.out_failed ≡ true → ErrKept r → r.status ≡ 1 → Goes r
  -- clap refuses the words, nothing is read, the write of its text to `err` fails, and nothing is written to `out`
  refused_unsaid : IsRefused r.attempt → r.err_failed ≡ true → OutKept r.attempt → r.status ≡ 1 → Goes r
  -- the input can't be read whole, the write of that to `err` fails, and nothing is written to `out`
  unread_unsaid : IsUnread r.attempt → r.err_failed ≡ true → OutKept r.attempt → r.status ≡ 1 → Goes r
