-- What is written of a scene, and how it ends.
use Rattle.std.specs.Prelude.{◌≡◌, ◌≢◌, ℕ, Bool, true, false, List, length, map, reverse, All, codes, Option, Some, None}
use Rattle.std.specs.List.{flat_map}
use Rattle.nob_model_types.specs.declared.entry.Entry.{Entry}
use Rattle.nob_model_invariant.specs.Safe.{IsSafe}
use Rattle.nob_chain.specs.declared.chain.ChainParts.{ChainParts}
use Rattle.nob_chain.specs.Chains.{chain_text}
use Rattle.nob_chain.specs.Writing.{IsWritable}
use Rattle.nob_model_chains.specs.declared.fault.SetFault.{SetFault}
use Rattle.nob_model_chains.specs.Faults.{IsFault, AreAccepted}
use Rattle.nob_keeper.specs.Keep.{Keep}
use Rattle.nob_keeper.specs.Keep.TheVariants as keeps
use Rattle.nob_keeper.specs.Summary.{Summary}
use Rattle.nob_keeper.specs.Segments.{spaces_to}
use Rattle.nob_demo_spaces.specs.Scenes.{Setting}
use Rattle.nob_demo_spaces.specs.Lines.{lines, unchecked_lines, last_line, stopped}
use Rattle.nob_demo_spaces.specs.Scores.{score_of}
use Rattle.nob_demo_spaces.specs.declared.score.Score.{Score}
use Rattle.nob_demo_spaces.specs.declared.ending.SceneEnding.{SceneEnding}
use Rattle.nob_demo_spaces.specs.declared.ending.Stop.{Stop}
use Rattle.nob_demo_spaces.specs.declared.ending.SceneEnding.TheVariants.{Accepted, Refused, Printed, Unchecked, OutOfMemory}

-- what is printed where chains are to be printed: they, one after the other; or R2 where a frame in one has no spelling, or one has a segment without a seal
pub data Prints (chains : List ChainParts) (text : List ℕ) (ending : SceneEnding) : Type 0 where
  printed : All IsWritable chains → text ≡ flat_map chain_text chains → ending ≡ Printed → Prints chains text ending
  unwritten : (All IsWritable chains → ⊥) → text ≡ codes "R2\n" → ending ≡ Refused → Prints chains text ending

-- what is said of accepted chains, of which these are the merged entries, with a score: yes where it is what the entries say that was answered, else no
pub data Counts (score : Score) (merged : List Entry) (text : List ℕ) (ending : SceneEnding) : Type 0 where
  right : score ≡ score_of (reverse merged) → text ≡ lines score true → ending ≡ Accepted → Counts score merged text ending
  wrong : score ≢ score_of (reverse merged) → text ≡ lines score false → ending ≡ Refused → Counts score merged text ending

-- what is said of chains, with a score: yes where together they are a run of a world, which is safe, and each seal is right, and the score is theirs; no where something is wrong with them, or it isn't
pub data Judges (score : Score) (chains : List ChainParts) (text : List ℕ) (ending : SceneEnding) : Type 0 where
  accepted : (merged : List Entry) → AreAccepted chains merged → IsSafe (length chains) (reverse merged) → Counts score merged text ending → Judges score chains text ending
  refused : (fault : SetFault) → IsFault chains fault → text ≡ lines score false → ending ≡ Refused → Judges score chains text ending

-- what is told of chains, with a score: they, where they are wanted, else what is said of them
abbrev pub TellsChains : (prints : Bool) → Score → List ChainParts → (text : List ℕ) → SceneEnding → Type 0
TellsChains true score chains text ending = Prints chains text ending
TellsChains false score chains text ending = Judges score chains text ending

-- what is told of summaries, with a score: that nothing was checked, and the summaries
abbrev pub Sums : Score → List Summary → (text : List ℕ) → SceneEnding → Type 0
Sums score summaries text ending = (text ≡ unchecked_lines score summaries) × (ending ≡ Unchecked)

-- what is written of a scene whose nodes have ended, with the score of its callers, the chains of its spaces and their summaries: by what the nodes kept, and whether chains are wanted
abbrev pub TellsBy : Keep → (prints : Bool) → Score → List ChainParts → List Summary → (text : List ℕ) → SceneEnding → Type 0
TellsBy keeps.All prints score chains summaries text ending = TellsChains prints score chains text ending
TellsBy keeps.Nothing prints score chains summaries text ending = Sums score summaries text ending

-- what is written of a scene whose nodes have ended: the summaries, where nothing was kept; else its chains, where it wants them, or the three lines
abbrev pub Tells : Setting → Score → List ChainParts → List Summary → (text : List ℕ) → SceneEnding → Type 0
Tells setting score chains summaries text ending = TellsBy setting.keep setting.traces score chains summaries text ending

-- what is written of a scene whose nodes have ended, and how it ends: what is told, or that memory ran out
pub data Ends (setting : Setting) (score : Score) (chains : List ChainParts) (summaries : List Summary) (text : List ℕ) (ending : SceneEnding) : Type 0 where
  told : Tells setting score chains summaries text ending → Ends setting score chains summaries text ending
  no_memory : text ≡ codes "memory\n" → ending ≡ OutOfMemory → Ends setting score chains summaries text ending

-- what is written of a scene, and how it ends: that a space stopped, where one did; else what is told of the score, the chains and the summaries
abbrev pub Says : Setting → Option Stop → Score → List ChainParts → List Summary → (text : List ℕ) → SceneEnding → Type 0
Says setting (Some stop) score chains summaries text ending = (text ≡ last_line (stopped stop)) × (ending ≡ stopped stop)
Says setting None score chains summaries text ending = Ends setting score chains summaries text ending

-- these are chains of so many spaces, one of each, in order
abbrev pub AreChainsOf : (spaces : ℕ) → List ChainParts → Type 0
AreChainsOf spaces chains = map (λ chain. chain.space) chains ≡ spaces_to spaces

-- these are summaries of so many spaces, one of each, in order
abbrev pub AreSummariesOf : (spaces : ℕ) → List Summary → Type 0
AreSummariesOf spaces summaries = map (λ summary. summary.space) summaries ≡ spaces_to spaces

-- each of so many spaces left a chain, where all was kept, or else a summary
abbrev pub AreOfEach : Keep → (spaces : ℕ) → List ChainParts → List Summary → Type 0
AreOfEach keeps.All spaces chains summaries = AreChainsOf spaces chains
AreOfEach keeps.Nothing spaces chains summaries = AreSummariesOf spaces summaries

-- where no space stopped, each of so many spaces left a chain or a summary
abbrev pub HaveLeft : Keep → (spaces : ℕ) → Option Stop → List ChainParts → List Summary → Type 0
HaveLeft keep spaces (Some stop) chains summaries = Unit {0}
HaveLeft keep spaces None chains summaries = AreOfEach keep spaces chains summaries

-- what is written of a scene, and how it ends, whatever its threads do: what is said of some stop, some score, some chains and some summaries, of which there is one for each space of the scene where none stopped
abbrev pub Plays : Setting → (text : List ℕ) → SceneEnding → Type 0
Plays setting text ending = (stop : Option Stop) × (score : Score) × (chains : List ChainParts) × (summaries : List Summary) × HaveLeft setting.keep setting.spaces stop chains summaries × Says setting stop score chains summaries text ending
