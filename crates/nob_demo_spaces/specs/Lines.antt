-- The lines that are written of a scene.
use Rattle.std.specs.Prelude.{ℕ, ℤ, List, [], ◌∷◌, ◌++◌, Bool, true, false, codes, Option, Some, None}
use Rattle.std.specs.Fmt.{decimal, signed_decimal}
use Rattle.nob_ids.specs.Reasons.{reason_number}
use Rattle.nob_ids.specs.declared.reason.Reason.{Reason}
use Rattle.nob_keeper.specs.PeerTally.{PeerTally}
use Rattle.nob_keeper.specs.Summary.{Summary}
use Rattle.nob_demo_spaces.specs.declared.score.Score.{Score}
use Rattle.nob_demo_spaces.specs.declared.ending.SceneEnding.{SceneEnding}
use Rattle.nob_demo_spaces.specs.declared.ending.SceneEnding.TheVariants.{Accepted, Refused, Printed, Unchecked, Full, OutOfMemory}
use Rattle.nob_demo_spaces.specs.declared.ending.Stop.{Stop}
use Rattle.nob_demo_spaces.specs.declared.ending.Stop.TheVariants as stops

-- the line that says how many calls were answered
abbrev pub calls_line : ℕ → List ℕ
calls_line answered = codes "calls " ++ (decimal answered ++ codes "\n")

-- the line that says the greatest total that was answered
abbrev pub total_line : ℤ → List ℕ
total_line greatest = codes "total " ++ (signed_decimal greatest ++ codes "\n")

-- the line that says whether the chains are together a run of a world
abbrev pub check_line : Bool → List ℕ
check_line true = codes "check yes\n"
check_line false = codes "check no\n"

-- the three lines of a scene whose chains were checked
abbrev pub lines : Score → Bool → List ℕ
lines score is_accepted = calls_line score.answered ++ (total_line score.greatest ++ check_line is_accepted)

-- how a session stands at its space: open, or closed for the reason of this number
abbrev pub end_text : Option Reason → List ℕ
end_text None = codes " open"
end_text (Some reason) = codes " closed " ++ decimal (reason_number reason)

-- the peer of a session, the session's number, how many items were handed to it and how many of its items were acted on
abbrev pub counts_text : PeerTally → List ℕ
counts_text session = codes " peer " ++ (decimal session.peer ++ (codes " session " ++ (decimal session.tally.session ++ (codes " sent " ++ (decimal session.tally.sent ++ (codes " acted " ++ decimal session.tally.acted))))))

-- sessions, each with its peer, what went each way and how it stands
abbrev pub sessions_text : List PeerTally → List ℕ
sessions_text [] = []
sessions_text (session ∷ sessions) = counts_text session ++ (end_text session.tally.closed ++ sessions_text sessions)

-- the space of a summary, how many entries it made, its last stamp, and how many of its objects are live
abbrev pub space_text : Summary → List ℕ
space_text summary = codes "summary " ++ (decimal summary.space ++ (codes " entries " ++ (decimal summary.entries ++ (codes " stamp " ++ (decimal summary.last_stamp ++ (codes " live " ++ decimal summary.live))))))

-- summaries, a line each
abbrev pub summaries_text : List Summary → List ℕ
summaries_text [] = []
summaries_text (summary ∷ summaries) = space_text summary ++ (sessions_text summary.peers ++ (codes "\n" ++ summaries_text summaries))

-- the lines of a scene whose nodes kept nothing: its three, of which the last says that nothing was checked, and then the summaries
abbrev pub unchecked_lines : Score → List Summary → List ℕ
unchecked_lines score summaries = calls_line score.answered ++ (total_line score.greatest ++ (codes "unchecked\n" ++ summaries_text summaries))

-- the last line of a scene, behind what was written before
abbrev pub last_line : SceneEnding → List ℕ
last_line Accepted = codes ""
last_line Refused = codes ""
last_line Printed = codes ""
last_line Unchecked = codes ""
last_line Full = codes "full\n"
last_line OutOfMemory = codes "memory\n"

-- how a scene ends that stops
abbrev pub stopped : Stop → SceneEnding
stopped stops.Full = Full
stopped stops.OutOfMemory = OutOfMemory

-- why a scene stops where one space stops for a reason, and one may have stopped before: a full trace goes before want of memory
abbrev pub graver : (reason : Stop) → (before : Option Stop) → Stop
graver reason (Some stops.Full) = stops.Full
graver reason (Some stops.OutOfMemory) = reason
graver reason None = reason
