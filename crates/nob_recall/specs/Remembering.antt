-- Which transmitted frames are remembered: those that can still bring something, and of the others the last ones. The newest entry stands FIRST.
use Rattle.std.specs.Prelude.{ℕ, ◌-◌, ◌⊎◌, ⊤, Bool, not, nat_le, List, [], ◌∷◌, ◌++◌, length, filter, if◌then◌else◌}
use Rattle.std.specs.List.{Contains}
use Rattle.nob_frame.specs.declared.frame.Frame.{Frame}
use Rattle.nob_model_types.specs.Deeds.{deed_in}
use Rattle.nob_model_types.specs.declared.entry.Entry.{Entry}
use Rattle.nob_model_types.specs.declared.event.Event.{Event}
use Rattle.nob_model_types.specs.declared.event.Event.TheVariants as events
use Rattle.nob_model_journal.specs.Journals.{frames_of}
use Rattle.nob_recall.specs.declared.memory.Memory.{Memory}
use Rattle.nob_recall.specs.Hearing.{heard, is_past}

-- no frames
abbrev pub no_frames : Memory
no_frames = record { older = []; newer = []; kept = 0 }

-- with these frames more
abbrev pub noted : List Frame → Memory → Memory
noted frames memory = record { older = memory.older; newer = memory.newer ++ frames; kept = memory.kept }

-- whether so many frames were noted since the last turn that the next one is due
abbrev pub is_due : ℕ → Memory → Bool
is_due span memory = nat_le span (length memory.newer - memory.kept)

-- the older ones that aren't past
abbrev pub still_due : (Frame → Bool) → Memory → List Frame
still_due past memory = filter (λ frame. not (past frame)) memory.older

-- after a turn: the newer ones are the older ones now, and of those that were older the past ones are forgotten
abbrev pub turned : (Frame → Bool) → Memory → Memory
turned past memory = record { older = memory.newer; newer = still_due past memory; kept = length (still_due past memory) }

-- after a turn if it is due
abbrev pub turned_if_due : ℕ → (Frame → Bool) → Memory → Memory
turned_if_due span past memory = if is_due span memory then turned past memory else memory

-- whether a frame can bring nothing more to the space that it goes to
abbrev pub is_past_in : List Entry → Frame → Bool
is_past_in J frame = is_past frame (heard frame.from frame.to J)

-- the frames that are remembered of a journal, where a turn comes each time that so many were noted
abbrev pub memory : ℕ → List Entry → Memory
memory span [] = no_frames
memory span (entry ∷ J) = turned_if_due span (is_past_in (entry ∷ J)) (noted (frames_of (deed_in entry)) (memory span J))

-- a frame is one of those that are remembered
abbrev pub IsIn : Frame → Memory → Type 0
IsIn frame memory = Contains memory.older frame ⊎ Contains memory.newer frame

-- a frame that arrives is remembered
abbrev pub ArrivesRemembered : ℕ → Event → List Entry → Type 0
ArrivesRemembered span (events.Arrive frame) J = IsIn frame (memory span J)
ArrivesRemembered span (_) J = ⊤
