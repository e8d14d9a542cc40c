-- What becomes of a piece of a stream and of the frames that wait, in numbers.
use Rattle.std.specs.Prelude.{◌≡◌, ◌⊎◌, ℕ, ◌==◌, ◌&&◌, Bool, true, false, List, [], ◌∷◌, length, Ok, Err, IsOk}
use Rattle.std.specs.List.{list_all}
use Rattle.nob_frame.specs.declared.frame.Frame.{Frame}
use Rattle.nob_frame.specs.declared.fault.FrameFault.{FrameFault}
use Rattle.nob_frame.specs.declared.version.Version.TheVariants.{Two}
use Rattle.nob_frame.specs.Spelling.{spelling}
use Rattle.nob_frame.specs.Streams.{Kept, Pushes}
use Rattle.nob_model_types.specs.declared.event.Event.TheVariants as events
use Rattle.nob_host_space.specs.declared.host.Host.{Host}
use Rattle.nob_host_space.specs.declared.told.Told.{Told}
use Rattle.nob_host_space.specs.Numbers.{is_wanted, nothing, numbered, frame_fault_number}
use Rattle.nob_host_space.specs.Asked.{Asked, Unasked}

-- whether a frame is from a peer to a space
abbrev pub is_between : (peer space : ℕ) → Frame → Bool
is_between peer space frame = frame.from == peer && frame.to == space

-- a piece with a frame that isn't from a peer to a space: the stream has taken it
abbrev pub HasOthers : (peer space : ℕ) → Kept → List ℕ → Kept → Type 0
HasOthers peer space old piece new = (frames : List Frame) × Pushes old piece (Ok frames) new × (list_all (is_between peer space) frames ≡ false)

-- a piece gave no frames: memory was wanted, and the stream is as it was; or it has the fault of this number; or a frame of others
abbrev pub PushFails : (peer space : ℕ) → Kept → List ℕ → Kept → ℕ → Type 0
PushFails peer space old piece new status =
    ((status ≡ 14) × IsOk old × (new ≡ old))
    ⊎ (((fault : FrameFault) × (status ≡ frame_fault_number fault) × Pushes old piece (Err fault) new)
    ⊎ ((status ≡ 64) × HasOthers peer space old piece new))

-- a piece was taken, and its frames, all from a peer to a space, wait now and are counted; or it gave none
abbrev pub Pushed : (peer space : ℕ) → (done : Bool) → Kept → List ℕ → List Frame → Kept → Told → ℕ → Type 0
Pushed peer space true old piece waiting new told status = Pushes old piece (Ok waiting) new × (list_all (is_between peer space) waiting ≡ true) × (told ≡ numbered 16 (length waiting))
Pushed peer space false old piece waiting new told status = (waiting ≡ []) × (told ≡ nothing) × PushFails peer space old piece new status

-- the frames that wait once the first was brought: all of them where memory was wanted
abbrev pub waiting_after : (wanted : Bool) → Frame → List Frame → List Frame
waiting_after false frame rest = rest
waiting_after true frame rest = frame ∷ rest

-- the answer then: the frame's bytes
abbrev pub bytes_after : (wanted : Bool) → Frame → List ℕ → List ℕ
bytes_after false frame before = spelling Two frame
bytes_after true frame before = before

-- a host whose first frame was brought to its space: it waits no more, and its bytes are the answer
pub record Brought (old : Host) (frame : Frame) (rest : List Frame) (new : Host) (told : Told) (status : ℕ) : Type 0 where
  pub asked : Asked old.space (events.Arrive frame) new.space told status
  pub waiting : new.waiting ≡ waiting_after (is_wanted status) frame rest
  pub answer : new.answer ≡ bytes_after (is_wanted status) frame old.answer
  pub value : new.value ≡ old.value
  pub feeds : new.feeds ≡ old.feeds

-- the first frame was brought, or memory was wanted
abbrev pub BroughtOrWants : (old : Host) → Frame → List Frame → (new : Host) → Told → ℕ → Type 0
BroughtOrWants old frame rest new told status = Brought old frame rest new told status ⊎ Unasked old new told status 14
