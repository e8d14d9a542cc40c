-- What a space was asked, and what it answered in numbers. The newest entry of a space stands FIRST.
use Rattle.std.specs.Prelude.{◌≡◌, ◌⊎◌, ◌≤◌, ℕ, Bool, true, false, List, [], ◌∷◌, Option, Some, None, Result, Ok, Err, IsOk}
use Rattle.std.specs.List.{flat_map}
use Rattle.nob_ids.specs.Names.{IsSpace}
use Rattle.nob_pickle.specs.declared.fault.PickleFault.{PickleFault}
use Rattle.nob_pickle.specs.declared.value.Value.{Value}
use Rattle.nob_ids.specs.declared.wire_rep.WireRep.{WireRep}
use Rattle.nob_frame.specs.declared.frame.Frame.{Frame}
use Rattle.nob_frame.specs.declared.fault.FrameFault.{FrameFault}
use Rattle.nob_frame.specs.declared.version.Version.TheVariants.{Two}
use Rattle.nob_frame.specs.Spelling.{spelling}
use Rattle.nob_host_space.specs.Feeds.{fresh_feeds}
use Rattle.nob_model_types.specs.declared.answer.Answer.{Answer}
use Rattle.nob_model_types.specs.declared.answer.Answer.TheVariants as answers
use Rattle.nob_model_types.specs.declared.entry.Entry.{Entry}
use Rattle.nob_model_types.specs.declared.event.Event.{Event}
use Rattle.nob_model_types.specs.declared.event.Event.TheVariants as events
use Rattle.nob_model_types.specs.declared.refusal.Refusal.{Refusal}
use Rattle.nob_model_history.specs.Histories.{history}
use Rattle.nob_model.specs.Right.{right}
use Rattle.nob_space.specs.Spaces.{Owner, StandsFor, SameSpace, entry_of, wants_memory}
use Rattle.nob_space.specs.Steps.{front_for}
use Rattle.nob_space_items.specs.Acts.{FrontWants}
use Rattle.nob_host_space.specs.declared.host.Host.{Host}
use Rattle.nob_host_space.specs.declared.told.Told.{Told}
use Rattle.nob_host_space.specs.Numbers.{is_wanted, nothing, status_of, told_of, pickle_fault_number, frame_fault_number}

-- what is right for a space that did what these entries say
abbrev pub right_of : Owner → List Entry → Event → Result Answer Refusal
right_of space L event = right space.id space.n space.limits L event

-- status and told are those of the right result; or memory was wanted, where nothing else refuses the event or for the item at the front
abbrev pub Tells : (wanted : Bool) → Option (ℕ × List ℕ) → Told → ℕ → Result Answer Refusal → Type 0
Tells false front told status result = (status ≡ status_of result) × (told ≡ told_of result)
Tells true front told status result = (told ≡ nothing) × (IsOk result ⊎ FrontWants front)

-- a list with the entry of an event and its right result: a want of memory makes none
abbrev pub entries_after : (wanted : Bool) → Owner → Event → List Entry → List Entry
entries_after false space event L = entry_of space.id event (right_of space L event) ∷ L
entries_after true space event L = L

-- a space was asked this, and answered the right result in numbers
pub record Asked (old : Owner) (event : Event) (new : Owner) (told : Told) (status : ℕ) : Type 0 where
  pub answer : (L : List Entry) → StandsFor old L → Tells (is_wanted status) (front_for event (history old.id old.n L)) told status (right_of old L event)
  pub stands : (L : List Entry) → StandsFor old L → StandsFor new (entries_after (is_wanted status) old event L)
  -- the status says that memory was wanted only of an event that may want it
  pub memory : wants_memory event ≡ false → is_wanted status ≡ false
  pub same : SameSpace old new

-- the value of a reply or a job is kept in place of the one before
abbrev pub value_with : Answer → Option Value → Option Value
value_with (answers.Replied status value) before = Some value
value_with (answers.Job job) before = Some job.value
value_with _ before = before

-- the value that is kept after a result
abbrev pub value_after : (wanted : Bool) → Result Answer Refusal → Option Value → Option Value
value_after false (Ok answer) before = value_with answer before
value_after false (Err refusal) before = before
value_after true result before = before

-- a host that was asked this keeps the value of the reply or the job that came, and else what it kept
abbrev pub KeepsValue : Host → Event → Host → ℕ → Type 0
KeepsValue old event new status = (L : List Entry) → StandsFor old.space L → new.value ≡ value_after (is_wanted status) (right_of old.space L event) old.value

-- new keeps the frames and the streams that old kept
pub record SameStreams (old new : Host) : Type 0 where
  pub waiting : new.waiting ≡ old.waiting
  pub feeds : new.feeds ≡ old.feeds

-- new keeps the answer, the frames and the streams that old kept
pub record SameRest (old new : Host) : Type 0 where
  pub answer : new.answer ≡ old.answer
  pub streams : SameStreams old new

-- a host that was asked this did what its space does, and keeps the rest
pub record HostAsked (old : Host) (event : Event) (new : Host) (told : Told) (status : ℕ) : Type 0 where
  pub asked : Asked old.space event new.space told status
  pub value : KeepsValue old event new status
  pub streams : SameStreams old new

-- nothing has changed and nothing is told, for this status
abbrev pub Unasked : Host → Host → Told → ℕ → (why : ℕ) → Type 0
Unasked old new told status why = (status ≡ why) × (told ≡ nothing) × (new ≡ old)

-- a handle that keeps nothing says so, and nothing is told
abbrev pub SaysEmpty : (old new : Option Host) → Told → ℕ → Type 0
SaysEmpty old new told status = old ≡ None → (new ≡ None) × (told ≡ nothing) × (status ≡ 65)

-- a host was asked what a pickle spells, or is as it was for its first fault; or memory was wanted to read it
abbrev pub AskedBy : Result Value PickleFault → (Value → Event) → Host → Host → Told → ℕ → Type 0
AskedBy (Ok value) event old new told status = HostAsked old (event value) new told status ⊎ Unasked old new told status 14
AskedBy (Err fault) event old new told status = Unasked old new told status (pickle_fault_number fault) ⊎ Unasked old new told status 14

-- a frame came to a host's space, which keeps the rest
pub record CameTo (old : Host) (frame : Frame) (new : Host) (told : Told) (status : ℕ) : Type 0 where
  pub asked : Asked old.space (events.Arrive frame) new.space told status
  pub value : new.value ≡ old.value
  pub rest : SameRest old new

-- the frame that bytes spell came to a host, or it is as it was for its first fault; or memory was wanted to read it
abbrev pub CameBy : Result Frame FrameFault → Host → Host → Told → ℕ → Type 0
CameBy (Ok frame) old new told status = CameTo old frame new told status ⊎ Unasked old new told status 14
CameBy (Err fault) old new told status = Unasked old new told status (frame_fault_number fault)

-- an owner and an index as a reference
abbrev pub reference : (owner index : ℕ) → WireRep
reference owner index = record { owner = owner; index = index }

-- the bytes of the frames that a Transmit gives, or what was there
abbrev pub bytes_given : Result Answer Refusal → List ℕ → List ℕ
bytes_given (Ok (answers.Frames frames)) before = flat_map (spelling Two) frames
bytes_given _ before = before

-- the answer after a Transmit with this result
abbrev pub answer_after : (wanted : Bool) → Result Answer Refusal → List ℕ → List ℕ
answer_after false result before = bytes_given result before
answer_after true result before = before

-- numbers that a space can be made of
pub record AreNumbers (id n window retry : ℕ) : Type 0 where
  pub space : IsSpace id
  pub most : n ≤ 32
  pub low_window : 1 ≤ window
  pub high_window : window ≤ 64
  pub low_retry : 1 ≤ retry
  pub high_retry : retry ≤ 255

-- a host of a space with these numbers, and nothing is kept beside it
pub record IsFresh (host : Host) (number spaces most_given most_ticks : ℕ) : Type 0 where
  pub id : host.space.id ≡ number
  pub n : host.space.n ≡ spaces
  pub window : host.space.limits.window ≡ most_given
  pub retry : host.space.limits.retry ≡ most_ticks
  pub value : host.value ≡ None
  pub answer : host.answer ≡ []
  pub waiting : host.waiting ≡ []
  pub feeds : host.feeds ≡ fresh_feeds

-- such a host of a space that has done nothing
pub record IsNew (host : Host) (number spaces most_given most_ticks : ℕ) : Type 0 where
  pub fresh : IsFresh host number spaces most_given most_ticks
  pub stands : StandsFor host.space []

-- the status of a pickle that was asked for: 0, or the number of its fault
abbrev pub pickle_status : Result (List ℕ) PickleFault → ℕ
pickle_status (Ok bytes) = 0
pickle_status (Err fault) = pickle_fault_number fault

-- its bytes, or what was there
abbrev pub pickle_bytes : Result (List ℕ) PickleFault → List ℕ → List ℕ
pickle_bytes (Ok bytes) before = bytes
pickle_bytes (Err fault) before = before

-- an answer was made of a pickle, or memory was wanted for one that there is
abbrev pub Pickles : (wanted : Bool) → (status : ℕ) → (old new : List ℕ) → Result (List ℕ) PickleFault → Type 0
Pickles false status old new pickle = (status ≡ pickle_status pickle) × (new ≡ pickle_bytes pickle old)
Pickles true status old new pickle = (new ≡ old) × IsOk pickle
