-- Spaces that are asked the entries of a journal again, and what is kept of them. The newest entry stands FIRST.
use Rattle.std.specs.Prelude.{◌≡◌, ◌≤◌, ◌-◌, ◌++◌, ◌⊎◌, ⊤, ℕ, Bool, true, false, List, [], ◌∷◌, length, map, reverse, slice_get, Option, Some, None, Result, Ok, Err}
use Rattle.nob_ids.specs.declared.limits.Limits.{Limits}
use Rattle.nob_frame.specs.declared.frame.Frame.{Frame}
use Rattle.nob_model_types.specs.declared.entry.Entry.{Entry}
use Rattle.nob_model_journal.specs.Journals.{at}
use Rattle.nob_model_journal.specs.Runs.{WorldRun}
use Rattle.nob_model_invariant.specs.Typed.{IsOfTypes, AreOfTypes}
use Rattle.nob_model_types.specs.declared.event.Event.TheVariants as events
use Rattle.nob_recall.specs.Next.{CanPass, IsArrivalFault, IsNextFault}
use Rattle.nob_recall.specs.Remembering.{ArrivesRemembered}
use Rattle.nob_recall.specs.declared.fault.WatchError.{WatchError}
use Rattle.nob_recall.specs.declared.fault.WatchError.TheVariants.{Fault, OutOfMemory}
use Rattle.nob_recall.specs.declared.fault.WatchFault.{WatchFault}
use Rattle.nob_recall.specs.declared.fault.WatchFault.TheVariants as faults
use Rattle.nob_space.specs.Spaces.{Owner}
use Rattle.nob_watch.specs.Sealing.{is_whole_seal}
use Rattle.nob_watch.specs.Members.{AreLimits, AreMembers, ArePlaces}
use Rattle.nob_recall.specs.declared.dated.Dated.{Dated}
use Rattle.nob_recall.specs.declared.dated.SegmentSeal.{SegmentSeal}
use Rattle.nob_recall.specs.Recalls.{Recalled, Recalls}

-- what was passed, as a journal
abbrev pub journal_of : List Dated → List Entry
journal_of passed = map (λ dated. dated.entry) (reverse passed)

-- whether the seal behind an entry, where there is one, is that of its space among n behind a journal that ends with the entry
abbrev pub is_sealed : ℕ → (stamp space : ℕ) → List Entry → Option SegmentSeal → Bool
is_sealed n stamp space J None = true
is_sealed n stamp space J (Some own) = is_whole_seal space n stamp (at space J) own.seal

-- each seal that stands behind these entries is right; the newest stands FIRST
abbrev pub AreSealed : ℕ → List Dated → Type 0
AreSealed n [] = ⊤
AreSealed n (dated ∷ earlier) = (is_sealed n dated.stamp dated.entry.space (map (λ d. d.entry) (dated ∷ earlier)) dated.seal ≡ true) × AreSealed n earlier

-- all that is kept stands for a journal
pub record IsLive (n : ℕ) (list : List Limits) (J : List Entry) (spaces : List Owner) (places : List ℕ) (recall : Recalled) : Type 0 where
  pub members : AreMembers n list J spaces
  pub next : ArePlaces n J places
  pub recalls : Recalls J recall

-- a run of a world of n spaces that is followed: the limits of each, how many frames are noted between two turns, what was passed, the first first, and what is wrong, if something is
pub record Following : Type 0 where
  pub n : ℕ
  pub limits : List Limits
  pub span : ℕ
  pub passed : List Dated
  pub fault : Option WatchFault

-- a journal is a run of a world of n spaces, each with its limits, and what was handed on is of its types
pub record IsRun (n : ℕ) (list : List Limits) (J : List Entry) : Type 0 where
  pub run : (limits : ℕ → Limits) → AreLimits n limits list → WorldRun n limits J
  pub typed : AreOfTypes J

-- an entry can be passed, by the limits of its space, and the seal behind it is right
pub record CanPassBy (n : ℕ) (list : List Limits) (span : ℕ) (dated : Dated) (J : List Entry) : Type 0 where
  pub can : (its : Limits) → slice_get list (dated.entry.space - 1) ≡ Some its → CanPass n its span dated.entry J
  pub sealed : is_sealed n dated.stamp dated.entry.space (dated.entry ∷ J) dated.seal ≡ true

-- this is wrong with the seal behind an entry, in a journal that ends with it: nothing where it is right, or there is none
abbrev pub IsSealFault : ℕ → Dated → List Entry → Option WatchFault → Type 0
IsSealFault n dated J None = is_sealed n dated.stamp dated.entry.space J dated.seal ≡ true
IsSealFault n dated J (Some fault) = (own : SegmentSeal) × (dated.seal ≡ Some own) × (is_sealed n dated.stamp dated.entry.space J (Some own) ≡ false) × (fault ≡ faults.Seal dated.entry.space own.number)

-- this is wrong with an entry, by the limits of its space; or it can be passed, and its seal is wrong
abbrev pub IsFaultBy : ℕ → List Limits → ℕ → Dated → List Entry → WatchFault → Type 0
IsFaultBy n list span dated J fault = (its : Limits) → slice_get list (dated.entry.space - 1) ≡ Some its → IsNextFault n its span dated.entry J fault ⊎ (CanPass n its span dated.entry J × IsSealFault n dated (dated.entry ∷ J) (Some fault))

-- an entry can be passed next
abbrev pub CanPassIn : Following → Dated → Type 0
CanPassIn following dated = CanPassBy following.n following.limits following.span dated (journal_of following.passed)

-- this is wrong with the next entry
abbrev pub IsFaultIn : Following → Dated → WatchFault → Type 0
IsFaultIn following dated fault = IsFaultBy following.n following.limits following.span dated (journal_of following.passed) fault

-- nothing was passed yet
abbrev pub begun : ℕ → List Limits → Following
begun span list = record { n = length list; limits = list; span = span; passed = []; fault = None }

-- one entry more
abbrev pub with_dated : Dated → Following → Following
with_dated dated following = record { n = following.n; limits = following.limits; span = following.span; passed = following.passed ++ dated ∷ []; fault = following.fault }

-- it stops for a fault
abbrev pub with_fault : WatchFault → Following → Following
with_fault fault following = record { n = following.n; limits = following.limits; span = following.span; passed = following.passed; fault = Some fault }

-- what comes of the next entry where nothing is wrong yet: it can be passed, and is; or what is wrong with it stops all that follows; or memory is wanted, and nothing has changed
abbrev pub HasPassed : (old new : Following) → Dated → Result Unit WatchError → Type 0
HasPassed old new dated (Ok _) = CanPassIn old dated × (new ≡ with_dated dated old)
HasPassed old new dated (Err (Fault fault)) = IsFaultIn old dated fault × (new ≡ with_fault fault old)
HasPassed old new dated (Err OutOfMemory) = new ≡ old

-- what comes of the next entry where this was found before: the fault is said again
abbrev pub PassesAfter : Option WatchFault → (old new : Following) → Dated → Result Unit WatchError → Type 0
PassesAfter None old new dated result = HasPassed old new dated result
PassesAfter (Some fault) old new dated result = (result ≡ Err (Fault fault)) × (new ≡ old)

-- what is said of a fault that was found before
abbrev pub stop_of : Option WatchFault → Result Unit WatchError
stop_of None = Ok tt
stop_of (Some fault) = Err (Fault fault)

-- what comes of the next entry
abbrev pub Passes : (old new : Following) → Dated → Result Unit WatchError → Type 0
Passes old new dated result = PassesAfter old.fault old new dated result

-- this is wrong with the arrival by an entry, at this place of its space: nothing where no frame arrives, or it is remembered
abbrev pub IsOriginFault : ℕ → Entry → List Entry → ℕ → Option WatchFault → Type 0
IsOriginFault span entry J place None = ArrivesRemembered span entry.event J
IsOriginFault span entry J place (Some fault) = (frame : Frame) × (entry.event ≡ events.Arrive frame) × IsArrivalFault span frame J entry.space place (Some fault)

-- what is found of the next entry, once its space was asked: nothing is wrong with it, and the spaces stand for it too; or this is wrong
abbrev pub IsFound : (n : ℕ) → List Limits → List Entry → List Owner → Recalled → Dated → Option WatchFault → Type 0
IsFound n list J spaces recall dated None = AreMembers n list (dated.entry ∷ J) spaces × IsOfTypes dated.entry × CanPassBy n list recall.span dated J
IsFound n list J spaces recall dated (Some fault) = IsFaultBy n list recall.span dated J fault

-- the same, or memory was wanted, and the spaces stand for what they did
abbrev pub IsJudged : {E : Type 0} → (n : ℕ) → List Limits → List Entry → List Owner → Recalled → Dated → Result (Option WatchFault) E → Type 0
IsJudged n list J spaces recall dated (Ok found) = IsFound n list J spaces recall dated found
IsJudged n list J spaces recall dated (Err error) = AreMembers n list J spaces

-- what is kept stands for a journal, where nothing is wrong
abbrev pub IsSound : Option WatchFault → (n : ℕ) → List Limits → List Entry → List Owner → List ℕ → Recalled → Type 0
IsSound None n list J spaces places recall = IsLive n list J spaces places recall
IsSound (Some fault) n list J spaces places recall = Unit {0}

-- what the type of runs that are followed keeps: there are 1 to 32 spaces, what was passed is a run of a world, and each seal in it is right
pub record IsRerun (following : Following) (spaces : List Owner) (places : List ℕ) (recall : Recalled) : Type 0 where
  pub some : 1 ≤ following.n
  pub few : following.n ≤ 32
  pub each : length following.limits ≡ following.n
  pub run : IsRun following.n following.limits (journal_of following.passed)
  pub sealed : AreSealed following.n (reverse following.passed)
  pub sound : IsSound following.fault following.n following.limits (journal_of following.passed) spaces places recall

-- what the next entry made of what is kept: it was passed, and all that is kept stands for it too; or this is wrong with it; or memory was wanted, and all stands for what it stood for
abbrev pub HasTaken : (n : ℕ) → List Limits → List Entry → ℕ → Dated → List Owner → List ℕ → Recalled → Result Unit WatchError → Type 0
HasTaken n list J span dated spaces places recall (Ok done) = IsLive n list (dated.entry ∷ J) spaces places recall × IsRun n list (dated.entry ∷ J) × CanPassBy n list span dated J
HasTaken n list J span dated spaces places recall (Err (Fault fault)) = IsFaultBy n list span dated J fault
HasTaken n list J span dated spaces places recall (Err OutOfMemory) = IsLive n list J spaces places recall
