-- What the closing of a session makes of the state.
use Rattle.std.specs.Prelude.{◌≡◌, ℕ, ◌<◌, true, not, ◌&&◌, ◌==◌, List, ◌∷◌, ◌++◌, Option, Some, None, if◌then◌else◌}
use Rattle.nob_ids.specs.declared.limits.Limits.{Limits}
use Rattle.nob_ids.specs.declared.reason.Reason.{Reason}
use Rattle.nob_ids.specs.declared.wire_rep.WireRep.{WireRep}
use Rattle.nob_dirty.specs.declared.sets.Listing.{Listing}
use Rattle.nob_dirty.specs.Sets.{LeavesAll}
use Rattle.nob_pins.specs.Bundles.{TakesOutAll, Pinned}
use Rattle.nob_table_rows.specs.Standings.{after_close}
use Rattle.nob_table.specs.Table.{Table, standing, place_of, is_of}
use Rattle.nob_frame.specs.declared.frame.Frame.{Frame}
use Rattle.nob_model_session.specs.declared.entry.Arrived.{Arrived}
use Rattle.nob_model_session.specs.declared.entry.Arrived.TheVariants as arrived
use Rattle.nob_model_types.specs.declared.answer.Answer.{Answer}
use Rattle.nob_model_types.specs.declared.answer.Answer.TheVariants as answers
use Rattle.nob_model_types.specs.declared.deed.Cause.{Cause}
use Rattle.nob_model_types.specs.declared.deed.Cause.TheVariants as causes
use Rattle.nob_model_types.specs.declared.deed.Deed.{Deed}
use Rattle.nob_model_types.specs.declared.deed.Deed.TheVariants as did
use Rattle.nob_model_types.specs.declared.deed.Deed.TheVariants.{Closing}
use Rattle.nob_model_types.specs.Sessions.{is_peer, closed}
use Rattle.nob_model_work.specs.declared.work.Outstanding.{Outstanding}
use Rattle.nob_model_work.specs.Work as work
use Rattle.nob_model.specs.Lists.{IsRightDeed}
use Rattle.nob_space_messages.specs.Waiting.{is_awaited}
use Rattle.nob_space_state.specs.Looks.{HaveUsers}
use Rattle.nob_space_state.specs.declared.parts.Parts.{Parts}
use Rattle.nob_space_state.specs.Parts.{State}
use Rattle.nob_space_state.specs.Returns.{GivesBack, lent_from}
use Rattle.nob_space_state.specs.Stands.{StandFor}

-- what the messages from p that wait and the ready jobs from p have lent
abbrev pub lent_in_vain : (s p : ℕ) → Outstanding → List WireRep
lent_in_vain s p W = lent_from s p W.waiting ++ lent_from s p W.ready

-- an owner's surrogates are lost: each of its references that is held is so, the others are forgotten, and none has a place any more
pub record LosesOwner (old new : Table) (owner : ℕ) : Type 0 where
  pub closed : (rep : WireRep) → standing new rep ≡ (if is_of old owner rep then after_close (standing old rep) else standing old rep)
  pub places : (rep : WireRep) → place_of new rep ≡ (if rep.owner == owner then None else place_of old rep)
  pub me : new.me ≡ old.me
  pub exported : new.exported ≡ old.exported
  pub dirties : new.dirties ≡ old.dirties

-- what becomes of the table of a space whose session with p closes
pub record TableLoses (s p : ℕ) (old : Table) (pinned : List Pinned) (listed : List Listing) (W : Outstanding) (new : Table) (pins : List Pinned) (left : List Listing) : Type 0 where
  -- what was lent in vain is given back
  pub back : Table
  pub gives : GivesBack old back (lent_in_vain s p W)
  -- the references to p's objects are lost
  pub loses : LosesOwner back new p
  -- what only p was listed for or was only in transit to p is let go
  pub kept : HaveUsers s back pinned listed → HaveUsers s new pins left

-- what the closing of the session with p leaves of the parts, the end itself aside
pub record ClosesDown (s p : ℕ) (old new : State) : Type 0 where
  pub sessions : new.sessions ≡ old.sessions
  pub table : TableLoses s p old.table old.pins.bundles old.dirty old.work new.table new.pins.bundles new.dirty
  pub listed : LeavesAll old.dirty new.dirty p
  pub pins : TakesOutAll old.pins.bundles new.pins.bundles p
  pub work : new.work ≡ work.after_close p old.work
  pub awaited : (rep : WireRep) → is_awaited new.awaited rep ≡ (not (rep.owner == p) && is_awaited old.awaited rep)
  pub calls : new.calls ≡ old.calls
  pub jobs : new.jobs ≡ old.jobs

-- new stands for every list that old stands for, with the closing of the session with p for a reason, by a cause, after the lists where that is right
abbrev pub Closes : (p : ℕ) → Reason → Cause → (old new : Parts) → Type 0
Closes p reason cause old new = (limits : Limits) (D : List Deed) → StandFor limits old D → IsRightDeed old.here.space old.here.n limits (Closing p reason cause) D → StandFor limits new (Closing p reason cause ∷ D)

-- the answer to a Tick, by the reason for which it closed the session, if it did
abbrev pub tick_answer : Option Reason → Answer
tick_answer None = answers.Done
tick_answer (Some reason) = answers.Closed reason

-- what a Tick did, by that reason
abbrev pub tick_deed : ℕ → Option Reason → Deed
tick_deed p None = did.Tick p
tick_deed p (Some reason) = Closing p reason causes.Ticks

-- the answer to an Arrive, by what the frame did
abbrev pub arrive_answer : Arrived → Answer
arrive_answer (arrived.Took count) = answers.Took count
arrive_answer (arrived.Closed ending) = answers.Closed ending.reason

-- what an Arrive did, by that
abbrev pub arrive_deed : Frame → Arrived → Deed
arrive_deed frame (arrived.Took count) = did.Arrive frame count
arrive_deed frame (arrived.Closed ending) = Closing frame.from ending.reason (causes.Frame frame)

-- the parts stand for a list in which each of their space's sessions has closed, with the peers below a number
abbrev pub IsShutBelow : ℕ → Parts → Type 0
IsShutBelow bound parts = (limits : Limits) × (D : List Deed) × StandFor limits parts D × ((p : ℕ) → is_peer parts.here.space parts.here.n p ≡ true → p < bound → closed p D ≡ true)
