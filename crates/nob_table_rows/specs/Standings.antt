-- How a reference stands: the words on a state, and what each change makes of a standing.
use Rattle.std.specs.Prelude.{ℕ, Bool, true, false, not, Option, Some, None, if◌then◌else◌}
use Rattle.nob_table_rows.specs.declared.counts.Counts.{Counts}
use Rattle.nob_table_rows.specs.declared.counts.Part.{Part}
use Rattle.nob_table_rows.specs.declared.standing.State.{State}
use Rattle.nob_table_rows.specs.declared.standing.State.TheVariants.{Unknown, Live, Withdrawn, Pending, Granted, Refused, Lost}
use Rattle.nob_table_rows.specs.declared.standing.Standing.{Standing}
use Rattle.nob_table_rows.specs.declared.standing.Grant.{Grant}
use Rattle.nob_table_rows.specs.declared.standing.Grant.TheVariants as grants
use Rattle.nob_table_rows.specs.declared.standing.Surrogate.{Surrogate}
use Rattle.nob_table_rows.specs.Counts.{no_counts, is_held, more, fewer}

-- the table has nothing of the reference
abbrev pub unknown : Standing
unknown = record { state = Unknown; counts = no_counts }

-- an object of this space that was withdrawn
abbrev pub withdrawn : Standing
withdrawn = record { state = Withdrawn; counts = no_counts }

-- an object of this space that was just exported: once in the hand
abbrev pub exported_standing : Standing
exported_standing = record { state = Live; counts = record { hand = 1; lent = 0 } }

-- a surrogate whose Dirty was just sent
abbrev pub pending_standing : Standing
pending_standing = record { state = Pending; counts = no_counts }

-- whether the reference has counts that a hold can change
abbrev pub is_known : State → Bool
is_known Unknown = false
is_known Withdrawn = false
is_known _ = true

-- whether the table has nothing of the reference
abbrev pub is_unknown : State → Bool
is_unknown Unknown = true
is_unknown _ = false

-- whether it is a live object of this space
abbrev pub is_live : State → Bool
is_live Live = true
is_live _ = false

-- whether it is a surrogate whose Dirty waits for its answer
abbrev pub is_pending : State → Bool
is_pending Pending = true
is_pending _ = false

-- whether it is a surrogate that its owner has granted
abbrev pub is_granted : State → Bool
is_granted Granted = true
is_granted _ = false

-- whether the session with its owner has closed
abbrev pub is_lost : State → Bool
is_lost Lost = true
is_lost _ = false

-- whether it is a surrogate on an open session
abbrev pub is_surrogate : State → Bool
is_surrogate Pending = true
is_surrogate Granted = true
is_surrogate Refused = true
is_surrogate _ = false

-- granted and without holds
abbrev pub is_idle : Standing → Bool
is_idle standing = if is_granted standing.state then not (is_held standing.counts) else false

-- live and without holds
abbrev pub is_unheld : Standing → Bool
is_unheld standing = if is_live standing.state then not (is_held standing.counts) else false

-- the state of a surrogate, by its owner's answer
abbrev pub state_of : Grant → State
state_of grants.Pending = Pending
state_of grants.Granted = Granted
state_of grants.Refused = Refused

-- how a reference to an object of this space stands: by whether its index was ever given, and its counts while it is live
abbrev pub own_standing : Bool → Option Counts → Standing
own_standing given (Some counts) = record { state = Live; counts = counts }
own_standing true None = record { state = Withdrawn; counts = no_counts }
own_standing false None = unknown

-- the surrogate of a Dirty that was just sent, at this place
abbrev pub waiting_surrogate : ℕ → Surrogate
waiting_surrogate place = record { grant = grants.Pending; place = place }

-- the surrogate with its owner's answer
abbrev pub with_grant : Grant → Surrogate → Surrogate
with_grant grant surrogate = record { grant = grant; place = surrogate.place }

-- how a reference to another space's object stands: by its surrogate on an open session, and its counts
abbrev pub far_standing : Option Surrogate → Option Counts → Standing
far_standing surrogate None = unknown
far_standing None (Some counts) = record { state = Lost; counts = counts }
far_standing (Some surrogate) (Some counts) = record { state = state_of surrogate.grant; counts = counts }

-- the standing with other counts
abbrev pub with_counts : Counts → Standing → Standing
with_counts counts standing = record { state = standing.state; counts = counts }

-- the standing in another state
abbrev pub in_state : State → Standing → Standing
in_state state standing = record { state = state; counts = standing.counts }

-- a lost reference is forgotten with its last hold
abbrev pub unless_lost : Standing → Standing
unless_lost standing = if is_lost standing.state then (if is_held standing.counts then standing else unknown) else standing

-- after one hold more
abbrev pub after_hold : Part → Standing → Standing
after_hold part standing = with_counts (more part standing.counts) standing

-- after one hold less
abbrev pub after_release : Part → Standing → Standing
after_release part standing = unless_lost (with_counts (fewer part standing.counts) standing)

-- after the session with the owner has closed: lost where it is held, else forgotten
abbrev pub after_close : Standing → Standing
after_close standing = if is_held standing.counts then in_state Lost standing else unknown
