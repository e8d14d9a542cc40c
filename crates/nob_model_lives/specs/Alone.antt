-- Alone: bridges of which each entry is the space's own and did something that needs nobody else: no frame comes or goes,
-- nothing that came is acted on or settled, no job is claimed, and no reply is handed on.
use Rattle.std.specs.Prelude.{◌≡◌, ℕ, Bool, true, false, ◌&&◌, ◌==◌, List, ◌++◌, Some}
use Rattle.std.specs.List.{AllByRecursion}
use Rattle.nob_ids.specs.declared.limits.Limits.{Limits}
use Rattle.nob_pickle.specs.declared.value.Value.{Value}
use Rattle.nob_pickle.specs.declared.value.Value.TheVariants as values
use Rattle.nob_model_types.specs.declared.entry.Entry.{Entry}
use Rattle.nob_model_types.specs.declared.deed.Deed.{Deed}
use Rattle.nob_model_types.specs.declared.deed.Deed.TheVariants as did
use Rattle.nob_model_types.specs.declared.deed.Cause.{Cause}
use Rattle.nob_model_types.specs.declared.deed.Cause.TheVariants as causes
use Rattle.nob_model_types.specs.Deeds.{deed_in}
use Rattle.nob_model.specs.Lists.{AreRight}
use Rattle.nob_model_lives.specs.Births.{Birth, IsBorn}
use Rattle.nob_model_lives.specs.Bridges.{CanBeBorn}

-- whether a value is unit
abbrev pub is_unit : Value → Bool
is_unit values.Unit = true
is_unit _ = false

-- whether a session closed because it was asked to
abbrev pub is_asked : Cause → Bool
is_asked causes.Item = false
is_asked (causes.Frame frame) = false
is_asked causes.Ticks = false
is_asked causes.Asked = true

-- whether a deed needs nobody else; of calls only one of a peer's agent with unit, of jobs' ends only one whose reply is dropped
abbrev pub needs_nobody : Deed → Bool
needs_nobody (did.Export rep) = true
needs_nobody (did.Dup rep) = false
needs_nobody (did.Release rep) = true
needs_nobody (did.Call target method value call) = target.index == 0 && (method == 0 && is_unit value)
needs_nobody (did.TakeReply call status value) = true
needs_nobody (did.TakeEnd call) = true
needs_nobody (did.Claim job) = false
needs_nobody (did.Finish job outcome) = false
needs_nobody (did.DropReply job) = true
needs_nobody (did.Act peer item) = false
needs_nobody (did.Settle peer item) = false
needs_nobody (did.Clean rep) = false
needs_nobody (did.Withdraw index) = true
needs_nobody (did.Transmit peer frames) = false
needs_nobody (did.Arrive frame count) = false
needs_nobody (did.Tick peer) = false
needs_nobody (did.Closing peer reason cause) = is_asked cause
needs_nobody (did.Open peer number) = true

-- an entry that a bridge of space s may have: the space's own, and it did something that needs nobody else
pub record IsOfBridge (s : ℕ) (entry : Entry) : Type 0 where
  pub own : entry.space ≡ s
  pub deed : Deed
  pub did_it : deed_in entry ≡ Some deed
  pub alone : needs_nobody deed ≡ true

-- all entries of a bridge are such
abbrev pub AreOfBridge : ℕ → List Entry → Type 0
AreOfBridge s bridge = AllByRecursion (IsOfBridge s) bridge

-- behind every list of right entries there are such entries that bring the space to every birth to which it can be brought (the newest stands FIRST)
abbrev pub AloneLaw : Type 0
AloneLaw = (s n : ℕ) (limits : Limits) (birth : Birth) (L : List Entry) → AreRight s n limits L → CanBeBorn s n birth L → (bridge : List Entry) × AreOfBridge s bridge × IsBorn s n limits birth (bridge ++ L)
