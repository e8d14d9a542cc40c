-- The laws of runs of a world.
use Rattle.std.specs.Prelude.{ℕ, List}
use Rattle.nob_ids.specs.declared.limits.Limits.{Limits}
use Rattle.nob_model_types.specs.declared.entry.Entry.{Entry}
use Rattle.nob_model_journal.specs.Runs.{WorldRun}
use Rattle.nob_model_journal.specs.Fronts.{Fronts}
use Rattle.nob_model_journal.specs.Safety.{SafeWithdraw}
use Rattle.nob_model_invariant.specs.Typed.{AreOfTypes}
use Rattle.nob_model_invariant.specs.SafetyInvariant.{Sessions, Clients, Owners, Names, Listings, Holdings, Readings, Settlements, Living}

-- every run of a world keeps what is said of its sessions
abbrev pub SessionsLaw : Type 0
SessionsLaw = (n : ℕ) (limits : ℕ → Limits) (J : List Entry) → WorldRun n limits J → AreOfTypes J → Sessions n J

-- every run of a world has its fronts
abbrev pub FrontsLaw : Type 0
FrontsLaw = (n : ℕ) (limits : ℕ → Limits) (J : List Entry) → WorldRun n limits J → AreOfTypes J → Fronts n J

-- in every run of a world clients took turns with owners
abbrev pub ClientsLaw : Type 0
ClientsLaw = (n : ℕ) (limits : ℕ → Limits) (J : List Entry) → WorldRun n limits J → Clients n J

-- in every run of a world owners answered clients in turn
abbrev pub OwnersLaw : Type 0
OwnersLaw = (n : ℕ) (limits : ℕ → Limits) (J : List Entry) → WorldRun n limits J → Owners n J

-- in every run of a world all that is named in what was sent was exported by its owner
abbrev pub NamesLaw : Type 0
NamesLaw = (n : ℕ) (limits : ℕ → Limits) (J : List Entry) → WorldRun n limits J → AreOfTypes J → Names n J

-- in every run of a world whoever is granted a reference is listed for it, unless the owner closed their session
abbrev pub ListingsLaw : Type 0
ListingsLaw = (n : ℕ) (limits : ℕ → Limits) (J : List Entry) → WorldRun n limits J → AreOfTypes J → Listings n J

-- in every run of a world what a space holds, and what has pins there, is own or granted
abbrev pub HoldingsLaw : Type 0
HoldingsLaw = (n : ℕ) (limits : ℕ → Limits) (J : List Entry) → WorldRun n limits J → Holdings n J

-- in every run of a world no object is withdrawn while a space needs it
abbrev pub SafeWithdrawLaw : Type 0
SafeWithdrawLaw = (n : ℕ) (limits : ℕ → Limits) (J : List Entry) → WorldRun n limits J → AreOfTypes J → SafeWithdraw n J

-- in every run of a world no session closes for a bad item
abbrev pub ReadingsLaw : Type 0
ReadingsLaw = (n : ℕ) (limits : ℕ → Limits) (J : List Entry) → WorldRun n limits J → AreOfTypes J → Readings n J

-- in every run of a world no item is settled twice, none that wasn't acted on, none that carries no counted reference, and none whose message waits
abbrev pub SettlementsLaw : Type 0
SettlementsLaw = (n : ℕ) (limits : ℕ → Limits) (J : List Entry) → WorldRun n limits J → Settlements n J

-- in every run of a world what an owner holds of its own, what has pins there and what anyone is listed for is live
abbrev pub LivingLaw : Type 0
LivingLaw = (n : ℕ) (limits : ℕ → Limits) (J : List Entry) → WorldRun n limits J → Living n J
