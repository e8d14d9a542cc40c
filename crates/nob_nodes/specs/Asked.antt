-- What a node's receipts say after a player's calls. In lists of receipts the newest stands FIRST.
use Rattle.std.specs.Prelude.{◌≡◌, ℕ, List, [], Result}
use Rattle.nob_ids.specs.declared.wire_rep.WireRep.{WireRep}
use Rattle.nob_pickle.specs.declared.value.Value.{Value}
use Rattle.nob_pickle.specs.declared.value.Value.TheVariants as values
use Rattle.nob_model_types.specs.declared.event.Event.{Event}
use Rattle.nob_model_types.specs.declared.answer.Answer.{Answer}
use Rattle.nob_model_types.specs.declared.refusal.Refusal.{Refusal}
use Rattle.nob_nodes.specs.Receipt.{Receipt}
use Rattle.nob_nodes.specs.Calls as calls
use Rattle.nob_nodes.specs.NodeError.{NodeError}
use Rattle.nob_nodes.specs.Holds.{IsOneHold}
use Rattle.nob_nodes.specs.Hold.{Hold}
use Rattle.nob_nodes.specs.Returned.{Returned}
use Rattle.nob_nodes.specs.Returned.TheVariants as returns

-- what was returned is an answer with this value, and no hold
abbrev pub IsValue : Returned → Value → Type 0
IsValue (returns.Replied status given holds) value = (status ≡ 0) × (given ≡ value) × (holds.items ≡ [])
IsValue returns.Ended value = ⊥

-- a call was made of this method of this object with this value, and its reply was taken: an answer with that value
abbrev pub IsAnswered : List Receipt → List Receipt → WireRep → (method : ℕ) → Value → Value → Type 0
IsAnswered old new target method value answer = (returned : Returned) × calls.IsCall old new target method value returned × IsValue returned answer

-- the agent of a space was asked for a name, and its reply was taken: an answer with this hold and no other
abbrev pub IsLookedUp : List Receipt → List Receipt → (space : ℕ) → (name : List ℕ) → Hold → Type 0
IsLookedUp old new space name hold = (returned : Returned) × calls.IsCall old new (calls.agent_of space) 1 (values.Bytes name) returned × IsOneHold returned hold
