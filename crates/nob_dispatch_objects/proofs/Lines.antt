-- The lines of the agent's table, each as its definition has it.
use Rattle.std.proofs.Common.{◌≡◌, ℕ, [], ◌∷◌, refl}
use Rattle.nob_ids.specs.declared.wire_rep.WireRep.{WireRep}
use Rattle.nob_pickle.specs.Trees.{none, more}
use Rattle.nob_pickle.specs.Trees as trees
use Rattle.nob_pickle.specs.declared.value.Value.{Value}
use Rattle.nob_pickle.specs.declared.value.Value.TheVariants as values
use Rattle.nob_dispatch_objects.specs.Agents.{begun, resumed, fault}
use Rattle.nob_dispatch_objects.specs.declared.agent.Agent.{Agent}
use Rattle.nob_dispatch_objects.specs.declared.agent.Waiting.TheVariants as waits
use Rattle.nob_dispatch_objects.specs.declared.object.Outcome.TheVariants as outcomes
use Rattle.nob_dispatch_objects.specs.declared.object.Done.TheVariants as dones

-- an agent that has one name, 97, for an object of space 2, and waits for nothing
abbrev of_one : Agent → Agent
of_one agent = record agent { names = (97 ∷ [], record { owner = 2; index = 5 }) ∷ []; waiting = waits.Idle }

-- the object of space 2 that has this index
abbrev object : ℕ → WireRep
object index = record { owner = 2; index = index }

-- a list of a name and the reference to such an object
abbrev named : ℕ → ℕ → Value
named byte index = values.List (more (trees.bytes (byte ∷ [])) (more (trees.ref (object index)) none))

-- a new name wants a hold, and stands for its reference once the hold is made
put_asks : (agent : Agent) → begun 0 (named 98 6) (of_one agent) ≡ (outcomes.Dup (object 6), record (of_one agent) { waiting = waits.Hold (98 ∷ []) (object 6) })
put_asks agent = refl

put_ends : (agent : Agent) → resumed (waits.Hold (98 ∷ []) (object 6)) dones.Made (of_one agent) ≡ (outcomes.Answer values.Unit, record (of_one agent) { names = (97 ∷ [], object 5) ∷ (98 ∷ [], object 6) ∷ [] })
put_ends agent = refl

-- a name that was there gets the new reference, and the old one is given back
put_again : (agent : Agent) → resumed (waits.Hold (97 ∷ []) (object 6)) dones.Made (of_one agent) ≡ (outcomes.Release (object 5), record (of_one agent) { names = (97 ∷ [], object 6) ∷ []; waiting = waits.Answering })
put_again agent = refl

-- no hold: fault 4
put_refused : (agent : Agent) → resumed (waits.Hold (98 ∷ []) (object 6)) dones.Ended (of_one agent) ≡ (fault 4, of_one agent)
put_refused agent = refl

-- no counted reference, no name, no list: fault 1
put_of_agent : (agent : Agent) → begun 0 (named 98 0) (of_one agent) ≡ (fault 1, of_one agent)
put_of_agent agent = refl

put_of_unit : (agent : Agent) → begun 0 values.Unit (of_one agent) ≡ (fault 1, of_one agent)
put_of_unit agent = refl

-- get answers the reference; fault 3 where there is no such name, fault 1 where the argument is none
get_answers : (agent : Agent) → begun 1 (values.Bytes (97 ∷ [])) (of_one agent) ≡ (outcomes.Answer (values.Ref (object 5)), of_one agent)
get_answers agent = refl

get_of_other : (agent : Agent) → begun 1 (values.Bytes (98 ∷ [])) (of_one agent) ≡ (fault 3, of_one agent)
get_of_other agent = refl

get_of_nothing : (agent : Agent) → begun 1 (values.Bytes []) (of_one agent) ≡ (fault 1, of_one agent)
get_of_nothing agent = refl

-- remove takes the name out, and gives its reference back before it ends with unit
remove_asks : (agent : Agent) → begun 2 (values.Bytes (97 ∷ [])) (of_one agent) ≡ (outcomes.Release (object 5), record agent { names = []; waiting = waits.Answering })
remove_asks agent = refl

remove_ends : (agent : Agent) → resumed waits.Answering dones.Made (of_one agent) ≡ (outcomes.Answer values.Unit, of_one agent)
remove_ends agent = refl

remove_of_other : (agent : Agent) → begun 2 (values.Bytes (98 ∷ [])) (of_one agent) ≡ (fault 3, of_one agent)
remove_of_other agent = refl

-- there is no other method
no_method : (agent : Agent) → begun 3 values.Unit (of_one agent) ≡ (outcomes.NoMethod, of_one agent)
no_method agent = refl
