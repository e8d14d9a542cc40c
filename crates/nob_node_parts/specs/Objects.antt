-- What a node keeps at an index: an application's object, or the node's agent.
use Rattle.std.specs.Prelude.{◌≡◌, ℕ, Bool, true, List, Option, Some, None}
use Rattle.nob_ids.specs.declared.wire_rep.WireRep.{WireRep}
use Rattle.nob_pickle.specs.declared.value.Value.{Value}
use Rattle.nob_dispatch_objects.specs.declared.object.Done.{Done}
use Rattle.nob_dispatch_objects.specs.declared.object.Outcome.{Outcome}
use Rattle.nob_dispatch_objects.specs.Agents.{IsBegun, IsResumed, with_names}
use Rattle.nob_dispatch_objects.specs.Names as tables
use Rattle.nob_node_parts.specs.declared.object.Kept.{Kept}
use Rattle.nob_node_parts.specs.declared.object.Kept.TheVariants.{Own, Agent}

module _ {B : Type 0} where
  -- the application's object, none where it is the agent
  abbrev pub own_in : Kept B → Option B
  own_in (Own object) = Some object
  own_in (Agent agent) = None

  -- a method begins at what is kept: at the application's object as that has it, and at the agent as its methods are
  abbrev pub Begins : (begins : B → ℕ → Value → Outcome → B → Type 0) → Kept B → ℕ → Value → Outcome → Kept B → Type 0
  Begins begins (Own old) method args outcome (Own new) = begins old method args outcome new
  Begins begins (Own old) method args outcome (Agent new) = ⊥
  Begins begins (Agent old) method args outcome (Own new) = ⊥
  Begins begins (Agent old) method args outcome (Agent new) = IsBegun method args old outcome new

  -- it is told what came of that which its method asked for, likewise
  abbrev pub Resumes : (resumes : B → Done → Outcome → B → Type 0) → Kept B → Done → Outcome → Kept B → Type 0
  Resumes resumes (Own old) done outcome (Own new) = resumes old done outcome new
  Resumes resumes (Own old) done outcome (Agent new) = ⊥
  Resumes resumes (Agent old) done outcome (Own new) = ⊥
  Resumes resumes (Agent old) done outcome (Agent new) = IsResumed done old outcome new

  -- whether there is no room for a name: an application's object has none
  abbrev pub is_full_for : List ℕ → Kept B → Bool
  is_full_for name (Own object) = true
  is_full_for name (Agent agent) = tables.is_full_for name agent.names

  -- the reference that a name stands for at the agent, if there is such a name
  abbrev pub reference_of : List ℕ → Kept B → Option WireRep
  reference_of name (Own object) = None
  reference_of name (Agent agent) = tables.reference_of name agent.names

  -- the agent, at which a name stands for a reference
  abbrev pub with_name : List ℕ → WireRep → Kept B → Kept B
  with_name name rep (Own object) = Own object
  with_name name rep (Agent agent) = Agent (with_names (tables.with_name name rep agent.names) agent)

  -- the agent without a name
  abbrev pub without_name : List ℕ → Kept B → Kept B
  without_name name (Own object) = Own object
  without_name name (Agent agent) = Agent (with_names (tables.without_name name agent.names) agent)
