-- The agent of a node: what each call of it comes to, by its names, and the agent after it.
use Rattle.std.specs.Prelude.{◌≡◌, ◌⊎◌, ℕ, pos, List, Option, Some, None, IsSome, if◌then◌else◌, ◌==◌}
use Rattle.nob_ids.specs.Names.{is_counted}
use Rattle.nob_ids.specs.declared.wire_rep.WireRep.{WireRep}
use Rattle.nob_pickle.specs.Trees.{Tree, Trees, none, more}
use Rattle.nob_pickle.specs.Trees as trees
use Rattle.nob_pickle.specs.Shape.{tree}
use Rattle.nob_pickle.specs.declared.value.Value.{Value}
use Rattle.nob_pickle.specs.declared.value.Value.TheVariants as values
use Rattle.nob_dispatch_objects.specs.Names.{is_name, reference_of, with_name, without_name, is_full_for}
use Rattle.nob_dispatch_objects.specs.declared.object.Outcome.{Outcome}
use Rattle.nob_dispatch_objects.specs.declared.object.Outcome.TheVariants as outcomes
use Rattle.nob_dispatch_objects.specs.declared.object.Done.{Done}
use Rattle.nob_dispatch_objects.specs.declared.object.Done.TheVariants as dones
use Rattle.nob_dispatch_objects.specs.declared.agent.Agent.{Agent}
use Rattle.nob_dispatch_objects.specs.declared.agent.AgentFault.{AgentFault}
use Rattle.nob_dispatch_objects.specs.declared.agent.AgentFault.TheVariants as faults
use Rattle.nob_dispatch_objects.specs.declared.agent.Waiting.{Waiting}
use Rattle.nob_dispatch_objects.specs.declared.agent.Waiting.TheVariants as waits

-- the number of a fault
abbrev pub number_of : AgentFault → ℕ
number_of faults.Argument = 1
number_of faults.Full = 2
number_of faults.NoName = 3
number_of faults.NotKept = 4

-- a method ends with the fault of this number
abbrev pub fault : ℕ → Outcome
fault number = outcomes.Fault (values.Int (pos number))

-- the name that a tree is: bytes that are a name
abbrev pub name_in : Tree → Option (List ℕ)
name_in trees.unit = None
name_in (trees.int n) = None
name_in (trees.bytes bytes) = if is_name bytes then Some bytes else None
name_in (trees.list ts) = None
name_in (trees.ref rep) = None

-- the counted reference that a tree is
abbrev pub counted_in : Tree → Option WireRep
counted_in trees.unit = None
counted_in (trees.int n) = None
counted_in (trees.bytes bytes) = None
counted_in (trees.list ts) = None
counted_in (trees.ref rep) = if is_counted rep then Some rep else None

-- a name and a reference, where there are both
abbrev pub both : Option (List ℕ) → Option WireRep → Option (List ℕ × WireRep)
both None rep = None
both (Some name) None = None
both (Some name) (Some rep) = Some (name, rep)

-- the name and the counted reference that two trees are
abbrev pub pair_in : Trees → Option (List ℕ × WireRep)
pair_in none = None
pair_in (more name none) = None
pair_in (more name (more rep none)) = both (name_in name) (counted_in rep)
pair_in (more name (more rep (more other ts))) = None

-- the name and the reference that a tree is a list of
abbrev pub entry_in : Tree → Option (List ℕ × WireRep)
entry_in trees.unit = None
entry_in (trees.int n) = None
entry_in (trees.bytes bytes) = None
entry_in (trees.list ts) = pair_in ts
entry_in (trees.ref rep) = None

-- put: a hold on the reference is wanted, unless the argument is another, or there is no room for the name
abbrev pub put : Option (List ℕ × WireRep) → Agent → Outcome × Agent
put None agent = (fault 1, agent)
put (Some entry) agent =
    if is_full_for entry.0 agent.names then (fault 2, agent)
    else (outcomes.Dup entry.1, record agent { waiting = waits.Hold entry.0 entry.1 })

-- the answer to get, by what the name stands for
abbrev pub found : Option WireRep → Outcome
found None = fault 3
found (Some rep) = outcomes.Answer (values.Ref rep)

-- get: the reference that the name stands for
abbrev pub get : Option (List ℕ) → Agent → Outcome × Agent
get None agent = (fault 1, agent)
get (Some name) agent = (found (reference_of name agent.names), agent)

-- remove, by what the name stood for: the name goes, and its reference is given back
abbrev pub take_out : List ℕ → Option WireRep → Agent → Outcome × Agent
take_out name None agent = (fault 3, agent)
take_out name (Some rep) agent =
    (outcomes.Release rep, record agent { names = without_name name agent.names; waiting = waits.Answering })

-- remove
abbrev pub remove : Option (List ℕ) → Agent → Outcome × Agent
remove None agent = (fault 1, agent)
remove (Some name) agent = take_out name (reference_of name agent.names) agent

-- what a call of a method comes to
abbrev pub begun : ℕ → Value → Agent → Outcome × Agent
begun method args agent =
    if method == 0 then put (entry_in (tree args)) agent
    else if method == 1 then get (name_in (tree args)) agent
    else if method == 2 then remove (name_in (tree args)) agent
    else (outcomes.NoMethod, agent)

-- the name stands for the reference from now on: the method ends with unit, and what it stood for before is given back first
abbrev pub replaced : Option WireRep → Agent → Outcome × Agent
replaced None agent = (outcomes.Answer values.Unit, agent)
replaced (Some before) agent = (outcomes.Release before, record agent { waiting = waits.Answering })

-- the reference is held for the name: it is given back where there is no room
abbrev pub held : List ℕ → WireRep → Agent → Outcome × Agent
held name rep agent =
    if is_full_for name agent.names then (outcomes.Release rep, record agent { waiting = waits.Refusing })
    else replaced (reference_of name agent.names) (record agent { names = with_name name rep agent.names })

-- what the hold that a put wanted came to
abbrev pub told : Done → List ℕ → WireRep → Agent → Outcome × Agent
told (dones.Replied status value) name rep agent = (fault 4, agent)
told dones.Ended name rep agent = (fault 4, agent)
told dones.Made name rep agent = held name rep agent
told (dones.Refused refusal) name rep agent = (fault 4, agent)

-- what a method that waited comes to, told what came of it; the agent waits for nothing then, unless it asks again
abbrev pub resumed : Waiting → Done → Agent → Outcome × Agent
resumed waits.Idle done agent = (outcomes.NoMethod, agent)
resumed (waits.Hold name rep) done agent = told done name rep agent
resumed waits.Answering done agent = (outcomes.Answer values.Unit, agent)
resumed waits.Refusing done agent = (fault 2, agent)

-- want of memory is answered as no room: for a name that is to be put, with nothing changed
abbrev pub LacksMemory : Option (List ℕ × WireRep) → Agent → Outcome × Agent → Type 0
LacksMemory entry agent turn = IsSome entry × (turn ≡ (fault 2, agent))

-- the same once the reference is held: for a name that isn't there yet, and the reference is given back
abbrev pub LacksRoom : List ℕ → WireRep → Agent → Outcome × Agent → Type 0
LacksRoom name rep agent turn =
    (reference_of name agent.names ≡ None) × (turn ≡ (outcomes.Release rep, record agent { waiting = waits.Refusing }))

-- the same, of a put that waited for its hold and was told that it was made
abbrev pub LacksRoomAtHold : Waiting → Done → Agent → Outcome × Agent → Type 0
LacksRoomAtHold waiting done agent turn =
    (name : List ℕ) × (rep : WireRep) × (waiting ≡ waits.Hold name rep) × (done ≡ dones.Made) × LacksRoom name rep agent turn

-- an agent with other names
abbrev pub with_names : List (List ℕ × WireRep) → Agent → Agent
with_names names agent = record agent { names = names }

-- the agent, waiting for nothing
abbrev pub at_rest : Agent → Agent
at_rest agent = record agent { waiting = waits.Idle }

-- an agent was asked for this method, came to this, and is this then
abbrev pub IsBegun : ℕ → Value → Agent → Outcome → Agent → Type 0
IsBegun method args old outcome new =
    ((outcome, new) ≡ begun method args old)
    ⊎ (method ≡ 0) × LacksMemory (entry_in (tree args)) old (outcome, new)

-- an agent whose method waited was told this, came to this, and is this then
abbrev pub IsResumed : Done → Agent → Outcome → Agent → Type 0
IsResumed done old outcome new =
    ((outcome, new) ≡ resumed old.waiting done (at_rest old))
    ⊎ LacksRoomAtHold old.waiting done (at_rest old) (outcome, new)
