-- The parts of a space's state, as plain data.
use Rattle.std.specs.Prelude.{ℕ, List}
use Rattle.nob_session.specs.Stands.{Roomy}
use Rattle.nob_table.specs.Table.{Table}
use Rattle.nob_ids.specs.declared.wire_rep.WireRep.{WireRep}
use Rattle.nob_dirty.specs.declared.sets.Listing.{Listing}
use Rattle.nob_pins.specs.Bundles as pins
use Rattle.nob_model_work.specs.declared.work.Outstanding.{Outstanding}
use Rattle.nob_space_state.specs.declared.parts.Parts.{Parts}

-- what a space keeps, in parts
pub record State : Type 0 where
  -- its ends of the sessions, the one with space p at place p - 1
  pub sessions : List Roomy
  -- its objects, and its surrogates of others'
  pub table : Table
  -- the clients that are listed for its objects
  pub dirty : List Listing
  -- the pins of what it sent
  pub pins : pins.Table
  -- the outstanding work
  pub work : Outstanding
  -- the references that messages wait for and whose owners' answers are to come
  pub awaited : List WireRep
  -- how many calls were made
  pub calls : ℕ
  -- how many jobs were claimed
  pub jobs : ℕ

-- the parts as plain data
abbrev pub state_of : Parts → State
state_of parts =
    record {
      sessions = parts.sessions.items;
      table = parts.table;
      dirty = parts.dirty;
      pins = parts.pins;
      work = record { waiting = parts.messages.waiting.items; ready = parts.messages.jobs.ready; running = parts.messages.jobs.running; replies = parts.calls.replies; calls = parts.calls.calls };
      awaited = parts.messages.waiting.awaited;
      calls = parts.calls_made;
      jobs = parts.jobs_made;
    }

-- the state with another table
abbrev pub with_table : Table → State → State
with_table t st =
    record {
      sessions = st.sessions;
      table = t;
      dirty = st.dirty;
      pins = st.pins;
      work = st.work;
      awaited = st.awaited;
      calls = st.calls;
      jobs = st.jobs;
    }

-- the state with other ends
abbrev pub with_sessions : List Roomy → State → State
with_sessions sessions st =
    record {
      sessions = sessions;
      table = st.table;
      dirty = st.dirty;
      pins = st.pins;
      work = st.work;
      awaited = st.awaited;
      calls = st.calls;
      jobs = st.jobs;
    }

-- the state with other outstanding work, and so many calls and jobs made
abbrev pub with_work : Outstanding → (calls jobs : ℕ) → State → State
with_work work calls jobs st =
    record {
      sessions = st.sessions;
      table = st.table;
      dirty = st.dirty;
      pins = st.pins;
      work = work;
      awaited = st.awaited;
      calls = calls;
      jobs = jobs;
    }

-- the state with other references whose owners' answers are to come
abbrev pub with_awaited : List WireRep → State → State
with_awaited awaited st =
    record {
      sessions = st.sessions;
      table = st.table;
      dirty = st.dirty;
      pins = st.pins;
      work = st.work;
      awaited = awaited;
      calls = st.calls;
      jobs = st.jobs;
    }
