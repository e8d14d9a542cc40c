-- What who runs a node sees of a space: what went each way on each session, how many objects are live, and what isn't done yet.
use Rattle.std.specs.Prelude.{ℕ, length}
use Rattle.nob_model_session.specs.End.{ending}
use Rattle.nob_model_types.specs.declared.tally.Tally.{Tally}
use Rattle.nob_model_types.specs.declared.tally.Backlog.{Backlog}
use Rattle.nob_model_types.specs.Sessions.{number, acted}
use Rattle.nob_model_types.specs.Objects.{live}
use Rattle.nob_model_history.specs.declared.history.History.{History}
use Rattle.nob_model_history.specs.Ends.{calls_at}
use Rattle.nob_model_history.specs.Transit.{count_to, sent}

-- the tally of the session with p: its number, how many items were sent to p in it, how many from p were acted on, and why the end closed, if it has
abbrev pub tally : ℕ → History → Tally
tally p h = record { session = number p h.deeds; sent = count_to p (number p h.deeds) (sent h); acted = length (acted p h.deeds); closed = ending (calls_at p h) }

-- how many objects of space s are live
abbrev pub live_count : ℕ → History → ℕ
live_count s h = length (live s h.deeds)

-- what isn't done yet: the own calls that aren't taken, and the jobs that are ready and that run
abbrev pub backlog : History → Backlog
backlog h = record { calls = length h.work.calls; ready = length h.work.ready; running = length h.work.running }
