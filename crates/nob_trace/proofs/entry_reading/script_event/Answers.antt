use Rattle.std.proofs.Common.{sym, ◌∙◌}
use Rattle.nob_trace.proofs.Cases.{no_arrival, not_had}
use Rattle.nob_trace.proofs.entry_reading.script_event.Goals as goal

pub returns-then-not-has_event-clause-only : goal.returns-then-not-has_event-clause-only
returns-then-not-has_event-clause-only c event is traced spelt = not_had c.args.version c.in_ok-event.event event traced (c.in_ok-event.ensures.only event is spelt) (sym c.has_event.ensures ∙ c.if-not-has_event.true)

pub returns-clause-found : goal.returns-clause-found
returns-clause-found c = no_arrival c.args.version c.args.text.now c.in_ok-event.event c.in_ok-event.ensures.found (sym c.has_event.ensures ∙ c.if-not-has_event.false)
