use Rattle.nob_dispatch.specs.Assigning as assigning
use Rattle.nob_dispatch.proofs.desk.Desk.take_back.Given as goal

abbrev pub invariant-loop : goal.invariant-loop
invariant-loop g l = assigning.SomeComeBack l.fn.self l.self × assigning.IsSameBesideBack l.fn.self l.self
