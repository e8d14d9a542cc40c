use Rattle.std.proofs.Common.{[], sym, ◌∙◌, refl}
use Rattle.std.proofs.lemmas.List.{append-nil}
use Rattle.nob_model_text.proofs.Read.{not_empty}
use Rattle.nob_trace.specs.Traces.{trace_text}
use Rattle.nob_trace.specs.Reading.{AtEntry, TextFault, TraceProblem}
use Rattle.nob_trace.proofs.ReadTraces.{map_fault, map_there}
use Rattle.nob_trace.proofs.reading.decode.Goals as goal

pub returns-in_err-trace-clause-found : goal.returns-in_err-trace-clause-found
returns-in_err-trace-clause-found c =
    map_fault _ (TextFault c.args.text.now) (TraceProblem c.args.text.now) c.from_residual.result c.in_err-trace.field-0.0 c.from_residual.ensures.1 c.in_err-trace.ensures.found (λ f wrong. TraceProblem.front wrong)

pub returns-then-not-is_empty-clause-found : goal.returns-then-not-is_empty-clause-found
returns-then-not-is_empty-clause-found c =
    TraceProblem.behind c.in_ok-trace.trace c.in_ok-trace.rest.now c.in_ok-trace.ensures.found.0 c.in_ok-trace.ensures.found.1 (λ e. not_empty c.in_ok-trace.rest.now c.is_empty.result e c.is_empty.ensures c.if-not-is_empty.true) refl

pub returns-then-not-is_empty-clause-only : goal.returns-then-not-is_empty-clause-only
returns-then-not-is_empty-clause-only c trace is spelt =
    not_empty c.in_ok-trace.rest.now c.is_empty.result (c.in_ok-trace.ensures.only trace [] is (spelt ∙ sym (append-nil (trace_text trace)))).1 c.is_empty.ensures c.if-not-is_empty.true

pub returns-in_err-trace-clause-memory : goal.returns-in_err-trace-clause-memory
returns-in_err-trace-clause-memory c = map_there (AtEntry c.args.text.now) (AtEntry c.args.text.now) c.from_residual.result c.in_err-trace.field-0.0 c.from_residual.ensures.1 c.in_err-trace.ensures.memory (λ at. at)
