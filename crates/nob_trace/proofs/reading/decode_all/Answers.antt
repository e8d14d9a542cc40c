use Rattle.std.proofs.Common.{ℕ, List, length, sym, subst, ◌∙◌}
use Rattle.std.proofs.lemmas.List.{nil_from_length}
use Rattle.std.proofs.lemmas.Bool.Decides.{Decides-eqb}
use Rattle.nob_model_text.proofs.Read.{not_empty}
use Rattle.nob_trace.specs.declared.trace.Trace.{Trace}
use Rattle.nob_trace.specs.Reading.{AtEntry, AtTrace, TextFault, TracesProblem}
use Rattle.nob_trace.proofs.ReadLines.{by_error, passed}
use Rattle.nob_trace.proofs.ReadTraces.{FoundAll, OnlyAll, always_there, behind_whole, found_next, map_fault, map_there, only_end, only_next, unread_next}
use Rattle.nob_trace.proofs.reading.decode_all.Goals as goal

pub returns-in_err-trace-clause-found : goal.returns-in_err-trace-clause-found
returns-in_err-trace-clause-found c =
    map_fault _ (TextFault c.loop-left.left.now) (λ fault. (all : List Trace) × (left : List ℕ) × TracesProblem c.args.text.now fault all left) c.from_residual.result c.in_err-trace.field-0.0 c.from_residual.ensures.1 c.in_err-trace.ensures.found
    (λ f wrong. (c.loop-left.all.items, c.loop-left.left.now, record { are = c.loop-left.invariant.0.are; text_is = c.loop-left.invariant.0.text_is; some = λ e. not_empty c.loop-left.left.now c.is_empty.result e c.is_empty.ensures c.loop-left-test.true; fault_is = wrong }))

pub returns-in_err-trace-clause-only : goal.returns-in_err-trace-clause-only
returns-in_err-trace-clause-only c all are spelt =
    let r = c.loop-left.invariant.1 all are spelt in
    passed _ _ c.from_residual.result c.in_err-trace.field-0.0 c.from_residual.ensures.1
    (unread_next r.0 c.loop-left.left.now c.in_err-trace.field-0.0 (λ e. not_empty c.loop-left.left.now c.is_empty.result e c.is_empty.ensures c.loop-left-test.true) r.2 r.3 (λ t rest is text. by_error _ (c.in_err-trace.ensures.only t rest is text)))

pub loop-left-preserved : goal.loop-left-preserved
loop-left-preserved c =
    let left = c.loop-left.left.now in
    let after = c.in_ok-trace.rest.now in
    let done = c.loop-left.all.items in
    let t = c.in_ok-trace.trace in
    subst (λ (ts : List Trace). FoundAll c.args.text.now ts after × OnlyAll c.args.text.now ts after) (sym c.in_ok-push.ensures.items) (
      found_next c.args.text.now left after done t c.in_ok-trace.ensures.found c.loop-left.invariant.0,
      only_next c.args.text.now left after done t (λ e. not_empty left c.is_empty.result e c.is_empty.ensures c.loop-left-test.true) c.in_ok-trace.ensures.only c.loop-left.invariant.1,
    )

pub returns-clause-only : goal.returns-clause-only
returns-clause-only c all are spelt =
    let empty = nil_from_length c.loop-left.left.now ((Decides-eqb (length c.loop-left.left.now) 0).0 (sym c.is_empty.ensures ∙ c.loop-left-test.false)) in
    only_end c.args.text.now c.loop-left.left.now c.loop-left.all.items empty c.loop-left.invariant.1 all are spelt

pub returns-in_err-trace-clause-memory : goal.returns-in_err-trace-clause-memory
returns-in_err-trace-clause-memory c =
    map_there (AtEntry c.loop-left.left.now) (AtTrace c.args.text.now) c.from_residual.result c.in_err-trace.field-0.0 c.from_residual.ensures.1 c.in_err-trace.ensures.memory (λ at. AtTrace.part c.loop-left.all.items c.loop-left.left.now c.loop-left.invariant.0.are c.loop-left.invariant.0.text_is at)

pub returns-in_err-push-clause-memory : goal.returns-in_err-push-clause-memory
returns-in_err-push-clause-memory c =
    always_there (AtTrace c.args.text.now) c.from_residual-in_err-push.result (behind_whole c.args.text.now c.loop-left.left.now c.in_ok-trace.rest.now c.loop-left.all.items c.in_ok-trace.trace c.in_ok-trace.ensures.found c.loop-left.invariant.0)
