use Rattle.std.proofs.Common.{◌≡◌, ◌+◌, ℕ, length, Some, slice_get, subst, arith}
use Rattle.nob_trace.specs.declared.trace.Trace.{Trace}
use Rattle.nob_model_traces.proofs.Entering.{read}
use Rattle.nob_chain_check.specs.Running.{HasAnswered}
use Rattle.nob_chain_check.proofs.Answering.{answered_next, wrong_entry}
use Rattle.nob_chain_check.proofs.running.first_wrong_entry.Goals as goal

pub returns-then-not-branch-clause-answered : goal.returns-then-not-branch-clause-answered
returns-then-not-branch-clause-answered c trace passed rest has is =
    let e = c.index-entries-place.result in
    let there : slice_get c.args.entries.now c.loop-place.place ≡ Some e = read c.args.entries.now c.loop-place.place e c.loop-place-test.true c.index-entries-place.is in
    wrong_entry trace passed c.loop-place.place c.args.entries.now rest e c.loop-place.space c.in_ok-answers.field-0 is there (c.loop-place.invariant trace passed rest has is) c.in_ok-answers.ensures.right c.if-not-branch.true

pub loop-place-preserved : goal.loop-place-preserved
loop-place-preserved c trace passed rest has is =
    let e = c.index-entries-place.result in
    let there : slice_get c.args.entries.now c.loop-place.place ≡ Some e = read c.args.entries.now c.loop-place.place e c.loop-place-test.true c.index-entries-place.is in
    answered_next trace passed c.loop-place.place c.args.entries.now rest e c.loop-place.space c.answers.new.space c.in_ok-answers.field-0 is there (c.loop-place.invariant trace passed rest has is) c.in_ok-answers.ensures.right c.in_ok-answers.ensures.stands c.in_ok-answers.ensures.typed c.in_ok-answers.ensures.same c.if-not-branch.false

pub returns-clause-answered : goal.returns-clause-answered
returns-clause-answered c trace passed rest has is =
    let all : c.loop-place.place ≡ length c.args.entries.now = let past = c.loop-place-test.false in let low = c.loop-place.auto.place-end in omega (arith, past, low) in
    subst (λ (k : ℕ). HasAnswered trace (passed + k) c.loop-place.space) all (c.loop-place.invariant trace passed rest has is)
