use Rattle.std.proofs.Common.{◌+◌, ◌-◌, ℕ, List, Some, IsSome, arith, drop, ap, refl, sym, subst, ◌∙◌}
use Rattle.std.proofs.lemmas.Option.{slice_get-get_or}
use Rattle.nob_frame.specs.declared.frame.FrameKind.TheVariants as kinds
use Rattle.nob_demo_scripts.proofs.Logs.{run_at, run_past}
use Rattle.nob_demo_scripts.proofs.Playing.{on_err}
use Rattle.nob_demo_scripts.proofs.log.frame_of_run.Goals as goal

pub returns-then-place-run-clause-frame : goal.returns-then-place-run-clause-frame
returns-then-place-run-clause-frame c =
    let run = c.args.run in
    sym (run_past run.from run.to run.session run.ack run.first run.count (drop (run.first - 1) c.args.items.now) c.args.place c.if-place-run.true)

pub returns-in_err-copy-clause-memory : goal.returns-in_err-copy-clause-memory
returns-in_err-copy-clause-memory c =
    let run = c.args.run in
    let item = c.index-items-item.result in
    let place = run.first - 1 + c.args.place in
    let at = slice_get-get_or c.args.items.now place item (omega (arith, c.requires.there, c.if-place-run.false)) ∙ ap (λ (x : List ℕ). Some x) (sym c.index-items-item.is) in
    on_err c.from_residual.result (subst IsSome (sym (run_at run.from run.to run.session run.ack run.first run.count c.args.items.now c.args.place place item c.requires.first (omega (arith, c.if-place-run.false)) refl at)) refl)

pub returns-clause-frame : goal.returns-clause-frame
returns-clause-frame c =
    let run = c.args.run in
    let item = c.index-items-item.result in
    let place = run.first - 1 + c.args.place in
    let at = slice_get-get_or c.args.items.now place item (omega (arith, c.requires.there, c.if-place-run.false)) ∙ ap (λ (x : List ℕ). Some x) (sym c.index-items-item.is) in
    ap (λ (p : List ℕ). Some (record { kind = kinds.Data; from = run.from; to = run.to; session = run.session; seq = place + 1; ack = run.ack; payload = p })) c.in_ok-copy.ensures.same
    ∙ sym (run_at run.from run.to run.session run.ack run.first run.count c.args.items.now c.args.place place item c.requires.first (omega (arith, c.if-place-run.false)) refl at)
