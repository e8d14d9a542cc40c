use Rattle.std.proofs.Common.{◌≡◌, ◌++◌, ◌/◌, List, length, take, arith, sym, ap, ◌∙◌}
use Rattle.std.proofs.lemmas.List.{take-append-drop}
use Rattle.nob_demo_scripts.specs.declared.batch.Row.{Row}
use Rattle.nob_demo_scripts.proofs.Logs.{found_front, found_back}
use Rattle.nob_demo_scripts.proofs.log.+row_of.Goals as goal

pub returns-then-number-back : goal.returns-then-number-back
returns-then-number-back t c first second n counted low =
    let half = length c.args.rows.now / 2 in
    let split : c.args.rows.now ≡ c.split_at.result.0.now ++ c.split_at.result.1.now = sym (ap (λ (xs : List Row). xs ++ c.split_at.result.1.now) c.split_at.ensures.front ∙ ap (λ (ys : List Row). take half c.args.rows.now ++ ys) c.split_at.ensures.back ∙ take-append-drop half c.args.rows.now) in
    found_front first second n c.args.number c.split_at.result.0.now c.split_at.result.1.now c.index-back-0.result c.row_of.result c.args.rows.now split
    (omega (arith, c.split_at.ensures.front_len, c.if-rows-le1.false)) (omega (arith, c.split_at.ensures.back_len, c.if-rows-le1.false)) counted low c.if-number-back.true (c.row_of.ensures first second n)

pub returns : goal.returns
returns t c first second n counted low =
    let half = length c.args.rows.now / 2 in
    let split : c.args.rows.now ≡ c.split_at.result.0.now ++ c.split_at.result.1.now = sym (ap (λ (xs : List Row). xs ++ c.split_at.result.1.now) c.split_at.ensures.front ∙ ap (λ (ys : List Row). take half c.args.rows.now ++ ys) c.split_at.ensures.back ∙ take-append-drop half c.args.rows.now) in
    found_back first second n c.args.number c.split_at.result.0.now c.split_at.result.1.now c.index-back-0.result c.row_of-2.result c.args.rows.now split
    (omega (arith, c.split_at.ensures.back_len, c.if-rows-le1.false)) counted c.if-number-back.false (c.row_of-2.ensures first second)
