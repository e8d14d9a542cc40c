use Rattle.std.proofs.Common.{rules, arith}
use Rattle.nob_case_texts.proofs.Points.{parted, same_reference}
use Rattle.nob_case_texts.proofs.tokens.reference.Goals as goal

pub returns-in_default-clause-only : goal.returns-in_default-clause-only
returns-in_default-clause-only c rep space small spelt = rw c.in_default.is at (parted c.args.word.now rep.owner rep.index c.split_once.result (omega arith) spelt c.split_once.ensures.cases)

pub returns-in_err-space-clause-only : goal.returns-in_err-space-clause-only
returns-in_err-space-clause-only c rep space small spelt =
    let parts = rw c.in-Some.is at (parted c.args.word.now rep.owner rep.index c.split_once.result (omega arith) spelt c.split_once.ensures.cases) in
    let read = c.in_err-space.ensures.only rep.owner space parts.0 in
    search rules

pub returns-in_err-number-clause-only : goal.returns-in_err-number-clause-only
returns-in_err-number-clause-only c rep space small spelt =
    let parts = rw c.in-Some.is at (parted c.args.word.now rep.owner rep.index c.split_once.result (omega arith) spelt c.split_once.ensures.cases) in
    let read = c.in_err-number.ensures.only rep.index small parts.1 in
    search rules

pub returns-clause-only : goal.returns-clause-only
returns-clause-only c rep space small spelt =
    let parts = rw c.in-Some.is at (parted c.args.word.now rep.owner rep.index c.split_once.result (omega arith) spelt c.split_once.ensures.cases) in
    let owner = c.in_ok-space.ensures.only rep.owner space parts.0 in
    let index = c.in_ok-number.ensures.only rep.index small parts.1 in
    same_reference _ _ rep owner index
