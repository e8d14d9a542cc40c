use Rattle.std.proofs.Common.{◌≤◌, IsOk, sym, arith, true≢false}
use Rattle.nob_space_messages.proofs.messages.Messages.reserve_ready.Goals as goal

pub returns-in_err-reserve_settled-clause-succeeds : goal.returns-in_err-reserve_settled-clause-succeeds
returns-in_err-reserve_settled-clause-succeeds c fits =
    let ok : IsOk c.reserve_settled.result = c.reserve_settled.ensures.succeeds (omega (arith, fits, c.reserve_settled.ensures.within)) in
    let bad = rw c.in_err-reserve_settled.was at ok in absurd (true≢false (sym bad))
