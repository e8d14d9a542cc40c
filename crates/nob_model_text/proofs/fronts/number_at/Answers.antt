use Rattle.std.specs.Fmt.{decimal}
use Rattle.nob_model_text.proofs.Parting.{decimal_no_mark, same_found, not_none}
use Rattle.nob_model_text.proofs.fronts.number_at.Goals as goal

pub returns-in_default-clause-only : goal.returns-in_default-clause-only
returns-in_default-clause-only c n rest small stops spelt =
    let front = c.front_of.ensures.only (decimal n) rest (decimal_no_mark n small) stops spelt in
    not_none _ _ c.in_default.is (c.in_ok-number.ensures.only n small front.0)

pub returns-clause-only : goal.returns-clause-only
returns-clause-only c n rest small stops spelt =
    let front = c.front_of.ensures.only (decimal n) rest (decimal_no_mark n small) stops spelt in
    (same_found _ _ _ c.in-Some.is (c.in_ok-number.ensures.only n small front.0), front.1)
