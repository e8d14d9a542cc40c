use Rattle.std.specs.Fmt.{signed_decimal}
use Rattle.nob_model_text.proofs.Parting.{signed_no_mark, same_found, not_none, signed_back}
use Rattle.nob_model_text.proofs.fronts.int_at.Goals as goal

pub returns-in_default-clause-only : goal.returns-in_default-clause-only
returns-in_default-clause-only c n rest fits stops spelt =
    let front = c.front_of.ensures.only (signed_decimal n) rest (signed_no_mark n fits) stops spelt in
    not_none _ _ c.in_default.is (c.in_ok-number.ensures.only n fits front.0)

pub returns-clause-only : goal.returns-clause-only
returns-clause-only c n rest fits stops spelt =
    let front = c.front_of.ensures.only (signed_decimal n) rest (signed_no_mark n fits) stops spelt in
    (signed_back c.in-Some.number n fits (same_found _ _ _ c.in-Some.is (c.in_ok-number.ensures.only n fits front.0)), front.1)
