use Rattle.std.proofs.Common.{sym, subst, ◌∙◌, ap, Some}
use Rattle.std.specs.Int.{w64}
use Rattle.std.specs.Str.{IsUtf8}
use Rattle.std.proofs.lemmas.Fmt.{parse-signed_decimal, IsAscii-signed}
use Rattle.std.proofs.lemmas.Str.{IsUtf8-from_ascii}
use Rattle.nob_model_text.proofs.Parting.{small_signed, signed_back, same_ok, no_err}
use Rattle.nob_model_text.proofs.fronts.parsed.Goals as goal

pub returns-in_default : goal.returns-in_default
returns-in_default c n fits spelt = absurd (c.in_default.ensures.cases.0 (subst IsUtf8 (sym spelt) (IsUtf8-from_ascii _ (IsAscii-signed n (small_signed n fits)))))

pub returns-in-Ok-parse : goal.returns-in-Ok-parse
returns-in-Ok-parse c n fits spelt =
    let read = parse-signed_decimal w64 n c.in-Ok.digits.now c.parse.result fits (small_signed n fits) (c.in-Ok.ensures.cases.0 ∙ spelt) c.parse.ensures.value.0 in
    ap Some (signed_back c.in-Ok-parse.number n fits (same_ok _ _ _ c.in-Ok-parse.is read))

pub returns-in-Err : goal.returns-in-Err
returns-in-Err c n fits spelt =
    let read = parse-signed_decimal w64 n c.in-Ok.digits.now c.parse.result fits (small_signed n fits) (c.in-Ok.ensures.cases.0 ∙ spelt) c.parse.ensures.value.0 in
    absurd (no_err _ _ _ read c.in-Err.is)
