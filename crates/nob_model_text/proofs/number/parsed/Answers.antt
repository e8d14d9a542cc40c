use Rattle.std.proofs.Common.{sym, subst, ◌∙◌}
use Rattle.std.specs.Str.{IsUtf8}
use Rattle.std.proofs.lemmas.Fmt.{parse-decimal, IsAscii-decimal}
use Rattle.std.proofs.lemmas.Str.{IsUtf8-from_ascii}
use Rattle.nob_model_text.proofs.number.parsed.Goals as goal

pub returns-in_default : goal.returns-in_default
returns-in_default c n small spelt = absurd (c.in_default.ensures.cases.0 (subst IsUtf8 (sym spelt) (IsUtf8-from_ascii _ (IsAscii-decimal n small))))

pub returns-in-Ok-parse : goal.returns-in-Ok-parse
returns-in-Ok-parse c n small spelt =
    let read = parse-decimal 64 n c.in-Ok.digits.now c.parse.result small small (c.in-Ok.ensures.cases.0 ∙ spelt) c.parse.ensures.value.0 in
    cc (read, c.in-Ok-parse.is)

pub returns-in-Err : goal.returns-in-Err
returns-in-Err c n small spelt =
    let read = parse-decimal 64 n c.in-Ok.digits.now c.parse.result small small (c.in-Ok.ensures.cases.0 ∙ spelt) c.parse.ensures.value.0 in
    cc (read, c.in-Err.is)
