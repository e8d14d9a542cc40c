use Rattle.nob_model_text.proofs.HexTexts.{same_bytes, no_error}
use Rattle.nob_model_text.proofs.bytes.decoded.Goals as goal

pub returns-in-Ok : goal.returns-in-Ok
returns-in-Ok c bytes fits spelt = same_bytes c.args.text.now bytes c.in-Ok.bytes.items fits spelt c.in-Ok.ensures.ok

pub returns-in-InvalidHexCharacter : goal.returns-in-InvalidHexCharacter
returns-in-InvalidHexCharacter c bytes fits spelt = no_error c.args.text.now bytes c.in-Err.e fits spelt (λ m. cc (m, c.in-InvalidHexCharacter.is)) c.in-Err.ensures.err

pub returns-in-OddLength : goal.returns-in-OddLength
returns-in-OddLength c bytes fits spelt = no_error c.args.text.now bytes c.in-Err.e fits spelt (λ m. cc (m, c.in-OddLength.is)) c.in-Err.ensures.err

pub returns-in-InvalidStringLength : goal.returns-in-InvalidStringLength
returns-in-InvalidStringLength c bytes fits spelt = no_error c.args.text.now bytes c.in-Err.e fits spelt (λ m. cc (m, c.in-InvalidStringLength.is)) c.in-Err.ensures.err
