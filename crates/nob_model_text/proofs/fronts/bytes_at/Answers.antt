use Rattle.hex.specs.Hex.{encode_lower}
use Rattle.nob_model_text.proofs.Parting.{hex_no_mark, bytes_found, bytes_not_none}
use Rattle.nob_model_text.proofs.fronts.bytes_at.Goals as goal

pub returns-in_default-clause-only : goal.returns-in_default-clause-only
returns-in_default-clause-only c bytes rest fits stops spelt =
    let front = c.front_of.ensures.only (encode_lower bytes) rest (hex_no_mark bytes) stops spelt in
    bytes_not_none _ bytes c.in_default.is (c.in_ok-bytes.ensures.only bytes fits front.0)

pub returns-clause-only : goal.returns-clause-only
returns-clause-only c bytes rest fits stops spelt =
    let front = c.front_of.ensures.only (encode_lower bytes) rest (hex_no_mark bytes) stops spelt in
    (bytes_found _ c.in-Some.bytes bytes c.in-Some.is (c.in_ok-bytes.ensures.only bytes fits front.0), front.1)
