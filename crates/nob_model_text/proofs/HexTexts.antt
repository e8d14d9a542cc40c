-- What the lower case text of bytes decodes to.
use Rattle.std.proofs.Common.{◌≡◌, ℕ, List, Ok, Err, ap, ◌∙◌, ◌⊎◌, inl, inr}
use Rattle.hex.specs.Hex.{encode_lower, IsBytes, decode_of}
use Rattle.hex.specs.declared.error.FromHexError.{FromHexError}
use Rattle.hex.specs.declared.error.FromHexError.TheVariants.{OutOfMemory}
use Rattle.hex.proofs.HexLemmas.{decode_of-encode_lower}

pub same_bytes : (text bytes found : List ℕ) → IsBytes bytes → text ≡ encode_lower bytes → decode_of text ≡ Ok found → found ≡ bytes
same_bytes text bytes found fits spelt read = let again : decode_of text ≡ Ok bytes = ap decode_of spelt ∙ decode_of-encode_lower bytes fits in cc

pub no_error : (text bytes : List ℕ) (e : FromHexError) → IsBytes bytes → text ≡ encode_lower bytes → (e ≡ OutOfMemory → ⊥) → (e ≡ OutOfMemory) ⊎ (decode_of text ≡ Err e) → ⊥
no_error text bytes e fits spelt other refused =
    let again : decode_of text ≡ Ok bytes = ap decode_of spelt ∙ decode_of-encode_lower bytes fits in
    elim refused [ inl memory ↦ other memory | inr read ↦ cc (again, read) ]
