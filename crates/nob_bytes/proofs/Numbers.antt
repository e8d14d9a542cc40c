-- Numbers as they are read and written.
use Rattle.std.proofs.Common.{◌≡◌, ℕ, ◌+◌, ◌^◌, ◌<◌, ◌≤◌, true, false, ltb, List, ◌++◌, length, take, drop, Ok, Err, cond, refl, sym, ap, ◌∙◌, arith}
use Rattle.std.proofs.lemmas.Bool.{ltb-false, le-ltb}
use Rattle.std.proofs.lemmas.List.{drop_at, take-append-drop, length-append, length-take, length-drop, drop-append-le}
use Rattle.std.proofs.lemmas.Nat.{be_bytes_2, be_bytes_4, be_bytes_8}
use Rattle.byteorder.specs.Endian.{big_bytes, big_number}
use Rattle.byteorder.specs.Numbers.{big_from-take, big_from-append, big_from-lt, big_number-reads_back, length-bytes_high_first}
use Rattle.nob_bytes.specs.Numbers.{number_at, field}
pub use Rattle.nob_bytes.proofs.Lists.{IsBytes, IsBytes-drop, IsBytes-take}

-- the bytes of the number that bytes are, are these bytes
abbrev pub ReadsBack : ℕ → Type 0
ReadsBack size = (bytes : List ℕ) → length bytes ≡ size → IsBytes bytes → big_bytes size (big_number size bytes) ≡ bytes

pub back_2 : ReadsBack 2
back_2 bytes len fits = be_bytes_2 bytes (big_number 2 bytes) len fits (omega arith)

pub back_4 : ReadsBack 4
back_4 bytes len fits = be_bytes_4 bytes (big_number 4 bytes) len fits (omega arith)

pub back_8 : ReadsBack 8
back_8 bytes len fits = be_bytes_8 bytes (big_number 8 bytes) len fits (omega arith)

-- the bytes of a number in front are those that it was read from
pub front_bytes : (size : ℕ) (bytes : List ℕ) → ReadsBack size → IsBytes bytes → size ≤ length bytes → big_bytes size (big_number size bytes) ≡ take size bytes
front_bytes size bytes back fits long =
    let same : big_number size (take size bytes) ≡ big_number size bytes = big_from-take 0 size size bytes (omega arith) in
    ap (big_bytes size) (sym same) ∙ back (take size bytes) (omega (arith, length-take size bytes)) (IsBytes-take size bytes fits)

-- what was taken from the front
pub record Takes (bytes text rest : List ℕ) : Type 0 where
  pub parts : bytes ≡ text ++ rest
  pub rest_fits : IsBytes rest

module _ {F : Type 0} (short : F) (size : ℕ) (bytes : List ℕ) (x : ℕ × List ℕ) where
  number_parts : number_at short size bytes ≡ Ok x → (size ≤ length bytes) × ((big_number size bytes, drop size bytes) ≡ x)
  number_parts e =
      elim (ltb (length bytes) size) as (λ b. ltb (length bytes) size ≡ b → cond b (Err short) (Ok (big_number size bytes, drop size bytes)) ≡ Ok x → (size ≤ length bytes) × ((big_number size bytes, drop size bytes) ≡ x)) [
        | true ↦ λ t h. absurd cc
        | false ↦ λ u h. (ltb-false _ _ u, cc)
      ] refl e

  -- a number that was read, and the bytes after it, are what it was read from
  pub number_takes : ReadsBack size → IsBytes bytes → number_at short size bytes ≡ Ok x → Takes bytes (big_bytes size x.0) x.1 × (x.0 < 256 ^ size)
  number_takes back fits e =
      let p = number_parts e in
      let n-is : big_number size bytes ≡ x.0 = ap (λ (q : ℕ × List ℕ). q.0) p.1 in
      let rest-is : drop size bytes ≡ x.1 = ap (λ (q : ℕ × List ℕ). q.1) p.1 in
      let front : big_bytes size x.0 ≡ take size bytes = ap (big_bytes size) (sym n-is) ∙ front_bytes size bytes back fits p.0 in (
        record { parts = sym (take-append-drop size bytes) ∙ ap (λ (y : List ℕ). y ++ drop size bytes) (sym front) ∙ ap (λ (y : List ℕ). big_bytes size x.0 ++ y) rest-is; rest_fits = rw (← rest-is) (IsBytes-drop size bytes fits) },
        rw (← n-is) (big_from-lt 0 size bytes fits),
      )

-- a number that was written is read again
pub number_again : {F : Type 0} (short : F) (size n : ℕ) (rest : List ℕ) → n < 256 ^ size → number_at short size (big_bytes size n ++ rest) ≡ Ok (n, rest)
number_again short size n rest lt =
    let len = length-bytes_high_first size n in
    let long : ltb (length (big_bytes size n ++ rest)) size ≡ false = le-ltb _ _ (omega (arith, len, length-append (big_bytes size n) rest)) in
    rw (long, big_number-reads_back size n rest lt, drop_at (big_bytes size n) rest size len) refl

-- ---- numbers at a place

-- the bytes of a number that was read are those that it was read from
pub field_bytes : (place size : ℕ) (bytes : List ℕ) → ReadsBack size → IsBytes bytes → place + size ≤ length bytes → big_bytes size (field place size bytes) ≡ take size (drop place bytes)
field_bytes place size bytes back fits h = front_bytes size (drop place bytes) back (IsBytes-drop place bytes fits) (omega (arith, length-drop place bytes))

-- more bytes behind it leave a number as it is
pub field_more : (place size : ℕ) (bytes more : List ℕ) → place + size ≤ length bytes → field place size (bytes ++ more) ≡ field place size bytes
field_more place size bytes more h =
    let low : place ≤ length bytes = omega arith in
    let parts : drop place (bytes ++ more) ≡ drop place bytes ++ more = drop-append-le place bytes more low in
    ap (big_number size) parts ∙ big_from-append size (drop place bytes) more (omega (arith, length-drop place bytes))
