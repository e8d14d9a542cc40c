-- A text spells one number, one reference and one value.
use Rattle.std.proofs.Common.{◌≡◌, ℕ, ◌^◌, ◌<◌, List, [], ◌∷◌, ◌++◌, refl, sym, ap, ◌∙◌, append_assoc, arith}
use Rattle.std.specs.Prelude.{ℤ}
use Rattle.std.specs.Int.{w64}
use Rattle.std.specs.Int.RustNames.{FitsSigned}
use Rattle.std.specs.Fmt.{decimal, signed_decimal}
use Rattle.std.proofs.lemmas.Fmt.{decimal_injective, signed_decimal_injective}
use Rattle.hex.specs.Hex.{encode_lower, IsBytes, decode_of}
use Rattle.hex.proofs.HexLemmas.{decode_of-encode_lower}
use Rattle.nob_ids.specs.Names.{IsSpace}
use Rattle.nob_ids.specs.declared.wire_rep.WireRep.{WireRep}
use Rattle.nob_pickle.specs.Trees.{Tree, unit, int, bytes, list, ref, Trees, none, more}
use Rattle.nob_pickle.specs.Shape.{tree}
use Rattle.nob_pickle.specs.declared.value.Value.{Value}
use Rattle.nob_pickle.proofs.Forests.{same_value}
use Rattle.nob_model_text.specs.Fronts.{HasNoMark, Stops, length_of_front}
use Rattle.nob_model_text.specs.Values.{rep_text, tree_text, inside_text, behind_text, value_text, nested, IsTyped, AreTyped, HasText}
use Rattle.nob_model_text.specs.Events.{IsRep}
use Rattle.nob_model_text.proofs.Parting.{parted, decimal_no_mark, signed_no_mark, hex_no_mark, small_signed, same_ok}
use Rattle.nob_model_text.proofs.Read.{by_unit, by_int, by_bytes, by_rep, by_list, by_end, stops_behind}

-- ---- fronts

-- a text is parted at its first mark in one way
pub one_front : (front other rest left : List ℕ) → HasNoMark front → HasNoMark other → Stops rest → Stops left → front ++ rest ≡ other ++ left → (front ≡ other) × (rest ≡ left)
one_front front other rest left none_here none_there stops halts same =
    let here = parted (front ++ rest) front rest (length_of_front (front ++ rest)) refl none_here stops refl in
    let there = parted (front ++ rest) other left (length_of_front (front ++ rest)) refl none_there halts same in
    (sym here.0 ∙ there.0, sym here.1 ∙ there.1)

-- ---- numbers, bytes and references

pub one_number : (n m : ℕ) (rest left : List ℕ) → n < 2 ^ 64 → m < 2 ^ 64 → Stops rest → Stops left → decimal n ++ rest ≡ decimal m ++ left → (n ≡ m) × (rest ≡ left)
one_number n m rest left small little stops halts same =
    let parts = one_front (decimal n) (decimal m) rest left (decimal_no_mark n small) (decimal_no_mark m little) stops halts same in
    (decimal_injective n m small little parts.0, parts.1)

pub one_space : (n m : ℕ) (rest left : List ℕ) → IsSpace n → IsSpace m → Stops rest → Stops left → decimal n ++ rest ≡ decimal m ++ left → (n ≡ m) × (rest ≡ left)
one_space n m rest left small little stops halts same = one_number n m rest left (omega (arith, small.1)) (omega (arith, little.1)) stops halts same

one_signed : (n m : ℤ) (rest left : List ℕ) → FitsSigned w64 n → FitsSigned w64 m → Stops rest → Stops left → signed_decimal n ++ rest ≡ signed_decimal m ++ left → (n ≡ m) × (rest ≡ left)
one_signed n m rest left small little stops halts same =
    let parts = one_front (signed_decimal n) (signed_decimal m) rest left (signed_no_mark n small) (signed_no_mark m little) stops halts same in
    (signed_decimal_injective n m (small_signed n small) (small_signed m little) parts.0, parts.1)

-- bytes of one text in hexadecimal digits are the same
pub same_hex : (bs cs : List ℕ) → IsBytes bs → IsBytes cs → encode_lower bs ≡ encode_lower cs → bs ≡ cs
same_hex bs cs fits suits same = same_ok (decode_of (encode_lower bs)) bs cs (decode_of-encode_lower bs fits) (ap decode_of same ∙ decode_of-encode_lower cs suits)

pub one_hex : (bs cs rest left : List ℕ) → IsBytes bs → IsBytes cs → Stops rest → Stops left → encode_lower bs ++ rest ≡ encode_lower cs ++ left → (bs ≡ cs) × (rest ≡ left)
one_hex bs cs rest left fits suits stops halts same =
    let parts = one_front (encode_lower bs) (encode_lower cs) rest left (hex_no_mark bs) (hex_no_mark cs) stops halts same in
    (same_hex bs cs fits suits parts.0, parts.1)

tail_is : (a b : ℕ) (xs ys : List ℕ) → a ∷ xs ≡ b ∷ ys → xs ≡ ys
tail_is a b xs ys e = cc

head_is : (a b : ℕ) (xs ys : List ℕ) → a ∷ xs ≡ b ∷ ys → a ≡ b
head_is a b xs ys e = cc

same_rep : (r s : WireRep) → r.owner ≡ s.owner → r.index ≡ s.index → r ≡ s
same_rep r s owner index =
    let made : ℕ → ℕ → WireRep = λ o i. record { owner = o; index = i } in
    ap (λ (o : ℕ). made o r.index) owner ∙ ap (λ (i : ℕ). made s.owner i) index

pub one_rep : (r s : WireRep) (rest left : List ℕ) → IsRep r → IsRep s → Stops rest → Stops left → rep_text r ++ rest ≡ rep_text s ++ left → (r ≡ s) × (rest ≡ left)
one_rep r s rest left is was stops halts same =
    let whole = sym (append_assoc (decimal r.owner) (46 ∷ decimal r.index) rest) ∙ same ∙ append_assoc (decimal s.owner) (46 ∷ decimal s.index) left in
    let owner = one_space r.owner s.owner (46 ∷ (decimal r.index ++ rest)) (46 ∷ (decimal s.index ++ left)) is.0 was.0 refl refl whole in
    let index = one_number r.index s.index rest left is.1 was.1 stops halts (tail_is _ _ _ _ owner.1) in
    (same_rep r s owner.0 index.0, index.1)

-- ---- values

-- two trees and two rests are the same
abbrev Same : Tree → List ℕ → List ℕ → Tree → Type 0
Same t rest left u = (t ≡ u) × (rest ≡ left)

abbrev SameAll : Trees → List ℕ → List ℕ → Trees → Type 0
SameAll ts rest left us = (ts ≡ us) × (rest ≡ left)

comma : (xs ys : List ℕ) → 93 ∷ xs ≡ 44 ∷ ys → ⊥
comma xs ys e = let first = head_is 93 44 xs ys e in omega (arith, first)

more_is : (t u : Tree) (ts us : Trees) → t ≡ u → ts ≡ us → more t ts ≡ more u us
more_is t u ts us one all = ap (λ (x : Tree). more x ts) one ∙ ap (λ (xs : Trees). more u xs) all

mutual
  one_tree : (t u : Tree) (rest left : List ℕ) → IsTyped t → IsTyped u → Stops rest → Stops left → tree_text t ++ rest ≡ tree_text u ++ left → Same t rest left u
  one_tree unit u rest left typed typing stops halts same = by_unit (Same unit rest left) u rest left same (λ e. (refl, e))
  one_tree (int n) u rest left typed typing stops halts same =
      by_int (Same (int n) rest left) u (signed_decimal n ++ rest) left typing same (λ m fits e. let parts = one_signed n m rest left typed fits stops halts e in (ap int parts.0, parts.1))
  one_tree (bytes bs) u rest left typed typing stops halts same =
      by_bytes (Same (bytes bs) rest left) u (encode_lower bs ++ rest) left typing same (λ cs fits e. let parts = one_hex bs cs rest left typed fits stops halts e in (ap bytes parts.0, parts.1))
  one_tree (list ts) u rest left typed typing stops halts same =
      by_list (Same (list ts) rest left) u (nested u) (inside_text ts ++ rest) left typing (omega arith) same (λ us fits deep e. let parts = one_inside ts us rest left typed fits e in (ap list parts.0, parts.1))
  one_tree (ref r) u rest left typed typing stops halts same =
      by_rep (Same (ref r) rest left) u (rep_text r ++ rest) left typing same (λ s owner index e. let parts = one_rep r s rest left typed (owner, index) stops halts e in (ap ref parts.0, parts.1))

  one_inside : (ts us : Trees) (rest left : List ℕ) → AreTyped ts → AreTyped us → inside_text ts ++ rest ≡ inside_text us ++ left → SameAll ts rest left us
  one_inside none us rest left typed typing same = let end = by_end us (93 ∷ rest) rest left refl same in (sym end.0, end.1)
  one_inside (more t ts) none rest left typed typing same = let end = by_end (more t ts) (93 ∷ left) left rest refl (sym same) in (end.0, sym end.1)
  one_inside (more t ts) (more u us) rest left typed typing same =
      let first = one_tree t u (behind_text ts ++ rest) (behind_text us ++ left) typed.0 typing.0 (stops_behind ts rest) (stops_behind us left) (sym (append_assoc (tree_text t) (behind_text ts) rest) ∙ same ∙ append_assoc (tree_text u) (behind_text us) left) in
      let others = one_behind ts us rest left typed.1 typing.1 first.1 in
      (more_is t u ts us first.0 others.0, others.1)

  one_behind : (ts us : Trees) (rest left : List ℕ) → AreTyped ts → AreTyped us → behind_text ts ++ rest ≡ behind_text us ++ left → SameAll ts rest left us
  one_behind none none rest left typed typing same = (refl, tail_is _ _ _ _ same)
  one_behind none (more u us) rest left typed typing same = absurd (comma _ _ same)
  one_behind (more t ts) none rest left typed typing same = absurd (comma _ _ (sym same))
  one_behind (more t ts) (more u us) rest left typed typing same =
      let first = one_tree t u (behind_text ts ++ rest) (behind_text us ++ left) typed.0 typing.0 (stops_behind ts rest) (stops_behind us left) (sym (append_assoc (tree_text t) (behind_text ts) rest) ∙ tail_is _ _ _ _ same ∙ append_assoc (tree_text u) (behind_text us) left) in
      let others = one_behind ts us rest left typed.1 typing.1 first.1 in
      (more_is t u ts us first.0 others.0, others.1)

-- ---- whole texts

-- what is left of a whole text is nothing
pub with_none : (xs ys : List ℕ) → xs ≡ ys → xs ++ [] ≡ ys ++ []
with_none xs ys same = ap (λ (zs : List ℕ). zs ++ []) same

pub number_is : (n m : ℕ) → n < 2 ^ 64 → m < 2 ^ 64 → decimal n ≡ decimal m → n ≡ m
number_is n m small little same = decimal_injective n m small little same

pub space_is : (n m : ℕ) → IsSpace n → IsSpace m → decimal n ≡ decimal m → n ≡ m
space_is n m small little same = decimal_injective n m (omega (arith, small.1)) (omega (arith, little.1)) same

pub rep_is : (r s : WireRep) → IsRep r → IsRep s → rep_text r ≡ rep_text s → r ≡ s
rep_is r s is was same = (one_rep r s [] [] is was tt tt (with_none _ _ same)).0

pub value_is : (v w : Value) → HasText v → HasText w → value_text v ≡ value_text w → v ≡ w
value_is v w has had same = same_value v w (one_tree (tree v) (tree w) [] [] has.0 had.0 tt tt (with_none _ _ same)).0
