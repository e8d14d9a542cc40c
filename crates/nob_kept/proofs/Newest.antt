-- The newest receipt of a seat.
use Rattle.std.proofs.Common.{◌≡◌, inl, inr, ◌+◌, ◌-◌, ◌<◌, List, [], ◌∷◌, ◌++◌, length, reverse, take, Option, Some, None, IfSome, MatchOption, slice_get, get_or, refl, sym, ap, ◌∙◌, arith}
use Prim.Native.Nat.{suc}
use Rattle.std.proofs.lemmas.List.{take_all, take_more, reverse-append}
use Rattle.std.proofs.lemmas.Option.{slice_get_within, get_or_from_slice_get}
use Rattle.nob_past.specs.Lists.{Listed}
use Rattle.nob_kept.specs.declared.receipt.Receipt.{Receipt}
use Rattle.nob_kept.specs.Seats.{newest, HasNewest}

-- the last of a list is the newest of the list turned round
newest_last : (xs : List Receipt) (x : Receipt) → slice_get xs (length xs - 1) ≡ Some x → newest (reverse xs) ≡ Some x
newest_last xs x is =
    let i = length xs - 1 in
    let within : length xs - 1 < length xs = slice_get_within xs i x is in
    let read : get_or xs i x ≡ x = get_or_from_slice_get xs i x x is in
    let all : take (length xs - 1 + 1) xs ≡ xs = take_all (length xs - 1 + 1) xs (omega (arith, within)) in
    let parts : xs ≡ take (length xs - 1) xs ++ x ∷ [] = sym all ∙ take_more xs i x within ∙ ap (λ (y : Receipt). take (length xs - 1) xs ++ y ∷ []) read in
    ap newest (ap reverse parts ∙ reverse-append (take (length xs - 1) xs) (x ∷ []))

-- a list of as many items as were let go has none, where the newest is there
none_there : (list : Listed Receipt) → HasNewest list → list.gone ≡ length list.items → list.items ≡ []
none_there list has all = elim list.items as (λ xs. list.items ≡ xs → xs ≡ []) [
  | [] ↦ λ is. refl
  | (x ∷ xs) ↦ λ is.
      let long : length list.items ≡ suc (length xs) = ap length is in
      elim has as (λ h. (x ∷ xs) ≡ []) [ inl zero_gone ↦ absurd (omega (arith, all, long, zero_gone)) | inr fewer ↦ absurd (omega (arith, all, fewer)) ]
] refl

-- the newest one as a list's last is read
pub newest_read : {B : Type 0} (at : B → Receipt) (o : Option B) (list : Listed Receipt) → HasNewest list
    → IfSome o (λ b. slice_get list.items (length list.items - 1) ≡ Some (at b)) → (o ≡ None → list.gone ≡ length list.items)
    → MatchOption o (newest (reverse list.items) ≡ None) (λ b. newest (reverse list.items) ≡ Some (at b))
newest_read at None list has some none = ap (λ (ys : List Receipt). newest (reverse ys)) (none_there list has (none refl))
newest_read at (Some b) list has some none = newest_last list.items (at b) some
