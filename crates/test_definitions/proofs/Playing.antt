-- What was found in a line.
use Rattle.std.proofs.Common.{◌≡◌, Option, Some, Result, Ok, Err, OnOk, subst}
use Rattle.std.specs.Prelude.{IfSome}

-- what is so of what was found
pub found_so : {A : Type 0} (P : A → Type 0) (found : Option A) (x : A) → found ≡ Some x → IfSome found P → P x
found_so P found x is so = subst (λ (o : Option _). IfSome o P) is so

-- what is so where an answer came is so there
pub on_ok_so : {A E P Q : Type 0} (r : Result A E) → (P → Q) → OnOk r P → OnOk r Q
on_ok_so (Ok a) so p = so p
on_ok_so (Err e) so p = tt
