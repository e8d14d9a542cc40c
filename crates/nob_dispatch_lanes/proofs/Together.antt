-- What ends know together, with one end more.
use Rattle.std.proofs.Common.{◌≡◌, ◌+◌, List, [], ◌∷◌, ◌++◌, sym, ap, ◌∙◌, append_assoc, arith}
use Rattle.std.proofs.lemmas.List.{append-nil}
use Rattle.std.specs.List.{AllByRecursion}
use Rattle.nob_dispatch_lanes.specs.declared.ends.LanePut.{LanePut}
use Rattle.nob_dispatch_lanes.specs.declared.ends.LaneTake.{LaneTake}
use Rattle.nob_dispatch_lanes.specs.Ends.{parts_of, given_by, got_by}
use Rattle.nob_dispatch_lanes.specs.Lanes.{all_given, all_got, getting_parts, giving_parts}

pub getting_parts_push : {X : Type 0} (ends : List (LaneTake X)) (end : LaneTake X) → getting_parts (ends ++ end ∷ []) ≡ getting_parts ends + parts_of end.pass
getting_parts_push [] end = omega arith
getting_parts_push (e ∷ es) end = omega (arith, getting_parts_push es end)

pub giving_parts_push : {X : Type 0} (ends : List (LanePut X)) (end : LanePut X) → giving_parts (ends ++ end ∷ []) ≡ giving_parts ends + parts_of end.pass
giving_parts_push [] end = omega arith
giving_parts_push (e ∷ es) end = omega (arith, giving_parts_push es end)

pub all_got_push : {X : Type 0} (ends : List (LaneTake X)) (end : LaneTake X) → all_got (ends ++ end ∷ []) ≡ all_got ends ++ got_by end.pass
all_got_push [] end = append-nil (got_by end.pass)
all_got_push (e ∷ es) end = ap (λ (xs : List _). got_by e.pass ++ xs) (all_got_push es end) ∙ sym (append_assoc (got_by e.pass) (all_got es) (got_by end.pass))

pub all_given_push : {X : Type 0} (ends : List (LanePut X)) (end : LanePut X) → all_given (ends ++ end ∷ []) ≡ all_given ends ++ given_by end.pass
all_given_push [] end = append-nil (given_by end.pass)
all_given_push (e ∷ es) end = ap (λ (xs : List _). given_by e.pass ++ xs) (all_given_push es end) ∙ sym (append_assoc (given_by e.pass) (all_given es) (given_by end.pass))

-- where nothing was got, and one end more got nothing, nothing was got
pub none_got_push : {X : Type 0} (ends : List (LaneTake X)) (end : LaneTake X) → all_got ends ≡ [] → got_by end.pass ≡ [] → all_got (ends ++ end ∷ []) ≡ []
none_got_push ends end none nothing = all_got_push ends end ∙ ap (λ (xs : List _). xs ++ got_by end.pass) none ∙ nothing

-- where nothing was given, and one end more gave nothing, nothing was given
pub none_given_push : {X : Type 0} (ends : List (LanePut X)) (end : LanePut X) → all_given ends ≡ [] → given_by end.pass ≡ [] → all_given (ends ++ end ∷ []) ≡ []
none_given_push ends end none nothing = all_given_push ends end ∙ ap (λ (xs : List _). xs ++ given_by end.pass) none ∙ nothing

pub all_push : {X : Type 0} (P : X → Type 0) (xs : List X) (x : X) → AllByRecursion P xs → P x → AllByRecursion P (xs ++ x ∷ [])
all_push P [] x all p = (p, tt)
all_push P (y ∷ ys) x all p = (all.0, all_push P ys x all.1 p)
