-- What an answer tells of the choices before it.
use Rattle.std.proofs.Common.{◌≡◌, Result, Ok, Err, refl}
pub use Rattle.nob_pickle.proofs.Choices.{guard_ok, ended_ok, choice}
use Rattle.nob_item.specs.declared.fault.ItemFault.{ItemFault}
use Rattle.nob_item.specs.declared.fault.ItemError.{ItemError}
use Rattle.nob_item.specs.declared.fault.ItemError.TheVariants as errors
use Rattle.nob_item.specs.Judging.{◌>>=◌, Fails}

-- the value of a step that did not fail
pub bind_ok : {A B : Type 0} (r : Result A ItemFault) (f : A → Result B ItemFault) (y : B) → (r >>= f) ≡ Ok y → (x : A) × (r ≡ Ok x) × (f x ≡ Ok y)
bind_ok (Ok x) f y e = (x, refl, e)
bind_ok (Err d) f y e = absurd cc

abbrev pub done : {A : Type 0} → A → Result A ItemFault
done x = Ok x

pub ok_is : {A : Type 0} (x y : A) → done x ≡ done y → x ≡ y
ok_is x y e = cc

pub same_ok : {A : Type 0} (x y : A) → x ≡ y → done x ≡ done y
same_ok x y e = cc

-- an error isn't the value
pub no_error : {A : Type 0} (r : Result A ItemFault) (x : A) (fault : ItemFault) → r ≡ Ok x → r ≡ Err fault → ⊥
no_error r x fault e f = cc

-- an error that comes in place of one value comes in place of any
pub fails_any : {A B : Type 0} (x : A) (y : B) (error : ItemError) → Fails error (done x) → Fails error (done y)
fails_any x y (errors.Fault fault) e = absurd cc
fails_any x y errors.OutOfMemory e = tt
