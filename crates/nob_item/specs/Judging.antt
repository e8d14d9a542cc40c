-- What a call answers, and the tests of numbers.
use Rattle.std.specs.Prelude.{◌≡◌, ℕ, ◌^◌, ◌&&◌, Bool, true, false, IsTrue, nat_le, Result, Ok, Err}
use Rattle.nob_pickle.specs.declared.fault.PickleFault.{PickleFault}
use Rattle.nob_pickle.specs.declared.fault.PickleError.{PickleError}
use Rattle.nob_pickle.specs.declared.fault.PickleError.TheVariants as pickle_errors
use Rattle.nob_item.specs.declared.fault.ItemFault.{ItemFault}
use Rattle.nob_item.specs.declared.fault.ItemFault.TheVariants as faults
use Rattle.nob_item.specs.declared.fault.ItemError.{ItemError}
use Rattle.nob_item.specs.declared.fault.ItemError.TheVariants as errors

-- the next step, unless there is a fault already
infixl 10 ◌>>=◌
abbrev pub ◌>>=◌ : {A B : Type 0} → Result A ItemFault → (A → Result B ItemFault) → Result B ItemFault
(Ok x) >>= f = f x
(Err e) >>= f = Err e

-- whether a fault is the value's: all others are judged without memory
abbrev pub is_of_value : ItemFault → Bool
is_of_value faults.Short = false
is_of_value faults.Tag = false
is_of_value (faults.Value fault) = true
is_of_value faults.Number = false
is_of_value faults.Status = false
is_of_value faults.Trailing = false

-- memory may run out where there is no fault, or where it is the value's: any other fault comes first
abbrev pub MayRunOut : {Y : Type 0} → Result Y ItemFault → Type 0
MayRunOut (Ok y) = Unit {0}
MayRunOut (Err fault) = IsTrue (is_of_value fault)

-- this error is the one that was to come, or memory ran out where it may
abbrev pub Fails : {Y : Type 0} → ItemError → Result Y ItemFault → Type 0
Fails errors.OutOfMemory wanted = MayRunOut wanted
Fails (errors.Fault fault) wanted = wanted ≡ Err fault

-- what was answered, seen by view, is what was to come, or memory ran out where it may
abbrev pub Gives : {X Y : Type 0} → (X → Y) → Result X ItemError → Result Y ItemFault → Type 0
Gives view (Ok x) wanted = wanted ≡ Ok (view x)
Gives view (Err e) wanted = Fails e wanted

-- the same for a call that takes no memory
abbrev pub Sees : {X Y : Type 0} → (X → Y) → Result X ItemFault → Result Y ItemFault → Type 0
Sees view (Ok x) wanted = wanted ≡ Ok (view x)
Sees view (Err fault) wanted = wanted ≡ Err fault

-- what is asked of a pickle, asked of an item: its refusal is I3
abbrev pub of_value : {A : Type 0} → Result A PickleFault → Result A ItemFault
of_value (Ok x) = Ok x
of_value (Err fault) = Err (faults.Value fault)

-- a pickle's error as an item's
abbrev pub of_error : PickleError → ItemError
of_error (pickle_errors.Fault fault) = errors.Fault (faults.Value fault)
of_error pickle_errors.OutOfMemory = errors.OutOfMemory

-- whether a call may have this number
abbrev pub is_call_number : ℕ → Bool
is_call_number call = nat_le 1 call && nat_le call (2 ^ 48)

-- whether an item may have this number
abbrev pub is_item_number : ℕ → Bool
is_item_number item = nat_le 1 item && nat_le item (2 ^ 40)

-- whether there is such a status
abbrev pub is_status : ℕ → Bool
is_status status = nat_le status 3
