-- What was refused, in numbers.
use Rattle.std.proofs.Common.{◌≡◌, ℕ, Bool, false, List, Result, IsOk, refl, sym, ap, subst}
use Rattle.nob_pickle.specs.declared.fault.PickleFault.{PickleFault}
use Rattle.nob_pickle.specs.declared.fault.PickleFault.TheVariants as pickles
use Rattle.nob_pickle.specs.declared.fault.PickleError.{PickleError}
use Rattle.nob_pickle.specs.declared.fault.PickleError.TheVariants as errors
use Rattle.nob_pickle.specs.declared.value.Value.{Value}
use Rattle.nob_pickle.specs.Limits.{Fits}
use Rattle.nob_pickle.specs.Writing.{Fails, pickle_of}
use Rattle.nob_pickle.proofs.Whole.{fits_pickle}
use Rattle.nob_host_space.specs.Numbers.{is_wanted, pickle_fault_number, pickle_number}
use Rattle.nob_host_space.specs.Asked.{Pickles, pickle_status, pickle_bytes}

-- no fault has the number of a want of memory
unwanted : (fault : PickleFault) → is_wanted (pickle_fault_number fault) ≡ false
unwanted pickles.Short = refl
unwanted pickles.Tag = refl
unwanted pickles.Bytes = refl
unwanted pickles.Count = refl
unwanted pickles.Depth = refl
unwanted pickles.Trailing = refl
unwanted pickles.Space = refl
unwanted pickles.TooBig = refl

-- no pickle was made of a value
pub pickles_err : (error : PickleError) (bytes : List ℕ) (value : Value) → Fails error (pickle_of value) → (error ≡ errors.OutOfMemory → Fits value)
    → Pickles (is_wanted (pickle_number error)) (pickle_number error) bytes bytes (pickle_of value)
pickles_err (errors.Fault fault) bytes value is fits = subst (λ (b : Bool). Pickles b (pickle_fault_number fault) bytes bytes (pickle_of value)) (sym (unwanted fault))
    (ap pickle_status (sym is), ap (λ (made : Result (List ℕ) PickleFault). pickle_bytes made bytes) (sym is))
pickles_err errors.OutOfMemory bytes value is fits = (refl, subst IsOk (sym (fits_pickle value (fits refl))) refl)
