-- Numbers as they are read and written.
use Rattle.std.proofs.Common.{◌≡◌, ℕ, ◌^◌, ◌<◌, List, ◌++◌, Ok}
use Rattle.byteorder.specs.Endian.{big_bytes}
use Rattle.nob_bytes.proofs.Numbers as numbers
pub use Rattle.nob_bytes.proofs.Lists.{IsBytes, IsBytes-drop, IsBytes-take}
pub use Rattle.nob_bytes.proofs.Numbers.{ReadsBack, back_2, back_4, back_8, Takes}
use Rattle.nob_pickle.specs.declared.fault.PickleFault.TheVariants.{Short}
use Rattle.nob_pickle.specs.Reading.{number_at}

pub number_takes : (size : ℕ) (bytes : List ℕ) (n : ℕ) (rest : List ℕ) → ReadsBack size → IsBytes bytes → number_at size bytes ≡ Ok (n, rest) → Takes bytes (big_bytes size n) rest × (n < 256 ^ size)
number_takes size bytes n rest back fits e = numbers.number_takes Short size bytes (n, rest) back fits e

pub number_again : (size n : ℕ) (rest : List ℕ) → n < 256 ^ size → number_at size (big_bytes size n ++ rest) ≡ Ok (n, rest)
number_again size n rest lt = numbers.number_again Short size n rest lt
